-- Theorems about system files and plans whose suppositions would stand in proofs alone, said closed of every input: how a file is read and comes back, what
-- is judged at its end, the rule byte; and that
-- what a table held changes no plan, and requests 2026-09 and 2026-13 of every file.
use Rattle.std.specs.Prelude.{ℕ, ◌≤◌, ◌<◌, List, Bool, false, ◌≡◌, ◌↔◌, get_or}
use Rattle.system.specs.declared.System.{System}
use Rattle.system.specs.Outcome.{Answer, outcome_of}
use Rattle.system.specs.Layout.{read_card, read_file, opened}
use Rattle.system.specs.Card.{card_of}
use Rattle.partition.specs.Lent.{Lent}
use Rattle.partition.specs.Plain.{type_no, LongEnough, LimitsOut, CardOut}
use Rattle.writer.specs.Meaning.{file_with, file_out, Given, GivenOneKind, ReplicasFit}
use Rattle.writer.specs.Begun.{FieldsWithin, JudgedAtEnd, FieldByField}
use Rattle.writer.specs.RuleByte.{CardRuleByte, RuleApart, CardsApart}
use Rattle.planner.specs.declared.Plan.{Plan}
use Rattle.planner.specs.declared.EngineRecord.{EngineRecord}
use Rattle.planner.specs.MixedDemands.{PlanCall, ListCall}
use Rattle.cases.specs.Supposed.{ReleasesGiven}
use Rattle.cases.specs.Worked.{SharesInBytes, AddsInBytes}

-- System files

-- a list of bytes
abbrev pub OfBytes : List ℕ → Type 0
OfBytes file = (i : ℕ) → get_or file i 0 < 256

-- "A system file is read by the layout in 01": of every list of bytes and every card, of one kind of engine or two, it is read as that card exactly where it
-- is one of its files byte by byte and the card
-- keeps the limits; whichever zero tags 3 it has
abbrev pub CardsExactly : Type 0
CardsExactly = (file : List ℕ) (y : System) → OfBytes file → (read_card file ≡ opened y) ↔ (((told : ℕ → Bool) × (file ≡ file_with told y)) × CardOut y)

-- the same where one kind is wanted
abbrev pub FilesExactly : Type 0
FilesExactly = (file : List ℕ) (y : System) → OfBytes file → (read_file file ≡ opened y) ↔ (((told : ℕ → Bool) × (file ≡ file_with told y)) × LimitsOut y)

-- "byte equality holds for files without a zero tag 3", and for no others
abbrev pub ComeBackAlways : Type 0
ComeBackAlways = (told : ℕ → Bool) (y : System) → (file_out y ≡ file_with told y) ↔ ((t : ℕ) → 1 ≤ t → t ≤ y.typecount → (type_no y t).data ≡ 0 → told t ≡ false)

-- which systems some file gives, of one kind of engine or two, and of one
abbrev pub GivenAlways : Type 0
GivenAlways = (y : System) → (Given y ↔ (CardOut y × ReplicasFit y)) × (GivenOneKind y ↔ (LimitsOut y × ReplicasFit y))

-- what is judged at the end of every file of which each field keeps its limits, and that it is a beginning after each of its fields
abbrev pub JudgedAlways : Type 0
JudgedAlways = (told : ℕ → Bool) (y : System) → FieldsWithin y → JudgedAtEnd told y

abbrev pub BegunAlways : Type 0
BegunAlways = (told : ℕ → Bool) (y : System) → FieldsWithin y → FieldByField told y

-- a card within the limits is such a file's
abbrev pub CardsWithin : Type 0
CardsWithin = (y : System) → CardOut y → FieldsWithin y

-- the rule byte, of every card that bytes read as, and of every two files that differ in it alone
abbrev pub RuleAlways : Type 0
RuleAlways = (file : List ℕ) (y : System) → OfBytes file → read_card file ≡ opened y → CardRuleByte file y

abbrev pub ApartAlways : Type 0
ApartAlways = (own_file shared_file : List ℕ) → OfBytes own_file → OfBytes shared_file → RuleApart own_file shared_file → CardsApart own_file shared_file

-- Plans

-- "What the table held before changes no answer": two plans of any file, of one kind of engine or two, each over a table long enough, hand out the same; and
-- two into the same list leave it the same
abbrev pub PlansAlike : Type 0
PlansAlike =
    (file : List ℕ) (table other : Lent) (room : ℕ) (r s : Plan) (after last : Lent) → ((y : System) → read_card file ≡ opened y → LongEnough y table × LongEnough y other)
    → PlanCall (card_of (read_card file)) table room r after → PlanCall (card_of (read_card file)) other room s last
    → (outcome_of r.answer ≡ outcome_of s.answer) × (r.used ≡ s.used) × (r.typecount ≡ s.typecount) × (r.numbers ≡ s.numbers) × (r.loads ≡ s.loads)

abbrev pub ListsAlike : Type 0
ListsAlike =
    (file : List ℕ) (table other : Lent) (list : List EngineRecord) (a b : Answer) (after last : Lent) (l m : List EngineRecord)
    → ((y : System) → read_card file ≡ opened y → LongEnough y table × LongEnough y other)
    → ListCall (card_of (read_card file)) table list a after l → ListCall (card_of (read_card file)) other list b last m → (outcome_of a ≡ outcome_of b) × (l ≡ m)

-- the two rules, of every two files that differ in the rule byte alone; two releases and both, of every three files; and every card has its releases
abbrev pub SharesAlways : Type 0
SharesAlways = (own_file shared_file : List ℕ) → OfBytes own_file → OfBytes shared_file → RuleApart own_file shared_file → SharesInBytes own_file shared_file

abbrev pub AddsAlways : Type 0
AddsAlways = (first_file second_file both_file : List ℕ) → AddsInBytes first_file second_file both_file

abbrev pub ReleasesAlways : Type 0
ReleasesAlways = (y : System) → ReleasesGiven y
