-- Theorems at the end of their chains, said a second time of every input they are about: each statement that is shown is closed, so that nothing can be
-- supposed but what stands in it.
-- What is supposed of loads, and every bound, is written in numbers and not in the words of partition/specs/Releases and table/specs/Releases: a word made
-- weaker there, or a theorem that asks for more, is refused here.
-- Words that stay: `Serving`, `BothReleases` and `SameButRule`, which are given elsewhere (`ServingGiven`; `ReleasesGiven` of Supposed; `CardRuleByte` of
-- writer), and `Fewest`, `LongEnough`, `IsTrue`, `FilledMeans`, plain words themselves.
use Rattle.std.specs.Prelude.{ℕ, ◌+◌, ◌-◌, ◌*◌, ◌≤◌, ◌<◌, List, [], ◌∷◌, true, ◌≡◌, ◌↔◌, ◌⊎◌, length, get_or}
use Rattle.system.specs.declared.System.{System}
use Rattle.system.specs.Outcome.{Answer, Outcome, accepted, refused, from_input, from_state, outcome_of}
use Rattle.system.specs.Layout.{read_file, opened}
use Rattle.partition.specs.Assignment.{Assignment, among}
use Rattle.partition.specs.OwnWords.{no_type}
use Rattle.partition.specs.ForSystem.{row_for}
use Rattle.partition.specs.Lent.{Lent}
use Rattle.partition.specs.Plain.{ceiling_no, columns_out, LongEnough, Partition, Impossible, record_no}
use Rattle.partition.specs.Releases.{Serving, Fewest, BothReleases, SameButRule}
use Rattle.table.specs.Meaning.{count_in, column_no, FilledMeans}
use Rattle.table.specs.Document01.{filled01, Recovered01}
use Rattle.planner.specs.declared.Plan.{Plan}
use Rattle.planner.specs.declared.EngineRecord.{EngineRecord}
use Rattle.planner.specs.Demands.{PlanPromises, ListPromises, entry_no}
use Rattle.board.specs.declared.Board.{Board}
use Rattle.board.specs.Boards.{engines_of}
use Rattle.board.specs.Calls.{Result}
use Rattle.board.specs.Words.{count_at, stands_no, plus_one, FitsOut, used_records, EngineIn, serving_to, serving_all, BelowCeiling, TakesType, IsTrue}
use Rattle.board.specs.Meaning.{AdmitPromises, SeatPromises, RepackPromises}

-- Engines in service

-- of every system, every list of numbers from 1 to m in which no two places have the same number
abbrev pub ServingGiven : Type 0
ServingGiven =
    (y : System) (es : List ℕ) → ((i j : ℕ) → i < length es → j < length es → get_or es i 0 ≡ get_or es j 0 → i ≡ j) → ((i : ℕ) → i < length es → (1 ≤ get_or es i 0) × (get_or es i 0 ≤ y.engines))
    → Serving y es

-- Request 2026-09, "Two releases on one card", of a system and a list of its engines

-- of every load of six counts, none above its ceiling: its lowest yes row, where it is not past the engines, is the fewest engines, and nothing else is; it
-- is past them exactly where no partition exists
abbrev pub FewestOn : System → List ℕ → Type 0
FewestOn y es =
    (x : List ℕ) → length x ≡ 6 → ((i : ℕ) → get_or x i 0 ≤ (get_or y.types i no_type).ceiling)
    → (row_for y es x ≤ length es → Fewest y (λ (e : ℕ). among es e ≡ true) (λ (t : ℕ). get_or x (t - 1) 0) (row_for y es x))
    × ((r : ℕ) → Fewest y (λ (e : ℕ). among es e ≡ true) (λ (t : ℕ). get_or x (t - 1) 0) r → row_for y es x ≡ r)
    × ((length es < row_for y es x) ↔ Impossible y (λ (e : ℕ). among es e ≡ true) (λ (t : ℕ). get_or x (t - 1) 0))

-- of every two loads of six counts and the load with their sums, none above its ceiling, whose rows together are not past the engines: the row of both is at
-- most the sum of the two, and neither of the two is above it
abbrev pub RowsAddOn : System → List ℕ → Type 0
RowsAddOn y es =
    (a b both : List ℕ) → length a ≡ 6 → length b ≡ 6 → length both ≡ 6 → ((i : ℕ) → get_or both i 0 ≡ get_or a i 0 + get_or b i 0) → ((i : ℕ) → get_or both i 0 ≤ (get_or y.types i no_type).ceiling)
    → row_for y es a + row_for y es b ≤ length es
    → (row_for y es both ≤ row_for y es a + row_for y es b) × (row_for y es a ≤ row_for y es both) × (row_for y es b ≤ row_for y es both)

-- the same over single instances: both have their fewest engines, within these bounds
abbrev pub FewestAddOn : System → List ℕ → Type 0
FewestAddOn y es =
    (a b both : List ℕ) (first second : ℕ) → length a ≡ 6 → length b ≡ 6 → length both ≡ 6 → ((i : ℕ) → get_or both i 0 ≡ get_or a i 0 + get_or b i 0) → ((i : ℕ) → get_or both i 0 ≤ (get_or y.types i no_type).ceiling)
    → Fewest y (λ (e : ℕ). among es e ≡ true) (λ (t : ℕ). get_or a (t - 1) 0) first → Fewest y (λ (e : ℕ). among es e ≡ true) (λ (t : ℕ). get_or b (t - 1) 0) second → first + second ≤ length es
    → (together : ℕ) × Fewest y (λ (e : ℕ). among es e ≡ true) (λ (t : ℕ). get_or both (t - 1) 0) together × (together ≤ first + second) × (first ≤ together) × (second ≤ together)

-- Of every file that opens and every list of its engines in service

abbrev pub RowsAreFewest : Type 0
RowsAreFewest = (file : List ℕ) (y : System) (es : List ℕ) → read_file file ≡ opened y → Serving y es → FewestOn y es

abbrev pub LoadsAdd : Type 0
LoadsAdd = (file : List ℕ) (y : System) (es : List ℕ) → read_file file ≡ opened y → Serving y es → RowsAddOn y es

abbrev pub InstancesAdd : Type 0
InstancesAdd = (file : List ℕ) (y : System) (es : List ℕ) → read_file file ≡ opened y → Serving y es → FewestAddOn y es

-- and of every table filled for rows 0 to r, r being at most m, read at the column of each load: no word for a lowest yes row is needed, since it is the row
-- that the table holds
abbrev pub TablesAdd : Type 0
TablesAdd =
    (file : List ℕ) (y : System) (r : ℕ) (table after : Lent) → read_file file ≡ opened y → r ≤ y.engines → FilledMeans y r table after
    → (a b both : List ℕ) → length a ≡ 6 → length b ≡ 6 → length both ≡ 6 → ((i : ℕ) → get_or both i 0 ≡ get_or a i 0 + get_or b i 0) → ((i : ℕ) → get_or both i 0 ≤ (get_or y.types i no_type).ceiling)
    → get_or after.rows (column_no y (λ (t : ℕ). get_or a (t - 1) 0)) 0 + get_or after.rows (column_no y (λ (t : ℕ). get_or b (t - 1) 0)) 0 ≤ r
    → (
    get_or after.rows (column_no y (λ (t : ℕ). get_or both (t - 1) 0)) 0
    ≤ get_or after.rows (column_no y (λ (t : ℕ). get_or a (t - 1) 0)) 0 + get_or after.rows (column_no y (λ (t : ℕ). get_or b (t - 1) 0)) 0
    )
    × (get_or after.rows (column_no y (λ (t : ℕ). get_or a (t - 1) 0)) 0 ≤ get_or after.rows (column_no y (λ (t : ℕ). get_or both (t - 1) 0)) 0)
    × (get_or after.rows (column_no y (λ (t : ℕ). get_or b (t - 1) 0)) 0 ≤ get_or after.rows (column_no y (λ (t : ℕ). get_or both (t - 1) 0)) 0)

-- of every true board, whose engines in service are those without a mark, as many as there are
abbrev pub BoardsAdd : Type 0
BoardsAdd =
    (b : Board) → IsTrue b
    → ((e : ℕ) → (among (engines_of b) e ≡ true) ↔ EngineIn b e)
    × (length (engines_of b) ≡ serving_all b)
    × FewestOn b.system (engines_of b)
    × RowsAddOn b.system (engines_of b)
    × FewestAddOn b.system (engines_of b)

-- and of the numbers of every two sheets: all n(t) instances of each release, on all the engines of the card
abbrev pub SheetsAddEvery : Type 0
SheetsAddEvery =
    (first_file second_file both_file : List ℕ) (first second both : System) (a b : ℕ)
    → read_file first_file ≡ opened first → read_file second_file ≡ opened second → read_file both_file ≡ opened both → BothReleases first second both
    → Fewest first (λ (e : ℕ). (1 ≤ e) × (e ≤ first.engines)) (λ (t : ℕ). (get_or first.types (t - 1) no_type).ceiling) a
    → Fewest second (λ (e : ℕ). (1 ≤ e) × (e ≤ second.engines)) (λ (t : ℕ). (get_or second.types (t - 1) no_type).ceiling) b
    → a + b ≤ both.engines
    → (c : ℕ) × Fewest both (λ (e : ℕ). (1 ≤ e) × (e ≤ both.engines)) (λ (t : ℕ). (get_or both.types (t - 1) no_type).ceiling) c × (c ≤ a + b) × (a ≤ c) × (b ≤ c)

-- The two rules

-- of every two files that differ in their rule alone, and every list of engines in service: no load's row is higher under rule 1; every partition under rule
-- 0 is one under rule 1, of however many instances;
-- and where a load has its fewest engines under rule 0, it has them under rule 1, and they are no more
abbrev pub SharedNeverMore : Type 0
SharedNeverMore =
    (own_file shared_file : List ℕ) (own shared : System) (es : List ℕ) → read_file own_file ≡ opened own → read_file shared_file ≡ opened shared → SameButRule own shared → Serving own es
    → ((x : List ℕ) → length x ≡ 6 → ((i : ℕ) → get_or x i 0 ≤ (get_or own.types i no_type).ceiling) → row_for shared es x ≤ row_for own es x)
    × ((count : ℕ → ℕ) (χ : Assignment) → Partition own (λ (e : ℕ). among es e ≡ true) count χ → Partition shared (λ (e : ℕ). among es e ≡ true) count χ)
    × ((x : List ℕ) (r : ℕ) → length x ≡ 6 → ((i : ℕ) → get_or x i 0 ≤ (get_or own.types i no_type).ceiling) → Fewest own (λ (e : ℕ). among es e ≡ true) (λ (t : ℕ). get_or x (t - 1) 0) r
    → (fewer : ℕ) × Fewest shared (λ (e : ℕ). among es e ≡ true) (λ (t : ℕ). get_or x (t - 1) 0) fewer × (fewer ≤ r))

-- and of the numbers of the two sheets
abbrev pub SheetsShareEvery : Type 0
SheetsShareEvery =
    (own_file shared_file : List ℕ) (own shared : System) (a : ℕ) → read_file own_file ≡ opened own → read_file shared_file ≡ opened shared → SameButRule own shared
    → Fewest own (λ (e : ℕ). (1 ≤ e) × (e ≤ own.engines)) (λ (t : ℕ). (get_or own.types (t - 1) no_type).ceiling) a
    → (c : ℕ) × Fewest shared (λ (e : ℕ). (1 ≤ e) × (e ≤ shared.engines)) (λ (t : ℕ). (get_or shared.types (t - 1) no_type).ceiling) c × (c ≤ a)

-- Document 01's own table (request 2026-10)

-- column p may precede column c in row i + 1: "the load of c' has no count above that of c, row i-1 says yes at c', and the load of c less that of c' fits",
-- which is said in document 01's words of time and memory, and q
pub record MayPrecede01 (y : System) (table : List ℕ) (i c p : ℕ) : Type 0 where
  pub inside : p < columns_out y
  pub no_more : (t : ℕ) → 1 ≤ t → count_in y p t ≤ count_in y c t
  pub yes_before : get_or table (i * columns_out y + p) 0 ≡ 65535 → ⊥
  pub fits : FitsOut y (λ (t : ℕ). count_in y c t - count_in y p t)

-- of every file that opens, filled for rows 0 to any r: row 0 holds 0 at column 0 and 65,535 elsewhere; every later row holds the lowest column that may
-- precede, and 65,535 where none may; past them is what was there.
-- So each entry of the table follows from the row before, by these words alone
abbrev pub Cells01 : Type 0
Cells01 =
    (file : List ℕ) (y : System) (r : ℕ) (table01 : List ℕ) → read_file file ≡ opened y
    → (get_or (filled01 y r table01) 0 0 ≡ 0)
    × ((c : ℕ) → 0 < c → c < columns_out y → get_or (filled01 y r table01) c 0 ≡ 65535)
    × ((i c : ℕ) → i < r → c < columns_out y
    → ((get_or (filled01 y r table01) ((i + 1) * columns_out y + c) 0 ≡ 65535) × ((p : ℕ) → MayPrecede01 y (filled01 y r table01) i c p → ⊥))
    ⊎ (MayPrecede01 y (filled01 y r table01) i c (get_or (filled01 y r table01) ((i + 1) * columns_out y + c) 0)
    × ((p : ℕ) → MayPrecede01 y (filled01 y r table01) i c p → get_or (filled01 y r table01) ((i + 1) * columns_out y + c) 0 ≤ p)))
    × ((k : ℕ) → (r + 1) * columns_out y ≤ k → get_or (filled01 y r table01) k 0 ≡ get_or table01 k 0)

-- The calls by it, of every call that keeps its promises, whatever that table held, the parts and the list lent being long enough

-- no row says yes at count(t) instances of each type
abbrev pub AllNo01 : System → ℕ → List ℕ → (ℕ → ℕ) → Type 0
AllNo01 y r table01 count = (i : ℕ) → i ≤ r → get_or (filled01 y r table01) (i * columns_out y + column_no y count) 0 ≡ 65535

-- a plan: 12 exactly if no row says yes for n(1), .., n(k), else a plan, which is the recovery read in it
abbrev pub PlannedIn01 : System → List ℕ → Outcome → (ℕ → ℕ → ℕ) → Type 0
PlannedIn01 y table01 outcome row =
    ((outcome ≡ refused from_input 12) ↔ AllNo01 y y.engines table01 (ceiling_no y))
    × ((AllNo01 y y.engines table01 (ceiling_no y) → ⊥) → (used : ℕ) × (outcome ≡ accepted (used ∷ [])))
    × ((used : ℕ) → outcome ≡ accepted (used ∷ []) → Recovered01 y (filled01 y y.engines table01) used (ceiling_no y) row)

abbrev pub PlansBy01 : Type 0
PlansBy01 =
    (file : List ℕ) (y : System) (table01 : List ℕ) (table : Lent) (room : ℕ) (r : Plan) (after : Lent) → read_file file ≡ opened y → LongEnough y table → y.engines ≤ room
    → PlanPromises (read_file file) table room r after → PlannedIn01 y table01 (outcome_of r.answer) (λ (e t : ℕ). get_or (record_no r.loads e).counts (t - 1) 0)

abbrev pub ListsBy01 : Type 0
ListsBy01 =
    (file : List ℕ) (y : System) (table01 : List ℕ) (table : Lent) (list : List EngineRecord) (answer : Answer) (after : Lent) (list_after : List EngineRecord)
    → read_file file ≡ opened y → LongEnough y table → y.engines ≤ length list
    → ListPromises (read_file file) table list answer after list_after → PlannedIn01 y table01 (outcome_of answer) (λ (e t : ℕ). get_or (entry_no list_after e).load.counts (t - 1) 0)

-- on a true board, of a type below its ceiling, admit: where no engine takes the newcomer, 23 exactly if some row says yes at all with it, and 24 exactly if
-- none does
abbrev pub AdmitsBy01 : Type 0
AdmitsBy01 =
    (b : Board) (t : ℕ) (table01 : List ℕ) (table : Lent) (r : Result) → IsTrue b → LongEnough b.system table → BelowCeiling b t → AdmitPromises b t table r
    → ((r.outcome ≡ refused from_state 23) ↔ (((e : ℕ) → TakesType b t e → ⊥) × (AllNo01 b.system (serving_all b) table01 (plus_one t (stands_no b)) → ⊥)))
    × ((r.outcome ≡ refused from_state 24) ↔ (((e : ℕ) → TakesType b t e → ⊥) × AllNo01 b.system (serving_all b) table01 (plus_one t (stands_no b))))

-- the board after is the recovery read in it: the i-th engine in service has row i
abbrev pub PackedIn01 : Board → List ℕ → (ℕ → ℕ) → Board → Type 0
PackedIn01 b table01 count after =
    (row : ℕ → ℕ → ℕ)
    × Recovered01 b.system (filled01 b.system (serving_all b) table01) (used_records after.loads) count row
    × ((e t : ℕ) → EngineIn b e → 1 ≤ t → count_at after e t ≡ row (serving_to b e) t)

-- seat: 24 exactly if no row says yes at all with the newcomer, else accepted; repack: some row says yes at what stands, so that it is accepted
abbrev pub SeatsBy01 : Type 0
SeatsBy01 =
    (b : Board) (t : ℕ) (table01 : List ℕ) (table : Lent) (r : Result) → IsTrue b → LongEnough b.system table → BelowCeiling b t → SeatPromises b t table r
    → ((r.outcome ≡ refused from_state 24) ↔ AllNo01 b.system (serving_all b) table01 (plus_one t (stands_no b)))
    × ((AllNo01 b.system (serving_all b) table01 (plus_one t (stands_no b)) → ⊥) → r.outcome ≡ accepted [])
    × (r.outcome ≡ accepted [] → PackedIn01 b table01 (plus_one t (stands_no b)) r.board)

abbrev pub RepacksBy01 : Type 0
RepacksBy01 =
    (b : Board) (table01 : List ℕ) (table : Lent) (r : Result) → IsTrue b → LongEnough b.system table → RepackPromises b table r
    → (AllNo01 b.system (serving_all b) table01 (stands_no b) → ⊥) × (r.outcome ≡ accepted []) × PackedIn01 b table01 (stands_no b) r.board
