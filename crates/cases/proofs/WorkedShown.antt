-- Worked files through the theorems of every file: each file is read by computation, and what is said of it comes from the theorem.
use Rattle.std.proofs.Common.{Option, None, Some}
use Rattle.system.specs.declared.Cycle.{Cycle}
use Prim.Native.Nat.{ℕ, zero, suc, ◌+◌, ◌≤◌}
use mathlib.Core.List.{List, [], ◌∷◌, ◌++◌, map, head-eq_of_cons-eq, tail-eq_of_cons-eq, nil≢cons}
use mathlib.Core.Bool.{true}
use mathlib.Core.Path.{◌≡◌, refl, sym, ap, subst, ◌∙◌}
use native.Mathlib.Omega.{arith}
use borrow.Author.Tests.{le-leb, ltb-true}
use lib.ListN.{length, get_or}
use lib.Seq.{get_or-set_other}
use lib.Dec.{ltb, lit<, lit≤}
use Rattle.system.specs.declared.Kind.{Kind}
use Rattle.system.specs.declared.System.{System}
use Rattle.system.specs.Outcome.{Answer, Outcome, accepted, refused, from_input, outcome_of}
use Rattle.system.specs.Limits.{paces_fault, columns_of, kinds_agree, types_keep, keeps_card, keeps_limits}
use Rattle.system.specs.Layout.{Reading, opened, unread, rule_of, platform_from, type_from, data_from, second_from, costs_from, ruled_head, head_of, body_of, ruled_field, field_of, end_of, fields_from, read_card, of_one_kind, read_file, read_system}
use Rattle.system.specs.Card.{card_of, plain}
use Rattle.system.proofs.Laws.{card-file}
use Rattle.system.proofs.Cards.{card-is}
use Rattle.loads.specs.Load.{sum_over, apart, fits_engine, holds_none, within, plus, less}
use Rattle.loads.specs.Column.{column_from, load_of}
use Rattle.partition.specs.Assignment.{count_on, among, every, any_of, passing, good, numbers_from, each_before, places_of, assignments_of, some_good}
use Rattle.partition.specs.Shares.{sum_of, row_on}
use Rattle.partition.specs.Cell.{lowest, precedes, cell, lowest_row, recover, recovery}
use Rattle.partition.specs.Kinds.{split_cost, least_at}
use Rattle.partition.specs.Lent.{Lent}
use Rattle.partition.specs.Plain.{columns_out, LongEnough}
use Rattle.partition.proofs.Lists.{every-parts}
use Rattle.partition.specs.Releases.{SameButRule}
use Rattle.writer.specs.Meaning.{IsBytes}
use Rattle.writer.specs.RuleByte.{RuleApart}
use Rattle.writer.proofs.RuleByte.{cards-apart}
use Rattle.kinds.specs.Mixing.{mixed_placement}
use Rattle.planner.specs.declared.Plan.{Plan}
use Rattle.planner.specs.declared.EngineRecord.{EngineRecord}
use Rattle.planner.specs.Plan.{verdict_of, plan_outcome}
use Rattle.planner.specs.Mixed.{card_outcome}
use Rattle.planner.specs.Demands.{ListPromises}
use Rattle.planner.specs.MixedDemands.{PlanCall}
use Rattle.planner.proofs.Document01.{plan-by-01, list-by-01}
use Rattle.planner.proofs.Releases.{plans-add, plans-share, asked_of, mixed-plans-share, asked-mixed}
use Rattle.ledger.specs.Ledger.{Call, fresh_ledger, counted_on, admit_entry, seat_entry, retire_entry, repack_entry, step, ledger_after, ledger_answers}
use Rattle.ledger.specs.Demand3.{Request, requests_of, calls_of, LongTables, Ran, made_by}
use Rattle.ledger.proofs.Demand3.{demand3-runs, promised-exactly}
use Rattle.cases.specs.Cases.{file_a, file_b, system_of, lent, plan_answer, requests, entered, calls_w9, answers_w9, calls_w11, answers_w11}
use Rattle.cases.specs.Worked.{file_shared, PlannedBy01, RefusedBy01, SharesInBytes, file_kinds, KindsShare, AddsInBytes, ReleasesMet, CodeAnswers}
use Rattle.cases.specs.Supposed.{types_released, released}
use Rattle.cases.proofs.SupposedShown.{releases-given}
use Rattle.cases.proofs.EveryShown.{bounds-out}

-- an answer is not a refusal
not-refused : (ns : List ℕ) (n : ℕ) → accepted ns ≡ refused from_input n → ⊥
not-refused ns n e = let z : ◌≡◌ {A = ℕ} 0 1 = cc in absurd (omega arith)

-- ---- document 01's own table

-- the verdict asks of a list only whether it is long enough
same-room : (y : System) (table : Lent) (room other : ℕ) → y.engines ≤ room → y.engines ≤ other → plan_outcome (verdict_of (opened y) table room) ≡ plan_outcome (verdict_of (opened y) table other)
unfolding verdict_of
same-room y table room other h k = rw (le-leb y.engines room h, le-leb y.engines other k)

module _ (file : List ℕ) (reads : read_file file ≡ opened (system_of file)) (long : LongEnough (system_of file) lent) (few : (system_of file).engines ≤ 16) where
  told-list : (o : Outcome) (list list_after : List EngineRecord) (answer : Answer) (after : Lent) → plan_outcome (verdict_of (read_file file) lent 16) ≡ o → (system_of file).engines ≤ length list
      → ListPromises (read_file file) lent list answer after list_after → outcome_of answer ≡ o
  told-list o list list_after answer after plans room p =
      p.answers
      ∙ ap (λ (x : Reading). plan_outcome (verdict_of x lent (length list))) reads
      ∙ same-room (system_of file) lent (length list) 16 room few
      ∙ ap (λ (x : Reading). plan_outcome (verdict_of x lent 16)) (sym reads)
      ∙ plans

  planned-01 : (used : ℕ) → plan_outcome (verdict_of (read_file file) lent 16) ≡ accepted (used ∷ []) → PlannedBy01 file used
  planned-01 used plans = record {
    by_value = λ table01 r after p.
        (let is = p.answers ∙ plans in
        (is, (plan-by-01 file (system_of file) table01 lent 16 r after reads long few p).given used is));
    into_list = λ table01 list list_after answer after room p.
        (let is = told-list (accepted (used ∷ [])) list list_after answer after plans room p in
        (is, (list-by-01 file (system_of file) table01 lent list answer after list_after reads long room p).given used is));
  }

  refused-01 : plan_outcome (verdict_of (read_file file) lent 16) ≡ refused from_input 12 → RefusedBy01 file
  refused-01 plans = record {
    by_value = λ table01 r after p.
        (let is = p.answers ∙ plans in
        (is, (plan-by-01 file (system_of file) table01 lent 16 r after reads long few p).none.0 is));
    into_list = λ table01 list list_after answer after room p.
        (let is = told-list (refused from_input 12) list list_after answer after plans room p in
        (is, (list-by-01 file (system_of file) table01 lent list answer after list_after reads long room p).none.0 is));
  }

-- W3, and the same types under rule 1: two engines each. W6: none
pub w3-by-01 : PlannedBy01 (file_a 3 3 2) 2
unfolding columns_of kinds_agree rule_of platform_from type_from ruled_head head_of body_of ruled_field field_of end_of fields_from read_card of_one_kind read_file sum_over apart fits_engine within less column_from load_of numbers_from lowest precedes cell lowest_row recover recovery verdict_of
w3-by-01 = planned-01 (file_a 3 3 2) refl (lit≤ tt, lit≤ tt) (lit≤ tt) 2 refl

pub shared-by-01 : PlannedBy01 file_shared 2
unfolding columns_of kinds_agree rule_of platform_from type_from ruled_head head_of body_of ruled_field field_of end_of fields_from read_card of_one_kind read_file sum_over apart fits_engine within less column_from load_of numbers_from lowest precedes cell lowest_row recover recovery verdict_of
shared-by-01 = planned-01 file_shared refl (lit≤ tt, lit≤ tt) (lit≤ tt) 2 refl

pub w6-by-01 : RefusedBy01 (file_b 3 0)
unfolding columns_of kinds_agree rule_of platform_from type_from ruled_head head_of body_of ruled_field field_of end_of fields_from read_card of_one_kind read_file sum_over apart fits_engine within less column_from load_of numbers_from lowest precedes cell lowest_row recover recovery verdict_of
w6-by-01 = refused-01 (file_b 3 0) refl (lit≤ tt, lit≤ tt) (lit≤ tt) refl

-- ---- the two rules

module _ (own_file shared_file : List ℕ) (own_table shared_table own_after shared_after : Lent) (own shared : Plan) (a : ℕ) (y z : System) where
  -- of one kind of engine, and of two: which it is, the first file says
  one-shares : read_card own_file ≡ opened y → read_card shared_file ≡ opened z → SameButRule y z → y.second ≡ None → LongEnough y own_table → LongEnough z shared_table
      → PlanCall (card_of (read_card own_file)) own_table 16 own own_after → PlanCall (card_of (read_card shared_file)) shared_table 16 shared shared_after
      → outcome_of own.answer ≡ accepted (a ∷ []) → (c : ℕ) × (outcome_of shared.answer ≡ accepted (c ∷ [])) × (c ≤ a)
  one-shares reads reads_too alike one long long_too p q is =
      let one_too = alike.second ∙ one in
      let f = card-file own_file y reads one in
      let g = card-file shared_file z reads_too one_too in
      let first = p.one_kind (read_file own_file) (card-is.one_kind (read_card own_file) y reads one ∙ ap plain (sym f)) in
      let second = q.one_kind (read_file shared_file) (card-is.one_kind (read_card shared_file) z reads_too one_too ∙ ap plain (sym g)) in
      plans-share own_file shared_file y z (outcome_of own.answer) (outcome_of shared.answer) (asked_of own_file own_table own_after y own f long first) (asked_of shared_file shared_table shared_after z shared g long_too second) a alike is

  two-share : (k : Kind) → read_card own_file ≡ opened y → read_card shared_file ≡ opened z → SameButRule y z → y.second ≡ Some k → LongEnough y own_table → LongEnough z shared_table
      → PlanCall (card_of (read_card own_file)) own_table 16 own own_after → PlanCall (card_of (read_card shared_file)) shared_table 16 shared shared_after
      → outcome_of own.answer ≡ accepted (a ∷ []) → (c : ℕ) × (outcome_of shared.answer ≡ accepted (c ∷ [])) × (c ≤ a)
  two-share k reads reads_too alike two long long_too p q is =
      let two_too = alike.second ∙ two in
      let first = p.two_kinds y k (card-is.two_kinds (read_card own_file) y k reads two) in
      let second = q.two_kinds z k (card-is.two_kinds (read_card shared_file) z k reads_too two_too) in
      mixed-plans-share own_file shared_file y z k k (outcome_of own.answer) (outcome_of shared.answer)
      (asked-mixed own_file own_table own_after y k own reads two long first) (asked-mixed shared_file shared_table shared_after z k shared reads_too two_too long_too second) a alike is

pub shares-in-bytes : (own_file shared_file : List ℕ) → IsBytes own_file → IsBytes shared_file → RuleApart own_file shared_file → SharesInBytes own_file shared_file
shares-in-bytes own_file shared_file bytes bytes_too apart own_table shared_table own_after shared_after own shared a long long_too p q is = at (read_card own_file) refl
  where
    kinds : (y : System) (s : Option Kind) → read_card own_file ≡ opened y → y.second ≡ s → (c : ℕ) × (outcome_of shared.answer ≡ accepted (c ∷ [])) × (c ≤ a)
    kinds y None e k =
        let other = (cards-apart own_file shared_file bytes bytes_too apart).reads y e in
        one-shares own_file shared_file own_table shared_table own_after shared_after own shared a y other.0 e other.1 other.2 k (long y e) (long_too other.0 other.1) p q is
    kinds y (Some j) e k =
        let other = (cards-apart own_file shared_file bytes bytes_too apart).reads y e in
        two-share own_file shared_file own_table shared_table own_after shared_after own shared a y other.0 j e other.1 other.2 k (long y e) (long_too other.0 other.1) p q is

    at : (x : Reading) → read_card own_file ≡ x → (c : ℕ) × (outcome_of shared.answer ≡ accepted (c ∷ [])) × (c ≤ a)
    at (opened y) e = kinds y y.second e refl
    at (unread n) e = absurd (not-refused (a ∷ []) n (sym is ∙ (p.one_kind (unread n) (card-is.not_read (read_card own_file) n e)).order.file_first n refl))

-- a list of numbers below 256 is one of bytes
bytes_of : (file : List ℕ) → every (λ (b : ℕ). ltb b 256) file ≡ true → IsBytes file
bytes_of [] h i = lit< tt
bytes_of (b ∷ file) h zero = ltb-true b 256 (every-parts (λ (c : ℕ). ltb c 256) b file h).0
bytes_of (b ∷ file) h (suc i) = bytes_of file (every-parts (λ (c : ℕ). ltb c 256) b file h).1 i

kinds-bytes : (every (λ (b : ℕ). ltb b 256) (file_kinds 0) ≡ true) × (every (λ (b : ℕ). ltb b 256) (file_kinds 1) ≡ true)
unfolding every
kinds-bytes = (refl, refl)

kinds-apart : RuleApart (file_kinds 0) (file_kinds 1)
kinds-apart = record { long = refl; others = λ i h. get_or-set_other (file_kinds 0) 4 i 1 0 h; own_copies = refl; shared_code = refl }

-- five columns, under either rule
kinds-long : (rule : ℕ) (y : System) → columns_out (read_system (read_card (file_kinds rule))) ≤ 16 → read_card (file_kinds rule) ≡ opened y → LongEnough y lent
kinds-long rule y h e =
    let same : columns_out y ≤ 16 = subst (λ (x : Reading). columns_out (read_system x) ≤ 16) e h in
    (same, same)

kinds-few : (columns_out (read_system (read_card (file_kinds 0))) ≤ 16) × (columns_out (read_system (read_card (file_kinds 1))) ≤ 16)
unfolding columns_of kinds_agree rule_of platform_from type_from second_from costs_from ruled_head head_of body_of ruled_field field_of end_of fields_from read_card
kinds-few = (lit≤ tt, lit≤ tt)

kinds-four : card_outcome (card_of (read_card (file_kinds 0))) lent 16 ≡ accepted (4 ∷ [])
unfolding columns_of kinds_agree rule_of platform_from type_from second_from costs_from ruled_head head_of body_of ruled_field field_of end_of fields_from read_card card_of sum_over apart fits_engine within less column_from load_of numbers_from lowest precedes cell lowest_row recover recovery split_cost least_at mixed_placement
kinds-four = refl

pub kinds-share : KindsShare
kinds-share own_after shared_after own shared p q =
    let four = p.whole.answers ∙ kinds-four in (
      four,
      shares-in-bytes (file_kinds 0) (file_kinds 1) (bytes_of (file_kinds 0) kinds-bytes.0) (bytes_of (file_kinds 1) kinds-bytes.1) kinds-apart lent lent own_after shared_after own shared 4
          (λ y e. kinds-long 0 y kinds-few.0 e) (λ y e. kinds-long 1 y kinds-few.1 e) p q four,
    )

-- ---- two releases

pub adds-in-bytes : (f1 f2 f3 : List ℕ) → AddsInBytes f1 f2 f3
adds-in-bytes f1 f2 f3 y n m p q r t1 t2 t3 after1 after2 after3 first second both a b e1 e2 e3 l1 l2 l3 p1 p2 p3 is1 is2 few =
    let x = released y n p in
    let z = released y m q in
    let w = released y (λ (t : ℕ). n t + m t) r in
    let s = plans-add f1 f2 f3 x z w (outcome_of first.answer) (outcome_of second.answer) (outcome_of both.answer)
    (asked_of f1 t1 after1 x first e1 l1 p1) (asked_of f2 t2 after2 z second e2 l2 p2) (asked_of f3 t3 after3 w both e3 l3 p3) a b ((releases-given y).both n m p q r) is1 is2 few in
    let (most, one, other) = bounds-out a b s.0 s.2 in
    (s.0, s.1, most, one, other)

-- n(1) and n(2), counted from 1
abbrev two_counts : ℕ → ℕ → ℕ → ℕ
two_counts a b t = get_or (0 ∷ a ∷ b ∷ []) t 0

abbrev unpaced : ℕ → Option Cycle
unpaced t = None

abbrev released_a : (ℕ → ℕ) → System
released_a n = released (system_of (file_a 3 3 2)) n unpaced

abbrev both_counts : ℕ → ℕ
both_counts t = two_counts 2 0 t + two_counts 1 2 t

read-releases : (read_file (file_a 3 2 0) ≡ opened (released_a (two_counts 2 0))) × (read_file (file_a 3 1 2) ≡ opened (released_a (two_counts 1 2))) × (read_file (file_a 3 3 2) ≡ opened (released_a both_counts))
unfolding columns_of kinds_agree rule_of platform_from type_from ruled_head head_of body_of ruled_field field_of end_of fields_from read_card of_one_kind read_file types_released
read-releases = (refl, refl, refl)

long-releases : LongEnough (released_a (two_counts 2 0)) lent × LongEnough (released_a (two_counts 1 2)) lent × LongEnough (released_a both_counts) lent
unfolding columns_of kinds_agree rule_of platform_from type_from ruled_head head_of body_of ruled_field field_of end_of fields_from read_card of_one_kind read_file types_released
long-releases = ((lit≤ tt, lit≤ tt), (lit≤ tt, lit≤ tt), (lit≤ tt, lit≤ tt))

one_each : (plan_answer (file_a 3 2 0) ≡ accepted (1 ∷ [])) × (plan_answer (file_a 3 1 2) ≡ accepted (1 ∷ []))
unfolding columns_of kinds_agree rule_of platform_from type_from ruled_head head_of body_of ruled_field field_of end_of fields_from read_card of_one_kind read_file sum_over apart fits_engine within less column_from load_of numbers_from lowest precedes cell lowest_row recover recovery verdict_of
one_each = (refl, refl)

three-engines : (system_of (file_a 3 3 2)).engines ≡ 3
unfolding columns_of kinds_agree rule_of platform_from type_from ruled_head head_of body_of ruled_field field_of end_of fields_from read_card of_one_kind read_file
three-engines = refl

pub releases-met : ReleasesMet
releases-met after1 after2 after3 first second both p1 p2 p3 =
    let s = adds-in-bytes (file_a 3 2 0) (file_a 3 1 2) (file_a 3 3 2) (system_of (file_a 3 3 2)) (two_counts 2 0) (two_counts 1 2) unpaced unpaced unpaced lent lent lent after1 after2 after3 first second both 1 1
    read-releases.0 read-releases.1 read-releases.2 long-releases.0 long-releases.1 long-releases.2 p1 p2 p3 (p1.answers ∙ one_each.0) (p2.answers ∙ one_each.1) (omega (arith, three-engines)) in
    (s.0, s.1, s.2, s.3)

-- ---- calls on a board

-- every call is lent that table
lent-each : (calls : List Call) (before after : List Request) (r : Request) → requests calls ≡ before ++ r ∷ after → r.table ≡ lent
lent-each [] [] after r e = absurd (nil≢cons e)
lent-each [] (b ∷ before) after r e = absurd (nil≢cons e)
lent-each (c ∷ calls) [] after r e = ap (λ (q : Request). q.table) (sym (head-eq_of_cons-eq e))
lent-each (c ∷ calls) (b ∷ before) after r e = lent-each calls before after r (tail-eq_of_cons-eq e)

-- what was asked of the code is what the calls made were asked
asked-same : (rs : List Ran) → requests_of (map made_by rs) ≡ map (λ (r : Ran). r.asked) rs
asked-same [] = refl
asked-same (r ∷ rs) = ap (λ (l : List Request). r.asked ∷ l) (asked-same rs)

calls_same : (calls : List Call) → calls_of (requests calls) ≡ calls
calls_same [] = refl
calls_same (c ∷ calls) = ap (λ (l : List Call). c ∷ l) (calls_same calls)

code-answers : (file : List ℕ) (calls : List Call) (expected : List Outcome) → read_file file ≡ opened (system_of file) → LongEnough (system_of file) lent → entered file calls ≡ expected → CodeAnswers file calls expected
code-answers file calls expected reads long ledger start rs opens keeps asked =
    let tables : LongTables (system_of file) (map (λ (r : Ran). r.asked) rs) = λ before after r e lends. subst (LongEnough (system_of file)) (sym (lent-each calls before after r (sym asked ∙ e))) long in
    (demand3-runs file (system_of file) start rs reads opens ((promised-exactly start.board rs).0 keeps) tables).answers
    ∙ ap (λ (l : List Request). ledger_answers (fresh_ledger (system_of file)) (calls_of l)) (asked-same rs ∙ asked)
    ∙ ap (λ (l : List Call). ledger_answers (fresh_ledger (system_of file)) l) (calls_same calls)
    ∙ ledger

-- W9 and W11, as the code answers them
pub w9-by-code : CodeAnswers (file_a 2 3 2) calls_w9 answers_w9
unfolding paces_fault columns_of kinds_agree types_keep keeps_card keeps_limits rule_of platform_from type_from data_from ruled_head head_of body_of ruled_field field_of end_of fields_from read_card of_one_kind read_file sum_over apart fits_engine holds_none within plus less column_from load_of count_on among every any_of good numbers_from each_before places_of assignments_of some_good lowest precedes cell lowest_row recover recovery sum_of row_on passing counted_on admit_entry seat_entry retire_entry repack_entry step ledger_after ledger_answers
w9-by-code = code-answers (file_a 2 3 2) calls_w9 answers_w9 refl (lit≤ tt, lit≤ tt) refl

pub w11-by-code : CodeAnswers (file_b 3 0) calls_w11 answers_w11
unfolding paces_fault columns_of kinds_agree types_keep keeps_card keeps_limits rule_of platform_from type_from data_from ruled_head head_of body_of ruled_field field_of end_of fields_from read_card of_one_kind read_file sum_over apart fits_engine holds_none within plus less column_from load_of count_on among every any_of good numbers_from each_before places_of assignments_of some_good lowest precedes cell lowest_row recover recovery sum_of row_on passing counted_on admit_entry seat_entry retire_entry repack_entry step ledger_after ledger_answers
w11-by-code = code-answers (file_b 3 0) calls_w11 answers_w11 refl (lit≤ tt, lit≤ tt) refl
