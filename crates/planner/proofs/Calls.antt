-- What both plan calls promise of any card (request 2026-13). Of one kind of engine it is what was shown of the file as it reads where one kind is wanted; of two kinds it is what `MixedPlans` shows. The lent list after a plan into it
-- has the records of the used engines at its front, whichever the kinds (`list-call`).
use Rattle.std.proofs.Common.{None, Some}
use Prim.Native.Nat.{ℕ, ◌+◌, ◌-◌, ◌≤◌}
use mathlib.Core.Path.{◌≡◌, refl, sym, ap, subst, ◌∙◌}
use mathlib.Core.List.{List, [], ◌∷◌}
use mathlib.Core.Bool.{true}
use native.Mathlib.Omega.{arith}
use lib.ListN.{length, get_or}
use Rattle.system.specs.declared.Kind.{Kind}
use Rattle.system.specs.Outcome.{Answer, Source, accepted, refused, outcome_of, Checked}
use Rattle.system.specs.declared.Opened.{Opened}
use Rattle.system.specs.declared.System.{System}
use Rattle.system.specs.Limits.{engine_limit}
use Rattle.system.specs.Layout.{Reading, opened, unread, read_system, Reads, read_card, read_file}
use Rattle.system.specs.Card.{Card, plain, mixed, card_of}
use Rattle.system.proofs.Laws.{read-keeps-card, card-file, card-refused}
use Rattle.partition.specs.Assignment.{engines_to}
use Rattle.partition.specs.Lent.{Lent}
use Rattle.partition.specs.Plain.{ceiling_no, LongEnough, record_no}
use Rattle.partition.specs.PlainKinds.{MixedOnFewest}
use Rattle.table.proofs.Cards.{plain-opened, mixed-opened, card-unread, card-one, card-two, plain_known, mixed-known}
use Rattle.table.proofs.Room.{long-six}
use Rattle.planner.specs.declared.Plan.{Plan}
use Rattle.planner.specs.declared.ListPlan.{ListPlan}
use Rattle.planner.specs.declared.EngineRecord.{EngineRecord}
use Rattle.planner.specs.Plan.{verdict_of, used_engines, plan_outcome, planned_types, plan_loads, record_of, records_with, plan_list}
use Rattle.planner.specs.Mixed.{mixed_checks, mixed_plan, mixed_outcome, mixed_used, mixed_types, numbers_mixed, loads_mixed, card_outcome, card_used, card_types, card_numbers, card_loads, card_table, card_list}
use Rattle.planner.specs.Demands.{PlanPromises, entry_no}
use Rattle.planner.specs.MixedDemands.{MixedPromises, PlanCall, MixedListHolds, MixedListPromises, ListCall}
use Rattle.planner.specs.Inner.{Lists, TwoKindCard, MixedPlans}
use Rattle.planner.proofs.Front.{front, length-front-of, get_or-front-new, get_or-front-old}
use Rattle.planner.proofs.Records.{load-of, length-records_with, get_or-records_with, records-numbered}
use Rattle.planner.proofs.Demands.{Known, length-loads-of, few-of, verdict-same}
use Rattle.planner.proofs.Listed.{list-promises-for, list_written}
use Rattle.planner.proofs.MixedPlans.{can_mix, MixedCase, too_short, too_small, no_place, is_planned, mixed_case_of, few-mixed, plan-sixteen, plan-fewest, plan-six, plan-past, then-table, then-list, as_lent_lem, keeps-past, impossible, answered, within}

-- main: what the reader says of the card

-- one kind: a file that does not read hands out a system of one kind
pub one-card : (file : List ℕ) (r : Opened) → Reads (read_card file) r → r.system.second ≡ None → card_of (read_card file) ≡ plain (read_file file)
one-card file r reads one = go (read_card file) refl reads.system
  where
    go : (x : Reading) → read_card file ≡ x → r.system ≡ read_system x → card_of (read_card file) ≡ plain (read_file file)
    go (unread n) is same = card-unread (read_card file) n is ∙ ap plain (sym (card-refused file n is))
    go (opened y) is same =
        let kind : y.second ≡ None = ap (λ (z : System). z.second) (sym same) ∙ one in
        card-one (read_card file) y is kind ∙ ap plain (sym (card-file file y is kind))

-- two kinds: the file opened, and the card keeps the limits
pub two-card : (file : List ℕ) (r : Opened) (k : Kind) → Reads (read_card file) r → r.system.second ≡ Some k → TwoKindCard r.system k × (card_of (read_card file) ≡ mixed r.system k)
two-card file r k reads two = go (read_card file) refl reads.system
  where
    go : (x : Reading) → read_card file ≡ x → r.system ≡ read_system x → TwoKindCard r.system k × (card_of (read_card file) ≡ mixed r.system k)
    go (unread n) is same =
        let none : None ≡ Some k = ap (λ (z : System). z.second) (sym same) ∙ two in
        let z : ◌≡◌ {A = ℕ} 0 1 = cc in absurd (omega arith)
    go (opened y) is same =
        let reads_as : read_card file ≡ opened r.system = is ∙ ap opened (sym same) in
        (record { limits = read-keeps-card file r.system reads_as; second = two }, card-two (read_card file) r.system k reads_as two)

-- a card of two kinds that was read
known_two : (file : List ℕ) (y : System) (k : Kind) → card_of (read_card file) ≡ mixed y k → TwoKindCard y k
known_two file y k e = let p = mixed-opened (read_card file) y k e in record { limits = read-keeps-card file y p.0; second = p.1 }

-- main: the plan by value, from that of one kind and from that of two

pub call-of-one : (c : Card) (x : Reading) → c ≡ plain x → (table : Lent) (room : ℕ) (r : Plan) (after : Lent) → PlanPromises x table room r after → PlanCall c table room r after
call-of-one c x is table room r after p = record {
  whole = rw is (record { answers = p.answers; uses = p.uses; counts = p.counts; numbers = p.numbers; places = p.places; leaves_table = p.leaves_table });
  one_kind = λ z e. (let same : x ≡ z = cc in subst (λ (w : Reading). PlanPromises w table room r after) same p);
  two_kinds = λ y k e. (let z : ◌≡◌ {A = ℕ} 0 1 = cc in absurd (omega arith));
}

pub call-of-two : (c : Card) (y : System) (k : Kind) → c ≡ mixed y k → (table : Lent) (room : ℕ) (r : Plan) (after : Lent) → MixedPlans y k table room r after → PlanCall c table room r after
call-of-two c y k is table room r after p = record {
  whole = rw is p.whole;
  one_kind = λ x e. (let z : ◌≡◌ {A = ℕ} 0 1 = cc in absurd (omega arith));
  two_kinds = λ z j e. (let own : y ≡ z = cc in let kind : k ≡ j = cc in subst (λ (w : System). MixedPromises w j table room r after) own (subst (λ (i : Kind). MixedPromises y i table room r after) kind p.promises));
}

-- main: few enough engines for the records and for the list

pub card-within : (file : List ℕ) (table : Lent) (room : ℕ) → (card_used (card_of (read_card file)) table room ≤ engine_limit) × (card_used (card_of (read_card file)) table room ≤ room)
card-within file table room = go (card_of (read_card file)) refl
  where
    go : (c : Card) → card_of (read_card file) ≡ c → (card_used c table room ≤ engine_limit) × (card_used c table room ≤ room)
    go (plain x) is = few-of table room x (plain_known file x is)
    go (mixed y k) is = let card = known_two file y k is in within card (mixed_case_of y k card table room)

-- main: the lent list of two kinds

module _ (y : System) (k : Kind) (card : TwoKindCard y k) (list : List EngineRecord) (enough : y.engines + k.number ≤ length list) where
  abbrev used : ℕ
  used = (mixed_plan y k).used

  abbrev records : List EngineRecord
  records = records_with (mixed_plan y k).numbers (mixed_plan y k).loads

  abbrev listed : List EngineRecord
  listed = front used records list

  module _ (can : can_mix y k ≡ true) where
    as_many : length (mixed_plan y k).numbers ≡ length (mixed_plan y k).loads
    as_many = let n = plan-sixteen y k card can in n.0 ∙ sym n.1

    in-loads : used ≤ length (mixed_plan y k).loads
    in-loads = omega (arith, (few-mixed y k card can).0, (plan-sixteen y k card can).1)

    in-records : used ≤ length records
    in-records = omega (arith, in-loads, length-records_with (mixed_plan y k).numbers (mixed_plan y k).loads as_many)

    in_list : used ≤ length list
    in_list = omega (arith, (few-mixed y k card can).1, enough)

    entry-is : (i : ℕ) → 1 ≤ i → i ≤ used → entry_no listed i ≡ record_of (get_or (mixed_plan y k).numbers (i - 1) 0) (record_no (mixed_plan y k).loads i)
    entry-is i low high =
        get_or-front-new used (i - 1) records list _ in-records (omega arith)
        ∙ get_or-records_with (mixed_plan y k).numbers (mixed_plan y k).loads (i - 1) _ (record { time = 0; memory = 0; counts = [] }) as_many (omega (arith, in-loads))

    planned-holds : MixedListHolds y k list (accepted (used ∷ [])) listed
    planned-holds = record {
      as_lent = λ s n o. (let z : ◌≡◌ {A = ℕ} 0 1 = cc in absurd (omega arith));
      as_long = length-front-of used records list in-records in_list;
      inside = λ n o. (let same : used ≡ n = cc in omega (arith, in_list));
      lists = λ n o. (
          let same : used ≡ n = cc in
          let engines : MixedOnFewest y k (ceiling_no y) (mixed_plan y k).numbers (mixed_plan y k).loads n = subst (MixedOnFewest y k (ceiling_no y) (mixed_plan y k).numbers (mixed_plan y k).loads) same (plan-fewest y k card can) in (
            (mixed_plan y k).numbers,
            (mixed_plan y k).loads,
            engines,
            λ i low high.
                let is = entry-is i low (omega arith) in
                (ap (λ (r : EngineRecord). r.number) is, ap (λ (r : EngineRecord). r.load) is ∙ load-of (get_or (mixed_plan y k).numbers (i - 1) 0) (record_no (mixed_plan y k).loads i), ap (λ (r : EngineRecord). length r.load.counts) is ∙ plan-six y k card can i low (omega (arith, (few-mixed y k card can).0))),
          )
          );
      zero_past = λ n i t o low high past.
          let same : used ≡ n = cc in
          ap (λ (r : EngineRecord). get_or r.load.counts (t - 1) 0) (entry-is i low (omega arith)) ∙ plan-past y k card can i t low past;
      later_kept = λ n i o h. (let same : used ≡ n = cc in get_or-front-old used (i - 1) records list _ in-records (omega arith));
    }

refused-holds : (y : System) (k : Kind) (list : List EngineRecord) (s : Source) (n : ℕ) → MixedListHolds y k list (refused s n) list
refused-holds y k list s n = record {
  as_lent = λ t m o. refl;
  as_long = refl;
  inside = λ used o. (let z : ◌≡◌ {A = ℕ} 0 1 = cc in absurd (omega arith));
  lists = λ used o. (let z : ◌≡◌ {A = ℕ} 0 1 = cc in absurd (omega arith));
  zero_past = λ used i t o low high past. (let z : ◌≡◌ {A = ℕ} 0 1 = cc in absurd (omega arith));
  later_kept = λ used i o h. refl;
}

mixed-holds : (y : System) (k : Kind) → TwoKindCard y k → (table : Lent) (list : List EngineRecord) {v : Checked} {after : Lent} → MixedCase y k table (length list) v after
    → MixedListHolds y k list (mixed_outcome y k v) (front (mixed_used y k v) (records_with (numbers_mixed y k v) (loads_mixed y k v)) list)
mixed-holds y k card table list (too_short short) = refused-holds y k list _ 11
mixed-holds y k card table list (too_small long small) = refused-holds y k list _ 15
mixed-holds y k card table list (no_place long enough none) = refused-holds y k list _ 12
mixed-holds y k card table list (is_planned long enough can) = planned-holds y k card list enough can

-- main: the plan into a list, of any card

pub list-call : (file : List ℕ) (table : Lent) (list : List EngineRecord) (answer : Answer) (table_after : Lent) (list_after : List EngineRecord)
    → outcome_of answer ≡ card_outcome (card_of (read_card file)) table (length list)
    → table_after ≡ card_table (card_of (read_card file)) table (length list)
    → list_after ≡ card_list (card_of (read_card file)) table list (length list)
    → ListCall (card_of (read_card file)) table list answer table_after list_after
list-call file table list answer table_after list_after a t l = record {
  answers = a;
  leaves_table = t;
  leaves_list = l;
  one_kind = λ x is.
      list-promises-for x (plain_known file x is) table list answer table_after list_after (a ∙ ap (λ (c : Card). card_outcome c table (length list)) is) (t ∙ ap (λ (c : Card). card_table c table (length list)) is)
      (l ∙ ap (λ (c : Card). card_list c table list (length list)) is ∙ one_list x (plain_known file x is));
  two_kinds = λ y k is.
      two y k (known_two file y k is) (a ∙ ap (λ (c : Card). card_outcome c table (length list)) is) (t ∙ ap (λ (c : Card). card_table c table (length list)) is)
      (l ∙ ap (λ (c : Card). card_list c table list (length list)) is);
}
  where
    one_list : (x : Reading) → Known x → card_list (plain x) table list (length list) ≡ plan_list (verdict_of x table (length list)) list
    one_list x known =
        let sized = length-loads-of table (length list) x known in
        list_written (verdict_of x table (length list)) list _ _ refl
        (ap (λ (n : ℕ). records_with (engines_to n) (plan_loads (verdict_of x table (length list)))) (sym sized) ∙ records-numbered 1 (plan_loads (verdict_of x table (length list))))

    two : (y : System) (k : Kind) → TwoKindCard y k → outcome_of answer ≡ card_outcome (mixed y k) table (length list) → table_after ≡ card_table (mixed y k) table (length list)
        → list_after ≡ card_list (mixed y k) table list (length list) → MixedListPromises y k table list answer table_after list_after
    two y k card a t l =
        let case = mixed_case_of y k card table (length list) in
        record {
          order = rw a (record { then_table = then-table card case; then_list = then-list card case });
          demand1 = rw (a, t) (record { as_lent = as_lent_lem card case; kept = keeps-past card case });
          impossible = rw a (impossible card case);
          answered = rw a (answered card case);
          holds = rw (a, l) (mixed-holds y k card table list case);
        }

-- what the core of a plan into a list answers, with what it wrote: its records go over the front of the list
pub lists-call : (file : List ℕ) (table : Lent) (list : List EngineRecord) (p : ListPlan) (after : Lent) (zs : List EngineRecord) → Lists (card_of (read_card file)) table (length list) p after
    → zs ≡ front p.used p.records list → ListCall (card_of (read_card file)) table list p.answer after zs
lists-call file table list p after zs e put =
    list-call file table list p.answer after zs e.answer e.left (put ∙ ap (λ (n : ℕ). front n p.records list) e.used ∙ ap (λ (rs : List EngineRecord). front (card_used (card_of (read_card file)) table (length list)) rs list) e.records)

-- main: "What the table held before changes no answer": two plans of a card, each over a table that is long enough

module _ (file : List ℕ) (table other : Lent) (room : ℕ) (long : (y : System) → read_card file ≡ opened y → LongEnough y table × LongEnough y other) where
  record Same (c : Card) : Type 0 where
    outcome : card_outcome c table room ≡ card_outcome c other room
    used : card_used c table room ≡ card_used c other room
    types : card_types c table room ≡ card_types c other room
    numbers : card_numbers c table room ≡ card_numbers c other room
    loads : card_loads c table room ≡ card_loads c other room

  same-plan : (c : Card) → card_of (read_card file) ≡ c → Same c
  same-plan (plain x) is =
      let same = verdict-same x (plain_known file x is) table other room (λ y e. long y (plain-opened (read_card file) y (is ∙ ap plain e)).0) in
      record { outcome = ap plan_outcome same; used = ap used_engines same; types = ap planned_types same; numbers = refl; loads = ap plan_loads same }
  same-plan (mixed y k) is =
      let six = (mixed-known file y k is).six in
      let both = long y (mixed-opened (read_card file) y k is).0 in
      let same : mixed_checks y k table room ≡ mixed_checks y k other room = rw ((long-six y table six).1 both.0, (long-six y other six).1 both.1) in
      record { outcome = ap (mixed_outcome y k) same; used = ap (mixed_used y k) same; types = ap (mixed_types y) same; numbers = ap (numbers_mixed y k) same; loads = ap (loads_mixed y k) same }

  pub card-any-table : (r s : Plan) (after last : Lent) → PlanCall (card_of (read_card file)) table room r after → PlanCall (card_of (read_card file)) other room s last
      → (outcome_of r.answer ≡ outcome_of s.answer) × (r.used ≡ s.used) × (r.typecount ≡ s.typecount) × (r.numbers ≡ s.numbers) × (r.loads ≡ s.loads)
  card-any-table r s after last p q =
      let same = same-plan (card_of (read_card file)) refl in (
        p.whole.answers ∙ same.outcome ∙ sym q.whole.answers,
        p.whole.uses ∙ same.used ∙ sym q.whole.uses,
        p.whole.counts ∙ same.types ∙ sym q.whole.counts,
        p.whole.numbers ∙ same.numbers ∙ sym q.whole.numbers,
        p.whole.places ∙ same.loads ∙ sym q.whole.places,
      )

pub card-list-any-table : (file : List ℕ) (table other : Lent) (list : List EngineRecord) → ((y : System) → read_card file ≡ opened y → LongEnough y table × LongEnough y other)
    → (a b : Answer) (after last : Lent) (l m : List EngineRecord) → ListCall (card_of (read_card file)) table list a after l → ListCall (card_of (read_card file)) other list b last m → (outcome_of a ≡ outcome_of b) × (l ≡ m)
card-list-any-table file table other list long a b after last l m p q =
    let same = same-plan file table other (length list) long (card_of (read_card file)) refl in (
      p.answers ∙ same.outcome ∙ sym q.answers,
      p.leaves_list ∙ (λ i. front (same.used i) (records_with (same.numbers i) (same.loads i)) list) ∙ sym q.leaves_list,
    )
