-- Request 2026-09 of plans: from demand 2 and from what partition proves of the fewest engines. Rule 1 of two kinds of engine goes by the same argument: the assignment under rule 0 is good under rule 1 too.
use Rattle.std.proofs.Common.{Some}
use Prim.Native.Nat.{ℕ, ◌+◌, ◌-◌, ◌≤◌}
use mathlib.Core.List.{List, [], ◌∷◌}
use mathlib.Core.Bool.{Bool, true, false, cond, ◌||◌}
use mathlib.Core.Path.{◌≡◌, sym, ap, subst, ◌∙◌}
use lib.ListN.{length, get_or}
use lib.Dec.{eqb}
use native.Mathlib.Nat.{le_antisymm, le_trans}
use native.Mathlib.Omega.{arith}
use Rattle.system.specs.declared.Kind.{Kind}
use Rattle.system.specs.declared.TaskType.{TaskType}
use Rattle.system.specs.declared.System.{System}
use Rattle.system.specs.Outcome.{Answer, Outcome, accepted, outcome_of}
use Rattle.system.specs.Layout.{read_card, read_file, opened}
use Rattle.system.proofs.Laws.{read-limits, read-keeps-card}
use Rattle.system.proofs.CardLaws.{both-engines}
use Rattle.partition.specs.Assignment.{Assignment, among}
use Rattle.partition.specs.Lent.{Lent}
use Rattle.partition.specs.OwnWords.{over_instances, sum_on, memory_on, shared_memory_on, no_type}
use Rattle.partition.specs.Plain.{ceiling_no, LongEnough, EngineOf, Partition}
use Rattle.partition.specs.PlainKinds.{memory_there, memory_there_on, shared_there_on, MixedPartition, used_both}
use Rattle.partition.specs.Releases.{Fewest, SameButRule}
use Rattle.partition.proofs.ReleaseSheets.{sheets-add, sheets-share}
use Rattle.planner.specs.declared.Plan.{Plan}
use Rattle.planner.specs.declared.EngineRecord.{EngineRecord}
use Rattle.planner.specs.Plan.{verdict_of, plan_loads}
use Rattle.planner.specs.Demands.{PlanPromises, ListPromises}
use Rattle.planner.proofs.Demands.{decides-of}
use Rattle.planner.specs.MixedDemands.{MixedPromises, MixedListPromises}
use Rattle.planner.specs.Releases.{Asked, AskedAny, AskedMixed, PlansAdd, PlansShare}

-- where there is a partition, the plan answers the fewest engines
partition-answered : {file : List ℕ} {y : System} {outcome : Outcome} → AskedAny file y outcome → (χ : Assignment) → Partition y (EngineOf y) (ceiling_no y) χ
    → (c : ℕ) × (outcome ≡ accepted (c ∷ [])) × Fewest y (EngineOf y) (ceiling_no y) c
partition-answered {y = y} q χ p =
    let a = q.decides.answered y q.reads q.table_long q.list_long χ p in
    (a.0, a.1, q.fewest a.0 a.1)

-- two numbers that are the fewest of the same are equal
fewest-once : {y : System} {E : ℕ → Type 0} {count : ℕ → ℕ} {r n : ℕ} → Fewest y E count r → Fewest y E count n → r ≡ n
fewest-once f g = le_antisymm (rw g.uses at (f.least g.mapping g.partition)) (rw f.uses at (g.least f.mapping f.partition))

-- what keeps demand 2 with its loads keeps it of the answer alone, and the number that it answers is the fewest engines
pub asked-any : (file : List ℕ) (y : System) (outcome : Outcome) → Asked file y outcome → AskedAny file y outcome
asked-any file y outcome q =
    record { table = q.table; room = q.room; reads = q.reads; table_long = q.table_long; list_long = q.list_long; decides = decides-of q.keeps; fewest = fewest }
  where
    fewest : (used : ℕ) → outcome ≡ accepted (used ∷ []) → Fewest y (EngineOf y) (ceiling_no y) used
    fewest used is =
        let f = q.keeps.given y used q.reads is in
        record { mapping = f.stands.mapping; partition = f.stands.partition; uses = f.uses; least = f.fewest }

-- main: of whatever answers as demand 2 has it, on the fewest engines

pub plans-add-any : (f1 f2 f3 : List ℕ) (first second both : System) (one two three : Outcome)
    → AskedAny f1 first one → AskedAny f2 second two → AskedAny f3 both three → PlansAdd first second both one two three
plans-add-any f1 f2 f3 first second both one two three q1 q2 q3 a b releases is1 is2 h =
    let r = sheets-add f1 f2 f3 first second both q1.reads q2.reads q3.reads releases a b (q1.fewest a is1) (q2.fewest b is2) h in
    let third = partition-answered q3 r.1.mapping r.1.partition in
    (third.0, third.1, rw (fewest-once third.2 r.1) r.2)

pub plans-share-any : (f1 f2 : List ℕ) (own shared : System) (one two : Outcome) → AskedAny f1 own one → AskedAny f2 shared two → PlansShare own shared one two
plans-share-any f1 f2 own shared one two q1 q2 a alike is =
    let r = sheets-share f1 f2 own shared q1.reads q2.reads alike a (q1.fewest a is) in
    let second = partition-answered q2 r.1.mapping r.1.partition in
    (second.0, second.1, rw (fewest-once second.2 r.1) r.2)

-- main

pub plans-add : (f1 f2 f3 : List ℕ) (first second both : System) (one two three : Outcome) → Asked f1 first one → Asked f2 second two → Asked f3 both three → PlansAdd first second both one two three
plans-add f1 f2 f3 first second both one two three q1 q2 q3 =
    plans-add-any f1 f2 f3 first second both one two three (asked-any f1 first one q1) (asked-any f2 second two q2) (asked-any f3 both three q3)

pub plans-share : (f1 f2 : List ℕ) (own shared : System) (one two : Outcome) → Asked f1 own one → Asked f2 shared two → PlansShare own shared one two
plans-share f1 f2 own shared one two q1 q2 = plans-share-any f1 f2 own shared one two (asked-any f1 own one q1) (asked-any f2 shared two q2)

-- `Asked` asks nothing but what a call was lent and promises: of the plan by value, and of the plan into a list
pub asked_of : (file : List ℕ) (table after : Lent) (y : System) (r : Plan) → read_file file ≡ opened y → LongEnough y table → PlanPromises (read_file file) table 16 r after → Asked file y (outcome_of r.answer)
asked_of file table after y r reads long p =
    record { table = table; room = 16; loads = r.loads; reads = reads; table_long = long; list_long = (read-limits file y reads).engines; keeps = p.demand2 }

pub asked-list : (file : List ℕ) (table after : Lent) (list list_after : List EngineRecord) (y : System) (answer : Answer) → read_file file ≡ opened y → LongEnough y table → y.engines ≤ length list
    → ListPromises (read_file file) table list answer after list_after → Asked file y (outcome_of answer)
asked-list file table after list list_after y answer reads long room p =
    record { table = table; room = length list; loads = plan_loads (verdict_of (read_file file) table (length list)); reads = reads; table_long = long; list_long = room; keeps = p.demand2 }

-- and of the plan into a list `AskedAny` asks what is said of the answer and of the list, and of no plan that is defined
pub asked-list-any : (file : List ℕ) (table after : Lent) (list list_after : List EngineRecord) (y : System) (answer : Answer) → read_file file ≡ opened y → LongEnough y table
    → y.engines ≤ length list → ListPromises (read_file file) table list answer after list_after → AskedAny file y (outcome_of answer)
asked-list-any file table after list list_after y answer reads long room p =
    record { table = table; room = length list; reads = reads; table_long = long; list_long = room; decides = p.decides; fewest = fewest }
  where
    fewest : (used : ℕ) → outcome_of answer ≡ accepted (used ∷ []) → Fewest y (EngineOf y) (ceiling_no y) used
    fewest used is =
        let f = p.holds.lists y used reads is in
        record { mapping = f.mapping; partition = f.partition; uses = f.uses; least = f.fewest }

-- ---- two kinds of engine: the same assignment is good under both rules, on the engines of either kind

-- of one type on one engine: the code once and the data of each are at most code and data of each
one-shared : (e s d : ℕ) (places : List ℕ) → cond (among places e) s 0 + over_instances e d places ≤ over_instances e (s + d) places
unfolding among over_instances
one-shared e s d [] = omega arith
one-shared e s d (place ∷ places) = go (eqb place e) (one-shared e s d places)
  where
    go : (b : Bool) → cond (among places e) s 0 + over_instances e d places ≤ over_instances e (s + d) places
        → cond (b || among places e) s 0 + (cond b d 0 + over_instances e d places) ≤ cond b (s + d) 0 + over_instances e (s + d) places
    go true h = omega (arith, h)
    go false h = omega (arith, h)

-- so of all types
sums-shared : (f g h : TaskType → List ℕ → ℕ) → ((t : TaskType) (places : List ℕ) → f t places + g t places ≤ h t places) → (types : List TaskType) (χ : Assignment) → sum_on f types χ + sum_on g types χ ≤ sum_on h types χ
unfolding sum_on
sums-shared f g h each [] χ = omega arith
sums-shared f g h each (t ∷ types) [] = omega arith
sums-shared f g h each (t ∷ types) (places ∷ χ) = omega (arith, each t places, sums-shared f g h each types χ)

shared-here : (e : ℕ) (types : List TaskType) (χ : Assignment) → shared_memory_on e types χ ≤ memory_on e types χ
shared-here e types χ =
    sums-shared (λ t places. cond (among places e) t.memory 0) (λ t places. over_instances e t.data places) (λ t places. over_instances e (t.memory + t.data) places)
    (λ t places. one-shared e t.memory t.data places) types χ

shared-there : (e : ℕ) (types : List TaskType) (χ : Assignment) → shared_there_on e types χ ≤ memory_there_on e types χ
shared-there e types χ =
    sums-shared (λ t places. cond (among places e) (memory_there t.there) 0) (λ t places. over_instances e t.data places) (λ t places. over_instances e (memory_there t.there + t.data) places)
    (λ t places. one-shared e (memory_there t.there) t.data places) types χ

pub mixed-rule-aside : (own shared : System) (k : Kind) → SameButRule own shared → (count : ℕ → ℕ) (χ : Assignment) → MixedPartition own k count χ → MixedPartition shared k count χ
mixed-rule-aside own shared k alike count χ p =
    let d = p.keeps in
    record {
      six = p.six;
      all = p.all;
      keeps = record {
        placed = λ t j h l. rw alike.engines (d.placed t j h l);
        time = λ e f. rw (alike.timecap, alike.types) (d.time e (rw alike.engines at f));
        time_second = λ e f. rw alike.types (d.time_second e (rw alike.engines at f));
        own_copies = λ r e f. absurd (omega (arith, alike.shared_code, r));
        own_copies_second = λ r e f. absurd (omega (arith, alike.shared_code, r));
        shared_code = λ r e f. rw (alike.memorycap, alike.types) (le_trans (shared-here e own.types χ) (d.own_copies alike.own_copies e (rw alike.engines at f)));
        shared_code_second = λ r e f. rw alike.types (le_trans (shared-there e own.types χ) (d.own_copies_second alike.own_copies e (rw alike.engines at f)));
        separate = λ t q is e f. d.separate t q (rw alike.types at is) e (rw alike.engines at f);
      };
    }

-- main

pub mixed-plans-share : (f1 f2 : List ℕ) (own shared : System) (k j : Kind) (one two : Outcome) → AskedMixed f1 own k one → AskedMixed f2 shared j two → PlansShare own shared one two
mixed-plans-share f1 f2 own shared k j one two q1 q2 a alike is =
    let kinds : Some k ≡ Some j = sym q1.second ∙ sym alike.second ∙ q2.second in
    let same : k ≡ j = cc in
    let first = (q1.given a is).2 in
    let aside = mixed-rule-aside own shared k alike (ceiling_no own) first.mapping first.partition in
    let all : MixedPartition shared k (ceiling_no shared) first.mapping =
    record { six = aside.six; all = λ t low. aside.all t low ∙ ap (λ (ts : List TaskType). (get_or ts (t - 1) no_type).ceiling) (sym alike.types); keeps = aside.keeps } in
    let p = subst (λ (i : Kind). MixedPartition shared i (ceiling_no shared) first.mapping) same all in
    let second = q2.answered first.mapping p in
    let least = (q2.given second.0 second.1).2.fewest first.mapping p in
    let uses : used_both shared j first.mapping ≡ a = ap (λ (i : Kind). used_both shared i first.mapping) (sym same) ∙ rw alike.engines first.uses in
    (second.0, second.1, omega (arith, least, uses))

-- `AskedMixed` asks nothing but what a call promises of such a card, where table and list are long enough: of the plan by value, and of the plan into a list
pub asked-mixed : (file : List ℕ) (table after : Lent) (y : System) (k : Kind) (r : Plan) → read_card file ≡ opened y → y.second ≡ Some k → LongEnough y table → MixedPromises y k table 16 r after
    → AskedMixed file y k (outcome_of r.answer)
asked-mixed file table after y k r reads two long p =
    record { reads = reads; second = two; answered = p.demand2.answered long (both-engines y k (read-keeps-card file y reads) two); given = λ used o. (r.numbers, r.loads, p.demand2.given used o) }

pub asked-mixed-list : (file : List ℕ) (table after : Lent) (list list_after : List EngineRecord) (y : System) (k : Kind) (answer : Answer) → read_card file ≡ opened y → y.second ≡ Some k → LongEnough y table
    → y.engines + k.number ≤ length list → MixedListPromises y k table list answer after list_after → AskedMixed file y k (outcome_of answer)
asked-mixed-list file table after list list_after y k answer reads two long room p =
    record { reads = reads; second = two; answered = p.answered long room; given = λ used o. (let l = p.holds.lists used o in (l.0, l.1, l.2)) }
