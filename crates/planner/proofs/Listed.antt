-- What the lent list holds after a plan into it, and that a call that leaves it so keeps the demands.
use Prim.Native.Nat.{ℕ, ◌+◌, ◌-◌, ◌<◌, ◌≤◌}
use mathlib.Core.Path.{◌≡◌, refl, sym, ap, subst, ◌∙◌}
use mathlib.Core.List.{List, [], ◌∷◌}
use mathlib.Core.Bool.{true}
use native.Mathlib.Omega.{arith}
use lib.ListN.{length, get_or}
use Rattle.system.specs.declared.TaskType.{TaskType}
use Rattle.system.specs.declared.System.{System}
use Rattle.system.specs.Outcome.{Answer, accepted, refused, from_input, outcome_of}
use Rattle.system.specs.Limits.{engine_limit}
use Rattle.system.specs.Layout.{Reading, opened, unread, read_file}
use Rattle.system.proofs.Laws.{Limits, read-limits}
use Rattle.loads.specs.declared.EngineLoad.{EngineLoad}
use Rattle.partition.specs.Assignment.{Assignment}
use Rattle.partition.specs.Lent.{Lent}
use Rattle.partition.specs.OwnWords.{over_instances}
use Rattle.partition.specs.Plain.{ceiling_no, LongEnough, places_no, RecordIs, record_no}
use Rattle.table.specs.Table.{filled}
use Rattle.table.specs.Meaning.{RecoveredBy}
use Rattle.planner.specs.declared.EngineRecord.{EngineRecord}
use Rattle.planner.specs.Plan.{plan_engines, Verdict, planned, unplanned, verdict_of, used_engines, plan_outcome, plan_loads, plan_table, record_of, records_of, plan_list}
use Rattle.planner.specs.Demands.{entry_no, ListsPlan, ListHolds, ListPromises}
use Rattle.planner.proofs.Front.{front, length-front-of, get_or-front-new, get_or-front-old}
use Rattle.planner.proofs.Records.{length-records_from, get_or-records_of}
use Rattle.planner.proofs.Cases.{can_place, on-fewest, few-used, length-loads, six-counts, recovered-out, idle-load, Case, too_short, too_small, no_place, is_planned, case_of}
use Rattle.planner.proofs.Demands.{nothing-at, Known, plan-in-order, plan-demand1, plan-decides, plan-demand2, verdict-same}

-- where a type has no instance, none is anywhere
no-places : (e : ℕ) (places : List ℕ) → length places ≡ 0 → over_instances e 1 places ≡ 0
unfolding over_instances
no-places e [] h = refl
no-places e (p ∷ ps) h = absurd (omega arith)

-- ---- a plan that is given, in a list that is long enough

module _ (list : List EngineRecord) (y : System) (limits : Limits y) (enough : y.engines ≤ length list) (can : can_place y ≡ true) where
  abbrev row : ℕ
  row = used_engines (planned y)

  abbrev loads : List EngineLoad
  loads = plan_loads (planned y)

  abbrev after : List EngineRecord
  after = plan_list (planned y) list

  in-loads : row ≤ length loads
  in-loads = omega (arith, few-used y limits can, length-loads y limits can, limits.engines)

  in-records : row ≤ length (records_of loads)
  in-records = rw length-records_from in-loads

  in_list : row ≤ length list
  in_list = omega (arith, few-used y limits can, enough)

  as_long_lem : length after ≡ length list
  as_long_lem = length-front-of row (records_of loads) list in-records in_list

  -- the record of engine e
  entry-is : (e : ℕ) → 1 ≤ e → e ≤ row → entry_no after e ≡ record_of e (record_no loads e)
  entry-is e low high =
      get_or-front-new row (e - 1) (records_of loads) list _ in-records (omega arith)
      ∙ get_or-records_of loads (e - 1) _ (record { time = 0; memory = 0; counts = [] }) (omega (arith, in-loads))
      ∙ ap (λ (n : ℕ). record_of n (record_no loads e)) (omega arith)

  later-kept : (e : ℕ) → row < e → entry_no after e ≡ entry_no list e
  later-kept e h = get_or-front-old row (e - 1) (records_of loads) list _ in-records (omega arith)

  abbrev χ : Assignment
  χ = (on-fewest y limits can).stands.mapping

  record_is : (e : ℕ) → 1 ≤ e → e ≤ engine_limit → RecordIs y χ e (record_no loads e)
  record_is e low high = (on-fewest y limits can).stands.records e low (rw (length-loads y limits can) high)

  up_to : (e : ℕ) → e ≤ y.engines → e ≤ engine_limit
  up_to e h = omega (arith, limits.engines)

  used-up-to : (e : ℕ) → e ≤ row → e ≤ engine_limit
  used-up-to e h = up_to e (omega (arith, few-used y limits can))

  zero-past : (e t : ℕ) → 1 ≤ e → e ≤ row → y.typecount < t → get_or (record_no loads e).counts (t - 1) 0 ≡ 0
  zero-past e t low high h =
      (record_is e low (used-up-to e high)).counts t (omega arith)
      ∙ no-places e (places_no χ t) ((on-fewest y limits can).stands.partition.all t (omega arith) ∙ ap (λ (k : TaskType). k.ceiling) (limits.past (t - 1) (omega arith)))

  none-later : (e t : ℕ) → row < e → e ≤ y.engines → 1 ≤ t → over_instances e 1 (places_no χ t) ≡ 0
  none-later e t h last low = sym ((record_is e (omega arith) (up_to e last)).counts t low) ∙ (nothing-at loads e (idle-load y (e - 1) (omega arith))).counts t

  lists-plan : ListsPlan y row after
  lists-plan = record {
    mapping = χ;
    partition = (on-fewest y limits can).stands.partition;
    uses = (on-fewest y limits can).uses;
    fewest = (on-fewest y limits can).fewest;
    number = λ e low high. ap (λ (r : EngineRecord). r.number) (entry-is e low high);
    load = λ e low high. subst (λ (r : EngineRecord). RecordIs y χ e r.load) (sym (entry-is e low high)) (record_is e low (used-up-to e high));
    six_counts = λ e low high. ap (λ (r : EngineRecord). length r.load.counts) (entry-is e low high) ∙ six-counts y limits can e low (used-up-to e high);
    zero_past = λ e t low high h. ap (λ (r : EngineRecord). get_or r.load.counts (t - 1) 0) (entry-is e low high) ∙ zero-past e t low high h;
    none_later = none-later;
  }

  planned-holds : ListHolds (opened y) list (plan_outcome (planned y)) after
  planned-holds = record {
    as_lent = λ s k o. (let z : ◌≡◌ {A = ℕ} 0 1 = cc in absurd (omega arith));
    as_long = as_long_lem;
    inside = λ used o. (let same : row ≡ used = cc in omega (arith, in_list));
    lists = λ d used e o. (let same : row ≡ used = cc in let own : y ≡ d = cc in subst (λ (z : System). ListsPlan z used after) own (subst (λ (n : ℕ). ListsPlan y n after) same lists-plan));
    later_kept = λ used e o h. (let same : row ≡ used = cc in later-kept e (omega arith));
  }

  list-recovers : (table : Lent) → LongEnough y table → RecoveredBy y (filled y (plan_engines y) table) row (ceiling_no y) (λ (e t : ℕ). get_or (entry_no after e).load.counts (t - 1) 0)
  list-recovers table long =
      let r = recovered-out y limits can table long in
      record {
        column = r.column;
        starts = r.starts;
        lowest_row = r.lowest_row;
        down = r.down;
        gets = λ i t h. ap (λ (z : EngineRecord). get_or z.load.counts (t - 1) 0) (entry-is (i + 1) (omega arith) (omega arith)) ∙ r.gets i t h;
      }

-- ---- any file

unplanned-holds : (list : List EngineRecord) (x : Reading) (n : ℕ) → ListHolds x list (refused from_input n) list
unplanned-holds list x n = record {
  as_lent = λ s k o. refl;
  as_long = refl;
  inside = λ used o. (let z : ◌≡◌ {A = ℕ} 0 1 = cc in absurd (omega arith));
  lists = λ y used e o. (let z : ◌≡◌ {A = ℕ} 0 1 = cc in absurd (omega arith));
  later_kept = λ used e o h. refl;
}

pub plan-list-holds : (list : List EngineRecord) (table : Lent) (x : Reading) → Known x → ListHolds x list (plan_outcome (verdict_of x table (length list))) (plan_list (verdict_of x table (length list)) list)
unfolding verdict_of
plan-list-holds list table (unread n) known = unplanned-holds list (unread n) n
plan-list-holds list table (opened y) known = go (case_of y (known y refl) table (length list))
  where
    go : {v : Verdict} {after : Lent} → Case y table (length list) v after → ListHolds (opened y) list (plan_outcome v) (plan_list v list)
    go (too_short short) = unplanned-holds list (opened y) 11
    go (too_small long small) = unplanned-holds list (opened y) 15
    go (no_place long enough none) = unplanned-holds list (opened y) 12
    go (is_planned long enough can) = planned-holds list y (known y refl) enough can

plan-list-recovers : (list : List EngineRecord) (table : Lent) (x : Reading) → Known x → (y : System) (used : ℕ) → x ≡ opened y → plan_outcome (verdict_of x table (length list)) ≡ accepted (used ∷ [])
    → RecoveredBy y (plan_table x table (length list)) used (ceiling_no y) (λ (e t : ℕ). get_or (entry_no (plan_list (verdict_of x table (length list)) list) e).load.counts (t - 1) 0)
plan-list-recovers list table x known y used e = rw e (go (known y e) (case_of y (known y e) table (length list)))
  where
    go : Limits y → {v : Verdict} {after : Lent} → Case y table (length list) v after → plan_outcome v ≡ accepted (used ∷ []) → RecoveredBy y after used (ceiling_no y) (λ (d t : ℕ). get_or (entry_no (plan_list v list) d).load.counts (t - 1) 0)
    go limits (too_short short) o = let z : ◌≡◌ {A = ℕ} 0 1 = cc in absurd (omega arith)
    go limits (too_small long small) o = let z : ◌≡◌ {A = ℕ} 0 1 = cc in absurd (omega arith)
    go limits (no_place long enough none) o = let z : ◌≡◌ {A = ℕ} 0 1 = cc in absurd (omega arith)
    go limits (is_planned long enough can) o =
        let same : used_engines (planned y) ≡ used = cc in
        subst (λ (n : ℕ). RecoveredBy y (filled y (plan_engines y) table) n (ceiling_no y) (λ (d t : ℕ). get_or (entry_no (plan_list (planned y) list) d).load.counts (t - 1) 0)) same
        (list-recovers list y limits enough can table long)

-- ---- so a call whose result is the one defined keeps the demands

pub list-promises-for : (x : Reading) → Known x → (table : Lent) (list : List EngineRecord) (answer : Answer) (table_after : Lent) (list_after : List EngineRecord)
    → outcome_of answer ≡ plan_outcome (verdict_of x table (length list))
    → table_after ≡ plan_table x table (length list)
    → list_after ≡ plan_list (verdict_of x table (length list)) list
    → ListPromises x table list answer table_after list_after
list-promises-for x known table list answer table_after list_after a t l = record {
  answers = a;
  leaves_table = t;
  leaves_list = l;
  order = rw a (plan-in-order table (length list) x known);
  demand1 = rw (a, t) (plan-demand1 table (length list) x known);
  demand2 = rw a (plan-demand2 table (length list) x known);
  decides = rw a (plan-decides table (length list) x known);
  holds = rw (a, l) (plan-list-holds list table x known);
  recovers = rw (a, t, l) (plan-list-recovers list table x known);
}

-- "What the table held before changes no answer": two plans of a file into the same list, each over a table that is long enough
pub list-any-table : (file : List ℕ) (table other : Lent) (list : List EngineRecord) (a b : Answer) (after last : Lent) (l k : List EngineRecord) → ListPromises (read_file file) table list a after l → ListPromises (read_file file) other list b last k
    → ((y : System) → read_file file ≡ opened y → LongEnough y table × LongEnough y other) → (outcome_of a ≡ outcome_of b) × (l ≡ k)
list-any-table file table other list a b after last l k p q long =
    let same = verdict-same (read_file file) (read-limits file) table other (length list) long in
    (p.answers ∙ ap plan_outcome same ∙ sym q.answers, p.leaves_list ∙ ap (λ (v : Verdict). plan_list v list) same ∙ sym q.leaves_list)

-- writing the first records over the list's front makes it the defined one
pub list_written : (v : Verdict) (list : List EngineRecord) (used : ℕ) (records : List EngineRecord) → used ≡ used_engines v → records ≡ records_of (plan_loads v) → front used records list ≡ plan_list v list
list_written (planned y) list used records u r = rw (u, r)
list_written (unplanned s n) list used records u r = rw u
