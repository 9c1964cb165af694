-- One law for each way in which a plan ends: what the code hands out there is what the plan is defined as.
use Rattle.std.proofs.Common.{Option, None, Some, Result, Ok, Err}
use Rattle.std.specs.Option.{ok_or, unwrap_or}
use Rattle.std.specs.Result.{is_err, result_err}
use Prim.Native.Nat.{ℕ}
use mathlib.Core.Path.{◌≡◌, refl, sym, ap, ◌∙◌}
use mathlib.Core.Bool.{true, false, false≢true}
use Rattle.system.specs.declared.System.{System}
use Rattle.system.specs.declared.Opened.{Opened}
use Rattle.system.specs.declared.Refusal.{Refusal}
use Rattle.system.specs.declared.Refusal.TheVariants.{Input, State}
use Rattle.system.specs.Values.{ceilings_of}
use Rattle.system.specs.Limits.{engine_limit}
use Rattle.system.specs.Layout.{Reading, opened, unread, Reads}
use Rattle.system.specs.Outcome.{outcome_of, refused, from_input, refusal_of, Checked, passes, and_then, fails_with}
use Rattle.system.proofs.Laws.{unread-with}
use Rattle.partition.specs.Assignment.{engines_to}
use Rattle.partition.specs.ForSystem.{placeable}
use Rattle.partition.specs.Lent.{Lent}
use Rattle.table.proofs.Placed.{placed-some, placed-none}
use Rattle.table.specs.declared.Placement.{Placement}
use Rattle.table.specs.Table.{filled, placement}
use Rattle.planner.specs.declared.Plan.{Plan}
use Rattle.planner.specs.Plan.{plan_engines, place_check, lent_check, Verdict, planned, unplanned, judged, verdict_of, used_engines, plan_outcome, planned_types, plan_loads, table_left, plan_table}
use Rattle.planner.specs.Inner.{refused_plan}

-- the plan and the table after it are those that are defined
pub record Plans (x : Reading) (table : Lent) (room : ℕ) (r : Plan) (after : Lent) : Type 0 where
  pub answer : outcome_of r.answer ≡ plan_outcome (verdict_of x table room)
  pub used : r.used ≡ used_engines (verdict_of x table room)
  pub typecount : r.typecount ≡ planned_types (verdict_of x table room)
  pub numbers : r.numbers ≡ engines_to engine_limit
  pub loads : r.loads ≡ plan_loads (verdict_of x table room)
  pub left : after ≡ plan_table x table room

-- what the code hands out where the instances cannot be placed, and where they are placed
abbrev none_plan : Plan
none_plan = refused_plan (Err (Input 12))

abbrev given_plan : System → Placement → Plan
given_plan y p = record { answer = Ok (Some p.used); used = p.used; typecount = y.typecount; numbers = engines_to engine_limit; loads = p.loads }

-- ---- what `ok_or` refuses where nothing is placed

pub refused-by : {T E : Type 0} (o : Option T) (e : E) {w : E} → ok_or o e ≡ Err w → (None ≡ o) × (w ≡ e)
refused-by {T = T} {E = E} None e q = (refl, ap (λ (r : Result T E). unwrap_or (result_err r) e) (sym q))
refused-by (Some y) e q = absurd (false≢true (ap is_err q))

-- ---- a file that was refused

number-plans : (x : Reading) (n : ℕ) → x ≡ unread n → (table : Lent) (room : ℕ) (why : Refusal) → refusal_of why ≡ refused from_input n → Plans x table room (refused_plan (Err why)) table
unfolding verdict_of
number-plans x n is table room why number = record { answer = number ∙ rw is; used = rw is; typecount = rw is; numbers = refl; loads = rw is; left = rw is }

-- the answer of the reader is that of the plan
pub unread-plans : (x : Reading) (r : Opened) → Reads x r → (table : Lent) (room : ℕ) (why : Refusal) → r.answer ≡ Err why → Plans x table room (refused_plan (Err why)) table
unread-plans x r reads table room why h =
    let (n, is, number) = unread-with x r reads why h in
    number-plans x n is table room why number

-- ---- a file that reads as y

module _ (x : Reading) (y : System) (is : x ≡ opened y) (table : Lent) (room : ℕ) where
  -- by what the checks of what is lent say
  verdict-by : (c : Checked) → c ≡ lent_check y table room → verdict_of x table room ≡ judged y (and_then c (place_check y))
  unfolding verdict_of
  verdict-by c e = rw (is, e)

  table-by : (c : Checked) → c ≡ lent_check y table room → plan_table x table room ≡ table_left c table (filled y (plan_engines y) table)
  table-by c e = rw (is, e)

  plans-of : (v : Verdict) → verdict_of x table room ≡ v → (r : Plan) (after : Lent) → outcome_of r.answer ≡ plan_outcome v → r.used ≡ used_engines v → r.typecount ≡ planned_types v → r.numbers ≡ engines_to engine_limit
      → r.loads ≡ plan_loads v → plan_table x table room ≡ after → Plans x table room r after
  plans-of v same r after a u t n l left = record { answer = rw same a; used = rw same u; typecount = rw same t; numbers = n; loads = rw same l; left = sym left }

  -- 11 or 15
  pub lent-plans : (why : Refusal) → fails_with why ≡ lent_check y table room → Plans x table room (refused_plan (Err why)) table
  lent-plans (Input n) failed = plans-of _ (verdict-by _ failed) _ _ refl refl refl refl refl (table-by _ failed)
  lent-plans (State n) failed = plans-of _ (verdict-by _ failed) _ _ refl refl refl refl refl (table-by _ failed)

  -- with the placement of all instances
  module _ (passed : passes ≡ lent_check y table room) where
    pub none-plans : None ≡ placement y (plan_engines y) (ceilings_of y) → Plans x table room none_plan (filled y (plan_engines y) table)
    unfolding placement
    none-plans h =
        let cannot : placeable y (plan_engines y) (ceilings_of y) ≡ false = placed-none _ h in
        plans-of (unplanned from_input 12) (verdict-by passes passed ∙ rw cannot) _ _ refl refl refl refl refl (table-by passes passed)

    pub placed-plans : (p : Placement) → Some p ≡ placement y (plan_engines y) (ceilings_of y) → Plans x table room (given_plan y p) (filled y (plan_engines y) table)
    unfolding placement
    placed-plans p h =
        let can : placeable y (plan_engines y) (ceilings_of y) ≡ true = (placed-some h).0 in
        let same = (placed-some h).1 in
        let used : p.used ≡ used_engines (planned y) = ap (λ (q : Placement). q.used) same in
        let loads : p.loads ≡ plan_loads (planned y) = ap (λ (q : Placement). q.loads) same in
        plans-of (planned y) (verdict-by passes passed ∙ rw can) _ _ (cc) used refl refl loads (table-by passes passed)
