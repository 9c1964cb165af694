-- What the chains of the check answer, and one turn and the end of each of its loops.
use Rattle.std.proofs.Common.{Option, None, Some, Ok}
use Rattle.std.specs.List.{list_all, zip, filter}
use Rattle.std.specs.Cmp.Lexicographic.{pointwise}
use Prim.Native.Nat.{ℕ, suc, ◌+◌, ◌-◌, ◌≤◌, ◌<◌}
use mathlib.Core.Path.{◌≡◌, refl, sym, ap, ◌∙◌}
use mathlib.Core.List.{List, [], ◌∷◌, ◌++◌, append-nil}
use mathlib.Core.Bool.{Bool, true, false, cond, not, ◌&&◌}
use native.Mathlib.Nat.{zero-add}
use native.Mathlib.Numerals.{add-one}
use native.Mathlib.Omega.{arith}
use lib.ListN.{length, take, drop, set, length-append, length-drop}
use lib.Seq.{take-suc-set, append_snoc, take_all, take_at}
use lib.Dec.{leb, eqb}
use Rattle.buffer.specs.Written.{Puts}
use Rattle.system.specs.declared.TaskType.{TaskType}
use Rattle.system.specs.Layout.{byte_at, read_file}
use Rattle.system.specs.Limits.{engine_limit}
use Rattle.system.specs.Outcome.{outcome_of}
use Rattle.partition.specs.Lent.{Lent}
use Rattle.planner.specs.declared.Plan.{Plan}
use Rattle.planner.specs.Plan.{Verdict, unplanned, planned, verdict_of, plan_outcome}
use Rattle.planner.specs.Demands.{PlanPromises}
use Rattle.loads.specs.declared.EngineLoad.{EngineLoad}
use Rattle.loads.specs.Load.{idle_engine, holds_none}
use Rattle.loads.proofs.Steps.{ceilings}
use Rattle.partition.specs.Listing.{same_list}
use Rattle.table.specs.Parts.{up_to}
use Rattle.sheets.specs.declared.Taken.{Taken}
use Rattle.partition.specs.Shares.{used_loads}
use Rattle.sheets.specs.Sheet.{used_in, record_rule, field_size, stated_load, is_next, taken_at, loads_from}

-- what `==` of two slices of numbers answers
pub same-pointwise : (a b : List ℕ) → pointwise eqb a b ≡ same_list eqb a b
unfolding same_list
same-pointwise [] [] = refl
same-pointwise [] (y ∷ b) = refl
same-pointwise (x ∷ a) [] = refl
same-pointwise (x ∷ a) (y ∷ b) = ap (λ (p : Bool). eqb x y && p) (same-pointwise a b)

-- totals and ceilings
pub totals-zip : (sum : List ℕ) (ts : List TaskType) → length sum ≡ length ts → list_all (λ (p : ℕ × TaskType). eqb p.0 p.1.ceiling) (zip sum ts) ≡ same_list eqb sum (ceilings ts)
unfolding same_list
totals-zip [] [] h = refl
totals-zip [] (t ∷ ts) h = absurd (omega arith)
totals-zip (x ∷ sum) [] h = absurd (omega arith)
totals-zip (x ∷ sum) (t ∷ ts) h = ap (λ (p : Bool). eqb x t.ceiling && p) (totals-zip sum ts (omega arith))

-- the engines that hold an instance
pub used-filter : (ls : List EngineLoad) → length (filter (λ (l : EngineLoad). not (holds_none l.counts)) ls) ≡ used_in ls
unfolding used_loads
used-filter [] = refl
used-filter (l ∷ ls) = go (holds_none l.counts) (used-filter ls)
  where
    rest : List EngineLoad
    rest = filter (λ (k : EngineLoad). not (holds_none k.counts)) ls

    go : (b : Bool) → length rest ≡ used_in ls → length (cond (not b) (l ∷ rest) rest) ≡ cond b (used_in ls) (suc (used_in ls))
    go true e = e
    go false e = ap suc e

-- a list of numbers filled from its start
pub up_to-turn : (f : ℕ → ℕ) (l : List ℕ) (t v : ℕ) → t < length l → v ≡ f t → take t l ≡ up_to f t → take (t + 1) (set l t v) ≡ up_to f (t + 1)
unfolding up_to
up_to-turn f l t v h e done = rw (add-one t, take-suc-set l t v, done, e)

-- engines filled from their start: those taken, then those that are left
pub loads-turn : (m k : ℕ) (sheet : List ℕ) (at i : ℕ) (l : List EngineLoad) → i < length l → i < 16
    → take (i + 1) (set l i (taken_at m k sheet at (i + 1)).load) ++ loads_from m k sheet (taken_at m k sheet at (i + 1)).next (i + 1 + 1) (16 - (i + 1)) ≡ take i l ++ loads_from m k sheet at (i + 1) (16 - i)
unfolding loads_from
loads-turn m k sheet at i l h small =
    let left : 16 - i ≡ suc (16 - (i + 1)) = omega arith in
    let taken = taken_at m k sheet at (suc i) in
    rw (left, add-one i, add-one (suc i), take-suc-set l i taken.load) (append_snoc (take i l) taken.load (loads_from m k sheet taken.next (suc (suc i)) (16 - suc i)))

pub loads-end : (m k : ℕ) (sheet : List ℕ) (at e i : ℕ) (l : List EngineLoad) → length l ≤ i → i ≡ 16 → take i l ++ loads_from m k sheet at e (16 - i) ≡ l
unfolding loads_from
loads-end m k sheet at e i l h all =
    let none : 16 - i ≡ 0 = omega arith in
    rw (none, append-nil) (take_all i l h)

-- the place moves by at most one record
pub taken-near : (m k : ℕ) (sheet : List ℕ) (at e : ℕ) → k ≤ 6 → (taken_at m k sheet at e).next ≤ at + 24
unfolding taken_at
taken-near m k sheet at e few = go (is_next m (drop at sheet) e)
  where
    go : (b : Bool) → (cond {A = Taken} b (record { load = stated_load k (drop at sheet); next = at + field_size record_rule k }) (record { load = idle_engine; next = at })).next ≤ at + 24
    go true = omega arith
    go false = omega arith

-- what is taken, from what the code reads at the place
module _ (m k : ℕ) (sheet : List ℕ) (at e : ℕ) (rest : List ℕ) (is : rest ≡ drop at sheet) (number : ℕ) (read : number ≡ byte_at rest 3) where
  pub taken_yes : (eqb number e && leb e m) ≡ true → (l : EngineLoad) → l ≡ stated_load k rest → (size : ℕ) → size ≡ field_size record_rule k → ◌≡◌ {A = Taken} (record { load = l; next = at + size }) (taken_at m k sheet at e)
  unfolding taken_at
  taken_yes test l loaded size sized = rw (← is, ← read, test, loaded, sized)

  pub taken-no : (eqb number e && leb e m) ≡ false → (l : EngineLoad) → l ≡ idle_engine → ◌≡◌ {A = Taken} (record { load = l; next = at }) (taken_at m k sheet at e)
  unfolding taken_at
  taken-no test l idle = rw (← is, ← read, test, idle)

-- what was put at the start of a buffer
pub put_front : {bytes old new : List ℕ} {r : ℕ} → Puts bytes 0 old new r → take r new ≡ bytes
put_front {bytes = bytes} {old = old} {r = r} p = rw p.left (take_at bytes (drop (0 + length bytes) old) r (sym (p.next ∙ zero-add (length bytes))))

pub put-within : {bytes old new : List ℕ} {r : ℕ} → Puts bytes 0 old new r → length new ≡ length old → r ≤ length new
put-within {bytes = bytes} {old = old} p kept =
    omega (arith, p.next, kept, ap length p.left, length-append bytes (drop (0 + length bytes) old), length-drop (0 + length bytes) old)

-- a plan that is not refused has a number
pub accepted-number : (file : List ℕ) (table : Lent) (r : Plan) (after : Lent) → PlanPromises (read_file file) table engine_limit r after → {v : Option ℕ} → r.answer ≡ Ok v → (n : ℕ) × (r.answer ≡ Ok (Some n))
accepted-number file table r after p {v = v} is = go v (verdict_of (read_file file) table engine_limit) (sym p.answers ∙ ap outcome_of is) is
  where
    go : (w : Option ℕ) (x : Verdict) → plan_outcome x ≡ outcome_of (Ok w) → r.answer ≡ Ok w → (n : ℕ) × (r.answer ≡ Ok (Some n))
    go (Some n) x o e = (n, e)
    go None (planned y) o e = let z : ◌≡◌ {A = ℕ} 0 1 = cc in absurd (omega arith)
    go None (unplanned s n) o e = let z : ◌≡◌ {A = ℕ} 0 1 = cc in absurd (omega arith)
