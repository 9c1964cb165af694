-- The two rules side by side (request 2026-09): shared code never takes more memory than own copies, of one type and of a whole load.
use Prim.Native.Nat.{ℕ, ◌+◌, ◌*◌, ◌≤◌, zero-le}
use mathlib.Core.Path.{◌≡◌, refl}
use mathlib.Core.List.{List, [], ◌∷◌}
use mathlib.Core.Bool.{Bool, true, false, cond}
use native.Mathlib.Nat.{add-le-add, mul-add, mul-le-mul_right}
use native.Mathlib.Omega.{arith}
use borrow.Author.Tests.{eqb-false}
use lib.Dec.{eqb}
use Rattle.system.specs.declared.TaskType.{TaskType}
use Rattle.loads.specs.Load.{sum_over, memory_at, memory_of}

-- of one type: the first instance brings the same under both rules, each later one under rule 1 its data alone
one-type-shared : (t : TaskType) (x : ℕ) → memory_at 1 t x ≤ memory_at 0 t x
one-type-shared t x = go (eqb x 0) refl
  where
    go : (e : Bool) → eqb x 0 ≡ e → cond e 0 (t.memory + x * t.data) ≤ cond e 0 (x * (t.memory + t.data))
    go true p = zero-le
    go false p =
        let some : 1 ≤ x = omega (arith, eqb-false x 0 p) in
        omega (arith, mul-add x t.memory t.data, mul-le-mul_right t.memory some)

sum_below : (each other : TaskType → ℕ → ℕ) → ((t : TaskType) (x : ℕ) → each t x ≤ other t x) → (ts : List TaskType) (xs : List ℕ) → sum_over each ts xs ≤ sum_over other ts xs
unfolding sum_over
sum_below each other h [] xs = zero-le
sum_below each other h (t ∷ ts) [] = zero-le
sum_below each other h (t ∷ ts) (x ∷ xs) = add-le-add (h t x) (sum_below each other h ts xs)

-- main: a load under rule 1 takes at most what it takes under rule 0
pub memory-shared : (ts : List TaskType) (xs : List ℕ) → memory_of 1 ts xs ≤ memory_of 0 ts xs
memory-shared ts xs = sum_below (memory_at 1) (memory_at 0) one-type-shared ts xs
