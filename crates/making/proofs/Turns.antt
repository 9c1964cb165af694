-- Laws of the loops: a power that is not made where it passes the limit, and the system with one type more.
use Prim.Native.Nat.{ℕ, zero, suc, ◌+◌, ◌*◌, ◌/◌, ◌%◌, ◌^◌, ◌≤◌, ◌<◌}
use mathlib.Core.Path.{◌≡◌, refl, ap}
use mathlib.Core.Bool.{false}
use native.Mathlib.Nat.{mod-lt, mul_comm, pow-suc, pow-le-pow_right, div-lt_iff_lt-mul, le-div_iff_mul-le}
use native.Mathlib.Omega.{arith}
use borrow.Author.Tests.{lt-leb}
use lib.ListN.{length, length-set}
use lib.Dec.{leb}
use Rattle.system.specs.declared.TaskType.{TaskType}
use Rattle.system.specs.declared.System.{System}
use Rattle.system.specs.Values.{with_type}
use Rattle.system.specs.Limits.{column_limit}
use Rattle.making.specs.declared.Recipe.{Recipe}
use Rattle.making.specs.Generator.{step, value_after}
use Rattle.making.specs.Making.{drawn_from, drawn_to}

-- main: the power of g + 1

module _ (top p : ℕ) (some : 1 ≤ p) where
  -- the next product is within the limit exactly where g is below this quotient
  pub next_past : column_limit / p ≤ top → column_limit < p * (top + 1)
  next_past h =
      let over : column_limit < (top + 1) * p = (div-lt_iff_lt-mul {k = p} {x = column_limit} some).0 (omega arith) in
      omega (arith, over, mul_comm p (top + 1))

  pub next_small : top < column_limit / p → p * (top + 1) ≤ column_limit
  next_small h =
      let within : (top + 1) * p ≤ column_limit = (le-div_iff_mul-le {k = p} {x = top + 1} {y = column_limit} some).0 (omega arith) in
      omega (arith, within, mul_comm p (top + 1))

module _ (base times t : ℕ) (some : 1 ≤ base) where
  -- one factor more only makes it larger
  pub power-past : t < times → column_limit < base ^ t * base → leb (base ^ times) column_limit ≡ false
  power-past h over =
      let up : base ^ suc t ≤ base ^ times = pow-le-pow_right {n = base} some {i = suc t} {j = times} h in
      lt-leb (base ^ times) column_limit (omega (arith, pow-suc base t))

-- main: what is drawn

-- a remainder, and one more, where the divisor is not 0
pub drawn-small : (x u : ℕ) → 1 ≤ u → 1 + x % u ≤ u
drawn-small x u some = omega (arith, mod-lt x some)

pub drawn-below : (x g : ℕ) → x % (g + 1) ≤ g
drawn-below x g = omega (arith, mod-lt x {m = g + 1} (omega arith))

pub drawn-count : (w : Recipe) (t : ℕ) → (drawn_to w t).typecount ≡ t
unfolding drawn_to
drawn-count w zero = refl
drawn-count w (suc t) = ap suc (drawn-count w t)

pub drawn-six : (w : Recipe) (t : ℕ) → length (drawn_to w t).types ≡ 6
unfolding drawn_to
drawn-six w zero = refl
drawn-six w (suc t) = simp length-set (drawn-six w t)

-- one type more
module _ (w : Recipe) where
  pub drawn-more : (y : System) {task : TaskType} → y ≡ drawn_to w y.typecount → task ≡ drawn_from w (value_after w.seed (3 * y.typecount))
      → with_type task y ≡ drawn_to w (suc y.typecount)
  unfolding drawn_to
  drawn-more y is drawn = λ i. with_type (drawn i) (is i)

  pub value-more : (t : ℕ) → step (step (step (value_after w.seed (3 * t)))) ≡ value_after w.seed (3 * (t + 1))
  unfolding value_after
  value-more t = let e : 3 * (t + 1) ≡ suc (suc (suc (3 * t))) = omega arith in rw e
