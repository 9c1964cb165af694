-- A 16-bit number times at most 16 engines; one law for each case of the type's q.
use Prim.Native.Nat.{◌^◌}
use native.Mathlib.Nat.{mul-le-mul}
use native.Mathlib.Omega.{arith}
use mir.Syntax.{w16}
use mir.Val.{Fits}
use borrow.Author.Rules.{rules}
use Rattle.causes_code.proofs.facts.over_most.Goals as goal

pub overflow_mul-result : goal.overflow_mul-result
overflow_mul-result c =
    let q : Fits w16 c.in-Some.q = search rules in
    record { fits = omega (arith, mul-le-mul {n₁ = c.in-Some.q} {m₁ = c.args.engines} {n₂ = 2 ^ 16} {m₂ = 16} (omega arith) c.requires) }

pub returns-in-Some : goal.returns-in-Some
returns-in-Some c = rw c.in-Some.is
