-- The bytes of a file, as the writer's code is described, are document 01's layout byte by byte, without a zero tag 3; a platform has 13 of them, a second kind 12, a type 13, its d 7, its q 5,
-- its C and T 11, and its u and s on the second kind 11.
use Rattle.std.proofs.Common.{Option, None, Some}
use Prim.Native.Nat.{ℕ, ◌+◌, ◌-◌, ◌*◌, ◌≤◌}
use mathlib.Core.Path.{◌≡◌, refl, ap, ◌∙◌}
use mathlib.Core.List.{List, [], ◌∷◌, ◌++◌}
use mathlib.Core.Bool.{Bool, true, false}
use native.Mathlib.Omega.{arith}
use borrow.Author.Tests.{eqb-true, eqb-false, eq-eqb, ne_eqb}
use lib.ListN.{length, take, length-append, length-take}
use lib.Dec.{eqb}
use Rattle.system.specs.declared.Cycle.{Cycle}
use Rattle.system.specs.declared.Costs.{Costs}
use Rattle.system.specs.declared.Kind.{Kind}
use Rattle.system.specs.declared.TaskType.{TaskType}
use Rattle.system.specs.declared.System.{System}
use Rattle.system.specs.Limits.{type_limit}
use Rattle.system.specs.Rules.{rule_of, longest_file}
use Rattle.writer.specs.File.{field_bytes, platform_bytes, second_bytes, data_bytes, most_bytes, pace_bytes, costs_bytes, type_bytes, types_bytes, file_of}
pub use Rattle.writer.proofs.BytesOfType.{four-out, platform-out, second-out, type-out, types_more}
pub use Rattle.writer.proofs.BytesOfFile.{file-out}

-- main: sizes

pub platform-size : (y : System) → length (platform_bytes y) ≡ 13
unfolding field_bytes rule_of
platform-size y = refl

-- a d of 0 has none, and any other one 7
pub data-none : (d : ℕ) → d ≡ 0 → length (data_bytes d) ≡ 0
data-none d none = rw (eq-eqb d 0 none)

pub data-some : (d : ℕ) → (d ≡ 0 → ⊥) → length (data_bytes d) ≡ 7
unfolding field_bytes rule_of
data-some d some = rw (ne_eqb d 0 some)

-- a q that is not given has none, and any other one 5
pub most-some : (q : ℕ) → length (most_bytes (Some q)) ≡ 5
unfolding field_bytes rule_of
most-some q = refl

-- C and T that are given have 11
pub pace-some : (x : Option Cycle) {c : Cycle} → x ≡ Some c → length (pace_bytes x) ≡ 11
unfolding field_bytes rule_of
pace-some x {c = c} is = ap (λ (z : Option Cycle). length (pace_bytes z)) is

-- a second kind has 12, and u and s there 11, where they are given
pub second-some : (s : Option Kind) {k : Kind} → s ≡ Some k → length (second_bytes s) ≡ 12
unfolding field_bytes rule_of
second-some s {k = k} is = ap (λ (x : Option Kind). length (second_bytes x)) is

pub costs-some : (x : Option Costs) {c : Costs} → x ≡ Some c → length (costs_bytes x) ≡ 11
unfolding field_bytes rule_of
costs-some x {c = c} is = ap (λ (z : Option Costs). length (costs_bytes z)) is

pub type-size : (t : TaskType) → length (type_bytes t) ≡ 13 + length (data_bytes t.data) + length (most_bytes t.most) + length (pace_bytes t.pace) + length (costs_bytes t.there)
unfolding field_bytes rule_of
type-size t =
    omega (
      arith,
      length-append (data_bytes t.data) (most_bytes t.most ++ (pace_bytes t.pace ++ costs_bytes t.there)),
      length-append (most_bytes t.most) (pace_bytes t.pace ++ costs_bytes t.there),
      length-append (pace_bytes t.pace) (costs_bytes t.there),
    )

pub types-size : (ts : List TaskType) (t : TaskType) → length (types_bytes (ts ++ (t ∷ []))) ≡ length (types_bytes ts) + length (type_bytes t)
types-size ts t = ap length (types_more ts t) ∙ length-append (types_bytes ts) (type_bytes t)

-- the longest: 13 + 12 + 6 × 47 = 307

pub data-longest : (d : ℕ) → length (data_bytes d) ≤ 7
data-longest d = at (eqb d 0) refl
  where
    at : (b : Bool) → eqb d 0 ≡ b → length (data_bytes d) ≤ 7
    at true q = omega (arith, data-none d (eqb-true d 0 q))
    at false q = omega (arith, data-some d (eqb-false d 0 q))

pub most-longest : (m : Option ℕ) → length (most_bytes m) ≤ 5
most-longest None = omega arith
most-longest (Some q) = omega (arith, most-some q)

pub pace-longest : (p : Option Cycle) → length (pace_bytes p) ≤ 11
pace-longest None = omega arith
pace-longest (Some c) = omega (arith, pace-some (Some c) refl)

pub second-longest : (s : Option Kind) → length (second_bytes s) ≤ 12
second-longest None = omega arith
second-longest (Some k) = omega (arith, second-some (Some k) refl)

pub costs-longest : (x : Option Costs) → length (costs_bytes x) ≤ 11
costs-longest None = omega arith
costs-longest (Some c) = omega (arith, costs-some (Some c) refl)

type-longest : (t : TaskType) → length (type_bytes t) ≤ 47
type-longest t = omega (arith, type-size t, data-longest t.data, most-longest t.most, pace-longest t.pace, costs-longest t.there)

types-longest : (ts : List TaskType) → length (types_bytes ts) ≤ 47 * length ts
unfolding types_bytes
types-longest [] = omega arith
types-longest (t ∷ ts) = omega (arith, length-append (type_bytes t) (types_bytes ts), type-longest t, types-longest ts)

pub first-longest : (ts : List TaskType) (k : ℕ) → length (types_bytes (take k ts)) ≤ 47 * k
first-longest ts k = omega (arith, types-longest (take k ts), length-take k ts)

pub file-longest : (y : System) → y.typecount ≤ type_limit → length (file_of y) ≤ longest_file
unfolding file_of
file-longest y h =
    let types = take y.typecount y.types in
    omega (
      arith,
      length-append (platform_bytes y) (second_bytes y.second ++ types_bytes types),
      length-append (second_bytes y.second) (types_bytes types),
      platform-size y,
      second-longest y.second,
      first-longest y.types y.typecount,
    )
