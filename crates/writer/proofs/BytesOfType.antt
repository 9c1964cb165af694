-- A type's bytes, and each field's, are the layout's of document 01. A number's four bytes agree as quotients and remainders.
use Rattle.std.proofs.Common.{Option, None, Some}
use Rattle.system.specs.declared.Kind.{Kind}
use Rattle.system.specs.declared.Costs.{Costs}
use Rattle.system.specs.declared.Cycle.{Cycle}
use Prim.Native.Nat.{ℕ, ◌+◌, ◌-◌, ◌/◌, ◌%◌}
use mathlib.Core.Path.{◌≡◌, refl, sym, ap, ◌∙◌}
use mathlib.Core.List.{List, [], ◌∷◌, ◌++◌, append-nil, append_assoc}
use mathlib.Core.Bool.{false, cond, and-true}
use native.Mathlib.Omega.{arith}
use lib.Dec.{eqb}
use Rattle.buffer.specs.Bytes.{bytes4}
use Rattle.system.specs.declared.TaskType.{TaskType}
use Rattle.system.specs.declared.System.{System}
use Rattle.system.specs.Rules.{rule_of}
use Rattle.writer.specs.File.{field_bytes, platform_bytes, second_bytes, data_bytes, most_bytes, pace_bytes, costs_bytes, type_bytes, types_bytes}
use Rattle.writer.specs.Meaning.{two_out, four_out, platform_out, second_out, data_out, most_out, pace_out, costs_out, type_out}

-- intermediate: one field

pub four-out : (n : ℕ) → bytes4 n ≡ four_out n
four-out n =
    let first : n / 65536 / 256 ≡ n / 16777216 = omega arith in
    let third : n % 65536 / 256 ≡ n / 256 % 256 = omega arith in
    let last : n % 65536 % 256 ≡ n % 256 = omega arith in
    λ i. first i ∷ (n / 65536 % 256) ∷ third i ∷ last i ∷ []

pub platform-out : (y : System) → platform_bytes y ≡ platform_out y
unfolding field_bytes rule_of
platform-out y = λ i. 1 ∷ 0 ∷ 10 ∷ y.engines ∷ y.rule ∷ (four-out y.timecap i ++ four-out y.memorycap i)

data-out : (d : ℕ) → data_bytes d ≡ data_out false d
unfolding field_bytes rule_of
data-out d = λ i. cond (sym (and-true (eqb d 0)) i) [] (3 ∷ 0 ∷ 4 ∷ four-out d i)

most-out : (m : Option ℕ) → most_bytes m ≡ most_out m
unfolding field_bytes rule_of
most-out None = refl
most-out (Some q) = refl

pace-out : (p : Option Cycle) → pace_bytes p ≡ pace_out p
unfolding field_bytes rule_of
pace-out None = refl
pace-out (Some c) = λ i. 5 ∷ 0 ∷ 8 ∷ (four-out c.run i ++ four-out c.period i)

pub second-out : (s : Option Kind) → second_bytes s ≡ second_out s
unfolding field_bytes rule_of
second-out None = refl
second-out (Some k) = λ i. 6 ∷ 0 ∷ 9 ∷ k.number ∷ (four-out k.timecap i ++ four-out k.memorycap i)

costs-out : (c : Option Costs) → costs_bytes c ≡ costs_out c
unfolding field_bytes rule_of
costs-out None = refl
costs-out (Some c) = λ i. 7 ∷ 0 ∷ 8 ∷ (four-out c.time i ++ four-out c.memory i)

pub type-out : (t : TaskType) → type_bytes t ≡ type_out false t
unfolding field_bytes rule_of
type-out t =
    λ i. 2 ∷ 0 ∷ 10 ∷ (four-out t.time i ++ (four-out t.memory i ++ (two_out t.ceiling ++ (data-out t.data i ++ (most-out t.most i ++ (pace-out t.pace i ++ costs-out t.there i))))))

-- intermediate: one type more

types-append : (a b : List TaskType) → types_bytes (a ++ b) ≡ types_bytes a ++ types_bytes b
unfolding types_bytes
types-append [] b = refl
types-append (t ∷ a) b = ap (λ (l : List ℕ). type_bytes t ++ l) (types-append a b) ∙ sym (append_assoc (type_bytes t) (types_bytes a) (types_bytes b))

pub types_more : (ts : List TaskType) (t : TaskType) → types_bytes (ts ++ (t ∷ [])) ≡ types_bytes ts ++ type_bytes t
unfolding types_bytes
types_more ts t = types-append ts (t ∷ []) ∙ ap (λ (l : List ℕ). types_bytes ts ++ l) (append-nil (type_bytes t))
