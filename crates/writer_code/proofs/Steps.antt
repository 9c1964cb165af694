-- The steps of the writer's loops over a system's types, which the functions' proofs cite.
use Rattle.std.proofs.Common.{Option, Some, None}
use Rattle.std.specs.Prelude.{is_some}
use Prim.Native.Nat.{ℕ, zero, suc, ◌+◌, ◌≤◌, ◌<◌}
use mathlib.Core.Bool.{Bool, true, false, not, cond}
use mathlib.Core.Path.{◌≡◌, refl, sym, ap, ◌∙◌}
use mathlib.Core.List.{List, [], ◌∷◌, ◌++◌}
use native.Mathlib.Omega.{arith}
use native.Mathlib.Numerals.{add-one}
use lib.ListN.{length, get_or, take, length-append}
use lib.Seq.{take-suc}
use lib.Dec.{eqb, lit<}
use Rattle.system.specs.declared.TaskType.{TaskType}
use Rattle.system.specs.declared.Kind.{Kind}
use Rattle.system.specs.declared.Costs.{Costs}
use Rattle.system.specs.declared.Cycle.{Cycle}
use Rattle.system.specs.declared.FieldRule.{FieldRule}
use Rattle.system.specs.Rules.{field_rules, rule_of}
use Rattle.system.proofs.Laws.{OneOf, a-platform, a-type, a-data, a-most, a-pace, a_second, a-costs, rule_of-known}
use Rattle.system.specs.Limits.{most_fault}
use Rattle.system.proofs.Within.{first_fault}
use Rattle.buffer.specs.Bytes.{bytes4}
use Rattle.writer.specs.File.{found_size, field_bytes, data_bytes, most_bytes, pace_bytes, second_bytes, costs_bytes, type_bytes, types_bytes}
use Rattle.writer.specs.Writing.{or_else, task_fault, types_fault, mosts_fault}
use Rattle.writer.proofs.Bytes.{types_more, types-size}

-- A rule's body is short

pub body-short : (tag : ℕ) {found : Option FieldRule} {r : FieldRule} → found ≡ rule_of field_rules tag → found ≡ Some r → r.body < 65536
body-short tag {r = r} look known = at (rule_of-known tag r (sym look ∙ known)).which
  where
    at : OneOf r → r.body < 65536
    at (a-platform w) = rw w (lit< tt)
    at (a-type w) = rw w (lit< tt)
    at (a-data w) = rw w (lit< tt)
    at (a-most w) = rw w (lit< tt)
    at (a-pace w) = rw w (lit< tt)
    at (a_second w) = rw w (lit< tt)
    at (a-costs w) = rw w (lit< tt)

-- The types that are judged by a test, one after the other

pub types-listed : (ts : List TaskType) → first_fault task_fault ts ≡ types_fault ts
unfolding types_fault
types-listed [] = refl
types-listed (t ∷ ts) = ap (or_else (task_fault t)) (types-listed ts)

abbrev pub most_said : TaskType → ℕ
most_said t = most_fault t.most

pub mosts-listed : (ts : List TaskType) → first_fault most_said ts ≡ mosts_fault ts
unfolding mosts_fault
mosts-listed [] = refl
mosts-listed (t ∷ ts) = ap (or_else (most_said t)) (mosts-listed ts)

-- The bytes of a field that may be given

pub data-sized : (d : ℕ) → cond (not (eqb d 0)) (found_size (rule_of field_rules 3)) 0 ≡ length (data_bytes d)
unfolding field_bytes rule_of
data-sized d = at (eqb d 0)
  where
    at : (b : Bool) → cond (not b) (found_size (rule_of field_rules 3)) 0 ≡ length (cond b [] (field_bytes 3 (bytes4 d)))
    at true = refl
    at false = refl

pub most-sized : (m : Option ℕ) {b : Bool} → b ≡ is_some m → cond b (found_size (rule_of field_rules 4)) 0 ≡ length (most_bytes m)
unfolding field_bytes rule_of
most-sized None e = rw e
most-sized (Some q) e = rw e

pub pace-sized : (p : Option Cycle) {b : Bool} → b ≡ is_some p → cond b (found_size (rule_of field_rules 5)) 0 ≡ length (pace_bytes p)
unfolding field_bytes rule_of
pace-sized None e = rw e
pace-sized (Some c) e = rw e

pub second-sized : (s : Option Kind) {b : Bool} → b ≡ is_some s → cond b (found_size (rule_of field_rules 6)) 0 ≡ length (second_bytes s)
unfolding field_bytes rule_of
second-sized None e = rw e
second-sized (Some k) e = rw e

pub costs-sized : (there : Option Costs) {b : Bool} → b ≡ is_some there → cond b (found_size (rule_of field_rules 7)) 0 ≡ length (costs_bytes there)
unfolding field_bytes rule_of
costs-sized None e = rw e
costs-sized (Some c) e = rw e

-- The types that are written: one more, which is among the first k

pub types-suc : (ts : List TaskType) (i : ℕ) (d : TaskType) → i < length ts → types_bytes (take (i + 1) ts) ≡ types_bytes (take i ts) ++ type_bytes (get_or ts i d)
types-suc ts i d h = rw (add-one i, take-suc ts i d h) (types_more (take i ts) (get_or ts i d))

pub types-suc-size : (ts : List TaskType) (i : ℕ) (d : TaskType) → i < length ts → length (types_bytes (take (i + 1) ts)) ≡ length (types_bytes (take i ts)) + length (type_bytes (get_or ts i d))
types-suc-size ts i d h = rw (add-one i, take-suc ts i d h) (types-size (take i ts) (get_or ts i d))

pub types-within : (ts : List TaskType) (i k : ℕ) (d : TaskType) → i < k → i < length ts → length (types_bytes (take i ts)) + length (type_bytes (get_or ts i d)) ≤ length (types_bytes (take k ts))
unfolding types_bytes
types-within [] i k d less h = absurd (omega arith)
types-within (t ∷ ts) i zero d less h = absurd (omega arith)
types-within (t ∷ ts) zero (suc k) d less h = omega (arith, length-append (type_bytes t) (types_bytes (take k ts)))
types-within (t ∷ ts) (suc i) (suc k) d less h =
    omega (arith, length-append (type_bytes t) (types_bytes (take i ts)), length-append (type_bytes t) (types_bytes (take k ts)), types-within ts i k d (omega arith) (omega arith))
