-- The files of a system, which differ in the zero tags 3 alone: what `told` decides of a type's bytes, and that the file that is told of none is the one without a zero tag 3.
-- A file with a zero tag 3 is longer.
use Rattle.std.proofs.Common.{None}
use Prim.Native.Nat.{ℕ, zero, suc, ◌+◌, ◌≤◌, ◌<◌}
use mathlib.Core.Path.{◌≡◌, refl, sym, ap, ap₂}
use mathlib.Core.List.{List, [], ◌∷◌, ◌++◌, append-nil, append_assoc}
use mathlib.Core.Bool.{Bool, true, false, not, cond, ◌&&◌, and-false}
use native.Mathlib.Omega.{arith}
use native.Mathlib.Nat.{le_refl}
use borrow.Author.Tests.{eqb-true, leb-true, leb-false}
use lib.ListN.{length, length-append}
use lib.Dec.{eqb, leb}
use Rattle.system.specs.declared.TaskType.{TaskType}
use Rattle.system.specs.declared.System.{System}
use Rattle.system.specs.Values.{task_of, with_data, with_most, with_pace, with_costs}
use Rattle.partition.specs.Plain.{type_no}
use Rattle.writer.specs.Meaning.{two_out, four_out, platform_out, second_out, data_out, most_out, pace_out, costs_out, type_out, types_out, file_with, file_out, NoZero, ComesBackExactly}

-- intermediate: one type

-- its d is left out, or it is given
pub data HasData (told : Bool) (d : ℕ) : Type 0 where
  left_out : told ≡ false → d ≡ 0 → HasData told d
  given : data_out told d ≡ 3 ∷ 0 ∷ 4 ∷ four_out d → HasData told d

data-given : (d : ℕ) → data_out true d ≡ 3 ∷ 0 ∷ 4 ∷ four_out d
data-given d = rw (and-false (eqb d 0))

pub has-data : (told : Bool) (d : ℕ) → HasData told d
has-data true d = given (data-given d)
has-data false d = at (eqb d 0) refl
  where
    at : (b : Bool) → eqb d 0 ≡ b → HasData false d
    at true q = left_out refl (eqb-true d 0 q)
    at false q = given (rw q)

-- its bytes with a tag 3: those without, and then the field of d; and so with a tag 4, with a tag 5, and with a tag 7
pub type-given : (t : TaskType) (d : ℕ) → t.data ≡ 0 → t.most ≡ None → t.pace ≡ None → t.there ≡ None → type_out true (with_data d t) ≡ type_out false t ++ (3 ∷ 0 ∷ 4 ∷ four_out d)
type-given t d none free idle alone = rw (none, free, idle, alone, data-given d)

pub type-limited : (told : Bool) (t : TaskType) (q : ℕ) → t.most ≡ None → t.pace ≡ None → t.there ≡ None → type_out told (with_most q t) ≡ type_out told t ++ (4 ∷ 0 ∷ 2 ∷ two_out q)
type-limited told t q free idle alone = rw (free, idle, alone, append-nil (data_out told t.data))

pub type-paced : (told : Bool) (t : TaskType) (c p : ℕ) → t.pace ≡ None → t.there ≡ None → type_out told (with_pace c p t) ≡ type_out told t ++ (5 ∷ 0 ∷ 8 ∷ (four_out c ++ four_out p))
type-paced told t c p idle alone =
    rw (idle, alone, append-nil (most_out t.most), append_assoc (data_out told t.data) (most_out t.most) (5 ∷ 0 ∷ 8 ∷ (four_out c ++ four_out p)))

pub type-costed : (told : Bool) (t : TaskType) (u s : ℕ) → t.there ≡ None → type_out told (with_costs u s t) ≡ type_out told t ++ (7 ∷ 0 ∷ 8 ∷ (four_out u ++ four_out s))
type-costed told t u s alone =
    let field : List ℕ = 7 ∷ 0 ∷ 8 ∷ (four_out u ++ four_out s) in
    rw (
      alone,
      append-nil (pace_out t.pace),
      append_assoc (data_out told t.data) (most_out t.most ++ pace_out t.pace) field,
      append_assoc (most_out t.most) (pace_out t.pace) field,
    )

-- where a d of 0 is not told, nothing is
same-type : (told : Bool) (t : TaskType) → (t.data ≡ 0 → told ≡ false) → type_out false t ≡ type_out told t
same-type told t quiet =
    ap (λ (l : List ℕ). type_out false (task_of t.time t.memory t.ceiling) ++ (l ++ (most_out t.most ++ (pace_out t.pace ++ costs_out t.there)))) (at (eqb t.data 0) refl)
  where
    field : List ℕ
    field = 3 ∷ 0 ∷ 4 ∷ four_out t.data

    at : (b : Bool) → eqb t.data 0 ≡ b → cond (b && true) [] field ≡ cond (b && not told) [] field
    at true q = rw (quiet (eqb-true t.data 0 q))
    at false q = refl

-- a zero tag 3 takes room, and no choice takes less than none
type-length : (told : Bool) (t : TaskType) → length (type_out told t) ≡ 13 + length (data_out told t.data) + length (most_out t.most) + length (pace_out t.pace) + length (costs_out t.there)
type-length told t =
    omega (
      arith,
      length-append (data_out told t.data) (most_out t.most ++ (pace_out t.pace ++ costs_out t.there)),
      length-append (most_out t.most) (pace_out t.pace ++ costs_out t.there),
      length-append (pace_out t.pace) (costs_out t.there),
    )

longer-data : (told : Bool) (d : ℕ) → length (data_out false d) ≤ length (data_out told d)
longer-data false d = le_refl (length (data_out false d))
longer-data true d = rw (data-given d) (at (eqb d 0))
  where
    at : (b : Bool) → length (cond (b && true) [] (3 ∷ 0 ∷ 4 ∷ four_out d)) ≤ 7
    at true = omega arith
    at false = omega arith

longer-type : (told : Bool) (t : TaskType) → length (type_out false t) ≤ length (type_out told t)
longer-type told t = omega (arith, type-length false t, type-length told t, longer-data told t.data)

zero-longer : (t : TaskType) → t.data ≡ 0 → length (type_out false t) < length (type_out true t)
zero-longer t none =
    let given : length (data_out true t.data) ≡ 7 = ap length (data-given t.data) in
    let left : length (data_out false t.data) ≡ 0 = rw none in
    omega (arith, type-length false t, type-length true t)

-- intermediate: the types 1 to n

pub types_same_lem : (told also : ℕ → Bool) (y z : System) (n : ℕ) → ((t : ℕ) → 1 ≤ t → t ≤ n → type_out (told t) (type_no y t) ≡ type_out (also t) (type_no z t))
    → types_out told y n ≡ types_out also z n
unfolding types_out
types_same_lem told also y z zero each = refl
types_same_lem told also y z (suc n) each =
    ap₂ (λ (a b : List ℕ). a ++ b) (types_same_lem told also y z n (λ t low high. each t low (omega arith))) (each (suc n) (omega arith) (omega arith))

module _ (told : ℕ → Bool) (y : System) where
  abbrev quiet : ℕ → List ℕ
  quiet n = types_out (λ (t : ℕ). false) y n

  types-longer : (n : ℕ) → length (quiet n) ≤ length (types_out told y n)
  unfolding types_out
  types-longer zero = omega arith
  types-longer (suc n) =
      omega (
        arith,
        length-append (quiet n) (type_out false (type_no y (suc n))),
        length-append (types_out told y n) (type_out (told (suc n)) (type_no y (suc n))),
        longer-type (told (suc n)) (type_no y (suc n)),
        types-longer n,
      )

  zero-told : (n t : ℕ) → 1 ≤ t → t ≤ n → (type_no y t).data ≡ 0 → told t ≡ true → length (quiet n) < length (types_out told y n)
  unfolding types_out
  zero-told zero t low high none is = absurd (omega arith)
  zero-told (suc n) t low high none is = at (leb t n) refl (zero-told n t low)
    where
      one : length (quiet (suc n)) ≡ length (quiet n) + length (type_out false (type_no y (suc n)))
      one = length-append (quiet n) (type_out false (type_no y (suc n)))

      told-one : length (types_out told y (suc n)) ≡ length (types_out told y n) + length (type_out (told (suc n)) (type_no y (suc n)))
      told-one = length-append (types_out told y n) (type_out (told (suc n)) (type_no y (suc n)))

      last : t ≡ suc n → length (type_out false (type_no y (suc n))) < length (type_out (told (suc n)) (type_no y (suc n)))
      last e = rw (sym e, is) (zero-longer (type_no y t) none)

      at : (b : Bool) → leb t n ≡ b → (t ≤ n → (type_no y t).data ≡ 0 → told t ≡ true → length (quiet n) < length (types_out told y n)) → length (quiet (suc n)) < length (types_out told y (suc n))
      at true q before = omega (arith, one, told-one, before (leb-true t n q) none is, longer-type (told (suc n)) (type_no y (suc n)))
      at false q before = omega (arith, one, told-one, types-longer n, last (omega (arith, leb-false t n q)))

-- main: the file that is written is the one without a zero tag 3, and no other

pub comes-back-exactly : (told : ℕ → Bool) (y : System) → ComesBackExactly told y
comes-back-exactly told y = (there, back)
  where
    there : file_out y ≡ file_with told y → NoZero told y
    there e t low high none = at (told t) refl
      where
        at : (b : Bool) → told t ≡ b → b ≡ false
        at true q =
            absurd
            (omega (
              arith,
              ap length e,
              length-append (second_out y.second) (quiet told y y.typecount),
              length-append (second_out y.second) (types_out told y y.typecount),
              zero-told told y y.typecount t low high none q,
            ))
        at false q = refl

    back : NoZero told y → file_out y ≡ file_with told y
    back quiet =
        ap (λ (l : List ℕ). platform_out y ++ (second_out y.second ++ l))
        (types_same_lem (λ (t : ℕ). false) told y y y.typecount (λ t low high. same-type (told t) (type_no y t) (quiet t low high)))
