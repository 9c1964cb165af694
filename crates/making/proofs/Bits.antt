-- The generator bit by bit: the step of the definition is the step in plain words, and no other number is. From 1 it gives 1,082,269,761, and only 0 leads to 0.
use Prim.Native.Nat.{ℕ, zero, suc, ◌+◌, ◌-◌, ◌*◌, ◌/◌, ◌%◌, ◌^◌, ◌≤◌, ◌<◌}
use mathlib.Core.Path.{◌≡◌, refl, sym, ap, ap₂, subst, ◌∙◌}
use mathlib.Core.Bool.{Bool, true, false}
use mathlib.Core.Logic.{◌↔◌}
use native.Mathlib.Nat.{mod-lt, zero-mod, zero-div, div-one, div-eq_of_lt, div-add-mod', lt_of_lt_of_le}
use native.Mathlib.Numerals.{add-one}
use native.Mathlib.Omega.{arith}
use borrow.Author.Tests.{ltb-true, ltb-false}
use lib.Arith.{lt-one}
use lib.Pow.{pow_pos, pow_mono, shr-shr, shr_lt, shr_le}
use lib.Bits.{bit_xor, xor_lt}
use lib.Dec.{ltb}
use Rattle.making.specs.Generator.{shifted_left, shifted_right, step_one, step_two, step_three, step, value_after}
use Rattle.making.specs.Meaning.{bit_of, XorLeft, XorRight, Steps}
pub use Rattle.making.proofs.BitsShifted.{bit-of-xor, bit-alone, left-low, left-high, right-bit}

-- intermediate: the two kinds of steps

xor-left : (n x : ℕ) → n ≤ 64 → x < 2 ^ 64 → XorLeft n x (bit_xor x (shifted_left x n))
xor-left n x few short = record {
  short = xor_lt 64 x (shifted_left x n) short (mod-lt (x * 2 ^ n) (pow_pos 64));
  low = λ i h. bit-of-xor x (shifted_left x n) i ∙ ap (λ (k : ℕ). (bit_of x i + k) % 2) (left-low x n i h (omega arith)) ∙ bit-alone x i;
  high = λ i h. bit-of-xor x (shifted_left x n) (n + i) ∙ ap (λ (k : ℕ). (bit_of x (n + i) + k) % 2) (left-high x n i h);
}

xor-right : (n x : ℕ) → x < 2 ^ 64 → XorRight n x (bit_xor x (shifted_right x n))
xor-right n x short = record {
  short = xor_lt 64 x (shifted_right x n) short (omega (arith, shr_le x n));
  bits = λ i h. bit-of-xor x (shifted_right x n) i ∙ ap (λ (k : ℕ). (bit_of x i + k) % 2) (right-bit x n i);
}

-- main: the step of the definition is one in plain words

pub step-in-bits : (x : ℕ) → x < 2 ^ 64 → Steps x (step x)
unfolding step step_one step_two step_three
step-in-bits x short =
    let a = xor-left 13 x (omega arith) short in
    let b = xor-right 7 (step_one x) a.short in
    let c = xor-left 17 (step_two (step_one x)) (omega arith) b.short in
    record { one = step_one x; two = step_two (step_one x); left13 = a; right7 = b; left17 = c }

pub step-short : (x : ℕ) → x < 2 ^ 64 → step x < 2 ^ 64
step-short x short = (step-in-bits x short).left17.short

pub value-short : (seed i : ℕ) → seed < 2 ^ 64 → value_after seed i < 2 ^ 64
unfolding value_after
value-short seed zero short = short
value-short seed (suc i) short = step-short (value_after seed i) (value-short seed i short)

pub value-starts : (seed : ℕ) → value_after seed 0 ≡ seed
unfolding value_after
value-starts seed = refl

pub value-steps : (seed i : ℕ) → seed < 2 ^ 64 → Steps (value_after seed i) (value_after seed (suc i))
unfolding value_after
value-steps seed i short = step-in-bits (value_after seed i) (value-short seed i short)

-- intermediate: numbers of the same bits are the same

same_bits : (k x z : ℕ) → x < 2 ^ k → z < 2 ^ k → ((i : ℕ) → i < k → bit_of x i ≡ bit_of z i) → x ≡ z
same_bits zero x z hx hz same = lt-one hx ∙ sym (lt-one hz)
same_bits (suc k) x z hx hz same =
    let below : (y : ℕ) → y < 2 ^ suc k → y / 2 < 2 ^ k = λ y h. shr_lt k 1 (subst (λ (n : ℕ). y < 2 ^ n) (sym (add-one k)) h) in
    let next : (y i : ℕ) → bit_of (y / 2) i ≡ bit_of y (suc i) =
    λ y i. ap (λ (n : ℕ). n % 2) (shr-shr y 1 i) ∙ ap (bit_of y) (one_more i) in
    let upper : x / 2 ≡ z / 2 =
    same_bits k (x / 2) (z / 2) (below x hx) (below z hz) (λ i h. next x i ∙ same (suc i) (omega arith) ∙ sym (next z i)) in
    let lowest : x % 2 ≡ z % 2 = sym (ap (λ (n : ℕ). n % 2) (div-one x)) ∙ same 0 (omega arith) ∙ ap (λ (n : ℕ). n % 2) (div-one z) in
    sym (div-add-mod' x 2) ∙ ap₂ (λ (a b : ℕ). a * 2 + b) upper lowest ∙ div-add-mod' z 2
  where
    one_more : (i : ℕ) → 1 + i ≡ suc i
    one_more i = omega arith

-- a place is one of the first n, or n places above another
module _ (n i : ℕ) (P : ℕ → Type 0) where
  by_place : ((j : ℕ) → j < n → P j) → ((j : ℕ) → n + j ≡ i → P (n + j)) → P i
  by_place low high = go (ltb i n) refl
    where
      go : (b : Bool) → ltb i n ≡ b → P i
      go true q = low i (ltb-true i n q)
      go false q =
          let past = ltb-false i n q in
          let e : n + (i - n) ≡ i = omega arith in
          subst P e (high (i - n) e)

left-once : (n x z v : ℕ) → XorLeft n x z → XorLeft n x v → z ≡ v
left-once n x z v a b = same_bits 64 z v a.short b.short (λ i h. by_place n i (λ (j : ℕ). bit_of z j ≡ bit_of v j)
    (λ j low. a.low j low ∙ sym (b.low j low))
    (λ j e. a.high j (omega arith) ∙ sym (b.high j (omega arith))))

right-once : (n x z v : ℕ) → XorRight n x z → XorRight n x v → z ≡ v
right-once n x z v a b = same_bits 64 z v a.short b.short (λ i h. a.bits i h ∙ sym (b.bits i h))

-- main: the plain words say one number only, and from 1 it is that of the request

pub steps-once : (x z v : ℕ) → Steps x z → Steps x v → z ≡ v
steps-once x z v a b =
    let one : a.one ≡ b.one = left-once 13 x a.one b.one a.left13 b.left13 in
    let two : a.two ≡ b.two = right-once 7 a.one a.two b.two a.right7 (subst (λ (y : ℕ). XorRight 7 y b.two) (sym one) b.right7) in
    left-once 17 a.two z v a.left17 (subst (λ (y : ℕ). XorLeft 17 y v) (sym two) b.left17)

-- "From 1 the next value is 1,082,269,761"
pub from_one : step 1 ≡ 1082269761
unfolding step step_one step_two step_three
from_one = refl

pub from-one-in-bits : (z : ℕ) → Steps 1 z ↔ (z ≡ 1082269761)
from-one-in-bits z =
    let one = step-in-bits 1 (omega arith) in
    ((λ s. steps-once 1 z (step 1) s one ∙ from_one), (λ e. subst (Steps 1) (from_one ∙ sym e) one))

-- intermediate: which numbers each part of a step takes to 0

bit-zero : (i : ℕ) → bit_of 0 i ≡ 0
bit-zero i = ap (λ (n : ℕ). n % 2) (zero-div (2 ^ i)) ∙ zero-mod 2

-- a bit to which one that is 0 is added
bit-left : (x i j : ℕ) → bit_of x j ≡ 0 → (bit_of x i + bit_of x j) % 2 ≡ bit_of x i
bit-left x i j none = ap (λ (k : ℕ). (bit_of x i + k) % 2) none ∙ bit-alone x i

all-zero : (x : ℕ) → x < 2 ^ 64 → ((i : ℕ) → i < 64 → bit_of x i ≡ 0) → x ≡ 0
all-zero x short none = same_bits 64 x 0 short (pow_pos 64) (λ i h. none i h ∙ sym (bit-zero i))

left-from-zero : (n x : ℕ) → 1 ≤ n → x < 2 ^ 64 → XorLeft n x 0 → x ≡ 0
left-from-zero n x some short a = all-zero x short (λ i h. below (suc i) i (omega arith) h)
  where
    below : (f i : ℕ) → i < f → i < 64 → bit_of x i ≡ 0
    below zero i h inside = absurd (omega arith)
    below (suc f) i h inside =
        by_place n i (λ (j : ℕ). bit_of x j ≡ 0)
        (λ j low. sym (a.low j low) ∙ bit-zero j)
        (λ j e. sym (bit-left x (n + j) j (below f j (omega arith) (omega arith))) ∙ sym (a.high j (omega arith)) ∙ bit-zero (n + j))

right-from-zero : (n x : ℕ) → 1 ≤ n → x < 2 ^ 64 → XorRight n x 0 → x ≡ 0
right-from-zero n x some short a = all-zero x short (λ i h. above 64 i (omega arith))
  where
    above : (f i : ℕ) → 64 ≤ i + f → bit_of x i ≡ 0
    above zero i h = ap (λ (k : ℕ). k % 2) (div-eq_of_lt (lt_of_lt_of_le short (pow_mono {i = 64} {j = i} (omega arith)))) ∙ zero-mod 2
    above (suc f) i h = go (ltb i 64) refl (λ j k. above f j k)
      where
        go : (b : Bool) → ltb i 64 ≡ b → ((j : ℕ) → 64 ≤ j + f → bit_of x j ≡ 0) → bit_of x i ≡ 0
        go true q later = sym (bit-left x i (n + i) (later (n + i) (omega arith))) ∙ sym (a.bits i (ltb-true i 64 q)) ∙ bit-zero i
        go false q later = later i (omega (arith, ltb-false i 64 q))

-- main: no value but 0 leads to 0, so that a seed that is not 0 never does

pub only_zero : (x : ℕ) → x < 2 ^ 64 → Steps x 0 → x ≡ 0
only_zero x short a =
    let two : a.two ≡ 0 = left-from-zero 17 a.two (omega arith) a.right7.short a.left17 in
    let one : a.one ≡ 0 = right-from-zero 7 a.one (omega arith) a.left13.short (subst (XorRight 7 a.one) two a.right7) in
    left-from-zero 13 x (omega arith) short (subst (XorLeft 13 x) one a.left13)

pub never-zero : (seed i : ℕ) → seed < 2 ^ 64 → 1 ≤ seed → 1 ≤ value_after seed i
unfolding value_after
never-zero seed zero short some = some
never-zero seed (suc i) short some = go (value_after seed (suc i)) refl (never-zero seed i short some)
  where
    go : (z : ℕ) → value_after seed (suc i) ≡ z → 1 ≤ value_after seed i → 1 ≤ z
    go zero e so_far =
        let before = value-short seed i short in
        let none = only_zero (value_after seed i) before (subst (Steps (value_after seed i)) e (step-in-bits (value_after seed i) before)) in
        absurd (omega (arith, none))
    go (suc z) e so_far = omega arith
