-- The bits of a value that is shifted to the left or to the right.
use Prim.Native.Nat.{ℕ, suc, ◌+◌, ◌-◌, ◌*◌, ◌/◌, ◌%◌, ◌^◌, ◌<◌}
use mathlib.Core.Path.{◌≡◌, sym, ap, subst, ◌∙◌}
use native.Mathlib.Nat.{add-zero, mul_assoc, add-mod, mod-mod, add-mul-mod_self_right}
use native.Mathlib.Omega.{arith}
use lib.Pow.{pow-add, shl-shr, shr-shr, field, mod-mod-pow}
use lib.Bits.{bit_xor, bit_and, xor_shr, xor_add_and, shifted_even}
use Rattle.making.specs.Generator.{shifted_left, shifted_right}
use Rattle.making.specs.Meaning.{bit_of}

-- intermediate: a bit of an exclusive or, and of a shifted number

odd-xor : (a b : ℕ) → bit_xor a b % 2 ≡ (a % 2 + b % 2) % 2
odd-xor a b = sym (add-mul-mod_self_right (bit_xor a b) (bit_and a b) 2) ∙ ap (λ (n : ℕ). n % 2) (xor_add_and a b) ∙ add-mod a b 2

pub bit-of-xor : (a b i : ℕ) → bit_of (bit_xor a b) i ≡ (bit_of a i + bit_of b i) % 2
bit-of-xor a b i = ap (λ (n : ℕ). n % 2) (xor_shr a b i) ∙ odd-xor (a / 2 ^ i) (b / 2 ^ i)

-- a bit is itself, with nothing added
pub bit-alone : (x i : ℕ) → (bit_of x i + 0) % 2 ≡ bit_of x i
bit-alone x i = ap (λ (n : ℕ). n % 2) (add-zero (bit_of x i)) ∙ mod-mod (x / 2 ^ i) 2

-- a bit that is not dropped stays
bit_kept : (y i : ℕ) → i < 64 → bit_of (y % 2 ^ 64) i ≡ bit_of y i
bit_kept y i h =
    let e : 64 ≡ ((63 - i) + 1) + i = omega arith in
    subst (λ (n : ℕ). bit_of (y % 2 ^ n) i ≡ bit_of y i) (sym e)
    (ap (λ (n : ℕ). n % 2) (field y ((63 - i) + 1) i) ∙ mod-mod-pow (y / 2 ^ i) (63 - i) 1)

pub left-low : (x n i : ℕ) → i < n → i < 64 → bit_of (shifted_left x n) i ≡ 0
left-low x n i h inside =
    let m = n - suc i in
    let e : n ≡ suc m + i = omega arith in
    let split : x * 2 ^ n ≡ x * 2 ^ suc m * 2 ^ i =
    ap (λ (k : ℕ). x * 2 ^ k) e ∙ ap (λ (k : ℕ). x * k) (pow-add 2 (suc m) i) ∙ sym (mul_assoc x (2 ^ suc m) (2 ^ i)) in
    bit_kept (x * 2 ^ n) i inside
    ∙ ap (λ (k : ℕ). k / 2 ^ i % 2) split
    ∙ ap (λ (k : ℕ). k % 2) (shl-shr (x * 2 ^ suc m) i)
    ∙ shifted_even x m

pub left-high : (x n i : ℕ) → n + i < 64 → bit_of (shifted_left x n) (n + i) ≡ bit_of x i
left-high x n i inside =
    bit_kept (x * 2 ^ n) (n + i) inside
    ∙ ap (λ (k : ℕ). k % 2) (sym (shr-shr (x * 2 ^ n) n i) ∙ ap (λ (k : ℕ). k / 2 ^ i) (shl-shr x n))

pub right-bit : (x n i : ℕ) → bit_of (shifted_right x n) i ≡ bit_of x (n + i)
right-bit x n i = ap (λ (k : ℕ). k % 2) (shr-shr x n i)
