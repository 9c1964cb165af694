-- The generator of request 2026-12: "Marsaglia's xorshift on 64 bits".
use Rattle.std.specs.Prelude.{ℕ, zero, suc, ◌*◌, ◌/◌, ◌%◌, ◌^◌}
use Rattle.std.specs.Int.Bits.{bit_xor}

-- x shifted left by n, "bits past 64 dropped", and x shifted right by n
abbrev pub shifted_left : ℕ → ℕ → ℕ
shifted_left x n = (x * 2 ^ n) % 2 ^ 64

abbrev pub shifted_right : ℕ → ℕ → ℕ
shifted_right x n = x / 2 ^ n

-- "x becomes x xor (x shifted left 13), then xor its right shift by 7, then xor its left shift by 17"
unfoldable pub step_one : ℕ → ℕ
step_one x = bit_xor x (shifted_left x 13)

unfoldable pub step_two : ℕ → ℕ
step_two x = bit_xor x (shifted_right x 7)

unfoldable pub step_three : ℕ → ℕ
step_three x = bit_xor x (shifted_left x 17)

unfoldable pub step : ℕ → ℕ
step x = step_three (step_two (step_one x))

-- the i-th value after the seed
unfoldable pub value_after : ℕ → ℕ → ℕ
value_after seed zero = seed
value_after seed (suc i) = step (value_after seed i)
