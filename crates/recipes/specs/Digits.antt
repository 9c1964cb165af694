-- The text of seven numbers as the code reads it: what its bytes so far come to, and one byte more.
use Rattle.std.specs.Prelude.{ℕ, ◌+◌, ◌-◌, ◌*◌, ◌/◌, List, [], ◌∷◌, Bool, true, false, cond, ◌&&◌, ◌||◌, leb, ltb, eqb, replicate, set}
use Rattle.recipes.specs.declared.Progress.{Progress}

-- the largest number of 64 bits
abbrev pub greatest : ℕ
greatest = 18446744073709551615

-- one field after the other
abbrev pub progress : List ℕ → ℕ → ℕ → Bool → Bool → Progress
progress numbers at value over some = record { numbers = numbers; at = at; value = value; over = over; some = some }

-- before a number, where these have ended
abbrev pub fresh : List ℕ → ℕ → Progress
fresh numbers at = progress numbers at 0 false false

abbrev pub begun : Progress
begun = fresh (replicate 7 0) 0

abbrev pub broken : Progress
broken = fresh (replicate 7 0) 8

-- the value with a digit more, cut to 64 bits
unfoldable pub with_digit : Progress → ℕ → Progress
with_digit p digit =
    cond (ltb ((greatest - digit) / 10) p.value)
    (progress p.numbers p.at greatest true true)
    (progress p.numbers p.at (p.value * 10 + digit) p.over true)

-- a seed past 64 bits is kept as 0
abbrev pub held : Progress → ℕ
held p = cond (eqb p.at 0 && p.over) 0 p.value

unfoldable pub stored : Progress → Progress
stored p = fresh (set p.numbers p.at (held p)) (p.at + 1)

-- `0` to `9`
unfoldable pub takes_digit : Progress → ℕ → Bool
takes_digit p b = leb 48 b && leb b 57 && ltb p.at 7

-- a space after each number but the last, and 0A after that
unfoldable pub ends_number : Progress → ℕ → Bool
ends_number p b = p.some && ((eqb b 32 && ltb p.at 6) || (eqb b 10 && eqb p.at 6))

unfoldable pub step : Progress → ℕ → Progress
step p b = cond (takes_digit p b) (with_digit p (b - 48)) (cond (ends_number p b) (stored p) broken)

-- all bytes of a text, after those that came to p
unfoldable pub read_from : Progress → List ℕ → Progress
read_from p [] = p
read_from p (b ∷ bs) = read_from (step p b) bs
