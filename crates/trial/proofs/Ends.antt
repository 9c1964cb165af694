-- Where a word ends: what `position` answers, or the length, is the first place that passes.
use Rattle.std.specs.Prelude.{◌≡◌, ℕ, ◌≤◌, Bool, true, false, nat_lt, cond, List, length}
use Rattle.std.proofs.Common.{refl, rules, unwrap_or, Some, None}
use Rattle.std.specs.List.{position, position_or_len}
use Rattle.std.proofs.lemmas.List.Sums.{prefix_len-le-length}

place : (n l : ℕ) (b : Bool) → n ≤ l → nat_lt n l ≡ b → unwrap_or (cond b (Some n) None) l ≡ n
place n l true inside test = refl
place n l false inside test = search rules

pub place_or_length : (p : ℕ → Bool) (xs : List ℕ) → unwrap_or (position p xs) (length xs) ≡ position_or_len p xs
place_or_length p xs = place (position_or_len p xs) (length xs) (nat_lt (position_or_len p xs) (length xs)) (prefix_len-le-length _ xs) refl
