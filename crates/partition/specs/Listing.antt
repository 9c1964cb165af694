-- How often an assignment stands in a listing, and how many instances a load has: what it takes to say that the listing of all assignments has each exactly
-- once.
use Rattle.std.specs.Prelude.{ℕ, suc, ◌+◌, List, [], ◌∷◌, Bool, true, false, cond, ◌&&◌, eqb}
use Rattle.partition.specs.Assignment.{Assignment}

-- the same list, entry by entry
unfoldable pub same_list : {A : Type 0} → (A → A → Bool) → List A → List A → Bool
same_list same [] [] = true
same_list same [] (y ∷ ys) = false
same_list same (x ∷ xs) [] = false
same_list same (x ∷ xs) (y ∷ ys) = same x y && same_list same xs ys

abbrev pub same_assignment : Assignment → Assignment → Bool
same_assignment χ χ' = same_list (same_list eqb) χ χ'

-- how often x stands in a list
unfoldable pub occurrences : {A : Type 0} → (A → A → Bool) → A → List A → ℕ
occurrences same x [] = 0
occurrences same x (y ∷ ys) = cond (same y x) (suc (occurrences same x ys)) (occurrences same x ys)

-- the number of instances of a load, of all types
unfoldable pub instances : List ℕ → ℕ
instances [] = 0
instances (n ∷ ν) = n + instances ν
