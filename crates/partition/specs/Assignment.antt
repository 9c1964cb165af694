-- Assignments of single instances to engines, after source 001, Definition 1: what good, feasible and used mean, and the listing of all assignments.
-- `test e x` says whether engine e may hold the load x; nothing else is known of the engines here.
use Rattle.std.specs.Prelude.{ℕ, zero, suc, List, [], ◌∷◌, ◌++◌, map, Bool, true, false, cond, ◌&&◌, ◌||◌, ◌≡◌, length, eqb}
use Rattle.loads.specs.Load.{holds_none}

-- document 01's assignment, the mapping χ of source 001: for each type in order, the engine number of each of its single instances
abbrev pub Assignment : Type 0
Assignment = List (List ℕ)

-- how many instances of one type are on engine e
unfoldable pub count_on : ℕ → List ℕ → ℕ
count_on e [] = 0
count_on e (p ∷ ps) = cond (eqb p e) (suc (count_on e ps)) (count_on e ps)

-- the load on engine e
abbrev pub load_on : ℕ → Assignment → List ℕ
load_on e χ = map (count_on e) χ

-- the load that χ assigns: how many instances of each type it sends somewhere
abbrev pub assigned : Assignment → List ℕ
assigned χ = map length χ

-- e is one of the engines es
unfoldable pub among : List ℕ → ℕ → Bool
among [] e = false
among (d ∷ es) e = eqb d e || among es e

-- every one of the list passes the test
unfoldable pub every : {A : Type 0} → (A → Bool) → List A → Bool
every p [] = true
every p (x ∷ xs) = p x && every p xs

-- some one does
unfoldable pub any_of : {A : Type 0} → (A → Bool) → List A → Bool
any_of p [] = false
any_of p (x ∷ xs) = p x || any_of p xs

-- those of a list that pass the test, in order
unfoldable pub passing : (ℕ → Bool) → List ℕ → List ℕ
passing p [] = []
passing p (e ∷ es) = cond (p e) (e ∷ passing p es) (passing p es)

-- document 01's good: each instance is on one of the engines es, and on each of these the load passes the test
unfoldable pub good : (ℕ → List ℕ → Bool) → List ℕ → Assignment → Bool
good test es χ = every (every (among es)) χ && every (λ (e : ℕ). test e (load_on e χ)) es

-- ν instances of each type can be partitioned among the engines es (source 001, Definition 2)
pub record Feasible (test : ℕ → List ℕ → Bool) (es ν : List ℕ) : Type 0 where
  pub mapping : Assignment
  pub assigns : assigned mapping ≡ ν
  pub is_good : good test es mapping ≡ true

-- the number of engines that hold at least one instance, even one with u = s = 0
unfoldable pub used_of : List ℕ → Assignment → ℕ
used_of [] χ = 0
used_of (e ∷ es) χ = cond (holds_none (load_on e χ)) (used_of es χ) (suc (used_of es χ))

-- a, a + 1, .., as many as n
unfoldable pub numbers_from : ℕ → ℕ → List ℕ
numbers_from a zero = []
numbers_from a (suc n) = a ∷ numbers_from (suc a) n

-- the engines 1 to m
abbrev pub engines_to : ℕ → List ℕ
engines_to m = numbers_from 1 m

-- every one of xs before every one of the rests
unfoldable pub each_before : {A : Type 0} → List A → List (List A) → List (List A)
each_before {A = A} [] rests = []
each_before {A = A} (x ∷ xs) rests = map (λ (rest : List A). x ∷ rest) rests ++ each_before xs rests

-- every way to send n instances of one type to the engines es
unfoldable pub places_of : List ℕ → ℕ → List (List ℕ)
places_of es zero = [] ∷ []
places_of es (suc n) = each_before es (places_of es n)

-- the listing of all assignments of ν to the engines es
unfoldable pub assignments_of : List ℕ → List ℕ → List Assignment
assignments_of es [] = [] ∷ []
assignments_of es (n ∷ ν) = each_before (places_of es n) (assignments_of es ν)

-- brute force: some assignment of the listing is good
unfoldable pub some_good : (ℕ → List ℕ → Bool) → List ℕ → List ℕ → Bool
some_good test es ν = any_of (good test es) (assignments_of es ν)
