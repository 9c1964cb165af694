-- A loop over the types: what is left of a definition after the types before i, by its next type, and nothing at the end.
use Prim.Native.Nat.{ℕ, suc, ◌+◌, ◌-◌, ◌*◌, ◌/◌, ◌%◌, ◌≤◌, ◌<◌}
use mathlib.Core.Path.{◌≡◌, refl, sym, ap, ap₂, ◌∙◌}
use mathlib.Core.List.{List, [], ◌∷◌, ◌++◌, map, append-nil}
use mathlib.Core.Bool.{Bool, ◌&&◌}
use mathlib.Core.Logic.{◌⊎◌, inl, inr}
use native.Mathlib.Numerals.{add-one}
use native.Mathlib.Omega.{arith}
use lib.ListN.{length, get_or, set, take, drop, drop_of_length-le, length-map}
use lib.Seq.{drop-cons, take-suc-set, append_snoc, take_all}
use lib.Dec.{eqb}
use Rattle.std.specs.List.{list_all, zip}
use Rattle.system.specs.declared.TaskType.{TaskType}
use Rattle.system.specs.Values.{no_task}
use Rattle.system.specs.Limits.{columns_of}
use Rattle.loads.specs.Load.{sum_over, apart_at, apart, holds_none, less}
use Rattle.loads.specs.Column.{column_from, load_of}

-- of an array in a struct whose elements are structs, `search (needs, length-mapped)` finds the length
pub length-mapped : (X Y : Type 0) (f : X → Y) (l : List X) (n : ℕ) → length (map f l) ≡ n → length l ≡ n
length-mapped X Y f l n h = sym (length-map l f) ∙ h

-- the ceilings of some types
abbrev pub ceilings : List TaskType → List ℕ
ceilings ts = map (λ (t : TaskType). t.ceiling) ts

-- types and counts
module _ (ts : List TaskType) (xs : List ℕ) (i : ℕ) (ht : i < length ts) (hx : i < length xs) where
  pub column-turn : (stride : ℕ) →
      column_from stride (ceilings (drop i ts)) (drop i xs)
      ≡ get_or xs i 0 * stride + column_from (stride * ((get_or ts i no_task).ceiling + 1)) (ceilings (drop (i + 1) ts)) (drop (i + 1) xs)
  unfolding column_from
  column-turn stride = rw (add-one i, drop-cons ts i no_task, drop-cons xs i 0)

-- the types alone
module _ (ts : List TaskType) (i : ℕ) (ht : i < length ts) where
  pub load-turn : (c : ℕ) →
      load_of (ceilings (drop i ts)) c ≡ (c % ((get_or ts i no_task).ceiling + 1)) ∷ load_of (ceilings (drop (i + 1) ts)) (c / ((get_or ts i no_task).ceiling + 1))
  unfolding load_of
  load-turn c = rw (add-one i, drop-cons ts i no_task)

pub load-end : (ts : List TaskType) (i c : ℕ) → length ts ≤ i → load_of (ceilings (drop i ts)) c ≡ []
unfolding load_of
load-end ts i c h = rw (drop_of_length-le ts {i = i})

-- a list that a loop fills from its start: after one more element, and at the end
pub filled-turn : (l rest : List ℕ) (i v : ℕ) → i < length l → take (i + 1) (set l i v) ++ rest ≡ take i l ++ v ∷ rest
filled-turn l rest i v h = rw (add-one i, take-suc-set l i v) (append_snoc (take i l) v rest)

pub filled-end : (l rest : List ℕ) (i : ℕ) → length l ≤ i → rest ≡ [] → take i l ++ rest ≡ l
filled-end l rest i h e = rw (e, append-nil) (take_all i l h)

-- what is left of the types and counts in a loop over both: one more of each, and the end of one of them
pub sum-more : (each : TaskType → ℕ → ℕ) (ts us : List TaskType) (xs ys : List ℕ) (t : TaskType) (x : ℕ) → ts ≡ t ∷ us → xs ≡ x ∷ ys →
    sum_over each ts xs ≡ each t x + sum_over each us ys
unfolding sum_over
sum-more each ts us xs ys t x ht hx = rw (ht, hx)

pub sum-done : (each : TaskType → ℕ → ℕ) (ts : List TaskType) (xs : List ℕ) → (ts ≡ []) ⊎ (xs ≡ []) → sum_over each ts xs ≡ 0
unfolding sum_over
sum-done each ts xs (inl h) = rw h
sum-done each [] xs (inr h) = refl
sum-done each (t ∷ ts) xs (inr h) = rw h

pub column-more : (stride : ℕ) (ts us : List TaskType) (xs ys : List ℕ) (t : TaskType) (x : ℕ) → ts ≡ t ∷ us → xs ≡ x ∷ ys →
    column_from stride (ceilings ts) xs ≡ x * stride + column_from (stride * (t.ceiling + 1)) (ceilings us) ys
unfolding column_from
column-more stride ts us xs ys t x ht hx = rw (ht, hx)

pub column-done : (stride : ℕ) (ts : List TaskType) (xs : List ℕ) → (ts ≡ []) ⊎ (xs ≡ []) → column_from stride (ceilings ts) xs ≡ 0
unfolding column_from
column-done stride ts xs (inl h) = rw h
column-done stride [] xs (inr h) = refl
column-done stride (t ∷ ts) xs (inr h) = rw h

pub columns-more : (ts us : List TaskType) (t : TaskType) → ts ≡ t ∷ us → columns_of (ceilings ts) ≡ (t.ceiling + 1) * columns_of (ceilings us)
unfolding columns_of
columns-more ts us t h = rw h

-- the words of a load as the library's, of its types and counts in pairs
pub apart-listed : (ts : List TaskType) (xs : List ℕ) → list_all (λ (p : TaskType × ℕ). apart_at p.0.most p.1) (zip ts xs) ≡ apart ts xs
unfolding apart
apart-listed [] xs = refl
apart-listed (t ∷ ts) [] = refl
apart-listed (t ∷ ts) (x ∷ xs) = ap (λ (b : Bool). apart_at t.most x && b) (apart-listed ts xs)

pub none-listed : (xs : List ℕ) → list_all (λ (x : ℕ). eqb x 0) xs ≡ holds_none xs
unfolding holds_none
none-listed [] = refl
none-listed (x ∷ xs) = ap (λ (b : Bool). eqb x 0 && b) (none-listed xs)

-- a list whose entries are the differences
pub less-listed : (xs ys zs : List ℕ) → length ys ≡ length xs → length zs ≡ length xs → ((i : ℕ) → i < length xs → get_or zs i 0 ≡ get_or xs i 0 - get_or ys i 0) → zs ≡ less xs ys
unfolding less
less-listed [] ys [] hy hz h = refl
less-listed [] ys (z ∷ zs) hy hz h = absurd (omega arith)
less-listed (x ∷ xs) [] zs hy hz h = absurd (omega arith)
less-listed (x ∷ xs) (y ∷ ys) [] hy hz h = absurd (omega arith)
less-listed (x ∷ xs) (y ∷ ys) (z ∷ zs) hy hz h =
    ap₂ (λ (n : ℕ) (ns : List ℕ). n ∷ ns) (h 0 (omega arith)) (less-listed xs ys zs (omega arith) (omega arith) (λ i more. h (suc i) (omega arith)))

-- a list whose entries are the ceilings
pub ceilings-listed : (ts : List TaskType) (ns : List ℕ) → length ns ≡ length ts → ((i : ℕ) → i < length ts → get_or ns i 0 ≡ (get_or ts i no_task).ceiling) → ns ≡ ceilings ts
ceilings-listed [] [] e h = refl
ceilings-listed [] (n ∷ ns) e h = absurd (omega arith)
ceilings-listed (t ∷ ts) [] e h = absurd (omega arith)
ceilings-listed (t ∷ ts) (n ∷ ns) e h =
    ap₂ (λ (m : ℕ) (ms : List ℕ). m ∷ ms) (h 0 (omega arith)) (ceilings-listed ts ns (omega arith) (λ i more. h (suc i) (omega arith)))
