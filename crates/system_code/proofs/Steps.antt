-- The steps of the loops over a system's six types and over the tables of fields, which the functions' proofs cite.
use Prim.Native.Nat.{ℕ, zero, suc, ◌+◌, ◌-◌, ◌*◌, ◌≤◌, ◌<◌, min}
use native.Mathlib.Omega.{arith}
use native.Mathlib.Numerals.{add-one}
use native.Mathlib.Nat.{sub-zero, mul_assoc, mul-one, le-mul_of_pos_right, min-eq_left, min-eq_right}
use Rattle.std.proofs.Common.{Option, Some, None}
use Rattle.std.specs.Prelude.{is_some}
use Rattle.std.specs.List.{list_all, find, enumerate_from}
use Rattle.std.proofs.lemmas.List.{take_min, drop-replicate}
use mathlib.Core.List.{List, [], ◌∷◌, ◌++◌, map}
use mathlib.Core.Bool.{Bool, true, false, not, cond, ◌&&◌, beq, false≢true}
use mathlib.Core.Path.{◌≡◌, refl, sym, ap, ◌∙◌, subst}
use borrow.Author.Tests.{lt-ltb, le-ltb}
use lib.ListN.{length, get_or, take, drop, replicate, drop_of_length-le}
use lib.Seq.{drop-cons}
use lib.Dec.{ltb}
use Rattle.system.specs.declared.Costs.{Costs}
use Rattle.system.specs.declared.Kind.{Kind}
use Rattle.system.specs.declared.TaskType.{TaskType}
use Rattle.system.specs.Values.{no_task, cleared_types}
use Rattle.system.specs.Limits.{type_limit, column_limit, or_else, pace_fault, paces_fault, columns_of, given, is_one_kind, kinds_agree, zero_task, sound_task, types_keep}
use Rattle.system.specs.Rules.{first_of}
use Rattle.system.proofs.Within.{first_fault}
use Rattle.system.proofs.Laws.{columns_of-pos}

-- Columns: `left ts` is the product that the types ts have a part in

abbrev pub left : List TaskType → ℕ
left ts = columns_of (map (λ (t : TaskType). t.ceiling) ts)

pub columns-step : (ts : List TaskType) (i p total : ℕ) (d : TaskType) → i < length ts → p * left (drop i ts) ≡ total → p * ((get_or ts i d).ceiling + 1) * left (drop (i + 1) ts) ≡ total
unfolding columns_of
columns-step ts i p total d h e =
    let q : left (drop i ts) ≡ ((get_or ts i d).ceiling + 1) * left (drop (i + 1) ts) = rw (add-one i, drop-cons ts i d h) in
    mul_assoc p ((get_or ts i d).ceiling + 1) (left (drop (i + 1) ts)) ∙ ap (λ (x : ℕ). p * x) (sym q) ∙ e

pub columns-end : (ts : List TaskType) (i p total : ℕ) → length ts ≤ i → p ≤ column_limit → p * left (drop i ts) ≡ total → p ≡ min total (column_limit + 1)
unfolding columns_of
columns-end ts i p total h small e =
    let same : p ≡ total = sym (mul-one p) ∙ rw (drop_of_length-le ts h) at e in
    sym (min-eq_left (omega arith) ∙ sym same)

pub columns-over : (ts : List TaskType) (p total : ℕ) → column_limit < p → p * left ts ≡ total → column_limit + 1 ≡ min total (column_limit + 1)
columns-over ts p total over e =
    let more : p ≤ total = subst (λ (x : ℕ). p ≤ x) e (le-mul_of_pos_right p (columns_of-pos (map (λ (t : TaskType). t.ceiling) ts))) in
    sym (min-eq_right (omega arith))

-- The types of a system: one entry, then the others

-- the entry at an index, where the first k are types
abbrev pub entry-keeps : ℕ → (ℕ × TaskType) → Bool
entry-keeps k p = cond (ltb p.0 k) (sound_task p.1) (zero_task p.1)

types-from : (k i : ℕ) (ts : List TaskType) → list_all (entry-keeps k) (enumerate_from i ts) ≡ types_keep (k - i) ts
unfolding types_keep
types-from k i [] = refl
types-from k i (t ∷ ts) = ap (λ (b : Bool). entry-keeps k (i, t) && b) (types-from k (i + 1) ts) ∙ go (k - i) refl
  where
    go : (m : ℕ) → k - i ≡ m → (entry-keeps k (i, t) && types_keep (k - (i + 1)) ts) ≡ types_keep m (t ∷ ts)
    go zero e = rw (le-ltb i k (omega arith)) (ap (λ (n : ℕ). zero_task t && types_keep n ts) (omega arith))
    go (suc m) e = rw (lt-ltb i k (omega arith)) (ap (λ (n : ℕ). sound_task t && types_keep n ts) (omega arith))

pub types-listed : (k : ℕ) (ts : List TaskType) → list_all (entry-keeps k) (enumerate_from 0 ts) ≡ types_keep k ts
types-listed k ts = types-from k 0 ts ∙ ap (λ (n : ℕ). types_keep n ts) (sub-zero k)

-- The second kind is given of all types or of none: the code asks of each whether its costs are missing exactly where there is one kind

abbrev pub kind_agrees : Bool → TaskType → Bool
kind_agrees one t = beq (not (is_some t.there)) one

agrees_of : (one : Bool) (there : Option Costs) → beq (not (is_some there)) one ≡ cond one (not (given there)) (given there)
agrees_of true None = refl
agrees_of true (Some c) = refl
agrees_of false None = refl
agrees_of false (Some c) = refl

pub kinds-listed : (one : Bool) (k : ℕ) (ts : List TaskType) → list_all (kind_agrees one) (take k ts) ≡ kinds_agree one k ts
unfolding kinds_agree
kinds-listed one zero [] = refl
kinds-listed one zero (t ∷ ts) = refl
kinds-listed one (suc k) [] = refl
kinds-listed one (suc k) (t ∷ ts) = ap (λ (b : Bool). b && list_all (kind_agrees one) (take k ts)) (agrees_of one t.there) ∙ ap (λ (b : Bool). cond one (not (given t.there)) (given t.there) && b) (kinds-listed one k ts)

-- Request 2026-14: the first fault among the C and T of the first k types is that of their list

abbrev pub paced : ℕ → TaskType → ℕ
paced whole t = pace_fault whole t.time t.pace

pub paces-listed : (whole k : ℕ) (ts : List TaskType) → first_fault (paced whole) (take k ts) ≡ paces_fault whole k ts
unfolding paces_fault
paces-listed whole zero [] = refl
paces-listed whole zero (t ∷ ts) = refl
paces-listed whole (suc k) [] = refl
paces-listed whole (suc k) (t ∷ ts) = ap (λ (n : ℕ). or_else (paced whole t) n) (paces-listed whole k ts)

pub paces-first : (whole k n : ℕ) (ts : List TaskType) → length ts ≡ type_limit → n ≡ min k type_limit → first_fault (paced whole) (take n ts) ≡ paces_fault whole k ts
paces-first whole k n ts six e =
    let same : n ≡ min k (length ts) = e ∙ ap (min k) (sym six) in
    ap (λ (j : ℕ). first_fault (paced whole) (take j ts)) same ∙ ap (first_fault (paced whole)) (take_min k ts) ∙ paces-listed whole k ts

-- Clearing: what is kept stands before what is left of six entries with nothing given

pub cleared_is : (k kept : ℕ) (ts front : List TaskType) → length ts ≡ type_limit → kept ≡ min k type_limit → front ≡ take kept ts
    → front ++ drop kept (replicate type_limit no_task) ≡ cleared_types k ts
cleared_is k kept ts front six e same =
    let least : kept ≡ min k (length ts) = e ∙ ap (min k) (sym six) in
    let first : front ≡ take k ts = same ∙ ap (λ (n : ℕ). take n ts) least ∙ take_min k ts in
    let left : type_limit - kept ≡ type_limit - k = omega arith in
    let rest : drop kept (replicate type_limit no_task) ≡ replicate (type_limit - k) no_task = drop-replicate kept type_limit no_task ∙ ap (λ (n : ℕ). replicate n no_task) left in
    λ i. first i ++ rest i

-- There is one kind where no second is given

pub none_is_one : (one : Bool) (second : Option Kind) → is_some second ≡ not one → one ≡ is_one_kind second
none_is_one true None e = refl
none_is_one false None e = absurd (false≢true e)
none_is_one true (Some k) e = absurd (false≢true (sym e))
none_is_one false (Some k) e = refl

-- Request 2026-13: a list of what f gives of each entry

pub all_mapped : {A B : Type 0} (f : A → B) (xs : List A) (ys : List B) → length ys ≡ length xs
    → ((i : ℕ) (d : A) (e : B) → i < length xs → get_or ys i e ≡ f (get_or xs i d)) → ys ≡ map f xs
all_mapped f [] [] h at = refl
all_mapped f [] (y ∷ ys) h at = absurd (omega arith)
all_mapped f (x ∷ xs) [] h at = absurd (omega arith)
all_mapped f (x ∷ xs) (y ∷ ys) h at =
    let first : y ≡ f x = at 0 x y (omega arith) in
    let rest : ys ≡ map f xs = all_mapped f xs ys (omega arith) (λ i d e l. at (suc i) d e (omega arith)) in
    cc

-- A table: its first row that passes the test

pub first_found : {A : Type 0} (hit : A → Bool) (rows : List A) → find hit rows ≡ first_of hit Some None rows
first_found hit [] = refl
first_found hit (r ∷ rows) = ap (λ (o : Option _). cond (hit r) (Some r) o) (first_found hit rows)
