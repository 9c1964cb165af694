-- A loop over the types or over the engines: what is left of a definition after those before i, by the next one, and nothing at the end.
use Rattle.std.proofs.Common.{Some, None}
use Prim.Native.Nat.{ℕ, zero, suc, ◌+◌, ◌-◌, ◌≤◌, ◌<◌}
use mathlib.Core.Path.{◌≡◌, refl, sym, ap, ◌∙◌}
use mathlib.Core.List.{List, [], ◌∷◌, ◌++◌, append-nil}
use mathlib.Core.Bool.{Bool, true, false, cond, not, ◌&&◌, and_assoc}
use native.Mathlib.Nat.{le_refl}
use native.Mathlib.Numerals.{add-one}
use native.Mathlib.Omega.{arith}
use borrow.Author.Tests.{lt-ltb, le-ltb}
use lib.ListN.{length, get_or, set, take, drop, replicate, length-set, drop_of_length-le}
use lib.Seq.{take-suc, take-set-le, get_or-set_same, drop-cons}
use lib.Dec.{leb}
use Rattle.system.specs.declared.TaskType.{TaskType}
use Rattle.system.specs.declared.System.{System}
use Rattle.system.specs.Values.{no_task}
use Rattle.loads.specs.declared.EngineLoad.{EngineLoad}
use Rattle.loads.specs.Load.{plus, within, empty_load}
use Rattle.loads.proofs.Steps.{ceilings}
use Rattle.partition.specs.Assignment.{every, passing, numbers_from, engines_to}
use Rattle.partition.specs.Shares.{sum_of}
use Rattle.partition.proofs.Lists.{engines_to-last, passing-++}
use Rattle.board.specs.Boards.{standing_of}
use Rattle.board.specs.Truth.{true_engine, zero_engine, true_loads, engine_true}
use Rattle.board.specs.Calls.{first_of}

-- one more part of a test: r is e, what is left is e and the next, and the flag so far with what is left is the whole
pub and-turn : (flag r e left next whole : Bool) → r ≡ e → left ≡ (e && next) → (flag && left) ≡ whole → (flag && r && next) ≡ whole
and-turn flag r e left next whole p q h = and_assoc flag r next ∙ (cc)

-- over the types

pub get_or-zeros : (n k : ℕ) → ◌≡◌ {A = ℕ} (get_or (replicate n 0) k 0) 0
get_or-zeros zero k = refl
get_or-zeros (suc n) zero = refl
get_or-zeros (suc n) (suc k) = get_or-zeros n k

-- one element replaced, and a bound at a place
pub set-le : (l : List ℕ) (i v k b : ℕ) → get_or l k 0 ≤ b → (k ≡ i → v ≤ b) → get_or (set l i v) k 0 ≤ b
set-le [] i v k b h p = h
set-le (x ∷ l) zero v zero b h p = p refl
set-le (x ∷ l) zero v (suc k) b h p = h
set-le (x ∷ l) (suc i) v zero b h p = h
set-le (x ∷ l) (suc i) v (suc k) b h p = set-le l i v k b h (λ e. p (ap suc e))

pub plus_turn : (xs ys : List ℕ) (i : ℕ) → i < length xs → i < length ys →
    plus (drop i xs) (drop i ys) ≡ (get_or xs i 0 + get_or ys i 0) ∷ plus (drop (i + 1) xs) (drop (i + 1) ys)
unfolding plus
plus_turn xs ys i hx hy = rw (add-one i, drop-cons xs i 0, drop-cons ys i 0)

pub plus-end : (xs ys : List ℕ) (i : ℕ) → length xs ≤ i → plus (drop i xs) ys ≡ []
unfolding plus
plus-end xs ys i h = rw (drop_of_length-le xs {i = i})

pub within-turn : (xs : List ℕ) (ts : List TaskType) (i : ℕ) → i < length xs → i < length ts →
    within (drop i xs) (ceilings (drop i ts)) ≡ (leb (get_or xs i 0) (get_or ts i no_task).ceiling && within (drop (i + 1) xs) (ceilings (drop (i + 1) ts)))
unfolding within
within-turn xs ts i hx ht = rw (add-one i, drop-cons xs i 0, drop-cons ts i no_task)

pub within_end : (xs ys : List ℕ) (i : ℕ) → length xs ≤ i → within (drop i xs) ys ≡ true
unfolding within
within_end xs ys i h = rw (drop_of_length-le xs {i = i})

-- over the engines

pub standing-turn : (ls : List EngineLoad) (i : ℕ) (d : EngineLoad) → i < length ls → standing_of (drop i ls) ≡ plus (get_or ls i d).counts (standing_of (drop (i + 1) ls))
unfolding sum_of
standing-turn ls i d h = rw (add-one i, drop-cons ls i d)

pub standing-end : (ls : List EngineLoad) (i : ℕ) → length ls ≤ i → standing_of (drop i ls) ≡ empty_load
unfolding sum_of
standing-end ls i h = rw (drop_of_length-le ls {i = i})

module _ (y : System) (ls : List EngineLoad) (i : ℕ) where
  pub true-turn : (d : EngineLoad) → i < length ls →
      true_loads y (y.engines - i) (drop i ls) ≡ (engine_true y i (get_or ls i d) && true_loads y (y.engines - (i + 1)) (drop (i + 1) ls))
  unfolding true_loads
  true-turn d h = rw (add-one i, drop-cons ls i d) (go (y.engines - i) refl)
    where
      l : EngineLoad
      l = get_or ls i d

      rest : List EngineLoad
      rest = drop (suc i) ls

      go : (m : ℕ) → y.engines - i ≡ m → true_loads y m (l ∷ rest) ≡ (engine_true y i l && true_loads y (y.engines - suc i) rest)
      go zero e = rw (le-ltb i y.engines (omega arith)) (ap (λ (k : ℕ). zero_engine l && true_loads y k rest) (omega arith))
      go (suc m) e = rw (lt-ltb i y.engines (omega arith)) (ap (λ (k : ℕ). true_engine y l && true_loads y k rest) (omega arith))

  pub true-end : length ls ≤ i → true_loads y (y.engines - i) (drop i ls) ≡ true
  unfolding true_loads
  true-end h = rw (drop_of_length-le ls {i = i})

-- the first engine that passes

module _ (p : ℕ → Bool) (es : List ℕ) (i : ℕ) (h : i < length es) where
  pub first-stop : p (get_or es i 0) ≡ true → first_of p (drop i es) ≡ Some (get_or es i 0)
  unfolding first_of
  first-stop q = rw (drop-cons es i 0, q)

  pub first-turn : p (get_or es i 0) ≡ false → first_of p (drop i es) ≡ first_of p (drop (i + 1) es)
  unfolding first_of
  first-turn q = rw (add-one i, drop-cons es i 0, q)

pub first-end : (p : ℕ → Bool) (es : List ℕ) (i : ℕ) → length es ≤ i → first_of p (drop i es) ≡ None
unfolding first_of
first-end p es i h = rw (drop_of_length-le es {i = i})

-- the engines in service, of 1 to i

abbrev pub free : List Bool → ℕ → Bool
free marks e = not (get_or marks (e - 1) false)

module _ (marks : List Bool) (i : ℕ) where
  last-free : passing (free marks) (engines_to (i + 1)) ≡ passing (free marks) (engines_to i) ++ cond (get_or marks i false) [] ((i + 1) ∷ [])
  unfolding passing
  last-free =
      ap (λ (m : ℕ). passing (free marks) (engines_to m)) (add-one i)
      ∙ ap (passing (free marks)) (engines_to-last i)
      ∙ passing-++ (free marks) (engines_to i) (suc i ∷ [])
      ∙ ap (λ (l : List ℕ). passing (free marks) (engines_to i) ++ l) (ap (λ (j : ℕ). cond (not (get_or marks j false)) (suc i ∷ []) []) back ∙ ap (λ (e : ℕ). cond (not (get_or marks i false)) (e ∷ []) []) (sym (add-one i)) ∙ go (get_or marks i false))
    where
      back : suc i - 1 ≡ i
      back = omega arith

      go : (q : Bool) → cond (not q) ((i + 1) ∷ []) [] ≡ cond q [] ((i + 1) ∷ [])
      go true = refl
      go false = refl

  pub engines-skip : get_or marks i false ≡ true → passing (free marks) (engines_to (i + 1)) ≡ passing (free marks) (engines_to i)
  engines-skip q = last-free ∙ rw q (append-nil (passing (free marks) (engines_to i)))

  pub engines-turn : (numbers : List ℕ) (count : ℕ) → get_or marks i false ≡ false → count < length numbers → take count numbers ≡ passing (free marks) (engines_to i)
      → take (count + 1) (set numbers count (i + 1)) ≡ passing (free marks) (engines_to (i + 1))
  engines-turn numbers count q h e =
      ap (λ (n : ℕ). take n (set numbers count (i + 1))) (add-one count)
      ∙ take-suc (set numbers count (i + 1)) count 0 (rw (length-set numbers count (i + 1)) h)
      ∙ rw (take-set-le count numbers count (i + 1) (le_refl count), get_or-set_same numbers count (i + 1) 0 h, e) (sym (last-free ∙ rw q))

-- the marks of the engines i + 1 to 16

pub marks-turn : (p : ℕ → Bool) (i : ℕ) → i < 16 → every p (numbers_from (i + 1) (16 - i)) ≡ (p (i + 1) && every p (numbers_from (i + 1 + 1) (16 - (i + 1))))
unfolding every numbers_from
marks-turn p i h =
    let left : 16 - i ≡ suc (16 - (i + 1)) = omega arith in
    ap (λ (n : ℕ). every p (numbers_from (i + 1) n)) left ∙ ap (λ (a : ℕ). p (i + 1) && every p (numbers_from a (16 - (i + 1)))) (sym (add-one (i + 1)))

pub marks-end : (p : ℕ → Bool) (i : ℕ) → 16 ≤ i → every p (numbers_from (i + 1) (16 - i)) ≡ true
unfolding every numbers_from
marks-end p i h = let none : 16 - i ≡ 0 = omega arith in ap (λ (n : ℕ). every p (numbers_from (i + 1) n)) none
