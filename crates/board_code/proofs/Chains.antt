-- What a chain over a board's parts answers, in the words of crate `board`.
use Prim.Native.Nat.{ℕ, zero, suc, ◌+◌, ◌-◌, ◌<◌}
use mathlib.Core.Path.{◌≡◌, refl, sym, ap, ◌∙◌}
use mathlib.Core.List.{List, [], ◌∷◌, ◌++◌, map}
use mathlib.Core.Bool.{Bool, ◌&&◌}
use native.Mathlib.Nat.{sub-zero}
use native.Mathlib.Numerals.{add-one}
use native.Mathlib.Omega.{arith}
use borrow.Author.Tests.{lt-ltb, le-ltb}
use lib.ListN.{length, get_or}
use lib.Dec.{leb}
use Rattle.std.proofs.lemmas.Grind.{same_number_lists}
use Rattle.std.proofs.Common.{Some}
use Rattle.std.specs.Array.{list_steps}
use Rattle.std.specs.Iterator.{Yields}
use Rattle.std.specs.List.{list_all, zip, enumerate_from, range_with_len}
use Rattle.system.specs.declared.TaskType.{TaskType}
use Rattle.system.specs.declared.System.{System}
use Rattle.loads.specs.declared.EngineLoad.{EngineLoad}
use Rattle.loads.specs.Load.{within, plus}
use Rattle.loads.proofs.Order.{plus_comm, plus_assoc}
use Rattle.partition.specs.Assignment.{every, numbers_from}
use Rattle.partition.specs.Shares.{sum_of}
use Rattle.board.specs.Boards.{standing_of}
use Rattle.board.specs.Truth.{true_engine, zero_engine, true_loads, engine_true}

-- each total under its type's ceiling
pub within-zip : (xs : List ℕ) (ts : List TaskType) → length xs ≡ length ts → list_all (λ (p : ℕ × TaskType). leb p.0 p.1.ceiling) (zip xs ts) ≡ within xs (map (λ (t : TaskType). t.ceiling) ts)
unfolding within
within-zip [] ts h = refl
within-zip (x ∷ xs) [] h = absurd (omega arith)
within-zip (x ∷ xs) (t ∷ ts) h = ap (λ (b : Bool). leb x t.ceiling && b) (within-zip xs ts (omega arith))

-- each engine with its index
true-enumerate : (y : System) (i : ℕ) (ls : List EngineLoad) → list_all (λ (p : ℕ × EngineLoad). engine_true y p.0 p.1) (enumerate_from i ls) ≡ true_loads y (y.engines - i) ls
unfolding true_loads
true-enumerate y i [] = refl
true-enumerate y i (l ∷ ls) = ap (λ (b : Bool). engine_true y i l && b) (true-enumerate y (i + 1) ls) ∙ go (y.engines - i) refl
  where
    go : (m : ℕ) → y.engines - i ≡ m → (engine_true y i l && true_loads y (y.engines - (i + 1)) ls) ≡ true_loads y m (l ∷ ls)
    go zero e = rw (le-ltb i y.engines (omega arith)) (ap (λ (k : ℕ). zero_engine l && true_loads y k ls) (omega arith))
    go (suc m) e = rw (lt-ltb i y.engines (omega arith)) (ap (λ (k : ℕ). true_engine y l && true_loads y k ls) (omega arith))

pub true-all : (y : System) (ls : List EngineLoad) → list_all (λ (p : ℕ × EngineLoad). engine_true y p.0 p.1) (enumerate_from 0 ls) ≡ true_loads y y.engines ls
true-all y ls = true-enumerate y 0 ls ∙ ap (λ (k : ℕ). true_loads y k ls) (sub-zero y.engines)

-- each number of a range
pub every-range : (p : ℕ → Bool) (a n : ℕ) → list_all p (range_with_len a n) ≡ every p (numbers_from a n)
unfolding every numbers_from
every-range p a zero = refl
every-range p a (suc n) = rw (add-one a) (ap (λ (b : Bool). p a && b) (every-range p (suc a) n))

-- what stands with one engine more at the end
pub standing-more : (ls : List EngineLoad) (l : EngineLoad) → standing_of (ls ++ l ∷ []) ≡ plus l.counts (standing_of ls)
unfolding sum_of
standing-more [] l = refl
standing-more (k ∷ ls) l =
    ap (plus k.counts) (standing-more ls l)
    ∙ sym (plus_assoc k.counts l.counts (standing_of ls))
    ∙ ap (λ (x : List ℕ). plus x (standing_of ls)) (plus_comm k.counts l.counts)
    ∙ plus_assoc l.counts k.counts (standing_of ls)

-- two lists of six that are the same at each place
pub six-same : (xs ys : List ℕ) → length xs ≡ 6 → length ys ≡ 6 → get_or xs 0 0 ≡ get_or ys 0 0 → get_or xs 1 0 ≡ get_or ys 1 0 → get_or xs 2 0 ≡ get_or ys 2 0
    → get_or xs 3 0 ≡ get_or ys 3 0 → get_or xs 4 0 ≡ get_or ys 4 0 → get_or xs 5 0 ≡ get_or ys 5 0 → xs ≡ ys
six-same xs ys lx ly e0 e1 e2 e3 e4 e5 = same_number_lists xs ys (lx ∙ sym ly) (λ k h. at k (omega arith))
  where
    at : (k : ℕ) → k < 6 → get_or xs k 0 ≡ get_or ys k 0
    at zero h = e0
    at (suc zero) h = e1
    at (suc (suc zero)) h = e2
    at (suc (suc (suc zero))) h = e3
    at (suc (suc (suc (suc zero)))) h = e4
    at (suc (suc (suc (suc (suc zero))))) h = e5
    at (suc (suc (suc (suc (suc (suc k)))))) h = absurd (omega arith)

-- the item that the iterator of a list gives next
pub list-item : (s xs t u : List ℕ) (x : ℕ) → Yields list_steps s xs t → list_steps t (Some x) u → get_or s (length xs) 0 ≡ x
list-item s [] t u x y h = ap (λ (l : List ℕ). get_or l 0 0) (y ∙ h)
list-item s (z ∷ xs) t u x y h = ap (λ (l : List ℕ). get_or l (suc (length xs)) 0) y.1 ∙ list-item y.0 xs t u x y.2 h
