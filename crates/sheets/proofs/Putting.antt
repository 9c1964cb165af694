-- The steps of the writer's loops over a record's counts and over the engines, which the functions' proofs cite.
use Prim.Native.Nat.{ℕ, suc, ◌+◌, ◌*◌, ◌≤◌, ◌<◌}
use mathlib.Core.Path.{◌≡◌, refl, sym, ap, ◌∙◌}
use mathlib.Core.List.{List, [], ◌∷◌, ◌++◌, append_assoc, append-nil}
use mathlib.Core.Bool.{Bool, true, false, cond}
use native.Mathlib.Nat.{zero-mul, one-mul, add-mul}
use native.Mathlib.Numerals.{add-one}
use native.Mathlib.Omega.{arith}
use lib.ListN.{length, get_or, take, drop, length-take}
use lib.Seq.{take-suc, length-take-le}
use Rattle.buffer.specs.Bytes.{bytes2}
use Rattle.loads.specs.declared.EngineLoad.{EngineLoad}
use Rattle.loads.specs.Load.{holds_none}
use Rattle.sheets.specs.Sheet.{record_rule, field_size, counts_bytes, record_bytes, engine_bytes, engine_size, records_bytes, used_in}
use Rattle.sheets.proofs.Sizes.{length-counts, used_turn}

-- The counts of a record: one more, and the room of those that are put

pub counts-more : (xs : List ℕ) (x : ℕ) → counts_bytes (xs ++ (x ∷ [])) ≡ counts_bytes xs ++ bytes2 x
unfolding counts_bytes
counts-more [] x = refl
counts-more (a ∷ xs) x = ap (λ (l : List ℕ). bytes2 a ++ l) (counts-more xs x)

pub counts-suc : (xs : List ℕ) (t d : ℕ) → t < length xs → counts_bytes (take (t + 1) xs) ≡ counts_bytes (take t xs) ++ bytes2 (get_or xs t d)
counts-suc xs t d h = rw (add-one t, take-suc xs t d h) (counts-more (take t xs) (get_or xs t d))

pub counts-put : (xs : List ℕ) (t : ℕ) → t ≤ length xs → length (counts_bytes (take t xs)) ≡ 2 * t
counts-put xs t h = omega (arith, length-counts (take t xs), length-take-le t xs h)

-- The records of the engines: one more, the room of the one that is next, and that it takes no more

pub records-more : (k e : ℕ) (ls : List EngineLoad) (l : EngineLoad) (n : ℕ) → n ≡ e + length ls → records_bytes k e (ls ++ (l ∷ [])) ≡ records_bytes k e ls ++ engine_bytes k n l
unfolding records_bytes
records-more k e [] l n q =
    let same : n ≡ e = omega arith in
    rw same (append-nil (engine_bytes k e l))
records-more k e (a ∷ ls) l n q =
    ap (λ (s : List ℕ). engine_bytes k e a ++ s) (records-more k (suc e) ls l n (omega arith))
    ∙ sym (append_assoc (engine_bytes k e a) (records_bytes k (suc e) ls) (engine_bytes k n l))

pub records-suc : (k : ℕ) (ls : List EngineLoad) (i : ℕ) (d : EngineLoad) → i < length ls → records_bytes k 1 (take (i + 1) ls) ≡ records_bytes k 1 (take i ls) ++ engine_bytes k (i + 1) (get_or ls i d)
records-suc k ls i d h =
    rw (add-one i, take-suc ls i d h) (records-more k 1 (take i ls) (get_or ls i d) (suc i) (omega (arith, length-take-le i ls (omega arith))))

pub engine-room : (k : ℕ) (ls : List EngineLoad) (i : ℕ) (d : EngineLoad) → i < length ls
    → used_in (drop i ls) * field_size record_rule k ≡ engine_size k (get_or ls i d) + used_in (drop (i + 1) ls) * field_size record_rule k
engine-room k ls i d h =
    rw (used_turn (cond (holds_none (get_or ls i d).counts) 0 1) ls i d h refl, add-mul (cond (holds_none (get_or ls i d).counts) 0 1) (used_in (drop (i + 1) ls)) (field_size record_rule k))
    (ap (λ (n : ℕ). n + used_in (drop (i + 1) ls) * field_size record_rule k) (one (holds_none (get_or ls i d).counts)))
  where
    one : (b : Bool) → cond b 0 1 * field_size record_rule k ≡ cond b 0 (field_size record_rule k)
    one true = zero-mul (field_size record_rule k)
    one false = one-mul (field_size record_rule k)

pub engine-inside : (k e : ℕ) (l : EngineLoad) → length (engine_bytes k e l) ≤ engine_size k l
unfolding record_bytes
engine-inside k e l = go (holds_none l.counts)
  where
    few : length (take k l.counts) ≤ k
    few = simp length-take (omega arith)

    go : (b : Bool) → length (cond b [] (record_bytes k e l)) ≤ cond b 0 (field_size record_rule k)
    go true = omega arith
    go false = omega (arith, length-counts (take k l.counts), few)
