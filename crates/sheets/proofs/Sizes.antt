-- How many bytes a sheet has.
use Prim.Native.Nat.{ℕ, zero, suc, ◌+◌, ◌*◌, ◌≤◌, ◌<◌}
use mathlib.Core.Path.{◌≡◌, refl, sym, ap}
use mathlib.Core.List.{List, [], ◌∷◌, ◌++◌}
use mathlib.Core.Bool.{Bool, true, false, cond}
use native.Mathlib.Nat.{zero-mul, zero-add, one-mul, add-mul, mul-le-mul_right}
use native.Mathlib.Numerals.{add-one}
use native.Mathlib.Omega.{arith}
use lib.ListN.{length, get_or, take, drop, length-append, drop_of_length-le}
use lib.Seq.{length-take-le, drop-cons}
use Rattle.buffer.specs.Bytes.{bytes2}
use Rattle.system.specs.Limits.{engine_limit, type_limit}
use Rattle.loads.specs.declared.EngineLoad.{EngineLoad}
use Rattle.loads.specs.Load.{holds_none, idle_engine}
use Rattle.partition.specs.Shares.{used_loads}
use Rattle.sheets.specs.Sheet.{record_rule, rule_at, field_size, counts_bytes, record_bytes, engine_bytes, records_bytes, used_in, sheet_bytes, sheet_size}

pub length-counts : (xs : List ℕ) → length (counts_bytes xs) ≡ 2 * length xs
unfolding counts_bytes
length-counts [] = refl
length-counts (x ∷ xs) = omega (arith, length-append (bytes2 x) (counts_bytes xs), length-counts xs)

pub length-record : (k e : ℕ) (l : EngineLoad) → k ≤ length l.counts → length (record_bytes k e l) ≡ field_size record_rule k
unfolding record_bytes
length-record k e l h = omega (arith, length-counts (take k l.counts), length-take-le k l.counts h)

-- an engine that holds an instance counts one
used-cons : (l : EngineLoad) (ls : List EngineLoad) → used_in (l ∷ ls) ≡ cond (holds_none l.counts) 0 1 + used_in ls
unfolding used_loads
used-cons l ls = go (holds_none l.counts)
  where
    go : (b : Bool) → cond b (used_in ls) (suc (used_in ls)) ≡ cond b 0 1 + used_in ls
    go true = omega arith
    go false = omega arith

-- the numbers of the table are small
pub rule-small : (row k : ℕ) → row < 2 → k ≤ type_limit → ((rule_at row).body ≤ 9) × ((rule_at row).each * k ≤ 12)
rule-small zero k h few = (omega arith, omega (arith, zero-mul k))
rule-small (suc zero) k h few = (omega arith, omega arith)
rule-small (suc (suc row)) k h few = absurd (omega arith)

-- one engine after another
pub used_turn : (n : ℕ) (ls : List EngineLoad) (i : ℕ) (d : EngineLoad) → i < length ls → n ≡ cond (holds_none (get_or ls i d).counts) 0 1 → used_in (drop i ls) ≡ n + used_in (drop (i + 1) ls)
used_turn n ls i d h e = rw (add-one i, drop-cons ls i d, e) (used-cons (get_or ls i d) (drop (suc i) ls))

pub used-end : (ls : List EngineLoad) (i : ℕ) → length ls ≤ i → used_in (drop i ls) ≡ 0
unfolding used_loads
used-end ls i h = rw (drop_of_length-le ls {i = i})

one_at_most : (b : Bool) → ◌≤◌ (cond b 0 1) 1
one_at_most true = omega arith
one_at_most false = omega arith

-- at most all
pub used-few : (ls : List EngineLoad) → used_in ls ≤ length ls
unfolding used_loads
used-few [] = omega arith
used-few (l ∷ ls) = omega (arith, used-cons l ls, one_at_most (holds_none l.counts), used-few ls)

-- the records of loads of six counts
pub length-records : (k e : ℕ) (ls : List EngineLoad) → ((i : ℕ) → i < length ls → k ≤ length (get_or ls i idle_engine).counts) → length (records_bytes k e ls) ≡ used_in ls * field_size record_rule k
unfolding records_bytes
length-records k e [] six = unfold used_loads in sym (zero-mul (field_size record_rule k))
length-records k e (l ∷ ls) six = go (holds_none l.counts) refl (length-records k (suc e) ls (λ i h. six (suc i) (omega arith)))
  where
    go : (b : Bool) → holds_none l.counts ≡ b → length (records_bytes k (suc e) ls) ≡ used_in ls * field_size record_rule k → length (engine_bytes k e l ++ records_bytes k (suc e) ls) ≡ used_in (l ∷ ls) * field_size record_rule k
    go true q rest = rw (q, used-cons l ls, q, zero-add (used_in ls)) rest
    go false q rest =
        rw (q, used-cons l ls, q, add-mul 1 (used_in ls) (field_size record_rule k), length-append (record_bytes k e l) (records_bytes k (suc e) ls), rest, length-record k e l (six 0 (omega arith)))
        (ap (λ (n : ℕ). n + used_in ls * field_size record_rule k) (sym (one-mul (field_size record_rule k))))

pub length-sheet : (k : ℕ) (ls : List EngineLoad) → ((i : ℕ) → i < length ls → k ≤ length (get_or ls i idle_engine).counts) → length (sheet_bytes k ls) ≡ sheet_size k ls
unfolding sheet_bytes
length-sheet k ls six = omega (arith, length-records k 1 ls six, zero-mul k)

-- the longest sheet
pub sheet-room : (k : ℕ) (ls : List EngineLoad) → k ≤ type_limit → length ls ≡ engine_limit → sheet_size k ls ≤ 389
sheet-room k ls few all = omega (arith, mul-le-mul_right (field_size record_rule k) (used-few ls), zero-mul k, all-records)
  where
    all-records : length ls * field_size record_rule k ≡ engine_limit * field_size record_rule k
    all-records = ap (λ (n : ℕ). n * field_size record_rule k) all
