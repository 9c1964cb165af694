-- The round trip: the loads that are taken from the bytes of loads are these loads, where no engine past m holds anything, an engine that holds no instance is idle, and no type past k has a count.
-- No bound on the numbers is needed: their bytes read back as them.
use Prim.Native.Nat.{ℕ, zero, suc, ◌+◌, ◌*◌, ◌/◌, ◌%◌, ◌≤◌, ◌<◌}
use mathlib.Core.Path.{◌≡◌, refl, sym, subst, ap, ap₂, ◌∙◌}
use mathlib.Core.List.{List, [], ◌∷◌, ◌++◌, append_assoc}
use mathlib.Core.Bool.{Bool, true, false, cond}
use native.Mathlib.Nat.{zero-mul}
use native.Mathlib.Omega.{arith}
use borrow.Author.Tests.{ltb-true, ltb-false, eq-eqb, ne_eqb, le-leb, leb-true, leb-false}
use lib.ListN.{length, get_or, take, length-append}
use lib.Seq.{drop-append_seam, get_or-append-add, get_or-take, length-take-le, ext_get_or}
use lib.Dec.{leb, ltb}
use Rattle.buffer.specs.Bytes.{bytes4}
use Rattle.buffer.proofs.Laws.{bytes2-read, bytes4-read}
use Rattle.system.specs.Limits.{engine_limit, type_limit}
use Rattle.system.specs.Layout.{byte_at, word2, word4}
use Rattle.loads.specs.declared.EngineLoad.{EngineLoad}
use Rattle.loads.specs.Load.{holds_none, idle_engine}
use Rattle.loads.proofs.Order.{cons-path}
use Rattle.partition.proofs.Lists.{not-both}
use Rattle.table.proofs.Filled.{length-up_to, get_or-up_to}
use Rattle.sheets.specs.Sheet.{header_rule, record_rule, field_size, head_bytes, counts_bytes, record_bytes, records_bytes, used_in, sheet_bytes, stated_count, stated_counts, stated_load, taken_at, loads_from, loads_in}
use Rattle.sheets.proofs.Sizes.{length-record}

-- what a sheet of k types can state of an engine
pub record Tidy (k : ℕ) (l : EngineLoad) : Type 0 where
  pub six : length l.counts ≡ type_limit
  pub past : (t : ℕ) → k ≤ t → get_or l.counts t 0 ≡ 0
  pub idle : holds_none l.counts ≡ true → l ≡ idle_engine

-- of engines e, e + 1, .., those past m idle
pub data Neat (m k : ℕ) : ℕ → List EngineLoad → Type 0 where
  nil : {e : ℕ} → Neat m k e []
  cons : {e : ℕ} {l : EngineLoad} {ls : List EngineLoad} → Tidy k l → (m < e → l ≡ idle_engine) → Neat m k (suc e) ls → Neat m k e (l ∷ ls)

-- intermediate: a number past the start of a list

word-past : (head tail : List ℕ) (n j : ℕ) → n ≡ length head + j → word2 (head ++ tail) n ≡ word2 tail j
word-past head tail n j e =
    let next : n + 1 ≡ length head + (j + 1) = omega arith in
    ap₂ (λ (a b : ℕ). a * 256 + b) (rw e (get_or-append-add head tail j 0)) (rw next (get_or-append-add head tail (j + 1) 0))

counts-back : (xs rest : List ℕ) (t : ℕ) → t < length xs → word2 (counts_bytes xs ++ rest) (2 * t) ≡ get_or xs t 0
unfolding counts_bytes
counts-back [] rest t h = absurd (omega arith)
counts-back (x ∷ xs) rest zero h = bytes2-read x
counts-back (x ∷ xs) rest (suc t) h =
    word-past ((x / 256) ∷ (x % 256) ∷ []) (counts_bytes xs ++ rest) (2 * suc t) (2 * t) (omega arith) ∙ counts-back xs rest t (omega arith)

-- main: one record

module _ (k e : ℕ) (l : EngineLoad) (rest : List ℕ) (few : k ≤ type_limit) (tidy : Tidy k l) where
  count-back : (t : ℕ) (b : Bool) → ltb t k ≡ b → stated_count k (record_bytes k e l ++ rest) t ≡ get_or l.counts t 0
  unfolding record_bytes
  count-back t true q =
      let less = ltb-true t k q in
      let size : length (take k l.counts) ≡ k = length-take-le k l.counts (omega (arith, tidy.six)) in
      rw q
      (word-past (head_bytes record_rule k ++ (e ∷ (bytes4 l.time ++ bytes4 l.memory))) (counts_bytes (take k l.counts) ++ rest) (field_size record_rule t) (2 * t) (omega arith)
      ∙ counts-back (take k l.counts) rest t (omega arith)
      ∙ get_or-take k l.counts t 0 less)
  count-back t false q = rw q (sym (tidy.past t (ltb-false t k q)))

  load-back : stated_load k (record_bytes k e l ++ rest) ≡ l
  load-back =
      let time : word4 (record_bytes k e l ++ rest) 4 ≡ l.time = unfold record_bytes in bytes4-read l.time in
      let memory : word4 (record_bytes k e l ++ rest) 8 ≡ l.memory = unfold record_bytes in bytes4-read l.memory in
      let counts : stated_counts k (record_bytes k e l ++ rest) ≡ l.counts =
      ext_get_or 0 (stated_counts k (record_bytes k e l ++ rest)) l.counts (length-up_to _ type_limit ∙ sym tidy.six)
      (λ t h. get_or-up_to (stated_count k (record_bytes k e l ++ rest)) type_limit t (omega (arith, length-up_to (stated_count k (record_bytes k e l ++ rest)) type_limit)) ∙ count-back t (ltb t k) refl) in
      λ i. record { time = time i; memory = memory i; counts = counts i }

-- main: the records of all engines

-- the first record's number is not below that of the first engine
later-number : (k a e : ℕ) (ls : List EngineLoad) → 1 ≤ e → e < a → byte_at (records_bytes k a ls) 3 ≡ e → ⊥
unfolding records_bytes record_bytes
later-number k a e [] some less h = omega arith
later-number k a e (l ∷ ls) some less h = go (holds_none l.counts) (later-number k (suc a) e ls some (omega arith)) h
  where
    go : (b : Bool) → (byte_at (records_bytes k (suc a) ls) 3 ≡ e → ⊥) → byte_at (cond b [] (record_bytes k a l) ++ records_bytes k (suc a) ls) 3 ≡ e → ⊥
    go true rest h = rest h
    go false rest h = let same : a ≡ e = h in omega arith

-- an engine that holds an instance is one of 1 to m
pub not-past : (m e : ℕ) (l : EngineLoad) → (m < e → l ≡ idle_engine) → holds_none l.counts ≡ false → e ≤ m
unfolding holds_none
not-past m e l past q = go (leb e m) refl
  where
    go : (b : Bool) → leb e m ≡ b → e ≤ m
    go true h = leb-true e m h
    go false h = absurd (not-both (ap (λ (x : EngineLoad). holds_none x.counts) (past (leb-false e m h))) q)

module _ (m k : ℕ) (few : k ≤ type_limit) where
  -- where the next record is not that of engine e, and where it is
  taken_none : (before s : List ℕ) (e : ℕ) → (byte_at s 3 ≡ e → ⊥) → taken_at m k (before ++ s) (length before) e ≡ record { load = idle_engine; next = length before }
  unfolding taken_at
  taken_none before s e h = rw (drop-append_seam before s, ne_eqb (byte_at s 3) e h)

  taken_here : (before rest : List ℕ) (e : ℕ) (l : EngineLoad) → Tidy k l → e ≤ m → taken_at m k (before ++ (record_bytes k e l ++ rest)) (length before) e ≡ record { load = l; next = length (before ++ record_bytes k e l) }
  unfolding taken_at
  taken_here before rest e l tidy h =
      let size : length (record_bytes k e l) ≡ field_size record_rule k = length-record k e l (omega (arith, tidy.six)) in
      rw (drop-append_seam before (record_bytes k e l ++ rest), number, eq-eqb e e refl, le-leb e m h, load-back k e l rest few tidy, length-append before (record_bytes k e l), size)
    where
      number : byte_at (record_bytes k e l ++ rest) 3 ≡ e
      number = unfold record_bytes in refl

  pub loads-back : {e : ℕ} {ls : List EngineLoad} → Neat m k e ls → 1 ≤ e → (before : List ℕ) → loads_from m k (before ++ records_bytes k e ls) (length before) e (length ls) ≡ ls
  unfolding loads_from records_bytes
  loads-back nil some before = refl
  loads-back {e = e} {ls = l ∷ ls} (cons tidy past rest) some before = go (holds_none l.counts) refl (loads-back rest (omega arith) before) (loads-back rest (omega arith) (before ++ record_bytes k e l))
    where
      passed : holds_none l.counts ≡ true → records_bytes k e (l ∷ ls) ≡ records_bytes k (suc e) ls
      passed q = rw q refl

      written : holds_none l.counts ≡ false → records_bytes k e (l ∷ ls) ≡ record_bytes k e l ++ records_bytes k (suc e) ls
      written q = rw q refl

      go : (b : Bool) → holds_none l.counts ≡ b → loads_from m k (before ++ records_bytes k (suc e) ls) (length before) (suc e) (length ls) ≡ ls
          → loads_from m k ((before ++ record_bytes k e l) ++ records_bytes k (suc e) ls) (length (before ++ record_bytes k e l)) (suc e) (length ls) ≡ ls
          → loads_from m k (before ++ records_bytes k e (l ∷ ls)) (length before) e (suc (length ls)) ≡ l ∷ ls
      go true q kept more =
          subst (λ (s : List ℕ). loads_from m k (before ++ s) (length before) e (suc (length ls)) ≡ l ∷ ls) (sym (passed q))
          (rw (taken_none before (records_bytes k (suc e) ls) e (later-number k (suc e) e ls some (omega arith))) (cons-path (sym (tidy.idle q)) kept))
      go false q kept more =
          subst (λ (s : List ℕ). loads_from m k (before ++ s) (length before) e (suc (length ls)) ≡ l ∷ ls) (sym (written q))
          (rw (taken_here before (records_bytes k (suc e) ls) e l tidy (not-past m e l past q))
          (cons-path refl (rw (append_assoc before (record_bytes k e l) (records_bytes k (suc e) ls)) at more)))

-- main: the whole sheet

pub sheet-back : (m k : ℕ) → k ≤ type_limit → {ls : List EngineLoad} → Neat m k 1 ls → length ls ≡ engine_limit → loads_in m k (sheet_bytes k ls) ≡ ls
unfolding loads_in sheet_bytes
sheet-back m k few {ls = ls} neat all =
    let start : field_size header_rule k ≡ 5 = omega (arith, zero-mul k) in
    ap₂ (λ (at n : ℕ). loads_from m k (head_bytes header_rule k ++ (used_in ls ∷ k ∷ records_bytes k 1 ls)) at 1 n) start (sym all)
    ∙ loads-back m k few neat (omega arith) (head_bytes header_rule k ++ (used_in ls ∷ k ∷ []))
