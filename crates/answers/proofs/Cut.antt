-- The first 4,096 bytes of a file and of a sheet decide what is said of the two, and they come apart again after they were joined.
use Prim.Native.Nat.{ℕ, zero, suc, ◌+◌, ◌*◌, ◌≤◌, ◌<◌, min}
use mathlib.Core.Path.{◌≡◌, refl, sym, ap, ap₂, ◌∙◌}
use mathlib.Core.List.{List, [], ◌∷◌, ◌++◌}
use mathlib.Core.Bool.{Bool, true, false}
use native.Mathlib.Nat.{min-eq_left, div-add-mod'}
use native.Mathlib.Omega.{arith}
use borrow.Author.Tests.{leb-true, leb-false}
use lib.ListN.{length, take, drop, length-append}
use lib.Seq.{take_all, length-take-le, take-append_seam, drop-append_seam}
use lib.Dec.{leb, lit≤}
use Rattle.system.specs.declared.System.{System}
use Rattle.system.specs.Limits.{keeps_limits}
use Rattle.system.specs.Layout.{Reading, read_file, opened, unread, word2}
use Rattle.system.specs.Outcome.{from_input}
use Rattle.system.proofs.Laws.{limits_of, read-keeps-limits}
use Rattle.system.proofs.Prefix.{read_take}
use Rattle.writer.specs.Meaning.{two_out}
use Rattle.planner.specs.declared.EngineRecord.{EngineRecord}
use Rattle.sheets.specs.Checking.{wrong, laid_out, records_check, stated_loads}
use Rattle.sheets.specs.Meaning.{counts_out, record_out, records_out, Rising, none, next}
use Rattle.sheets.proofs.Stated.{gather}
use Rattle.sheets.proofs.Right.{layout-stated}
use Rattle.board.specs.Words.{count_no}
use Rattle.answers.specs.Checks.{line_of, reading_check, check_text, CheckPromises, part_bytes, joined}
use Rattle.answers.proofs.Checked.{tells-check}

-- a sheet that passes 32 has at most 389 bytes: 5, and at most 24 for each of at most 16 engines

length-counts : (count : ℕ → ℕ) (k : ℕ) → length (counts_out count k) ≡ 2 * k
unfolding counts_out
length-counts count zero = refl
length-counts count (suc k) = omega (arith, length-append (counts_out count k) (two_out (count (suc k))), length-counts count k)

length-records : (k : ℕ) (rs : List EngineRecord) → k ≤ 6 → length (records_out k rs) ≤ length rs * 24
unfolding records_out
length-records k [] few = omega arith
length-records k (r ∷ rs) few =
    let one = record_out k r.number r.load.time r.load.memory (count_no r.load) in
    omega (arith, length-append one (records_out k rs), length-counts (count_no r.load) k, length-records k rs few)

rising-few : {m a : ℕ} {rs : List EngineRecord} → Rising m a rs → a ≤ m → length rs + a ≤ m
rising-few none h = omega arith
rising-few (next above most later) h = omega (arith, rising-few later most)

module _ (y : System) (keeps : keeps_limits y ≡ true) (sheet : List ℕ) where
  abbrev laid : Bool
  laid = laid_out y.typecount sheet (stated_loads y sheet)

  laid-short : laid ≡ true → length sheet ≤ 389
  laid-short h =
      let st = layout-stated y keeps sheet h in
      let limits = limits_of y keeps in
      omega (arith, ap length st.bytes, length-records y.typecount (gather 1 (stated_loads y sheet)) limits.typecount, rising-few st.rising (omega arith), limits.engines)

  -- a longer one does not
  long-32 : 389 < length sheet → reading_check (opened y) sheet ≡ wrong from_input 32
  unfolding reading_check records_check
  long-32 h = go laid refl
    where
      go : (b : Bool) → laid ≡ b → reading_check (opened y) sheet ≡ wrong from_input 32
      go true q = absurd (omega (arith, laid-short q))
      go false q = rw q

pub check-cut : (cut : ℕ) (x : Reading) (sheet : List ℕ) → 389 < cut → ((y : System) → x ≡ opened y → keeps_limits y ≡ true) → reading_check x (take cut sheet) ≡ reading_check x sheet
check-cut cut (unread n) sheet wide known = unfold reading_check in refl
check-cut cut (opened y) sheet wide known = go (leb (length sheet) cut) refl
  where
    go : (b : Bool) → leb (length sheet) cut ≡ b → reading_check (opened y) (take cut sheet) ≡ reading_check (opened y) sheet
    go true q = ap (reading_check (opened y)) (take_all cut sheet (leb-true (length sheet) cut q))
    go false q =
        let more : cut < length sheet = leb-false (length sheet) cut q in
        let size : length (take cut sheet) ≡ cut = length-take-le cut sheet (omega arith) in
        long-32 y (known y refl) (take cut sheet) (omega arith) ∙ sym (long-32 y (known y refl) sheet (omega arith))

text-cut : (file sheet : List ℕ) → check_text (take part_bytes file) (take part_bytes sheet) ≡ check_text file sheet
text-cut file sheet =
    ap (λ (x : Reading). line_of (reading_check x (take part_bytes sheet))) (read_take part_bytes file (lit≤ tt)) ∙ ap line_of (check-cut part_bytes (read_file file) sheet (lit≤ tt) (λ y e. read-keeps-limits file y e))

-- what was joined comes apart

module _ (read file sheet : List ℕ) (is : read ≡ joined file sheet) where
  abbrev size : ℕ
  size = min (word2 read 0) (length (drop 2 read))

  rest-joined : drop 2 read ≡ file ++ sheet
  rest-joined = ap (drop 2) is

  size-joined : size ≡ length file
  size-joined =
      let told : word2 read 0 ≡ length file = ap (λ (l : List ℕ). word2 l 0) is ∙ div-add-mod' (length file) 256 in
      let inside : length file ≤ length (file ++ sheet) = omega (arith, length-append file sheet) in
      ap₂ min told (ap length rest-joined) ∙ min-eq_left inside

  pub file-joined : take size (drop 2 read) ≡ file
  file-joined = ap₂ take size-joined rest-joined ∙ take-append_seam file sheet

  pub sheet-joined : drop size (drop 2 read) ≡ sheet
  sheet-joined = ap₂ drop size-joined rest-joined ∙ drop-append_seam file sheet

-- main: what is promised of the two parts is promised of the whole file and the whole sheet
pub cut-promised : (file sheet : List ℕ) {f s old new : List ℕ} {r : ℕ} → f ≡ take part_bytes file → s ≡ take part_bytes sheet → CheckPromises f s old new r → CheckPromises file sheet old new r
cut-promised file sheet first second p = record {
  written = rw (ap₂ check_text first second ∙ text-cut file sheet) at p.written;
  tells = tells-check file sheet;
}
