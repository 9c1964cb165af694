-- Any input comes apart into a file and a sheet as the code takes it apart, and its first 8,194 bytes decide what is said of the two.
use Prim.Native.Nat.{ℕ, zero, suc, ◌+◌, ◌-◌, ◌*◌, ◌≤◌, ◌<◌, min}
use mathlib.Core.Path.{◌≡◌, refl, sym, ap, ap₂, ◌∙◌}
use mathlib.Core.List.{List, [], ◌∷◌}
use mathlib.Core.Bool.{Bool, true, false}
use native.Mathlib.Nat.{min-eq_left, min-eq_right, le_of_lt}
use native.Mathlib.Omega.{arith}
use borrow.Author.Tests.{leb-true, leb-false}
use lib.ListN.{length, take, drop, length-take}
use lib.Seq.{take_all, take-take, get_or-take, drop-length}
use lib.Dec.{leb, lit≤}
use Rattle.system.specs.Layout.{Reading, read_file, unread, word2}
use Rattle.system.proofs.Laws.{read-keeps-limits}
use Rattle.system.proofs.Prefix.{read_take, longest-is, long-file-refused, drop-take}
use Rattle.listing.proofs.Laws.{take_min}
use Rattle.answers.specs.Checks.{line_of, reading_check, check_text, CheckPromises, part_bytes, file_length, file_part, sheet_part}
use Rattle.answers.proofs.Checked.{tells-check}
use Rattle.answers.proofs.Cut.{check-cut}

-- a list is not longer than it is

drop_all : (n : ℕ) (l : List ℕ) → length l ≤ n → drop n l ≡ []
drop_all zero [] h = refl
drop_all zero (x ∷ l) h = absurd (omega arith)
drop_all (suc n) [] h = refl
drop_all (suc n) (x ∷ l) h = drop_all n l (omega arith)

drop_min : (k : ℕ) (l : List ℕ) → drop (min k (length l)) l ≡ drop k l
drop_min k l = go (leb k (length l)) refl
  where
    go : (b : Bool) → leb k (length l) ≡ b → drop (min k (length l)) l ≡ drop k l
    go true e = ap (λ (n : ℕ). drop n l) (min-eq_left (leb-true k (length l) e))
    go false e =
        let short : length l ≤ k = le_of_lt (leb-false k (length l) e) in
        ap (λ (n : ℕ). drop n l) (min-eq_right short) ∙ drop-length l ∙ sym (drop_all k l short)

-- the code's two parts are those of the input

module _ (input : List ℕ) where
  length-is : word2 input 0 ≡ file_length input
  length-is = omega arith

  pub file-part : take (min (word2 input 0) (length (drop 2 input))) (drop 2 input) ≡ file_part input
  file-part = take_min (word2 input 0) (drop 2 input) ∙ ap (λ (n : ℕ). take n (drop 2 input)) length-is

  pub sheet-part : drop (min (word2 input 0) (length (drop 2 input))) (drop 2 input) ≡ sheet_part input
  sheet-part = drop_min (word2 input 0) (drop 2 input) ∙ ap (λ (n : ℕ). drop n (drop 2 input)) length-is

pub same-promised : {f s file sheet old new : List ℕ} {r : ℕ} → f ≡ file → s ≡ sheet → CheckPromises f s old new r → CheckPromises file sheet old new r
same-promised {file = file} {sheet = sheet} first second p = record {
  written = rw (ap₂ check_text first second) at p.written;
  tells = tells-check file sheet;
}

-- of an input whose first 8,194 bytes were read: the file reads the same, and the sheet is whole, or no sheet of its length is right, or no file of its length opens

module _ (input : List ℕ) where
  abbrev rest : List ℕ
  rest = drop 2 input

  abbrev size : ℕ
  size = file_length input

  abbrev cut : List ℕ
  cut = take 8194 input

  cut-length : file_length cut ≡ size
  cut-length = ap₂ (λ (a : ℕ) (b : ℕ). 256 * a + b) (get_or-take 8194 input 0 0 (lit≤ tt)) (get_or-take 8194 input 1 0 (lit≤ tt))

  cut-rest : drop 2 cut ≡ take 8192 rest
  cut-rest = drop-take 2 8194 input

  cut-file : file_part cut ≡ take size (take 8192 rest)
  cut-file = ap₂ take cut-length cut-rest

  cut-sheet : sheet_part cut ≡ drop size (take 8192 rest)
  cut-sheet = ap₂ drop cut-length cut-rest

  -- both longer files are refused, and alike
  long-file : part_bytes ≤ size → read_file (take size (take 8192 rest)) ≡ read_file (file_part input)
  long-file wide =
      let firsts : take part_bytes (take size (take 8192 rest)) ≡ take part_bytes (file_part input) =
      take-take part_bytes size (take 8192 rest) wide ∙ take-take part_bytes 8192 rest (lit≤ tt) ∙ sym (take-take part_bytes size rest wide) in
      sym (read_take part_bytes (take size (take 8192 rest)) (lit≤ tt)) ∙ ap read_file firsts ∙ read_take part_bytes (file_part input) (lit≤ tt)

  unread-alike : (n : ℕ) (s t : List ℕ) → reading_check (unread n) s ≡ reading_check (unread n) t
  unfolding reading_check
  unread-alike n s t = refl

  abbrev Same : Type 0
  Same = reading_check (read_file (take size (take 8192 rest))) (drop size (take 8192 rest)) ≡ reading_check (read_file (file_part input)) (sheet_part input)

  same_check : Same
  same_check = whole (leb (length rest) 8192) refl
    where
      sized : (b : Bool) → leb size part_bytes ≡ b → 8192 < length rest → Same
      sized true q long =
          let few : size ≤ part_bytes = leb-true size part_bytes q in
          let file : take size (take 8192 rest) ≡ file_part input = take-take size 8192 rest (omega arith) in
          let sheet : drop size (take 8192 rest) ≡ take (8192 - size) (sheet_part input) = drop-take size 8192 rest in
          ap₂ (λ (f : List ℕ) (s : List ℕ). reading_check (read_file f) s) file sheet
          ∙ check-cut (8192 - size) (read_file (file_part input)) (sheet_part input) (omega arith) (λ y e. read-keeps-limits (file_part input) y e)
      sized false q long =
          let many : part_bytes < size = leb-false size part_bytes q in
          let (n, e) = long-file-refused (file_part input) (omega (arith, length-take size rest, longest-is)) in
          ap (λ (x : Reading). reading_check x (drop size (take 8192 rest))) (long-file (omega arith) ∙ e)
          ∙ unread-alike n (drop size (take 8192 rest)) (sheet_part input)
          ∙ sym (ap (λ (x : Reading). reading_check x (sheet_part input)) e)

      whole : (b : Bool) → leb (length rest) 8192 ≡ b → Same
      whole true q = ap (λ (l : List ℕ). reading_check (read_file (take size l)) (drop size l)) (take_all 8192 rest (leb-true (length rest) 8192 q))
      whole false q = sized (leb size part_bytes) refl (leb-false (length rest) 8192 q)

  text_same : check_text (file_part cut) (sheet_part cut) ≡ check_text (file_part input) (sheet_part input)
  text_same = ap₂ check_text cut-file cut-sheet ∙ ap line_of same_check

  -- main: what is promised of those bytes is promised of the input
  pub input-promised : {old new : List ℕ} {r : ℕ} → CheckPromises (file_part cut) (sheet_part cut) old new r → CheckPromises (file_part input) (sheet_part input) old new r
  input-promised p = record { written = rw text_same at p.written; tells = tells-check (file_part input) (sheet_part input) }
