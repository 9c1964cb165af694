-- What is said of a file and a sheet, in plain words: what a check promises over a table that is long enough, told by its line.
use Rattle.std.proofs.Common.{Result, Ok, Err}
use Rattle.system.specs.declared.Refusal.{Refusal}
use Prim.Native.Nat.{ℕ}
use mathlib.Core.Path.{◌≡◌, refl, sym, ap, subst, ◌∙◌}
use mathlib.Core.List.{List}
use mathlib.Core.Bool.{Bool, true, false}
use mathlib.Core.Logic.{◌↔◌}
use native.Mathlib.Omega.{arith}
use lib.ListN.{replicate, length-replicate}
use Rattle.buffer.specs.Written.{Written}
use Rattle.system.specs.declared.System.{System}
use Rattle.system.specs.declared.Refusal.TheVariants.{Input, State}
use Rattle.system.specs.Layout.{Reading, read_file, opened, unread}
use Rattle.system.specs.Outcome.{Source, from_input, from_state, check, and_then}
use Rattle.system.proofs.Laws.{read-keeps-limits, file-card}
use Rattle.partition.specs.Lent.{Lent, lent}
use Rattle.partition.specs.Plain.{LongEnough}
use Rattle.table.specs.Table.{long_enough}
use Rattle.table.proofs.Room.{long-enough-out}
use Rattle.sheets.specs.Checking.{SheetOutcome, right, wrong, sheet_outcome_of, laid_out, summed_up, added_up, records_check, sheet_check, stated_loads, fewer_do, judged_sheet, check_outcome, check_table}
use Rattle.sheets.specs.Meaning.{CheckPromises as SheetCheckPromises}
use Rattle.sheets.proofs.Promises.{promises-of}
use Rattle.listing.specs.Demands.{TellsRefusal}
use Rattle.listing.proofs.Lines.{number-told}
use Rattle.listing.proofs.Text.{LongForAll, long-for-all}
use Rattle.answers.specs.Checks.{line_of, reading_check, check_text, TellsCheck, CheckPromises}
use Rattle.answers.proofs.Lines.{refused-line, right-line}

-- two parts of 4,096 entries are long enough for every system
pub zeros-long : LongForAll (lent (replicate 4096 0) (replicate 4096 0))
zeros-long = let l = length-replicate {A = ℕ} 4096 0 in (omega (arith, l), omega (arith, l))

-- such a table
pub spare : Lent
spare = lent (replicate 4096 0) (replicate 4096 0)

pub spare-long : LongForAll spare
unfolding spare
spare-long = zeros-long

-- where 11 passes, the answer does not know the table
pub check-alone : (x : Reading) (sheet : List ℕ) (table : Lent) → ((y : System) → x ≡ opened y → long_enough y table ≡ true) → check_outcome x sheet table ≡ reading_check x sheet
unfolding reading_check sheet_check
check-alone (unread n) sheet table h = refl
check-alone (opened y) sheet table h = rw (h y refl)

pub check-any-table : (file sheet : List ℕ) (table : Lent) → LongForAll table → check_outcome (read_file file) sheet table ≡ reading_check (read_file file) sheet
check-any-table file sheet table size =
    check-alone (read_file file) sheet table (λ y e. (long-enough-out y table (read-keeps-limits file y e)).1 (long-for-all file y table (file-card file y e).0 size))

-- every refusal is from the input
from-input : (x : Reading) (sheet : List ℕ) (s : Source) (n : ℕ) → reading_check x sheet ≡ wrong s n → s ≡ from_input
unfolding reading_check records_check
from-input (unread k) sheet s n e = cc
from-input (opened y) sheet s n e =
    go (laid_out y.typecount sheet (stated_loads y sheet)) (summed_up y (stated_loads y sheet)) (added_up y (stated_loads y sheet)) e
  where
    go : (a b c : Bool) → judged_sheet (and_then (check a from_input 32) (and_then (check b from_input 33) (check c from_input 34))) (fewer_do y sheet) ≡ wrong s n → s ≡ from_input
    go false b c o = cc
    go true false c o = cc
    go true true false o = cc
    go true true true o = let z : ◌≡◌ {A = ℕ} 0 1 = cc in absurd (omega arith)

-- an answer of each kind
answer_of : SheetOutcome → Result Bool Refusal
answer_of (right fewer) = Ok fewer
answer_of (wrong from_input n) = Err (Input n)
answer_of (wrong from_state n) = Err (State n)

answer-of : (o : SheetOutcome) → sheet_outcome_of (answer_of o) ≡ o
unfolding answer_of
answer-of (right fewer) = refl
answer-of (wrong from_input n) = refl
answer-of (wrong from_state n) = refl

module _ (file sheet : List ℕ) (table : Lent) (size : LongForAll table) (r : Result Bool Refusal) (after : Lent) (p : SheetCheckPromises (read_file file) sheet table r after) where
  long : (y : System) → read_file file ≡ opened y → LongEnough y table
  long y e = long-for-all file y table (file-card file y e).0 size

  is-wrong : (n : ℕ) → TellsRefusal n (line_of (sheet_outcome_of r)) → sheet_outcome_of r ≡ wrong from_input n
  is-wrong n t =
      let (s, e) = refused-line (sheet_outcome_of r) n t in
      e ∙ ap (λ (from : Source). wrong from n) (from-input (read_file file) sheet s n (sym (p.answers ∙ check-any-table file sheet table size) ∙ e))

  says-wrong : (n : ℕ) → sheet_outcome_of r ≡ wrong from_input n → TellsRefusal n (line_of (sheet_outcome_of r))
  says-wrong n e = subst (λ (o : SheetOutcome). TellsRefusal n (line_of o)) (sym e) (number-told n)

  refusal-iff : (n : ℕ) {P : Type 0} → (sheet_outcome_of r ≡ wrong from_input n) ↔ P → TellsRefusal n (line_of (sheet_outcome_of r)) ↔ P
  refusal-iff n both = ((λ t. both.0 (is-wrong n t)), (λ q. says-wrong n (both.1 q)))

  told : TellsCheck file sheet (line_of (sheet_outcome_of r))
  told = record {
    unreadable = λ n e. says-wrong n (p.order.file_first n e);
    layout = λ y e. refusal-iff 32 (p.order.then_layout y e (long y e));
    sums = λ y e rs st. refusal-iff 33 (p.order.then_sums y e (long y e) rs st);
    totals = λ y e rs st all. refusal-iff 34 (p.order.then_totals y e (long y e) rs st all);
    exactly = λ y e.
        let both = p.exactly y e (long y e) in
        ((λ w. both.0 (w.0, right-line (sheet_outcome_of r) w.0 w.1)), (λ w. ((both.1 w).0, ap line_of (both.1 w).1)));
    fewer = λ y say e t. p.fewer y say e (right-line (sheet_outcome_of r) say t);
  }

-- main: of every file and every sheet
pub tells-check : (file sheet : List ℕ) → TellsCheck file sheet (check_text file sheet)
tells-check file sheet =
    let o = reading_check (read_file file) sheet in
    let is : sheet_outcome_of (answer_of o) ≡ o = answer-of o in
    subst (λ (said : SheetOutcome). TellsCheck file sheet (line_of said)) is
    (told file sheet spare spare-long (answer_of o) (check_table (read_file file) sheet spare)
    (promises-of file sheet spare (answer_of o) (check_table (read_file file) sheet spare) (record { answer = is ∙ sym (check-any-table file sheet spare spare-long); left = refl })))

-- and the code's line is the text
pub check-promised : {file sheet old new : List ℕ} {table after : Lent} {answer : Result Bool Refusal} {r : ℕ} → LongForAll table → SheetCheckPromises (read_file file) sheet table answer after
    → Written (line_of (sheet_outcome_of answer)) old new r → CheckPromises file sheet old new r
check-promised {file = file} {sheet = sheet} {table = table} size p w = record {
  written = rw (ap line_of (p.answers ∙ check-any-table file sheet table size)) at w;
  tells = tells-check file sheet;
}
