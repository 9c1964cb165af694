-- What the call `write_system` promises, from the two laws that say its answer and the buffer: the order of refusals, demand 1, the bytes of an accepted system, and both round trips.
use Rattle.std.proofs.Common.{None, Ok, Err, Some}
use Prim.Native.Nat.{ℕ, ◌+◌, ◌≤◌}
use mathlib.Core.Path.{◌≡◌, refl, sym, ap, ◌∙◌}
use mathlib.Core.List.{List, [], ◌∷◌, ◌++◌}
use mathlib.Core.Bool.{Bool, true, false, cond}
use native.Mathlib.Omega.{arith}
use native.Mathlib.Nat.{zero-add}
use borrow.Author.Tests.{eqb-true, ne_eqb, le-ltb}
use lib.ListN.{length, take, drop}
use lib.Seq.{take-append_seam}
use lib.Dec.{eqb}
use Rattle.system.specs.declared.System.{System}
use Rattle.system.specs.Outcome.{Answer, Source, accepted, refused, from_input, outcome_of}
use Rattle.system.specs.declared.Refusal.TheVariants.{Input}
use Rattle.system.specs.Values.{cleared}
use Rattle.system.specs.Layout.{read_card, read_file, opened}
use Rattle.system.proofs.Laws.{read-card-limits, card-file}
use Rattle.buffer.specs.Written.{Puts}
use Rattle.writer.specs.File.{file_of}
use Rattle.writer.specs.Writing.{system_fault, write_fault, write_outcome, written_to}
use Rattle.writer.specs.Meaning.{file_with, file_out, NoZero, IsBytes, SameToK, MayBeWritten, WritePromises}
use Rattle.writer.proofs.Bytes.{file-out}
use Rattle.writer.proofs.Told.{comes-back-exactly}
use Rattle.writer.proofs.Cleared.{same-to-k}
use Rattle.writer.proofs.Writable.{read-writable}
use Rattle.writer.proofs.Written.{written-reads}
use Rattle.writer.proofs.Order.{fault-none, may-be-written, writes-in-order}

-- intermediate: the answer and the buffer by the fault

module _ (y : System) (room : ℕ) where
  accepts : write_fault y room ≡ 0 → write_outcome y room ≡ accepted (length (file_of y) ∷ [])
  unfolding write_outcome
  accepts e = rw e

  was-accepted : (n : ℕ) → write_outcome y room ≡ accepted (n ∷ []) → (write_fault y room ≡ 0) × (n ≡ length (file_of y))
  unfolding write_outcome
  was-accepted n o = at (eqb (write_fault y room) 0) refl o
    where
      at : (b : Bool) → eqb (write_fault y room) 0 ≡ b → cond b (accepted (length (file_of y) ∷ [])) (refused from_input (write_fault y room)) ≡ accepted (n ∷ [])
          → (write_fault y room ≡ 0) × (n ≡ length (file_of y))
      at true q o = let same : n ≡ length (file_of y) = cc in (eqb-true (write_fault y room) 0 q, same)
      at false q o = let z : ◌≡◌ {A = ℕ} 0 1 = cc in absurd (omega arith)

  was-refused : (s : Source) (n : ℕ) → write_outcome y room ≡ refused s n → eqb (write_fault y room) 0 ≡ false
  unfolding write_outcome
  was-refused s n o = at (eqb (write_fault y room) 0) refl o
    where
      at : (b : Bool) → eqb (write_fault y room) 0 ≡ b → cond b (accepted (length (file_of y) ∷ [])) (refused from_input (write_fault y room)) ≡ refused s n → b ≡ false
      at true q o = let z : ◌≡◌ {A = ℕ} 0 1 = cc in absurd (omega arith)
      at false q o = refl

-- a file that fits
fits-fault : (y : System) (room : ℕ) → system_fault y ≡ 0 → length (file_of y) ≤ room → write_fault y room ≡ 0
unfolding write_fault
fits-fault y room none enough = rw (none, le-ltb room (length (file_of y)) enough)

writes-file : (y : System) (old : List ℕ) → write_fault y (length old) ≡ 0 → written_to y old ≡ file_of y ++ drop (length (file_of y)) old
unfolding written_to
writes-file y old e = rw e

-- main

module _ (y : System) (old new : List ℕ) (r : Answer) (six : length y.types ≡ 6) (answers : outcome_of r ≡ write_outcome y (length old)) (leaves : new ≡ written_to y old) where
  left_alone : (s : Source) (n : ℕ) → outcome_of r ≡ refused s n → new ≡ old
  unfolding written_to
  left_alone s n o = leaves ∙ rw (was-refused y (length old) s n (sym answers ∙ o))

  module _ (n : ℕ) (o : outcome_of r ≡ accepted (n ∷ [])) where
    no-fault : write_fault y (length old) ≡ 0
    no-fault = (was-accepted y (length old) n (sym answers ∙ o)).0

    size : n ≡ length (file_of y)
    size = (was-accepted y (length old) n (sym answers ∙ o)).1

    may : MayBeWritten y
    may = may-be-written y (length old) six no-fault

    inside : y.typecount ≤ length y.types
    inside = omega (arith, may.count.1)

    file-first : new ≡ file_of y ++ drop n old
    file-first = leaves ∙ writes-file y old no-fault ∙ ap (λ (m : ℕ). file_of y ++ drop m old) (sym size)

    written : (MayBeWritten y) × (n ≡ length (file_out y)) × (new ≡ file_out y ++ drop n old)
    written = (may, size ∙ ap length (file-out y inside), file-first ∙ ap (λ (file : List ℕ). file ++ drop n old) (file-out y inside))

    read_back : (z : System) × (read_card (take n new) ≡ opened z) × SameToK y z × (y.second ≡ None → read_file (take n new) ≡ opened z)
    read_back =
        let front : take n new ≡ file_of y = rw (file-first, size) (take-append_seam (file_of y) (drop (length (file_of y)) old)) in
        let reads : read_card (take n new) ≡ opened (cleared y) = rw front (written-reads y six (fault-none y (length old) no-fault).0) in
        (cleared y, reads, same-to-k y six may.count.1, λ one. card-file (take n new) (cleared y) reads one)

  come-back : (file : List ℕ) (told : ℕ → Bool) → IsBytes file → read_card file ≡ opened y → file ≡ file_with told y → NoZero told y → length file ≤ length old
      → (outcome_of r ≡ accepted (length file ∷ [])) × (new ≡ file ++ drop (length file) old)
  come-back file told bytes reads is quiet enough =
      let few = (read-card-limits file y reads).typecount in
      let same : file_of y ≡ file = file-out y (omega arith) ∙ (comes-back-exactly told y).1 quiet ∙ sym is in
      let none : write_fault y (length old) ≡ 0 = fits-fault y (length old) (read-writable file y reads).0 (rw same enough) in
      (answers ∙ accepts y (length old) none ∙ rw same, leaves ∙ writes-file y old none ∙ rw same)

  pub write-promises : WritePromises y old new r
  write-promises = record {
    answers = answers;
    leaves = leaves;
    order = rw answers (writes-in-order y (length old) six);
    as_lent = left_alone;
    writes = written;
    reads_back = read_back;
    comes_back = come-back;
  }

-- main: the two exits

module _ (y : System) (old : List ℕ) (six : length y.types ≡ 6) where
  pub promised-refusal : {fault : ℕ} → fault ≡ write_fault y (length old) → (fault ≡ 0 → ⊥) → WritePromises y old old (Err (Input fault))
  unfolding write_outcome written_to
  promised-refusal {fault = fault} said some =
      let none : eqb (write_fault y (length old)) 0 ≡ false = rw (← said) (ne_eqb fault 0 some) in
      write-promises y old old (Err (Input fault)) six (rw (none, said)) (rw none)

  pub promised-file : {new : List ℕ} {n : ℕ} → write_fault y (length old) ≡ 0 → Puts (file_of y) 0 old new n → WritePromises y old new (Ok (Some n))
  promised-file {new = new} {n = n} none puts =
      let start : 0 + length (file_of y) ≡ length (file_of y) = zero-add (length (file_of y)) in
      write-promises y old new (Ok (Some n)) six
      (ap (λ (m : ℕ). accepted (m ∷ [])) (puts.next ∙ start) ∙ sym (accepts y (length old) none))
      (puts.left ∙ ap (λ (m : ℕ). file_of y ++ drop m old) start ∙ sym (writes-file y old none))
