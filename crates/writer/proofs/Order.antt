-- The order of the writer's refusals in plain words: the first test that says a number decides, and no two tests say the same number, so that a number tells its test.
use Prim.Native.Nat.{ℕ, ◌≤◌, ◌<◌}
use mathlib.Core.Logic.Iff
use mathlib.Core.Path.{◌≡◌, refl, sym, subst, ◌∙◌}
use mathlib.Core.List.{List, [], ◌∷◌}
use mathlib.Core.Bool.{Bool, true, false, not, cond}
use mathlib.Core.Logic.{◌↔◌}
use native.Mathlib.Omega.{arith}
use borrow.Author.Tests.{ltb-true, ltb-false, ne_eqb}
use lib.ListN.{length}
use lib.Dec.{ltb, eqb}
use Rattle.system.specs.declared.System.{System}
use Rattle.system.specs.Limits.{type_limit, kinds_fault}
use Rattle.system.specs.Outcome.{accepted, refused, from_input}
use Rattle.partition.specs.Assignment.{among}
use Rattle.writer.specs.File.{file_of}
use Rattle.partition.specs.Plain.{PacesWithin, AllOrNone}
use Rattle.writer.specs.Writing.{or_else, write_fault, write_outcome}
use Rattle.writer.specs.Meaning.{file_out, CountWithin, EnginesWithin, SizesWithin, ReplicasWithin, columns_to, MayBeWritten, WritesInOrder}
use Rattle.writer.proofs.Bytes.{file-out}
use Rattle.writer.proofs.Faults.{or-none}
use Rattle.writer.proofs.Tests.{Test, finds-nothing, holds, fails, says, says-alone, row, skips}
use Rattle.writer.proofs.Tests.{many_fault, none_fault, numbers_fault, rule_fault, sizes_fault, replicas_fault, cycles_fault, product_fault, short_fault}
use Rattle.writer.proofs.Tests.{many-test, none-test, kinds-test, engines-test, rule-test, sizes-test, replicas-test, cycles-test, columns-test, room-test}
pub use Rattle.writer.proofs.OrderTests.{fault-none, from_ten, from_forty_three, from_thirty_one, from_eight, from_six, from_five, from_forty_one, from_nine, numbers_thirty, numbers_ten, numbers_forty_three, numbers_thirty_one, numbers_eight, numbers_six, numbers_five, numbers_forty_one, numbers_nine, from-seven}

module _ (y : System) (room : ℕ) (six : length y.types ≡ 6) where
  -- what is left after the tests that pass
  left-nine : y.typecount ≤ 6 → write_fault y room ≡ from_nine y room
  left-nine few = from-seven y room ∙ skips (from_nine y room) (many-test y) few

  left-forty-one : CountWithin y → write_fault y room ≡ from_forty_one y room
  left-forty-one k = left-nine k.1 ∙ skips (from_forty_one y room) (none-test y) k.0

  left-five : CountWithin y → AllOrNone y → write_fault y room ≡ from_five y room
  left-five k a = left-forty-one k ∙ skips (from_five y room) (kinds-test y (omega arith)) a

  left-six : CountWithin y → AllOrNone y → EnginesWithin y → write_fault y room ≡ from_six y room
  left-six k a m = left-five k a ∙ skips (from_six y room) (engines-test y) m

  left-eight : CountWithin y → AllOrNone y → EnginesWithin y → y.rule ≤ 1 → write_fault y room ≡ from_eight y room
  left-eight k a m r = left-six k a m ∙ skips (from_eight y room) (rule-test y) r

  left-thirty-one : CountWithin y → AllOrNone y → EnginesWithin y → y.rule ≤ 1 → SizesWithin y → write_fault y room ≡ from_thirty_one y room
  left-thirty-one k a m r s = left-eight k a m r ∙ skips (from_thirty_one y room) (sizes-test y) s

  left-forty-three : CountWithin y → AllOrNone y → EnginesWithin y → y.rule ≤ 1 → SizesWithin y → ReplicasWithin y → write_fault y room ≡ from_forty_three y room
  left-forty-three k a m r s q = left-thirty-one k a m r s ∙ skips (from_forty_three y room) (replicas-test y) q

  left-ten : CountWithin y → AllOrNone y → EnginesWithin y → y.rule ≤ 1 → SizesWithin y → ReplicasWithin y → PacesWithin y → write_fault y room ≡ from_ten y room
  left-ten k a m r s q c = left-forty-three k a m r s q ∙ skips (from_ten y room) (cycles-test y k.1) c

  left-thirty : MayBeWritten y → write_fault y room ≡ short_fault y room
  left-thirty w =
      left-ten w.count w.kinds w.engines w.rule w.sizes w.replicas w.paces
      ∙ skips (short_fault y room) (columns-test y (omega (arith, w.count.1))) w.columns

  -- what the tests from each number on say
  module _ (few : y.typecount ≤ 6) where
    kinds-asked : Test (AllOrNone y) 41 (kinds_fault y)
    kinds-asked = kinds-test y (omega arith)

    columns-asked : Test (columns_to y y.typecount ≤ 4096) 10 (product_fault y)
    columns-asked = columns-test y (omega arith)

    room-asked : Test (length (file_out y) ≤ room) 30 (short_fault y room)
    room-asked = subst (λ (file : List ℕ). Test (length file ≤ room) 30 (short_fault y room)) (file-out y (omega arith)) (room-test y room)

    says-ten : among numbers_ten (from_ten y room) ≡ true
    says-ten = says numbers_thirty (short_fault y room) (omega arith) columns-asked (says-alone room-asked)

    says-forty-three : among numbers_forty_three (from_forty_three y room) ≡ true
    says-forty-three = says numbers_ten (from_ten y room) (omega arith) (cycles-test y few) says-ten

    says-thirty-one : among numbers_thirty_one (from_thirty_one y room) ≡ true
    says-thirty-one = says numbers_forty_three (from_forty_three y room) (omega arith) (replicas-test y) says-forty-three

    says-eight : among numbers_eight (from_eight y room) ≡ true
    says-eight = says numbers_thirty_one (from_thirty_one y room) (omega arith) (sizes-test y) says-thirty-one

    says_six : among numbers_six (from_six y room) ≡ true
    says_six = says numbers_eight (from_eight y room) (omega arith) (rule-test y) says-eight

    says_five : among numbers_five (from_five y room) ≡ true
    says_five = says numbers_six (from_six y room) (omega arith) (engines-test y) says_six

    says-forty-one : among numbers_forty_one (from_forty_one y room) ≡ true
    says-forty-one = says numbers_five (from_five y room) (omega arith) kinds-asked says_five

    says-nine : among numbers_nine (from_nine y room) ≡ true
    says-nine = says numbers_forty_one (from_forty_one y room) (omega arith) (none-test y) says-forty-one

-- main

over : (n m : ℕ) → ((n ≤ m) → ⊥) ↔ (m < n)
over n m = ((λ none. omega arith), (λ more less. omega arith))

-- a refusal's number is that of the fault
refuses : (y : System) (room n : ℕ) → 0 < n → (write_outcome y room ≡ refused from_input n) ↔ (write_fault y room ≡ n)
unfolding write_outcome
refuses y room n some = ((λ o. at (eqb (write_fault y room) 0) o), (λ e. rw (e, ne_eqb n 0 (λ z. omega arith))))
  where
    at : (b : Bool) → cond b (accepted (length (file_of y) ∷ [])) (refused from_input (write_fault y room)) ≡ refused from_input n → write_fault y room ≡ n
    at true o = let z : ◌≡◌ {A = ℕ} 0 1 = cc in absurd (omega arith)
    at false o = cc

-- the row of a number: the tests before it pass, `says` tells that no later one says it, and it is said where what it asks does not hold
module _ (y : System) (room : ℕ) {P Q : Type 0} {n f : ℕ} (later : ℕ) (ns : List ℕ) where
  in_row : 0 < n → Test P n f → write_fault y room ≡ or_else f later → among ns later ≡ true → among ns n ≡ false → (P → ⊥) ↔ Q → (write_outcome y room ≡ refused from_input n) ↔ Q
  in_row some test left said other means =
      let at : (or_else f later ≡ n) ↔ (P → ⊥) = row ns later some test said other in
      Iff.trans (refuses y room n some) (Iff.trans ((λ e. sym left ∙ e), (λ e. left ∙ e)) (Iff.trans at means))

module _ (y : System) (room : ℕ) (six : length y.types ≡ 6) where
  seven-first : (write_outcome y room ≡ refused from_input 7) ↔ (6 < y.typecount)
  unfolding among
  seven-first = at (ltb type_limit y.typecount) refl
    where
      at : (b : Bool) → ltb type_limit y.typecount ≡ b → (write_outcome y room ≡ refused from_input 7) ↔ (6 < y.typecount)
      at true q = ((λ o. ltb-true type_limit y.typecount q), (λ h. (refuses y room 7 (omega arith)).1 (from-seven y room ∙ rw q)))
      at false q =
          in_row y room (from_nine y room) numbers_nine (omega arith) (many-test y) (from-seven y room)
          (says-nine y room six (ltb-false type_limit y.typecount q)) refl (over y.typecount 6)

  then-thirty : MayBeWritten y → (write_outcome y room ≡ refused from_input 30) ↔ (room < length (file_out y))
  then-thirty w =
      let left = left-thirty y room six w in
      let at = fails (omega arith) (room-asked y room six w.count.1) in
      Iff.trans (refuses y room 30 (omega arith)) (Iff.trans ((λ e. sym left ∙ e), (λ e. left ∙ e)) (Iff.trans at (over (length (file_out y)) room)))

  written-where : MayBeWritten y → length (file_out y) ≤ room → write_fault y room ≡ 0
  written-where w enough = left-thirty y room six w ∙ finds-nothing (room-asked y room six w.count.1) enough

  -- what is written may be
  pub may-be-written : write_fault y room ≡ 0 → MayBeWritten y
  may-be-written e =
      let a = or-none (many_fault y) (from_nine y room) (sym (from-seven y room) ∙ e) in
      let b = or-none (none_fault y) (from_forty_one y room) a.1 in
      let g = or-none (kinds_fault y) (from_five y room) b.1 in
      let c = or-none (numbers_fault y) (from_six y room) g.1 in
      let d = or-none (rule_fault y) (from_eight y room) c.1 in
      let s = or-none (sizes_fault y) (from_thirty_one y room) d.1 in
      let p = or-none (replicas_fault y) (from_forty_three y room) s.1 in
      let t = or-none (cycles_fault y) (from_ten y room) p.1 in
      let q = or-none (product_fault y) (short_fault y room) t.1 in
      let few = holds (omega arith) (many-test y) a.0 in
      record {
        count = (holds (omega arith) (none-test y) b.0, few);
        kinds = holds (omega arith) (kinds-asked y room six few) g.0;
        engines = holds (omega arith) (engines-test y) c.0;
        rule = holds (omega arith) (rule-test y) d.0;
        sizes = holds (omega arith) (sizes-test y) s.0;
        replicas = holds (omega arith) (replicas-test y) p.0;
        paces = holds (omega arith) (cycles-test y few) t.0;
        columns = holds (omega arith) (columns-asked y room six few) q.0;
      }

  or-written : MayBeWritten y → length (file_out y) ≤ room → write_outcome y room ≡ accepted (length (file_out y) ∷ [])
  unfolding write_outcome
  or-written w enough = rw (written-where w enough, file-out y (omega (arith, w.count.1)))

  pub writes-in-order : WritesInOrder y room (write_outcome y room)
  unfolding among
  writes-in-order = record {
    seven_first = seven-first;
    then_nine = λ few.
        in_row y room (from_forty_one y room) numbers_forty_one (omega arith) (none-test y) (left-nine y room six few)
        (says-forty-one y room six few) refl ((λ none. omega arith), (λ e some. omega arith));
    then_forty_one = λ k.
        in_row y room (from_five y room) numbers_five (omega arith) (kinds-asked y room six k.1) (left-forty-one y room six k)
        (says_five y room six k.1) refl Iff.rfl;
    then_five = λ k a.
        in_row y room (from_six y room) numbers_six (omega arith) (engines-test y) (left-five y room six k a)
        (says_six y room six k.1) refl Iff.rfl;
    then_six = λ k a m.
        in_row y room (from_eight y room) numbers_eight (omega arith) (rule-test y) (left-six y room six k a m)
        (says-eight y room six k.1) refl (over y.rule 1);
    then_eight = λ k a m r.
        in_row y room (from_thirty_one y room) numbers_thirty_one (omega arith) (sizes-test y) (left-eight y room six k a m r)
        (says-thirty-one y room six k.1) refl Iff.rfl;
    then_thirty_one = λ k a m r s.
        in_row y room (from_forty_three y room) numbers_forty_three (omega arith) (replicas-test y) (left-thirty-one y room six k a m r s)
        (says-forty-three y room six k.1) refl Iff.rfl;
    then_forty_three = λ k a m r s q.
        in_row y room (from_ten y room) numbers_ten (omega arith) (cycles-test y k.1) (left-forty-three y room six k a m r s q)
        (says-ten y room six k.1) refl Iff.rfl;
    then_ten = λ k a m r s q c.
        in_row y room (short_fault y room) numbers_thirty (omega arith) (columns-asked y room six k.1) (left-ten y room six k a m r s q c)
        (says-alone (room-asked y room six k.1)) refl (over (columns_to y y.typecount) 4096);
    then_thirty = then-thirty;
    or_written = or-written;
  }
