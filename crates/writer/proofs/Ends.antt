-- A file of which each field keeps its limits is read to its end, and there 9, 41 and 10 are judged, each where it is due.
use Rattle.std.proofs.Common.{Option, None, Some}
use Prim.Native.Nat.{ℕ, ◌+◌, ◌≤◌, ◌<◌}
use mathlib.Core.Path.{◌≡◌, refl, sym, ap, ◌∙◌, subst}
use mathlib.Core.Bool.{Bool, true, false}
use mathlib.Core.Logic.{inl, inr}
use native.Mathlib.Omega.{arith}
use borrow.Author.Tests.{le-leb, eqb-true, eqb-false}
use lib.ListN.{length}
use lib.Dec.{leb, eqb}
use Rattle.system.specs.declared.Kind.{Kind}
use Rattle.system.specs.declared.System.{System}
use Rattle.system.specs.Limits.{engine_limit, platform_fault, second_fault, kinds_fault, columns_fault}
use Rattle.system.specs.Layout.{opened, unread, end_of, read_card}
use Rattle.system.specs.Fields.{AtEnd}
use Rattle.system.proofs.Laws.{sizes-keep}
use Rattle.partition.specs.Plain.{type_no, AllOrNone, CardOut}
use Rattle.system.specs.Values.{cleared}
use Rattle.writer.specs.Meaning.{file_with, columns_to, SameToK}
use Rattle.writer.specs.Begun.{FieldsWithin, JudgedAtEnd}
use Rattle.writer.proofs.Cleared.{same-to-k}
use Rattle.writer.proofs.Written.{Passing, told-ends, ends-nine, ends-forty-one, ends-ten, ends_open}
use Rattle.writer.proofs.Tests.{Test, passed, failed, finds-nothing, fails, type-test, costs-test, most-test, pace-test, kinds-test, columns-test}

-- intermediate: no field is refused

second-passes : (m : ℕ) (s : Option Kind) → ((k : Kind) → s ≡ Some k → (1 ≤ k.number) × (m + k.number ≤ 16)) → ((k : Kind) → s ≡ Some k → (k.timecap ≤ 1000000) × (k.memorycap ≤ 1000000))
    → second_fault m s ≡ 0
second-passes m None number sizes = refl
second-passes m (Some k) number sizes =
    let n = number k refl in
    let s = sizes k refl in
    rw (le-leb 1 k.number n.0, le-leb (m + k.number) engine_limit n.1) (sizes-keep k.timecap k.memorycap s.0 s.1)

pass_all : (y : System) → FieldsWithin y → Passing y
pass_all y w = record {
  few = w.count;
  platform =
      rw (le-leb 1 y.engines w.engines.0, le-leb y.engines engine_limit w.engines.1, le-leb y.rule 1 w.rule)
      (sizes-keep y.timecap y.memorycap w.sizes.capacities.0 w.sizes.capacities.1);
  second = second-passes y.engines y.second w.engines.2 w.sizes.second.capacities;
  sound = λ t low high. finds-nothing (type-test (type_no y t)) (w.sizes.costs t low high);
  costs = λ t low high. finds-nothing (costs-test (type_no y t).there) (λ c is. w.sizes.second.costs t c low high is);
  apart = λ t low high. finds-nothing (most-test (type_no y t).most) (λ q is. w.replicas t q low high is);
  paced = λ t low high. finds-nothing (pace-test y.timecap (type_no y t).time (type_no y t).pace) (λ c is. w.paces t c low high is);
}

-- a card within the limits is one of them
pub card-fields : (y : System) → CardOut y → FieldsWithin y
card-fields y l = record {
  six = l.six;
  count = l.known.1;
  engines = (l.engines.0, l.engines.1, l.second);
  rule = l.rule;
  sizes = record { capacities = l.capacities; costs = l.costs; second = l.second_sizes };
  replicas = l.replicas;
  paces = l.paces;
}

-- main

module _ (told : ℕ → Bool) (y : System) (w : FieldsWithin y) where
  ends : read_card (file_with told y) ≡ end_of 2 (cleared y)
  ends = told-ends told y w.six (pass_all y w)

  long : y.typecount ≤ length y.types
  long = omega (arith, w.six, w.count)

  kinds-asked : Test (AllOrNone y) 41 (kinds_fault y)
  kinds-asked = kinds-test y long

  columns-asked : Test (columns_to y y.typecount ≤ 4096) 10 (columns_fault (cleared y).types)
  columns-asked = columns-test y long

  pub judged-at-end : JudgedAtEnd told y
  judged-at-end = record {
    no_type = λ none. ends ∙ ends-nine y none;
    kinds_apart = λ some apart. ends ∙ ends-forty-one y some long ((fails (omega arith) kinds-asked).1 apart);
    many_columns = λ some agree many. ends ∙ ends-ten y some long (finds-nothing kinds-asked agree) ((fails (omega arith) columns-asked).1 (λ few. omega arith));
    opens = λ some agree few. (cleared y, ends ∙ ends_open y some long (finds-nothing kinds-asked agree) (finds-nothing columns-asked few), same-to-k y w.six w.count);
  }

  -- one of the four
  pub read-to-end : AtEnd (read_card (file_with told y))
  read-to-end = count (eqb y.typecount 0) refl
    where
      columns : 1 ≤ y.typecount → AllOrNone y → (f : ℕ) → Test (columns_to y y.typecount ≤ 4096) 10 f → AtEnd (read_card (file_with told y))
      columns some agree f (passed few) = let o = judged-at-end.opens some agree few in inl (o.0, o.1)
      columns some agree f (failed many) = inr (inr (inr (judged-at-end.many_columns some agree (above many))))
        where
          above : ((columns_to y y.typecount ≤ 4096) → ⊥) → 4096 < columns_to y y.typecount
          above none = omega arith

      kinds : 1 ≤ y.typecount → (f : ℕ) → Test (AllOrNone y) 41 f → AtEnd (read_card (file_with told y))
      kinds some f (passed agree) = columns some agree (columns_fault (cleared y).types) columns-asked
      kinds some f (failed apart) = inr (inr (inl (judged-at-end.kinds_apart some apart)))

      count : (b : Bool) → eqb y.typecount 0 ≡ b → AtEnd (read_card (file_with told y))
      count true e = inr (inl (judged-at-end.no_type (eqb-true y.typecount 0 e)))
      count false e = kinds (omega (arith, eqb-false y.typecount 0 e)) (kinds_fault y) kinds-asked
