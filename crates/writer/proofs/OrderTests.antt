-- The writer's tests one after the other. Those of the platform and of a second kind are regrouped by their numbers: 5 of both, 6, then 8 of both with that of
-- the types.
use Prim.Native.Nat.{ℕ, ◌≤◌}
use mathlib.Core.Path.{◌≡◌, refl, sym, ap, ◌∙◌}
use mathlib.Core.List.{List, [], ◌∷◌}
use mathlib.Core.Bool.{Bool, true, false, not, cond, ◌&&◌}
use native.Mathlib.Omega.{arith}
use lib.ListN.{length}
use lib.Dec.{leb, ltb, eqb}
use Rattle.system.specs.declared.System.{System}
use Rattle.system.specs.Values.{cleared}
use Rattle.system.specs.Limits.{engine_limit, type_limit, size_fault, platform_fault, kinds_fault}
use Rattle.writer.specs.File.{file_of}
use Rattle.writer.specs.Writing.{or_else, types_fault, engines_fault, types_limits, system_fault, write_fault}
use Rattle.writer.proofs.Faults.{or-none}
use Rattle.writer.proofs.Tests.{holds}
use Rattle.writer.proofs.Tests.{many_fault, none_fault, kind_over, numbers_fault, rule_fault, kind_sizes, sizes_fault, replicas_fault, cycles_fault, product_fault, short_fault, second-apart, sizes-no-five}
use Rattle.writer.proofs.Tests.{room-test}

-- intermediate: no fault, so none in the system, and the file fits

pub fault-none : (y : System) (room : ℕ) → write_fault y room ≡ 0 → (system_fault y ≡ 0) × (length (file_of y) ≤ room)
unfolding write_fault
fault-none y room e = let p = or-none (system_fault y) (short_fault y room) e in (p.0, holds (omega arith) (room-test y room) p.1)

-- intermediate: the tests in their order

or_assoc : (a b c : ℕ) → or_else (or_else a b) c ≡ or_else a (or_else b c)
or_assoc a b c = at (eqb a 0) refl
  where
    at : (z : Bool) → eqb a 0 ≡ z → or_else (cond z b a) c ≡ cond z (or_else b c) a
    at true q = refl
    at false q = rw q

abbrev pub from_ten : System → ℕ → ℕ
from_ten y room = or_else (product_fault y) (short_fault y room)

abbrev pub from_forty_three : System → ℕ → ℕ
from_forty_three y room = or_else (cycles_fault y) (from_ten y room)

abbrev pub from_thirty_one : System → ℕ → ℕ
from_thirty_one y room = or_else (replicas_fault y) (from_forty_three y room)

abbrev pub from_eight : System → ℕ → ℕ
from_eight y room = or_else (sizes_fault y) (from_thirty_one y room)

abbrev pub from_six : System → ℕ → ℕ
from_six y room = or_else (rule_fault y) (from_eight y room)

abbrev pub from_five : System → ℕ → ℕ
from_five y room = or_else (numbers_fault y) (from_six y room)

abbrev pub from_forty_one : System → ℕ → ℕ
from_forty_one y room = or_else (kinds_fault y) (from_five y room)

abbrev pub from_nine : System → ℕ → ℕ
from_nine y room = or_else (none_fault y) (from_forty_one y room)

-- the numbers that the tests from each one on say, and 0

abbrev pub numbers_thirty : List ℕ
numbers_thirty = 30 ∷ 0 ∷ []

abbrev pub numbers_ten : List ℕ
numbers_ten = 10 ∷ numbers_thirty

abbrev pub numbers_forty_three : List ℕ
numbers_forty_three = 43 ∷ numbers_ten

abbrev pub numbers_thirty_one : List ℕ
numbers_thirty_one = 31 ∷ numbers_forty_three

abbrev pub numbers_eight : List ℕ
numbers_eight = 8 ∷ numbers_thirty_one

abbrev pub numbers_six : List ℕ
numbers_six = 6 ∷ numbers_eight

abbrev pub numbers_five : List ℕ
numbers_five = 5 ∷ numbers_six

abbrev pub numbers_forty_one : List ℕ
numbers_forty_one = 41 ∷ numbers_five

abbrev pub numbers_nine : List ℕ
numbers_nine = 9 ∷ numbers_forty_one

-- the engines: the platform's test c, d and s, the second kind's e and w, whose sizes say no 5
module _ (s w t p x q r : ℕ) (no-five : eqb w 5 ≡ false) where
  abbrev from-sizes : ℕ
  from-sizes = or_else (or_else (or_else s w) t) (or_else p (or_else x (or_else q r)))

  abbrev from-types : ℕ
  from-types = or_else t (or_else p (or_else x q))

  after-rule : or_else (or_else (or_else s w) from-types) r ≡ from-sizes
  after-rule =
      or_assoc (or_else s w) from-types r
      ∙ ap (or_else (or_else s w)) (or_assoc t (or_else p (or_else x q)) r ∙ ap (or_else t) (or_assoc p (or_else x q) r ∙ ap (or_else p) (or_assoc x q r)))
      ∙ sym (or_assoc (or_else s w) t (or_else p (or_else x (or_else q r))))

  engines-regroup : (c d e : Bool)
      → or_else (or_else (engines_fault (cond c 5 (cond d 6 s)) (cond e 5 w)) from-types) r
      ≡ or_else (or_else (cond c 5 0) (cond e 5 0)) (or_else (cond d 6 0) from-sizes)
  engines-regroup true d true = refl
  engines-regroup false d true = refl
  engines-regroup true d false = rw no-five
  engines-regroup false true false = rw no-five
  engines-regroup false false false = rw no-five after-rule

  regroup : (a b c d e : Bool) (k : ℕ)
      → or_else (or_else (cond a 7 (cond b 9 0)) (or_else k (or_else (engines_fault (cond c 5 (cond d 6 s)) (cond e 5 w)) from-types))) r
      ≡ or_else (cond a 7 0) (or_else (cond b 9 0) (or_else k (or_else (or_else (cond c 5 0) (cond e 5 0)) (or_else (cond d 6 0) from-sizes))))
  regroup true b c d e k = refl
  regroup false true c d e k = refl
  regroup false false c d e k = or_assoc k (or_else (engines_fault (cond c 5 (cond d 6 s)) (cond e 5 w)) from-types) r ∙ ap (or_else k) (engines-regroup c d e)

pub from-seven : (y : System) (room : ℕ) → write_fault y room ≡ or_else (many_fault y) (from_nine y room)
unfolding write_fault system_fault
from-seven y room =
    let platform = platform_fault y.engines y.rule y.timecap y.memorycap in
    let count : ℕ = cond (ltb type_limit y.typecount) 7 (cond (eqb y.typecount 0) 9 0) in
    ap
    (λ (second : ℕ). or_else (or_else count (or_else (kinds_fault y) (or_else (engines_fault platform second) (types_limits y.timecap (cleared y).types)))) (short_fault y room))
    (second-apart y.engines y.second)
    ∙ regroup (size_fault y.timecap y.memorycap) (kind_sizes y.second) (types_fault (cleared y).types) (replicas_fault y) (cycles_fault y) (product_fault y) (short_fault y room) (sizes-no-five y.second)
    (ltb type_limit y.typecount) (eqb y.typecount 0) (not (leb 1 y.engines && leb y.engines engine_limit)) (not (leb y.rule 1)) (kind_over y.engines y.second)
    (kinds_fault y)
