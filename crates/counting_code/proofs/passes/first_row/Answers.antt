-- `first_row`: the answers.
use Prim.Native.Nat.{ℕ, ◌+◌, ◌*◌, ◌≤◌, ◌<◌}
use mathlib.Core.Path.{◌≡◌, refl, sym, ap, ◌∙◌}
use mathlib.Core.Bool.{Bool, true, false}
use mir.Val.{bool_byte}
use native.Mathlib.Omega.{arith}
use lib.ListN.{length, get_or, length-set}
use Rattle.system.specs.Values.{ceilings_of}
use Rattle.system.specs.Limits.{columns}
use Rattle.loads.specs.Load.{fits_engine}
use Rattle.loads.specs.Column.{load_of}
use Rattle.counting.specs.Tally.{bit}
use Rattle.counting.proofs.Turns.{length_both, first-turn, second-turn, past-both}
use Rattle.counting.proofs.Rows.{tally-one}
use Rattle.counting_code.proofs.passes.first_row.Goals.{After-from-bit}
use Rattle.counting_code.proofs.passes.first_row.Goals as goal

pub loop-column-init : goal.loop-column-init
loop-column-init c = (omega arith, refl, (λ c h. absurd (omega arith)), (λ c h. absurd (omega arith)), refl)

-- both entries lie in the part
room : (c : After-from-bit) →
    let here = c.loop-column in
    let a = c.args in
    (here.column < a.columns) × (a.columns + a.columns ≤ length here.part)
room c =
    let here = c.loop-column in
    let start = c in
    (omega arith, rw here.invariant.1 start.requires.halves)

pub offset_bounds-part-column : goal.offset_bounds-part-column
offset_bounds-part-column c = omega (arith, room c)

-- a test as a number
as-bit : (b : Bool) → bool_byte b ≡ bit b
as-bit true = refl
as-bit false = refl

-- the number that is stored in them
found : (c : After-from-bit) →
    let a = c.args in
    c.from-bit.result ≡ bit (fits_engine a.y (load_of (ceilings_of a.y) c.loop-column.column))
found c = c.from-bit.ensures ∙ as-bit c.fits_engine.result ∙ ap bit (c.fits_engine.ensures ∙ ap (fits_engine c.args.y) c.load_of-load.ensures)

pub bounds-part-column : goal.bounds-part-column
bounds-part-column c = omega (arith, room c)

pub overflow_add-part : goal.overflow_add-part
overflow_add-part c = omega (arith, room c)

pub offset_bounds-part-columns : goal.offset_bounds-part-columns
offset_bounds-part-columns c = omega (arith, room c)

pub bounds-part-columns : goal.bounds-part-columns
bounds-part-columns c =
    let here = c.loop-column in
    rw (length-set here.part here.column c.from-bit.result) (omega (arith, room c))

pub overflow_step-column : goal.overflow_step-column
overflow_step-column c = omega (arith, room c)

pub loop-column-preserved : goal.loop-column-preserved
loop-column-preserved c =
    let here = c.loop-column in
    let a = c.args in
    let r = room c in
    let P : ℕ → ℕ = λ k. bit (fits_engine a.y (load_of (ceilings_of a.y) k)) in (
      omega arith,
      length_both P here.part a.columns here.column c.from-bit.result r.0 r.1 (found c) ∙ here.invariant.1,
      first-turn P here.part a.columns here.column c.from-bit.result r.0 r.1 (found c) here.invariant.2,
      second-turn P here.part a.columns here.column c.from-bit.result r.0 r.1 (found c) here.invariant.3,
      past-both P here.part a.columns here.column c.from-bit.result r.0 r.1 (found c) ∙ here.invariant.4,
    )

pub shape_of-part : goal.shape_of-part
shape_of-part c = c.loop-column.invariant.1

pub returns : goal.returns
returns c =
    let here = c.loop-column in
    let start = c in
    let a = start.args in
    let all : here.column ≡ a.columns = omega arith in
    let is : a.columns ≡ columns a.y = start.requires.all in
    let twice : a.columns + a.columns ≡ 2 * columns a.y = omega arith in (
      record {
        cells = λ k h. here.invariant.2 k (omega arith) ∙ sym (tally-one (fits_engine a.y) (load_of (ceilings_of a.y) k));
        bits = λ k h. ap (λ (n : ℕ). get_or here.part (n + k) 0) (sym is) ∙ here.invariant.3 k (omega arith);
      },
      record { long = here.invariant.1; past = rw twice at here.invariant.4 },
    )
