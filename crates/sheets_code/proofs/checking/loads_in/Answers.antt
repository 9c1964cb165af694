-- `loads_in`: the answers.
use Prim.Native.Nat.{◌+◌, ◌≤◌}
use mathlib.Core.Path.{◌≡◌, refl, sym, ap, ◌∙◌}
use native.Mathlib.Nat.{zero-mul}
use native.Mathlib.Omega.{arith}
use lib.ListN.{length, length-set}
use Rattle.sheets.specs.declared.Taken.{Taken}
use Rattle.sheets.specs.Sheet.{loads_from, loads_in}
use Rattle.sheets_code.proofs.Steps.{loads-turn, loads-end, taken-near}
use Rattle.sheets_code.proofs.checking.loads_in.Goals as goal

pub loop-i-init : goal.loop-i-init
unfolding loads_in
loop-i-init c =
    let start = c in
    let five = c.field_size-at.ensures in
    (omega arith, refl, omega (arith, five, zero-mul start.args.k), start.requires, ap (λ at. loads_from start.args.m start.args.k start.args.sheet.now at 1 16) five)

pub taken_at-taken-requires : goal.taken_at-taken-requires
taken_at-taken-requires c = let here = c.loop-i in (here.invariant.3, omega (arith, here.invariant.2))

pub loop-i-preserved : goal.loop-i-preserved
loop-i-preserved c =
    let here = c in
    let a = here.args in
    let i = here.loop-i.i in
    let at = here.loop-i.at in
    let taken = c.taken_at-taken.ensures in
    let sixteen : length here.loop-i.loads ≡ 16 = here.loop-i.invariant.1 in
    let few : a.k ≤ 6 = here.loop-i.invariant.3 in
    let load = ap (λ (t : Taken). t.load) taken in
    let next = ap (λ (t : Taken). t.next) taken in (
      omega arith,
      length-set here.loop-i.loads i _ ∙ sixteen,
      rw next (omega (arith, taken-near a.m a.k a.sheet.now at (i + 1) few, here.loop-i.invariant.2)),
      few,
      rw (load, next) (loads-turn a.m a.k a.sheet.now at i here.loop-i.loads (omega arith) (omega arith) ∙ here.loop-i.invariant.4),
    )

pub returns : goal.returns
returns c =
    let here = c.loop-i in
    let all : here.i ≡ 16 = omega arith in
    sym (loads-end _ _ _ here.at (here.i + 1) here.i here.loads (omega (arith, here.invariant.1)) all) ∙ here.invariant.4
