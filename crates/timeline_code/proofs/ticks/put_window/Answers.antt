-- Nothing where the run ends before the first tick that would be shown; else the lines from the state at that tick on.
use Prim.Native.Nat.{◌-◌}
use native.Mathlib.Nat.{min-le_left, min-le_right}
use native.Mathlib.Omega.{arith}
use Rattle.buffer.proofs.Laws.{puts_none}
use lib.ListN.{take}
use Rattle.timeline.specs.Text.{window_text}
use Rattle.timeline.proofs.Laws.{window-past}
use Rattle.timeline_code.proofs.ticks.put_window.Goals as goal

pub returns-then-ticks-from : goal.returns-then-ticks-from
returns-then-ticks-from c =
    let a = c.args in
    (rw (window-past (take a.count a.jobs) a.counts a.ticks a.from c.if-ticks-from.true) (puts_none 0 a.out.now), omega arith)

pub put_ticks-requires : goal.put_ticks-requires
put_ticks-requires c =
    let least = c in
    let start = least in
    let a = start.args in
    let low = min-le_left 32 (a.ticks - a.from) in
    let high = min-le_right 32 (a.ticks - a.from) in
    (start.requires.0, omega (arith, least.least-shown.ensures, low), omega (arith, least.least-shown.ensures, high, start.requires.1, least.if-ticks-from.false), start.requires.2)

pub returns : goal.returns
unfolding window_text
returns c =
    let put = c in
    let state = put in
    let least = state in
    (rw (least.least-shown.ensures, state.state_at-state.ensures) at put.put_ticks.ensures.0, put.put_ticks.ensures.1)
