-- `put_ticks`: the answers.
use Prim.Native.Nat.{ℕ, ◌+◌, ◌-◌}
use mathlib.Core.Path.{◌≡◌, refl, sym, ap, ◌∙◌}
use mathlib.Core.List.{List, [], ◌++◌, append_assoc, append-nil}
use native.Mathlib.Omega.{arith}
use lib.ListN.{length, take}
use lib.Seq.{length-take-le}
use Rattle.runs.specs.Run.{job_limit}
use Rattle.runs.proofs.Steps.{length-arrived, length-worked}
use Rattle.buffer.proofs.Laws.{puts_then, puts_none}
use Rattle.timeline.specs.Text.{line_with, tick_lines}
use Rattle.timeline.proofs.Laws.{lines_next, lines_none}
use borrow.Author.Rules.{rules}
use Rattle.timeline_code.proofs.ticks.put_ticks.Goals as goal

pub loop-now-init : goal.loop-now-init
loop-now-init c =
    let a = c.args in
    let l : length a.jobs ≡ job_limit = search rules in
    let all : a.from + a.shown - a.from ≡ a.shown = omega arith in (
      [],
      omega arith,
      omega arith,
      refl,
      omega arith,
      length-take-le a.count a.jobs (omega (arith, c.requires.0, l)),
      puts_none 0 a.out.now,
      ap (λ (n : ℕ). tick_lines n a.from a.counts (take a.count a.jobs)) all,
    )

pub loop-now-preserved : goal.loop-now-preserved
loop-now-preserved c =
    let tick = c.one_tick-tick in
    let turn = c.loop-now in
    let a = c.args in
    let js = take a.count turn.state in
    let next = take a.count tick.result.next in
    let left = a.from + a.shown - (turn.now + 1) in
    let here = line_with turn.now a.counts js a.count tick.result.at in
    let rest = tick_lines left (turn.now + 1) a.counts next in
    let more : a.from + a.shown - turn.now ≡ left + 1 = omega arith in
    let step : tick_lines (a.from + a.shown - turn.now) turn.now a.counts js ≡ here ++ rest =
    ap (λ (n : ℕ). tick_lines n turn.now a.counts js) more
    ∙ lines_next left turn.now a.count tick.result.at a.counts js next turn.invariant.5 tick.ensures.at_value tick.ensures.next_value in (
      turn.invariant.0 ++ here,
      omega arith,
      omega arith,
      c.put_tick-next.auto.out ∙ turn.invariant.3,
      omega (arith, turn.invariant.4, c.put_tick-next.ensures.1),
      ap length tick.ensures.next_value ∙ length-worked _ _ ∙ length-arrived _ _ ∙ turn.invariant.5,
      puts_then (omega arith) turn.invariant.6 c.put_tick-next.ensures.0,
      append_assoc turn.invariant.0 here rest ∙ ap (λ (s : List ℕ). turn.invariant.0 ++ s) (sym step) ∙ turn.invariant.7,
    )

pub returns : goal.returns
returns c =
    let turn = c.loop-now in
    let a = c.args in
    let js = take a.count turn.state in
    let none : a.from + a.shown - turn.now ≡ 0 = omega arith in
    let rest : tick_lines (a.from + a.shown - turn.now) turn.now a.counts js ≡ [] = ap (λ (n : ℕ). tick_lines n turn.now a.counts js) none ∙ lines_none turn.now a.counts js in
    let all : turn.invariant.0 ≡ tick_lines a.shown a.from a.counts (take a.count a.jobs) =
    sym (append-nil turn.invariant.0) ∙ ap (λ (s : List ℕ). turn.invariant.0 ++ s) (sym rest) ∙ turn.invariant.7 in
    (rw all at turn.invariant.6, omega (arith, turn.invariant.4, turn.invariant.2, c.requires.1))
