-- `put_arrivals`: the answers.
use Prim.Native.Nat.{ℕ, ◌+◌, ◌<◌}
use mathlib.Core.Path.{◌≡◌, refl, sym, ap, ◌∙◌}
use mathlib.Core.List.{List, [], ◌++◌, append_assoc, append-nil}
use native.Mathlib.Omega.{arith}
use lib.ListN.{length, get_or, take, drop}
use lib.Seq.{length-take-le, get_or-take}
use Rattle.runs.specs.declared.Job.{Job}
use Rattle.runs.specs.Run.{job_limit, no_job}
use Rattle.buffer.proofs.Laws.{puts_then, puts_none}
use Rattle.timeline.specs.Text.{arrival_at, arrivals_from}
use Rattle.timeline.proofs.Laws.{arrivals-on, arrivals-past}
use borrow.Author.Rules.{rules}
use Rattle.timeline_code.proofs.lines.put_arrivals.Goals as goal

pub loop-i-init : goal.loop-i-init
loop-i-init c = ([], omega arith, refl, omega arith, puts_none c.args.at c.args.out.now, refl)

pub loop-i-preserved : goal.loop-i-preserved
loop-i-preserved c =
    let put = c in
    let turn = put.loop-i in
    let start = put in
    let a = start.args in
    let l : length a.jobs ≡ job_limit = search rules in
    let js = take a.count a.jobs in
    let whole : length js ≡ a.count = length-take-le a.count a.jobs (omega (arith, start.requires.0, l)) in
    let less : turn.i < a.count = omega arith in
    let here = arrival_at a.time a.counts turn.i (get_or a.jobs turn.i no_job) in
    let rest = arrivals_from a.time a.counts (turn.i + 1) (drop (turn.i + 1) js) in
    let next : arrivals_from a.time a.counts turn.i (drop turn.i js) ≡ here ++ rest =
    arrivals-on a.time a.counts turn.i js (omega (arith, whole, less))
    ∙ ap (λ (j : Job). arrival_at a.time a.counts turn.i j ++ rest) (get_or-take a.count a.jobs turn.i no_job less) in (
      turn.invariant.0 ++ here,
      omega arith,
      put.put_arrival-next.auto.out ∙ turn.invariant.2,
      omega (arith, put.put_arrival-next.ensures.1),
      puts_then (omega (arith, start.requires.1)) turn.invariant.4 put.put_arrival-next.ensures.0,
      append_assoc turn.invariant.0 here rest ∙ ap (λ (s : List ℕ). turn.invariant.0 ++ s) (sym next) ∙ turn.invariant.5,
    )

pub returns : goal.returns
returns c =
    let turn = c.loop-i in
    let start = c in
    let a = start.args in
    let l : length a.jobs ≡ job_limit = search rules in
    let js = take a.count a.jobs in
    let whole : length js ≡ a.count = length-take-le a.count a.jobs (omega (arith, start.requires.0, l)) in
    let all : turn.invariant.0 ≡ arrivals_from a.time a.counts 0 js =
    sym (append-nil turn.invariant.0) ∙ ap (λ (s : List ℕ). turn.invariant.0 ++ s) (sym (arrivals-past a.time a.counts turn.i js (omega (arith, whole)))) ∙ turn.invariant.5 in
    (rw all at turn.invariant.4, omega (arith, turn.invariant.3, turn.invariant.1, start.requires.0))
