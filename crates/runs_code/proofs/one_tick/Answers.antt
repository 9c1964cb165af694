-- The three steps' contracts, one after the other.
use mathlib.Core.Path.{ap, ◌∙◌}
use mathlib.Core.List.{List}
use Rattle.runs.specs.declared.Job.{Job}
use Rattle.runs.specs.Run.{chosen}
use Rattle.runs_code.proofs.one_tick.Goals as goal

pub returns : goal.returns
returns c =
    let e = c.arrived-here.ensures in
    let f = c.chosen-at.ensures ∙ ap (λ (l : List Job). chosen l) e in
    record { here_value = e; at_value = f; next_value = c.worked_at-next.ensures ∙ rw (e, f) }
