-- The numbers are those that the callees give, one from each value.
use Rattle.making_code.proofs.drawn.draw_type.Goals as goal

pub returns : goal.returns
returns c =
    record {
      task = simp (c.zero_to.ensures, c.one_to-2.ensures, c.one_to.ensures, c.no_task.ensures, c.step-third.ensures, c.step-second.ensures, c.step-first.ensures);
      value = simp (c.step-third.ensures, c.step-second.ensures, c.step-first.ensures);
    }
