-- `body_at`: the body that stands there, in plain bytes.
use mathlib.Core.Path.{◌∙◌}
use Rattle.system.proofs.Begins.{field_step}
use Rattle.clients.proofs.files.body_at.Goals as goal

pub returns : goal.returns
returns c =
    let e = c.body_at.ensures in
    record {
      result_value = e;
      by_index = λ t n body next is. e ∙ (field_step.answers _ _ t n body next is).2;
    }
