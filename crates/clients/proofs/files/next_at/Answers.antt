-- `next_at`: the place after the field that stands there, in plain bytes.
use mathlib.Core.Path.{ap, ◌∙◌}
use Rattle.system.specs.declared.Cursor.{Cursor}
use Rattle.system.proofs.Begins.{field_step}
use Rattle.clients.proofs.files.next_at.Goals as goal

pub returns : goal.returns
returns c =
    let e = c.next_at.ensures in
    record {
      value = e;
      by_index = λ t n body next is. ap (λ (x : Cursor). x.at) e ∙ (field_step.answers _ _ t n body next is).3;
    }
