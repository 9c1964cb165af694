-- `file_size`: the platform, any second kind, then the types.
use native.Mathlib.Omega.{arith}
use mathlib.Core.Path.{◌∙◌}
use lib.ListN.{take, length-append}
use Rattle.system.specs.Rules.{rule_of}
use Rattle.writer.specs.File.{field_bytes, second_bytes, types_bytes, file_of}
use Rattle.writer.proofs.Bytes.{second-longest, first-longest}
use Rattle.writer_code.proofs.Steps.{second-sized}
use Rattle.writer_code.proofs.file_size.Goals as goal

pub overflow_add-result : goal.overflow_add-result
unfolding rule_of
overflow_add-result c =
    omega (arith, c.field_size.ensures, c.size_if.ensures ∙ second-sized c.args.y.second c.is_some.ensures, second-longest c.args.y.second)

pub overflow_add-result-2 : goal.overflow_add-result-2
unfolding rule_of
overflow_add-result-2 c =
    let y = c.args.y in
    omega (
      arith,
      c.requires,
      c.field_size.ensures,
      c.size_if.ensures ∙ second-sized c.args.y.second c.is_some.ensures,
      c.types_size.ensures,
      second-longest y.second,
      first-longest y.types y.typecount,
    )

pub returns : goal.returns
unfolding file_of field_bytes rule_of
returns c =
    let y = c.args.y in
    omega (
      arith,
      c.field_size.ensures,
      c.size_if.ensures ∙ second-sized c.args.y.second c.is_some.ensures,
      c.types_size.ensures,
      length-append (second_bytes y.second) (types_bytes (take y.typecount y.types)),
    )
