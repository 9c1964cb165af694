-- `reader::one_kind_of` meets its contract: where a card was read, the test of its kinds picks the case.
use Rattle.system.specs.Layout.{read_card, read_file}
use Rattle.system.proofs.Within.{handed_on}
use Rattle.system_code.proofs.Goes.{one-stops, one-reads, two-refused}
use Rattle.system_code.proofs.reader.one_kind_of.Goals as goal

pub returns-in_err-y : goal.returns-in_err-y
unfolding read_file
returns-in_err-y c = handed_on _ c.from_residual.ensures.1 (one-stops (read_card c.args.file.now) c.in_err-y.ensures)

pub returns-then-is_some : goal.returns-then-is_some
unfolding read_file
returns-then-is_some c = two-refused (read_card c.args.file.now) c.in_ok-y.ensures c.is_some.ensures c.if-is_some.true

pub returns : goal.returns
unfolding read_file
returns c = one-reads (read_card c.args.file.now) c.in_ok-y.ensures c.is_some.ensures c.if-is_some.false
