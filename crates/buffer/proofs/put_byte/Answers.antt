-- `put_byte`: one store.
use Rattle.buffer.proofs.Laws.{puts-byte}
use Rattle.buffer.proofs.put_byte.Goals as goal

pub returns : goal.returns
returns c = puts-byte c.args.b c.args.at c.args.out.now c.requires
