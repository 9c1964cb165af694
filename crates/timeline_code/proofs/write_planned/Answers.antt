-- What the file reads as has at most 16 engines.
use Rattle.timeline.proofs.Verdicts.{read-few}
use Rattle.timeline_code.proofs.write_planned.Goals as goal

pub write_engine-requires : goal.write_engine-requires
write_engine-requires c = rw c.read_system-opened.ensures.system (read-few c.args.file.now)

pub returns : goal.returns
returns c = rw c.read_system-opened.ensures.system at c.write_engine.ensures
