-- What `write_refusal` wrote to a buffer of its own is copied.
use Rattle.timeline.proofs.Laws.{written-taken}
use Rattle.timeline_code.proofs.put_refusal.Goals as goal

pub put_line-requires : goal.put_line-requires
put_line-requires c = (c.write_refusal-size.ensures.written.within.0, c.requires)

pub returns : goal.returns
returns c =
    let put = c in
    (rw (written-taken put.write_refusal-size.ensures.written) at put.put_line.ensures.0, put.put_line.ensures.1)
