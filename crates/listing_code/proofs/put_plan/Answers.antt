-- `put_plan`: the first line, then those of the engines.
use native.Mathlib.Omega.{arith}
use Rattle.buffer.proofs.Laws.{puts_then}
use Rattle.listing.specs.Listing.{engines_word}
use Rattle.listing.proofs.Laws.{line-parts}
use Rattle.listing_code.proofs.put_plan.Goals as goal

pub returns : goal.returns
returns c =
    let engines = c in
    let head = engines in
    let args = head.args in
    (puts_then (omega arith) (rw (line-parts engines_word args.p.used) at head.put_entry-next.ensures.0) engines.put_engines.ensures.0, omega arith)
