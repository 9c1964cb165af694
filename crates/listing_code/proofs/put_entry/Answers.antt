-- `put_entry`: a word with one number.
use mathlib.Core.List.{append-nil}
use native.Mathlib.Omega.{arith}
use Rattle.listing.specs.Listing.{decimal, parted}
use Rattle.listing_code.proofs.put_entry.Goals as goal

pub returns : goal.returns
unfolding parted
returns c =
    let numbered = c.put_numbered in
    (rw (append-nil (decimal c.args.n)) at numbered.ensures.0, omega arith)
