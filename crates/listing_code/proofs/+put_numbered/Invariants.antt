-- `put_numbered`. The measure is how many numbers there are: the call inside has one less.
use lib.ListN.{length}
use Rattle.listing_code.proofs.+put_numbered.Given as goal

abbrev pub decreases-put_numbered : goal.decreases-put_numbered
decreases-put_numbered l = length l.numbers.now
