-- The two tests at the sums that `sums_of` ensures, and that of q.
use Rattle.loads.specs.Load.{fits_engine}
use Rattle.loads_code.proofs.fits_engine.Goals as goal

pub returns : goal.returns
unfolding fits_engine
returns c = rw (c.sums_of-sums.ensures, c.apart.ensures)
