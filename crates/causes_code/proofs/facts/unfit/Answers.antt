-- The two tests, at the load that `alone` ensures.
use Rattle.causes_code.proofs.facts.unfit.Goals as goal

pub returns : goal.returns
returns c = rw (c.fits_engine.ensures, c.alone.ensures)
