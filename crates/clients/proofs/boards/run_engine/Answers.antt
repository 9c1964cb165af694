-- `run_engine`: which runs are refused, and what the others report.
use Rattle.clients.proofs.Plainly.{runs-plainly}
use Rattle.clients.proofs.boards.run_engine.Goals as goal

pub returns : goal.returns
returns c =
    let e = c.run_engine.ensures in
    record {
      run_promises = e;
      runs_plainly = runs-plainly _ _ _ _ e;
    }
