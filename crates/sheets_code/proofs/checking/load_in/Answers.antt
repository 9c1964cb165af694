-- Time, memory and counts, each where the layout has it.
use Rattle.sheets_code.proofs.checking.load_in.Goals as goal

pub returns : goal.returns
returns c =
    let time = c.four_bytes.ensures in
    let memory = c.four_bytes-2.ensures in
    let counts = c.counts_in-counts.ensures in
    λ i. record { time = time i; memory = memory i; counts = counts i }
