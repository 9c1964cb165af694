-- `listing`: the listing of the plan is that of the file, by what a plan promises.
use mathlib.Core.Path.{sym, ◌∙◌}
use Rattle.partition.specs.Lent.{Lent, lent}
use Rattle.listing.proofs.Laws.{listing-planned}
use Rattle.listing.proofs.Demands.{listing-demand2, listing-refuses}
use Rattle.listing_code.proofs.listing.Goals as goal

pub returns : goal.returns
returns c =
    let args = c.args in
    let promises = c.plan_of.ensures in
    let table : Lent = lent args.rows.now args.predecessors.now in
    let after : Lent = lent c.plan_of.new.rows c.plan_of.new.predecessors in
    let text = listing-planned promises in
    let wrote = c.write_listing.ensures in
    record {
      written = rw text at wrote.written;
      leaves_table = promises.whole.leaves_table;
      refuses = rw text at (listing-refuses args.file.now table c.plan_of.result after promises wrote.given);
      demand2 = rw text at (listing-demand2 args.file.now table c.plan_of.result after promises wrote.given);
      same_plan = λ p after promised. listing-planned promised;
      same_table = λ p after promised. promises.whole.leaves_table ∙ sym promised.whole.leaves_table;
    }
