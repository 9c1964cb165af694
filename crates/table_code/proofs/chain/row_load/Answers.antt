-- The difference of the two columns' loads is what the contract calls the row's load.
use mathlib.Core.Path.{◌≡◌, ap, ◌∙◌}
use Rattle.loads.specs.Load.{less, fits_engine, engine_with}
use Rattle.table.specs.Chain.{row_load}
use Rattle.table_code.proofs.chain.row_load.Goals.{After-engine_with, After-minus}
use Rattle.table_code.proofs.chain.row_load.Goals as goal

is-difference : (c : After-minus) → c.minus.result ≡ row_load c.args.y c.args.column c.args.before
is-difference c = c.minus.ensures ∙ λ i. less (c.load_of-load.ensures i) (c.load_of-rest.ensures i)

is-difference-2 : (c : After-engine_with) → c.minus.result ≡ row_load c.args.y c.args.column c.args.before
is-difference-2 c = c.minus.ensures ∙ λ i. less (c.load_of-load.ensures i) (c.load_of-rest.ensures i)

pub engine_with-requires : goal.engine_with-requires
engine_with-requires c = ap (fits_engine c.args.y) (is-difference c) ∙ c.requires

pub returns : goal.returns
returns c = c.engine_with.ensures ∙ ap (engine_with c.args.y) (is-difference-2 c)
