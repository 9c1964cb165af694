-- `minus`: each entry that `from_fn` made is a difference.
use borrow.Author.Rules.{rules}
use Rattle.loads.proofs.Steps.{less-listed}
use Rattle.loads_code.proofs.minus.Goals as goal

pub returns : goal.returns
returns c =
    less-listed c.args.x c.args.y c.from_fn.result (search rules) (search rules) (λ i more. let (p, q, called) = c.from_fn.ensures.items.at i 0 (search rules) in search rules)
