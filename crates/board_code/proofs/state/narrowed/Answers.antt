-- `narrowed`: the answers.
use Rattle.std.proofs.Common.{rules, arith, length}
use Rattle.board_code.proofs.Chains.{six-same, list-item}
use Rattle.board_code.proofs.state.narrowed.Goals as goal

pub map-requires : goal.map-requires
map-requires c = (omega arith, (omega arith, (omega arith, record { at = λ xs t q x u yielded folds step _ _ _ _ _. record { fits = omega (arith, list-item c.args.sum xs t u x yielded step, c.requires (length xs)) } })))

pub returns : goal.returns
returns c = search (rules, six-same)
