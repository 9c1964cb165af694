-- The entry of a column at its lowest yes row is its predecessor there: the difference fits, and the row before is the lowest of that one.
use Prim.Native.Nat.{◌-◌}
use mathlib.Core.Path.{◌≡◌, refl, sym}
use native.Mathlib.Nat.{pos_of_ne-zero}
use native.Mathlib.Omega.{arith}
use borrow.Author.Rules.{rules}
use lib.ListN.{length, get_or}
use Rattle.table.proofs.Recovered.{recovered_onto-none, recovered_onto-row}
use Rattle.table.proofs.Chained.{chain-cell, chain_fits, chain-before}
use Rattle.table_code.proofs.chain.+recover.Goals as goal

pub returns-then-row-eq0 : goal.returns-then-row-eq0
returns-then-row-eq0 t c = rw c.if-row-eq0.true (sym (recovered_onto-none c.args.y c.args.column c.args.loads))

pub row_load-requires : goal.row_load-requires
row_load-requires t c =
    let some = pos_of_ne-zero c.if-row-eq0.false in
    chain_fits c.requires some (get_or c.args.predecessors.now c.args.column 0) (chain-cell c.requires some)

pub recover-requires : goal.recover-requires
recover-requires t c =
    let some = pos_of_ne-zero c.if-row-eq0.false in
    (omega arith, chain-before c.requires some (get_or c.args.predecessors.now c.args.column 0) (chain-cell c.requires some))

pub returns : goal.returns
returns t c =
    let some = pos_of_ne-zero c.if-row-eq0.false in
    let sixteen : length c.args.loads ≡ 16 = search rules in
    recovered_onto-row c.args.y c.args.column c.args.loads
    c.args.row
    (get_or c.args.predecessors.now c.args.column 0)
    (c.args.row - 1)
    c.row_load.result
    c.recover.result
    some
    (omega (arith, c.requires.few))
    (chain-cell c.requires some)
    refl
    c.row_load.ensures
    c.recover.ensures
