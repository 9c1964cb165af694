-- `reader::field_of` meets its contract: one law for each case of the head.
use lib.ListN.{drop}
use Rattle.system.proofs.Within.{handed_on}
use Rattle.system_code.proofs.Goes.{ok_head, ruled-ready, field-stops, field-ruled}
use Rattle.system_code.proofs.reader.field_of.Goals as goal

pub returns-in_err-rule : goal.returns-in_err-rule
returns-in_err-rule c =
    let a = c.args in
    handed_on _ c.from_residual.ensures.1 (field-stops (drop a.c.at a.file.now) a.last a.y c.in_err-rule.ensures)

pub body_of-requires : goal.body_of-requires
body_of-requires c =
    let a = c.args in
    let s = drop a.c.at a.file.now in
    ruled-ready s a.last a.y c.requires (ok_head s a.last c.in_ok-rule.ensures)

pub returns : goal.returns
returns c =
    let a = c.args in
    let s = drop a.c.at a.file.now in
    field-ruled s a.last a.y (ok_head s a.last c.in_ok-rule.ensures) c.body_at.ensures c.body_of.ensures
