-- `types_limits`: the first test that refuses decides.
use Rattle.system.specs.Limits.{type_limit, paces_fault, columns_fault}
use Rattle.system.proofs.Within.{handed_on, first_refused, then_second}
use Rattle.writer.specs.Writing.{or_else, types_fault, mosts_fault}
use Rattle.writer_code.proofs.types_limits.Goals as goal

pub returns-in_err-types_fault : goal.returns-in_err-types_fault
returns-in_err-types_fault c =
    let ts = c.args.types in
    let run = or_else (paces_fault c.args.timecap type_limit ts) (columns_fault ts) in
    handed_on _ c.from_residual.ensures.1 (first_refused (types_fault ts) (or_else (mosts_fault ts) run) _ c.in_err-types_fault.ensures)

pub returns-in_err-mosts_fault : goal.returns-in_err-mosts_fault
returns-in_err-mosts_fault c =
    let ts = c.args.types in
    let run = or_else (paces_fault c.args.timecap type_limit ts) (columns_fault ts) in
    handed_on _ c.from_residual-in_err-mosts_fault.ensures.1
    (then_second (types_fault ts) (or_else (mosts_fault ts) run) _ c.in_ok-types_fault.ensures (first_refused (mosts_fault ts) run _ c.in_err-mosts_fault.ensures))

pub returns-in_err-paces_fault : goal.returns-in_err-paces_fault
returns-in_err-paces_fault c =
    let ts = c.args.types in
    let paced = paces_fault c.args.timecap type_limit ts in
    let run = or_else paced (columns_fault ts) in
    handed_on _ c.from_residual-in_err-paces_fault.ensures.1
    (then_second (types_fault ts) (or_else (mosts_fault ts) run) _ c.in_ok-types_fault.ensures
    (then_second (mosts_fault ts) run _ c.in_ok-mosts_fault.ensures (first_refused paced (columns_fault ts) _ c.in_err-paces_fault.ensures)))

pub returns : goal.returns
returns c =
    let ts = c.args.types in
    let paced = paces_fault c.args.timecap type_limit ts in
    let run = or_else paced (columns_fault ts) in
    then_second (types_fault ts) (or_else (mosts_fault ts) run) _ c.in_ok-types_fault.ensures
    (then_second (mosts_fault ts) run _ c.in_ok-mosts_fault.ensures
    (then_second paced (columns_fault ts) _ c.in_ok-paces_fault.ensures c.columns_fault.ensures))
