-- `sheet_of`: a number is that of the sheet's bytes; a refusal left the buffer alone, and its line is written there.
use mathlib.Core.Path.{◌≡◌}
use lib.ListN.{length}
use Rattle.answers.proofs.Checked.{zeros-long}
use Rattle.answers.proofs.Written.{size-promised, refusal-promised}
use borrow.Author.Rules.{rules}
use Rattle.answers_code.proofs.sheet_of.Goals as goal

pub returns-in-Ok : goal.returns-in-Ok
returns-in-Ok c =
    let l : length c.args.out.now ≡ 4096 = search rules in
    rw c.unwrap_or.ensures (size-promised c.args.file.now zeros-long l c.write_sheet.ensures c.in-Ok.size 0 c.in-Ok.is)

pub returns-in-Err : goal.returns-in-Err
returns-in-Err c =
    let l : length c.args.out.now ≡ 4096 = search rules in
    refusal-promised c.args.file.now zeros-long l c.write_sheet.ensures _ c.in-Err.is c.write_refusal.ensures
