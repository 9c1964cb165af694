-- `write_made`: a number is that of the file's bytes; a refusal left the buffer alone, and its line is written there.
use mathlib.Core.Path.{◌≡◌}
use lib.ListN.{length}
use Rattle.recipes_code.proofs.Exits.{file-written, refusal-written}
use borrow.Author.Rules.{rules}
use Rattle.recipes_code.proofs.write_made.Goals as goal

pub returns-in-Ok : goal.returns-in-Ok
returns-in-Ok c =
    let l : length c.args.out.now ≡ 4096 = search rules in
    rw c.unwrap_or.ensures (file-written c.args.w l c.make_file.ensures c.in-Ok.size 0 c.in-Ok.is)

pub returns-in-Err : goal.returns-in-Err
returns-in-Err c =
    let l : length c.args.out.now ≡ 4096 = search rules in
    refusal-written c.args.w l c.make_file.ensures _ c.in-Err.is c.write_refusal.ensures
