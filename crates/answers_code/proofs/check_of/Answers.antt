-- `check_of`: its own table is long enough for every system, so the answer over it is that of the file and the sheet (`check-promised`).
use Rattle.answers.proofs.Checked.{zeros-long, check-promised}
use Rattle.answers_code.proofs.check_of.Goals as goal

pub returns : goal.returns
returns c = check-promised zeros-long c.check_sheet.ensures c.write_answer.ensures
