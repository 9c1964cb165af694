-- W1 to W12 hold of the definitions: by computation, one theorem over the table.
use mathlib.Core.Path.{refl}
use Rattle.system.specs.Limits.{paces_fault, columns_of, kinds_agree, types_keep, keeps_card, keeps_limits}
use Rattle.system.specs.Layout.{rule_of, platform_from, type_from, data_from, ruled_head, head_of, body_of, ruled_field, field_of, end_of, fields_from, read_card, of_one_kind, read_file}
use Rattle.loads.specs.Load.{sum_over, apart, fits_engine, holds_none, within, plus, less}
use Rattle.loads.specs.Column.{column_from, load_of}
use Rattle.partition.specs.Assignment.{count_on, among, every, any_of, passing, good, numbers_from, each_before, places_of, assignments_of, some_good}
use Rattle.partition.specs.Shares.{sum_of, row_on}
use Rattle.partition.specs.Cell.{lowest, precedes, cell, lowest_row, recover, recovery}
use Rattle.table.specs.Parts.{up_to}
use Rattle.planner.specs.Plan.{verdict_of}
use Rattle.board.specs.Truth.{true_loads, true_marks, true_board}
use Rattle.board.specs.Calls.{check_newcomer, first_of, admitted, admit_of, reseated, seat_of, check_retire, retire_of}
use Rattle.ledger.specs.Ledger.{counted_on, admit_entry, seat_entry, retire_entry, repack_entry, step, ledger_after, ledger_answers}
use Rattle.ledger.specs.Demand3.{board_after, played}
use Rattle.cases.specs.Cases.{yes_of, cases, AllHold}

pub shown : AllHold cases
unfolding paces_fault columns_of kinds_agree types_keep keeps_card keeps_limits rule_of platform_from type_from data_from ruled_head head_of body_of ruled_field field_of end_of fields_from read_card of_one_kind read_file sum_over apart fits_engine holds_none within plus less column_from load_of count_on among every any_of good numbers_from each_before places_of assignments_of some_good lowest precedes cell lowest_row recover recovery up_to verdict_of true_loads true_marks true_board first_of check_newcomer admitted admit_of reseated seat_of check_retire retire_of sum_of row_on passing counted_on admit_entry seat_entry retire_entry repack_entry step ledger_after ledger_answers board_after played yes_of cases
shown = refl
