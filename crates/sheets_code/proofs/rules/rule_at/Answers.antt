-- The row of the table.
use Rattle.partition.proofs.Lists.{get_or-inside}
use Rattle.sheets.specs.Sheet.{header_rule, sheet_rules}
use Rattle.sheets_code.proofs.rules.rule_at.Goals as goal

pub returns : goal.returns
returns c = get_or-inside sheet_rules _ _ header_rule c.requires
