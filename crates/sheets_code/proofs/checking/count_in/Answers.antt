-- The two bytes where a record of t types ends, and 0 past k.
use mathlib.Core.Path.{ap, ◌∙◌}
use borrow.Author.Tests.{lt-ltb, le-ltb}
use Rattle.system.specs.Layout.{word2}
use Rattle.sheets_code.proofs.checking.count_in.Goals as goal

pub returns-then-t-k : goal.returns-then-t-k
returns-then-t-k c =
    let start = c in
    rw (lt-ltb _ _ c.if-t-k.true) (c.two_bytes.ensures ∙ ap (word2 start.args.rest.now) c.field_size.ensures)

pub returns : goal.returns
returns c = rw (le-ltb _ _ c.if-t-k.false)
