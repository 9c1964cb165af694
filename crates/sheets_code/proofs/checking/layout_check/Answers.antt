-- The sheet of the records is put into a buffer that is long enough for any, and compared.
use mathlib.Core.Path.{◌≡◌, sym, ap, ◌∙◌}
use lib.ListN.{length}
use lib.Seq.{length-take-le}
use lib.Dec.{eqb}
use borrow.Author.Rules.{rules}
use Rattle.system.specs.Limits.{engine_limit}
use Rattle.partition.specs.Listing.{same_list}
use Rattle.sheets.proofs.Sizes.{sheet-room}
use Rattle.sheets_code.proofs.Steps.{same-pointwise, put_front, put-within}
use Rattle.sheets_code.proofs.checking.layout_check.Goals as goal

-- any sheet has at most 389 bytes
pub put_sheet-size-requires : goal.put_sheet-size-requires
put_sheet-size-requires c =
    let l : length c.args.loads ≡ engine_limit = search rules in
    (c.requires, sheet-room c.args.k c.args.loads c.requires l)

-- so the sheet is within the buffer
pub slice_bounds-copy-end : goal.slice_bounds-copy-end
slice_bounds-copy-end c = put-within c.put_sheet-size.ensures c.put_sheet-size.auto.out

pub slice_bounds-eq-end : goal.slice_bounds-eq-end
slice_bounds-eq-end c = sym (length-take-le _ _ (put-within c.put_sheet-size.ensures c.put_sheet-size.auto.out))

-- and the comparison is with it
pub returns-then-eq : goal.returns-then-eq
returns-then-eq c =
    rw (← (c.eq.ensures ∙ same-pointwise _ _ ∙ ap (same_list eqb c.args.sheet.now) (put_front c.put_sheet-size.ensures)), c.if-eq.true)

pub returns : goal.returns
returns c = rw (← (c.eq.ensures ∙ same-pointwise _ _ ∙ ap (same_list eqb c.args.sheet.now) (put_front c.put_sheet-size.ensures)), c.if-eq.false)
