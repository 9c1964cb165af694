-- `put_engine`: the parts of the line, one after another, are the line (`engine_line-entries`).
use Prim.Native.Nat.{ℕ, ◌≤◌, min}
use mathlib.Core.Path.{◌≡◌, sym, ap, ◌∙◌}
use native.Mathlib.Nat.{min-le_right}
use native.Mathlib.Omega.{arith}
use lib.ListN.{length, take}
use lib.Seq.{length-take-le}
use Rattle.system.specs.Limits.{type_limit}
use Rattle.buffer.proofs.Laws.{puts_then}
use Rattle.listing.proofs.Laws.{engine_line-entries, take_min}
use borrow.Author.Rules.{rules}
use Rattle.listing_code.proofs.put_engine.Goals as goal

-- the counts that are put: as many as there are types, of the six
few : (used end : ℕ) → end ≡ min used type_limit → end ≤ type_limit
few used end e = rw e (min-le_right used type_limit)

pub slice_bounds-put_numbered-end : goal.slice_bounds-put_numbered-end
slice_bounds-put_numbered-end c =
    let end = c.least-end.result in
    let six : length c.wide_counts-numbers.result ≡ type_limit = search rules in
    sym (length-take-le end c.wide_counts-numbers.result (omega (arith, few c.args.typecount end c.least-end.ensures)))

pub put_numbered-requires : goal.put_numbered-requires
put_numbered-requires c =
    let end = c.least-end.result in
    let numbers = c.wide_counts-numbers.result in
    let six : length numbers ≡ type_limit = search rules in
    let most = few c.args.typecount end c.least-end.ensures in
    let count = length-take-le end numbers (omega (arith, most)) in
    (omega arith, omega (arith, count, most))

pub returns : goal.returns
returns c =
    let args = c.args in
    let end = c.least-end.result in
    let numbers = c.wide_counts-numbers.result in
    let six : length numbers ≡ type_limit = search rules in
    let most = few args.typecount end c.least-end.ensures in
    let count = length-take-le end numbers (omega (arith, most)) in
    let room : args.at ≤ length args.out.now = omega arith in
    let counts : take end numbers ≡ take args.typecount args.load.counts =
    ap (λ (n : ℕ). take n numbers) (c.least-end.ensures ∙ ap (min args.typecount) (sym six))
    ∙ take_min args.typecount numbers
    ∙ ap (take args.typecount) c.wide_counts-numbers.ensures in
    let timed = puts_then room c.put_entry-named.ensures.0 c.put_entry-timed.ensures.0 in
    let sized = puts_then room timed c.put_entry-sized.ensures.0 in
    let whole = puts_then room sized (rw counts at c.put_numbered.ensures.0) in
    (rw (engine_line-entries args.number args.load.time args.load.memory (take args.typecount args.load.counts)) at whole, omega (arith, count, most))
