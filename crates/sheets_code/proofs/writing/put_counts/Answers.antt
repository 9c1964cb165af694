-- `put_counts`: the answers.
use Prim.Native.Nat.{◌≤◌}
use mathlib.Core.Path.{◌≡◌, refl, ◌∙◌}
use native.Mathlib.Omega.{arith}
use lib.ListN.{length, take}
use lib.Seq.{length-take-le, take_all}
use borrow.Author.Rules.{rules}
use Rattle.system.specs.Limits.{type_limit}
use Rattle.buffer.proofs.Laws.{puts_then, puts_none}
use Rattle.sheets.specs.Sheet.{counts_bytes}
use Rattle.sheets.proofs.Putting.{counts-suc, counts-put}
use Rattle.sheets_code.proofs.writing.put_counts.Goals as goal

pub loop-count-init : goal.loop-count-init
unfolding counts_bytes
loop-count-init c = (refl, puts_none c.args.at c.args.out.now)

pub put_two-next-requires : goal.put_two-next-requires
put_two-next-requires c =
    let a = c.args in
    let l : length a.counts ≡ type_limit = search rules in
    let few = length-take-le a.k a.counts (omega (arith, c.requires.0)) in
    omega (arith, c.loop-count.invariant.1.next, counts-put (take a.k a.counts) c.loop-count.count-index (omega arith), c.requires.1)

pub loop-count-preserved : goal.loop-count-preserved
loop-count-preserved c =
    let a = c.args in
    let room : a.at ≤ length a.out.now = omega (arith, c.requires.1) in (
      c.put_two-next.auto.out ∙ c.loop-count.invariant.0,
      rw (counts-suc (take a.k a.counts) c.loop-count.count-index 0 (omega arith)) (puts_then room c.loop-count.invariant.1 c.put_two-next.ensures),
    )

pub returns : goal.returns
returns c = rw (take_all c.loop-count.count-index (take c.args.k c.args.counts) (omega arith)) at c.loop-count.invariant.1
