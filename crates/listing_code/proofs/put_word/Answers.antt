-- `put_word`: the answers.
use mathlib.Core.Path.{◌≡◌, refl, ◌∙◌}
use native.Mathlib.Omega.{arith}
use Rattle.buffer.proofs.Laws.{puts_then, puts_none}
use Rattle.listing.proofs.Laws.{word-suc}
use Rattle.listing_code.proofs.put_word.Goals as goal

pub loop-i-init : goal.loop-i-init
loop-i-init c = (omega arith, refl, omega arith, puts_none c.args.at c.args.out.now)

pub loop-i-preserved : goal.loop-i-preserved
loop-i-preserved c =
    let i = c.loop-i.i in (
      omega arith,
      c.put_byte-next.auto.out ∙ c.loop-i.invariant.1,
      omega (arith, c.put_byte-next.ensures.next),
      rw (word-suc c.args.start i (omega arith), ← c.letter.ensures) (puts_then (omega arith) c.loop-i.invariant.3 c.put_byte-next.ensures),
    )

pub returns : goal.returns
returns c =
    let whole : c.loop-i.i ≡ c.args.size = omega arith in
    (rw whole at c.loop-i.invariant.3, omega arith)
