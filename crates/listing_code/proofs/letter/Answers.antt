-- `letter`: what stands at the place, or 0.
use Rattle.std.proofs.Common.{◌∙◌, ap, ℕ, Option}
use Rattle.std.specs.Option.{unwrap_or}
use native.Mathlib.Nat.{le_refl}
use Rattle.listing_code.proofs.letter.Goals as goal

pub returns : goal.returns
returns c = c.unwrap_or.ensures ∙ ap (λ (b : Option ℕ). unwrap_or b 0) c.copied.ensures ∙ c.get.ensures.lookup.4 (le_refl c.args.place) 0
