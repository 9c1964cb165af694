-- `put_refusal`: one line, whichever list the refusal is from.
use Rattle.std.proofs.Common.{ℕ, ◌≡◌, []}
use mathlib.Core.Logic.{◌⊎◌, inl, inr}
use native.Mathlib.Omega.{arith}
use Rattle.system.specs.declared.Refusal.{Refusal}
use Rattle.system.specs.declared.Refusal.TheVariants.{Input, State}
use Rattle.system.specs.Outcome.{refusal_of}
use Rattle.listing.specs.Listing.{refused_word, refusal_line, listing_of}
use Rattle.listing.proofs.Laws.{line-parts}
use Rattle.listing_code.proofs.put_refusal.Goals as goal

number-listed : (why : Refusal) (n : ℕ) → (why ≡ Input n) ⊎ (why ≡ State n) → listing_of (refusal_of why) 0 0 [] ≡ refusal_line n
unfolding listing_of
number-listed why n (inl is) = rw is
number-listed why n (inr is) = rw is

pub returns : goal.returns
returns c = (rw (number-listed c.args.why c.in-Input.n c.in-Input.is) (rw (line-parts refused_word _) at c.put_entry.ensures.0), omega arith)
