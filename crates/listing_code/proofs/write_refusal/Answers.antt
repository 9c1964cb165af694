-- `write_refusal`: what was put at place 0 is written at the start; the line is that of the number, from whichever list.
use mathlib.Core.Path.{◌≡◌, refl}
use mathlib.Core.List.{[]}
use native.Mathlib.Omega.{arith}
use Rattle.system.specs.declared.Refusal.{Refusal}
use Rattle.system.specs.declared.Refusal.TheVariants.{Input, State}
use Rattle.system.specs.Outcome.{refusal_of}
use Rattle.buffer.proofs.Laws.{written}
use Rattle.listing.specs.Listing.{refusal_line, listing_of}
use Rattle.listing.specs.Demands.{number_of}
use Rattle.listing.proofs.Lines.{number-told}
use Rattle.listing_code.proofs.write_refusal.Goals as goal

line_of : (why : Refusal) → listing_of (refusal_of why) 0 0 [] ≡ refusal_line (number_of why)
unfolding listing_of
line_of (Input n) = refl
line_of (State n) = refl

pub returns : goal.returns
returns c =
    let why = c.args.why in
    record {
      written = rw (line_of why) at (written (omega arith) c.put_refusal.auto.out c.put_refusal.ensures.0);
      tells = number-told (number_of why);
    }
