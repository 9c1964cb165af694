-- `put_number`: what `io::decimal` spells is the number's decimal, and has at most 20 digits.
use Prim.Native.Nat.{◌≤◌}
use mathlib.Core.Path.{◌≡◌, ◌∙◌}
use native.Mathlib.Omega.{arith}
use lib.ListN.{take}
use Rattle.listing.specs.Listing.{decimal}
use Rattle.listing.specs.Room.{number_room}
use Rattle.listing_code.proofs.Digits.{decimal-digits, decimal-short}
use Rattle.listing_code.proofs.put_number.Goals as goal

pub put_bytes-requires : goal.put_bytes-requires
put_bytes-requires c =
    let short : c.decimal-k.result ≤ number_room = decimal-short c.decimal-k.result c.args.n c.decimal-k.ensures.len c.ranges.n.fits in
    omega arith

pub returns : goal.returns
returns c =
    let k = c.decimal-k.result in
    let short : k ≤ number_room = decimal-short k c.args.n c.decimal-k.ensures.len c.ranges.n.fits in
    let spelt : take k c.decimal-k.new.out ≡ decimal c.args.n = c.decimal-k.ensures.digits ∙ decimal-digits k c.args.n c.decimal-k.ensures.len in
    (rw spelt at c.put_bytes.ensures, omega arith)
