-- `listing_of`: the parts of its own table are long enough for every system, so the listing over it is the file's text (`text-promised`).
use Prim.Native.Nat.{ℕ, ◌≤◌}
use mathlib.Core.List.{List}
use native.Mathlib.Omega.{arith}
use lib.ListN.{length, replicate, length-replicate}
use Rattle.listing.proofs.Text.{text-promised}
use Rattle.listing_code.proofs.listing_of.Goals as goal

-- each of them
abbrev part : List ℕ
part = replicate 4096 0

long : 4096 ≤ length part
long = omega (arith, length-replicate {A = ℕ} 4096 0)

pub returns : goal.returns
returns c = text-promised (long, long) c.listing.ensures
