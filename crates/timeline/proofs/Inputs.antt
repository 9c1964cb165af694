-- What the program reads: the numbers stand before the file, and of the file the first 384 bytes decide.
use Prim.Native.Nat.{ℕ, ◌+◌, ◌*◌, ◌/◌, ◌%◌}
use mathlib.Core.Path.{◌≡◌, sym, ap}
use mathlib.Core.List.{List}
use native.Mathlib.Omega.{arith}
use lib.ListN.{take}
use Rattle.system.specs.Layout.{Reading}
use Rattle.system.proofs.Prefix.{read-prefix}
use Rattle.listing.specs.Text.{reading_verdict}
use Rattle.timeline.specs.Whole.{verdict_text, watch_text}
use Rattle.timeline.specs.Meaning.{WatchPromises, JoinedPromises, input_out}
use Rattle.timeline.proofs.Told.{tells-watch}

-- four bytes read back as the number
pub four-back : (n : ℕ) → ((n / 16777216) * 256 + n / 65536 % 256) * 65536 + ((n / 256 % 256) * 256 + n % 256) ≡ n
four-back n = omega arith

-- the first 384 bytes decide
pub watch-prefix : (file : List ℕ) (e ticks from : ℕ) → watch_text (take 384 file) e ticks from ≡ watch_text file e ticks from
watch-prefix file e ticks from = ap (λ (x : Reading). verdict_text (reading_verdict x) e ticks from) (read-prefix file)

-- what is promised of the first bytes of an input is promised of the whole
pub input-promised : {file joined old new : List ℕ} {e ticks from r : ℕ} → take 393 (input_out e ticks from file) ≡ joined → JoinedPromises joined old new r → WatchPromises file e ticks from old new r
input-promised {file = file} {e = e} {ticks = ticks} {from = from} is promises =
    let p = rw (sym is, four-back ticks, four-back from, watch-prefix file e ticks from) at promises.written in
    record { written = p; tells = tells-watch file e ticks from }
