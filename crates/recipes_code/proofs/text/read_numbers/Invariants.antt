-- The loop's invariant: the bytes that are left lead from what was read so far to what the whole text comes to.
use mathlib.Core.Path.{◌≡◌}
use lib.ListN.{drop}
use Rattle.recipes.specs.Digits.{begun, read_from}
use Rattle.recipes_code.proofs.text.read_numbers.Given as goal

abbrev pub invariant-loop-byte : goal.invariant-loop-byte
invariant-loop-byte l = read_from l.p (drop l.byte-index l.text) ≡ read_from begun l.text
