-- `reader::card_of` meets its contract. The loop's invariant: what is left of the file from the cursor on reads as the whole file does.
use Prim.Native.Nat.{◌-◌}
use lib.ListN.{length}
use Rattle.system_code.proofs.Goes.{Reached}
use Rattle.system_code.proofs.reader.card_of.Given as goal

abbrev pub invariant-loop-c : goal.invariant-loop-c
invariant-loop-c l = Reached l.file l.c.at l.last l.y

abbrev pub decreases-loop-c : goal.decreases-loop-c
decreases-loop-c l = length l.file - l.c.at
