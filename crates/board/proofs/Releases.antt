-- Request 2026-09 holds of every true board and its engines in service.
use Rattle.system.proofs.Laws.{Limits, limits_of}
use Rattle.partition.proofs.Plain.{limits-out}
use Rattle.partition.proofs.Releases.{row_within, releases-within}
use Rattle.partition.specs.Releases.{Serving}
use Rattle.board.specs.declared.Board.{Board}
use Rattle.board.specs.Boards.{engines_of}
use Rattle.board.specs.Words.{IsTrue}
use Rattle.board.specs.Releases.{BoardReleases}
use Rattle.board.proofs.Places.{engines-distinct, engine-of, engines-in, engines-number}

pub board-releases : (b : Board) → IsTrue b → BoardReleases b
board-releases b t = record {
  serving = served;
  exactly = engines-in b;
  number = engines-number b;
  rows = row_within b.system limits (engines_of b) served;
  together = releases-within b.system limits (engines_of b) served;
}
  where
    served : Serving b.system (engines_of b)
    served = record { once = engines-distinct b; engines = engine-of b }

    limits : Limits b.system
    limits = limits_of b.system ((limits-out b.system).1 t.limits)
