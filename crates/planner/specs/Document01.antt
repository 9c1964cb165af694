-- Request 2026-10: "For every system that was accepted before, plans .. and refusals but 11 are equal to the old table's". A plan read in document 01's own
-- table of m+1 rows.
use Rattle.std.specs.Prelude.{ℕ, List, [], ◌∷◌, ◌≡◌, ◌↔◌}
use Rattle.system.specs.declared.System.{System}
use Rattle.system.specs.Outcome.{Outcome, accepted, refused, from_input}
use Rattle.partition.specs.Plain.{ceiling_no}
use Rattle.table.specs.Document01.{filled01, NoRow01, Recovered01}

-- a plan, where what is lent is long enough, is the one that its table gives: 12 exactly if no row says yes for n(1), .., n(k), else a plan, which is the
-- recovery read in it. `row e t` is what engine e gets of type t
pub record PlanBy01 (y : System) (table01 : List ℕ) (outcome : Outcome) (row : ℕ → ℕ → ℕ) : Type 0 where
  pub none : (outcome ≡ refused from_input 12) ↔ NoRow01 y y.engines table01 (ceiling_no y)
  pub some : (NoRow01 y y.engines table01 (ceiling_no y) → ⊥) → (used : ℕ) × (outcome ≡ accepted (used ∷ []))
  pub given : (used : ℕ) → outcome ≡ accepted (used ∷ []) → Recovered01 y (filled01 y y.engines table01) used (ceiling_no y) row
