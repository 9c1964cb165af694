-- Request 2026-09 for purchasing: the number that a plan answers, of two releases and of both, and of the same file under either rule, this of one kind of
-- engine and of two (request 2026-13).
-- It is said of whatever was answered and keeps demand 2, so of both plan calls, with whatever table and list long enough each was lent.
use Rattle.std.specs.Prelude.{ℕ, ◌≤◌, List, [], ◌∷◌, ◌≡◌, Some}
use Rattle.system.specs.declared.Kind.{Kind}
use Rattle.system.specs.declared.System.{System}
use Rattle.system.specs.Layout.{read_card, read_file, opened}
use Rattle.system.specs.Outcome.{Outcome, accepted}
use Rattle.loads.specs.declared.EngineLoad.{EngineLoad}
use Rattle.partition.specs.Assignment.{Assignment}
use Rattle.partition.specs.Lent.{Lent}
use Rattle.partition.specs.Plain.{ceiling_no, LongEnough, EngineOf}
use Rattle.partition.specs.PlainKinds.{MixedPartition, MixedOnFewest}
use Rattle.partition.specs.Releases.{Bounds, TogetherAtMost, NoMore, BothReleases, Fewest, SameButRule}
use Rattle.planner.specs.Demands.{Demand2, Decides}

-- `outcome` is what a plan of the file answered, table and list being long enough
pub record Asked (file : List ℕ) (y : System) (outcome : Outcome) : Type 0 where
  pub table : Lent
  pub room : ℕ
  pub loads : List EngineLoad
  pub reads : read_file file ≡ opened y
  pub table_long : LongEnough y table
  pub list_long : y.engines ≤ room
  pub keeps : Demand2 (read_file file) table room outcome loads

-- the same with no word of its loads: as demand 2 has it of the answer alone, and the number of engines that it answers is the fewest. It follows from `Asked`
pub record AskedAny (file : List ℕ) (y : System) (outcome : Outcome) : Type 0 where
  pub table : Lent
  pub room : ℕ
  pub reads : read_file file ≡ opened y
  pub table_long : LongEnough y table
  pub list_long : y.engines ≤ room
  pub decides : Decides (read_file file) table room outcome
  pub fewest : (used : ℕ) → outcome ≡ accepted (used ∷ []) → Fewest y (EngineOf y) (ceiling_no y) used

-- two files that differ in their n, and perhaps in their C and T, and a third with the sums of n: where the plans of the two use a and b engines, and a + b
-- is at most m, the third has a plan, within the bounds
abbrev pub PlansAdd : (first second both : System) (one two three : Outcome) → Type 0
PlansAdd first second both one two three =
    (a b : ℕ) → BothReleases first second both → one ≡ accepted (a ∷ []) → two ≡ accepted (b ∷ []) → TogetherAtMost a b both.engines
    → (c : ℕ) × (three ≡ accepted (c ∷ [])) × Bounds a b c

-- `outcome` is what a plan of a card with two kinds of engine answered, table and list being long enough: a plan where there is a partition among the engines
-- of both kinds, and it is on the fewest of them
pub record AskedMixed (file : List ℕ) (y : System) (k : Kind) (outcome : Outcome) : Type 0 where
  pub reads : read_card file ≡ opened y
  pub second : y.second ≡ Some k
  pub answered : (χ : Assignment) → MixedPartition y k (ceiling_no y) χ → (used : ℕ) × (outcome ≡ accepted (used ∷ []))
  pub given : (used : ℕ) → outcome ≡ accepted (used ∷ []) → (numbers : List ℕ) × (loads : List EngineLoad) × MixedOnFewest y k (ceiling_no y) numbers loads used

-- two files that differ in the rule byte alone, of one kind of engine or two: where there is a plan under rule 0, there is one under rule 1, on no more engines
abbrev pub PlansShare : (own shared : System) (one two : Outcome) → Type 0
PlansShare own shared one two =
    (a : ℕ) → SameButRule own shared → one ≡ accepted (a ∷ []) → (c : ℕ) × (two ≡ accepted (c ∷ [])) × NoMore c a
