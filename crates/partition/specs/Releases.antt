-- Request 2026-09, "Two releases on one card": what two loads need together against what each needs alone, and shared code against own copies of code.
-- The fewest engines of a load are its lowest yes row, with a row for each engine in service (`row_for`). `RowIsFewest` says over single instances that such a
-- row is the fewest engines,
-- and everything here is said twice: of the rows, and of partitions of single instances, into which no word of the table comes.
use Rattle.std.specs.Prelude.{ℕ, ◌+◌, ◌-◌, ◌≤◌, ◌<◌, List, true, cond, ◌≡◌, ◌↔◌, length, get_or, leb}
use Rattle.system.specs.declared.System.{System}
use Rattle.partition.specs.Assignment.{Assignment, among}
use Rattle.partition.specs.Shares.{distinct}
use Rattle.partition.specs.ForSystem.{row_for}
use Rattle.partition.specs.Plain.{type_no, ceiling_no, EngineOf, Partition, Impossible, used_to}

-- "the larger of the two"
abbrev pub larger : ℕ → ℕ → ℕ
larger a b = cond (leb a b) b a

-- "the fewest for both is at most that sum and at least the larger of the two"
pub record Bounds (first second both : ℕ) : Type 0 where
  pub at_most : both ≤ first + second
  pub at_least : larger first second ≤ both

-- "their fewest engines together are at most the engines in service", or on a card without marks its engines
abbrev pub TogetherAtMost : ℕ → ℕ → ℕ → Type 0
TogetherAtMost first second engines = first + second ≤ engines

-- "rule 1 never needs more engines than rule 0"
abbrev pub NoMore : ℕ → ℕ → Type 0
NoMore shared own = shared ≤ own

-- Engines and loads

-- the engines in service are engines of the system, none of them named twice; a file's are all of 1 to m
pub record Serving (y : System) (es : List ℕ) : Type 0 where
  pub once : distinct es ≡ true
  pub engines : (e : ℕ) → among es e ≡ true → EngineOf y e

-- e is one of them
abbrev pub On : List ℕ → ℕ → Type 0
On es e = among es e ≡ true

-- how many instances of type t, counted from 1, a load has
abbrev pub instances_in : List ℕ → ℕ → ℕ
instances_in x t = get_or x (t - 1) 0

-- a load of six counts, none above its ceiling
pub record Within (y : System) (x : List ℕ) : Type 0 where
  pub six : length x ≡ 6
  pub ceilings : (t : ℕ) → 1 ≤ t → instances_in x t ≤ ceiling_no y t

-- "two loads add up within the ceilings": the load `both` has the instances of a and of b
pub record AddsWithin (y : System) (a b both : List ℕ) : Type 0 where
  pub six : (length a ≡ 6) × (length b ≡ 6)
  pub sums : (t : ℕ) → 1 ≤ t → instances_in both t ≡ instances_in a t + instances_in b t
  pub inside : Within y both

-- The fewest engines, over single instances

-- count(t) instances of each type t can be partitioned among the engines so that r of these are used, and never so that fewer are
pub record Fewest (y : System) (E : ℕ → Type 0) (count : ℕ → ℕ) (r : ℕ) : Type 0 where
  pub mapping : Assignment
  pub partition : Partition y E count mapping
  pub uses : used_to y.engines mapping ≡ r
  pub least : (χ : Assignment) → Partition y E count χ → r ≤ used_to y.engines χ

-- the lowest yes row of a load, where there is one, is the fewest engines, and nothing else is; there is none exactly where no partition exists
pub record RowIsFewest (y : System) (es : List ℕ) : Type 0 where
  pub fewest : (x : List ℕ) → Within y x → row_for y es x ≤ length es → Fewest y (On es) (instances_in x) (row_for y es x)
  pub only : (x : List ℕ) (r : ℕ) → Within y x → Fewest y (On es) (instances_in x) r → row_for y es x ≡ r
  pub none : (x : List ℕ) → Within y x → (length es < row_for y es x) ↔ Impossible y (On es) (instances_in x)

-- Two releases

-- "where two loads add up within the ceilings and their fewest engines together are at most the engines in service"
pub record TwoReleases (y : System) (es : List ℕ) : Type 0 where
  pub rows : (a b both : List ℕ) → AddsWithin y a b both → TogetherAtMost (row_for y es a) (row_for y es b) (length es)
      → Bounds (row_for y es a) (row_for y es b) (row_for y es both)
  pub plainly : (a b both : List ℕ) (first second : ℕ) → AddsWithin y a b both → Fewest y (On es) (instances_in a) first
      → Fewest y (On es) (instances_in b) second → TogetherAtMost first second (length es)
      → (together : ℕ) × Fewest y (On es) (instances_in both) together × Bounds first second together

-- two systems that differ in their n, and perhaps in their C and T, which no plan asks
pub record SameButCeilings (y z : System) : Type 0 where
  pub engines : z.engines ≡ y.engines
  pub rule : z.rule ≡ y.rule
  pub timecap : z.timecap ≡ y.timecap
  pub memorycap : z.memorycap ≡ y.memorycap
  pub typecount : z.typecount ≡ y.typecount
  pub times : (t : ℕ) → 1 ≤ t → (type_no z t).time ≡ (type_no y t).time
  pub codes : (t : ℕ) → 1 ≤ t → (type_no z t).memory ≡ (type_no y t).memory
  pub datas : (t : ℕ) → 1 ≤ t → (type_no z t).data ≡ (type_no y t).data
  pub mosts : (t : ℕ) → 1 ≤ t → (type_no z t).most ≡ (type_no y t).most
  pub theres : (t : ℕ) → 1 ≤ t → (type_no z t).there ≡ (type_no y t).there
  pub second : z.second ≡ y.second

-- the systems of two releases and of both: no plan sees them differ but in their n, and n of both is the sum
pub record BothReleases (first second both : System) : Type 0 where
  pub alike_first : SameButCeilings both first
  pub alike_second : SameButCeilings both second
  pub sums : (t : ℕ) → 1 ≤ t → ceiling_no both t ≡ ceiling_no first t + ceiling_no second t

-- so the numbers of two sheets: all n(t) instances of each, on all the engines of the card
abbrev pub SheetsAdd : System → System → System → Type 0
SheetsAdd first second both =
    (a b : ℕ) → Fewest first (EngineOf first) (ceiling_no first) a → Fewest second (EngineOf second) (ceiling_no second) b → TogetherAtMost a b both.engines
    → (c : ℕ) × Fewest both (EngineOf both) (ceiling_no both) c × Bounds a b c

-- The two rules

-- two systems that differ in their rule alone, own copies and shared code
pub record SameButRule (own shared : System) : Type 0 where
  pub own_copies : own.rule ≡ 0
  pub shared_code : shared.rule ≡ 1
  pub engines : shared.engines ≡ own.engines
  pub timecap : shared.timecap ≡ own.timecap
  pub memorycap : shared.memorycap ≡ own.memorycap
  pub typecount : shared.typecount ≡ own.typecount
  pub types : shared.types ≡ own.types
  pub second : shared.second ≡ own.second

-- no load's row is higher; every partition under rule 0, of however many instances, is one under rule 1;
-- and where a load has its fewest engines under rule 0, it has them under rule 1, and they are no more
pub record SharedNoMore (own shared : System) (es : List ℕ) : Type 0 where
  pub rows : (x : List ℕ) → Within own x → NoMore (row_for shared es x) (row_for own es x)
  pub feasible : (count : ℕ → ℕ) (χ : Assignment) → Partition own (On es) count χ → Partition shared (On es) count χ
  pub plainly : (x : List ℕ) (r : ℕ) → Within own x → Fewest own (On es) (instances_in x) r
      → (fewer : ℕ) × Fewest shared (On es) (instances_in x) fewer × NoMore fewer r

-- so the numbers of two sheets of the same card and instances, under either rule
abbrev pub SheetsShare : System → System → Type 0
SheetsShare own shared =
    (a : ℕ) → Fewest own (EngineOf own) (ceiling_no own) a → (c : ℕ) × Fewest shared (EngineOf shared) (ceiling_no shared) c × NoMore c a
