-- What the functions that count promise: the sums that a pass goes through, by the lent part as it is, and what the part has between the passes. Inner
-- contracts cite this.
use Rattle.std.specs.Prelude.{ℕ, zero, suc, ◌+◌, ◌-◌, ◌*◌, ◌^◌, ◌≤◌, ◌<◌, List, ◌≡◌, Bool, true, cond, length, get_or, drop, leb, Option, Some, None}
use Rattle.system.specs.declared.System.{System}
use Rattle.system.specs.Values.{ceilings_of}
use Rattle.system.specs.Limits.{columns, keeps_limits}
use Rattle.loads.specs.Load.{fits_engine}
use Rattle.loads.specs.Column.{load_of}
use Rattle.partition.specs.Listing.{instances}
use Rattle.counting.specs.Counts.{greatest}
use Rattle.counting.specs.Tally.{sum_to, choose, bit, tally, stride_at, over_columns}

-- a power, where it does not pass 64 bits
abbrev pub power_of : ℕ → ℕ → Option ℕ
power_of base times = cond (leb (base ^ times) greatest) (Some (base ^ times)) None

abbrev pub total_of : System → Option ℕ
total_of y = power_of y.engines (instances (ceilings_of y))

-- the table of ways to choose: entry 64 × n + x
pub record Choices (ways : List ℕ) : Type 0 where
  pub long : length ways ≡ 4096
  pub entry : (n x : ℕ) → n < 64 → x < 64 → get_or ways (64 * n + x) 0 ≡ choose n x

-- what the new engine's load of column p adds at `column`: 1 where that load fits, times the number for the rest
abbrev pub held_ways : List ℕ → ℕ → ℕ → ℕ → ℕ
held_ways part half column p = get_or part (half + p) 0 * get_or part (column - p) 0

-- the sum over the counts of type 1, the others making up column p
unfoldable pub over_one : List ℕ → ℕ → ℕ → ℕ → ℕ → ℕ
over_one part half column first p = sum_to first (λ (j : ℕ). choose first j * held_ways part half column (p + j))

-- over the counts of type 2 as well, whose stride is given
unfoldable pub over_two : List ℕ → ℕ → ℕ → ℕ → ℕ → ℕ → ℕ → ℕ
over_two part half column first second stride p = sum_to second (λ (j : ℕ). choose second j * over_one part half column first (p + j * stride))

-- over the counts of the types at indices below t, by a list of strides
unfoldable pub over_by : List ℕ → List ℕ → ℕ → ℕ → (ℕ → ℕ) → ℕ
over_by strides x zero p s = s p
over_by strides x (suc t) p s = sum_to (get_or x t 0) (λ (j : ℕ). choose (get_or x t 0) j * over_by strides x t (p + j * get_or strides t 0) s)

-- how far that sum reaches past column p
unfoldable pub reach_by : List ℕ → List ℕ → ℕ → ℕ
reach_by strides x zero = 0
reach_by strides x (suc t) = reach_by strides x t + get_or x t 0 * get_or strides t 0

-- what a sum asks, whose farthest column is `far` and whose value is `sum`: it reads inside the part, and does not pass 64 bits
pub record SumIn (part ways : List ℕ) (half column far sum : ℕ) : Type 0 where
  pub chosen : Choices ways
  pub reach : far ≤ column
  pub inside : column < half
  pub halves : half + half ≤ length part
  pub small : sum ≤ greatest

-- what the sum over the types up to index t asks of the counts and the strides
pub record CountsIn (counts strides : List ℕ) (t : ℕ) : Type 0 where
  pub some : 2 ≤ t
  pub counted : t < length counts
  pub strided : t < length strides
  pub few : (i : ℕ) → i ≤ t → get_or counts i 0 < 64
  pub first : get_or strides 0 0 ≡ 1

-- the strides of a system's types
abbrev pub StridesOf : System → List ℕ → Type 0
StridesOf y strides = (t : ℕ) → t < 6 → get_or strides t 0 ≡ stride_at (ceilings_of y) t

-- what a pass finds for a column, by the part before it
abbrev pub passed_cell : System → List ℕ → ℕ → ℕ
passed_cell y part c = over_columns (ceilings_of y) (load_of (ceilings_of y) c) 6 0 (held_ways part (columns y) c)

-- what a pass asks: no cell passes 64 bits, and every count is one that the table of ways has
pub record PassIn (y : System) (half : ℕ) (part ways : List ℕ) : Type 0 where
  pub limits : keeps_limits y ≡ true
  pub all : half ≡ columns y
  pub halves : half + half ≤ length part
  pub chosen : Choices ways
  pub few : (t : ℕ) → get_or (ceilings_of y) t 0 < 64
  pub small : (c : ℕ) → c < columns y → passed_cell y part c ≤ greatest

-- what it leaves: the new number for each column, the second half and what is past it as they were
pub record Passed (y : System) (part after : List ℕ) : Type 0 where
  pub long : length after ≡ length part
  pub cells : (c : ℕ) → c < columns y → get_or after c 0 ≡ passed_cell y part c
  pub others : (k : ℕ) → columns y ≤ k → get_or after k 0 ≡ get_or part k 0

-- the part with the numbers for i engines: for each column the number of assignments of its load to them, and whether that load fits one
pub record RowOf (y : System) (i : ℕ) (part : List ℕ) : Type 0 where
  pub cells : (c : ℕ) → c < columns y → get_or part c 0 ≡ tally (fits_engine y) i (load_of (ceilings_of y) c)
  pub bits : (c : ℕ) → c < columns y → get_or part (columns y + c) 0 ≡ bit (fits_engine y (load_of (ceilings_of y) c))

-- the part is as long as it was, and past 2 × columns as it was
pub record Beyond (y : System) (part after : List ℕ) : Type 0 where
  pub long : length after ≡ length part
  pub past : drop (2 * columns y) after ≡ drop (2 * columns y) part

-- what a count asks
pub record CountIn (y : System) (half : ℕ) (part : List ℕ) : Type 0 where
  pub limits : keeps_limits y ≡ true
  pub all : half ≡ columns y
  pub halves : half + half ≤ length part
  pub small : y.engines ^ instances (ceilings_of y) ≤ greatest
