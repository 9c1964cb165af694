-- What the call that counts promises, in plain words: both numbers are lengths of listings, of good assignments and of all.
use Rattle.std.specs.Prelude.{ℕ, ◌+◌, ◌*◌, ◌^◌, ◌≤◌, ◌<◌, List, [], ◌∷◌, ◌≡◌, ◌↔◌, length, get_or, Result, Ok, Err}
use Rattle.system.specs.declared.Refusal.{Refusal}
use Rattle.counting.specs.declared.Counts.{Counts}
use Rattle.system.specs.declared.System.{System}
use Rattle.system.specs.Layout.{Reading, opened, unread}
use Rattle.system.specs.Outcome.{Outcome, Source, accepted, refused, from_input, refusal_of}
use Rattle.partition.specs.Assignment.{Assignment}
use Rattle.partition.specs.Plain.{ceiling_no, columns_out, EngineOf, places_no, Partition}
use Rattle.counting.specs.Counts.{count_outcome}

-- a list has every assignment that is meant exactly once, and no other
pub record ListsOnce (Meant : Assignment → Type 0) (list : List Assignment) : Type 0 where
  pub only : (i : ℕ) → i < length list → Meant (get_or list i [])
  pub all : (χ : Assignment) → Meant χ → (i : ℕ) × (i < length list) × (get_or list i [] ≡ χ)
  pub once : (i j : ℕ) → i < length list → j < length list → get_or list i [] ≡ get_or list j [] → i ≡ j

-- χ sends each of the n(t) instances of each type to one of the engines 1 to m, whether or not it fits there
pub record SendsAll (y : System) (χ : Assignment) : Type 0 where
  pub six : length χ ≡ 6
  pub each : (t : ℕ) → 1 ≤ t → length (places_no χ t) ≡ ceiling_no y t
  pub engines : (t i : ℕ) → 1 ≤ t → i < ceiling_no y t → EngineOf y (get_or (places_no χ t) i 0)

-- N, the instances of all six types
abbrev pub instances_out : System → ℕ
instances_out y = ceiling_no y 1 + (ceiling_no y 2 + (ceiling_no y 3 + (ceiling_no y 4 + (ceiling_no y 5 + ceiling_no y 6))))

-- "the number of good assignments and the total of all, engines and instances being distinct": each is the length of a listing
pub record CountMeans (y : System) (good total : ℕ) : Type 0 where
  pub good_ones : List Assignment
  pub good_listed : ListsOnce (Partition y (EngineOf y) (ceiling_no y)) good_ones
  pub good_is : good ≡ length good_ones
  pub all_ones : List Assignment
  pub all_listed : ListsOnce (SendsAll y) all_ones
  pub total_is : total ≡ length all_ones
  -- "With N instances on m engines the total is m to the power N; N = 0 gives 1 of 1"
  pub power : total ≡ y.engines ^ instances_out y
  pub nothing : instances_out y ≡ 0 → (good ≡ 1) × (total ≡ 1)

-- the answer in document 01's words
abbrev pub counted_outcome : Result Counts Refusal → Outcome
counted_outcome (Ok c) = accepted (c.good ∷ c.total ∷ [])
counted_outcome (Err r) = refusal_of r

-- what the call promises of its answer and of the part that it was lent: "37, when the total passes 2^64 - 1; 38, when the lent part of 64-bit numbers has
-- fewer than 2 × columns entries; in this order, after 10"
pub record CountPromises (x : Reading) (part : List ℕ) (r : Result Counts Refusal) (after : List ℕ) : Type 0 where
  pub answers : counted_outcome r ≡ count_outcome x (length part)
  pub file_first : (n : ℕ) → x ≡ unread n → counted_outcome r ≡ refused from_input n
  pub then_total : (y : System) → x ≡ opened y → (counted_outcome r ≡ refused from_input 37) ↔ (18446744073709551615 < y.engines ^ instances_out y)
  pub then_part : (y : System) → x ≡ opened y → y.engines ^ instances_out y ≤ 18446744073709551615
      → (counted_outcome r ≡ refused from_input 38) ↔ (length part < 2 * columns_out y)
  pub else : (y : System) → x ≡ opened y → y.engines ^ instances_out y ≤ 18446744073709551615 → 2 * columns_out y ≤ length part
      → (good total : ℕ) × (counted_outcome r ≡ accepted (good ∷ total ∷ []))
  pub counts : (y : System) (good total : ℕ) → x ≡ opened y → counted_outcome r ≡ accepted (good ∷ total ∷ []) → CountMeans y good total
  pub as_lent : (s : Source) (n : ℕ) → counted_outcome r ≡ refused s n → after ≡ part
  -- "Unless refused, that part's first 2 × columns entries are free afterwards": every other entry is as it was
  pub as_long : length after ≡ length part
  pub past : (y : System) (i : ℕ) → x ≡ opened y → 2 * columns_out y ≤ i → get_or after i 0 ≡ get_or part i 0
