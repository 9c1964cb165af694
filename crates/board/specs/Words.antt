-- The plain words in which the meaning of the calls and demand 3 speak of a board: counts, totals, sums, fit, room, and the engines that are used.
-- As with partition/specs/Plain, of the parts of a contract by which code is described none cites them (the promises beside those parts are made of them),
-- but for `IsTrue`,
-- by `true_board`; and of the words that such a part cites they go through those alone that Plain goes through, and through those of `IsRecovery`, which
-- `RecoveredOn` says once
-- more in the table that is left. Laws say that the code's words mean the same.
use Rattle.std.specs.Prelude.{ℕ, zero, suc, ◌+◌, ◌-◌, ◌*◌, ◌≤◌, ◌<◌, List, [], ◌∷◌, Bool, true, false, cond, ◌&&◌, ◌≡◌, length, get_or, eqb, Some}
use Rattle.system.specs.declared.System.{System}
use Rattle.loads.specs.declared.EngineLoad.{EngineLoad}
use Rattle.partition.specs.Assignment.{Assignment, engines_to}
use Rattle.partition.specs.ForSystem.{rows_for}
use Rattle.partition.specs.Lent.{Lent}
use Rattle.partition.specs.Plain.{type_no, ceiling_no, LimitsOut, Partition, Impossible, record_no, HoldsNothing, StandsOnFewest}
use Rattle.table.specs.Meaning.{RecoveredBy}
use Rattle.board.specs.declared.Board.{Board}

-- Counts, type numbers and engine numbers from 1

-- how many instances of type t a record has
abbrev pub count_no : EngineLoad → ℕ → ℕ
count_no l t = get_or l.counts (t - 1) 0

-- how many engine e of the board has
abbrev pub count_at : Board → ℕ → ℕ → ℕ
count_at b e t = count_no (record_no b.loads e) t

-- how many of type t there are on all the records together
unfoldable pub total_no : ℕ → List EngineLoad → ℕ
total_no t [] = 0
total_no t (l ∷ ls) = count_no l t + total_no t ls

-- what stands: for each type, the sum over the engines
abbrev pub stands_no : Board → ℕ → ℕ
stands_no b t = total_no t b.loads

-- as many of each type, and one more of type t
abbrev pub plus_one : ℕ → (ℕ → ℕ) → ℕ → ℕ
plus_one t count u = count u + cond (eqb u t) 1 0

-- Time, memory and fit: document 01's "Words" with the memory of request 2026-03, over the six types, of which those past k are 0

abbrev pub sum_six : (ℕ → ℕ) → ℕ
sum_six f = f 1 + (f 2 + (f 3 + (f 4 + (f 5 + f 6))))

-- "Its time is the sum of count × u(t)"
abbrev pub time_out : System → (ℕ → ℕ) → ℕ
time_out y count = sum_six (λ (t : ℕ). count t * (type_no y t).time)

-- "c × (s + d) under rule 0", summed over the types
abbrev pub own_out : System → (ℕ → ℕ) → ℕ
own_out y count = sum_six (λ (t : ℕ). count t * ((type_no y t).memory + (type_no y t).data))

-- "s + c × d under rule 1", summed over the types whose count is not 0
abbrev pub shared_out : System → (ℕ → ℕ) → ℕ
shared_out y count = sum_six (λ (t : ℕ). cond (eqb (count t) 0) 0 ((type_no y t).memory + count t * (type_no y t).data))

-- "A load fits an engine if its time is at most U and its memory at most S"; "A load fits only if it keeps q too" (request 2026-04)
pub record FitsOut (y : System) (count : ℕ → ℕ) : Type 0 where
  pub time : time_out y count ≤ y.timecap
  pub own_copies : y.rule ≡ 0 → own_out y count ≤ y.memorycap
  pub shared_code : y.rule ≡ 1 → shared_out y count ≤ y.memorycap
  pub separate : (t q : ℕ) → 1 ≤ t → (type_no y t).most ≡ Some q → count t ≤ q

-- the stored time and memory of a record are the sums of its own counts
pub record SumsOut (y : System) (l : EngineLoad) : Type 0 where
  pub time : l.time ≡ time_out y (count_no l)
  pub own_copies : y.rule ≡ 0 → l.memory ≡ own_out y (count_no l)
  pub shared_code : y.rule ≡ 1 → l.memory ≡ shared_out y (count_no l)

-- how many of the records hold an instance, even one with u = s = 0
unfoldable pub used_records : List EngineLoad → ℕ
used_records [] = 0
used_records (l ∷ ls) = cond (eqb (sum_six (count_no l)) 0) 0 1 + used_records ls

-- Numbers in range

-- t is a type number, 1 to k; e an engine number, 1 to m
abbrev pub IsType : Board → ℕ → Type 0
IsType b t = (1 ≤ t) × (t ≤ b.system.typecount)

abbrev pub IsEngine : Board → ℕ → Type 0
IsEngine b e = (1 ≤ e) × (e ≤ b.system.engines)

-- Engines out of service: request 2026-07

-- engine e has a mark
abbrev pub mark_no : Board → ℕ → Bool
mark_no b e = get_or b.marks (e - 1) false

-- "the engines in service", which instances may be on: those of 1 to m without a mark
pub record EngineIn (b : Board) (e : ℕ) : Type 0 where
  pub is_engine : IsEngine b e
  pub in_service : mark_no b e ≡ false

-- how many of the engines 1 to e are in service. An engine in service is the so-many-th of them, "rising"
unfoldable pub serving_to : Board → ℕ → ℕ
serving_to b zero = 0
serving_to b (suc e) = serving_to b e + cond (mark_no b (suc e)) 0 1

-- how many there are: the rows past row 0 that a table is filled for
abbrev pub serving_all : Board → ℕ
serving_all b = serving_to b b.system.engines

-- The words of demand 3

-- engine e holds an instance of type t
pub record HoldsType (b : Board) (t e : ℕ) : Type 0 where
  pub is_type : IsType b t
  pub is_engine : IsEngine b e
  pub some : 1 ≤ count_at b e t

-- "A type is below its ceiling while fewer than n(t) of it stand"
pub record BelowCeiling (b : Board) (t : ℕ) : Type 0 where
  pub is_type : IsType b t
  pub fewer : stands_no b t < ceiling_no b.system t

-- "An engine takes a newcomer if its load with it fits"
pub record TakesType (b : Board) (t e : ℕ) : Type 0 where
  pub engine : EngineIn b e
  pub fit : FitsOut b.system (plus_one t (count_at b e))

-- the standing instances and the newcomer can be partitioned among the engines, by source 001, Definition 1; and they cannot
abbrev pub Room : Board → ℕ → Type 0
Room b t = (χ : Assignment) × Partition b.system (EngineIn b) (plus_one t (stands_no b)) χ

abbrev pub NoRoom : Board → ℕ → Type 0
NoRoom b t = Impossible b.system (EngineIn b) (plus_one t (stands_no b))

-- the board after has one instance of type t more on engine e than b, and is otherwise the same
pub record OneMoreOn (b : Board) (t e : ℕ) (after : Board) : Type 0 where
  pub system : after.system ≡ b.system
  pub marks : after.marks ≡ b.marks
  pub counts : (d u : ℕ) → 1 ≤ d → 1 ≤ u → count_at after d u ≡ count_at b d u + cond (eqb d e && eqb u t) 1 0

-- the board after has the mark of engine e set, or taken away, and is otherwise the same
pub record MarkOn (b : Board) (e : ℕ) (mark : Bool) (after : Board) : Type 0 where
  pub system : after.system ≡ b.system
  pub loads : after.loads ≡ b.loads
  pub marks : (d : ℕ) → 1 ≤ d → mark_no after d ≡ cond (eqb d e) mark (mark_no b d)

-- the stored memory of engine e
abbrev pub memory_no : Board → ℕ → ℕ
memory_no b e = (record_no b.loads e).memory

-- what an instance of type t gives back of engine e's memory when it leaves. Request 2026-03: "a retire under rule 1 always frees d", and 01: s with the last
-- of its type
pub record Frees (b : Board) (t e : ℕ) (after : Board) : Type 0 where
  pub own_copies : b.system.rule ≡ 0 → memory_no after e + ((type_no b.system t).memory + (type_no b.system t).data) ≡ memory_no b e
  pub shared_code : b.system.rule ≡ 1 → 1 ≤ count_at after e t → memory_no after e + (type_no b.system t).data ≡ memory_no b e
  pub last_shared : b.system.rule ≡ 1 → count_at after e t ≡ 0 → memory_no after e + ((type_no b.system t).memory + (type_no b.system t).data) ≡ memory_no b e

-- The truth of a board

-- the row of refusal 20: a board is true where none of it is so. That there are sixteen engines with six counts and a mark each is what arrays of the code
-- always have
pub record IsTrue (b : Board) : Type 0 where
  pub sixteen : length b.loads ≡ 16
  pub sixteen_marks : length b.marks ≡ 16
  pub six : (e : ℕ) → 1 ≤ e → e ≤ 16 → length (record_no b.loads e).counts ≡ 6
  -- "its system breaks a limit", "the system's own u, s and n too", d and q; and it has one kind of engine (request 2026-13)
  pub limits : LimitsOut b.system
  -- "an entry for an engine past m or a type past k is not 0"
  pub past_engines : (e : ℕ) → b.system.engines < e → HoldsNothing (record_no b.loads e)
  pub past_types : (e t : ℕ) → b.system.typecount < t → count_at b e t ≡ 0
  pub past_marks : (e : ℕ) → b.system.engines < e → mark_no b e ≡ false
  -- "a type's standing total passes its ceiling"
  pub ceilings : (t : ℕ) → 1 ≤ t → stands_no b t ≤ ceiling_no b.system t
  -- "stored sums differ from the load, or a load doesn't fit"
  pub sums : (e : ℕ) → IsEngine b e → SumsOut b.system (record_no b.loads e)
  pub fit : (e : ℕ) → IsEngine b e → FitsOut b.system (count_at b e)
  -- "A withdrawn engine holds nothing, which refusal 20 now tests as well"
  pub withdrawn : (e : ℕ) → 1 ≤ e → mark_no b e ≡ true → HoldsNothing (record_no b.loads e)

-- The recovery on a board

-- the load of six counts
abbrev pub load_out : (ℕ → ℕ) → List ℕ
load_out count = count 1 ∷ count 2 ∷ count 3 ∷ count 4 ∷ count 5 ∷ count 6 ∷ []

-- the i-th engine in service holds row i of document 01's recovery of count(t) instances of each type, which has a row for each of them; "Engines past i hold
-- nothing",
-- and that a withdrawn engine and one past m hold nothing is a part of the board's truth
abbrev pub IsRecovery : Board → (ℕ → ℕ) → Board → Type 0
IsRecovery b count after =
    (e t : ℕ) → EngineIn b e → 1 ≤ t → count_at after e t ≡ get_or (get_or (rows_for b.system (engines_to (serving_all b)) (load_out count)) (serving_to b e - 1) []) (t - 1) 0

-- the same read in the table that the call leaves, in plain words: the i-th engine in service has row i (table/specs/Meaning)
pub record RecoveredOn (b : Board) (table : Lent) (count : ℕ → ℕ) (after : Board) : Type 0 where
  pub row : ℕ → ℕ → ℕ
  pub reads : RecoveredBy b.system table (used_records after.loads) count row
  pub holds : (e t : ℕ) → EngineIn b e → 1 ≤ t → count_at after e t ≡ row (serving_to b e) t

-- the board after is a true board of count(t) instances of each type on the fewest engines, by the recovery
pub record Packed (b : Board) (count : ℕ → ℕ) (after : Board) : Type 0 where
  pub is_true : IsTrue after
  pub system : after.system ≡ b.system
  pub marks : after.marks ≡ b.marks
  pub stands : (t : ℕ) → 1 ≤ t → stands_no after t ≡ count t
  pub fewest : StandsOnFewest b.system (EngineIn b) count after.loads (used_records after.loads)
  pub recovery : IsRecovery b count after

-- a fresh board of the system y: it carries that system, with its m engines, nothing stands on any, and no mark is set
pub record IsFresh (y : System) (b : Board) : Type 0 where
  pub system : b.system ≡ y
  pub sixteen : length b.loads ≡ 16
  pub nothing : (e : ℕ) → HoldsNothing (record_no b.loads e)
  pub sixteen_marks : length b.marks ≡ 16
  pub no_mark : (e : ℕ) → mark_no b e ≡ false
