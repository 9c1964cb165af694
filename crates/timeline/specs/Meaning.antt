-- What a reader finds in the text that program `watch` writes, in the words of deadlines/specs/Meaning: who runs in each tick is that of the schedule which
-- the rule makes.
-- The bytes stand here a second time, apart from those by which the code is described.
use Rattle.std.specs.Prelude.{ℕ, zero, suc, ◌+◌, ◌-◌, ◌/◌, ◌%◌, ◌≤◌, ◌<◌, min, List, [], ◌∷◌, ◌++◌, cond, ◌≡◌, ◌↔◌, ◌⊎◌, length, get_or, take, drop, eqb, Option, None, Some}
use Rattle.system.specs.declared.Cycle.{Cycle}
use Rattle.buffer.specs.Written.{Counts, Written}
use Rattle.system.specs.declared.System.{System}
use Rattle.system.specs.Layout.{read_file, opened, unread, word4}
use Rattle.loads.specs.declared.EngineLoad.{EngineLoad}
use Rattle.partition.specs.Assignment.{Assignment}
use Rattle.partition.specs.Lent.{Lent}
use Rattle.partition.specs.Plain.{type_no, ceiling_no, LongEnough, EngineOf, Partition, Impossible, record_no, HoldsNothing, StandsOnFewest}
use Rattle.planner.specs.declared.Plan.{Plan}
use Rattle.planner.specs.Demands.{PlanPromises}
use Rattle.listing.specs.Demands.{InDecimal, TellsRefusal, each_to, engine_text, plan_text}
use Rattle.listing.specs.Text.{TextPromises}
use Rattle.deadlines.specs.Meaning.{Schedule, idle_for, count_no, TickIs, MissedAt, NoPace, TooMuch}
use Rattle.timeline.specs.Whole.{watch_text}

-- The bytes; `spelt` writes a number

-- T of type t
abbrev pub of_pace : Option Cycle → ℕ
of_pace None = 0
of_pace (Some c) = c.period

abbrev pub period_no : System → ℕ → ℕ
period_no y t = of_pace (type_no y t).pace

-- instance i of type t: ` arrive 1.2 due 4` in each tick that T divides, "each due at the next arrival", and nothing in any other
abbrev pub arrival_out : (ℕ → List ℕ) → System → ℕ → ℕ → ℕ → List ℕ
arrival_out spelt y τ t i =
    cond (eqb (τ % period_no y t) 0)
    (32 ∷ 97 ∷ 114 ∷ 114 ∷ 105 ∷ 118 ∷ 101 ∷ 32 ∷ (spelt t ++ (46 ∷ (spelt i ++ (32 ∷ 100 ∷ 117 ∷ 101 ∷ 32 ∷ spelt (τ + period_no y t))))))
    []

-- those of each of the six types, and of each instance of it on the engine, in this order
abbrev pub arrivals_out : (ℕ → List ℕ) → System → List ℕ → ℕ → List ℕ
arrivals_out spelt y counts τ = each_to (λ (t : ℕ). each_to (arrival_out spelt y τ t) (count_no counts t)) 6

-- who runs, instance i of type t: ` run 1.2`; ` idle` for type 0
abbrev pub runner_out : (ℕ → List ℕ) → ℕ → ℕ → List ℕ
runner_out spelt t i = cond (eqb t 0) (32 ∷ 105 ∷ 100 ∷ 108 ∷ 101 ∷ []) (32 ∷ 114 ∷ 117 ∷ 110 ∷ 32 ∷ (spelt t ++ (46 ∷ spelt i)))

-- the line of tick τ: `tick 0 arrive 1.1 due 4 arrive 2.1 due 6 run 1.1`
abbrev pub tick_out : (ℕ → List ℕ) → System → List ℕ → Schedule → ℕ → List ℕ
tick_out spelt y counts σ τ = 116 ∷ 105 ∷ 99 ∷ 107 ∷ 32 ∷ (spelt τ ++ (arrivals_out spelt y counts τ ++ (runner_out spelt (σ.kind τ) (σ.instance τ) ++ (10 ∷ []))))

-- the lines of n ticks, from `from` on
unfoldable pub ticks_out : (ℕ → List ℕ) → ℕ → ℕ → List ℕ
ticks_out line_of from zero = []
ticks_out line_of from (suc n) = line_of from ++ ticks_out line_of (from + 1) n

-- `of 24 ticks 6 idle, none missed`
abbrev pub kept_out : (ℕ → List ℕ) → ℕ → ℕ → List ℕ
kept_out spelt ticks idle =
    111 ∷ 102 ∷ 32 ∷ (spelt ticks ++ (32 ∷ 116 ∷ 105 ∷ 99 ∷ 107 ∷ 115 ∷ 32 ∷ (spelt idle ++ (
    32 ∷ 105 ∷ 100 ∷ 108 ∷ 101 ∷ 44 ∷ 32 ∷ 110 ∷ 111 ∷ 110 ∷ 101 ∷ 32 ∷ 109 ∷ 105 ∷ 115 ∷ 115 ∷ 101 ∷ 100 ∷ 10 ∷ []))))

-- `no such number`
abbrev pub says_no_number : List ℕ
says_no_number = 110 ∷ 111 ∷ 32 ∷ 115 ∷ 117 ∷ 99 ∷ 104 ∷ 32 ∷ 110 ∷ 117 ∷ 109 ∷ 98 ∷ 101 ∷ 114 ∷ 10 ∷ []

-- What they tell

-- of an engine with these counts: the lines of the ticks `from`, `from` + 1, .. before `ticks`, at most 32, of the one schedule in which each tick is as the
-- rule says; then the idle
-- ticks of the whole run, and that no deadline is missed, as none is: `missed at` is never told
pub record TellsRun (y : System) (counts : List ℕ) (ticks from : ℕ) (text : List ℕ) : Type 0 where
  pub schedule : Schedule
  pub follows : (τ : ℕ) → TickIs y counts schedule τ
  pub kept : (d : ℕ) → d ≤ ticks → MissedAt y counts schedule d → ⊥
  pub spelt : ℕ → List ℕ
  pub in_decimal : (n : ℕ) → InDecimal n (spelt n)
  pub lines : text ≡ ticks_out (tick_out spelt y counts schedule) from (min 32 (ticks - from)) ++ kept_out spelt ticks (idle_for schedule ticks)

-- of engine e of a plan with these loads: `no such number` exactly where e is not one of 1 to m; then 44 and 45, exactly where the run of what it holds is
-- refused, and no other refusal;
-- else that run. An engine that the plan does not use holds nothing
pub record TellsEngine (y : System) (loads : List EngineLoad) (e ticks from : ℕ) (text : List ℕ) : Type 0 where
  pub no_number : (text ≡ says_no_number) ↔ (EngineOf y e → ⊥)
  pub then44 : EngineOf y e → TellsRefusal 44 text ↔ NoPace y (record_no loads e).counts
  pub then45 : EngineOf y e → (NoPace y (record_no loads e).counts → ⊥) → TellsRefusal 45 text ↔ TooMuch (record_no loads e).counts ticks
  pub no_other : (n : ℕ) → TellsRefusal n text → (n ≡ 44) ⊎ (n ≡ 45)
  pub runs : EngineOf y e → (NoPace y (record_no loads e).counts → ⊥) → (TooMuch (record_no loads e).counts ticks → ⊥)
      → TellsRun y (record_no loads e).counts ticks from text

-- a listing of these loads: a line for each of the engines 1 to `used`, with its number, and the time, the memory and the counts of its load
pub record ListsLoads (y : System) (loads : List EngineLoad) (used : ℕ) (text : List ℕ) : Type 0 where
  pub spelt : ℕ → List ℕ
  pub in_decimal : (n : ℕ) → InDecimal n (spelt n)
  pub lines : text ≡ plan_text spelt used (λ (e : ℕ). engine_text spelt y.typecount e (record_no loads e).time (record_no loads e).memory (λ (t : ℕ). count_no (record_no loads e).counts t))

-- of a system that has a plan: the loads are a partition on the fewest engines, and those that the plan's call gives over any table that is long enough
pub record TellsPlanned (file : List ℕ) (y : System) (e ticks from : ℕ) (text : List ℕ) : Type 0 where
  pub loads : List EngineLoad
  pub used : ℕ
  pub on_fewest : StandsOnFewest y (EngineOf y) (ceiling_no y) loads used
  pub idle_past : (other : ℕ) → used < other → HoldsNothing (record_no loads other)
  pub same_plan : (p : Plan) (table after : Lent) → LongEnough y table → PlanPromises (read_file file) table 16 p after → p.loads ≡ loads
  -- and those that `listing_of` lists, whatever it writes of this file that its contract allows; `listing_read`, and so program `plan`, promises the same of
  -- what it reads:
  -- the counts that run here are those in the line of engine e there
  pub listed : (old new : List ℕ) (r : ℕ) → TextPromises file old new r → ListsLoads y loads used (take r new)
  pub engine : TellsEngine y loads e ticks from text

-- of a file: why it does not read, 42 with it; then 12, exactly where there is no plan; else the text of the engine
pub record TellsWatch (file : List ℕ) (e ticks from : ℕ) (text : List ℕ) : Type 0 where
  pub unreadable : (n : ℕ) → read_file file ≡ unread n → TellsRefusal n text
  pub impossible : (y : System) → read_file file ≡ opened y → TellsRefusal 12 text ↔ Impossible y (EngineOf y) (ceiling_no y)
  pub planned : (y : System) → read_file file ≡ opened y → (χ : Assignment) → Partition y (EngineOf y) (ceiling_no y) χ → TellsPlanned file y e ticks from text

-- what the call `watch_of` promises of its result and the buffer
pub record WatchPromises (file : List ℕ) (e ticks from : ℕ) (old new : List ℕ) (r : ℕ) : Type 0 where
  pub written : Written (watch_text file e ticks from) old new r
  pub tells : TellsWatch file e ticks from (watch_text file e ticks from)

-- of an input in which the numbers stand before the file: of one that is too short they are 0 where it ends
abbrev pub JoinedPromises : List ℕ → List ℕ → List ℕ → ℕ → Type 0
JoinedPromises joined old new r = WatchPromises (drop 9 joined) (get_or joined 0 0) (word4 joined 1) (word4 joined 5) old new r

-- four bytes, most significant byte first
abbrev pub four_bytes : ℕ → List ℕ
four_bytes n = (n / 16777216) ∷ (n / 65536 % 256) ∷ (n / 256 % 256) ∷ (n % 256) ∷ []

-- the program's input: the engine's number, 1 byte, the ticks and the first tick that is shown, 4 bytes each, and the file
abbrev pub input_out : ℕ → ℕ → ℕ → List ℕ → List ℕ
input_out e ticks from file = e ∷ (four_bytes ticks ++ four_bytes from ++ file)

-- what the call `watch_read` promises: the text of the bytes that were read, however few they are; and the same of every input, whatever its length, of whose
-- first bytes,
-- as many as `front` has room for, just these were read. There is room for the numbers and for 384 bytes of the file
pub record ReadPromises (front : List ℕ) (read : ℕ) (old new : List ℕ) (r : ℕ) : Type 0 where
  pub size : length front ≡ 393
  pub within : Counts r new
  pub of_read : JoinedPromises (take read front) old new r
  pub of_input : (file : List ℕ) (e ticks from : ℕ) → take (length front) (input_out e ticks from file) ≡ take read front
      → WatchPromises file e ticks from old new r
