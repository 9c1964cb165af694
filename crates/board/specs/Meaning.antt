-- What each call promises besides the equation with its definition: demand 1 for every board, the order of the refusals, and what the call means for a true
-- board,
-- in the plain words of `Words`. Of the definitions of the calls only `Result` is known here, and `true_board`, which `TrueMeans` says in these words.
use Rattle.std.specs.Prelude.{ℕ, ◌≤◌, List, [], ◌∷◌, true, false, ◌≡◌, ◌↔◌, Some}
use Rattle.system.specs.declared.Costs.{Costs}
use Rattle.system.specs.declared.Kind.{Kind}
use Rattle.system.specs.declared.System.{System}
use Rattle.system.specs.Layout.{Reading, opened, unread}
use Rattle.system.specs.Outcome.{Outcome, Source, accepted, refused, from_input, from_state, is_accepted}
use Rattle.partition.specs.Assignment.{engines_to}
use Rattle.partition.specs.Lent.{Lent, lent}
use Rattle.partition.specs.Plain.{type_no, LongEnough, TooShort, record_no, Stands, HoldsNothing}
use Rattle.table.specs.Table.{filled}
use Rattle.table.specs.Meaning.{FilledMeans}
use Rattle.board.specs.declared.Board.{Board}
use Rattle.board.specs.Truth.{true_board}
use Rattle.board.specs.Calls.{Result}
use Rattle.board.specs.Words.{count_at, stands_no, plus_one, sum_six, IsType, IsEngine, mark_no, EngineIn, serving_all, HoldsType, BelowCeiling, TakesType, Room, NoRoom, OneMoreOn, MarkOn, Frees, IsTrue, RecoveredOn, Packed, IsFresh}

-- the test of refusal 20 says so exactly, and a true board is a good assignment of what stands on it to the engines in service
pub record TrueMeans (b : Board) : Type 0 where
  pub tests : (true_board b ≡ true) ↔ IsTrue b
  pub placed : IsTrue b → Stands b.system (EngineIn b) (stands_no b) b.loads

-- opening: of a file that opens, the fresh board of its system, which is true; of any other, the number of the refusal, and a board that is not true, so that
-- every call refuses it 20
pub record OpenMeans (x : Reading) (o : Outcome) (b : Board) : Type 0 where
  pub opens : (y : System) → x ≡ opened y → o ≡ accepted []
  pub fresh : (y : System) → x ≡ opened y → IsFresh y b
  pub is_true : (y : System) → x ≡ opened y → IsTrue b
  pub refuses : (n : ℕ) → x ≡ unread n → o ≡ refused from_input n
  pub untrue : (n : ℕ) → x ≡ unread n → IsTrue b → ⊥

-- What each call means for a true board and a table that 11 passes

-- admit: the newcomer is on the engine that was answered, the lowest that takes it. The table is filled only if there is none
pub record AdmitMeans (b : Board) (t : ℕ) (table : Lent) (r : Result) : Type 0 where
  pub admits : BelowCeiling b t → (is_accepted r.outcome ≡ true) ↔ ((e : ℕ) × TakesType b t e)
  -- 23: "no engine takes it, but a good assignment of all with the newcomer exists"; 24: "no room: none exists"
  pub tight : BelowCeiling b t → (r.outcome ≡ refused from_state 23) ↔ (((e : ℕ) → TakesType b t e → ⊥) × Room b t)
  pub no_room : BelowCeiling b t → (r.outcome ≡ refused from_state 24) ↔ NoRoom b t
  pub engine : is_accepted r.outcome ≡ true → (e : ℕ) × (r.outcome ≡ accepted (e ∷ []))
  pub takes_it : (e : ℕ) → r.outcome ≡ accepted (e ∷ []) → TakesType b t e
  pub lowest : (e d : ℕ) → r.outcome ≡ accepted (e ∷ []) → TakesType b t d → e ≤ d
  pub joins : (e : ℕ) → r.outcome ≡ accepted (e ∷ []) → OneMoreOn b t e r.board
  pub stands : is_accepted r.outcome ≡ true → (u : ℕ) → 1 ≤ u → stands_no r.board u ≡ plus_one t (stands_no b) u
  pub is_true : is_accepted r.outcome ≡ true → IsTrue r.board
  pub as_lent : is_accepted r.outcome ≡ true → r.table ≡ table
  pub left_filled : BelowCeiling b t → is_accepted r.outcome ≡ false → FilledMeans b.system (serving_all b) table r.table

-- seat: succeeds exactly when there is room, and packs all with the newcomer on the fewest engines
pub record SeatMeans (b : Board) (t : ℕ) (table : Lent) (r : Result) : Type 0 where
  pub seats : BelowCeiling b t → (is_accepted r.outcome ≡ true) ↔ Room b t
  pub no_room : BelowCeiling b t → (r.outcome ≡ refused from_state 24) ↔ NoRoom b t
  pub answer : is_accepted r.outcome ≡ true → r.outcome ≡ accepted []
  pub packs : is_accepted r.outcome ≡ true → Packed b (plus_one t (stands_no b)) r.board
  pub recovers : is_accepted r.outcome ≡ true → RecoveredOn b r.table (plus_one t (stands_no b)) r.board
  pub left_filled : BelowCeiling b t → FilledMeans b.system (serving_all b) table r.table

-- retire: succeeds exactly when that engine holds that type, and one instance leaves it and frees its memory
pub record RetireMeans (b : Board) (t e : ℕ) (r : Result) : Type 0 where
  pub retires : (is_accepted r.outcome ≡ true) ↔ HoldsType b t e
  pub answer : is_accepted r.outcome ≡ true → r.outcome ≡ accepted []
  pub leaves : is_accepted r.outcome ≡ true → OneMoreOn r.board t e b
  pub stands : is_accepted r.outcome ≡ true → (u : ℕ) → 1 ≤ u → stands_no b u ≡ plus_one t (stands_no r.board) u
  pub frees : is_accepted r.outcome ≡ true → Frees b t e r.board
  pub is_true : is_accepted r.outcome ≡ true → IsTrue r.board

-- repack: always succeeds, and packs what stands on the fewest engines
pub record RepackMeans (b : Board) (table : Lent) (r : Result) : Type 0 where
  pub repacks : r.outcome ≡ accepted []
  pub packs : Packed b (stands_no b) r.board
  pub recovers : RecoveredOn b r.table (stands_no b) r.board
  pub left_filled : FilledMeans b.system (serving_all b) table r.table

-- withdraw: succeeds exactly when that engine is in service and holds nothing, and its mark is set
pub record WithdrawMeans (b : Board) (e : ℕ) (r : Result) : Type 0 where
  pub withdraws : (is_accepted r.outcome ≡ true) ↔ (EngineIn b e × HoldsNothing (record_no b.loads e))
  pub answer : is_accepted r.outcome ≡ true → r.outcome ≡ accepted []
  pub marks : is_accepted r.outcome ≡ true → MarkOn b e true r.board
  pub is_true : is_accepted r.outcome ≡ true → IsTrue r.board

-- restore: succeeds exactly when that engine is withdrawn, and its mark is taken away
pub record RestoreMeans (b : Board) (e : ℕ) (r : Result) : Type 0 where
  pub restores : (is_accepted r.outcome ≡ true) ↔ (IsEngine b e × (mark_no b e ≡ true))
  pub answer : is_accepted r.outcome ≡ true → r.outcome ≡ accepted []
  pub marks : is_accepted r.outcome ≡ true → MarkOn b e false r.board
  pub is_true : is_accepted r.outcome ≡ true → IsTrue r.board

-- The orders of refusal, for every board and table: each number with its list is said exactly where its row says so and all that stand before it pass

-- "admit 20, 13, 11, 21, 23 or 24; seat 20, 13, 11, 21, 24": what both begin with. Their meanings say when it is 23 or 24
pub record NewcomerInOrder (b : Board) (t : ℕ) (table : Lent) (o : Outcome) : Type 0 where
  pub board_first : (o ≡ refused from_state 20) ↔ (IsTrue b → ⊥)
  pub then_type : IsTrue b → (o ≡ refused from_input 13) ↔ (IsType b t → ⊥)
  pub then_table : IsTrue b → IsType b t → (o ≡ refused from_input 11) ↔ TooShort b.system table
  pub then_ceiling : IsTrue b → IsType b t → LongEnough b.system table → (o ≡ refused from_state 21) ↔ (BelowCeiling b t → ⊥)

-- "retire 20, 13, 14, 22"
pub record RetireInOrder (b : Board) (t e : ℕ) (o : Outcome) : Type 0 where
  pub board_first : (o ≡ refused from_state 20) ↔ (IsTrue b → ⊥)
  pub then_type : IsTrue b → (o ≡ refused from_input 13) ↔ (IsType b t → ⊥)
  pub then_engine : IsTrue b → IsType b t → (o ≡ refused from_input 14) ↔ (IsEngine b e → ⊥)
  pub then_held : IsTrue b → IsType b t → IsEngine b e → (o ≡ refused from_state 22) ↔ (HoldsType b t e → ⊥)

-- "repack 20, 11"
pub record RepackInOrder (b : Board) (table : Lent) (o : Outcome) : Type 0 where
  pub board_first : (o ≡ refused from_state 20) ↔ (IsTrue b → ⊥)
  pub then_table : IsTrue b → (o ≡ refused from_input 11) ↔ TooShort b.system table

-- request 2026-07: "35, when the engine to withdraw still holds an instance; 36, when it is already in the state wanted; both from the state, after 14, in
-- the order 36, 35"
pub record WithdrawInOrder (b : Board) (e : ℕ) (o : Outcome) : Type 0 where
  pub board_first : (o ≡ refused from_state 20) ↔ (IsTrue b → ⊥)
  pub then_engine : IsTrue b → (o ≡ refused from_input 14) ↔ (IsEngine b e → ⊥)
  pub then_state : IsTrue b → IsEngine b e → (o ≡ refused from_state 36) ↔ (mark_no b e ≡ true)
  pub then_empty : IsTrue b → IsEngine b e → mark_no b e ≡ false → (o ≡ refused from_state 35) ↔ (1 ≤ sum_six (count_at b e))

pub record RestoreInOrder (b : Board) (e : ℕ) (o : Outcome) : Type 0 where
  pub board_first : (o ≡ refused from_state 20) ↔ (IsTrue b → ⊥)
  pub then_engine : IsTrue b → (o ≡ refused from_input 14) ↔ (IsEngine b e → ⊥)
  pub then_state : IsTrue b → IsEngine b e → (o ≡ refused from_state 36) ↔ (mark_no b e ≡ false)

-- Demand 1, for every board, true or not: a refused call hands back the board it was given, and the table as lent, except that 23 and 24 leave it filled.
-- `left` is what the table holds after an accepted call: what it held before, or the table filled
pub record Demand1 (b : Board) (table left : Lent) (r : Result) : Type 0 where
  pub board : is_accepted r.outcome ≡ false → r.board ≡ b
  pub as_lent : (s : Source) (n : ℕ) → r.outcome ≡ refused s n → (n ≡ 23 → ⊥) → (n ≡ 24 → ⊥) → r.table ≡ table
  pub filled_on23 : (s : Source) → r.outcome ≡ refused s 23 → r.table ≡ filled b.system (engines_to (serving_all b)) table
  pub filled_on24 : (s : Source) → r.outcome ≡ refused s 24 → r.table ≡ filled b.system (engines_to (serving_all b)) table
  pub on_accept : is_accepted r.outcome ≡ true → r.table ≡ left

-- Request 2026-13, for every call: "A board handed in with a second kind is refused 20", and so is one that has u and s on such a kind alone, of any type,
-- past k too, whatever else it holds
pub record OneKindOnly (b : Board) (o : Outcome) : Type 0 where
  pub second : (k : Kind) → b.system.second ≡ Some k → o ≡ refused from_state 20
  pub there : (t : ℕ) (c : Costs) → (type_no b.system t).there ≡ Some c → o ≡ refused from_state 20

-- What the contracts cite

pub record AdmitPromises (b : Board) (t : ℕ) (table : Lent) (r : Result) : Type 0 where
  pub demand1 : Demand1 b table table r
  pub order : NewcomerInOrder b t table r.outcome
  pub one_kind : OneKindOnly b r.outcome
  pub means : IsTrue b → LongEnough b.system table → AdmitMeans b t table r

pub record SeatPromises (b : Board) (t : ℕ) (table : Lent) (r : Result) : Type 0 where
  pub demand1 : Demand1 b table (filled b.system (engines_to (serving_all b)) table) r
  pub order : NewcomerInOrder b t table r.outcome
  pub one_kind : OneKindOnly b r.outcome
  pub means : IsTrue b → LongEnough b.system table → SeatMeans b t table r

pub record RetirePromises (b : Board) (t e : ℕ) (r : Result) : Type 0 where
  pub demand1 : Demand1 b (lent [] []) (lent [] []) r
  pub order : RetireInOrder b t e r.outcome
  pub one_kind : OneKindOnly b r.outcome
  pub means : IsTrue b → RetireMeans b t e r

pub record RepackPromises (b : Board) (table : Lent) (r : Result) : Type 0 where
  pub demand1 : Demand1 b table (filled b.system (engines_to (serving_all b)) table) r
  pub order : RepackInOrder b table r.outcome
  pub one_kind : OneKindOnly b r.outcome
  pub means : IsTrue b → LongEnough b.system table → RepackMeans b table r

pub record WithdrawPromises (b : Board) (e : ℕ) (r : Result) : Type 0 where
  pub demand1 : Demand1 b (lent [] []) (lent [] []) r
  pub order : WithdrawInOrder b e r.outcome
  pub one_kind : OneKindOnly b r.outcome
  pub means : IsTrue b → WithdrawMeans b e r

pub record RestorePromises (b : Board) (e : ℕ) (r : Result) : Type 0 where
  pub demand1 : Demand1 b (lent [] []) (lent [] []) r
  pub order : RestoreInOrder b e r.outcome
  pub one_kind : OneKindOnly b r.outcome
  pub means : IsTrue b → RestoreMeans b e r
