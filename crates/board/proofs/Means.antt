-- What each call means for a true board: by the call's outcomes on the board of its loads.
use Prim.Native.Nat.{ℕ, zero, suc, ◌+◌, ◌-◌, ◌≤◌, ◌<◌}
use mathlib.Core.Path.{◌≡◌, refl, sym, ap, subst, ◌∙◌}
use mathlib.Core.List.{List, [], ◌∷◌, map}
use mathlib.Core.Bool.{Bool, true, false, cond, ◌&&◌, true≢false, false≢true}
use mathlib.Core.Logic.{◌↔◌}
use native.Mathlib.Nat.{le_refl, add-zero}
use native.Mathlib.Omega.{arith}
use borrow.Author.Tests.{leb-true, le-leb, ltb-true, lt-ltb, eqb-true, eqb-false}
use lib.ListN.{length, get_or, set, replicate, length-set}
use lib.Seq.{get_or-set_same, get_or-set_other}
use lib.Dec.{leb, eqb}
use Rattle.system.specs.declared.System.{System}
use Rattle.system.specs.Values.{ceilings_of}
use Rattle.system.specs.Limits.{keeps_limits, engine_limit, type_limit}
use Rattle.system.specs.Outcome.{Outcome, Source, accepted, refused, from_input, from_state, is_accepted}
use Rattle.system.proofs.Laws.{Limits, limits_of}
use Rattle.loads.specs.Load.{within, fits_engine, holds_none, empty_load, engine_with}
use Rattle.loads.specs.Column.{column_of}
use Rattle.loads.proofs.Order.{and_both, holds_none-is-zero}
use Rattle.partition.specs.Assignment.{among, every, engines_to}
use Rattle.partition.specs.Cell.{recovery}
use Rattle.partition.specs.Shares.{distinct, row_on}
use Rattle.partition.specs.ForSystem.{FeasibleOn, placeable, row_for, rows_for, recovered_for, OnFewest}
use Rattle.partition.specs.Lent.{Lent}
use Rattle.partition.specs.Plain.{LongEnough, record_no, HoldsNothing}
use Rattle.partition.proofs.Lists.{not-both, among-engines_to, length-engines_to, tested-among, get_or-map-engines_to, get_or-padded}
use Rattle.partition.proofs.Recovery.{length-recovery}
use Rattle.partition.proofs.ForSystem.{feasible-iff-placeable, recovered_for-shares, recovered_for-uses, recovered-on-fewest}
use Rattle.partition.proofs.Standing.{Valid, total, load_in, length-total, length-load_in, count-le-sum, served-feasible, total-joined, valid-joined, total_left, valid-left, total-recovered, valid-recovered}
use Rattle.partition.proofs.Plain.{ceiling-out, feasible-out, impossible-out, fewest-out}
use Rattle.table.specs.Table.{long_enough, filled}
use Rattle.table.specs.Meaning.{column_no, FilledMeans, RecoveredBy}
use Rattle.table.proofs.Room.{long-enough-out}
use Rattle.table.proofs.Meaning.{filled-means}
use Rattle.table.proofs.RecoveredBy.{recovered-by}
use Rattle.board.specs.declared.Board.{Board}
use Rattle.board.specs.Truth.{true_board}
use Rattle.board.specs.Calls.{Result, result, known_type, known_engine, admit_of, seat_of, retire_of, repack_of, withdraw_of, restore_of}
use Rattle.board.specs.Words.{count_at, stands_no, plus_one, used_records, IsType, IsEngine, mark_no, EngineIn, serving_to, serving_all, HoldsType, BelowCeiling, TakesType, Room, NoRoom, OneMoreOn, MarkOn, IsTrue, load_out, IsRecovery, RecoveredOn, Packed}
use Rattle.board.specs.Meaning.{AdmitMeans, SeatMeans, RetireMeans, RepackMeans, WithdrawMeans, RestoreMeans}
use Rattle.board.proofs.Places.{engines-distinct, engines-known, engines-count, engines-in, engines-number, engine-of, row-serving}
use Rattle.board.proofs.Plain.{load-out, fits-same, fits_out, out-fits, used-out, more-out, less-out}
use Rattle.board.proofs.Truth.{board_on, Served, marked-on, truth-of}
use Rattle.board.proofs.Served.{held-unmarked, served-set, served-marked, served-cleared, served-recovered}
use Rattle.board.proofs.TrueMeans.{count-out, stands_on, true-on, idle-on, idle-outside, zeros-none, true-means}
use Rattle.board.proofs.Frees.{frees-on}
use Rattle.board.proofs.Views.{
  engines_in,
  joined_at,
  takes_in,
  with_one,
  count_in,
  left_at,
  Newcomer,
  TakesFirst,
  TakesNone,
  AdmitView,
  SeatView,
  RetireView,
  WithdrawView,
  RestoreView,
  known-type,
  known-engine,
  first-index,
  length-with_one,
  with_one-within,
  recovered-padded,
  admit-view,
  seat-view,
  retire-view,
  total-placeable,
  repack-view,
  withdraw-view,
  restore-view,
}

-- two outcomes that differ
differ : {A : Type 0} {x y : Outcome} → x ≡ y → (x ≡ y → ◌≡◌ {A = ℕ} 0 1) → A
differ e f = let z = f e in absurd (omega arith)

-- past the last row there is none of any type
default-same : (rows : List (List ℕ)) (i j : ℕ) → get_or (get_or rows i empty_load) j 0 ≡ get_or (get_or rows i []) j 0
default-same [] i j = get_or-padded [] type_limit j 0
default-same (x ∷ rows) zero j = refl
default-same (x ∷ rows) (suc i) j = default-same rows i j

module _ (y : System) (ms : List Bool) (xs : List (List ℕ)) (keeps : keeps_limits y ≡ true) (v : Valid y xs) (served : Served y ms xs) where
  abbrev b : Board
  b = board_on y ms xs

  limits : Limits y
  limits = limits_of y keeps

  abbrev es : List ℕ
  es = engines_in y ms xs

  -- intermediate: the words of demand 3 over the loads

  known_of : (t : ℕ) → IsType b t → known_type y t ≡ true
  known_of t h = and_both (leb 1 t) (leb t y.typecount) (le-leb 1 t h.0) (le-leb t y.typecount h.1)

  engine-known : (e : ℕ) → IsEngine b e → known_engine y e ≡ true
  engine-known e h = and_both (leb 1 e) (leb e y.engines) (le-leb 1 e h.0) (le-leb e y.engines h.1)

  below_on : (t : ℕ) → BelowCeiling b t → Newcomer y xs t
  below_on t h = record {
    known = known_of t h.is_type;
    below = lt-ltb (get_or (total xs) (t - 1) 0) (get_or (ceilings_of y) (t - 1) 0) (omega (arith, h.fewer, stands_on y ms xs keeps v served t, ceiling-out y t));
  }

  -- the counts of an engine with the newcomer
  type-range : (t : ℕ) → known_type y t ≡ true → (1 ≤ t) × (t ≤ 6)
  type-range t k = let p = known-type y ms xs keeps v served t k in (p.0, omega (arith, p.1, limits.typecount))

  joined-out : (t e : ℕ) → known_type y t ≡ true → e - 1 < length xs → (u : ℕ) → 1 ≤ u → get_or (joined_at xs t e) (u - 1) 0 ≡ plus_one t (count_at b e) u
  joined-out t e k h u low =
      let r = type-range t k in
      more-out t r.0 (load_in xs (e - 1)) (omega (arith, r.1, length-load_in v (e - 1) h)) u low ∙ ap (λ (n : ℕ). n + cond (eqb u t) 1 0) (sym (count-out y ms xs keeps v served e u))

  length-joined : (t e : ℕ) → e - 1 < length xs → length (joined_at xs t e) ≡ 6
  length-joined t e h = length-set (load_in xs (e - 1)) (t - 1) _ ∙ length-load_in v (e - 1) h

  inside : (e : ℕ) → IsEngine b e → e - 1 < length xs
  inside e h = omega (arith, v.rows, h.0, h.1)

  takes_first : (t e : ℕ) → Newcomer y xs t → TakesFirst y ms xs t e → TakesType b t e
  takes_first t e n f =
      let serves = (engines-in b e).0 f.engine in
      let on = serves.is_engine in
      record {
        engine = serves;
        fit =
            fits-same y (λ (u : ℕ). get_or (joined_at xs t e) (u - 1) 0) (plus_one t (count_at b e)) (joined-out t e n.known (inside e on))
            (fits_out y limits.six (joined_at xs t e) (length-joined t e (inside e on)) f.passes);
      }

  takes-fit : (t e : ℕ) → known_type y t ≡ true → TakesType b t e → takes_in y xs t e ≡ true
  takes-fit t e k h =
      out-fits y limits.six (joined_at xs t e) (length-joined t e (inside e h.engine.is_engine)) limits.rule
      (fits-same y (plus_one t (count_at b e)) (λ (u : ℕ). get_or (joined_at xs t e) (u - 1) 0) (λ u low. sym (joined-out t e k (inside e h.engine.is_engine) u low)) h.fit)

  takes-among : (t e : ℕ) → TakesType b t e → among es e ≡ true
  takes-among t e h = (engines-in b e).1 h.engine

  -- room for the newcomer, by the cells
  with_out : (t : ℕ) → known_type y t ≡ true → (u : ℕ) → 1 ≤ u → get_or (with_one xs t) (u - 1) 0 ≡ plus_one t (stands_no b) u
  with_out t k u low =
      let r = type-range t k in
      more-out t r.0 (total xs) (omega (arith, r.1, length-total v)) u low ∙ ap (λ (n : ℕ). n + cond (eqb u t) 1 0) (sym (stands_on y ms xs keeps v served u))

  room-iff : (t : ℕ) → Newcomer y xs t → FeasibleOn y es (with_one xs t) ↔ (placeable y es (with_one xs t) ≡ true)
  room-iff t n = feasible-iff-placeable y limits es (engines-distinct b) (with_one xs t) (length-with_one y ms xs keeps v served t) (with_one-within y ms xs keeps v served t n)

  room-on : (t : ℕ) → Newcomer y xs t → FeasibleOn y es (with_one xs t) ↔ Room b t
  room-on t n =
      feasible-out y limits.rule es (engines-distinct b) (engines-known b) (EngineIn b) (engines-in b) (with_one xs t) (length-with_one y ms xs keeps v served t) (plus_one t (stands_no b))
      (with_out t n.known)

  none-on : (t : ℕ) → Newcomer y xs t → (FeasibleOn y es (with_one xs t) → ⊥) ↔ NoRoom b t
  none-on t n =
      impossible-out y limits.rule es (engines-distinct b) (engines-known b) (EngineIn b) (engines-in b) (with_one xs t) (length-with_one y ms xs keeps v served t) (plus_one t (stands_no b))
      (with_out t n.known)

  -- one engine's load changed

  count_set : (e : ℕ) (x : List ℕ) → IsEngine b e → Valid y (set xs (e - 1) x) → Served y ms (set xs (e - 1) x) → (d u : ℕ) → 1 ≤ d → count_at (board_on y ms (set xs (e - 1) x)) d u ≡ cond (eqb d e) (get_or x (u - 1) 0) (count_at b d u)
  count_set e x on w k d u low = count-out y ms (set xs (e - 1) x) keeps w k d u ∙ go (eqb d e) refl
    where
      go : (p : Bool) → eqb d e ≡ p → get_or (load_in (set xs (e - 1) x) (d - 1)) (u - 1) 0 ≡ cond p (get_or x (u - 1) 0) (count_at b d u)
      go true q =
          ap (λ (i : ℕ). get_or (load_in (set xs (e - 1) x) (i - 1)) (u - 1) 0) (eqb-true d e q)
          ∙ ap (λ (l : List ℕ). get_or l (u - 1) 0) (get_or-set_same xs (e - 1) x empty_load (inside e on))
      go false q =
          ap (λ (l : List ℕ). get_or l (u - 1) 0) (get_or-set_other xs (e - 1) (d - 1) x empty_load (λ same. eqb-false d e q (omega (arith, low, on.0))))
          ∙ sym (count-out y ms xs keeps v served d u)

  -- an instance of type t joined engine e
  joined-on : (t e : ℕ) → known_type y t ≡ true → IsEngine b e → Valid y (set xs (e - 1) (joined_at xs t e)) → Served y ms (set xs (e - 1) (joined_at xs t e)) → OneMoreOn b t e (board_on y ms (set xs (e - 1) (joined_at xs t e)))
  joined-on t e k on w m = record { system = refl; marks = refl; counts = λ d u low up. count_set e (joined_at xs t e) on w m d u low ∙ go d u up (eqb d e) refl }
    where
      go : (d u : ℕ) → 1 ≤ u → (p : Bool) → eqb d e ≡ p → cond p (get_or (joined_at xs t e) (u - 1) 0) (count_at b d u) ≡ count_at b d u + cond (p && eqb u t) 1 0
      go d u up true q = joined-out t e k (inside e on) u up ∙ ap (λ (i : ℕ). count_at b i u + cond (eqb u t) 1 0) (sym (eqb-true d e q))
      go d u up false q = sym (add-zero (count_at b d u))

  -- one left it
  left-on : (t e : ℕ) → known_type y t ≡ true → IsEngine b e → 1 ≤ count_in xs t e → Valid y (set xs (e - 1) (left_at xs t e)) → Served y ms (set xs (e - 1) (left_at xs t e)) → OneMoreOn (board_on y ms (set xs (e - 1) (left_at xs t e))) t e b
  left-on t e k on held w m = record { system = refl; marks = refl; counts = λ d u low up. go d u up (eqb d e) refl ∙ ap (λ (n : ℕ). n + cond (eqb d e && eqb u t) 1 0) (sym (count_set e (left_at xs t e) on w m d u low)) }
    where
      go : (d u : ℕ) → 1 ≤ u → (p : Bool) → eqb d e ≡ p → count_at b d u ≡ cond p (get_or (left_at xs t e) (u - 1) 0) (count_at b d u) + cond (p && eqb u t) 1 0
      go d u up true q =
          ap (λ (i : ℕ). count_at b i u) (eqb-true d e q) ∙ count-out y ms xs keeps v served e u ∙ less-out t (type-range t k).0 (load_in xs (e - 1)) held u up
      go d u up false q = sym (add-zero (count_at b d u))

  -- the table that a call filled
  abbrev Full : Lent → Lent → Type 0
  Full table left = FilledMeans y (serving_all b) table left

  full-on : (table : Lent) → LongEnough y table → Full table (filled y es table)
  full-on table long = rw (engines-number b) (filled-means y limits (serving_all b) table (omega (arith, engines-number b, engines-count b)) long)

  -- a load packed on the fewest engines

  module _ (x : List ℕ) (l : length x ≡ type_limit) (w : within x (ceilings_of y) ≡ true) (can : placeable y es x ≡ true)
      (count : ℕ → ℕ) (counts : (t : ℕ) → 1 ≤ t → get_or x (t - 1) 0 ≡ count t) where
    abbrev rows : List (List ℕ)
    rows = recovered_for y.engines y es x

    apart : distinct es ≡ true
    apart = engines-distinct b

    rows-valid : Valid y rows
    rows-valid = valid-recovered y limits es apart (engines-known b) x l w can

    rows-served : Served y ms rows
    rows-served = served-recovered y ms xs served x

    -- the engines are among those of the code's array
    wide : every (among (engines_to engine_limit)) es ≡ true
    wide = tested-among (among (engines_to engine_limit)) es (λ e h. let k = engine-of b e h in (among-engines_to engine_limit e).1 (k.0, omega (arith, k.1, limits.engines)))

    fewest-on : OnFewest y es x (board_on y ms rows).loads (used_records (board_on y ms rows).loads)
    fewest-on =
        subst (λ (after : Board). OnFewest y es x after.loads (used_records after.loads)) (recovered-padded y ms xs keeps v served x l w can)
        (subst (OnFewest y es x (map (engine_with y) (recovered_for engine_limit y es x)))
        (sym (used-out y (recovered_for engine_limit y es x) sized ∙ recovered_for-uses y limits es apart x l w can engine_limit wide))
        (recovered-on-fewest y limits es apart x l w can engine_limit))
      where
        sized : every (λ (z : List ℕ). eqb (length z) 6) (recovered_for engine_limit y es x) ≡ true
        sized = (recovered_for-shares y limits es apart x l w can engine_limit wide).sized

    -- an engine in service has the row of its place among them
    row_on_lem : (e t : ℕ) → EngineIn b e → count_at (board_on y ms rows) e t ≡ get_or (get_or (rows_for y es x) (serving_to b e - 1) []) (t - 1) 0
    row_on_lem e t serves =
        count-out y ms rows keeps rows-valid rows-served e t
        ∙ ap (λ (z : List ℕ). get_or z (t - 1) 0) row
        ∙ default-same (rows_for y es x) (serving_to b e - 1) (t - 1)
      where
        low : 1 ≤ e
        low = serves.is_engine.0

        h : e - 1 < y.engines
        h = omega (arith, low, serves.is_engine.1)

        number : suc (e - 1) ≡ e
        number = omega (arith, low)

        row : load_in rows (e - 1) ≡ get_or (rows_for y es x) (serving_to b e - 1) empty_load
        row =
            get_or-map-engines_to (row_on empty_load es (rows_for y es x)) y.engines (e - 1) empty_load h
            ∙ ap (row_on empty_load es (rows_for y es x)) number
            ∙ row-serving b empty_load (rows_for y es x) e serves

    recovery-on : IsRecovery b count (board_on y ms rows)
    recovery-on e t serves up =
        row_on_lem e t serves
        ∙ ap (λ (z : List ℕ). get_or (get_or (rows_for y es z) (serving_to b e - 1) []) (t - 1) 0) (load-out x count l counts)
        ∙ ap (λ (n : ℕ). get_or (get_or (recovery (fits_engine y) (ceilings_of y) n (column_of (ceilings_of y) (load_out count))) (serving_to b e - 1) []) (t - 1) 0)
        (engines-number b ∙ sym (length-engines_to (serving_all b)))

    -- read in the filled table
    recovered-in : (table : Lent) → LongEnough y table → RecoveredOn b (filled y es table) count (board_on y ms rows)
    recovered-in table long = record {
      row = row;
      reads = subst (λ (n : ℕ). RecoveredBy y (filled y es table) n count row) uses (record { column = r.column; starts = r.starts ∙ column-same; lowest_row = r.lowest_row; down = r.down; gets = r.gets });
      holds = λ e t serves low. row_on_lem e t serves;
    }
      where
        row : ℕ → ℕ → ℕ
        row i t = get_or (get_or (rows_for y es x) (i - 1) []) (t - 1) 0

        r : RecoveredBy y (filled y es table) (row_for y es x) (λ (t : ℕ). get_or x (t - 1) 0) (λ (i t : ℕ). get_or (get_or (rows_for y es x) (i - 1) []) (t - 1) 0)
        r =
            recovered-by y limits (length es) (filled y es table) (λ i c h k. (full-on table long).cells i c (omega (arith, engines-number b)) k)
            (λ c low h k. (full-on table long).cell_there c low h (omega (arith, engines-number b)))
            x l w (leb-true (row_for y es x) (length es) can)

        column-same : column_no y (λ (t : ℕ). get_or x (t - 1) 0) ≡ column_no y count
        column-same =
            rw (counts 1 (omega arith), counts 2 (omega arith), counts 3 (omega arith), counts 4 (omega arith), counts 5 (omega arith), counts 6 (omega arith))

        wide-six : every (λ (z : List ℕ). eqb (length z) 6) (recovered_for engine_limit y es x) ≡ true
        wide-six = (recovered_for-shares y limits es apart x l w can engine_limit wide).sized

        uses : row_for y es x ≡ used_records (board_on y ms rows).loads
        uses =
            sym (used-out y (recovered_for engine_limit y es x) wide-six ∙ recovered_for-uses y limits es apart x l w can engine_limit wide)
            ∙ ap (λ (after : Board). used_records after.loads) (recovered-padded y ms xs keeps v served x l w can)

    packed-on : Packed b count (board_on y ms rows)
    packed-on = record {
      is_true = true-on y ms rows keeps rows-valid rows-served;
      system = refl;
      marks = refl;
      stands = λ t low. stands_on y ms rows keeps rows-valid rows-served t ∙ ap (λ (z : List ℕ). get_or z (t - 1) 0) (total-recovered y limits es apart (engines-known b) x l w can) ∙ counts t low;
      fewest =
          fewest-out y limits.rule es apart (engines-known b) (EngineIn b) (engines-in b) x l count counts (board_on y ms rows).loads (used_records (board_on y ms rows).loads) fewest-on;
      recovery = recovery-on;
    }

  -- main: admit

  abbrev Admits : ℕ → Outcome → Type 0
  Admits t o = BelowCeiling b t → (is_accepted o ≡ true) ↔ ((e : ℕ) × TakesType b t e)

  abbrev Says24 : ℕ → Outcome → Type 0
  Says24 t o = BelowCeiling b t → (o ≡ refused from_state 24) ↔ NoRoom b t

  abbrev Says23 : ℕ → Outcome → Type 0
  Says23 t o = BelowCeiling b t → (o ≡ refused from_state 23) ↔ (((e : ℕ) → TakesType b t e → ⊥) × Room b t)

  -- where there is room, 24 is not said; where there is none, it is
  not-24 : (t : ℕ) (o : Outcome) → Newcomer y xs t → FeasibleOn y es (with_one xs t) → (o ≡ refused from_state 24 → ◌≡◌ {A = ℕ} 0 1) → Says24 t o
  not-24 t o n f d h = (λ a. differ a d, λ none. absurd ((none-on t n).1 none f))

  says-24 : (t : ℕ) → Newcomer y xs t → (FeasibleOn y es (with_one xs t) → ⊥) → Says24 t (refused from_state 24)
  says-24 t n f h = (λ a. (none-on t n).0 f, λ none. refl)

  can-place : (t : ℕ) → Newcomer y xs t → placeable y es (with_one xs t) ≡ true → FeasibleOn y es (with_one xs t)
  can-place t n can = (room-iff t n).1 can

  cannot-place : (t : ℕ) → Newcomer y xs t → placeable y es (with_one xs t) ≡ false → FeasibleOn y es (with_one xs t) → ⊥
  cannot-place t n cannot f = not-both ((room-iff t n).0 f) cannot

  refused-admit : (t : ℕ) (table : Lent) (o : Source) (n : ℕ) (left : Lent) → Admits t (refused o n) → Says23 t (refused o n) → Says24 t (refused o n) → (BelowCeiling b t → Full table left) → AdmitMeans b t table (result (refused o n) b left)
  refused-admit t table o n left p q r full = record {
    admits = p;
    tight = q;
    no_room = r;
    engine = λ h. absurd (false≢true h);
    takes_it = λ e h. differ h (λ z. cc);
    lowest = λ e d h. differ h (λ z. cc);
    joins = λ e h. differ h (λ z. cc);
    stands = λ h. absurd (false≢true h);
    is_true = λ h. absurd (false≢true h);
    as_lent = λ h. absurd (false≢true h);
    left_filled = λ below h. full below;
  }

  takes_none : (t e : ℕ) → known_type y t ≡ true → TakesNone y ms xs t → TakesType b t e → ⊥
  takes_none t e k f h = f.nowhere e (takes-among t e h) (takes-fit t e k h)

  -- where no engine takes the newcomer
  nowhere-admits : (t : ℕ) (o : Source) (n : ℕ) → known_type y t ≡ true → TakesNone y ms xs t → Admits t (refused o n)
  nowhere-admits t o n k f h = (λ a. absurd (false≢true a), λ p. absurd (takes_none t p.0 k f p.1))

  -- where it joins engine e
  joined-admit : (t e : ℕ) (table : Lent) → Newcomer y xs t → TakesFirst y ms xs t e → AdmitMeans b t table (result (accepted (e ∷ [])) (board_on y ms (set xs (e - 1) (joined_at xs t e))) table)
  joined-admit t e table n f = record {
    admits = λ h. (λ a. (e, takes_first t e n f), λ p. refl);
    tight = λ h. (λ a. differ a (λ z. cc), λ p. absurd (p.0 e (takes_first t e n f)));
    no_room = not-24 t (accepted (e ∷ [])) n (rw whole at (served-feasible w es (engines-known b) (idle-outside y ms after keeps w k))) (λ z. cc);
    engine = λ h. (e, refl);
    takes_it = λ d h. let same : e ≡ d = cc in subst (TakesType b t) same (takes_first t e n f);
    lowest = λ d k h g. let same : e ≡ d = cc in omega (arith, f.lowest k (takes-among t k g) (takes-fit t k n.known g));
    joins = λ d h. let same : e ≡ d = cc in subst (λ (k : ℕ). OneMoreOn b t k (board_on y ms after)) same (joined-on t e n.known (engine-of b e f.engine) w k);
    stands = λ h u low. stands_on y ms after keeps w k u ∙ ap (λ (z : List ℕ). get_or z (u - 1) 0) whole ∙ with_out t n.known u low;
    is_true = λ h. true-on y ms after keeps w k;
    as_lent = λ h. refl;
    left_filled = λ below h. absurd (true≢false h);
  }
    where
      after : List (List ℕ)
      after = set xs (e - 1) (joined_at xs t e)

      index : e - 1 < y.engines
      index = first-index y ms xs keeps v served t e f

      w : Valid y after
      w = valid-joined y xs v (e - 1) (t - 1) index (ltb-true (get_or (total xs) (t - 1) 0) (get_or (ceilings_of y) (t - 1) 0) n.below) f.passes

      k : Served y ms after
      k = served-set y ms xs served (e - 1) (joined_at xs t e) (sym (marked-on y ms xs e) ∙ ((engines-in b e).0 f.engine).in_service)

      whole : total after ≡ with_one xs t
      whole = total-joined y xs v (e - 1) (t - 1) index

  pub admit-by : (t : ℕ) (table : Lent) (r : Result) → LongEnough y table → AdmitView y ms xs t table r → AdmitMeans b t table r
  admit-by t table r long (AdmitView.unknown k s) =
      subst (AdmitMeans b t table) (sym s)
      (refused-admit t table from_input 13 table (λ h. absurd (not-both (below_on t h).known k)) (λ h. absurd (not-both (below_on t h).known k)) (λ h. absurd (not-both (below_on t h).known k))
      (λ h. absurd (not-both (below_on t h).known k)))
  admit-by t table r long (AdmitView.full k f s) =
      subst (AdmitMeans b t table) (sym s)
      (refused-admit t table from_state 21 table (λ h. absurd (not-both (below_on t h).below f)) (λ h. absurd (not-both (below_on t h).below f)) (λ h. absurd (not-both (below_on t h).below f))
      (λ h. absurd (not-both (below_on t h).below f)))
  admit-by t table r long (AdmitView.joins e n f s) = subst (AdmitMeans b t table) (sym s) (joined-admit t e table n f)
  admit-by t table r long (AdmitView.tight n f can s) =
      subst (AdmitMeans b t table) (sym s)
      (refused-admit t table from_state 23 (filled y es table) (nowhere-admits t from_state 23 n.known f)
      (λ h. (λ a. (λ e. takes_none t e n.known f, (room-on t n).0 (can-place t n can)), λ p. refl))
      (not-24 t (refused from_state 23) n (can-place t n can) (λ z. cc))
      (λ h. full-on table long))
  admit-by t table r long (AdmitView.no_room n f cannot s) =
      subst (AdmitMeans b t table) (sym s)
      (refused-admit t table from_state 24 (filled y es table) (nowhere-admits t from_state 24 n.known f)
      (λ h. (λ a. differ a (λ z. cc), λ p. absurd (cannot-place t n cannot ((room-on t n).1 p.1))))
      (says-24 t n (cannot-place t n cannot))
      (λ h. full-on table long))

  -- main: seat

  abbrev Seats : ℕ → Outcome → Type 0
  Seats t o = BelowCeiling b t → (is_accepted o ≡ true) ↔ Room b t

  refused-seat : (t : ℕ) (table : Lent) (o : Source) (n : ℕ) (left : Lent) → Seats t (refused o n) → Says24 t (refused o n) → (BelowCeiling b t → Full table left) → SeatMeans b t table (result (refused o n) b left)
  refused-seat t table o n left p q full = record { seats = p; no_room = q; answer = λ h. absurd (false≢true h); packs = λ h. absurd (false≢true h); recovers = λ h. absurd (false≢true h); left_filled = full }

  pub seat-by : (t : ℕ) (table : Lent) (r : Result) → LongEnough y table → SeatView y ms xs t table r → SeatMeans b t table r
  seat-by t table r long (SeatView.unknown k s) =
      subst (SeatMeans b t table) (sym s)
      (refused-seat t table from_input 13 table (λ h. absurd (not-both (below_on t h).known k)) (λ h. absurd (not-both (below_on t h).known k)) (λ h. absurd (not-both (below_on t h).known k)))
  seat-by t table r long (SeatView.full k f s) =
      subst (SeatMeans b t table) (sym s)
      (refused-seat t table from_state 21 table (λ h. absurd (not-both (below_on t h).below f)) (λ h. absurd (not-both (below_on t h).below f)) (λ h. absurd (not-both (below_on t h).below f)))
  seat-by t table r long (SeatView.seats n can s) =
      subst (SeatMeans b t table) (sym s)
      (record {
        seats = λ h. (λ a. (room-on t n).0 (can-place t n can), λ room. refl);
        no_room = not-24 t (accepted []) n (can-place t n can) (λ z. cc);
        answer = λ h. refl;
        packs = λ h. packed-on (with_one xs t) (length-with_one y ms xs keeps v served t) (with_one-within y ms xs keeps v served t n) can (plus_one t (stands_no b)) (with_out t n.known);
        recovers = λ h. recovered-in (with_one xs t) (length-with_one y ms xs keeps v served t) (with_one-within y ms xs keeps v served t n) can (plus_one t (stands_no b)) (with_out t n.known) table long;
        left_filled = λ h. full-on table long;
      })
  seat-by t table r long (SeatView.no_room n cannot s) =
      subst (SeatMeans b t table) (sym s)
      (refused-seat t table from_state 24 (filled y es table)
      (λ h. (λ a. absurd (false≢true a), λ room. absurd (cannot-place t n cannot ((room-on t n).1 room))))
      (says-24 t n (cannot-place t n cannot))
      (λ h. full-on table long))

  -- main: retire

  refused-retire : (t e : ℕ) (o : Source) (n : ℕ) (table : Lent) → (HoldsType b t e → ⊥) → RetireMeans b t e (result (refused o n) b table)
  refused-retire t e o n table p = record {
    retires = (λ a. absurd (false≢true a), λ h. absurd (p h));
    answer = λ h. absurd (false≢true h);
    leaves = λ h. absurd (false≢true h);
    stands = λ h. absurd (false≢true h);
    frees = λ h. absurd (false≢true h);
    is_true = λ h. absurd (false≢true h);
  }

  pub retire-by : (t e : ℕ) (table : Lent) (r : Result) → RetireView y ms xs t table r e → RetireMeans b t e r
  retire-by t e table r (RetireView.unknown k s) =
      subst (RetireMeans b t e) (sym s) (refused-retire t e from_input 13 table (λ h. not-both (known_of t h.is_type) k))
  retire-by t e table r (RetireView.no_engine k d s) =
      subst (RetireMeans b t e) (sym s) (refused-retire t e from_input 14 table (λ h. not-both (engine-known e h.is_engine) d))
  retire-by t e table r (RetireView.none_there k d none s) =
      subst (RetireMeans b t e) (sym s)
      (refused-retire t e from_state 22 table (λ h. not-both (le-leb 1 (count_in xs t e) (omega (arith, h.some, count-out y ms xs keeps v served e t))) none))
  retire-by t e table r (RetireView.leaves known d held is) =
      subst (RetireMeans b t e) (sym is)
      (record {
        retires = (λ a. there, λ h. refl);
        answer = λ h. refl;
        leaves = λ h. left-on t e known on some w k;
        stands = λ h u low.
            stands_on y ms xs keeps v served u
            ∙ less-out t (type-range t known).0 (total xs) (omega (arith, some, count-le-sum type_limit xs (e - 1) (t - 1) v.sized (inside e on))) u low
            ∙ ap (λ (n : ℕ). n + cond (eqb u t) 1 0) (sym (stands_on y ms after keeps w k u ∙ ap (λ (z : List ℕ). get_or z (u - 1) 0) (total_left y xs v (e - 1) (t - 1) index some)));
        frees = λ h. frees-on y ms xs keeps v served t e index some w k;
        is_true = λ h. true-on y ms after keeps w k;
      })
    where
      after : List (List ℕ)
      after = set xs (e - 1) (left_at xs t e)

      on : (1 ≤ e) × (e ≤ y.engines)
      on = known-engine y ms xs keeps v served e d

      index : e - 1 < y.engines
      index = omega (arith, on.0, on.1)

      some : 1 ≤ count_in xs t e
      some = leb-true 1 (count_in xs t e) held

      w : Valid y after
      w = valid-left y xs v (e - 1) (t - 1) index some

      k : Served y ms after
      k = served-set y ms xs served (e - 1) (left_at xs t e) (held-unmarked y ms xs served (e - 1) (t - 1) some)

      there : HoldsType b t e
      there = record { is_type = known-type y ms xs keeps v served t known; is_engine = on; some = omega (arith, some, count-out y ms xs keeps v served e t) }

  -- main: repack

  pub repack-by : (table : Lent) → LongEnough y table → RepackMeans b table (repack_of b table)
  repack-by table long =
      subst (RepackMeans b table) (sym (repack-view y ms xs keeps v served table ((long-enough-out y table keeps).1 long)))
      (record {
        repacks = refl;
        packs = packed-on (total xs) (length-total v) v.ceiling (total-placeable y ms xs keeps v served) (stands_no b) (λ t low. sym (stands_on y ms xs keeps v served t));
        recovers = recovered-in (total xs) (length-total v) v.ceiling (total-placeable y ms xs keeps v served) (stands_no b) (λ t low. sym (stands_on y ms xs keeps v served t)) table long;
        left_filled = full-on table long;
      })

  -- main: withdraw and restore

  -- an engine's mark set, or taken away
  mark_on : (e : ℕ) (mark : Bool) → IsEngine b e → MarkOn b e mark (board_on y (set ms (e - 1) mark) xs)
  mark_on e mark on = record { system = refl; loads = refl; marks = λ d low. marked-on y (set ms (e - 1) mark) xs d ∙ go d low (eqb d e) refl }
    where
      go : (d : ℕ) → 1 ≤ d → (p : Bool) → eqb d e ≡ p → get_or (set ms (e - 1) mark) (d - 1) false ≡ cond p mark (mark_no b d)
      go d low true q =
          ap (λ (i : ℕ). get_or (set ms (e - 1) mark) (i - 1) false) (eqb-true d e q) ∙ get_or-set_same ms (e - 1) mark false (omega (arith, served.count, on.0, on.1))
      go d low false q =
          get_or-set_other ms (e - 1) (d - 1) mark false (λ same. eqb-false d e q (omega (arith, low, on.0))) ∙ sym (marked-on y ms xs d)

  -- an engine whose row holds no instance, in plain words
  pub empty-row : (e : ℕ) → IsEngine b e → holds_none (load_in xs (e - 1)) ≡ true → load_in xs (e - 1) ≡ empty_load
  empty-row e on h = holds_none-is-zero (load_in xs (e - 1)) h ∙ ap (λ (k : ℕ). replicate k 0) (length-load_in v (e - 1) (inside e on))

  holds-none : (e : ℕ) → HoldsNothing (record_no b.loads e) → holds_none (load_in xs (e - 1)) ≡ true
  holds-none e none =
      zeros-none (load_in xs (e - 1)) (λ j. let back : suc j - 1 ≡ j = omega arith in
      subst (λ (k : ℕ). get_or (load_in xs (e - 1)) k 0 ≡ 0) back (sym (count-out y ms xs keeps v served e (suc j)) ∙ none.counts (suc j)))

  refused-withdraw : (e : ℕ) (o : Source) (n : ℕ) (table : Lent) → (EngineIn b e → HoldsNothing (record_no b.loads e) → ⊥) → WithdrawMeans b e (result (refused o n) b table)
  refused-withdraw e o n table p = record {
    withdraws = (λ a. absurd (false≢true a), λ h. absurd (p h.0 h.1));
    answer = λ h. absurd (false≢true h);
    marks = λ h. absurd (false≢true h);
    is_true = λ h. absurd (false≢true h);
  }

  pub withdraw-by : (e : ℕ) (table : Lent) (r : Result) → WithdrawView y ms xs e table r → WithdrawMeans b e r
  withdraw-by e table r (WithdrawView.no_engine d s) =
      subst (WithdrawMeans b e) (sym s) (refused-withdraw e from_input 14 table (λ h none. not-both (engine-known e h.is_engine) d))
  withdraw-by e table r (WithdrawView.already d m s) =
      subst (WithdrawMeans b e) (sym s) (refused-withdraw e from_state 36 table (λ h none. not-both m (sym (marked-on y ms xs e) ∙ h.in_service)))
  withdraw-by e table r (WithdrawView.holds d m some s) =
      subst (WithdrawMeans b e) (sym s) (refused-withdraw e from_state 35 table (λ h none. not-both (holds-none e none) some))
  withdraw-by e table r (WithdrawView.goes d m none s) =
      let on = known-engine y ms xs keeps v served e d in
      let row = empty-row e on none in
      subst (WithdrawMeans b e) (sym s)
      (record {
        withdraws = (λ a. (record { is_engine = on; in_service = marked-on y ms xs e ∙ m }, idle-on y ms xs keeps v served e row), λ h. refl);
        answer = λ h. refl;
        marks = λ h. mark_on e true on;
        is_true = λ h. true-on y (set ms (e - 1) true) xs keeps v (served-marked y ms xs served (e - 1) row);
      })

  refused-restore : (e : ℕ) (o : Source) (n : ℕ) (table : Lent) → (IsEngine b e → mark_no b e ≡ true → ⊥) → RestoreMeans b e (result (refused o n) b table)
  refused-restore e o n table p = record {
    restores = (λ a. absurd (false≢true a), λ h. absurd (p h.0 h.1));
    answer = λ h. absurd (false≢true h);
    marks = λ h. absurd (false≢true h);
    is_true = λ h. absurd (false≢true h);
  }

  pub restore-by : (e : ℕ) (table : Lent) (r : Result) → RestoreView y ms xs e table r → RestoreMeans b e r
  restore-by e table r (RestoreView.no_engine d s) =
      subst (RestoreMeans b e) (sym s) (refused-restore e from_input 14 table (λ on m. not-both (engine-known e on) d))
  restore-by e table r (RestoreView.already d none s) =
      subst (RestoreMeans b e) (sym s) (refused-restore e from_state 36 table (λ on m. not-both m (marked-on y ms xs e ∙ none)))
  restore-by e table r (RestoreView.comes d m s) =
      let on = known-engine y ms xs keeps v served e d in
      subst (RestoreMeans b e) (sym s)
      (record {
        restores = (λ a. (on, marked-on y ms xs e ∙ m), λ h. refl);
        answer = λ h. refl;
        marks = λ h. mark_on e false on;
        is_true = λ h. true-on y (set ms (e - 1) false) xs keeps v (served-cleared y ms xs served (e - 1));
      })
