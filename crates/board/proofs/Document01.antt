-- Calls on a board are those that document 01's own table gives: a row of it says yes exactly where there is room on the engines in service, and the two parts keep every recovery.
use Prim.Native.Nat.{ℕ, ◌+◌, ◌-◌, ◌≤◌}
use mathlib.Core.Path.{◌≡◌, sym, ap, subst, ◌∙◌}
use mathlib.Core.List.{List}
use mathlib.Core.Bool.{true, cond, false≢true}
use mathlib.Core.Logic.{◌↔◌}
use native.Mathlib.Omega.{arith}
use borrow.Author.Tests.{le-leb, lt-ltb}
use lib.ListN.{length, get_or}
use lib.Dec.{leb, eqb}
use Rattle.system.specs.declared.System.{System}
use Rattle.system.specs.Values.{ceilings_of}
use Rattle.system.specs.Limits.{type_limit}
use Rattle.system.specs.Outcome.{is_accepted}
use Rattle.system.proofs.Laws.{Limits, limits_of}
use Rattle.loads.specs.Load.{within}
use Rattle.loads.proofs.Order.{and_both}
use Rattle.partition.specs.Assignment.{Assignment, engines_to}
use Rattle.partition.specs.Lent.{Lent}
use Rattle.partition.specs.Plain.{LongEnough, Partition, Impossible}
use Rattle.partition.proofs.Lists.{length-engines_to}
use Rattle.partition.proofs.Standing.{total, length-total}
use Rattle.partition.proofs.Plain.{ceiling-out}
use Rattle.table.specs.Table.{filled_to, filled}
use Rattle.table.specs.Meaning.{RecoveredBy}
use Rattle.table.proofs.Document01.{no-row-01, some-row-01, recovered-01}
use Rattle.board.specs.declared.Board.{Board}
use Rattle.board.specs.Boards.{engines_of}
use Rattle.board.specs.Calls.{Result}
use Rattle.board.specs.Words.{stands_no, plus_one, used_records, EngineIn, serving_all, BelowCeiling, Room, NoRoom, IsTrue, RecoveredOn}
use Rattle.board.specs.Meaning.{AdmitMeans, SeatMeans, RepackMeans, AdmitPromises, SeatPromises, RepackPromises}
use Rattle.board.specs.Document01.{filled_on01, NoRowOn01, RecoveredOn01, AdmitBy01, SeatBy01, RepackBy01}
use Rattle.board.proofs.Places.{engines-distinct, engines-known, engines-count, engines-in, engines-number}
use Rattle.board.proofs.Plain.{more-out}
use Rattle.board.proofs.Truth.{Truth, truth-of}
use Rattle.board.proofs.TrueMeans.{stands-said, true-means}
use Rattle.board.proofs.Views.{with_one, Newcomer, length-with_one, with_one-within}

-- intermediate: a table filled for as many engines as are in service
filled_is : (b : Board) (table : Lent) → filled b.system (engines_to (serving_all b)) table ≡ filled_to b.system (serving_all b) table
filled_is b table = ap (λ (n : ℕ). filled_to b.system n table) (length-engines_to (serving_all b))

module _ (b : Board) (w : IsTrue b) (table01 : List ℕ) where
  abbrev y : System
  y = b.system

  truth : Truth b
  truth = truth-of b ((true-means b).tests.1 w)

  limits : Limits b.system
  limits = limits_of b.system truth.keeps

  few : serving_all b ≤ b.system.engines
  few = omega (arith, engines-number b, engines-count b)

  -- intermediate: a load x within the ceilings, of count(t) instances of each type

  module _ (x : List ℕ) (six : length x ≡ type_limit) (under : within x (ceilings_of y) ≡ true) (count : ℕ → ℕ) (counts : (t : ℕ) → 1 ≤ t → get_or x (t - 1) 0 ≡ count t) where
    no_row : Impossible y (EngineIn b) count ↔ NoRowOn01 b table01 count
    no_row =
        no-row-01 y limits x six under count counts table01
        (engines_of b) (engines-distinct b) (engines-known b) (EngineIn b) (engines-in b) (serving_all b) (engines-number b)

    some-row : ((χ : Assignment) × Partition y (EngineIn b) count χ) ↔ (NoRowOn01 b table01 count → ⊥)
    some-row =
        some-row-01 y limits x six under count counts table01
        (engines_of b) (engines-distinct b) (engines-known b) (EngineIn b) (engines-in b) (serving_all b) (engines-number b)

    in_table : (table left : Lent) (after : Board) → LongEnough y table → left ≡ filled_to y (serving_all b) table → (NoRowOn01 b table01 count → ⊥)
        → RecoveredOn b left count after → RecoveredOn01 b (filled_on01 b table01) count after
    in_table table left after long is some R = record {
      row = R.row;
      reads =
          recovered-01 y limits x six under count counts table01 (serving_all b) few table long some (used_records after.loads) R.row
          (subst (λ (l : Lent). RecoveredBy y l (used_records after.loads) count R.row) is R.reads);
      holds = R.holds;
    }

  -- intermediate: what stands, and with a newcomer

  abbrev xs : List (List ℕ)
  xs = truth.rows

  stands-is : (t : ℕ) → stands_no b t ≡ get_or (total xs) (t - 1) 0
  stands-is t = stands-said b w t ∙ ap (λ (l : List ℕ). get_or l (t - 1) 0) truth.stands

  module _ (t : ℕ) (below : BelowCeiling b t) where
    newcomer : Newcomer y xs t
    newcomer = record {
      known = and_both (leb 1 t) (leb t y.typecount) (le-leb 1 t below.is_type.0) (le-leb t y.typecount below.is_type.1);
      below = lt-ltb (get_or (total xs) (t - 1) 0) (get_or (ceilings_of y) (t - 1) 0) (omega (arith, below.fewer, stands-is t, ceiling-out y t));
    }

    with-six : length (with_one xs t) ≡ type_limit
    with-six = length-with_one y truth.marks xs truth.keeps truth.valid truth.served t

    with-under : within (with_one xs t) (ceilings_of y) ≡ true
    with-under = with_one-within y truth.marks xs truth.keeps truth.valid truth.served t newcomer

    with-counts : (u : ℕ) → 1 ≤ u → get_or (with_one xs t) (u - 1) 0 ≡ plus_one t (stands_no b) u
    with-counts u low =
        more-out t below.is_type.0 (total xs) (omega (arith, below.is_type.1, limits.typecount, length-total truth.valid)) u low
        ∙ ap (λ (n : ℕ). n + cond (eqb u t) 1 0) (sym (stands-is u))

    no_room_lem : NoRoom b t ↔ NoRowOn01 b table01 (plus_one t (stands_no b))
    no_room_lem = no_row (with_one xs t) with-six with-under (plus_one t (stands_no b)) with-counts

    room : Room b t ↔ (NoRowOn01 b table01 (plus_one t (stands_no b)) → ⊥)
    room = some-row (with_one xs t) with-six with-under (plus_one t (stands_no b)) with-counts

    -- main: admit and seat

    admit-01 : (table : Lent) (r : Result) → AdmitMeans b t table r → AdmitBy01 b t table01 r
    admit-01 table r m = record {
      tight = ((λ o. let p = (m.tight below).0 o in (p.0, room.0 p.1)), (λ p. (m.tight below).1 (p.0, room.1 p.1)));
      no_room = (
        (λ o. ((λ e takes. false≢true (sym (ap is_accepted o) ∙ (m.admits below).1 (e, takes))), no_room_lem.0 ((m.no_room below).0 o))),
        (λ p. (m.no_room below).1 (no_room_lem.1 p.1)),
      );
    }

    seat-01 : (table : Lent) (r : Result) → LongEnough y table → (is_accepted r.outcome ≡ true → r.table ≡ filled_to y (serving_all b) table) → SeatMeans b t table r → SeatBy01 b t table01 r
    seat-01 table r long left m = record {
      none = ((λ o. no_room_lem.0 ((m.no_room below).0 o)), (λ n. (m.no_room below).1 (no_room_lem.1 n)));
      some = λ n. m.answer ((m.seats below).1 (room.1 n));
      given = λ o.
          let yes-said = ap is_accepted o in
          in_table (with_one xs t) with-six with-under (plus_one t (stands_no b)) with-counts table r.table r.board long (left yes-said) (room.0 ((m.seats below).0 yes-said)) (m.recovers yes-said);
    }

  -- main: repack

  repack-01 : (table : Lent) (r : Result) → LongEnough y table → (is_accepted r.outcome ≡ true → r.table ≡ filled_to y (serving_all b) table) → RepackMeans b table r → RepackBy01 b table01 r
  repack-01 table r long left m = record {
    some = some;
    answer = m.repacks;
    given = in_table (total xs) (length-total truth.valid) truth.valid.ceiling (stands_no b) counts table r.table r.board long (left (ap is_accepted m.repacks)) some m.recovers;
  }
    where
      counts : (t : ℕ) → 1 ≤ t → get_or (total xs) (t - 1) 0 ≡ stands_no b t
      counts t low = sym (stands-is t)

      some : NoRowOn01 b table01 (stands_no b) → ⊥
      some none =
          let s = (true-means b).placed w in
          (no_row (total xs) (length-total truth.valid) truth.valid.ceiling (stands_no b) counts).1 none s.mapping s.partition

-- main: of what each call promises. Nothing is asked of the size of the system or of the old table: document 01 spoke of at most 1,024 columns and of tables of (m+1) × columns entries or more, which are among these

pub admit-by-01 : (b : Board) (t : ℕ) (table01 : List ℕ) (table : Lent) (r : Result) → IsTrue b → LongEnough b.system table → BelowCeiling b t
    → AdmitPromises b t table r → AdmitBy01 b t table01 r
admit-by-01 b t table01 table r w long below p = admit-01 b w table01 t below table r (p.means w long)

pub seat-by-01 : (b : Board) (t : ℕ) (table01 : List ℕ) (table : Lent) (r : Result) → IsTrue b → LongEnough b.system table → BelowCeiling b t
    → SeatPromises b t table r → SeatBy01 b t table01 r
seat-by-01 b t table01 table r w long below p = seat-01 b w table01 t below table r long (λ a. p.demand1.on_accept a ∙ filled_is b table) (p.means w long)

pub repack-by-01 : (b : Board) (table01 : List ℕ) (table : Lent) (r : Result) → IsTrue b → LongEnough b.system table
    → RepackPromises b table r → RepackBy01 b table01 r
repack-by-01 b table01 table r w long p = repack-01 b w table01 table r long (λ a. p.demand1.on_accept a ∙ filled_is b table) (p.means w long)
