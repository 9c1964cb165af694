-- Each closed statement of specs/Every, from the theorem that it says again: what the theorem supposes is made from numbers, and its words for bounds are taken apart into numbers.
use Prim.Native.Nat.{ℕ, suc, ◌+◌, ◌-◌, ◌≤◌, ◌<◌}
use mathlib.Core.List.{List, [], ◌∷◌}
use mathlib.Core.Bool.{Bool, true, false, cond, not, ◌||◌, false≢true}
use mathlib.Core.Path.{◌≡◌, refl, sym, subst}
use native.Mathlib.Nat.{suc_inj}
use native.Mathlib.Omega.{arith}
use borrow.Author.Tests.{eqb-true, leb-true, leb-false}
use lib.ListN.{length, get_or}
use lib.Dec.{eqb, leb}
use Rattle.system.specs.declared.System.{System}
use Rattle.system.specs.Outcome.{Outcome, outcome_of}
use Rattle.loads.proofs.Order.{and_both}
use Rattle.partition.specs.Assignment.{among}
use Rattle.partition.specs.OwnWords.{no_type}
use Rattle.partition.specs.Shares.{distinct}
use Rattle.partition.specs.ForSystem.{row_for}
use Rattle.partition.specs.Plain.{EngineOf, record_no}
use Rattle.partition.specs.Releases.{larger, Bounds, Within, instances_in, RowIsFewest, TwoReleases}
use Rattle.partition.proofs.Releases.{row-is-fewest, two-releases}
use Rattle.partition.proofs.ReleaseSheets.{sheets-add, shared-no-more, sheets-share}
use Rattle.table.specs.Meaning.{column_no, row_of}
use Rattle.table.proofs.Releases.{table-releases}
use Rattle.planner.specs.Demands.{entry_no}
use Rattle.planner.specs.Document01.{PlanBy01}
use Rattle.planner.proofs.Document01.{plan-by-01, list-by-01}
use Rattle.board.specs.declared.Board.{Board}
use Rattle.board.specs.Boards.{engines_of}
use Rattle.board.specs.Words.{stands_no, plus_one}
use Rattle.board.specs.Document01.{filled_on01, RecoveredOn01}
use Rattle.board.proofs.Releases.{board-releases}
use Rattle.board.proofs.Document01.{admit-by-01, seat-by-01, repack-by-01}
use Rattle.cases.specs.Every.{ServingGiven, FewestOn, RowsAddOn, FewestAddOn, RowsAreFewest, LoadsAdd, InstancesAdd, TablesAdd, BoardsAdd, SheetsAddEvery, SharedNeverMore, SheetsShareEvery, PlannedIn01, PlansBy01, ListsBy01, AdmitsBy01, PackedIn01, SeatsBy01, RepacksBy01}
use Rattle.cases.proofs.SupposedShown.{sums-given}

-- intermediate: bounds in numbers

-- what is at least the larger of two numbers is at least each
larger-parts : (a b c : ℕ) → larger a b ≤ c → (a ≤ c) × (b ≤ c)
larger-parts a b c h = go (leb a b) refl h
  where
    go : (t : Bool) → leb a b ≡ t → cond t b a ≤ c → (a ≤ c) × (b ≤ c)
    go true e k = (omega (arith, leb-true a b e, k), k)
    go false e k = (k, omega (arith, leb-false a b e, k))

pub bounds-out : (a b c : ℕ) → Bounds a b c → (c ≤ a + b) × (a ≤ c) × (b ≤ c)
bounds-out a b c h = let p = larger-parts a b c h.at_least in (h.at_most, p.0, p.1)

within-given : (y : System) (x : List ℕ) → length x ≡ 6 → ((i : ℕ) → get_or x i 0 ≤ (get_or y.types i no_type).ceiling) → Within y x
within-given y x six inside = record { six = six; ceilings = λ t low. inside (t - 1) }

-- main: engines in service

-- a number that is in a list is at some place of it
among-at : (es : List ℕ) (e : ℕ) → among es e ≡ true → (i : ℕ) × (i < length es) × (get_or es i 0 ≡ e)
unfolding among
among-at [] e h = absurd (false≢true h)
among-at (d ∷ es) e h = go (eqb d e) refl h (among-at es e)
  where
    go : (b : Bool) → eqb d e ≡ b → (b || among es e) ≡ true → (among es e ≡ true → (i : ℕ) × (i < length es) × (get_or es i 0 ≡ e)) → (i : ℕ) × (i < length (d ∷ es)) × (get_or (d ∷ es) i 0 ≡ e)
    go true q k rest = (0, omega arith, eqb-true d e q)
    go false q k rest = let r = rest k in (suc r.0, omega (arith, r.1), r.2)

distinct-given : (es : List ℕ) → ((i j : ℕ) → i < length es → j < length es → get_or es i 0 ≡ get_or es j 0 → i ≡ j) → distinct es ≡ true
unfolding distinct
distinct-given [] h = refl
distinct-given (e ∷ es) h = and_both (not (among es e)) (distinct es) (go (among es e) refl) (distinct-given es (λ i j hi hj q. suc_inj (h (suc i) (suc j) (omega (arith, hi)) (omega (arith, hj)) q)))
  where
    go : (b : Bool) → among es e ≡ b → not b ≡ true
    go true q = let at = among-at es e q in absurd (omega (arith, h 0 (suc at.0) (omega arith) (omega (arith, at.1)) (sym at.2)))
    go false q = refl

pub serving-given : ServingGiven
serving-given y es once inside = record { once = distinct-given es once; engines = engines }
  where
    engines : (e : ℕ) → among es e ≡ true → EngineOf y e
    engines e h = let at = among-at es e h in subst (EngineOf y) at.2 (inside at.0 at.1)

-- main: two releases

module _ (y : System) (es : List ℕ) where
  fewest-on : RowIsFewest y es → FewestOn y es
  fewest-on h x six inside =
      let w = within-given y x six inside in
      (h.fewest x w, (λ r. h.only x r w), h.none x w)

  rows-add-on : TwoReleases y es → RowsAddOn y es
  rows-add-on h a b both la lb lc sums inside few = bounds-out (row_for y es a) (row_for y es b) (row_for y es both) (h.rows a b both ((sums-given y a b).sums both la lb lc sums inside) few)

  fewest-add-on : TwoReleases y es → FewestAddOn y es
  fewest-add-on h a b both first second la lb lc sums inside f g few =
      let r = h.plainly a b both first second ((sums-given y a b).sums both la lb lc sums inside) f g few in
      let (most, one, other) = bounds-out first second r.0 r.2 in
      (r.0, r.1, most, one, other)

pub rows-are-fewest : RowsAreFewest
rows-are-fewest file y es reads s = fewest-on y es (row-is-fewest file y reads es s)

pub loads-add : LoadsAdd
loads-add file y es reads s = rows-add-on y es (two-releases file y reads es s)

pub instances-add : InstancesAdd
instances-add file y es reads s = fewest-add-on y es (two-releases file y reads es s)

pub tables-add : TablesAdd
tables-add file y r table after reads few filled a b both la lb lc sums inside h =
    let first = row_of after (column_no y (instances_in a)) in
    let second = row_of after (column_no y (instances_in b)) in
    let t = table-releases file y reads r table after few filled a b both first second ((sums-given y a b).sums both la lb lc sums inside)
    (record { within = omega (arith, h); says = refl }) (record { within = omega (arith, h); says = refl }) h in
    subst (λ (c : ℕ). (c ≤ first + second) × (first ≤ c) × (second ≤ c)) (sym t.1.says) (bounds-out first second t.0 t.2)

pub boards-add : BoardsAdd
boards-add b true-board =
    let h = board-releases b true-board in
    (h.exactly, h.number, fewest-on b.system (engines_of b) h.rows, rows-add-on b.system (engines_of b) h.together, fewest-add-on b.system (engines_of b) h.together)

pub sheets-add-every : SheetsAddEvery
sheets-add-every f1 f2 f3 first second both a b r1 r2 r3 releases f g h =
    let r = sheets-add f1 f2 f3 first second both r1 r2 r3 releases a b f g h in
    let (most, one, other) = bounds-out a b r.0 r.2 in
    (r.0, r.1, most, one, other)

-- main: the two rules

pub shared-never-more : SharedNeverMore
shared-never-more f1 f2 own shared es r1 r2 alike s =
    let h = shared-no-more f1 f2 own shared r1 r2 alike es s in
    ((λ x six inside. h.rows x (within-given own x six inside)), h.feasible, (λ x r six inside. h.plainly x r (within-given own x six inside)))

pub sheets-share-every : SheetsShareEvery
sheets-share-every f1 f2 own shared a r1 r2 alike f = sheets-share f1 f2 own shared r1 r2 alike a f

-- main: the calls by document 01's own table

planned-in : (y : System) (table01 : List ℕ) (outcome : Outcome) (row : ℕ → ℕ → ℕ) → PlanBy01 y table01 outcome row → PlannedIn01 y table01 outcome row
planned-in y table01 outcome row h = (h.none, h.some, h.given)

pub plans-by-01 : PlansBy01
plans-by-01 file y table01 table room r after reads long enough p =
    planned-in y table01 (outcome_of r.answer) (λ (e t : ℕ). get_or (record_no r.loads e).counts (t - 1) 0) (plan-by-01 file y table01 table room r after reads long enough p)

pub lists-by-01 : ListsBy01
lists-by-01 file y table01 table list answer after list_after reads long enough p =
    planned-in y table01 (outcome_of answer) (λ (e t : ℕ). get_or (entry_no list_after e).load.counts (t - 1) 0) (list-by-01 file y table01 table list answer after list_after reads long enough p)

pub admits-by-01 : AdmitsBy01
admits-by-01 b t table01 table r w long below p = let h = admit-by-01 b t table01 table r w long below p in (h.tight, h.no_room)

packed-in : (b after : Board) (table01 : List ℕ) (count : ℕ → ℕ) → RecoveredOn01 b (filled_on01 b table01) count after → PackedIn01 b table01 count after
packed-in b after table01 count h = (h.row, h.reads, h.holds)

pub seats-by-01 : SeatsBy01
seats-by-01 b t table01 table r w long below p =
    let h = seat-by-01 b t table01 table r w long below p in
    (h.none, h.some, λ o. packed-in b r.board table01 (plus_one t (stands_no b)) (h.given o))

pub repacks-by-01 : RepacksBy01
repacks-by-01 b table01 table r w long p =
    let h = repack-by-01 b table01 table r w long p in
    (h.some, h.answer, packed-in b r.board table01 (stands_no b) h.given)
