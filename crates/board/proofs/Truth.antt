-- A board is true exactly when it is the board of valid loads and marks on the engines 1 to m, with empty unmarked engines past them and nothing on a marked one;
-- and what standing, an engine's load, its mark, and a changed load or mark are on such a board.
use Prim.Native.Nat.{ℕ, zero, suc, ◌-◌, ◌≤◌, ◌<◌, zero-le}
use mathlib.Core.Path.{◌≡◌, refl, sym, ap, subst, ◌∙◌}
use mathlib.Core.List.{List, [], ◌∷◌, ◌++◌, map}
use mathlib.Core.Bool.{Bool, true, false, cond, ◌&&◌, true≢false}
use native.Mathlib.Nat.{le_of_suc-le-suc, sub-zero, suc-sub-suc}
use native.Mathlib.Omega.{arith}
use borrow.Author.Tests.{eq-eqb, eqb-true, leb-true, le-leb, ltb-true, ltb-false}
use lib.ListN.{length, get_or, set, take, replicate, length-map, length-append, length-replicate, get_or-eq_default}
use lib.Seq.{set-append_left, length-take-le}
use lib.Dec.{eqb, leb, ltb}
use Rattle.system.specs.declared.System.{System}
use Rattle.system.specs.Values.{ceilings_of}
use Rattle.system.specs.Limits.{keeps_limits, engine_limit, type_limit}
use Rattle.system.proofs.Laws.{limits_of}
use Rattle.loads.specs.declared.EngineLoad.{EngineLoad}
use Rattle.loads.specs.Load.{time_of, memory_of, fits_engine, holds_none, within, empty_load, engine_with, idle_engine}
use Rattle.loads.proofs.Order.{and_parts, and_both, cons-path, holds_none-is-zero}
use Rattle.loads.proofs.Laws.{engine_with-idle}
use Rattle.partition.specs.Assignment.{every, engines_to}
use Rattle.partition.specs.Shares.{sum_of}
use Rattle.partition.proofs.Lists.{every-parts, every-get_or, every-engines_to, get_or-padded}
use Rattle.partition.proofs.Recovery.{sum_of-padded}
use Rattle.partition.proofs.Standing.{Valid, total, load_in, engine-in}
use Rattle.board.specs.declared.Board.{Board}
use Rattle.board.specs.Boards.{board_of, with_load, with_mark, marked, load_at, counts_of, standing}
use Rattle.board.specs.Truth.{true_engine, zero_engine, true_loads, mark_true, true_marks, true_board}

-- the board of a system with these marks and loads on its engines 1 to m, unmarked and empty past them
abbrev pub padded : System → List (List ℕ) → List (List ℕ)
padded y xs = xs ++ replicate (engine_limit - y.engines) empty_load

abbrev pub padded_marks : System → List Bool → List Bool
padded_marks y ms = ms ++ replicate (engine_limit - y.engines) false

abbrev pub board_on : System → List Bool → List (List ℕ) → Board
board_on y ms xs = board_of y (padded_marks y ms) (padded y xs)

-- a mark for each of the engines 1 to m, and nothing on those that have one
pub record Served (y : System) (ms : List Bool) (xs : List (List ℕ)) : Type 0 where
  pub count : length ms ≡ y.engines
  pub idle : (i : ℕ) → get_or ms i false ≡ true → load_in xs i ≡ empty_load

-- main: what stands, and an engine's load

pub counts-board_of : (y : System) (ms : List Bool) (xs : List (List ℕ)) → counts_of (board_of y ms xs).loads ≡ xs
counts-board_of y ms [] = refl
counts-board_of y ms (x ∷ xs) = cons-path refl (counts-board_of y ms xs)

pub standing_on : (y : System) (ms : List Bool) (xs : List (List ℕ)) → standing (board_on y ms xs) ≡ total xs
standing_on y ms xs = ap (sum_of type_limit) (counts-board_of y ms (padded y xs)) ∙ sum_of-padded type_limit (engine_limit - y.engines) xs

pub engine-on : (y : System) (ms : List Bool) (xs : List (List ℕ)) (i : ℕ) → get_or (board_on y ms xs).loads i idle_engine ≡ engine_with y (load_in xs i)
engine-on y ms xs i = engine-in y (padded y xs) i ∙ ap (engine_with y) (get_or-padded xs (engine_limit - y.engines) i empty_load)

pub load_at-on : (y : System) (ms : List Bool) (xs : List (List ℕ)) (e : ℕ) → load_at (board_on y ms xs) e ≡ load_in xs (e - 1)
load_at-on y ms xs e = ap (λ (l : EngineLoad). l.counts) (engine-on y ms xs (e - 1))

pub marked-on : (y : System) (ms : List Bool) (xs : List (List ℕ)) (e : ℕ) → marked (board_on y ms xs) e ≡ get_or ms (e - 1) false
marked-on y ms xs e = get_or-padded ms (engine_limit - y.engines) (e - 1) false

map-set : {A B : Type 0} (f : A → B) (l : List A) (i : ℕ) (x : A) → set (map f l) i (f x) ≡ map f (set l i x)
map-set f [] i x = refl
map-set f (a ∷ l) zero x = refl
map-set {B = B} f (a ∷ l) (suc i) x = ap (λ (r : List B). f a ∷ r) (map-set f l i x)

pub with_load-on : (y : System) (ms : List Bool) (xs : List (List ℕ)) (e : ℕ) (x : List ℕ) → e - 1 < length xs → with_load (board_on y ms xs) e x ≡ board_on y ms (set xs (e - 1) x)
with_load-on y ms xs e x h =
    ap (λ (ls : List EngineLoad). record { system = y; loads = ls; marks = padded_marks y ms })
    (map-set (engine_with y) (padded y xs) (e - 1) x
    ∙ ap (map (engine_with y)) (set-append_left xs (replicate (engine_limit - y.engines) empty_load) (e - 1) x h))

pub with_mark-on : (y : System) (ms : List Bool) (xs : List (List ℕ)) (e : ℕ) (mark : Bool) → e - 1 < length ms → with_mark (board_on y ms xs) e mark ≡ board_on y (set ms (e - 1) mark) xs
with_mark-on y ms xs e mark h =
    ap (λ (l : List Bool). record { system = y; loads = (board_on y ms xs).loads; marks = l })
    (set-append_left ms (replicate (engine_limit - y.engines) false) (e - 1) mark h)

-- main: valid loads make a true board

idle-true : (y : System) → zero_engine (engine_with y empty_load) ≡ true
unfolding holds_none
idle-true y = ap zero_engine (engine_with-idle y)

idle-loads : (y : System) (n : ℕ) → true_loads y 0 (map (engine_with y) (replicate n empty_load)) ≡ true
unfolding true_loads
idle-loads y zero = refl
idle-loads y (suc n) = and_both (zero_engine (engine_with y empty_load)) (true_loads y 0 (map (engine_with y) (replicate n empty_load))) (idle-true y) (idle-loads y n)

engine-true : (y : System) (x : List ℕ) → length x ≡ type_limit → fits_engine y x ≡ true → true_engine y (engine_with y x) ≡ true
engine-true y x l h =
    let time = time_of y.types x in
    let memory = memory_of y.rule y.types x in
    rw (eq-eqb (length x) type_limit l, eq-eqb time time refl, eq-eqb memory memory refl) h

loads-true : (y : System) (xs : List (List ℕ)) (n : ℕ) → every (λ (x : List ℕ). eqb (length x) type_limit) xs ≡ true → every (fits_engine y) xs ≡ true
    → true_loads y (length xs) (map (engine_with y) (xs ++ replicate n empty_load)) ≡ true
unfolding true_loads
loads-true y [] n s f = idle-loads y n
loads-true y (x ∷ xs) n s f =
    let a = every-parts (λ (z : List ℕ). eqb (length z) type_limit) x xs s in
    let b = every-parts (fits_engine y) x xs f in
    and_both (true_engine y (engine_with y x)) (true_loads y (length xs) (map (engine_with y) (xs ++ replicate n empty_load)))
    (engine-true y x (eqb-true (length x) type_limit a.0) b.0)
    (loads-true y xs n a.1 b.1)

pub length-on : (y : System) (ms : List Bool) (xs : List (List ℕ)) → keeps_limits y ≡ true → Valid y xs → length (board_on y ms xs).loads ≡ engine_limit
length-on y ms xs keeps v =
    let idle = replicate (engine_limit - y.engines) empty_load in
    length-map (xs ++ idle) (engine_with y)
    ∙ length-append xs idle
    ∙ omega (arith, v.rows, length-replicate (engine_limit - y.engines) empty_load, (limits_of y keeps).engines)

pub length-marks : (y : System) (ms : List Bool) → keeps_limits y ≡ true → length ms ≡ y.engines → length (padded_marks y ms) ≡ engine_limit
length-marks y ms keeps l =
    let rest = replicate (engine_limit - y.engines) false in
    length-append ms rest ∙ omega (arith, l, length-replicate (engine_limit - y.engines) false, (limits_of y keeps).engines)

-- a mark that is set is that of an engine 1 to m
marked-inside : (ms : List Bool) (i : ℕ) → get_or ms i false ≡ true → i < length ms
marked-inside ms i h = go (ltb i (length ms)) refl
  where
    go : (q : Bool) → ltb i (length ms) ≡ q → i < length ms
    go true q = ltb-true i (length ms) q
    go false q = absurd (true≢false (sym h ∙ get_or-eq_default ms false (ltb-false i (length ms) q)))

marks-true : (y : System) (ms : List Bool) (xs : List (List ℕ)) → keeps_limits y ≡ true → Served y ms xs → true_marks (board_on y ms xs) ≡ true
unfolding true_marks holds_none
marks-true y ms xs keeps s =
    and_both (eqb (length (padded_marks y ms)) engine_limit) (every (mark_true (board_on y ms xs)) (engines_to engine_limit))
    (eq-eqb (length (padded_marks y ms)) engine_limit (length-marks y ms keeps s.count))
    ((every-engines_to (mark_true (board_on y ms xs)) engine_limit).1 (λ e low high. mark e low (marked (board_on y ms xs) e) refl))
  where
    mark : (e : ℕ) → 1 ≤ e → (q : Bool) → marked (board_on y ms xs) e ≡ q → cond q (leb e y.engines && holds_none (load_at (board_on y ms xs) e)) true ≡ true
    mark e low true q =
        let set_here : get_or ms (e - 1) false ≡ true = sym (marked-on y ms xs e) ∙ q in
        and_both (leb e y.engines) (holds_none (load_at (board_on y ms xs) e)) (le-leb e y.engines (omega (arith, marked-inside ms (e - 1) set_here, s.count)))
        (ap holds_none (load_at-on y ms xs e ∙ s.idle (e - 1) set_here))
    mark e low false q = refl

pub board-true : (y : System) (ms : List Bool) (xs : List (List ℕ)) → keeps_limits y ≡ true → Valid y xs → Served y ms xs → true_board (board_on y ms xs) ≡ true
unfolding true_board
board-true y ms xs keeps v s =
    rw (keeps, eq-eqb (length (board_on y ms xs).loads) engine_limit (length-on y ms xs keeps v), same, standing_on y ms xs, v.ceiling) (marks-true y ms xs keeps s)
  where
    same : true_loads y y.engines (board_on y ms xs).loads ≡ true
    same =
        subst (λ (m : ℕ). true_loads y m (board_on y ms xs).loads ≡ true) v.rows
        (loads-true y xs (engine_limit - y.engines) v.sized v.all_fit)

-- main: a true board is the board of valid loads

-- what is known of the first m engines where the others are idle
record Front (y : System) (m : ℕ) (ls : List EngineLoad) : Type 0 where
  rows : List (List ℕ)
  count : length rows ≡ m
  sized : every (λ (x : List ℕ). eqb (length x) type_limit) rows ≡ true
  all_fit : every (fits_engine y) rows ≡ true
  same : ls ≡ map (engine_with y) (rows ++ replicate (length ls - m) empty_load)

four-true : (a b c d : Bool) → (a && b && c && d) ≡ true → (a ≡ true) × (b ≡ true) × (c ≡ true) × (d ≡ true)
four-true a b c d h =
    let p = and_parts (a && b && c) d h in
    let q = and_parts (a && b) c p.0 in
    let r = and_parts a b q.0 in
    (r.0, r.1, q.1, p.1)

five-true : (a b c d e : Bool) → (a && b && c && d && e) ≡ true → (a ≡ true) × (b ≡ true) × (c ≡ true) × (d ≡ true) × (e ≡ true)
five-true a b c d e h =
    let p = and_parts (a && b && c && d) e h in
    let q = four-true a b c d p.0 in
    (q.0, q.1, q.2, q.3, p.1)

zero-engine : (y : System) (l : EngineLoad) → zero_engine l ≡ true → l ≡ engine_with y empty_load
zero-engine y l h =
    let p = four-true (eqb (length l.counts) type_limit) (eqb l.time 0) (eqb l.memory 0) (holds_none l.counts) h in
    let time = eqb-true l.time 0 p.1 in
    let memory = eqb-true l.memory 0 p.2 in
    let counts = holds_none-is-zero l.counts p.3 ∙ ap (λ (k : ℕ). replicate k 0) (eqb-true (length l.counts) type_limit p.0) in
    let idle : l ≡ idle_engine = λ i. record { time = time i; memory = memory i; counts = counts i } in
    idle ∙ sym (engine_with-idle y)

pub record TrueEngine (y : System) (l : EngineLoad) : Type 0 where
  pub same : l ≡ engine_with y l.counts
  pub six : eqb (length l.counts) type_limit ≡ true
  pub fit : fits_engine y l.counts ≡ true

pub true-engine : (y : System) (l : EngineLoad) → true_engine y l ≡ true → TrueEngine y l
true-engine y l h =
    let p =
    four-true (eqb (length l.counts) type_limit) (eqb l.time (time_of y.types l.counts))
    (eqb l.memory (memory_of y.rule y.types l.counts)) (fits_engine y l.counts) h in
    let time = eqb-true l.time (time_of y.types l.counts) p.1 in
    let memory = eqb-true l.memory (memory_of y.rule y.types l.counts) p.2 in
    record { same = λ i. record { time = time i; memory = memory i; counts = l.counts }; six = p.0; fit = p.3 }

all-idle : (y : System) (ls : List EngineLoad) → true_loads y 0 ls ≡ true → ls ≡ map (engine_with y) (replicate (length ls) empty_load)
unfolding true_loads
all-idle y [] t = refl
all-idle y (l ∷ ls) t =
    let p = and_parts (zero_engine l) (true_loads y 0 ls) t in
    cons-path (zero-engine y l p.0) (all-idle y ls p.1)

front_of : (y : System) (m : ℕ) (ls : List EngineLoad) → m ≤ length ls → true_loads y m ls ≡ true → Front y m ls
unfolding true_loads every
front_of y zero ls h t = record {
  rows = [];
  count = refl;
  sized = refl;
  all_fit = refl;
  same = all-idle y ls t ∙ ap (λ (n : ℕ). map (engine_with y) (replicate n empty_load)) (sym (sub-zero (length ls)));
}
front_of y (suc m) [] h t = absurd (omega arith)
front_of y (suc m) (l ∷ ls) h t =
    let p = and_parts (true_engine y l) (true_loads y m ls) t in
    let e = true-engine y l p.0 in
    let r = front_of y m ls (le_of_suc-le-suc h) p.1 in
    record {
      rows = l.counts ∷ r.rows;
      count = ap suc r.count;
      sized = and_both (eqb (length l.counts) type_limit) (every (λ (x : List ℕ). eqb (length x) type_limit) r.rows) e.six r.sized;
      all_fit = and_both (fits_engine y l.counts) (every (fits_engine y) r.rows) e.fit r.all_fit;
      same =
          cons-path e.same
          (r.same ∙ ap (λ (n : ℕ). map (engine_with y) (r.rows ++ replicate n empty_load)) (sym (suc-sub-suc (length ls) m)));
    }

-- the first m marks, where those past them are not set
no-marks : (l : List Bool) → ((i : ℕ) → get_or l i false ≡ false) → l ≡ replicate (length l) false
no-marks [] h = refl
no-marks (a ∷ l) h = cons-path (h zero) (no-marks l (λ i. h (suc i)))

marks-front : (m : ℕ) (l : List Bool) → m ≤ length l → ((i : ℕ) → m ≤ i → get_or l i false ≡ false) → l ≡ take m l ++ replicate (length l - m) false
marks-front zero l h k = no-marks l (λ i. k i zero-le) ∙ ap (λ (n : ℕ). replicate n false) (sym (sub-zero (length l)))
marks-front (suc m) [] h k = absurd (omega arith)
marks-front (suc m) (a ∷ l) h k =
    cons-path refl (marks-front m l (le_of_suc-le-suc h) (λ i low. k (suc i) (omega arith)) ∙ ap (λ (n : ℕ). take m l ++ replicate n false) (sym (suc-sub-suc (length l) m)))

-- what the test of a mark says where it is set
module _ (b : Board) (h : true_marks b ≡ true) where
  parts : (eqb (length b.marks) engine_limit ≡ true) × (every (mark_true b) (engines_to engine_limit) ≡ true)
  unfolding true_marks
  parts = and_parts (eqb (length b.marks) engine_limit) (every (mark_true b) (engines_to engine_limit)) h

  sixteen-marks : length b.marks ≡ engine_limit
  sixteen-marks = eqb-true (length b.marks) engine_limit parts.0

  mark-true : (i : ℕ) → get_or b.marks i false ≡ true → (i < b.system.engines) × (holds_none (load_at b (suc i)) ≡ true)
  mark-true i q =
      let inside = marked-inside b.marks i q in
      let tested = (every-engines_to (mark_true b) engine_limit).0 parts.1 (suc i) (omega arith) (omega (arith, sixteen-marks)) in
      let back : suc i - 1 ≡ i = omega arith in
      let here : marked b (suc i) ≡ true = ap (λ (j : ℕ). get_or b.marks j false) back ∙ q in
      let both = and_parts (leb (suc i) b.system.engines) (holds_none (load_at b (suc i))) (rw here at tested) in
      (omega (arith, leb-true (suc i) b.system.engines both.0), both.1)

-- a true board keeps the limits, its loads are valid, and so are its marks
pub record Truth (b : Board) : Type 0 where
  pub keeps : keeps_limits b.system ≡ true
  pub rows : List (List ℕ)
  pub marks : List Bool
  pub valid : Valid b.system rows
  pub served : Served b.system marks rows
  pub same : b ≡ board_on b.system marks rows
  pub stands : standing b ≡ total rows

pub truth-of : (b : Board) → true_board b ≡ true → Truth b
unfolding true_board
truth-of b h =
    record {
      keeps = p.0;
      rows = front.rows;
      marks = firsts;
      served = record { count = length-take-le b.system.engines b.marks fewer; idle = idle-row };
      valid = record { rows = front.count; sized = front.sized; all_fit = front.all_fit; ceiling = subst (λ (x : List ℕ). within x (ceilings_of b.system) ≡ true) stands p.3 };
      stands = stands;
      same = same;
    }
  where
    p : (keeps_limits b.system ≡ true) × (eqb (length b.loads) engine_limit ≡ true) × (true_loads b.system b.system.engines b.loads ≡ true)
        × (within (standing b) (ceilings_of b.system) ≡ true)
        × (true_marks b ≡ true)
    p =
        five-true (keeps_limits b.system) (eqb (length b.loads) engine_limit) (true_loads b.system b.system.engines b.loads)
        (within (standing b) (ceilings_of b.system)) (true_marks b) h

    small : b.system.engines ≤ engine_limit
    small = (limits_of b.system p.0).engines

    fewer : b.system.engines ≤ length b.marks
    fewer = omega (arith, small, sixteen-marks b p.4)

    firsts : List Bool
    firsts = take b.system.engines b.marks

    marks-same : b.marks ≡ padded_marks b.system firsts
    marks-same =
        marks-front b.system.engines b.marks fewer (λ i low. past i low (get_or b.marks i false) refl)
        ∙ ap (λ (n : ℕ). firsts ++ replicate (n - b.system.engines) false) (sixteen-marks b p.4)
      where
        past : (i : ℕ) → b.system.engines ≤ i → (q : Bool) → get_or b.marks i false ≡ q → q ≡ false
        past i low true q = absurd (omega (arith, (mark-true b p.4 i q).0))
        past i low false q = refl

    sixteen : length b.loads ≡ engine_limit
    sixteen = eqb-true (length b.loads) engine_limit p.1

    front : Front b.system b.system.engines b.loads
    front = front_of b.system b.system.engines b.loads (omega (arith, (limits_of b.system p.0).engines, sixteen)) p.2

    loads-same : b.loads ≡ map (engine_with b.system) (padded b.system front.rows)
    loads-same = front.same ∙ ap (λ (n : ℕ). map (engine_with b.system) (front.rows ++ replicate (n - b.system.engines) empty_load)) sixteen

    same : b ≡ board_on b.system firsts front.rows
    same = λ i. record { system = b.system; loads = loads-same i; marks = marks-same i }

    -- the row of a marked engine
    idle-row : (i : ℕ) → get_or firsts i false ≡ true → load_in front.rows i ≡ empty_load
    idle-row i q =
        let set_here : get_or b.marks i false ≡ true = ap (λ (l : List Bool). get_or l i false) marks-same ∙ get_or-padded firsts (engine_limit - b.system.engines) i false ∙ q in
        let told = mark-true b p.4 i set_here in
        let back : suc i - 1 ≡ i = omega arith in
        let row : load_at b (suc i) ≡ load_in front.rows i = ap (λ (a : Board). load_at a (suc i)) same ∙ load_at-on b.system firsts front.rows (suc i) ∙ ap (load_in front.rows) back in
        let six : length (load_in front.rows i) ≡ type_limit = eqb-true (length (load_in front.rows i)) type_limit (every-get_or (λ (x : List ℕ). eqb (length x) type_limit) front.rows empty_load i front.sized (omega (arith, told.0, front.count))) in
        holds_none-is-zero (load_in front.rows i) (rw row at told.1) ∙ ap (λ (k : ℕ). replicate k 0) six

    stands : standing b ≡ total front.rows
    stands = ap standing same ∙ standing_on b.system firsts front.rows
