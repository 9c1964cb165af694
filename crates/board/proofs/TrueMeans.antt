-- The test of refusal 20 says what the row of 20 says, and a true board is a good assignment of what stands to the engines in service: both from the board of valid loads
-- and marks. A fresh board is one.
use Prim.Native.Nat.{ℕ, zero, suc, ◌+◌, ◌-◌, ◌≤◌, ◌<◌, zero-le}
use mathlib.Core.Path.{◌≡◌, refl, sym, ap, subst, ◌∙◌}
use mathlib.Core.List.{List, [], ◌∷◌, ◌++◌, map}
use mathlib.Core.Bool.{Bool, true, false, cond, ◌&&◌}
use mathlib.Core.Logic.{◌⊎◌, inl, inr, ◌↔◌}
use native.Mathlib.Omega.{arith}
use borrow.Author.Tests.{leb-true, leb-false, ltb-true, ltb-false, eqb-true, eqb-false, eq-eqb}
use lib.Dec.{leb, ltb, eqb}
use lib.ListN.{length, get_or, replicate, length-replicate, replicate-append-replicate, get_or-eq_default}
use Rattle.system.specs.declared.System.{System}
use Rattle.system.specs.Values.{ceilings_of}
use Rattle.system.specs.Limits.{keeps_limits, engine_limit, type_limit}
use Rattle.system.proofs.Laws.{Limits, limits_of}
use Rattle.loads.specs.declared.EngineLoad.{EngineLoad}
use Rattle.loads.specs.Load.{time_of, memory_of, holds_none, empty_load, engine_with, idle_engine, within}
use Rattle.loads.proofs.Order.{and_both, length-plus}
use Rattle.loads.proofs.Laws.{engine_with-idle}
use Rattle.loads.proofs.Change.{get_or-plus, within-get_or, within_of}
use Rattle.partition.specs.Assignment.{among, every, engines_to}
use Rattle.partition.specs.Shares.{sum_of}
use Rattle.partition.specs.Plain.{EngineOf, record_no, Stands, HoldsNothing}
use Rattle.partition.proofs.Lists.{not-both, every-++, every-replicate, every-among, every-engines_to, get_or-inside, get_or-padded, distinct-engines_to, among-engines_to}
use Rattle.partition.proofs.Recovery.{sum_of-padded}
use Rattle.partition.proofs.ForSystem.{length-ceilings}
use Rattle.partition.proofs.Standing.{Valid, total, load_in, length-total, length-load_in, load_in-fits, count-le-sum, valid-empty, valid-placed, served-placed}
use Rattle.partition.proofs.Plain.{ceiling-out, limits-out, stands-out}
use Rattle.board.specs.declared.Board.{Board}
use Rattle.board.specs.Boards.{empty_board, marked, engines_of, load_at, standing_of, standing}
use Rattle.board.specs.Truth.{true_engine, zero_engine, true_loads, mark_true, true_marks, true_board}
use Rattle.board.specs.Words.{count_no, count_at, memory_no, total_no, stands_no, IsEngine, EngineIn, SumsOut, FitsOut, IsTrue, IsFresh}
use Rattle.board.specs.Meaning.{TrueMeans}
use Rattle.board.proofs.Places.{engines-distinct, engines-known, engines-in}
use Rattle.board.proofs.Plain.{time-same, own_same, shared_same, fits-same, time-out, own_out_lem, shared-out, fits_out, out-fits, RecordSame, record_same, total-out}
use Rattle.board.proofs.Truth.{padded, padded_marks, board_on, Served, engine-on, marked-on, length-on, length-marks, truth-of}

-- main: the board of valid loads in plain words

module _ (y : System) (ms : List Bool) (xs : List (List ℕ)) (keeps : keeps_limits y ≡ true) (v : Valid y xs) (served : Served y ms xs) where
  abbrev b : Board
  b = board_on y ms xs

  limits : Limits y
  limits = limits_of y keeps

  -- the record of engine e
  record-on : (e : ℕ) → get_or b.loads (e - 1) idle_engine ≡ engine_with y (load_in xs (e - 1))
  record-on e = engine-on y ms xs (e - 1)

  length-row : (i : ℕ) → length (load_in xs i) ≡ type_limit
  length-row i = go (ltb i (length xs)) refl
    where
      go : (p : Bool) → ltb i (length xs) ≡ p → length (load_in xs i) ≡ type_limit
      go true q = length-load_in v i (ltb-true i (length xs) q)
      go false q = ap length (get_or-eq_default xs empty_load (ltb-false i (length xs) q))

  pub count-out : (e t : ℕ) → count_at b e t ≡ get_or (load_in xs (e - 1)) (t - 1) 0
  count-out e t = (record_same b.loads (e - 1)).counts t ∙ ap (λ (l : EngineLoad). get_or l.counts (t - 1) 0) (record-on e)

  pub memory-on : (e : ℕ) → memory_no b e ≡ memory_of y.rule y.types (load_in xs (e - 1))
  memory-on e = (record_same b.loads (e - 1)).memory ∙ ap (λ (l : EngineLoad). l.memory) (record-on e)

  sized-padded : every (λ (x : List ℕ). eqb (length x) type_limit) (padded y xs) ≡ true
  sized-padded =
      every-++ (λ (x : List ℕ). eqb (length x) type_limit) xs (replicate (engine_limit - y.engines) empty_load) v.sized
      (every-replicate (λ (x : List ℕ). eqb (length x) type_limit) (engine_limit - y.engines) empty_load refl)

  pub stands_on : (t : ℕ) → stands_no b t ≡ get_or (total xs) (t - 1) 0
  stands_on t = total-out y (padded y xs) t sized-padded ∙ ap (λ (x : List ℕ). get_or x (t - 1) 0) (sum_of-padded type_limit (engine_limit - y.engines) xs)

  inside : (e : ℕ) → IsEngine b e → e - 1 < length xs
  inside e h = omega (arith, v.rows, h.0, h.1)

  -- its stored sums are those of its load
  sums_on : (e : ℕ) → SumsOut y (record_no b.loads e)
  sums_on e =
      let x = load_in xs (e - 1) in
      let lx = length-row (e - 1) in
      let same = record_same b.loads (e - 1) in
      let back : (t : ℕ) → 1 ≤ t → get_or x (t - 1) 0 ≡ count_at b e t = λ t h. sym (count-out e t) in
      record {
        time = same.time ∙ ap (λ (l : EngineLoad). l.time) (record-on e) ∙ time-out y limits.six x lx ∙ time-same y (λ (t : ℕ). get_or x (t - 1) 0) (count_at b e) back;
        own_copies = λ r. memory-on e ∙ own_out_lem y limits.six x lx r ∙ own_same y (λ (t : ℕ). get_or x (t - 1) 0) (count_at b e) back;
        shared_code = λ r. memory-on e ∙ shared-out y limits.six x lx r ∙ shared_same y (λ (t : ℕ). get_or x (t - 1) 0) (count_at b e) back;
      }

  -- an engine whose row is empty holds nothing: one past m, and one that is marked
  pub idle-on : (e : ℕ) → load_in xs (e - 1) ≡ empty_load → HoldsNothing (record_no b.loads e)
  idle-on e none =
      let same = record_same b.loads (e - 1) in
      let idle : get_or b.loads (e - 1) idle_engine ≡ idle_engine = record-on e ∙ ap (engine_with y) none ∙ engine_with-idle y in
      record {
        time = same.time ∙ ap (λ (l : EngineLoad). l.time) idle;
        memory = same.memory ∙ ap (λ (l : EngineLoad). l.memory) idle;
        counts = λ t. same.counts t ∙ ap (λ (l : EngineLoad). get_or l.counts (t - 1) 0) idle ∙ get_or-padded [] type_limit (t - 1) 0;
      }

  -- of a type past k there is none
  past-on : (e t : ℕ) → y.typecount < t → count_at b e t ≡ 0
  past-on e t h = go (ltb (e - 1) (length xs)) refl
    where
      none : get_or (ceilings_of y) (t - 1) 0 ≡ 0
      none = ceiling-out y t ∙ (((limits-out y).0 keeps).past t h).2

      go : (p : Bool) → ltb (e - 1) (length xs) ≡ p → count_at b e t ≡ 0
      go true q =
          omega (
            arith,
            count-out e t,
            count-le-sum type_limit xs (e - 1) (t - 1) v.sized (ltb-true (e - 1) (length xs) q),
            within-get_or (total xs) (ceilings_of y) (t - 1) v.ceiling,
            none,
          )
      go false q =
          count-out e t ∙ ap (λ (x : List ℕ). get_or x (t - 1) 0) (get_or-eq_default xs empty_load (ltb-false (e - 1) (length xs) q)) ∙ get_or-padded [] type_limit (t - 1) 0

  pub true-on : IsTrue b
  true-on = record {
    sixteen = length-on y ms xs keeps v;
    sixteen_marks = length-marks y ms keeps served.count;
    six = λ e low high.
        ap (λ (l : EngineLoad). length l.counts) (get_or-inside b.loads (e - 1) (record { time = 0; memory = 0; counts = [] }) idle_engine (omega (arith, length-on y ms xs keeps v)) ∙ record-on e)
        ∙ length-row (e - 1);
    limits = (limits-out y).0 keeps;
    past_engines = λ e h. idle-on e (get_or-eq_default xs empty_load (omega (arith, v.rows)));
    past_types = past-on;
    past_marks = λ e h. marked-on y ms xs e ∙ get_or-eq_default ms false (omega (arith, served.count));
    ceilings = λ t low. omega (arith, stands_on t, within-get_or (total xs) (ceilings_of y) (t - 1) v.ceiling, ceiling-out y t);
    sums = λ e h. sums_on e;
    fit = λ e h.
        fits-same y (λ (t : ℕ). get_or (load_in xs (e - 1)) (t - 1) 0) (count_at b e) (λ t k. sym (count-out e t))
        (fits_out y limits.six (load_in xs (e - 1)) (length-row (e - 1)) (load_in-fits v (e - 1) (inside e h)));
    withdrawn = λ e low q. idle-on e (served.idle (e - 1) (sym (marked-on y ms xs e) ∙ q));
  }

  -- outside the engines in service nothing stands
  pub idle-outside : (i : ℕ) → i < y.engines → (among (engines_of b) (suc i) ≡ true) ⊎ (load_in xs i ≡ empty_load)
  idle-outside i h = go (get_or ms i false) refl
    where
      go : (q : Bool) → get_or ms i false ≡ q → (among (engines_of b) (suc i) ≡ true) ⊎ (load_in xs i ≡ empty_load)
      go true q = inr (served.idle i q)
      go false q =
          let back : suc i - 1 ≡ i = omega arith in
          inl ((engines-in b (suc i)).1 (record { is_engine = (omega arith, omega arith); in_service = marked-on y ms xs (suc i) ∙ ap (λ (j : ℕ). get_or ms j false) back ∙ q }))

  -- and it is a partition of what stands: among the engines in service, and so among the engines 1 to m
  pub parted-on : Stands y (EngineIn b) (stands_no b) b.loads
  parted-on =
      stands-out y limits.rule (engines_of b) (engines-distinct b) (engines-known b) (EngineIn b) (engines-in b) (total xs) (length-total v) (stands_no b)
      (λ t low. sym (stands_on t))
      b.loads
      (served-placed v (engines_of b) (engines-known b) idle-outside (engine_limit - y.engines))

  pub parted-whole : Stands y (EngineOf y) (stands_no b) b.loads
  parted-whole =
      stands-out y limits.rule (engines_to y.engines) (distinct-engines_to y.engines) (every-among (engines_to y.engines)) (EngineOf y) (among-engines_to y.engines) (total xs) (length-total v)
      (stands_no b)
      (λ t low. sym (stands_on t))
      b.loads
      (valid-placed v (engine_limit - y.engines))

-- intermediate: the test from the row's words

pub zeros-none : (x : List ℕ) → ((j : ℕ) → get_or x j 0 ≡ 0) → holds_none x ≡ true
unfolding holds_none
zeros-none [] h = refl
zeros-none (a ∷ x) h = and_both (eqb a 0) (holds_none x) (eq-eqb a 0 (h 0)) (zeros-none x (λ j. h (suc j)))

pub length-standing : (ls : List EngineLoad) → ((i : ℕ) → length (get_or ls i idle_engine).counts ≡ type_limit) → length (standing_of ls) ≡ type_limit
unfolding sum_of
length-standing [] h = refl
length-standing (l ∷ ls) h = length-plus l.counts (standing_of ls) (h 0 ∙ sym (length-standing ls (λ i. h (suc i)))) ∙ h 0

pub standing-out : (ls : List EngineLoad) (t : ℕ) → ((i : ℕ) → length (get_or ls i idle_engine).counts ≡ type_limit) → total_no t ls ≡ get_or (standing_of ls) (t - 1) 0
unfolding sum_of total_no
standing-out [] t h = sym (get_or-padded [] type_limit (t - 1) 0)
standing-out (l ∷ ls) t h =
    ap (λ (n : ℕ). count_no l t + n) (standing-out ls t (λ i. h (suc i))) ∙ sym (get_or-plus l.counts (standing_of ls) (t - 1) (h 0 ∙ sym (length-standing ls (λ i. h (suc i)))))

module _ (b : Board) (w : IsTrue b) where
  -- the record at an index
  at : (i : ℕ) → EngineLoad
  at i = get_or b.loads i idle_engine

  six-at : (i : ℕ) → length (at i).counts ≡ type_limit
  unfolding at
  six-at i = go (ltb i (length b.loads)) refl
    where
      go : (p : Bool) → ltb i (length b.loads) ≡ p → length (get_or b.loads i idle_engine).counts ≡ type_limit
      go true q =
          let small = ltb-true i (length b.loads) q in
          let same : suc i - 1 ≡ i = omega arith in
          ap (λ (l : EngineLoad). length l.counts) (get_or-inside b.loads i idle_engine (record { time = 0; memory = 0; counts = [] }) small)
          ∙ subst (λ (j : ℕ). length (get_or b.loads j (record { time = 0; memory = 0; counts = [] })).counts ≡ type_limit) same (w.six (suc i) (omega arith) (omega (arith, small, w.sixteen)))
      go false q = ap (λ (l : EngineLoad). length l.counts) (get_or-eq_default b.loads idle_engine (ltb-false i (length b.loads) q))

  engine-test : (i : ℕ) → i < b.system.engines → true_engine b.system (at i) ≡ true
  unfolding at
  engine-test i h =
      let e = suc i in
      let same : e - 1 ≡ i = omega arith in
      subst (λ (j : ℕ). true_engine b.system (at j) ≡ true) same (go e (record_same b.loads (e - 1)) (w.sums e (omega arith, omega arith)) (w.fit e (omega arith, omega arith)))
    where
      go : (e : ℕ) → RecordSame b.loads (e - 1) → SumsOut b.system (record_no b.loads e) → FitsOut b.system (count_at b e) → true_engine b.system (at (e - 1)) ≡ true
      go e same s f =
          let l = at (e - 1) in
          let x = l.counts in
          let lx = six-at (e - 1) in
          let ls = w.limits.six in
          let back : (t : ℕ) → 1 ≤ t → count_at b e t ≡ get_or x (t - 1) 0 = λ t h. same.counts t in
          let time : l.time ≡ time_of b.system.types x = sym same.time ∙ s.time ∙ time-same b.system (count_at b e) (λ (t : ℕ). get_or x (t - 1) 0) back ∙ sym (time-out b.system ls x lx) in
          let memory : l.memory ≡ memory_of b.system.rule b.system.types x = sym same.memory ∙ stored e x lx s back (eqb b.system.rule 0) refl in
          rw (eq-eqb (length x) type_limit lx, eq-eqb l.time _ time, eq-eqb l.memory _ memory)
          (out-fits b.system ls x lx w.limits.rule (fits-same b.system (count_at b e) (λ (t : ℕ). get_or x (t - 1) 0) back f))
        where
          stored : (d : ℕ) (x : List ℕ) (lx : length x ≡ type_limit) → SumsOut b.system (record_no b.loads d) → ((t : ℕ) → 1 ≤ t → count_at b d t ≡ get_or x (t - 1) 0)
              → (q : Bool) → eqb b.system.rule 0 ≡ q → (record_no b.loads d).memory ≡ memory_of b.system.rule b.system.types x
          stored d x lx s back true q =
              let r = eqb-true b.system.rule 0 q in
              s.own_copies r ∙ own_same b.system (count_at b d) (λ (t : ℕ). get_or x (t - 1) 0) back ∙ sym (own_out_lem b.system w.limits.six x lx r)
          stored d x lx s back false q =
              let n = eqb-false b.system.rule 0 q in
              let r : b.system.rule ≡ 1 = omega (arith, w.limits.rule) in
              s.shared_code r ∙ shared_same b.system (count_at b d) (λ (t : ℕ). get_or x (t - 1) 0) back ∙ sym (shared-out b.system w.limits.six x lx r)

  -- an index is that of the engine after it
  by_number : (P : EngineLoad → Type 0) (i : ℕ) → P (at (suc i - 1)) → P (at i)
  by_number P i p = let same : suc i - 1 ≡ i = omega arith in subst (λ (j : ℕ). P (at j)) same p

  zero_test : (i : ℕ) → b.system.engines ≤ i → zero_engine (at i) ≡ true
  unfolding at
  zero_test i h = by_number (λ (l : EngineLoad). zero_engine l ≡ true) i (go (record_same b.loads (suc i - 1)) (w.past_engines (suc i) (omega arith)) (six-at (suc i - 1)))
    where
      go : RecordSame b.loads (suc i - 1) → HoldsNothing (record_no b.loads (suc i)) → length (at (suc i - 1)).counts ≡ type_limit → zero_engine (at (suc i - 1)) ≡ true
      go same none six =
          let l = at (suc i - 1) in
          rw (eq-eqb (length l.counts) type_limit six, eq-eqb l.time 0 (sym same.time ∙ none.time), eq-eqb l.memory 0 (sym same.memory ∙ none.memory))
          (zeros-none l.counts (λ j. let back : suc j - 1 ≡ j = omega arith in subst (λ (k : ℕ). get_or l.counts k 0 ≡ 0) back (sym (same.counts (suc j)) ∙ none.counts (suc j))))

  loads-test : (m : ℕ) (ls : List EngineLoad) → ((i : ℕ) → i < m → true_engine b.system (get_or ls i idle_engine) ≡ true) → ((i : ℕ) → m ≤ i → zero_engine (get_or ls i idle_engine) ≡ true)
      → true_loads b.system m ls ≡ true
  unfolding true_loads
  loads-test m [] h k = refl
  loads-test zero (l ∷ ls) h k = and_both (zero_engine l) (true_loads b.system zero ls) (k zero zero-le) (loads-test zero ls (λ i s. absurd (omega arith)) (λ i s. k (suc i) zero-le))
  loads-test (suc m) (l ∷ ls) h k =
      and_both (true_engine b.system l) (true_loads b.system m ls) (h zero (omega arith)) (loads-test m ls (λ i s. h (suc i) (omega arith)) (λ i s. k (suc i) (omega arith)))

  within-test : within (standing b) (ceilings_of b.system) ≡ true
  unfolding at
  within-test =
      within_of (standing b) (ceilings_of b.system) (length-standing b.loads six-at ∙ sym (length-ceilings b.system (limits_of b.system ((limits-out b.system).1 w.limits))))
      (λ j. let back : suc j - 1 ≡ j = omega arith in subst (λ (k : ℕ). get_or (standing b) k 0 ≤ get_or (ceilings_of b.system) k 0) back
      (omega (arith, standing-out b.loads (suc j) six-at, w.ceilings (suc j) (omega arith), ceiling-out b.system (suc j))))

  mark-test : (e : ℕ) → 1 ≤ e → (q : Bool) → marked b e ≡ q → cond q (leb e b.system.engines && holds_none (load_at b e)) true ≡ true
  mark-test e low false q = refl
  mark-test e low true q =
      and_both (leb e b.system.engines) (holds_none (load_at b e)) (known (leb e b.system.engines) refl)
      (zeros-none (load_at b e) (λ j. let back : suc j - 1 ≡ j = omega arith in
      subst (λ (k : ℕ). get_or (load_at b e) k 0 ≡ 0) back (sym ((record_same b.loads (e - 1)).counts (suc j)) ∙ (w.withdrawn e low q).counts (suc j))))
    where
      known : (p : Bool) → leb e b.system.engines ≡ p → p ≡ true
      known true h = refl
      known false h = absurd (not-both q (w.past_marks e (leb-false e b.system.engines h)))

  marks-test : true_marks b ≡ true
  unfolding true_marks
  marks-test =
      and_both (eqb (length b.marks) engine_limit) (every (mark_true b) (engines_to engine_limit)) (eq-eqb (length b.marks) engine_limit w.sixteen_marks)
      ((every-engines_to (mark_true b) engine_limit).1 (λ e low high. mark-test e low (marked b e) refl))

  test_of : true_board b ≡ true
  unfolding true_board at
  test_of =
      rw ((limits-out b.system).1 w.limits, eq-eqb (length b.loads) engine_limit w.sixteen, loads-test b.system.engines b.loads engine-test zero_test, within-test) marks-test

-- main

-- what stands on a true board, by the code's word
pub stands-said : (b : Board) → IsTrue b → (t : ℕ) → stands_no b t ≡ get_or (standing b) (t - 1) 0
unfolding at
stands-said b w t = standing-out b.loads t (six-at b w)

-- every engine has six counts
pub six-load : (b : Board) → IsTrue b → (e : ℕ) → length (load_at b e) ≡ type_limit
unfolding at
six-load b w e = six-at b w (e - 1)

pub true-means : (b : Board) → TrueMeans b
true-means b = record { tests = (words, test_of b); placed = λ w. parted (test_of b w) }
  where
    words : true_board b ≡ true → IsTrue b
    words h = let f = truth-of b h in subst IsTrue (sym f.same) (true-on b.system f.marks f.rows f.keeps f.valid f.served)

    parted : true_board b ≡ true → Stands b.system (EngineIn b) (stands_no b) b.loads
    parted h =
        let f = truth-of b h in
        subst (λ (a : Board). Stands b.system (EngineIn a) (stands_no a) a.loads) (sym f.same) (parted-on b.system f.marks f.rows f.keeps f.valid f.served)

-- what the test answers
pub truth-told : (b : Board) (r : Bool) → r ≡ true_board b → (r ≡ true_board b) × ((r ≡ true) ↔ IsTrue b)
truth-told b r e = (e, ((λ h. (true-means b).tests.0 (sym e ∙ h)), (λ w. e ∙ (true-means b).tests.1 w)))

-- main: a fresh board

pub fresh_on : (y : System) → Limits y → empty_board y ≡ board_on y (replicate y.engines false) (replicate y.engines empty_load)
fresh_on y limits = λ i. record { system = y; loads = idle i; marks = unmarked i }
  where
    all : engine_limit ≡ y.engines + (engine_limit - y.engines)
    all = omega (arith, limits.engines)

    idle : replicate engine_limit idle_engine ≡ map (engine_with y) (padded y (replicate y.engines empty_load))
    idle =
        ap (replicate engine_limit) (sym (engine_with-idle y))
        ∙ ap (map (engine_with y)) (ap (λ (n : ℕ). replicate n empty_load) all ∙ sym (replicate-append-replicate y.engines (engine_limit - y.engines) empty_load))

    unmarked : replicate engine_limit false ≡ padded_marks y (replicate y.engines false)
    unmarked = ap (λ (n : ℕ). replicate n false) all ∙ sym (replicate-append-replicate y.engines (engine_limit - y.engines) false)

-- where no mark is set, anything may stand anywhere
pub served-clear : (y : System) (xs : List (List ℕ)) → Served y (replicate y.engines false) xs
served-clear y xs = record { count = length-replicate y.engines false; idle = λ i q. absurd (not-both q (get_or-padded [] y.engines i false)) }

pub fresh-true : (y : System) → keeps_limits y ≡ true → IsTrue (empty_board y)
fresh-true y keeps =
    let limits = limits_of y keeps in
    subst IsTrue (sym (fresh_on y limits)) (true-on y (replicate y.engines false) (replicate y.engines empty_load) keeps (valid-empty y limits) (served-clear y (replicate y.engines empty_load)))

pub fresh-is : (y : System) → IsFresh y (empty_board y)
fresh-is y = record { system = refl; sixteen = refl; nothing = λ e. nothing-at (e - 1); sixteen_marks = refl; no_mark = λ e. get_or-padded [] engine_limit (e - 1) false }
  where
    idle : (n i : ℕ) → get_or (replicate n idle_engine) i idle_engine ≡ idle_engine
    idle zero i = refl
    idle (suc n) zero = refl
    idle (suc n) (suc i) = idle n i

    nothing-at : (i : ℕ) → HoldsNothing (get_or (replicate engine_limit idle_engine) i (record { time = 0; memory = 0; counts = [] }))
    nothing-at i =
        let same = record_same (replicate engine_limit idle_engine) i in
        record {
          time = same.time ∙ ap (λ (l : EngineLoad). l.time) (idle engine_limit i);
          memory = same.memory ∙ ap (λ (l : EngineLoad). l.memory) (idle engine_limit i);
          counts = λ t. same.counts t ∙ ap (λ (l : EngineLoad). get_or l.counts (t - 1) 0) (idle engine_limit i) ∙ get_or-padded [] type_limit (t - 1) 0;
        }
