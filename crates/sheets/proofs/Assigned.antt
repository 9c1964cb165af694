-- The sheet of an assignment: the loads of its engines are neat and true and make up what it assigns, and their sheet is that of the assignment. Engines that stand so are the loads of an assignment.
use Prim.Native.Nat.{ℕ, zero, suc, ◌+◌, ◌-◌, ◌≤◌, ◌<◌}
use mathlib.Core.Path.{◌≡◌, refl, sym, ap, ap₂, subst, ◌∙◌}
use mathlib.Core.List.{List, [], ◌∷◌, ◌++◌, map, map-append, append-nil}
use mathlib.Core.Bool.{Bool, true, false, not, cond, ◌&&◌}
use native.Mathlib.Nat.{add-zero, add-suc}
use native.Mathlib.Numerals.{add-one}
use native.Mathlib.Omega.{arith}
use borrow.Author.Tests.{ltb-true, ltb-false, eqb-true, eqb-false, eq-eqb}
use lib.ListN.{length, get_or, replicate, length-map, get_or-map, get_or-eq_default}
use lib.Seq.{ext_get_or}
use lib.Dec.{ltb, eqb}
use Rattle.system.specs.declared.System.{System}
use Rattle.system.specs.Values.{no_task, ceilings_of}
use Rattle.system.specs.Limits.{engine_limit, type_limit, keeps_limits}
use Rattle.system.proofs.Laws.{Limits, limits_of}
use Rattle.system.specs.declared.TaskType.{TaskType}
use Rattle.loads.specs.declared.EngineLoad.{EngineLoad}
use Rattle.loads.specs.Load.{memory_of, fits_engine, holds_none, within, empty_load, engine_with, idle_engine}
use Rattle.loads.proofs.Order.{and_parts, cons-path, holds_none-is-zero, within-refl}
use Rattle.loads.proofs.Laws.{engine_with-idle}
use Rattle.partition.specs.Assignment.{Assignment, count_on, load_on, assigned, among, every, numbers_from, engines_to}
use Rattle.partition.specs.Shares.{loads_on, used_loads, Shares}
use Rattle.partition.specs.ForSystem.{good_on, Placed}
use Rattle.partition.specs.OwnWords.{over_instances, time_on}
use Rattle.partition.specs.Plain.{ceiling_no, EngineOf, hosts, used_to}
use Rattle.partition.proofs.Lists.{every-among, among-engines_to, engines_to-outside, engines_to-last, length-engines_to, distinct-engines_to, get_or-map-engines_to, get_or-padded, every-always}
use Rattle.partition.proofs.Shares.{load_on-outside, good-parts, good-shares, used_of-loads_on}
use Rattle.partition.proofs.OwnWords.{counted-on, time_on-time_of, memory_on-memory_of, shared_memory_on-memory_of}
use Rattle.partition.proofs.ForSystem.{length-ceilings}
use Rattle.partition.proofs.Standing.{Valid, total, load_in, valid-placed}
use Rattle.partition.proofs.Plain.{ceiling-out, hosts-some, used_to-used_of, partition-of, partition-assigns, partition-good}
use Rattle.board.specs.declared.Board.{Board}
use Rattle.board.specs.Boards.{counts_of, standing_of, standing}
use Rattle.board.specs.Truth.{true_loads, mark_true, true_marks, true_board}
use Rattle.board.proofs.Truth.{board_on, engine-on, length-on, standing_on, board-true, truth-of}
use Rattle.board.proofs.TrueMeans.{served-clear}
use Rattle.sheets.specs.Sheet.{engine_bytes, records_bytes, record_bytes, used_in, sheet_bytes}
use Rattle.sheets.specs.Meaning.{record_out, memory_out, sent_to, hosts_out, sheet_out, GoodForAll}
use Rattle.sheets.proofs.Putting.{records-more}
use Rattle.sheets.proofs.Back.{Tidy, Neat, nil, cons}
use Rattle.sheets.proofs.Stated.{record-out, head-out, number-back}

-- what the engine e holds by χ, with its sums, and what each engine that a system can have holds
abbrev engine_of : System → Assignment → ℕ → EngineLoad
engine_of y χ e = engine_with y (load_on e χ)

abbrev pub loads_of : System → Assignment → List EngineLoad
loads_of y χ = map (engine_of y χ) (engines_to engine_limit)

-- a good assignment of all instances, in the words of the theory
pub record Assigns (y : System) (χ : Assignment) : Type 0 where
  pub all : assigned χ ≡ ceilings_of y
  pub is_good : good_on y (engines_to y.engines) χ ≡ true

module _ (y : System) (limits : Limits y) (χ : Assignment) where
  pub assigns-of : GoodForAll y χ → Assigns y χ
  assigns-of p = record {
    all = partition-assigns y limits.rule es (distinct-engines_to y.engines) (every-among es) (EngineOf y) (among-engines_to y.engines) (ceilings_of y) (length-ceilings y limits) (ceiling_no y) (λ t low. ceiling-out y t) χ p;
    is_good = partition-good y limits.rule es (distinct-engines_to y.engines) (every-among es) (EngineOf y) (among-engines_to y.engines) (ceilings_of y) (length-ceilings y limits) (ceiling_no y) (λ t low. ceiling-out y t) χ p;
  }
    where
      es : List ℕ
      es = engines_to y.engines

  pub assigns-good : Assigns y χ → GoodForAll y χ
  assigns-good a =
      partition-of y limits.rule (engines_to y.engines) (distinct-engines_to y.engines) (every-among (engines_to y.engines)) (EngineOf y) (among-engines_to y.engines) (ceilings_of y) (length-ceilings y limits) (ceiling_no y) (λ t low. ceiling-out y t)
      χ a.all a.is_good

-- intermediate: the counts of the engines

counts-loads : (y : System) (χ : Assignment) (es : List ℕ) → counts_of (map (engine_of y χ) es) ≡ loads_on es χ
counts-loads y χ [] = refl
counts-loads y χ (e ∷ es) = cons-path refl (counts-loads y χ es)

-- main: the sheet

module _ (y : System) (limits : Limits y) (χ : Assignment) (six : length χ ≡ type_limit) where
  abbrev k : ℕ
  k = y.typecount

  memory-out : (e : ℕ) (b : Bool) → eqb y.rule 0 ≡ b → memory_of y.rule y.types (load_on e χ) ≡ memory_out y χ e
  memory-out e true q = rw (q, eqb-true y.rule 0 q) (sym (memory_on-memory_of e y.types χ))
  memory-out e false q =
      let n = eqb-false y.rule 0 q in
      let r : y.rule ≡ 1 = omega (arith, limits.rule) in
      rw q (rw r (sym (shared_memory_on-memory_of e y.types χ)))

  host-record : (e : ℕ) → record_bytes k e (engine_of y χ e) ≡ record_out k e (time_on e y.types χ) (memory_out y χ e) (sent_to χ e)
  host-record e =
      record-out k e (engine_of y χ e) (time_on e y.types χ) (memory_out y χ e) (sent_to χ e)
      (omega (arith, length-map χ (count_on e), six, limits.typecount))
      (sym (time_on-time_of e y.types χ))
      (memory-out e (eqb y.rule 0) refl)
      (λ t. sym (counted-on e χ t) ∙ ap (λ (j : ℕ). over_instances e 1 (get_or χ j [])) (sym (number-back t)))

  host-engine : (e : ℕ) → engine_bytes k e (engine_of y χ e) ≡ cond (hosts χ e) (record_out k e (time_on e y.types χ) (memory_out y χ e) (sent_to χ e)) []
  host-engine e = rw (hosts-some χ e) (go (holds_none (load_on e χ)))
    where
      go : (b : Bool) → cond b [] (record_bytes k e (engine_of y χ e)) ≡ cond (not b) (record_out k e (time_on e y.types χ) (memory_out y χ e) (sent_to χ e)) []
      go true = refl
      go false = host-record e

  host-records : (n : ℕ) → records_bytes k 1 (map (engine_of y χ) (engines_to n)) ≡ hosts_out y χ n
  unfolding hosts_out
  host-records zero = unfold records_bytes numbers_from in refl
  host-records (suc n) =
      let size : 1 + length (map (engine_of y χ) (engines_to n)) ≡ suc n = omega (arith, length-map (engines_to n) (engine_of y χ), length-engines_to n) in
      ap (λ (es : List ℕ). records_bytes k 1 (map (engine_of y χ) es)) (engines_to-last n)
      ∙ ap (records_bytes k 1) (map-append (engine_of y χ) (engines_to n) (suc n ∷ []))
      ∙ records-more k 1 (map (engine_of y χ) (engines_to n)) (engine_of y χ (suc n)) (suc n) (sym size)
      ∙ ap₂ (λ (x z : List ℕ). x ++ z) (host-records n) (host-engine (suc n))

  used-loads : (n : ℕ) → used_in (map (engine_of y χ) (engines_to n)) ≡ used_to n χ
  used-loads n = ap used_loads (counts-loads y χ (engines_to n)) ∙ sym (used_of-loads_on (engines_to n) χ) ∙ sym (used_to-used_of n χ)

  module _ (inside : every (every (among (engines_to y.engines))) χ ≡ true) where
    -- an engine past m holds nothing
    pub none-past : (e : ℕ) → y.engines < e → load_on e χ ≡ empty_load
    none-past e h = load_on-outside (engines_to y.engines) e χ inside (engines_to-outside y.engines e h) ∙ ap (λ (n : ℕ). replicate n 0) six

    hosts-past : (e : ℕ) → y.engines < e → hosts χ e ≡ false
    unfolding holds_none
    hosts-past e h = hosts-some χ e ∙ ap (λ (x : List ℕ). not (holds_none x)) (none-past e h)

    used-past : (n : ℕ) → used_to (y.engines + n) χ ≡ used_to y.engines χ
    unfolding used_to
    used-past zero = ap (λ (j : ℕ). used_to j χ) (add-zero y.engines)
    used-past (suc n) =
        ap (λ (j : ℕ). used_to j χ) (add-suc y.engines n)
        ∙ ap (λ (b : Bool). used_to (y.engines + n) χ + cond b 1 0) (hosts-past (suc (y.engines + n)) (omega arith))
        ∙ add-zero (used_to (y.engines + n) χ)
        ∙ used-past n

    records-past : (n : ℕ) → hosts_out y χ (y.engines + n) ≡ hosts_out y χ y.engines
    unfolding hosts_out
    records-past zero = ap (hosts_out y χ) (add-zero y.engines)
    records-past (suc n) =
        let e = suc (y.engines + n) in
        ap (hosts_out y χ) (add-suc y.engines n)
        ∙ ap (λ (b : Bool). hosts_out y χ (y.engines + n) ++ cond b (record_out k e (time_on e y.types χ) (memory_out y χ e) (sent_to χ e)) []) (hosts-past e (omega arith))
        ∙ append-nil (hosts_out y χ (y.engines + n))
        ∙ records-past n

    -- main
    pub sheet-assigned : sheet_bytes k (loads_of y χ) ≡ sheet_out y χ
    unfolding sheet_bytes
    sheet-assigned =
        let all : y.engines + (engine_limit - y.engines) ≡ engine_limit = omega (arith, limits.engines) in
        let used : used_in (loads_of y χ) ≡ used_to y.engines χ = used-loads engine_limit ∙ ap (λ (n : ℕ). used_to n χ) (sym all) ∙ used-past (engine_limit - y.engines) in
        let records : records_bytes k 1 (loads_of y χ) ≡ hosts_out y χ y.engines = host-records engine_limit ∙ ap (hosts_out y χ) (sym all) ∙ records-past (engine_limit - y.engines) in
        rw (used, records) (head-out k (used_to y.engines χ) (hosts_out y χ y.engines))

    pub used-assigned : used_in (loads_of y χ) ≡ used_to y.engines χ
    used-assigned =
        let all : y.engines + (engine_limit - y.engines) ≡ engine_limit = omega (arith, limits.engines) in
        used-loads engine_limit ∙ ap (λ (n : ℕ). used_to n χ) (sym all) ∙ used-past (engine_limit - y.engines)

-- main: the loads of a good assignment of all instances

module _ (y : System) (keeps : keeps_limits y ≡ true) (χ : Assignment) (a : Assigns y χ) where
  limits : Limits y
  limits = limits_of y keeps

  pub six-places : length χ ≡ type_limit
  six-places = sym (length-map χ length) ∙ ap length a.all ∙ length-ceilings y (limits_of y keeps)

  pub on-engines : every (every (among (engines_to y.engines))) χ ≡ true
  on-engines = (good-parts (λ (e : ℕ). fits_engine y) (engines_to y.engines) χ a.is_good).0

  -- no instance is of a type past k
  past-k : (e t : ℕ) → y.typecount ≤ t → get_or (load_on e χ) t 0 ≡ 0
  past-k e t h = unfold count_on in get_or-map (count_on e) χ t [] ∙ ap (count_on e) (empty (get_or χ t []) none)
    where
      none : length (get_or χ t []) ≡ 0
      none =
          sym (get_or-map length χ t [])
          ∙ ap (λ (x : List ℕ). get_or x t 0) a.all
          ∙ get_or-map (λ (task : TaskType). task.ceiling) y.types t no_task
          ∙ ap (λ (task : TaskType). task.ceiling) ((limits_of y keeps).past t h)

      empty : (places : List ℕ) → length places ≡ 0 → places ≡ []
      empty [] l = refl
      empty (p ∷ places) l = absurd (omega arith)

  engine-tidy : (e : ℕ) → Tidy y.typecount (engine_of y χ e)
  engine-tidy e = record {
    six = length-map χ (count_on e) ∙ six-places;
    past = past-k e;
    idle = λ q. ap (engine_with y) (holds_none-is-zero (load_on e χ) q ∙ ap (λ (n : ℕ). replicate n 0) (length-map χ (count_on e) ∙ six-places)) ∙ engine_with-idle y;
  }

  neat-from : (e n : ℕ) → Neat y.engines y.typecount e (map (engine_of y χ) (numbers_from e n))
  unfolding numbers_from
  neat-from e zero = nil
  neat-from e (suc n) =
      cons (engine-tidy e) (λ h. ap (engine_with y) (none-past y (limits_of y keeps) χ six-places on-engines e h) ∙ engine_with-idle y) (neat-from (suc e) n)

  pub assigned-neat : Neat y.engines y.typecount 1 (loads_of y χ)
  assigned-neat = neat-from 1 engine_limit

  pub length-assigned : length (loads_of y χ) ≡ engine_limit
  length-assigned = length-map (engines_to engine_limit) (engine_of y χ) ∙ length-engines_to engine_limit

  -- the loads of the engines 1 to m are valid, and make up all instances
  shares : Shares (fits_engine y) (length χ) (loads_on (engines_to y.engines) χ) (assigned χ)
  shares = good-shares (fits_engine y) (engines_to y.engines) χ (distinct-engines_to y.engines) a.is_good

  abbrev rows : List (List ℕ)
  rows = loads_on (engines_to y.engines) χ

  -- a sheet knows no marks
  abbrev clear : List Bool
  clear = replicate y.engines false

  sums : total rows ≡ ceilings_of y
  sums = rw (← six-places) shares.sums ∙ a.all

  valid : Valid y rows
  valid = record {
    rows = length-map (engines_to y.engines) (λ (e : ℕ). load_on e χ) ∙ length-engines_to y.engines;
    sized = rw (← six-places) shares.sized;
    all_fit = shares.all_fit;
    ceiling = rw sums (within-refl (ceilings_of y));
  }

  on-board : loads_of y χ ≡ (board_on y clear rows).loads
  on-board =
      ext_get_or idle_engine (loads_of y χ) (board_on y clear rows).loads (length-assigned ∙ sym (length-on y clear rows keeps valid))
      (λ i h. get_or-map-engines_to (engine_of y χ) engine_limit i idle_engine (omega (arith, length-assigned)) ∙ ap (engine_with y) (at i (ltb i y.engines) refl) ∙ sym (engine-on y clear rows i))
    where
      at : (i : ℕ) (b : Bool) → ltb i y.engines ≡ b → load_on (suc i) χ ≡ load_in rows i
      at i true q = sym (get_or-map-engines_to (λ (e : ℕ). load_on e χ) y.engines i empty_load (ltb-true i y.engines q))
      at i false q =
          let past = ltb-false i y.engines q in
          none-past y (limits_of y keeps) χ six-places on-engines (suc i) (omega arith) ∙ sym (get_or-eq_default rows empty_load (omega (arith, valid.rows)))

  pub assigned-true : true_loads y y.engines (loads_of y χ) ≡ true
  unfolding true_board
  assigned-true =
      let b = board_on y clear rows in
      let unmarked = and_parts (keeps_limits y && eqb (length b.loads) engine_limit && true_loads y y.engines b.loads && within (standing b) (ceilings_of y)) (true_marks b) (board-true y clear rows keeps valid (served-clear y rows)) in
      let whole = and_parts (keeps_limits y && eqb (length b.loads) engine_limit && true_loads y y.engines b.loads) (within (standing b) (ceilings_of y)) unmarked.0 in
      rw on-board (and_parts (keeps_limits y && eqb (length b.loads) engine_limit) (true_loads y y.engines b.loads) whole.0).1

  pub assigned-total : standing_of (loads_of y χ) ≡ ceilings_of y
  assigned-total = ap standing_of on-board ∙ standing_on y clear rows ∙ sums

-- main: engines that stand so are the loads of a good assignment of all instances

-- placed loads are those of the assignment
pub placed-loads : (y : System) (es x : List ℕ) (ls : List EngineLoad) → length ls ≡ engine_limit → (p : Placed y es x ls) → ls ≡ loads_of y p.mapping
placed-loads y es x ls all p =
    ext_get_or idle_engine ls (loads_of y p.mapping) (all ∙ sym (length-map (engines_to engine_limit) (engine_of y p.mapping) ∙ length-engines_to engine_limit))
    (λ i h. p.holds i h ∙ ap (engine_of y p.mapping) (add-one i) ∙ sym (get_or-map-engines_to (engine_of y p.mapping) engine_limit i idle_engine (omega (arith, all))))

-- the board of these engines
abbrev board_with : System → List EngineLoad → Board
board_with y ls = record { system = y; loads = ls; marks = replicate engine_limit false }

module _ (y : System) (ls : List EngineLoad) (keeps : keeps_limits y ≡ true) (all : length ls ≡ engine_limit) (are : true_loads y y.engines ls ≡ true) (sum : standing_of ls ≡ ceilings_of y) where
  is_true_lem : true_board (board_with y ls) ≡ true
  unfolding true_board true_marks
  is_true_lem =
      rw (keeps, eq-eqb (length ls) engine_limit all, are, sum, within-refl (ceilings_of y))
      (every-always (mark_true (board_with y ls)) (λ e. rw (get_or-padded [] engine_limit (e - 1) false)) (engines_to engine_limit))

  true-placed : Placed y (engines_to y.engines) (ceilings_of y) ls
  true-placed =
      let t = truth-of (board_with y ls) is_true_lem in
      subst (Placed y (engines_to y.engines) (ceilings_of y)) (ap (λ (b : Board). b.loads) (sym t.same))
      (subst (λ (x : List ℕ). Placed y (engines_to y.engines) x (board_on y t.marks t.rows).loads) (sym t.stands ∙ sum) (valid-placed t.valid (engine_limit - y.engines)))

  pub true-assigned : (χ : Assignment) × Assigns y χ × (ls ≡ loads_of y χ)
  true-assigned =
      let p = true-placed in
      (p.mapping, record { all = p.assigns; is_good = p.is_good }, placed-loads y (engines_to y.engines) (ceilings_of y) ls all p)
