-- Checks 33 and 34 in plain words: the engines are true exactly when the sums of every record are those of its counts, which fit, and what stands is the ceilings exactly when the counts of each type add up to n.
use Prim.Native.Nat.{ℕ, zero, suc, ◌+◌, ◌-◌}
use mathlib.Core.Path.{◌≡◌, refl, sym, ap, subst, ◌∙◌}
use mathlib.Core.List.{List, ◌∷◌}
use mathlib.Core.Bool.{Bool, true, false, cond, ◌&&◌}
use mathlib.Core.Logic.{◌↔◌}
use native.Mathlib.Nat.{sub-zero}
use native.Mathlib.Omega.{arith}
use borrow.Author.Tests.{ltb-true, ltb-false, lt-ltb, eqb-true, eqb-false, eq-eqb}
use lib.ListN.{length, get_or}
use lib.Seq.{ext_get_or}
use lib.Dec.{ltb, eqb}
use Rattle.system.specs.declared.System.{System}
use Rattle.system.specs.Values.{ceilings_of}
use Rattle.system.specs.Limits.{type_limit}
use Rattle.system.proofs.Laws.{Limits}
use Rattle.loads.specs.declared.EngineLoad.{EngineLoad}
use Rattle.loads.specs.Load.{time_of, memory_of, holds_none, idle_engine, empty_load, engine_with}
use Rattle.loads.proofs.Order.{and_parts, and_both}
use Rattle.loads.proofs.Laws.{engine_with-idle, empty-fits}
use Rattle.partition.specs.Listing.{same_list}
use Rattle.partition.proofs.Brute.{same_list-refl, same_list-true}
use Rattle.partition.proofs.ForSystem.{length-ceilings}
use Rattle.partition.proofs.Plain.{ceiling-out}
use Rattle.planner.specs.Plan.{record_of}
use Rattle.board.specs.Boards.{standing_of}
use Rattle.board.specs.Truth.{true_engine, zero_engine, true_loads}
use Rattle.board.specs.Words.{count_no, total_no}
use Rattle.board.proofs.Plain.{time-out, own_out_lem, shared-out, fits_out, out-fits}
use Rattle.board.proofs.Truth.{true-engine}
use Rattle.board.proofs.TrueMeans.{length-standing, standing-out}
use Rattle.sheets.specs.Meaning.{Each, done, more, SumsAndFit, total_in, AddUp}
use Rattle.sheets.proofs.Back.{Neat, nil, cons, not-past}
use Rattle.sheets.proofs.Stated.{gather, no-count}

-- main: equal lists of numbers

pub same_numbers : (a b : List ℕ) → (same_list eqb a b ≡ true) ↔ (a ≡ b)
same_numbers a b =
    ((λ h. same_list-true eqb eqb-true a b h), (λ e. subst (λ (c : List ℕ). same_list eqb a c ≡ true) e (same_list-refl eqb (λ n. eq-eqb n n refl) a)))

-- main: one engine

module _ (y : System) (limits : Limits y) (l : EngineLoad) (six : length l.counts ≡ type_limit) where
  engine-sound : true_engine y l ≡ true → SumsAndFit y l
  engine-sound h =
      let t = true-engine y l h in
      record {
        sums = record {
          time = ap (λ (z : EngineLoad). z.time) t.same ∙ time-out y limits.six l.counts six;
          own_copies = λ r. ap (λ (z : EngineLoad). z.memory) t.same ∙ own_out_lem y limits.six l.counts six r;
          shared_code = λ r. ap (λ (z : EngineLoad). z.memory) t.same ∙ shared-out y limits.six l.counts six r;
        };
        fit = fits_out y limits.six l.counts six t.fit;
      }

  sound-engine : SumsAndFit y l → true_engine y l ≡ true
  sound-engine s =
      rw (eq-eqb (length l.counts) type_limit six, eq-eqb l.time (time_of y.types l.counts) time, eq-eqb l.memory (memory_of y.rule y.types l.counts) (memory (eqb y.rule 0) refl))
      (out-fits y limits.six l.counts six limits.rule s.fit)
    where
      time : l.time ≡ time_of y.types l.counts
      time = s.sums.time ∙ sym (time-out y limits.six l.counts six)

      memory : (b : Bool) → eqb y.rule 0 ≡ b → l.memory ≡ memory_of y.rule y.types l.counts
      memory true q = let r = eqb-true y.rule 0 q in s.sums.own_copies r ∙ sym (own_out_lem y limits.six l.counts six r)
      memory false q =
          let n = eqb-false y.rule 0 q in
          let r : y.rule ≡ 1 = omega (arith, limits.rule) in
          s.sums.shared_code r ∙ sym (shared-out y limits.six l.counts six r)

-- main: all engines

-- the engines past a, of m
true-cons : (y : System) (m a : ℕ) (l : EngineLoad) (ls : List EngineLoad) → true_loads y (m - a) (l ∷ ls) ≡ (cond (ltb a m) (true_engine y l) (zero_engine l) && true_loads y (m - suc a) ls)
unfolding true_loads
true-cons y m a l ls = go (ltb a m) refl
  where
    go : (b : Bool) → ltb a m ≡ b → true_loads y (m - a) (l ∷ ls) ≡ (cond b (true_engine y l) (zero_engine l) && true_loads y (m - suc a) ls)
    go true q =
        let less = ltb-true a m q in
        let step : m - a ≡ suc (m - suc a) = omega arith in
        rw step
    go false q =
        let past = ltb-false a m q in
        let here : m - a ≡ 0 = omega arith in
        let later : m - suc a ≡ 0 = omega arith in
        rw (here, later)

module _ (y : System) (limits : Limits y) where
  idle-true : (b : Bool) → cond b (true_engine y idle_engine) (zero_engine idle_engine) ≡ true
  unfolding holds_none
  idle-true true = ap (true_engine y) (sym (engine_with-idle y)) ∙ fitting (ap (λ (l : EngineLoad). l.time) (sym (engine_with-idle y)))
    where
      fitting : 0 ≡ time_of y.types empty_load → true_engine y (engine_with y empty_load) ≡ true
      fitting z =
          rw (eq-eqb (time_of y.types empty_load) (time_of y.types empty_load) refl, eq-eqb (memory_of y.rule y.types empty_load) (memory_of y.rule y.types empty_load) refl) (empty-fits y)
  idle-true false = refl

  all_sound : {k : ℕ} (a : ℕ) {ls : List EngineLoad} → Neat y.engines k (suc a) ls → true_loads y (y.engines - a) ls ≡ true → Each (SumsAndFit y) (gather (suc a) ls)
  unfolding gather
  all_sound a nil h = done
  all_sound a {ls = l ∷ ls} (cons tidy past rest) h = go (holds_none l.counts) refl (λ t. all_sound (suc a) rest t)
    where
      both : (cond (ltb a y.engines) (true_engine y l) (zero_engine l) ≡ true) × (true_loads y (y.engines - suc a) ls ≡ true)
      both = and_parts (cond (ltb a y.engines) (true_engine y l) (zero_engine l)) (true_loads y (y.engines - suc a) ls) (sym (true-cons y y.engines a l ls) ∙ h)

      go : (b : Bool) → holds_none l.counts ≡ b → (true_loads y (y.engines - suc a) ls ≡ true → Each (SumsAndFit y) (gather (suc (suc a)) ls))
          → Each (SumsAndFit y) (cond b (gather (suc (suc a)) ls) (record_of (suc a) l ∷ gather (suc (suc a)) ls))
      go true q later = later both.1
      go false q later =
          let inside : ltb a y.engines ≡ true = lt-ltb a y.engines (not-past y.engines (suc a) l past q) in
          more (engine-sound y limits l tidy.six (rw inside at both.0)) (later both.1)

  sound-all : {k : ℕ} (a : ℕ) {ls : List EngineLoad} → Neat y.engines k (suc a) ls → Each (SumsAndFit y) (gather (suc a) ls) → true_loads y (y.engines - a) ls ≡ true
  unfolding gather true_loads
  sound-all a nil e = refl
  sound-all a {ls = l ∷ ls} (cons tidy past rest) e = go (holds_none l.counts) refl (λ f. sound-all (suc a) rest f) e
    where
      whole : cond (ltb a y.engines) (true_engine y l) (zero_engine l) ≡ true → true_loads y (y.engines - suc a) ls ≡ true → true_loads y (y.engines - a) (l ∷ ls) ≡ true
      whole p q = true-cons y y.engines a l ls ∙ and_both (cond (ltb a y.engines) (true_engine y l) (zero_engine l)) (true_loads y (y.engines - suc a) ls) p q

      go : (b : Bool) → holds_none l.counts ≡ b → (Each (SumsAndFit y) (gather (suc (suc a)) ls) → true_loads y (y.engines - suc a) ls ≡ true)
          → Each (SumsAndFit y) (cond b (gather (suc (suc a)) ls) (record_of (suc a) l ∷ gather (suc (suc a)) ls)) → true_loads y (y.engines - a) (l ∷ ls) ≡ true
      go true q rests later = whole (rw (tidy.idle q) (idle-true (ltb a y.engines))) (rests later)
      go false q rests (more here later) =
          let inside : ltb a y.engines ≡ true = lt-ltb a y.engines (not-past y.engines (suc a) l past q) in
          whole (rw inside (sound-engine y limits l tidy.six here)) (rests later)

  pub sums-out : {k : ℕ} {ls : List EngineLoad} → Neat y.engines k 1 ls → (true_loads y y.engines ls ≡ true) ↔ Each (SumsAndFit y) (gather 1 ls)
  sums-out neat = ((λ h. all_sound 0 neat (rw (sub-zero y.engines) h)), (λ e. rw (sub-zero y.engines) at (sound-all 0 neat e)))

-- main: the totals

total-gathered : {m k e : ℕ} (t : ℕ) {ls : List EngineLoad} → Neat m k e ls → total_in t (gather e ls) ≡ total_no t ls
unfolding gather total_in total_no
total-gathered t nil = refl
total-gathered {e = e} t {ls = l ∷ ls} (cons tidy past rest) = go (holds_none l.counts) refl (total-gathered t rest)
  where
    go : (b : Bool) → holds_none l.counts ≡ b → total_in t (gather (suc e) ls) ≡ total_no t ls
        → total_in t (cond b (gather (suc e) ls) (record_of e l ∷ gather (suc e) ls)) ≡ count_no l t + total_no t ls
    go true q h = omega (arith, no-count l.counts q (t - 1), h)
    go false q h = ap (λ (n : ℕ). count_no l t + n) h

six-each : {m k e : ℕ} {ls : List EngineLoad} → Neat m k e ls → (i : ℕ) → length (get_or ls i idle_engine).counts ≡ type_limit
six-each nil i = refl
six-each (cons tidy past rest) zero = tidy.six
six-each (cons tidy past rest) (suc i) = six-each rest i

module _ (y : System) (limits : Limits y) {m k : ℕ} {ls : List EngineLoad} (neat : Neat m k 1 ls) where
  total-at : (t : ℕ) → total_in t (gather 1 ls) ≡ get_or (standing_of ls) (t - 1) 0
  total-at t = total-gathered t neat ∙ standing-out ls t (six-each neat)

  pub totals-out : (same_list eqb (standing_of ls) (ceilings_of y) ≡ true) ↔ AddUp y (gather 1 ls)
  totals-out = (there, back)
    where
      there : same_list eqb (standing_of ls) (ceilings_of y) ≡ true → AddUp y (gather 1 ls)
      there h t low = total-at t ∙ ap (λ (x : List ℕ). get_or x (t - 1) 0) ((same_numbers (standing_of ls) (ceilings_of y)).0 h) ∙ ceiling-out y t

      back : AddUp y (gather 1 ls) → same_list eqb (standing_of ls) (ceilings_of y) ≡ true
      back h =
          (same_numbers (standing_of ls) (ceilings_of y)).1
          (ext_get_or 0 (standing_of ls) (ceilings_of y) (length-standing ls (six-each neat) ∙ sym (length-ceilings y limits))
          (λ i less. let same : suc i - 1 ≡ i = omega arith in subst (λ (j : ℕ). get_or (standing_of ls) j 0 ≡ get_or (ceilings_of y) j 0) same (sym (total-at (suc i)) ∙ h (suc i) (omega arith) ∙ sym (ceiling-out y (suc i)))))
