-- The loop of a run goes over all jobs in each tick, from the last one down: late or not, the arrival, the choice. Its invariant holds in the middle
-- of a tick: the jobs before place i are still to be seen, those from it on have had their arrivals.
use Rattle.std.proofs.Common.{Some}
use Prim.Native.Nat.{ℕ, zero, suc, ◌+◌, ◌-◌, ◌*◌, ◌≤◌, ◌<◌}
use mathlib.Core.Path.{◌≡◌, refl, sym, ap, ◌∙◌}
use mathlib.Core.List.{List, [], ◌∷◌, ◌++◌, map, append-nil}
use mathlib.Core.Bool.{Bool, true, false, cond, not, ◌&&◌, ◌||◌}
use native.Mathlib.Nat.{le_refl, sub-zero, zero-add, add-mul, one-mul}
use native.Mathlib.Numerals.{add-one}
use native.Mathlib.Omega.{arith}
use borrow.Author.Tests.{eq-eqb, ne_eqb}
use Rattle.std.specs.List.{list_any}
use lib.ListN.{length, get_or, set, take, drop, take-append-drop, length-set}
use lib.Seq.{take-suc, drop-cons, append_snoc, get_or-set_same, get_or-set_other, set-get_or, take-set-le, take-set-lt, drop-set-lt, length-take-le, drop-length, get_or-take, take-take}
use Rattle.runs.specs.declared.Job.{Job}
use Rattle.runs.specs.declared.Report.{Report}
use Rattle.runs.specs.Run.{job_limit, no_job, started_job, started, fresh_job, late_job, late, arrived_job, arrived, pending, chosen, due_before, worked_job, worked_at, worked, idle_at, idle_tick, run_from}
use Rattle.runs.proofs.Steps.{late-append, arrived-append, choice-start, choice-turn, worked-here, worked-none}

-- intermediate: the run in the middle of a tick, over the jobs still to be seen and those seen

unfoldable pub passing : ℕ → ℕ → ℕ → List Job → List Job → Report
passing zero now idle front back = run_from 0 now idle (front ++ back)
passing (suc left) now idle front back =
    cond (late now front) (record { idle = idle; missed = Some now })
    (run_from left (now + 1) (idle + idle_tick (arrived now front ++ back)) (worked (arrived now front ++ back)))

pass-start : (left now idle : ℕ) (js : List Job) → passing left now idle js [] ≡ run_from left now idle js
unfolding passing run_from
pass-start zero now idle js = ap (λ (l : List Job). run_from 0 now idle l) (append-nil js)
pass-start (suc left) now idle js = rw (append-nil (arrived now js))

pass-late :
    (left now idle : ℕ) (front back : List Job) (j : Job)
    → late_job now j ≡ true
    → passing (suc left) now idle (front ++ (j ∷ [])) back ≡ record { idle = idle; missed = Some now }
unfolding passing
pass-late left now idle front back j h = rw (late-append now front j, h) (go (late now front))
  where
    rest : Report
    rest = run_from left (now + 1) (idle + idle_tick (arrived now (front ++ (j ∷ [])) ++ back)) (worked (arrived now (front ++ (j ∷ [])) ++ back))

    go : (b : Bool) → cond (b || true) (record { idle = idle; missed = Some now }) rest ≡ record { idle = idle; missed = Some now }
    go true = refl
    go false = refl

pass-job :
    (left now idle : ℕ) (front back : List Job) (j : Job)
    → late_job now j ≡ false
    → passing (suc left) now idle front (arrived_job now j ∷ back) ≡ passing (suc left) now idle (front ++ (j ∷ [])) back
unfolding passing
pass-job left now idle front back j h =
    rw (late-append now front j, h, or-false (late now front), arrived-append now front j, append_snoc (arrived now front) (arrived_job now j) back)
  where
    or-false : (b : Bool) → (b || false) ≡ b
    or-false true = refl
    or-false false = refl

pass-end : (left now idle : ℕ) (back : List Job) → passing (suc left) now idle [] back ≡ run_from left (now + 1) (idle + idle_tick back) (worked back)
unfolding passing late arrived
pass-end left now idle back = refl

-- main: the invariant. `best` is the choice among the jobs seen, `due` its deadline if there is one, and the run from here on reports `whole`.
pub record Midway (ticks count : ℕ) (whole : Report) (state : List Job) (idle now i best due : ℕ) : Type 0 where
  pub ahead : now ≤ ticks
  pub few : idle ≤ now
  pub inside : i ≤ count
  pub size : length state ≡ job_limit
  pub choice : best ≡ i + chosen (drop i (take count state))
  pub earliest : best < count → due ≡ (get_or state best no_job).due
  pub rest : passing (ticks - now) now idle (take i state) (drop i (take count state)) ≡ whole

-- one tick less is left, whatever the jobs still to be seen
pub tick-less : (ticks now count i : ℕ) → now < ticks → (ticks - (now + 1)) * (count + 1) + count < (ticks - now) * (count + 1) + i
tick-less ticks now count i h =
    let e : ticks - now ≡ (ticks - (now + 1)) + 1 = omega arith in
    let m = ap (λ (n : ℕ). n * (count + 1)) e ∙ add-mul (ticks - (now + 1)) 1 (count + 1) in
    omega (arith, m, one-mul (count + 1))

module _ (ticks count : ℕ) (whole : Report) (fits : count ≤ job_limit) where
  -- before a tick
  mid-tick :
      (state : List Job) (idle now due : ℕ)
      → now ≤ ticks
      → idle ≤ now
      → length state ≡ job_limit
      → run_from (ticks - now) now idle (take count state) ≡ whole
      → Midway ticks count whole state idle now count count due
  mid-tick state idle now due a f l e =
      let w : count ≤ length state = omega arith in
      let n : drop count (take count state) ≡ [] = rw (length-take-le count state w) at (drop-length (take count state)) in
      record {
        ahead = a;
        few = f;
        inside = le_refl count;
        size = l;
        choice = choice-start state count w;
        earliest = λ (h : count < count). absurd (omega arith);
        rest = rw n (pass-start (ticks - now) now idle (take count state) ∙ e);
      }

  module _ (state : List Job) (idle now i best due : ℕ) (m : Midway ticks count whole state idle now i best due) where
    -- after the last tick
    pub mid-over : ticks ≤ now → run_from 0 now idle (take count state) ≡ whole
    unfolding passing
    mid-over h =
        let z : ticks - now ≡ 0 = omega arith in
        let t : take i (take count state) ≡ take i state = take-take i count state m.inside in
        let s : take i state ++ drop i (take count state) ≡ take count state = rw t at (take-append-drop i (take count state)) in
        let r : passing 0 now idle (take i state) (drop i (take count state)) ≡ whole = rw z at m.rest in
        rw s at r

    module _ (h : now < ticks) where
      abbrev left : ℕ
      left = ticks - (now + 1)

      one_less : ticks - now ≡ suc left
      one_less = omega arith

      -- the tick is over: the chosen job works
      module _ (z : i ≡ 0) where
        chosen_is : best ≡ chosen (take count state)
        chosen_is =
            let e : best ≡ 0 + chosen (drop 0 (take count state)) = rw z at m.choice in
            e ∙ zero-add _

        after : run_from left (now + 1) (idle + idle_at count best) (worked_at (take count state) best) ≡ whole
        after =
            let r : passing (suc left) now idle (take 0 state) (drop 0 (take count state)) ≡ whole = rw (one_less, z) at m.rest in
            let w : count ≤ length state = omega (arith, m.size) in
            rw (chosen_is) (rw (length-take-le count state w) at (sym (pass-end left now idle (take count state)) ∙ r))

        -- where `add` is 1 if nobody was chosen, else 0
        module _ (add : ℕ) (e : add ≡ idle_at count best) (a : add ≤ 1) where
          pub mid-worked : best < count → Midway ticks count whole (set state best (worked_job (get_or state best no_job))) (idle + add) (now + 1) count count due
          mid-worked l =
              mid-tick _ (idle + add) (now + 1) due (omega arith) (omega (arith, m.few)) (length-set state best _ ∙ m.size)
              (rw (worked-here state count best (omega (arith, m.size)) l, e) after)

          pub mid-idle : count ≤ best → Midway ticks count whole state (idle + add) (now + 1) count count due
          mid-idle l =
              mid-tick state (idle + add) (now + 1) due (omega arith) (omega (arith, m.few)) m.size
              (rw (worked-none state count best (omega (arith, m.size)) l, e) after)

      -- the next job is seen
      module _ (p : 1 ≤ i) where
        abbrev k : ℕ
        k = i - 1

        abbrev j : Job
        j = get_or state k no_job

        from : k + 1 ≡ i
        from = omega arith

        below : k < count
        below = omega (arith, m.inside)

        within : k < length state
        within = omega (arith, m.inside, m.size)

        front : take i state ≡ take k state ++ (j ∷ [])
        front = ap (λ (n : ℕ). take n state) (sym from ∙ add-one k) ∙ take-suc state k no_job within

        pub mid-late : late_job now j ≡ true → record { idle = idle; missed = Some now } ≡ whole
        mid-late e =
            sym (pass-late left now idle (take k state) (drop i (take count state)) j e)
            ∙ rw (one_less, front) at m.rest

        module _ (here : Job) where
          abbrev next : List Job
          next = set state k here

          next-size : length next ≡ job_limit
          next-size = length-set state k here ∙ m.size

          back-same : drop (k + 1) (take count next) ≡ drop i (take count state)
          back-same =
              rw (take-set-lt count state k here below, drop-set-lt (k + 1) (take count state) k here (omega arith), from)

          at-k : get_or next k no_job ≡ here
          at-k = get_or-set_same state k here no_job within

          best-past : i ≤ best
          best-past = omega (arith, m.choice)

          due-same : best < count → due ≡ (get_or next best no_job).due
          due-same l = m.earliest l ∙ sym (ap (λ (x : Job). x.due) (get_or-set_other state k best here no_job (λ (e : best ≡ k). omega (arith, best-past))))

          back : drop k (take count next) ≡ here ∷ drop i (take count state)
          back =
              let w : count ≤ length next = omega (arith, next-size) in
              drop-cons (take count next) k no_job (rw (length-take-le count next w) below)
              ∙ rw (get_or-take count next k no_job below, at-k, ← (add-one k), back-same)

          mid-seen :
              here ≡ arrived_job now j
              → late_job now j ≡ false
              → (b : Bool)
              → (pending here && not (due_before count best due here.due)) ≡ b
              → Midway ticks count whole next idle now k (cond b k best) (cond b here.due due)
          mid-seen e n b t =
              record {
                ahead = m.ahead;
                few = m.few;
                inside = omega (arith, m.inside);
                size = next-size;
                choice =
                    choice-turn next count (omega (arith, next-size)) k best due b below (rw (back-same, from) m.choice) due-same
                    (rw at-k t);
                earliest = later b;
                rest =
                    rw (one_less, take-set-le k state k here (le_refl k), back, e)
                    (pass-job left now idle (take k state) (drop i (take count state)) j n ∙ rw (one_less, front) at m.rest);
              }
            where
              later : (b : Bool) → cond b k best < count → cond b here.due due ≡ (get_or next (cond b k best) no_job).due
              later true l = sym (ap (λ (x : Job). x.due) at-k)
              later false l = due-same l

        -- it arrives
        pub mid-arrived :
            (here : Job)
            → late_job now j ≡ false
            → j.due ≡ now
            → here ≡ fresh_job now j
            → (b : Bool)
            → (pending here && not (due_before count best due here.due)) ≡ b
            → Midway ticks count whole (set state k here) idle now k (cond b k best) (cond b here.due due)
        mid-arrived here n d e b t =
            let a : here ≡ arrived_job now j = e ∙ sym (ap (λ (c : Bool). cond c (fresh_job now j) j) (eq-eqb j.due now d)) in
            mid-seen here a n b t

        -- it does not arrive, and stays
        pub mid-stays :
            late_job now j ≡ false
            → (j.due ≡ now → ⊥)
            → (b : Bool)
            → (pending j && not (due_before count best due j.due)) ≡ b
            → Midway ticks count whole state idle now k (cond b k best) (cond b j.due due)
        mid-stays n d b t =
            let a : j ≡ arrived_job now j = sym (ap (λ (c : Bool). cond c (fresh_job now j) j) (ne_eqb j.due now d)) in
            rw (set-get_or state k no_job) at (mid-seen j a n b t)

-- the loop's start
pub mid_start : (ticks count : ℕ) (state : List Job) → count ≤ job_limit → length state ≡ job_limit → Midway ticks count (run_from ticks 0 0 (take count state)) state 0 0 count count 0
mid_start ticks count state h l =
    mid-tick ticks count (run_from ticks 0 0 (take count state)) h state 0 0 0 (omega arith) (le_refl 0) l (rw (sub-zero ticks))

-- One job is late, exactly where a test of each finds one

pub late-listed : (now : ℕ) (js : List Job) → list_any (late_job now) js ≡ late now js
unfolding late
late-listed now [] = refl
late-listed now (j ∷ js) = ap (λ (b : Bool). late_job now j || b) (late-listed now js)

-- A pass that changes each job in its place: those passed are changed, the others as they were

pub started-map : (js : List Job) → map started_job js ≡ started js
unfolding started
started-map [] = refl
started-map (j ∷ js) = ap (λ (l : List Job). started_job j ∷ l) (started-map js)

pub arrived-map : (now : ℕ) (js : List Job) → map (arrived_job now) js ≡ arrived now js
unfolding arrived
arrived-map now [] = refl
arrived-map now (j ∷ js) = ap (λ (l : List Job). arrived_job now j ∷ l) (arrived-map now js)

abbrev pub passed : (Job → Job) → ℕ → List Job → List Job
passed f i js = map f (take i js) ++ drop i js

passed-here : (f : Job → Job) (i : ℕ) (js : List Job) (d : Job) → i < length js → get_or (passed f i js) i d ≡ get_or js i d
passed-here f i [] d h = absurd (omega arith)
passed-here f zero (j ∷ js) d h = refl
passed-here f (suc i) (j ∷ js) d h = passed-here f i js d (omega arith)

passed-set : (f : Job → Job) (i : ℕ) (js : List Job) (d : Job) → i < length js → set (passed f i js) i (f (get_or js i d)) ≡ passed f (suc i) js
passed-set f i [] d h = absurd (omega arith)
passed-set f zero (j ∷ js) d h = refl
passed-set f (suc i) (j ∷ js) d h = ap (λ (l : List Job). f j ∷ l) (passed-set f i js d (omega arith))

pub passed-turn : (f : Job → Job) (i : ℕ) (js items : List Job) (d v : Job) → i < length js → items ≡ passed f i js → v ≡ f (get_or items i d) → set items i v ≡ passed f (i + 1) js
passed-turn f i js items d v h e s =
    let same : v ≡ f (get_or js i d) = s ∙ ap (λ (l : List Job). f (get_or l i d)) e ∙ ap f (passed-here f i js d h) in
    rw (add-one i) ((λ k. set (e k) i (same k)) ∙ passed-set f i js d h)

pub passed-all : (f : Job → Job) (i : ℕ) (js : List Job) → length js ≤ i → passed f i js ≡ map f js
passed-all f zero [] h = refl
passed-all f (suc i) [] h = refl
passed-all f zero (j ∷ js) h = absurd (omega arith)
passed-all f (suc i) (j ∷ js) h = ap (λ (l : List Job). f j ∷ l) (passed-all f i js (omega arith))
