-- Laws of the definitions of crate `system`: the limits of a card, of one kind of engine or two, and those of a system of one kind, as plain facts; that every file that is read keeps them; and that a file reads as one of one kind exactly where it reads as a card and has no second kind.
use Rattle.std.proofs.Common.{Option, None, Some, Result, Ok, Err}
use Prim.Native.Nat.{ℕ, zero, suc, ◌+◌, ◌-◌, ◌*◌, ◌≤◌, ◌<◌, min, zero-le}
use native.Mathlib.Omega.{arith}
use native.Mathlib.Nat.{mul-pos, mul-le-mul_left, mul-le-mul_right, min-eq_left, min-eq_right}
use mathlib.Core.List.{List, [], ◌∷◌}
use mathlib.Core.Bool.{Bool, true, false, not, cond, ◌&&◌, ◌||◌, and-eq-true_iff, false≢true}
use mathlib.Core.Path.{◌≡◌, refl, sym, ap, ◌∙◌, subst}
use mathlib.Core.Logic.{◌↔◌, ◌⊎◌, inl, inr, ⊎_elim}
use borrow.Author.Tests.{leb-true, leb-false, eqb-true, eqb-false, le-leb, eq-eqb, ne_eqb, not-false}
use lib.ListN.{length, get_or, set, take, drop, length-set, length-drop, replicate}
use lib.Seq.{get_or-set_other, drop-drop}
use lib.Dec.{leb, eqb}
use Rattle.system.specs.declared.Cycle.{Cycle}
use Rattle.system.specs.declared.Costs.{Costs}
use Rattle.system.specs.declared.Kind.{Kind}
use Rattle.system.specs.declared.TaskType.{TaskType}
use Rattle.system.specs.declared.System.{System}
use Rattle.system.specs.declared.FieldRule.{FieldRule}
use Rattle.system.specs.declared.Opened.{Opened}
use Rattle.system.specs.Outcome.{Answer, accepted, refused, from_input, refusal_of, outcome_of}
use Rattle.system.specs.declared.Refusal.{Refusal}
use Rattle.system.specs.declared.Refusal.TheVariants.{Input, State}
use Rattle.system.specs.Inner.{part_of, PastTypes}
use Rattle.system.specs.Values.{task_of, with_data, with_most, with_pace, with_costs, no_task, blank, with_platform, with_second, with_type, last_type, with_last, ceilings_of}
use Rattle.system.specs.Limits.{engine_limit, type_limit, size_limit, column_limit, tick_limit, columns_of, columns}
use Rattle.system.specs.Limits.{or_else, size_fault, platform_fault, kind_fault, second_fault, type_fault, most_fault, cycle_keeps, pace_fault, paces_fault, costs_fault, columns_fault}
use Rattle.system.specs.Limits.{not_given, unpaced, given, is_one_kind, kinds_agree, kinds_fault, zero_task, sound_task, types_keep, keeps_card, keeps_limits}
use Rattle.system.specs.Layout.{Reading, opened, unread, byte_at, word2, word4, head_size, field_size, headed_field, whole_field, body_part, field_at, body_at}
use Rattle.system.specs.Layout.{platform_rule, type_rule, data_rule, most_rule, pace_rule, second_rule, costs_rule, field_rules, rule_of, follows, may_follow, unless_fault}
use Rattle.system.specs.Layout.{platform_from, platform_of, type_from, type_of, data_from, data_of, most_from, most_of, pace_from, pace_of, second_from, second_of, costs_from, costs_of}
use Rattle.system.specs.Layout.{ruled_head, head_from, head_of, body_of, ruled_field, field_of, end_of, after_field, fields_from, read_card, of_one_kind, read_file, read_outcome, Reads}

-- a test of two parts
pub and_parts : (a b : Bool) → (a && b) ≡ true → (a ≡ true) × (b ≡ true)
and_parts a b e = (and-eq-true_iff a b).0 e

pub and_both : (a b : Bool) → a ≡ true → b ≡ true → (a && b) ≡ true
and_both a b p q = (and-eq-true_iff a b).1 (p, q)

-- a test of three parts
and-three : (a b c : Bool) → a && b && c ≡ true → (a ≡ true) × (b ≡ true) × (c ≡ true)
and-three a b c e = let p = and_parts (a && b) c e in let q = and_parts a b p.0 in (q.0, q.1, p.1)

-- Columns

pub columns_of-pos : (ns : List ℕ) → 0 < columns_of ns
unfolding columns_of
columns_of-pos [] = omega arith
columns_of-pos (n ∷ ns) = mul-pos (omega arith) (columns_of-pos ns)

-- a ceiling is below the columns
pub ceiling-lt : (ns : List ℕ) (j : ℕ) → get_or ns j 0 < columns_of ns
unfolding columns_of
ceiling-lt [] j = omega arith
ceiling-lt (n ∷ ns) zero = omega (arith, mul-le-mul_left (n + 1) (columns_of-pos ns))
ceiling-lt (n ∷ ns) (suc j) = omega (arith, ceiling-lt ns j, mul-le-mul_right {m = 1} {n = n + 1} (columns_of ns) (omega arith))

-- what the code holds of the product passes the limit where the product does, and is the product where it does not
pub within-limit : (c : ℕ) → leb (min c (column_limit + 1)) column_limit ≡ leb c column_limit
within-limit c = go (leb c column_limit) refl
  where
    go : (b : Bool) → leb c column_limit ≡ b → leb (min c (column_limit + 1)) column_limit ≡ b
    go true e = let h = leb-true c column_limit e in rw (min-eq_left {n = c} {m = column_limit + 1} (omega arith)) e
    go false e = let h = leb-false c column_limit e in rw (min-eq_right {n = column_limit + 1} {m = c} (omega arith))

-- The types of a system that keeps the limits

not-given : (m : Option ℕ) → not_given m ≡ true → m ≡ None
not-given None e = refl
not-given (Some q) e = absurd (false≢true e)

not-paced : (x : Option Cycle) → unpaced x ≡ true → x ≡ None
not-paced None e = refl
not-paced (Some c) e = absurd (false≢true e)

not_there : (x : Option Costs) → not (given x) ≡ true → x ≡ None
not_there None e = refl
not_there (Some c) e = absurd (false≢true e)

zero-task : (t : TaskType) → zero_task t ≡ true → t ≡ no_task
zero-task t e =
    let numbers = eqb t.time 0 && eqb t.memory 0 && eqb t.ceiling 0 && eqb t.data 0 in
    let here = and_parts (numbers && not_given t.most && unpaced t.pace) (not (given t.there)) e in
    let none = and-three numbers (not_given t.most) (unpaced t.pace) here.0 in
    let last = and_parts (eqb t.time 0 && eqb t.memory 0 && eqb t.ceiling 0) (eqb t.data 0) none.0 in
    let p = and-three (eqb t.time 0) (eqb t.memory 0) (eqb t.ceiling 0) last.0 in
    let time = eqb-true t.time 0 p.0 in
    let memory = eqb-true t.memory 0 p.1 in
    let ceiling = eqb-true t.ceiling 0 p.2 in
    let extra = eqb-true t.data 0 last.1 in
    let most = not-given t.most none.1 in
    let pace = not-paced t.pace none.2 in
    let there = not_there t.there here.1 in
    λ i. record { time = time i; memory = memory i; ceiling = ceiling i; «data» = extra i; most = most i; pace = pace i; there = there i }

-- past k a task is 0, and has nothing given
types-past : (k : ℕ) (ts : List TaskType) → types_keep k ts ≡ true → (i : ℕ) → k ≤ i → get_or ts i no_task ≡ no_task
unfolding types_keep
types-past k [] e i h = refl
types-past zero (t ∷ ts) e zero h = zero-task t (and_parts (zero_task t) (types_keep zero ts) e).0
types-past zero (t ∷ ts) e (suc i) h = types-past zero ts (and_parts (zero_task t) (types_keep zero ts) e).1 i zero-le
types-past (suc k) (t ∷ ts) e zero h = absurd (omega arith)
types-past (suc k) (t ∷ ts) e (suc i) h = types-past k ts (and_parts (sound_task t) (types_keep k ts) e).1 i (omega arith)

-- every task is within the limits of u, s and d
pub record Sized (t : TaskType) : Type 0 where
  pub time : t.time ≤ size_limit
  pub memory : t.memory ≤ size_limit
  pub «data» : t.data ≤ size_limit

-- a test that finds no fault
faultless : (b : Bool) (n x : ℕ) → 0 < n → cond (not b) n x ≡ 0 → (b ≡ true) × (x ≡ 0)
faultless true n x h e = (refl, e)
faultless false n x h e = absurd (omega arith)

-- of two tests neither finds a fault
pub neither : (a b : ℕ) → or_else a b ≡ 0 → (a ≡ 0) × (b ≡ 0)
neither a b e = go (eqb a 0) refl e
  where
    go : (c : Bool) → eqb a 0 ≡ c → cond c b a ≡ 0 → (a ≡ 0) × (b ≡ 0)
    go true q e = (eqb-true a 0 q, e)
    go false q e = absurd (eqb-false a 0 q e)

sizes-kept : (u s : ℕ) → size_fault u s ≡ 0 → (u ≤ size_limit) × (s ≤ size_limit)
sizes-kept u s e =
    let p = and_parts (leb u size_limit) (leb s size_limit) (faultless (leb u size_limit && leb s size_limit) 8 0 (omega arith) e).0 in
    (leb-true u size_limit p.0, leb-true s size_limit p.1)

pub sized-task : (t : TaskType) → type_fault t ≡ 0 → Sized t
sized-task t e =
    let u = leb t.time size_limit in
    let s = leb t.memory size_limit in
    let d = leb t.data size_limit in
    let p = and-three u s d (faultless (u && s && d) 8 0 (omega arith) e).0 in
    record { time = leb-true t.time size_limit p.0; memory = leb-true t.memory size_limit p.1; «data» = leb-true t.data size_limit p.2 }

sized-none : Sized no_task
sized-none = record { time = zero-le; memory = zero-le; «data» = zero-le }

-- q of a task: not given, or not 0
abbrev Limited : TaskType → Type 0
Limited t = most_fault t.most ≡ 0

-- the same in plain words
pub some-replica : (m : Option ℕ) (q : ℕ) → most_fault m ≡ 0 → m ≡ Some q → 1 ≤ q
some-replica m q e is = go (eqb q 0) refl (rw is at e)
  where
    go : (b : Bool) → eqb q 0 ≡ b → cond {A = ℕ} b 31 0 ≡ 0 → 1 ≤ q
    go true p e = absurd (omega arith)
    go false p e = omega (arith, eqb-false q 0 p)

pub replicas-keep : (m : Option ℕ) → ((q : ℕ) → m ≡ Some q → 1 ≤ q) → most_fault m ≡ 0
replicas-keep None some = refl
replicas-keep (Some q) some = rw (ne_eqb q 0 (λ none. omega (arith, some q refl)))

-- C and T of a type of this u, on engines of this U, within the limits
pub record CycleLimits (whole u : ℕ) (c : Cycle) : Type 0 where
  pub some-run : 1 ≤ c.run
  pub runs : c.run ≤ c.period
  pub period : c.period ≤ tick_limit
  pub some-time : 1 ≤ whole
  -- of each period an instance runs no more of an engine than u is of its U
  pub share : c.run * whole ≤ u * c.period

pub cycle-limits : (whole u : ℕ) (x : Option Cycle) (c : Cycle) → pace_fault whole u x ≡ 0 → x ≡ Some c → CycleLimits whole u c
cycle-limits whole u x c e is =
    let some = leb 1 c.run in
    let within = leb c.run c.period in
    let period = leb c.period tick_limit in
    let whole-some = leb 1 whole in
    let share = leb (c.run * whole) (u * c.period) in
    let all = and-three (some && within && period) whole-some share (faultless (cycle_keeps whole u c) 43 0 (omega arith) (ap (pace_fault whole u) (sym is) ∙ e)).0 in
    let bounds = and-three some within period all.0 in
    record {
      some-run = leb-true 1 c.run bounds.0;
      runs = leb-true c.run c.period bounds.1;
      period = leb-true c.period tick_limit bounds.2;
      some-time = leb-true 1 whole all.1;
      share = leb-true (c.run * whole) (u * c.period) all.2;
    }

pub cycle-keep : (whole u : ℕ) (x : Option Cycle) → ((c : Cycle) → x ≡ Some c → CycleLimits whole u c) → pace_fault whole u x ≡ 0
cycle-keep whole u None all = refl
cycle-keep whole u (Some c) all =
    let l = all c refl in
    rw (
      le-leb 1 c.run l.some-run,
      le-leb c.run c.period l.runs,
      le-leb c.period tick_limit l.period,
      le-leb 1 whole l.some-time,
      le-leb (c.run * whole) (u * c.period) l.share,
    )

-- C and T of a task, on engines of this U: not given, or within the limits
abbrev Runs : ℕ → TaskType → Type 0
Runs whole t = pace_fault whole t.time t.pace ≡ 0

-- those of the first k types find no fault exactly where each of them finds none
pub paces-each : (whole k : ℕ) (ts : List TaskType) → paces_fault whole k ts ≡ 0 → (i : ℕ) → i < k → pace_fault whole (get_or ts i no_task).time (get_or ts i no_task).pace ≡ 0
unfolding paces_fault
paces-each whole k [] e i h = refl
paces-each whole zero (t ∷ ts) e i h = absurd (omega arith)
paces-each whole (suc k) (t ∷ ts) e zero h = (neither (pace_fault whole t.time t.pace) (paces_fault whole k ts) e).0
paces-each whole (suc k) (t ∷ ts) e (suc i) h = paces-each whole k ts (neither (pace_fault whole t.time t.pace) (paces_fault whole k ts) e).1 i (omega arith)

pub each-paces : (whole k : ℕ) (ts : List TaskType) → ((i : ℕ) → i < k → pace_fault whole (get_or ts i no_task).time (get_or ts i no_task).pace ≡ 0) → paces_fault whole k ts ≡ 0
unfolding paces_fault
each-paces whole k [] all = refl
each-paces whole zero (t ∷ ts) all = refl
each-paces whole (suc k) (t ∷ ts) all =
    let later = each-paces whole k ts (λ i h. all (suc i) (omega arith)) in
    rw (all zero (omega arith), later)

-- and of every entry, where those past k are 0
paces-all : (whole k : ℕ) (ts : List TaskType) → ((i : ℕ) → k ≤ i → get_or ts i no_task ≡ no_task) → paces_fault whole k ts ≡ 0 → (i : ℕ) → Runs whole (get_or ts i no_task)
paces-all whole k ts past e i = go (leb k i) refl
  where
    go : (b : Bool) → leb k i ≡ b → Runs whole (get_or ts i no_task)
    go true p = ap (λ (t : TaskType). pace_fault whole t.time t.pace) (past i (leb-true k i p))
    go false p = paces-each whole k ts e i (leb-false k i p)

-- u and s of a task on the second kind: not given, or within the limits
abbrev Costed : TaskType → Type 0
Costed t = costs_fault t.there ≡ 0

-- the same in plain words
pub costs-sized : (x : Option Costs) (c : Costs) → costs_fault x ≡ 0 → x ≡ Some c → (c.time ≤ size_limit) × (c.memory ≤ size_limit)
costs-sized x c e is = sizes-kept c.time c.memory (ap costs_fault (sym is) ∙ e)

-- the three tests of an entry
sound-task : (t : TaskType) → sound_task t ≡ true → Sized t × Limited t × Costed t
sound-task t e =
    let p = and-three (eqb (type_fault t) 0) (eqb (most_fault t.most) 0) (eqb (costs_fault t.there) 0) e in
    (sized-task t (eqb-true (type_fault t) 0 p.0), eqb-true (most_fault t.most) 0 p.1, eqb-true (costs_fault t.there) 0 p.2)

-- what every sound task has, and one past k, every entry has
types-have : (P : TaskType → Type 0) → P no_task → ((t : TaskType) → sound_task t ≡ true → P t) → (k : ℕ) (ts : List TaskType) → types_keep k ts ≡ true → (i : ℕ) → P (get_or ts i no_task)
unfolding types_keep
types-have P none sound k [] e i = none
types-have P none sound zero (t ∷ ts) e zero = subst P (sym (zero-task t (and_parts (zero_task t) (types_keep zero ts) e).0)) none
types-have P none sound zero (t ∷ ts) e (suc i) = types-have P none sound zero ts (and_parts (zero_task t) (types_keep zero ts) e).1 i
types-have P none sound (suc k) (t ∷ ts) e zero = sound t (and_parts (sound_task t) (types_keep k ts) e).0
types-have P none sound (suc k) (t ∷ ts) e (suc i) = types-have P none sound k ts (and_parts (sound_task t) (types_keep k ts) e).1 i

-- One kind of engine or two

pub one-kind : (s : Option Kind) → is_one_kind s ≡ true → s ≡ None
one-kind None e = refl
one-kind (Some k) e = absurd (false≢true e)

pub two-kinds : (s : Option Kind) → is_one_kind s ≡ false → (k : Kind) × (s ≡ Some k)
two-kinds None e = absurd (false≢true (sym e))
two-kinds (Some k) e = (k, refl)

-- a second kind's numbers within the limits, where there are m engines of the first
pub record KindLimits (m : ℕ) (k : Kind) : Type 0 where
  pub some-engine : 1 ≤ k.number
  pub engines : m + k.number ≤ engine_limit
  pub time : k.timecap ≤ size_limit
  pub memory : k.memorycap ≤ size_limit

pub second-limits : (m : ℕ) (x : Option Kind) (k : Kind) → second_fault m x ≡ 0 → x ≡ Some k → KindLimits m k
second-limits m x k e is =
    let a = faultless (leb 1 k.number && leb (m + k.number) engine_limit) 5 (size_fault k.timecap k.memorycap) (omega arith) (ap (second_fault m) (sym is) ∙ e) in
    let n = and_parts (leb 1 k.number) (leb (m + k.number) engine_limit) a.0 in
    let sizes = sizes-kept k.timecap k.memorycap a.1 in
    record { some-engine = leb-true 1 k.number n.0; engines = leb-true (m + k.number) engine_limit n.1; time = sizes.0; memory = sizes.1 }

-- what is given has numbers
pub given-takes : (x : Option Costs) → given x ≡ true → (c : Costs) × (x ≡ Some c)
given-takes None e = absurd (false≢true e)
given-takes (Some c) e = (c, refl)

-- with one kind nothing of a second is given, with two u and s there are given of each type
pub kinds-absent : (k : ℕ) (ts : List TaskType) → kinds_agree true k ts ≡ true → (i : ℕ) → i < k → (get_or ts i no_task).there ≡ None
unfolding kinds_agree
kinds-absent k [] e i h = refl
kinds-absent zero (t ∷ ts) e i h = absurd (omega arith)
kinds-absent (suc k) (t ∷ ts) e zero h = not_there t.there (and_parts (not (given t.there)) (kinds_agree true k ts) e).0
kinds-absent (suc k) (t ∷ ts) e (suc i) h = kinds-absent k ts (and_parts (not (given t.there)) (kinds_agree true k ts) e).1 i (omega arith)

pub kinds-given : (k : ℕ) (ts : List TaskType) → kinds_agree false k ts ≡ true → (i : ℕ) → i < k → i < length ts → given (get_or ts i no_task).there ≡ true
unfolding kinds_agree
kinds-given k [] e i h inside = absurd (omega arith)
kinds-given zero (t ∷ ts) e i h inside = absurd (omega arith)
kinds-given (suc k) (t ∷ ts) e zero h inside = (and_parts (given t.there) (kinds_agree false k ts) e).0
kinds-given (suc k) (t ∷ ts) e (suc i) h inside = kinds-given k ts (and_parts (given t.there) (kinds_agree false k ts) e).1 i (omega arith) (omega arith)

pub absent-kinds : (k : ℕ) (ts : List TaskType) → ((i : ℕ) → (get_or ts i no_task).there ≡ None) → kinds_agree true k ts ≡ true
unfolding kinds_agree
absent-kinds k [] none = refl
absent-kinds zero (t ∷ ts) none = refl
absent-kinds (suc k) (t ∷ ts) none =
    and_both (not (given t.there)) (kinds_agree true k ts) (ap (λ (x : Option Costs). not (given x)) (none zero)) (absent-kinds k ts (λ i. none (suc i)))

pub given-kinds : (k : ℕ) (ts : List TaskType) → ((i : ℕ) → i < k → given (get_or ts i no_task).there ≡ true) → kinds_agree false k ts ≡ true
unfolding kinds_agree
given-kinds k [] all = refl
given-kinds zero (t ∷ ts) all = refl
given-kinds (suc k) (t ∷ ts) all =
    and_both (given t.there) (kinds_agree false k ts) (all zero (omega arith)) (given-kinds k ts (λ i h. all (suc i) (omega arith)))

-- Every limit of a card, of one kind of engine or two, as a plain fact
pub record CardLimits (y : System) : Type 0 where
  pub some-engine : 1 ≤ y.engines
  pub engines : y.engines ≤ engine_limit
  pub rule : y.rule ≤ 1
  pub time : y.timecap ≤ size_limit
  pub memory : y.memorycap ≤ size_limit
  pub some-type : 1 ≤ y.typecount
  pub typecount : y.typecount ≤ type_limit
  pub six : length y.types ≡ type_limit
  pub columns : columns_of (ceilings_of y) ≤ column_limit
  -- entries past k are 0, with nothing given
  pub past : (i : ℕ) → y.typecount ≤ i → get_or y.types i no_task ≡ no_task
  -- u, s and d of every entry, its q, its C and T, and its u and s on the second kind
  pub sized : (i : ℕ) → Sized (get_or y.types i no_task)
  pub replicas : (i : ℕ) → most_fault (get_or y.types i no_task).most ≡ 0
  pub paces : (i : ℕ) → pace_fault y.timecap (get_or y.types i no_task).time (get_or y.types i no_task).pace ≡ 0
  pub costs : (i : ℕ) → costs_fault (get_or y.types i no_task).there ≡ 0
  -- the second kind's number, U and S, and that all of it is given or nothing
  pub second : second_fault y.engines y.second ≡ 0
  pub kinds : kinds_agree (is_one_kind y.second) y.typecount y.types ≡ true

-- Every limit of document 01 as a plain fact, of a system of one kind of engine
pub record Limits (y : System) : Type 0 where
  pub some-engine : 1 ≤ y.engines
  pub engines : y.engines ≤ engine_limit
  pub rule : y.rule ≤ 1
  pub time : y.timecap ≤ size_limit
  pub memory : y.memorycap ≤ size_limit
  pub some-type : 1 ≤ y.typecount
  pub typecount : y.typecount ≤ type_limit
  pub six : length y.types ≡ type_limit
  pub columns : columns_of (ceilings_of y) ≤ column_limit
  -- entries past k are 0, with nothing given
  pub past : (i : ℕ) → y.typecount ≤ i → get_or y.types i no_task ≡ no_task
  -- u, s and d of every entry, its q, and its C and T
  pub sized : (i : ℕ) → Sized (get_or y.types i no_task)
  pub replicas : (i : ℕ) → most_fault (get_or y.types i no_task).most ≡ 0
  pub paces : (i : ℕ) → pace_fault y.timecap (get_or y.types i no_task).time (get_or y.types i no_task).pace ≡ 0
  -- nothing of a second kind is given
  pub one_kind : y.second ≡ None
  pub absent : (i : ℕ) → (get_or y.types i no_task).there ≡ None

-- a platform's numbers within the limits
record Platform (m r u s : ℕ) : Type 0 where
  some-engine : 1 ≤ m
  engines : m ≤ engine_limit
  rule : r ≤ 1
  time : u ≤ size_limit
  memory : s ≤ size_limit

platform-kept : (m rule u s : ℕ) → platform_fault m rule u s ≡ 0 → Platform m rule u s
platform-kept m rule u s e =
    let a = faultless (leb 1 m && leb m engine_limit) 5 _ (omega arith) e in
    let b = faultless (leb rule 1) 6 _ (omega arith) a.1 in
    let c = sizes-kept u s b.1 in
    let p = and_parts (leb 1 m) (leb m engine_limit) a.0 in
    record { some-engine = leb-true 1 m p.0; engines = leb-true m engine_limit p.1; rule = leb-true rule 1 b.0; time = c.0; memory = c.1 }

columns-kept : (y : System) → columns_fault y.types ≡ 0 → columns y ≤ column_limit
columns-kept y e = leb-true (columns y) column_limit (faultless (leb (columns y) column_limit) 10 0 (omega arith) e).0

-- six tests, joined as `keeps_card` joins them
six-true : (a b c d e f : Bool) → a && b && c && d && e && f ≡ true → (a ≡ true) × (b ≡ true) × (c ≡ true) × (d ≡ true) × (e ≡ true) × (f ≡ true)
six-true true true true true e f q = (refl, refl, refl, refl, (and_parts e f q).0, (and_parts e f q).1)
six-true false b c d e f q = absurd (false≢true q)
six-true true false c d e f q = absurd (false≢true q)
six-true true true false d e f q = absurd (false≢true q)
six-true true true true false e f q = absurd (false≢true q)

kinds_kept : (y : System) → kinds_fault y ≡ 0 → kinds_agree (is_one_kind y.second) y.typecount y.types ≡ true
kinds_kept y e = (faultless (kinds_agree (is_one_kind y.second) y.typecount y.types) 41 0 (omega arith) e).0

pub card-of : (y : System) → keeps_card y ≡ true → CardLimits y
unfolding keeps_card
card-of y q =
    let fault = platform_fault y.engines y.rule y.timecap y.memorycap in
    let one = eqb fault 0 && leb 1 y.typecount && leb y.typecount type_limit && eqb (length y.types) type_limit && types_keep y.typecount y.types && eqb (columns_fault y.types) 0 in
    let runs = eqb (paces_fault y.timecap y.typecount y.types) 0 in
    let kinds = and-three (one && runs) (eqb (second_fault y.engines y.second) 0) (eqb (kinds_fault y) 0) q in
    let both = and_parts one runs kinds.0 in
    let p =
    six-true (eqb fault 0) (leb 1 y.typecount) (leb y.typecount type_limit) (eqb (length y.types) type_limit) (types_keep y.typecount y.types)
    (eqb (columns_fault y.types) 0) both.0 in
    let past = types-past y.typecount y.types p.4 in
    let platform = platform-kept y.engines y.rule y.timecap y.memorycap (eqb-true fault 0 p.0) in
    record {
      some-engine = platform.some-engine;
      engines = platform.engines;
      rule = platform.rule;
      time = platform.time;
      memory = platform.memory;
      some-type = leb-true 1 y.typecount p.1;
      typecount = leb-true y.typecount type_limit p.2;
      six = eqb-true (length y.types) type_limit p.3;
      columns = columns-kept y (eqb-true (columns_fault y.types) 0 p.5);
      past = past;
      sized = types-have Sized sized-none (λ t h. (sound-task t h).0) y.typecount y.types p.4;
      replicas = types-have Limited refl (λ t h. (sound-task t h).1) y.typecount y.types p.4;
      paces = paces-all y.timecap y.typecount y.types past (eqb-true (paces_fault y.timecap y.typecount y.types) 0 both.1);
      costs = types-have Costed refl (λ t h. (sound-task t h).2) y.typecount y.types p.4;
      second = eqb-true (second_fault y.engines y.second) 0 kinds.1;
      kinds = kinds_kept y (eqb-true (kinds_fault y) 0 kinds.2);
    }

-- a card without a second kind is a system of one kind, and nothing of a second is given
all-absent : (y : System) → CardLimits y → y.second ≡ None → (i : ℕ) → (get_or y.types i no_task).there ≡ None
all-absent y l one i = go (leb y.typecount i) refl
  where
    go : (b : Bool) → leb y.typecount i ≡ b → (get_or y.types i no_task).there ≡ None
    go true p = ap (λ (t : TaskType). t.there) (l.past i (leb-true y.typecount i p))
    go false p = kinds-absent y.typecount y.types (ap (λ (x : Option Kind). kinds_agree (is_one_kind x) y.typecount y.types) (sym one) ∙ l.kinds) i (leb-false y.typecount i p)

pub card-limits : (y : System) → CardLimits y → y.second ≡ None → Limits y
card-limits y l one =
    record {
      some-engine = l.some-engine;
      engines = l.engines;
      rule = l.rule;
      time = l.time;
      memory = l.memory;
      some-type = l.some-type;
      typecount = l.typecount;
      six = l.six;
      columns = l.columns;
      past = l.past;
      sized = l.sized;
      replicas = l.replicas;
      paces = l.paces;
      one_kind = one;
      absent = all-absent y l one;
    }

pub limits-card : (y : System) → Limits y → CardLimits y
limits-card y l =
    record {
      some-engine = l.some-engine;
      engines = l.engines;
      rule = l.rule;
      time = l.time;
      memory = l.memory;
      some-type = l.some-type;
      typecount = l.typecount;
      six = l.six;
      columns = l.columns;
      past = l.past;
      sized = l.sized;
      replicas = l.replicas;
      paces = l.paces;
      costs = λ i. ap costs_fault (l.absent i);
      second = ap (second_fault y.engines) l.one_kind;
      kinds = ap (λ (x : Option Kind). kinds_agree (is_one_kind x) y.typecount y.types) l.one_kind ∙ absent-kinds y.typecount y.types l.absent;
    }

pub limits_of : (y : System) → keeps_limits y ≡ true → Limits y
unfolding keeps_limits
limits_of y q = let p = and_parts (keeps_card y) (is_one_kind y.second) q in card-limits y (card-of y p.0) (one-kind y.second p.1)

-- the other way

pub sizes-keep : (u s : ℕ) → u ≤ size_limit → s ≤ size_limit → size_fault u s ≡ 0
sizes-keep u s p q = rw (le-leb u size_limit p, le-leb s size_limit q)

pub costs-keep : (x : Option Costs) → ((c : Costs) → x ≡ Some c → (c.time ≤ size_limit) × (c.memory ≤ size_limit)) → costs_fault x ≡ 0
costs-keep None all = refl
costs-keep (Some c) all = let p = all c refl in sizes-keep c.time c.memory p.0 p.1

-- a second kind's number that passes leaves its sizes
pub second-within : (m n u s : ℕ) → 1 ≤ n → m + n ≤ engine_limit → kind_fault m n u s ≡ size_fault u s
second-within m n u s low high = rw (le-leb 1 n low, le-leb (m + n) engine_limit (omega arith))

pub second-keep : (m : ℕ) (x : Option Kind) → ((k : Kind) → x ≡ Some k → KindLimits m k) → second_fault m x ≡ 0
second-keep m None all = refl
second-keep m (Some k) all =
    let l = all k refl in
    second-within m k.number k.timecap k.memorycap l.some-engine l.engines ∙ sizes-keep k.timecap k.memorycap l.time l.memory

pub sized-test : (t : TaskType) → Sized t → eqb (type_fault t) 0 ≡ true
sized-test t h = rw (le-leb t.time size_limit h.time, le-leb t.memory size_limit h.memory, le-leb t.data size_limit h.data)

types-keep : (k : ℕ) (ts : List TaskType) → ((i : ℕ) → k ≤ i → get_or ts i no_task ≡ no_task) → ((i : ℕ) → Sized (get_or ts i no_task)) → ((i : ℕ) → Limited (get_or ts i no_task)) → ((i : ℕ) → Costed (get_or ts i no_task)) → types_keep k ts ≡ true
unfolding types_keep
types-keep k [] past sized limited costed = refl
types-keep zero (t ∷ ts) past sized limited costed =
    and_both (zero_task t) (types_keep zero ts) (ap zero_task (past zero zero-le))
    (types-keep zero ts (λ i h. past (suc i) zero-le) (λ i. sized (suc i)) (λ i. limited (suc i)) (λ i. costed (suc i)))
types-keep (suc k) (t ∷ ts) past sized limited costed =
    and_both (sound_task t) (types_keep k ts)
    (and_both (eqb (type_fault t) 0 && eqb (most_fault t.most) 0) (eqb (costs_fault t.there) 0)
    (and_both (eqb (type_fault t) 0) (eqb (most_fault t.most) 0) (sized-test t (sized zero)) (eq-eqb (most_fault t.most) 0 (limited zero)))
    (eq-eqb (costs_fault t.there) 0 (costed zero)))
    (types-keep k ts (λ i h. past (suc i) (omega arith)) (λ i. sized (suc i)) (λ i. limited (suc i)) (λ i. costed (suc i)))

pub card-keep : (y : System) → CardLimits y → keeps_card y ≡ true
unfolding keeps_card
card-keep y l =
    simp (
      le-leb 1 y.engines l.some-engine,
      le-leb y.engines engine_limit l.engines,
      le-leb y.rule 1 l.rule,
      le-leb y.timecap size_limit l.time,
      le-leb y.memorycap size_limit l.memory,
      le-leb 1 y.typecount l.some-type,
      le-leb y.typecount type_limit l.typecount,
      eq-eqb (length y.types) type_limit l.six,
      types-keep y.typecount y.types l.past l.sized l.replicas l.costs,
      le-leb (columns y) column_limit l.columns,
      each-paces y.timecap y.typecount y.types (λ i h. l.paces i),
      l.second,
      l.kinds,
    )

pub limits-keep : (y : System) → Limits y → keeps_limits y ≡ true
unfolding keeps_limits
limits-keep y l = and_both (keeps_card y) (is_one_kind y.second) (card-keep y (limits-card y l)) (ap is_one_kind l.one_kind)

-- Every file that is read keeps the limits

-- a test that does not refuse
pub passes : (b : Bool) (n : ℕ) (x : Reading) (z : System) → cond b (unread n) x ≡ opened z → (b ≡ false) × (x ≡ opened z)
passes true n x z e = let q : ◌≡◌ {A = ℕ} 0 1 = cc in absurd (omega arith)
passes false n x z e = (refl, e)

pub no-fault : (n : ℕ) (y z : System) → unless_fault n y ≡ opened z → (n ≡ 0) × (y ≡ z)
no-fault n y z e = go (eqb n 0) refl e
  where
    go : (b : Bool) → eqb n 0 ≡ b → cond b (opened y) (unread n) ≡ opened z → (n ≡ 0) × (y ≡ z)
    go true q e = let same : y ≡ z = cc in (eqb-true n 0 q, same)
    go false q e = let z : ◌≡◌ {A = ℕ} 0 1 = cc in absurd (omega arith)

-- what is known of the system after some fields, the last of tag `last` (0 for none)
pub record Sound (last : ℕ) (y : System) : Type 0 where
  pub typecount : y.typecount ≤ type_limit
  -- at or after a type there is one
  pub some-type : PastTypes last → 0 < y.typecount
  pub six : length y.types ≡ type_limit
  pub past : (i : ℕ) → y.typecount ≤ i → get_or y.types i no_task ≡ no_task
  pub sized : (i : ℕ) → Sized (get_or y.types i no_task)
  pub replicas : (i : ℕ) → most_fault (get_or y.types i no_task).most ≡ 0
  pub paces : (i : ℕ) → pace_fault y.timecap (get_or y.types i no_task).time (get_or y.types i no_task).pace ≡ 0
  pub costs : (i : ℕ) → costs_fault (get_or y.types i no_task).there ≡ 0
  -- every type comes after the platform, and its C and T were judged with that U
  none_first : last ≡ 0 → y.typecount ≡ 0
  -- a second kind comes after the platform, and was judged with its number of engines
  pub one-first : last ≡ 0 → y.second ≡ None
  pub second : (last ≡ 0 → ⊥) → second_fault y.engines y.second ≡ 0
  platform : (last ≡ 0 → ⊥) → Platform y.engines y.rule y.timecap y.memorycap

pub get_or-blank : (n i : ℕ) → get_or (replicate n no_task) i no_task ≡ no_task
get_or-blank zero i = refl
get_or-blank (suc n) zero = refl
get_or-blank (suc n) (suc i) = get_or-blank n i

pub sound-blank : Sound 0 blank
sound-blank =
    record {
      typecount = zero-le;
      some-type = λ h. absurd (omega arith);
      six = refl;
      past = λ i h. get_or-blank type_limit i;
      sized = λ i. subst Sized (sym (get_or-blank type_limit i)) sized-none;
      replicas = λ i. ap (λ (t : TaskType). most_fault t.most) (get_or-blank type_limit i);
      paces = λ i. ap (λ (t : TaskType). pace_fault 0 t.time t.pace) (get_or-blank type_limit i);
      costs = λ i. ap (λ (t : TaskType). costs_fault t.there) (get_or-blank type_limit i);
      none_first = λ e. refl;
      one-first = λ e. refl;
      second = λ n. refl;
      platform = λ n. absurd (n refl);
    }

pub either-false : (a b : Bool) → a || b ≡ false → (a ≡ false) × (b ≡ false)
either-false false b e = (refl, e)
either-false true b e = absurd (false≢true (sym e))

sound-end : (last : ℕ) (y z : System) → Sound last y → end_of last y ≡ opened z → keeps_card z ≡ true
unfolding end_of
sound-end last y z s e =
    let a = passes (eqb last 0 || eqb y.typecount 0) 9 _ z e in
    let some = either-false (eqb last 0) (eqb y.typecount 0) a.0 in
    let c = no-fault (or_else (kinds_fault y) (columns_fault y.types)) y z a.1 in
    let both = neither (kinds_fault y) (columns_fault y.types) c.0 in
    let p = s.platform (eqb-false last 0 some.0) in
    subst (λ (x : System). keeps_card x ≡ true) c.1
    (card-keep y
    (record {
      some-engine = p.some-engine;
      engines = p.engines;
      rule = p.rule;
      time = p.time;
      memory = p.memory;
      some-type = omega (arith, eqb-false y.typecount 0 some.1);
      typecount = s.typecount;
      six = s.six;
      columns = columns-kept y both.1;
      past = s.past;
      sized = s.sized;
      replicas = s.replicas;
      paces = s.paces;
      costs = s.costs;
      second = s.second (eqb-false last 0 some.0);
      kinds = kinds_kept y both.0;
    }))

-- a platform's body, which comes first: there is no type and no second kind yet
sound-platform : (b : List ℕ) (last : ℕ) (y z : System) → Sound last y → last ≡ 0 → platform_of b y ≡ opened z → Sound platform_rule.tag z
unfolding platform_from
sound-platform b last y z s first e =
    let p = no-fault (platform_fault (byte_at b 0) (byte_at b 1) (word4 b 2) (word4 b 6)) (with_platform (byte_at b 0) (byte_at b 1) (word4 b 2) (word4 b 6) y) z e in
    subst (Sound platform_rule.tag) p.1
    (record {
      typecount = s.typecount;
      some-type = λ h. absurd (omega arith);
      six = s.six;
      past = s.past;
      sized = s.sized;
      replicas = s.replicas;
      paces = λ i. ap (λ (t : TaskType). pace_fault (word4 b 2) t.time t.pace) (s.past i (omega (arith, s.none_first first)));
      costs = s.costs;
      none_first = λ e. absurd (omega arith);
      one-first = λ e. absurd (omega arith);
      second = λ n. ap (second_fault (byte_at b 0)) (s.one-first first);
      platform = λ n. platform-kept (byte_at b 0) (byte_at b 1) (word4 b 2) (word4 b 6) p.0;
    })

-- that of a second kind of engine, where there is a platform
sound-second : (b : List ℕ) (last : ℕ) (y z : System) → Sound last y → (last ≡ 0 → ⊥) → second_of b y ≡ opened z → Sound second_rule.tag z
unfolding second_from
sound-second b last y z s first e =
    let q = no-fault (kind_fault y.engines (byte_at b 0) (word4 b 1) (word4 b 5)) (with_second (byte_at b 0) (word4 b 1) (word4 b 5) y) z e in
    subst (Sound second_rule.tag) q.1
    (record {
      typecount = s.typecount;
      some-type = λ h. absurd (h.1 refl);
      six = s.six;
      past = s.past;
      sized = s.sized;
      replicas = s.replicas;
      paces = s.paces;
      costs = s.costs;
      none_first = λ e. absurd (omega arith);
      one-first = λ e. absurd (omega arith);
      second = λ n. q.0;
      platform = λ n. s.platform first;
    })

-- one entry more
set-has : (P : TaskType → Type 0) (t : TaskType) (ts : List TaskType) (k : ℕ) → P t → ((i : ℕ) → P (get_or ts i no_task)) → (i : ℕ) → P (get_or (set ts k t) i no_task)
set-has P t [] k h all i = all i
set-has P t (u ∷ ts) zero h all zero = h
set-has P t (u ∷ ts) zero h all (suc i) = all (suc i)
set-has P t (u ∷ ts) (suc k) h all zero = all zero
set-has P t (u ∷ ts) (suc k) h all (suc i) = set-has P t ts k h (λ j. all (suc j)) i

-- a type's body, where there is a platform and room for one more type
sound-type : (b : List ℕ) (last : ℕ) (y z : System) → Sound last y → (last ≡ 0 → ⊥) → y.typecount < type_limit → type_of b y ≡ opened z → Sound type_rule.tag z
unfolding type_from
sound-type b last y z s first room e =
    let t = task_of (word4 b 0) (word4 b 4) (word2 b 8) in
    let q = no-fault (type_fault t) (with_type t y) z e in
    subst (Sound type_rule.tag) q.1
    (record {
      typecount = room;
      some-type = λ h. omega arith;
      six = length-set y.types y.typecount t ∙ s.six;
      past = λ i h. get_or-set_other y.types y.typecount i t no_task (λ (p : i ≡ y.typecount). omega arith) ∙ s.past i (omega arith);
      sized = set-has Sized t y.types y.typecount (sized-task t q.0) s.sized;
      replicas = set-has Limited t y.types y.typecount refl s.replicas;
      paces = set-has (Runs y.timecap) t y.types y.typecount refl s.paces;
      costs = set-has Costed t y.types y.typecount refl s.costs;
      none_first = λ e. absurd (omega arith);
      one-first = λ e. absurd (omega arith);
      second = λ n. s.second first;
      platform = λ n. s.platform first;
    })

-- another type in the last one's place, at or after a type
sound-last : (t : TaskType) (tag last : ℕ) (y : System) → Sound last y → (tag ≡ 0 → ⊥) → PastTypes last → Sized t → Limited t → Runs y.timecap t → Costed t → Sound tag (with_last t y)
sound-last t tag last y s later after sized limited paced costed =
    let some = s.some-type after in
    record {
      typecount = s.typecount;
      some-type = λ h. some;
      six = length-set y.types (y.typecount - 1) t ∙ s.six;
      past = λ i h. get_or-set_other y.types (y.typecount - 1) i t no_task (λ (p : i ≡ y.typecount - 1). omega arith) ∙ s.past i h;
      sized = set-has Sized t y.types (y.typecount - 1) sized s.sized;
      replicas = set-has Limited t y.types (y.typecount - 1) limited s.replicas;
      paces = set-has (Runs y.timecap) t y.types (y.typecount - 1) paced s.paces;
      costs = set-has Costed t y.types (y.typecount - 1) costed s.costs;
      none_first = λ e. absurd (later e);
      one-first = λ e. absurd (later e);
      second = λ n. s.second (λ none. omega arith);
      platform = λ n. s.platform (λ none. omega arith);
    }

-- d of the last type
sound-data : (b : List ℕ) (last : ℕ) (y z : System) → Sound last y → PastTypes last → data_of b y ≡ opened z → Sound data_rule.tag z
unfolding data_from
sound-data b last y z s after e =
    let t = with_data (word4 b 0) (last_type y) in
    let q = no-fault (type_fault t) (with_last t y) z e in
    subst (Sound data_rule.tag) q.1
    (sound-last t data_rule.tag last y s (λ e. omega arith) after (sized-task t q.0) (s.replicas (y.typecount - 1)) (s.paces (y.typecount - 1)) (s.costs (y.typecount - 1)))

-- its q
sound-most : (b : List ℕ) (last : ℕ) (y z : System) → Sound last y → PastTypes last → most_of b y ≡ opened z → Sound most_rule.tag z
unfolding most_from
sound-most b last y z s after e =
    let t = with_most (word2 b 0) (last_type y) in
    let q = no-fault (most_fault t.most) (with_last t y) z e in
    let sized = s.sized (y.typecount - 1) in
    subst (Sound most_rule.tag) q.1
    (sound-last t most_rule.tag last y s (λ e. omega arith) after (record { time = sized.time; memory = sized.memory; «data» = sized.data }) q.0 (s.paces (y.typecount - 1)) (s.costs (y.typecount - 1)))

-- its C and T
sound-pace : (b : List ℕ) (last : ℕ) (y z : System) → Sound last y → PastTypes last → pace_of b y ≡ opened z → Sound pace_rule.tag z
unfolding pace_from
sound-pace b last y z s after e =
    let t = with_pace (word4 b 0) (word4 b 4) (last_type y) in
    let q = no-fault (pace_fault y.timecap t.time t.pace) (with_last t y) z e in
    let sized = s.sized (y.typecount - 1) in
    subst (Sound pace_rule.tag) q.1
    (sound-last t pace_rule.tag last y s (λ e. omega arith) after (record { time = sized.time; memory = sized.memory; «data» = sized.data }) (s.replicas (y.typecount - 1)) q.0 (s.costs (y.typecount - 1)))

-- its u and s on the second kind
sound-costs : (b : List ℕ) (last : ℕ) (y z : System) → Sound last y → PastTypes last → costs_of b y ≡ opened z → Sound costs_rule.tag z
unfolding costs_from
sound-costs b last y z s after e =
    let t = with_costs (word4 b 0) (word4 b 4) (last_type y) in
    let q = no-fault (costs_fault t.there) (with_last t y) z e in
    let sized = s.sized (y.typecount - 1) in
    subst (Sound costs_rule.tag) q.1
    (sound-last t costs_rule.tag last y s (λ e. omega arith) after (record { time = sized.time; memory = sized.memory; «data» = sized.data }) (s.replicas (y.typecount - 1)) (s.paces (y.typecount - 1)) q.0)

-- the table has the rules of a platform, of a type, of d, of q, and of C and T, of a second kind, and of u and s there
pub data OneOf (r : FieldRule) : Type 0 where
  a-platform : r ≡ platform_rule → OneOf r
  a-type : r ≡ type_rule → OneOf r
  a-data : r ≡ data_rule → OneOf r
  a-most : r ≡ most_rule → OneOf r
  a-pace : r ≡ pace_rule → OneOf r
  a_second : r ≡ second_rule → OneOf r
  a-costs : r ≡ costs_rule → OneOf r

pub record IsRule (r : FieldRule) (tag : ℕ) : Type 0 where
  pub same_tag : r.tag ≡ tag
  pub which : OneOf r

-- the rule that a table has for a tag is of that tag, and has what every rule of the table has
abbrev EveryRule : (FieldRule → Type 0) → List FieldRule → Type 0
EveryRule P [] = Unit {0}
EveryRule P (r ∷ rs) = P r × EveryRule P rs

rule_found : (P : FieldRule → Type 0) (rules : List FieldRule) (tag : ℕ) (r : FieldRule) → EveryRule P rules → rule_of rules tag ≡ Some r → (r.tag ≡ tag) × P r
unfolding rule_of
rule_found P [] tag r all e = let z : ◌≡◌ {A = ℕ} 0 1 = cc in absurd (omega arith)
rule_found P (t ∷ ts) tag r all e = go (eqb t.tag tag) refl (rule_found P ts tag r all.1) e
  where
    go : (b : Bool) → eqb t.tag tag ≡ b → (rule_of ts tag ≡ Some r → (r.tag ≡ tag) × P r) → cond b (Some t) (rule_of ts tag) ≡ Some r → (r.tag ≡ tag) × P r
    go true q later e = let same : t ≡ r = cc in (ap (λ (x : FieldRule). x.tag) (sym same) ∙ eqb-true t.tag tag q, subst P same all.0)
    go false q later e = later e

pub rule_of-known : (tag : ℕ) (r : FieldRule) → rule_of field_rules tag ≡ Some r → IsRule r tag
rule_of-known tag r e =
    let p = rule_found OneOf field_rules tag r (a-platform refl, (a-type refl, (a-data refl, (a-most refl, (a-pace refl, (a_second refl, (a-costs refl, tt))))))) e in
    record { same_tag = p.0; which = p.1 }

-- a platform is first, and a type is not
pub platform-first : (last : ℕ) → may_follow follows last platform_rule.tag ≡ true → last ≡ 0
platform-first last e = go (eqb 0 last) refl e
  where
    go : (b : Bool) → eqb 0 last ≡ b → cond b true false ≡ true → last ≡ 0
    go true q e = sym (eqb-true 0 last q)
    go false q e = absurd (false≢true e)

pub type-later : (last : ℕ) → may_follow follows last type_rule.tag ≡ true → last ≡ 0 → ⊥
type-later last e z = false≢true (ap (λ (n : ℕ). may_follow follows n type_rule.tag) (sym z) ∙ e)

-- d comes directly after a type, and nowhere else: not after another d
pub data-after-type : (last : ℕ) → (may_follow follows last data_rule.tag ≡ true) ↔ (last ≡ type_rule.tag)
data-after-type last = (λ e. go (eqb 2 last) refl e, λ e. rw e)
  where
    go : (b : Bool) → eqb 2 last ≡ b → cond b true false ≡ true → last ≡ type_rule.tag
    go true q e = sym (eqb-true 2 last q)
    go false q e = absurd (false≢true e)

-- q comes directly after a type or after its d, and nowhere else: not after another q
pub most-after-type : (last : ℕ) → (may_follow follows last most_rule.tag ≡ true) ↔ ((last ≡ type_rule.tag) ⊎ (last ≡ data_rule.tag))
most-after-type last = (λ e. go (eqb 2 last) (eqb 3 last) refl refl e, ⊎_elim (λ e. rw e) (λ e. rw e))
  where
    go : (b c : Bool) → eqb 2 last ≡ b → eqb 3 last ≡ c → cond b true (cond c true false) ≡ true → (last ≡ type_rule.tag) ⊎ (last ≡ data_rule.tag)
    go true c p q e = inl (sym (eqb-true 2 last p))
    go false true p q e = inr (sym (eqb-true 3 last q))
    go false false p q e = absurd (false≢true e)

-- a second kind comes directly after the platform, and nowhere else
pub second-after-platform : (last : ℕ) → (may_follow follows last second_rule.tag ≡ true) ↔ (last ≡ platform_rule.tag)
second-after-platform last = (λ e. go (eqb 1 last) refl e, λ e. rw e)
  where
    go : (b : Bool) → eqb 1 last ≡ b → cond b true false ≡ true → last ≡ platform_rule.tag
    go true q e = sym (eqb-true 1 last q)
    go false q e = absurd (false≢true e)

-- C and T come after a type, its d and its q, and nowhere else: not after others
pub pace-after-type : (last : ℕ) → (may_follow follows last pace_rule.tag ≡ true) ↔ ((last ≡ type_rule.tag) ⊎ ((last ≡ data_rule.tag) ⊎ (last ≡ most_rule.tag)))
pace-after-type last = (λ e. go (eqb 2 last) (eqb 3 last) (eqb 4 last) refl refl refl e, ⊎_elim (λ e. rw e) (⊎_elim (λ e. rw e) (λ e. rw e)))
  where
    go : (b c d : Bool) → eqb 2 last ≡ b → eqb 3 last ≡ c → eqb 4 last ≡ d → cond b true (cond c true (cond d true false)) ≡ true
        → (last ≡ type_rule.tag) ⊎ ((last ≡ data_rule.tag) ⊎ (last ≡ most_rule.tag))
    go true c d p q r e = inl (sym (eqb-true 2 last p))
    go false true d p q r e = inr (inl (sym (eqb-true 3 last q)))
    go false false true p q r e = inr (inr (sym (eqb-true 4 last r)))
    go false false false p q r e = absurd (false≢true e)

-- u and s on the second kind come after a type, its d, its q, and its C and T, and nowhere else: not after others
pub costs-after-type : (last : ℕ)
    → (may_follow follows last costs_rule.tag ≡ true) ↔ ((last ≡ type_rule.tag) ⊎ ((last ≡ data_rule.tag) ⊎ ((last ≡ most_rule.tag) ⊎ (last ≡ pace_rule.tag))))
costs-after-type last =
    (λ e. go (eqb 2 last) (eqb 3 last) (eqb 4 last) (eqb 5 last) refl refl refl refl e, ⊎_elim (λ e. rw e) (⊎_elim (λ e. rw e) (⊎_elim (λ e. rw e) (λ e. rw e))))
  where
    go : (a b c d : Bool) → eqb 2 last ≡ a → eqb 3 last ≡ b → eqb 4 last ≡ c → eqb 5 last ≡ d → cond a true (cond b true (cond c true (cond d true false))) ≡ true
        → (last ≡ type_rule.tag) ⊎ ((last ≡ data_rule.tag) ⊎ ((last ≡ most_rule.tag) ⊎ (last ≡ pace_rule.tag)))
    go true b c d o p q r e = inl (sym (eqb-true 2 last o))
    go false true c d o p q r e = inr (inl (sym (eqb-true 3 last p)))
    go false false true d o p q r e = inr (inr (inl (sym (eqb-true 4 last q))))
    go false false false true o p q r e = inr (inr (inr (sym (eqb-true 5 last r))))
    go false false false false o p q r e = absurd (false≢true e)

-- so what belongs to a type comes at or after one
pub part-later : (r : FieldRule) (last : ℕ) → OneOf r → type_rule.tag < r.tag → (r.tag ≡ second_rule.tag → ⊥) → may_follow follows last r.tag ≡ true → PastTypes last
part-later r last (a-platform w) h n p = absurd (omega (arith, ap (λ (x : FieldRule). x.tag) w))
part-later r last (a-type w) h n p = absurd (omega (arith, ap (λ (x : FieldRule). x.tag) w))
part-later r last (a_second w) h n p = absurd (n (ap (λ (x : FieldRule). x.tag) w))
part-later r last (a-data w) h n p = let e = (data-after-type last).0 (rw w at p) in (omega arith, λ z. omega arith)
part-later r last (a-most w) h n p = ⊎_elim (λ e. (omega arith, λ z. omega arith)) (λ e. (omega arith, λ z. omega arith)) ((most-after-type last).0 (rw w at p))
part-later r last (a-pace w) h n p =
    ⊎_elim (λ e. (omega arith, λ z. omega arith)) (⊎_elim (λ e. (omega arith, λ z. omega arith)) (λ e. (omega arith, λ z. omega arith)))
    ((pace-after-type last).0 (rw w at p))
part-later r last (a-costs w) h n p =
    ⊎_elim (λ e. (omega arith, λ z. omega arith))
    (⊎_elim (λ e. (omega arith, λ z. omega arith)) (⊎_elim (λ e. (omega arith, λ z. omega arith)) (λ e. (omega arith, λ z. omega arith))))
    ((costs-after-type last).0 (rw w at p))

-- a head that passes has a rule, stands in its place, gives the rule's length, and its body stands there
pub record Passed (tag size : ℕ) (all : Bool) (last : ℕ) (r : FieldRule) : Type 0 where
  pub rule : IsRule r tag
  pub place : may_follow follows last r.tag ≡ true
  pub length : size ≡ r.body
  pub whole : all ≡ true

head-passes : (b : Bool) (n : ℕ) (x : Result FieldRule ℕ) (r : FieldRule) → cond b (Err n) x ≡ Ok r → (b ≡ false) × (x ≡ Ok r)
head-passes true n x r e = let q : ◌≡◌ {A = ℕ} 0 1 = cc in absurd (omega arith)
head-passes false n x r e = (refl, e)

pub head_from-ruled : (headed : Bool) (tag size : ℕ) (all : Bool) (last : ℕ) (r : FieldRule) → head_from headed tag size all last ≡ Ok r → Passed tag size all last r
unfolding ruled_head
head_from-ruled headed tag size all last r e = known (rule_of field_rules tag) refl (head-passes (not headed) 1 _ r e).1
  where
    known : (f : Option FieldRule) → rule_of field_rules tag ≡ f → ruled_head f size all last ≡ Ok r → Passed tag size all last r
    known None q e = let z : ◌≡◌ {A = ℕ} 0 1 = cc in absurd (omega arith)
    known (Some t) q e =
        let a = head-passes (not (may_follow follows last t.tag)) 3 _ r e in
        let b = head-passes (not (eqb size t.body)) 4 _ r a.1 in
        let c = head-passes (not all) 1 _ r b.1 in
        let same : t ≡ r = cc in
        subst (Passed tag size all last) same
        (record {
          rule = rule_of-known tag t q;
          place = not-false (may_follow follows last t.tag) a.0;
          length = eqb-true size t.body (not-false (eqb size t.body) b.0);
          whole = not-false all c.0;
        })

pub head_of-ruled : (s : List ℕ) (last : ℕ) (r : FieldRule) → head_of s last ≡ Ok r → Passed (byte_at s 0) (word2 s 1) (whole_field s) last r
unfolding head_of
head_of-ruled s last r e = head_from-ruled (headed_field s) (byte_at s 0) (word2 s 1) (whole_field s) last r e

-- a field after its head
sound-body : (r : FieldRule) (b : List ℕ) (last : ℕ) (y z : System) → Sound last y → OneOf r → may_follow follows last r.tag ≡ true
    → body_of r b y ≡ opened z → Sound r.tag z
unfolding body_of
sound-body r b last y z s (a-platform w) p e = rw w (sound-platform b last y z s (platform-first last (rw w at p)) (rw w at e))
sound-body r b last y z s (a-type w) p e =
    let q = passes (leb type_limit y.typecount) 7 (type_of b y) z (rw w at e) in
    rw w (sound-type b last y z s (type-later last (rw w at p)) (leb-false type_limit y.typecount q.0) q.1)
sound-body r b last y z s (a-data w) p e =
    let tag = ap (λ (x : FieldRule). x.tag) w in
    rw w (sound-data b last y z s (part-later r last (a-data w) (omega arith) (λ n. omega arith) p) (rw w at e))
sound-body r b last y z s (a-most w) p e =
    let tag = ap (λ (x : FieldRule). x.tag) w in
    rw w (sound-most b last y z s (part-later r last (a-most w) (omega arith) (λ n. omega arith) p) (rw w at e))
sound-body r b last y z s (a-pace w) p e =
    let tag = ap (λ (x : FieldRule). x.tag) w in
    rw w (sound-pace b last y z s (part-later r last (a-pace w) (omega arith) (λ n. omega arith) p) (rw w at e))
sound-body r b last y z s (a_second w) p e =
    let after = (second-after-platform last).0 (rw w at p) in
    rw w (sound-second b last y z s (λ n. omega arith) (rw w at e))
sound-body r b last y z s (a-costs w) p e =
    let tag = ap (λ (x : FieldRule). x.tag) w in
    rw w (sound-costs b last y z s (part-later r last (a-costs w) (omega arith) (λ n. omega arith) p) (rw w at e))

-- a field that is accepted has a head that passes, and its body is accepted
pub record Accepts (s : List ℕ) (last : ℕ) (y z : System) : Type 0 where
  pub rule : FieldRule
  pub passed : Passed (byte_at s 0) (word2 s 1) (whole_field s) last rule
  pub body : body_of rule (body_part s) y ≡ opened z

pub field_of-opened : (s : List ℕ) (last : ℕ) (y z : System) → field_of s last y ≡ opened z → Accepts s last y z
unfolding field_of ruled_field
field_of-opened s last y z e = judged (head_of s last) refl e
  where
    judged : (x : Result FieldRule ℕ) → head_of s last ≡ x → ruled_field x (body_part s) y ≡ opened z → Accepts s last y z
    judged (Err n) q e = let z : ◌≡◌ {A = ℕ} 0 1 = cc in absurd (omega arith)
    judged (Ok r) q e = record { rule = r; passed = head_of-ruled s last r q; body = e }

pub sound-field : (s : List ℕ) (last : ℕ) (y z : System) → Sound last y → field_of s last y ≡ opened z → Sound (byte_at s 0) z
sound-field s last y z h e =
    let a = field_of-opened s last y z e in
    rw a.passed.rule.same_tag at (sound-body a.rule (body_part s) last y z h a.passed.rule.which a.passed.place a.body)

pub fields_from-nil : (f last : ℕ) (y : System) → fields_from f [] last y ≡ end_of last y
unfolding fields_from
fields_from-nil zero last y = refl
fields_from-nil (suc f) last y = refl

sound-fields : (f : ℕ) (s : List ℕ) (last : ℕ) (y z : System) → Sound last y → fields_from f s last y ≡ opened z → keeps_card z ≡ true
unfolding fields_from
sound-fields zero s last y z h e = sound-end last y z h e
sound-fields (suc f) [] last y z h e = sound-end last y z h e
sound-fields (suc f) (b ∷ s) last y z h e =
    after (field_of (b ∷ s) last y) refl (λ next n q. sound-fields f _ b next z n q) e
  where
    after : (x : Reading) → field_of (b ∷ s) last y ≡ x
        → ((next : System) → Sound b next → fields_from f (drop (field_size (b ∷ s)) (b ∷ s)) b next ≡ opened z → keeps_card z ≡ true)
        → after_field x (λ (next : System). fields_from f (drop (field_size (b ∷ s)) (b ∷ s)) b next) ≡ opened z
        → keeps_card z ≡ true
    after (unread n) q rest e = let z : ◌≡◌ {A = ℕ} 0 1 = cc in absurd (omega arith)
    after (opened next) q rest e = rest next (sound-field (b ∷ s) last y next h q) e

-- every card that is read keeps the limits
pub read-keeps-card : (file : List ℕ) (y : System) → read_card file ≡ opened y → keeps_card y ≡ true
unfolding read_card
read-keeps-card file y e = sound-fields (length file) file 0 blank y sound-blank e

pub read-card-limits : (file : List ℕ) (y : System) → read_card file ≡ opened y → CardLimits y
read-card-limits file y e = card-of y (read-keeps-card file y e)

-- A file reads as a system of one kind where it reads as a card of one kind; of two kinds it is refused 42, and any other refusal is that of the card

one-opened : (x : Reading) (y : System) → of_one_kind x ≡ opened y → (x ≡ opened y) × (y.second ≡ None)
unfolding of_one_kind
one-opened (unread n) y e = let z : ◌≡◌ {A = ℕ} 0 1 = cc in absurd (omega arith)
one-opened (opened x) y e = go (is_one_kind x.second) refl e
  where
    go : (b : Bool) → is_one_kind x.second ≡ b → cond b (opened x) (unread 42) ≡ opened y → (opened x ≡ opened y) × (y.second ≡ None)
    go true q e = let same : x ≡ y = cc in (e, subst (λ (z : System). z.second ≡ None) same (one-kind x.second q))
    go false q e = let z : ◌≡◌ {A = ℕ} 0 1 = cc in absurd (omega arith)

-- what is refused where one kind is wanted, and not as a card, is a card of two kinds, and the number is 42
pub record Mixed (x : Reading) (n : ℕ) : Type 0 where
  pub number : n ≡ 42
  pub system : System
  pub kind : Kind
  pub card : x ≡ opened system
  pub second : system.second ≡ Some kind

one-unread : (x : Reading) (n : ℕ) → of_one_kind x ≡ unread n → (x ≡ unread n) ⊎ Mixed x n
unfolding of_one_kind
one-unread (unread m) n e = inl e
one-unread (opened x) n e = go (is_one_kind x.second) refl e
  where
    go : (b : Bool) → is_one_kind x.second ≡ b → cond b (opened x) (unread 42) ≡ unread n → (opened x ≡ unread n) ⊎ Mixed (opened x) n
    go true q e = inl e
    go false q e =
        let same : n ≡ 42 = cc in
        let k = two-kinds x.second q in
        inr (record { number = same; system = x; kind = k.0; card = refl; second = k.1 })

pub file-card : (file : List ℕ) (y : System) → read_file file ≡ opened y → (read_card file ≡ opened y) × (y.second ≡ None)
unfolding read_file
file-card file y e = one-opened (read_card file) y e

pub card-file : (file : List ℕ) (y : System) → read_card file ≡ opened y → y.second ≡ None → read_file file ≡ opened y
unfolding read_file of_one_kind
card-file file y e one = ap of_one_kind e ∙ ap (λ (s : Option Kind). cond (is_one_kind s) (opened y) (unread 42)) one

pub card-mixed : (file : List ℕ) (y : System) (k : Kind) → read_card file ≡ opened y → y.second ≡ Some k → read_file file ≡ unread 42
unfolding read_file of_one_kind
card-mixed file y k e two = ap of_one_kind e ∙ ap (λ (s : Option Kind). cond (is_one_kind s) (opened y) (unread 42)) two

pub card-refused : (file : List ℕ) (n : ℕ) → read_card file ≡ unread n → read_file file ≡ unread n
unfolding read_file of_one_kind
card-refused file n e = ap of_one_kind e

pub file-refused : (file : List ℕ) (n : ℕ) → read_file file ≡ unread n → (read_card file ≡ unread n) ⊎ Mixed (read_card file) n
unfolding read_file
file-refused file n e = one-unread (read_card file) n e

-- every system that is read where one kind is wanted keeps the limits
pub read-limits : (file : List ℕ) (y : System) → read_file file ≡ opened y → Limits y
read-limits file y e = let p = file-card file y e in card-limits y (read-card-limits file y p.0) p.1

pub read-keeps-limits : (file : List ℕ) (y : System) → read_file file ≡ opened y → keeps_limits y ≡ true
read-keeps-limits file y e = limits-keep y (read-limits file y e)

-- A whole field is within the file

pub whole-inside : (file : List ℕ) (at : ℕ) → whole_field (drop at file) ≡ true → at + field_size (drop at file) ≤ length file
whole-inside file at w = omega (arith, leb-true (field_size (drop at file)) (length (drop at file)) w, length-drop at file)

pub body_is : (file : List ℕ) (at : ℕ) → part_of file (field_at file at).start (field_at file at).next.at ≡ body_at file at
unfolding field_at
body_is file at = go (whole_field (drop at file)) refl
  where
    size : ℕ
    size = word2 (drop at file) 1

    nothing : (b : Bool) → cond b (take (at - at) (drop at file)) [] ≡ []
    nothing false = refl
    nothing true = let none : at - at ≡ 0 = omega arith in rw none

    go : (b : Bool) → whole_field (drop at file) ≡ b
        → part_of file (cond b (at + head_size) at) (cond b (at + (head_size + size)) at) ≡ cond b (take size (drop head_size (drop at file))) []
    go false w = nothing (leb at at && leb at (length file))
    go true w =
        let long : at + (head_size + size) - (at + head_size) ≡ size = omega arith in
        rw (le-leb (at + head_size) (at + (head_size + size)) (omega arith), le-leb (at + (head_size + size)) (length file) (whole-inside file at w), long, drop-drop head_size at file)

-- What the reader's answer says of the reading

pub only-accepted : (a : Answer) → outcome_of a ≡ accepted [] → a ≡ (Ok None)
only-accepted (Ok None) e = refl
only-accepted (Ok (Some n)) e = let z : ◌≡◌ {A = ℕ} 0 1 = cc in absurd (omega arith)
only-accepted (Err (Input n)) e = let z : ◌≡◌ {A = ℕ} 0 1 = cc in absurd (omega arith)
only-accepted (Err (State n)) e = let z : ◌≡◌ {A = ℕ} 0 1 = cc in absurd (omega arith)

pub reads-opened : (x : Reading) (r : Opened) → Reads x r → r.answer ≡ (Ok None) → x ≡ opened r.system
reads-opened (opened y) r reads e = ap opened (sym reads.system)
reads-opened (unread n) r reads e =
    let same : accepted [] ≡ refused from_input n = ap outcome_of (sym e) ∙ reads.answer in
    let z : ◌≡◌ {A = ℕ} 0 1 = cc in absurd (omega arith)

pub reads-unread : (x : Reading) (r : Opened) → Reads x r → (r.answer ≡ (Ok None) → ⊥) → (n : ℕ) × (x ≡ unread n)
reads-unread (opened y) r reads e = absurd (e (only-accepted r.answer reads.answer))
reads-unread (unread n) r reads e = (n, refl)

-- an answer that is no refusal is that of a file that opens, and a refusal that of one that does not
only-refused : (a : Answer) (n : ℕ) → outcome_of a ≡ refused from_input n → (why : Refusal) × (a ≡ Err why)
only-refused (Ok None) n e = let z : ◌≡◌ {A = ℕ} 0 1 = cc in absurd (omega arith)
only-refused (Ok (Some k)) n e = let z : ◌≡◌ {A = ℕ} 0 1 = cc in absurd (omega arith)
only-refused (Err why) n e = (why, refl)

pub opened-unless : (x : Reading) (r : Opened) → Reads x r → ((why : Refusal) → r.answer ≡ Err why → ⊥) → x ≡ opened r.system
opened-unless (opened y) r reads h = ap opened (sym reads.system)
opened-unless (unread n) r reads h = let (why, is) = only-refused r.answer n reads.answer in absurd (h why is)

opened-accepts : (y : System) (why : Refusal) → refusal_of why ≡ read_outcome (opened y) → ⊥
opened-accepts y (Input m) e = let z : ◌≡◌ {A = ℕ} 0 1 = cc in omega arith
opened-accepts y (State m) e = let z : ◌≡◌ {A = ℕ} 0 1 = cc in omega arith

pub unread-with : (x : Reading) (r : Opened) → Reads x r → (why : Refusal) → r.answer ≡ Err why → (n : ℕ) × (x ≡ unread n) × (refusal_of why ≡ refused from_input n)
unread-with (unread n) r reads why is = (n, refl, sym (ap outcome_of is) ∙ reads.answer)
unread-with (opened y) r reads why is = absurd (opened-accepts y why (sym (ap outcome_of is) ∙ reads.answer))
