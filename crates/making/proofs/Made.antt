-- The system that a recipe makes, in plain words: its platform, the draws of each type, and that it is within document 01's limits, with a file of 13 + 13 × k bytes.
use Rattle.std.proofs.Common.{None, Option}
use Rattle.system.specs.declared.Kind.{Kind}
use Prim.Native.Nat.{ℕ, zero, suc, ◌+◌, ◌-◌, ◌*◌, ◌%◌, ◌^◌, ◌≤◌, ◌<◌}
use mathlib.Core.Path.{◌≡◌, refl, sym, ap, subst, ◌∙◌}
use mathlib.Core.List.{List, [], ◌∷◌}
use mathlib.Core.Bool.{Bool, true, false}
use native.Mathlib.Nat.{pow-suc, one-le-pow, mul-le-mul, mul_comm, one-mul}
use native.Mathlib.Omega.{arith}
use borrow.Author.Tests.{leb-true, leb-false, eqb-true, eqb-false}
use lib.ListN.{length, get_or, set, length-append}
use lib.Seq.{get_or-set_same, get_or-set_other, ext_get_or}
use lib.Dec.{leb, eqb}
use Rattle.system.specs.declared.TaskType.{TaskType}
use Rattle.system.specs.declared.System.{System}
use Rattle.system.specs.Values.{no_task, ceilings_of}
use Rattle.system.specs.Limits.{columns_of}
use Rattle.system.proofs.Laws.{get_or-blank}
use Rattle.partition.specs.Plain.{type_no, LimitsOut}
use Rattle.partition.proofs.Plain.{columns-out, ceiling-out}
use Rattle.writer.specs.Meaning.{second_out, type_out, types_out, file_out}
use Rattle.making.specs.declared.Recipe.{Recipe}
use Rattle.making.specs.Generator.{step, value_after}
use Rattle.making.specs.Making.{drawn_from, drawn_to, drawn_system}
use Rattle.making.specs.Meaning.{Steps, Made, NumbersWithin, PowerWithin, size_out}
use Rattle.making.proofs.Bits.{steps-once, value-starts, value-steps}
use Rattle.making.proofs.Turns.{drawn-small, drawn-below, drawn-count, drawn-six}

-- intermediate: the types by their index

module _ (w : Recipe) where
  drawn-at : (t i : ℕ) → i < t → t ≤ 6 → get_or (drawn_to w t).types i no_task ≡ drawn_from w (value_after w.seed (3 * i))
  unfolding drawn_to
  drawn-at zero i h few = absurd (omega arith)
  drawn-at (suc t) i h few = go (eqb i t) refl (λ below. drawn-at t i below (omega arith))
    where
      y : System
      y = drawn_to w t

      task : TaskType
      task = drawn_from w (value_after w.seed (3 * t))

      count : y.typecount ≡ t
      count = drawn-count w t

      go : (b : Bool) → eqb i t ≡ b → (i < t → get_or y.types i no_task ≡ drawn_from w (value_after w.seed (3 * i)))
          → get_or (set y.types y.typecount task) i no_task ≡ drawn_from w (value_after w.seed (3 * i))
      go true q before =
          let is = eqb-true i t q in
          rw (count, is) (get_or-set_same y.types t task no_task (omega (arith, drawn-six w t)))
      go false q before =
          let other = eqb-false i t q in
          rw count (get_or-set_other y.types t i task no_task other ∙ before (omega arith))

  drawn-past : (t i : ℕ) → t ≤ i → get_or (drawn_to w t).types i no_task ≡ no_task
  unfolding drawn_to
  drawn-past zero i h = get_or-blank 6 i
  drawn-past (suc t) i h =
      let y = drawn_to w t in
      let other : i ≡ t → ⊥ = λ e. omega arith in
      rw (drawn-count w t) (get_or-set_other y.types t i (drawn_from w (value_after w.seed (3 * t))) no_task other ∙ drawn-past t i (omega arith))

  drawn-platform : (t : ℕ) → ((drawn_to w t).engines ≡ w.engines) × ((drawn_to w t).rule ≡ w.rule) × ((drawn_to w t).timecap ≡ w.timecap) × ((drawn_to w t).memorycap ≡ w.memorycap)
  unfolding drawn_to
  drawn-platform zero = (refl, refl, refl, refl)
  drawn-platform (suc t) = drawn-platform t

  drawn-second : (t : ℕ) → (drawn_to w t).second ≡ None
  unfolding drawn_to
  drawn-second zero = refl
  drawn-second (suc t) = drawn-second t

-- intermediate: the values of the three draws of type t

value-first : (seed t : ℕ) → 1 ≤ t → step (value_after seed (3 * (t - 1))) ≡ value_after seed (3 * t - 2)
unfolding value_after
value-first seed t some = let e : 3 * t - 2 ≡ suc (3 * (t - 1)) = omega arith in rw e

value-second : (seed t : ℕ) → 1 ≤ t → step (step (value_after seed (3 * (t - 1)))) ≡ value_after seed (3 * t - 1)
unfolding value_after
value-second seed t some = let e : 3 * t - 1 ≡ suc (suc (3 * (t - 1))) = omega arith in rw e

value-third : (seed t : ℕ) → 1 ≤ t → step (step (step (value_after seed (3 * (t - 1))))) ≡ value_after seed (3 * t)
unfolding value_after
value-third seed t some = let e : 3 * t ≡ suc (suc (suc (3 * (t - 1)))) = omega arith in rw e

-- main: what the recipe makes, in plain words

module _ (w : Recipe) (short : w.seed < 2 ^ 64) (few : w.typecount ≤ 6) where
  type_at : (t : ℕ) → 1 ≤ t → t ≤ w.typecount → type_no (drawn_system w) t ≡ drawn_from w (value_after w.seed (3 * (t - 1)))
  type_at t some known = drawn-at w w.typecount (t - 1) (omega arith) few

  pub system-made : Made w (drawn_system w)
  system-made =
      let y = drawn_system w in
      let platform = drawn-platform w w.typecount in
      record {
        value = value_after w.seed;
        starts = value-starts w.seed;
        steps = λ i. value-steps w.seed i short;
        engines = platform.0;
        rule = platform.1;
        timecap = platform.2;
        memorycap = platform.3;
        typecount = drawn-count w w.typecount;
        times = λ t some known. ap (λ (task : TaskType). task.time) (type_at t some known) ∙ ap (λ (x : ℕ). 1 + x % w.timecap) (value-first w.seed t some);
        memories = λ t some known. ap (λ (task : TaskType). task.memory) (type_at t some known) ∙ ap (λ (x : ℕ). 1 + x % w.memorycap) (value-second w.seed t some);
        ceilings = λ t some known. ap (λ (task : TaskType). task.ceiling) (type_at t some known) ∙ ap (λ (x : ℕ). x % (w.top + 1)) (value-third w.seed t some);
        bare = λ t some known.
            let is = type_at t some known in
            (ap (λ (task : TaskType). task.data) is, ap (λ (task : TaskType). task.most) is, ap (λ (task : TaskType). task.pace) is, ap (λ (task : TaskType). task.there) is);
        second = drawn-second w w.typecount;
        six = drawn-six w w.typecount;
        past = λ t over. drawn-past w w.typecount (t - 1) (omega arith);
      }

-- intermediate: a made system keeps the limits

-- the columns of k types of at most g, and 0 past them
columns-few : (ns : List ℕ) (g k : ℕ) → ((i : ℕ) → i < k → get_or ns i 0 ≤ g) → ((i : ℕ) → k ≤ i → get_or ns i 0 ≡ 0) → columns_of ns ≤ (g + 1) ^ k
unfolding columns_of
columns-few [] g k most past = one-le-pow k (g + 1) (omega arith)
columns-few (n ∷ ns) g zero most past =
    let rest : columns_of ns ≤ (g + 1) ^ 0 = columns-few ns g zero (λ i h. absurd (omega arith)) (λ i h. past (suc i) (omega arith)) in
    let none : n ≡ 0 = past 0 (omega arith) in
    rw none (omega (arith, one-mul (columns_of ns)))
columns-few (n ∷ ns) g (suc k) most past =
    let rest : columns_of ns ≤ (g + 1) ^ k = columns-few ns g k (λ i h. most (suc i) (omega arith)) (λ i h. past (suc i) (omega arith)) in
    let first : n ≤ g = most 0 (omega arith) in
    let both : (n + 1) * columns_of ns ≤ (g + 1) * (g + 1) ^ k = mul-le-mul (omega arith) rest in
    omega (arith, both, pow-suc (g + 1) k, mul_comm (g + 1) ((g + 1) ^ k))

module _ (w : Recipe) (y : System) (made : Made w y) (within : NumbersWithin w) where
  ceiling-few : (i : ℕ) → i < w.typecount → get_or (ceilings_of y) i 0 ≤ w.top
  ceiling-few i h =
      let same : suc i - 1 ≡ i = omega arith in
      let drawn = made.ceilings (suc i) (omega arith) (omega arith) in
      subst (λ (j : ℕ). get_or (ceilings_of y) j 0 ≤ w.top) same
      (rw (ceiling-out y (suc i), drawn) (drawn-below (made.value (3 * suc i)) w.top))

  ceiling-past : (i : ℕ) → w.typecount ≤ i → get_or (ceilings_of y) i 0 ≡ 0
  ceiling-past i h =
      let same : suc i - 1 ≡ i = omega arith in
      subst (λ (j : ℕ). get_or (ceilings_of y) j 0 ≡ 0) same
      (ceiling-out y (suc i) ∙ ap (λ (task : TaskType). task.ceiling) (made.past (suc i) (omega arith)))

  made-columns : columns_of (ceilings_of y) ≤ (w.top + 1) ^ w.typecount
  made-columns = columns-few (ceilings_of y) w.top w.typecount ceiling-few ceiling-past

  -- nothing of a second kind: of types 1 to k by the draws, and past them there is nothing
  made-absent : (i : ℕ) → (get_or y.types i no_task).there ≡ None
  made-absent i =
      let same : suc i - 1 ≡ i = omega arith in
      subst (λ (j : ℕ). (get_or y.types j no_task).there ≡ None) same (go (leb (suc i) w.typecount) refl)
    where
      go : (b : Bool) → leb (suc i) w.typecount ≡ b → (type_no y (suc i)).there ≡ None
      go true q = (made.bare (suc i) (omega arith) (leb-true (suc i) w.typecount q)).3
      go false q = ap (λ (task : TaskType). task.there) (made.past (suc i) (leb-false (suc i) w.typecount q))

  -- main: within every limit, where 39 and 40 pass
  pub made-limits : PowerWithin w → LimitsOut y
  made-limits power = record {
    engines = (omega (arith, made.engines, within.engines.0), omega (arith, made.engines, within.engines.1));
    rule = omega (arith, made.rule, within.rule);
    capacities = (omega (arith, made.timecap, within.timecap.1), omega (arith, made.memorycap, within.memorycap.1));
    known = (omega (arith, made.typecount, within.typecount.0), omega (arith, made.typecount, within.typecount.1));
    six = made.six;
    costs = λ t some known.
        let inside : t ≤ w.typecount = omega (arith, made.typecount) in (
          omega (arith, made.times t some inside, drawn-small (made.value (3 * t - 2)) w.timecap within.timecap.0, within.timecap.1),
          omega (arith, made.memories t some inside, drawn-small (made.value (3 * t - 1)) w.memorycap within.memorycap.0, within.memorycap.1),
          omega (arith, (made.bare t some inside).0),
        );
    replicas = λ t q some known given.
        let none = (made.bare t some (omega (arith, made.typecount))).1 in
        let z : ◌≡◌ {A = ℕ} 0 1 = cc in absurd (omega arith);
    paces = λ t c some known given.
        let none = (made.bare t some (omega (arith, made.typecount))).2 in
        let z : ◌≡◌ {A = ℕ} 0 1 = cc in absurd (omega arith);
    past = λ t over.
        let none = made.past t (omega (arith, made.typecount)) in (
          ap (λ (task : TaskType). task.time) none,
          ap (λ (task : TaskType). task.memory) none,
          ap (λ (task : TaskType). task.ceiling) none,
          ap (λ (task : TaskType). task.data) none,
          ap (λ (task : TaskType). task.most) none,
          ap (λ (task : TaskType). task.pace) none,
        );
    columns = rw (columns-out y made.six) (omega (arith, made-columns, power));
    one_kind = made.second;
    absent = λ t. made-absent (t - 1);
  }

-- main: the bytes of its file

type-length : (t : TaskType) → t.data ≡ 0 → t.most ≡ None → t.pace ≡ None → t.there ≡ None → length (type_out false t) ≡ 13
type-length t none bare idle alone = rw (none, bare, idle, alone)

module _ (w : Recipe) (y : System) (made : Made w y) where
  types-length : (n : ℕ) → n ≤ w.typecount → length (types_out (λ (t : ℕ). false) y n) ≡ 13 * n
  unfolding types_out
  types-length zero h = refl
  types-length (suc n) h =
      let bare = made.bare (suc n) (omega arith) h in
      length-append (types_out (λ (t : ℕ). false) y n) (type_out false (type_no y (suc n)))
      ∙ omega (arith, types-length n (omega arith), type-length (type_no y (suc n)) bare.0 bare.1 bare.2 bare.3)

  pub made-length : length (file_out y) ≡ size_out w
  made-length =
      let types : length (types_out (λ (t : ℕ). false) y y.typecount) ≡ 13 * w.typecount =
      ap (λ (k : ℕ). length (types_out (λ (t : ℕ). false) y k)) made.typecount ∙ types-length w.typecount (omega arith) in
      let second : length (second_out y.second) ≡ 0 = ap (λ (s : Option Kind). length (second_out s)) made.second in
      omega (arith, length-append (second_out y.second) (types_out (λ (t : ℕ). false) y y.typecount))

-- main: a recipe makes one system

module _ (w : Recipe) (y z : System) (a : Made w y) (b : Made w z) where
  same-value : (i : ℕ) → a.value i ≡ b.value i
  same-value zero = a.starts ∙ sym b.starts
  same-value (suc i) = steps-once (a.value i) (a.value (suc i)) (b.value (suc i)) (a.steps i) (subst (λ (x : ℕ). Steps x (b.value (suc i))) (sym (same-value i)) (b.steps i))

  same_known : (t : ℕ) → 1 ≤ t → t ≤ w.typecount → type_no y t ≡ type_no z t
  same_known t some known =
      let time = a.times t some known ∙ ap (λ (x : ℕ). 1 + x % w.timecap) (same-value (3 * t - 2)) ∙ sym (b.times t some known) in
      let memory = a.memories t some known ∙ ap (λ (x : ℕ). 1 + x % w.memorycap) (same-value (3 * t - 1)) ∙ sym (b.memories t some known) in
      let ceiling = a.ceilings t some known ∙ ap (λ (x : ℕ). x % (w.top + 1)) (same-value (3 * t)) ∙ sym (b.ceilings t some known) in
      let none = (a.bare t some known).0 ∙ sym (b.bare t some known).0 in
      let free = (a.bare t some known).1 ∙ sym (b.bare t some known).1 in
      let idle = (a.bare t some known).2 ∙ sym (b.bare t some known).2 in
      let alone = (a.bare t some known).3 ∙ sym (b.bare t some known).3 in
      λ i. record { time = time i; memory = memory i; ceiling = ceiling i; «data» = none i; most = free i; pace = idle i; there = alone i }

  same-type : (t : ℕ) → 1 ≤ t → type_no y t ≡ type_no z t
  same-type t some = go (leb t w.typecount) refl
    where
      go : (b : Bool) → leb t w.typecount ≡ b → type_no y t ≡ type_no z t
      go true q = same_known t some (leb-true t w.typecount q)
      go false q = let over = leb-false t w.typecount q in a.past t over ∙ sym (b.past t over)

  pub made-once : y ≡ z
  made-once =
      let engines = a.engines ∙ sym b.engines in
      let rule = a.rule ∙ sym b.rule in
      let time = a.timecap ∙ sym b.timecap in
      let memory = a.memorycap ∙ sym b.memorycap in
      let count = a.typecount ∙ sym b.typecount in
      let types = ext_get_or no_task y.types z.types (a.six ∙ sym b.six) (λ i h. (let same : suc i - 1 ≡ i = omega arith in
      subst (λ (j : ℕ). get_or y.types j no_task ≡ get_or z.types j no_task) same (same-type (suc i) (omega arith)))) in
      let second = a.second ∙ sym b.second in
      λ i. record { engines = engines i; rule = rule i; timecap = time i; memorycap = memory i; typecount = count i; types = types i; second = second i }
