-- Request 2026-13, "Cards with two kinds of engine": the plain words of a card's plan mean what the theory proves of its two systems. What a type costs on an engine is what it costs in the system of that
-- engine's kind, so that a good assignment is one that keeps Definition 1 by kinds; the split that is taken is then a partition of all instances on the fewest engines, and on the fewest of the second kind.
use Rattle.std.proofs.Common.{Some, Option, None}
use Rattle.system.specs.declared.Costs.{Costs}
use Prim.Native.Nat.{ℕ, zero, suc, ◌+◌, ◌-◌, ◌≤◌, ◌<◌}
use mathlib.Core.Path.{◌≡◌, refl, sym, ap, ap₂, subst, ◌∙◌}
use mathlib.Core.List.{List, [], ◌∷◌, ◌++◌, map}
use mathlib.Core.Bool.{Bool, true, false, cond}
use mathlib.Core.Logic.{◌↔◌}
use native.Mathlib.Nat.{add-zero}
use native.Mathlib.Numerals.{add-one}
use native.Mathlib.Omega.{arith}
use borrow.Author.Tests.{leb-true, leb-false, ltb-true, ltb-false}
use lib.ListN.{length, get_or, length-map, length-append, get_or-map, get_or-append}
use lib.Seq.{get_or-append-add}
use lib.Dec.{leb, ltb}
use Rattle.system.specs.declared.Kind.{Kind}
use Rattle.system.specs.declared.TaskType.{TaskType}
use Rattle.system.specs.declared.System.{System}
use Rattle.system.specs.Values.{ceilings_of}
use Rattle.system.specs.Limits.{keeps_card}
use Rattle.system.specs.Card.{task_here, task_costing, task_there, first_of, second_of}
use Rattle.system.proofs.Laws.{card-of}
use Rattle.system.proofs.CardLaws.{costing-data, type-first, second-most, first-ceilings, second-ceilings, first-keeps, second-keeps}
use Rattle.loads.specs.declared.EngineLoad.{EngineLoad}
use Rattle.loads.specs.Load.{holds_none, empty_load, engine_with, memory_of}
use Rattle.partition.specs.Assignment.{Assignment, count_on, load_on, assigned, among, used_of, numbers_from, engines_to}
use Rattle.partition.specs.OwnWords.{over_instances, sum_on, time_on, memory_on, shared_memory_on, type_at}
use Rattle.partition.specs.Plain.{ceiling_no, places_no, hosts, used_to, record_no}
use Rattle.partition.specs.Kinds.{good_mixed, engines_after, mixed_placeable, used_first, used_second, loads_first, loads_second, mixed_loads, mixed_numbers, MixedGiven, uses_first, uses_second, MixedFewest, KindsOf, MixedKeeps}
use Rattle.partition.specs.PlainKinds.{FirstKind, SecondKind, EitherKind, time_there, memory_there, time_there_on, memory_there_on, shared_there_on, DefinitionKinds, MixedPartition, MixedImpossible}
use Rattle.partition.specs.PlainKinds.{used_after, used_both, used_there, MixedRecord, number_no, MixedOnFewest}
use Rattle.partition.proofs.Lists.{not-both, length-numbers_from, length-engines_to, numbers_from-cut, get_or-inside}
use Rattle.partition.proofs.OwnWords.{counted-on, time_on-time_of, memory_on-memory_of, shared_memory_on-memory_of}
use Rattle.partition.proofs.Plain.{ceiling-out, hosts-some, used_of-last, cond-not, used_to-used_of, lists-same}
use Rattle.partition.proofs.TwoKinds.{mixed-keeps, mixed-fewest, mixed-given}

-- intermediate: what the instances on an engine cost, by the system of its kind

-- a sum over types that are seen in another way
sum_on-map : (f : TaskType → TaskType) (each on : TaskType → List ℕ → ℕ) → ((t : TaskType) (places : List ℕ) → each (f t) places ≡ on t places)
    → (types : List TaskType) (χ : Assignment) → sum_on each (map f types) χ ≡ sum_on on types χ
unfolding sum_on
sum_on-map f each on same [] χ = refl
sum_on-map f each on same (t ∷ types) [] = refl
sum_on-map f each on same (t ∷ types) (places ∷ χ) = ap₂ ◌+◌ (same t places) (sum_on-map f each on same types χ)

costing-time : (t : TaskType) (x : Option Costs) → (task_costing x t).time ≡ time_there x
costing-time t None = refl
costing-time t (Some c) = refl

costing-memory : (t : TaskType) (x : Option Costs) → (task_costing x t).memory ≡ memory_there x
costing-memory t None = refl
costing-memory t (Some c) = refl

module _ (e : ℕ) (types : List TaskType) (χ : Assignment) where
  time-here : time_on e (map task_here types) χ ≡ time_on e types χ
  time-here = sum_on-map task_here _ (λ t places. over_instances e t.time places) (λ t places. refl) types χ

  own-here : memory_on e (map task_here types) χ ≡ memory_on e types χ
  own-here = sum_on-map task_here _ (λ t places. over_instances e (t.memory + t.data) places) (λ t places. refl) types χ

  shared-here : shared_memory_on e (map task_here types) χ ≡ shared_memory_on e types χ
  shared-here =
      ap₂ ◌+◌ (sum_on-map task_here _ (λ t places. cond (among places e) t.memory 0) (λ t places. refl) types χ)
      (sum_on-map task_here _ (λ t places. over_instances e t.data places) (λ t places. refl) types χ)

  time-there : time_on e (map task_there types) χ ≡ time_there_on e types χ
  time-there =
      sum_on-map task_there (λ t places. over_instances e t.time places) (λ t places. over_instances e (time_there t.there) places)
      (λ t places. ap (λ (n : ℕ). over_instances e n places) (costing-time t t.there)) types χ

  own-there : memory_on e (map task_there types) χ ≡ memory_there_on e types χ
  own-there =
      sum_on-map task_there (λ t places. over_instances e (t.memory + t.data) places) (λ t places. over_instances e (memory_there t.there + t.data) places)
      (λ t places. ap (λ (n : ℕ). over_instances e n places) (ap₂ ◌+◌ (costing-memory t t.there) (costing-data t t.there))) types χ

  shared-there : shared_memory_on e (map task_there types) χ ≡ shared_there_on e types χ
  shared-there =
      ap₂ ◌+◌
      (sum_on-map task_there (λ t places. cond (among places e) t.memory 0) (λ t places. cond (among places e) (memory_there t.there) 0)
      (λ t places. ap (λ (n : ℕ). cond (among places e) n 0) (costing-memory t t.there)) types χ)
      (sum_on-map task_there (λ t places. over_instances e t.data places) (λ t places. over_instances e t.data places)
      (λ t places. ap (λ (n : ℕ). over_instances e n places) (costing-data t t.there)) types χ)

-- main: the two systems of a card

module _ (y : System) (k : Kind) (keeps : keeps_card y ≡ true) (two : y.second ≡ Some k) where
  pub card-kinds : KindsOf (first_of y) (second_of y k)
  card-kinds = record { first_keeps = first-keeps y k keeps two; second_keeps = second-keeps y k keeps two; same_ceilings = second-ceilings y k ∙ sym (first-ceilings y) }

  -- main: a good assignment keeps Definition 1 by kinds

  first-most : (t : ℕ) → (type_at (first_of y) t).most ≡ (type_at y t).most
  first-most t = ap (λ (z : TaskType). z.most) (type-first y t)

  kinds-told : (χ : Assignment) → MixedKeeps (first_of y) (second_of y k) χ → DefinitionKinds y k χ
  kinds-told χ m = record {
    placed = m.placed;
    time = λ e at. rw (time-here e y.types χ) at (m.on_first e at.0 at.1).time;
    time_second = λ e at. rw (time-there e y.types χ) at (m.on_second e at.0 at.1).time;
    own_copies = λ r e at. rw (own-here e y.types χ) at ((m.on_first e at.0 at.1).own_copies r);
    own_copies_second = λ r e at. rw (own-there e y.types χ) at ((m.on_second e at.0 at.1).own_copies r);
    shared_code = λ r e at. rw (shared-here e y.types χ) at ((m.on_first e at.0 at.1).shared_code r);
    shared_code_second = λ r e at. rw (shared-there e y.types χ) at ((m.on_second e at.0 at.1).shared_code r);
    separate = λ t q given e at. apart t q given e at (leb e y.engines) refl;
  }
    where
      apart : (t q : ℕ) → (type_at y t).most ≡ Some q → (e : ℕ) → EitherKind y k e → (b : Bool) → leb e y.engines ≡ b → over_instances e 1 (get_or χ t []) ≤ q
      apart t q given e at true h = (m.on_first e at.0 (leb-true e y.engines h)).separate t q (first-most t ∙ given)
      apart t q given e at false h = (m.on_second e (leb-false e y.engines h) at.1).separate t q (second-most y k t ∙ given)

  kinds-back : (χ : Assignment) → DefinitionKinds y k χ → MixedKeeps (first_of y) (second_of y k) χ
  kinds-back χ d = record {
    placed = d.placed;
    on_first = λ e low high. record {
      time = rw (time-here e y.types χ) (d.time e (low, high));
      own_copies = λ r. rw (own-here e y.types χ) (d.own_copies r e (low, high));
      shared_code = λ r. rw (shared-here e y.types χ) (d.shared_code r e (low, high));
      separate = λ t q given. d.separate t q (sym (first-most t) ∙ given) e (low, omega arith);
    };
    on_second = λ e low high. record {
      time = rw (time-there e y.types χ) (d.time_second e (low, high));
      own_copies = λ r. rw (own-there e y.types χ) (d.own_copies_second r e (low, high));
      shared_code = λ r. rw (shared-there e y.types χ) (d.shared_code_second r e (low, high));
      separate = λ t q given. d.separate t q (sym (second-most y k t) ∙ given) e (omega arith, high);
    };
  }

  pub kinds-keep : (χ : Assignment) → (good_mixed (first_of y) (second_of y k) χ ≡ true) ↔ DefinitionKinds y k χ
  kinds-keep χ =
      let rule = (card-of y keeps).rule in
      let m = mixed-keeps (first_of y) (second_of y k) χ rule rule in
      ((λ g. kinds-told χ (m.0 g)), (λ d. m.1 (kinds-back χ d)))

  -- main: a partition is a good assignment of all instances

  six-ceilings : length (ceilings_of (first_of y)) ≡ 6
  six-ceilings = ap length (first-ceilings y) ∙ length-map y.types (λ (t : TaskType). t.ceiling) ∙ (card-of y keeps).six

  first-ceiling : (t : ℕ) → get_or (ceilings_of (first_of y)) (t - 1) 0 ≡ ceiling_no y t
  first-ceiling t = ap (λ (l : List ℕ). get_or l (t - 1) 0) (first-ceilings y) ∙ ceiling-out y t

  mixed-assigns : (χ : Assignment) → MixedPartition y k (ceiling_no y) χ → assigned χ ≡ ceilings_of (first_of y)
  mixed-assigns χ p =
      lists-same (assigned χ) (ceilings_of (first_of y)) (length-map χ length ∙ p.six ∙ sym six-ceilings)
      (λ i. subst (λ (j : ℕ). get_or (assigned χ) j 0 ≡ get_or (ceilings_of (first_of y)) j 0) (back i) (get_or-map length χ (suc i - 1) [] ∙ p.all (suc i) (omega arith) ∙ sym (first-ceiling (suc i))))
    where
      back : (i : ℕ) → suc i - 1 ≡ i
      back i = omega arith

  mixed-partition : (χ : Assignment) → assigned χ ≡ ceilings_of (first_of y) → good_mixed (first_of y) (second_of y k) χ ≡ true → MixedPartition y k (ceiling_no y) χ
  mixed-partition χ a g = record {
    six = sym (length-map χ length) ∙ ap length a ∙ six-ceilings;
    all = λ t low. sym (get_or-map length χ (t - 1) []) ∙ ap (λ (l : List ℕ). get_or l (t - 1) 0) a ∙ first-ceiling t;
    keeps = (kinds-keep χ).0 g;
  }

  partition-fewest : (χ : Assignment) → MixedPartition y k (ceiling_no y) χ → MixedFewest (first_of y) (second_of y k) χ
  partition-fewest χ p = mixed-fewest (first_of y) (second_of y k) card-kinds χ (mixed-assigns χ p) ((kinds-keep χ).1 p.keeps)

  -- main: where there is a partition, there is a split

  pub mixed-placeable : (χ : Assignment) → MixedPartition y k (ceiling_no y) χ → mixed_placeable (first_of y) (second_of y k) ≡ true
  mixed-placeable χ p = (partition-fewest χ p).placeable

-- intermediate: the engines used, of those after the first m

pub used_after-used_of : (m n : ℕ) (χ : Assignment) → used_after m n χ ≡ used_of (engines_after m n) χ
unfolding used_after
used_after-used_of m zero χ = unfold used_of numbers_from in refl
used_after-used_of m (suc n) χ =
    rw (used_after-used_of m n χ, hosts-some χ (suc (m + n)), cond-not (holds_none (load_on (suc (m + n)) χ)), last) (sym (used_of-last (engines_after m n) (suc (m + n)) χ))
  where
    last : engines_after m (suc n) ≡ engines_after m n ++ (suc (m + n) ∷ [])
    last = unfold numbers_from in (
        ap (numbers_from (suc m)) (sym (add-one n)) ∙ numbers_from-cut (suc m) n 1 ∙ ap (λ (e : ℕ). engines_after m n ++ (e ∷ [])) (omega arith)
        )

pub used_to-after : (m : ℕ) (χ : Assignment) → used_to m χ ≡ used_after 0 m χ
used_to-after m χ = used_to-used_of m χ ∙ sym (used_after-used_of 0 m χ)

-- where just the first u of them hold an instance, u are used
used-some : (m n u : ℕ) (χ : Assignment) → u ≤ n → ((i : ℕ) → i < u → hosts χ (suc (m + i)) ≡ true) → ((i : ℕ) → u ≤ i → i < n → hosts χ (suc (m + i)) ≡ false) → used_after m n χ ≡ u
unfolding used_after
used-some m zero u χ few some none = omega arith
used-some m (suc n) u χ few some none = go (ltb n u) refl (λ v. used-some m n v χ)
  where
    go : (b : Bool) → ltb n u ≡ b → ((v : ℕ) → v ≤ n → ((i : ℕ) → i < v → hosts χ (suc (m + i)) ≡ true) → ((i : ℕ) → v ≤ i → i < n → hosts χ (suc (m + i)) ≡ false) → used_after m n χ ≡ v)
        → used_after m n χ + cond (hosts χ (suc (m + n))) 1 0 ≡ u
    go true h rest =
        let inside = ltb-true n u h in
        let all : used_after m n χ ≡ n = rest n (omega arith) (λ i l. some i (omega arith)) (λ i l s. absurd (omega arith)) in
        rw (some n inside) (omega arith)
    go false h rest =
        let past = ltb-false n u h in
        let all : used_after m n χ ≡ u = rest u past some (λ i l s. none i l (omega arith)) in
        rw (none n past (omega arith)) (omega arith)

-- intermediate: two lists one after the other, and anything after them

module _ {A : Type 0} (l r more : List A) (d : A) where
  in-first : (i : ℕ) → i < length l → get_or ((l ++ r) ++ more) i d ≡ get_or l i d
  in-first i h = get_or-append (l ++ r) more d i (omega (arith, length-append l r)) ∙ get_or-append l r d i h

  in-second : (i : ℕ) → i < length r → get_or ((l ++ r) ++ more) (length l + i) d ≡ get_or r i d
  in-second i h = get_or-append (l ++ r) more d (length l + i) (omega (arith, length-append l r)) ∙ get_or-append-add l r i d

get_or-numbers_from : (a n i : ℕ) → i < n → get_or (numbers_from a n) i 0 ≡ a + i
unfolding numbers_from
get_or-numbers_from a zero i h = absurd (omega arith)
get_or-numbers_from a (suc n) zero h = sym (add-zero a)
get_or-numbers_from a (suc n) (suc i) h = get_or-numbers_from (suc a) n i (omega arith) ∙ omega arith

-- intermediate: the record of an engine is that of its system

module _ (y : System) (k : Kind) (χ : Assignment) (e : ℕ) (l : EngineLoad) where
  counts-out : l.counts ≡ load_on e χ → (t : ℕ) → 1 ≤ t → get_or l.counts (t - 1) 0 ≡ over_instances e 1 (places_no χ t)
  counts-out is t low = ap (λ (x : List ℕ). get_or x (t - 1) 0) is ∙ sym (counted-on e χ (t - 1))

  record-first : FirstKind y e → l ≡ engine_with (first_of y) (load_on e χ) → MixedRecord y k χ e l
  record-first here is = record {
    counts = counts-out (ap (λ (r : EngineLoad). r.counts) is);
    time = λ at. ap (λ (r : EngineLoad). r.time) is ∙ sym (time_on-time_of e (first_of y).types χ) ∙ time-here e y.types χ;
    time_second = λ at. absurd (omega arith);
    own_copies = λ q at. memory 0 q ∙ sym (memory_on-memory_of e (first_of y).types χ) ∙ own-here e y.types χ;
    own_copies_second = λ q at. absurd (omega arith);
    shared_code = λ q at. memory 1 q ∙ sym (shared_memory_on-memory_of e (first_of y).types χ) ∙ shared-here e y.types χ;
    shared_code_second = λ q at. absurd (omega arith);
  }
    where
      memory : (rule : ℕ) → y.rule ≡ rule → l.memory ≡ memory_of rule (first_of y).types (load_on e χ)
      memory rule q = ap (λ (r : EngineLoad). r.memory) is ∙ ap (λ (z : ℕ). memory_of z (first_of y).types (load_on e χ)) q

  record-second : SecondKind y k e → l ≡ engine_with (second_of y k) (load_on e χ) → MixedRecord y k χ e l
  record-second there is = record {
    counts = counts-out (ap (λ (r : EngineLoad). r.counts) is);
    time = λ at. absurd (omega arith);
    time_second = λ at. ap (λ (r : EngineLoad). r.time) is ∙ sym (time_on-time_of e (second_of y k).types χ) ∙ time-there e y.types χ;
    own_copies = λ q at. absurd (omega arith);
    own_copies_second = λ q at. memory 0 q ∙ sym (memory_on-memory_of e (second_of y k).types χ) ∙ own-there e y.types χ;
    shared_code = λ q at. absurd (omega arith);
    shared_code_second = λ q at. memory 1 q ∙ sym (shared_memory_on-memory_of e (second_of y k).types χ) ∙ shared-there e y.types χ;
  }
    where
      memory : (rule : ℕ) → y.rule ≡ rule → l.memory ≡ memory_of rule (second_of y k).types (load_on e χ)
      memory rule q = ap (λ (r : EngineLoad). r.memory) is ∙ ap (λ (z : ℕ). memory_of z (second_of y k).types (load_on e χ)) q

-- main: the split that is taken, with its loads and numbers, is a partition on the fewest engines

module _ (y : System) (k : Kind) (keeps : keeps_card y ≡ true) (two : y.second ≡ Some k) (can : mixed_placeable (first_of y) (second_of y k) ≡ true) where
  abbrev ours : ℕ
  ours = used_first (first_of y) (second_of y k)

  abbrev theirs : ℕ
  theirs = used_second (first_of y) (second_of y k)

  given : MixedGiven (first_of y) (second_of y k)
  given = mixed-given (first_of y) (second_of y k) (card-kinds y k keeps two) can

  -- the engines that are used are engines of the card, and there is a number and a load for each
  pub mixed-within : used_first (first_of y) (second_of y k) + used_second (first_of y) (second_of y k) ≤ y.engines + k.number
  mixed-within = omega (arith, given.few_first, given.few_second)

  pub length-mixed_numbers : length (mixed_numbers (first_of y) (second_of y k)) ≡ used_first (first_of y) (second_of y k) + used_second (first_of y) (second_of y k)
  length-mixed_numbers = length-append (engines_to ours) (engines_after y.engines theirs) ∙ ap₂ ◌+◌ (length-engines_to ours) (length-numbers_from (suc y.engines) theirs)

  rows_first : List EngineLoad
  rows_first = map (engine_with (first_of y)) (loads_first (first_of y) (second_of y k))

  rows_second : List EngineLoad
  rows_second = map (engine_with (second_of y k)) (loads_second (first_of y) (second_of y k))

  length-rows_first : length rows_first ≡ ours
  unfolding rows_first
  length-rows_first = length-map (loads_first (first_of y) (second_of y k)) (engine_with (first_of y)) ∙ given.length_first

  length-rows_second : length rows_second ≡ theirs
  unfolding rows_second
  length-rows_second = length-map (loads_second (first_of y) (second_of y k)) (engine_with (second_of y k)) ∙ given.length_second

  pub length-mixed_loads : length (mixed_loads (first_of y) (second_of y k)) ≡ used_first (first_of y) (second_of y k) + used_second (first_of y) (second_of y k)
  unfolding rows_first rows_second
  length-mixed_loads = length-append rows_first rows_second ∙ ap₂ ◌+◌ length-rows_first length-rows_second

  -- what an engine holds
  hosts-first : (i : ℕ) → i < ours → hosts given.mapping (suc i) ≡ true
  hosts-first i h = hosts-some given.mapping (suc i) ∙ rw (given.holds_first i h, given.some_first i h)

  hosts-second : (i : ℕ) → i < theirs → hosts given.mapping (suc (y.engines + i)) ≡ true
  hosts-second i h = hosts-some given.mapping (suc (y.engines + i)) ∙ rw (given.holds_second i h, given.some_second i h)

  idle-first : (e : ℕ) → ours < e → e ≤ y.engines → hosts given.mapping e ≡ false
  unfolding holds_none
  idle-first e low high = hosts-some given.mapping e ∙ rw (given.idle_first e low high)

  idle-second : (i : ℕ) → theirs ≤ i → i < k.number → hosts given.mapping (suc (y.engines + i)) ≡ false
  unfolding holds_none
  idle-second i low high = hosts-some given.mapping (suc (y.engines + i)) ∙ rw (given.idle_second i low high)

  -- so these are the engines used
  used-first : used_to y.engines given.mapping ≡ ours
  used-first =
      used_to-after y.engines given.mapping
      ∙ used-some 0 y.engines ours given.mapping given.few_first
      (λ i h. let same : suc (0 + i) ≡ suc i = omega arith in ap (hosts given.mapping) same ∙ hosts-first i h)
      (λ i low high. let same : suc (0 + i) ≡ suc i = omega arith in ap (hosts given.mapping) same ∙ idle-first (suc i) (omega arith) (omega arith))

  used-second : used_there y k given.mapping ≡ theirs
  used-second = used-some y.engines k.number theirs given.mapping given.few_second hosts-second idle-second

  -- what any other partition uses
  used-both : (χ : Assignment) → used_both y k χ ≡ uses_first (first_of y) χ + uses_second (first_of y) (second_of y k) χ
  used-both χ = ap₂ ◌+◌ (used_to-used_of y.engines χ) (used_after-used_of y.engines k.number χ)

  module _ (more_numbers : List ℕ) (more_loads : List EngineLoad) where
    numbers : List ℕ
    numbers = mixed_numbers (first_of y) (second_of y k) ++ more_numbers

    loads : List EngineLoad
    loads = mixed_loads (first_of y) (second_of y k) ++ more_loads

    none : EngineLoad
    none = record { time = 0; memory = 0; counts = [] }

    -- the numbers by kind
    number-first : (i : ℕ) → i < ours → get_or numbers i 0 ≡ suc i
    unfolding numbers
    number-first i h =
        in-first (engines_to ours) (engines_after y.engines theirs) more_numbers 0 i (omega (arith, length-engines_to ours))
        ∙ get_or-numbers_from 1 ours i h
        ∙ omega arith

    number-second : (i : ℕ) → i < theirs → get_or numbers (ours + i) 0 ≡ suc (y.engines + i)
    unfolding numbers
    number-second i h =
        ap (λ (a : ℕ). get_or numbers (a + i) 0) (sym (length-engines_to ours))
        ∙ in-second (engines_to ours) (engines_after y.engines theirs) more_numbers 0 i (omega (arith, length-numbers_from (suc y.engines) theirs))
        ∙ get_or-numbers_from (suc y.engines) theirs i h
        ∙ omega arith

    -- and the loads
    load-first : (i : ℕ) → i < ours → get_or loads i none ≡ engine_with (first_of y) (load_on (suc i) given.mapping)
    unfolding loads rows_first rows_second none
    load-first i h =
        in-first rows_first rows_second more_loads none i (omega (arith, length-rows_first))
        ∙ get_or-inside rows_first i none (engine_with (first_of y) empty_load) (omega (arith, length-rows_first))
        ∙ get_or-map (engine_with (first_of y)) (loads_first (first_of y) (second_of y k)) i empty_load
        ∙ ap (engine_with (first_of y)) (sym (given.holds_first i h))

    load-second : (i : ℕ) → i < theirs → get_or loads (ours + i) none ≡ engine_with (second_of y k) (load_on (suc (y.engines + i)) given.mapping)
    unfolding loads rows_first rows_second none
    load-second i h =
        ap (λ (a : ℕ). get_or loads (a + i) none) (sym length-rows_first)
        ∙ in-second rows_first rows_second more_loads none i (omega (arith, length-rows_second))
        ∙ get_or-inside rows_second i none (engine_with (second_of y k) empty_load) (omega (arith, length-rows_second))
        ∙ get_or-map (engine_with (second_of y k)) (loads_second (first_of y) (second_of y k)) i empty_load
        ∙ ap (engine_with (second_of y k)) (sym (given.holds_second i h))

    -- what holds of the used engines of either kind, by place and number, holds of every place
    by_kind : (P : ℕ → ℕ → Type 0) → ((i : ℕ) → i < ours → P i (suc i)) → ((i : ℕ) → i < theirs → P (ours + i) (suc (y.engines + i))) → (j : ℕ) → j < ours + theirs → P j (get_or numbers j 0)
    by_kind P first second j h = go (ltb j ours) refl
      where
        go : (b : Bool) → ltb j ours ≡ b → P j (get_or numbers j 0)
        go true q = let inside = ltb-true j ours q in subst (P j) (sym (number-first j inside)) (first j inside)
        go false q =
            let past = ltb-false j ours q in
            let same : ours + (j - ours) ≡ j = omega arith in
            subst (λ (i : ℕ). P i (get_or numbers i 0)) same (subst (P (ours + (j - ours))) (sym (number-second (j - ours) (omega arith))) (second (j - ours) (omega arith)))

    -- the next place has a higher number
    rising : (j : ℕ) → j < ours + theirs → suc j < ours + theirs → get_or numbers j 0 < get_or numbers (suc j) 0
    rising = by_kind (λ j e. suc j < ours + theirs → e < get_or numbers (suc j) 0) (λ i h l. next i h l (ltb (suc i) ours) refl) last
      where
        next : (i : ℕ) → i < ours → suc i < ours + theirs → (b : Bool) → ltb (suc i) ours ≡ b → suc i < get_or numbers (suc i) 0
        next i h l true q = rw (number-first (suc i) (ltb-true (suc i) ours q)) (omega arith)
        next i h l false q =
            let past = ltb-false (suc i) ours q in
            let same : ours + 0 ≡ suc i = omega arith in
            subst (λ (j : ℕ). suc i < get_or numbers j 0) same (rw (number-second 0 (omega arith)) (omega (arith, given.few_first)))

        last : (i : ℕ) → i < theirs → suc (ours + i) < ours + theirs → suc (y.engines + i) < get_or numbers (suc (ours + i)) 0
        last i h l =
            let same : ours + suc i ≡ suc (ours + i) = omega arith in
            subst (λ (j : ℕ). suc (y.engines + i) < get_or numbers j 0) same (rw (number-second (suc i) (omega arith)) (omega arith))

    -- an engine of the card that has none of these numbers holds nothing
    none-else : (e : ℕ) → EitherKind y k e → ((j : ℕ) → j < ours + theirs → get_or numbers j 0 ≡ e → ⊥) → hosts given.mapping e ≡ false
    none-else e at free = go (leb e y.engines) (ltb ours e) (leb (suc (y.engines + theirs)) e) refl refl refl
      where
        go : (a b c : Bool) → leb e y.engines ≡ a → ltb ours e ≡ b → leb (suc (y.engines + theirs)) e ≡ c → hosts given.mapping e ≡ false
        go true true c p q r = idle-first e (ltb-true ours e q) (leb-true e y.engines p)
        go true false c p q r =
            let low = ltb-false ours e q in
            absurd (free (e - 1) (omega arith) (number-first (e - 1) (omega arith) ∙ omega arith))
        go false b true p q r =
            let past = leb-true (suc (y.engines + theirs)) e r in
            let same : suc (y.engines + (e - suc y.engines)) ≡ e = omega arith in
            subst (λ (d : ℕ). hosts given.mapping d ≡ false) same (idle-second (e - suc y.engines) (omega arith) (omega arith))
        go false b false p q r =
            let high = leb-false e y.engines p in
            let low = leb-false (suc (y.engines + theirs)) e r in
            absurd (free (ours + (e - suc y.engines)) (omega arith) (number-second (e - suc y.engines) (omega arith) ∙ omega arith))

    pub mixed-on-fewest : MixedOnFewest y k (ceiling_no y) (mixed_numbers (first_of y) (second_of y k) ++ more_numbers) (mixed_loads (first_of y) (second_of y k) ++ more_loads)
        (used_first (first_of y) (second_of y k) + used_second (first_of y) (second_of y k))
    unfolding numbers loads none
    mixed-on-fewest = record {
      mapping = given.mapping;
      partition = mixed-partition y k keeps two given.mapping given.assigns given.is_good;
      uses = ap₂ ◌+◌ used-first used-second;
      engines = λ i low high.
          by_kind (λ j e. EitherKind y k e) (λ j h. (omega arith, omega (arith, given.few_first))) (λ j h. (omega arith, omega (arith, given.few_second))) (i - 1) (omega arith);
      rising = λ i low high.
          let same : suc (i - 1) ≡ suc i - 1 = omega arith in
          subst (λ (j : ℕ). number_no numbers i < get_or numbers j 0) same (rising (i - 1) (omega arith) (omega arith));
      hold_some = λ i low high. by_kind (λ j e. hosts given.mapping e ≡ true) hosts-first hosts-second (i - 1) (omega arith);
      none_else = λ e at free.
          none-else e at (λ j h is.
          let same : suc j - 1 ≡ j = omega arith in
          free (suc j) (omega arith) (omega arith) (ap (λ (i : ℕ). get_or numbers i 0) same ∙ is));
      records = λ i low high.
          by_kind (λ j e. MixedRecord y k given.mapping e (get_or loads j none))
          (λ j h. record-first y k given.mapping (suc j) (get_or loads j none) (omega arith, omega (arith, given.few_first)) (load-first j h))
          (λ j h. record-second y k given.mapping (suc (y.engines + j)) (get_or loads (ours + j) none) (omega arith, omega (arith, given.few_second)) (load-second j h))
          (i - 1) (omega arith);
      fewest = λ χ p. rw (used-both χ) (partition-fewest y k keeps two χ p).fewest;
      fewest_second = λ χ p same. rw (used-second, used_after-used_of y.engines k.number χ) ((partition-fewest y k keeps two χ p).fewest_second (sym (used-both χ) ∙ same));
    }

    -- a load has a count for each of the six types
    pub mixed-six : (i : ℕ) → 1 ≤ i → i ≤ used_first (first_of y) (second_of y k) + used_second (first_of y) (second_of y k) → length (record_no (mixed_loads (first_of y) (second_of y k) ++ more_loads) i).counts ≡ 6
    unfolding loads none
    mixed-six i low high =
        by_kind (λ j e. length (get_or loads j none).counts ≡ 6) (λ j h. all-six (suc j) (ap (λ (l : EngineLoad). l.counts) (load-first j h)))
        (λ j h. all-six (suc (y.engines + j)) (ap (λ (l : EngineLoad). l.counts) (load-second j h))) (i - 1) (omega arith)
      where
        all-six : {x : List ℕ} (e : ℕ) → x ≡ load_on e given.mapping → length x ≡ 6
        all-six e is = ap length is ∙ length-map given.mapping (count_on e) ∙ (mixed-partition y k keeps two given.mapping given.assigns given.is_good).six

-- main: 12 means that there is no such partition

pub mixed-impossible : (y : System) (k : Kind) → keeps_card y ≡ true → y.second ≡ Some k → (mixed_placeable (first_of y) (second_of y k) ≡ false) ↔ MixedImpossible y k (ceiling_no y)
mixed-impossible y k keeps two =
    ((λ cannot χ p. not-both (mixed-placeable y k keeps two χ p) cannot), (λ never. go never (mixed_placeable (first_of y) (second_of y k)) refl))
  where
    go : MixedImpossible y k (ceiling_no y) → (b : Bool) → mixed_placeable (first_of y) (second_of y k) ≡ b → b ≡ false
    go never true can = let f = mixed-on-fewest y k keeps two can [] [] in absurd (never f.mapping f.partition)
    go never false can = refl

-- main: the counts of such records are 0 past k, as there is no instance of such a type

no-places : (e : ℕ) (places : List ℕ) → length places ≡ 0 → over_instances e 1 places ≡ 0
unfolding over_instances
no-places e [] h = refl
no-places e (place ∷ places) h = absurd (omega arith)

pub mixed-past : (y : System) (k : Kind) (numbers : List ℕ) (loads : List EngineLoad) (used : ℕ) → keeps_card y ≡ true → MixedOnFewest y k (ceiling_no y) numbers loads used
    → (i t : ℕ) → 1 ≤ i → i ≤ used → y.typecount < t → get_or (record_no loads i).counts (t - 1) 0 ≡ 0
mixed-past y k numbers loads used keeps f i t low high past =
    let none : length (places_no f.mapping t) ≡ 0 = f.partition.all t (omega arith) ∙ ap (λ (z : TaskType). z.ceiling) ((card-of y keeps).past (t - 1) (omega arith)) in
    (f.records i low high).counts t (omega arith) ∙ no-places (number_no numbers i) (places_no f.mapping t) none
