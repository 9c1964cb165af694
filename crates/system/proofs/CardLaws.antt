-- Request 2026-13: a card of two kinds of engine that keeps the limits, as two systems of one kind each. Both keep document 01's limits: their engines are some of the card's, a type has the same n, d and q
-- in both and no C and T, and its u and s on the second kind are within the limits, or 0 where none are given. So all that is known of one kind holds of both.
use Rattle.std.proofs.Common.{Option, None, Some}
use Rattle.system.specs.declared.Costs.{Costs}
use Rattle.system.specs.declared.Cycle.{Cycle}
use Prim.Native.Nat.{ℕ, ◌+◌, ◌≤◌, zero-le}
use native.Mathlib.Omega.{arith}
use mathlib.Core.List.{List, [], ◌∷◌, map}
use mathlib.Core.Bool.{true}
use mathlib.Core.Path.{◌≡◌, refl, ap, ◌∙◌}
use lib.ListN.{get_or, length-map, get_or-map}
use Rattle.system.specs.declared.Kind.{Kind}
use Rattle.system.specs.declared.TaskType.{TaskType}
use Rattle.system.specs.declared.System.{System}
use Rattle.system.specs.Values.{no_task, ceilings_of}
use Rattle.system.specs.Limits.{engine_limit, columns_of, columns, most_fault, pace_fault, costs_fault, keeps_card, keeps_limits}
use Rattle.system.specs.Card.{task_here, task_costing, task_there, first_of, second_of}
use Rattle.system.proofs.Laws.{Sized, KindLimits, CardLimits, Limits, costs-sized, second-limits, card-of, limits-keep}

-- What a type is on the second kind, whether its costs there are given or not: the same n, d and q, no C and T, and nothing of a further kind
module _ (t : TaskType) where
  costing-ceiling : (x : Option Costs) → (task_costing x t).ceiling ≡ t.ceiling
  costing-ceiling None = refl
  costing-ceiling (Some c) = refl

  pub costing-data : (x : Option Costs) → (task_costing x t).data ≡ t.data
  costing-data None = refl
  costing-data (Some c) = refl

  pub costing-most : (x : Option Costs) → (task_costing x t).most ≡ t.most
  costing-most None = refl
  costing-most (Some c) = refl

  costing-pace : (x : Option Costs) → (task_costing x t).pace ≡ None
  costing-pace None = refl
  costing-pace (Some c) = refl

  costing-there : (x : Option Costs) → (task_costing x t).there ≡ None
  costing-there None = refl
  costing-there (Some c) = refl

  -- within the limits where its costs there are
  costing-sized : (x : Option Costs) → costs_fault x ≡ 0 → Sized t → Sized (task_costing x t)
  costing-sized None e s = record { time = zero-le; memory = zero-le; «data» = s.data }
  costing-sized (Some c) e s = let p = costs-sized (Some c) c e refl in record { time = p.0; memory = p.1; «data» = s.data }

-- The types of both systems, by their number from 0
module _ (y : System) where
  pub type-first : (i : ℕ) → get_or (first_of y).types i no_task ≡ task_here (get_or y.types i no_task)
  type-first i = get_or-map task_here y.types i no_task

  pub first-pace : (i : ℕ) → (get_or (first_of y).types i no_task).pace ≡ None
  first-pace i = ap (λ (t : TaskType). t.pace) (type-first i)

  module _ (k : Kind) where
    pub type-second : (i : ℕ) → get_or (second_of y k).types i no_task ≡ task_there (get_or y.types i no_task)
    type-second i = get_or-map task_there y.types i no_task

    pub second-ceiling : (i : ℕ) → (get_or (second_of y k).types i no_task).ceiling ≡ (get_or y.types i no_task).ceiling
    second-ceiling i = let t = get_or y.types i no_task in ap (λ (z : TaskType). z.ceiling) (type-second i) ∙ costing-ceiling t t.there

    pub second-data : (i : ℕ) → (get_or (second_of y k).types i no_task).data ≡ (get_or y.types i no_task).data
    second-data i = let t = get_or y.types i no_task in ap (λ (z : TaskType). z.data) (type-second i) ∙ costing-data t t.there

    pub second-pace : (i : ℕ) → (get_or (second_of y k).types i no_task).pace ≡ None
    second-pace i = let t = get_or y.types i no_task in ap (λ (z : TaskType). z.pace) (type-second i) ∙ costing-pace t t.there

    pub second-most : (i : ℕ) → (get_or (second_of y k).types i no_task).most ≡ (get_or y.types i no_task).most
    second-most i = let t = get_or y.types i no_task in ap (λ (z : TaskType). z.most) (type-second i) ∙ costing-most t t.there

-- The ceilings, and so the columns, are the card's
same-ceilings : (f : TaskType → TaskType) → ((t : TaskType) → (f t).ceiling ≡ t.ceiling) → (ts : List TaskType)
    → map (λ (t : TaskType). t.ceiling) (map f ts) ≡ map (λ (t : TaskType). t.ceiling) ts
same-ceilings f same [] = refl
same-ceilings f same (t ∷ ts) = λ i. same t i ∷ same-ceilings f same ts i

pub first-ceilings : (y : System) → ceilings_of (first_of y) ≡ ceilings_of y
first-ceilings y = same-ceilings task_here (λ t. refl) y.types

pub second-ceilings : (y : System) (k : Kind) → ceilings_of (second_of y k) ≡ ceilings_of y
second-ceilings y k = same-ceilings task_there (λ t. costing-ceiling t t.there) y.types

pub first-columns : (y : System) → columns (first_of y) ≡ columns y
first-columns y = ap columns_of (first-ceilings y)

pub second-columns : (y : System) (k : Kind) → columns (second_of y k) ≡ columns y
second-columns y k = ap columns_of (second-ceilings y k)

-- Both keep the limits
module _ (y : System) (k : Kind) (keeps : keeps_card y ≡ true) (two : y.second ≡ Some k) where
  card : CardLimits y
  card = card-of y keeps

  -- the second kind's number, U and S
  pub card-second : KindLimits y.engines k
  card-second = second-limits y.engines y.second k card.second two

  pub both-engines : y.engines + k.number ≤ engine_limit
  both-engines = card-second.engines

  first-within : Limits (first_of y)
  first-within = record {
    some-engine = card.some-engine;
    engines = card.engines;
    rule = card.rule;
    time = card.time;
    memory = card.memory;
    some-type = card.some-type;
    typecount = card.typecount;
    six = length-map y.types task_here ∙ card.six;
    columns = rw (first-columns y) card.columns;
    past = λ i h. type-first y i ∙ ap task_here (card.past i h);
    sized = λ i. rw (type-first y i) (record { time = (card.sized i).time; memory = (card.sized i).memory; «data» = (card.sized i).data });
    replicas = λ i. rw (type-first y i) (card.replicas i);
    paces = λ i. ap (λ (t : TaskType). pace_fault y.timecap t.time t.pace) (type-first y i);
    one_kind = refl;
    absent = λ i. ap (λ (t : TaskType). t.there) (type-first y i);
  }

  second-within : Limits (second_of y k)
  second-within = record {
    some-engine = card-second.some-engine;
    engines = omega (arith, card-second.engines);
    rule = card.rule;
    time = card-second.time;
    memory = card-second.memory;
    some-type = card.some-type;
    typecount = card.typecount;
    six = length-map y.types task_there ∙ card.six;
    columns = rw (second-columns y k) card.columns;
    past = λ i h. type-second y k i ∙ ap task_there (card.past i h);
    sized = λ i. rw (type-second y k i) (costing-sized (get_or y.types i no_task) (get_or y.types i no_task).there (card.costs i) (card.sized i));
    replicas = λ i. ap most_fault (second-most y k i) ∙ card.replicas i;
    paces = λ i. ap (λ (x : Option Cycle). pace_fault k.timecap (get_or (second_of y k).types i no_task).time x) (second-pace y k i);
    one_kind = refl;
    absent = λ i. ap (λ (t : TaskType). t.there) (type-second y k i) ∙ costing-there (get_or y.types i no_task) (get_or y.types i no_task).there;
  }

  pub first-keeps : keeps_limits (first_of y) ≡ true
  first-keeps = limits-keep (first_of y) first-within

  pub second-keeps : keeps_limits (second_of y k) ≡ true
  second-keeps = limits-keep (second_of y k) second-within
