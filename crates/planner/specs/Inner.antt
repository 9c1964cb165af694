-- What the inner functions of the crate promise each other. Nothing here is part of document 01, and no demand cites it.
use Rattle.std.specs.Prelude.{ℕ, ◌≡◌, true, replicate, Some, Result, Ok, Err}
use Rattle.system.specs.Outcome.{Answer, outcome_of}
use Rattle.system.specs.declared.Kind.{Kind}
use Rattle.system.specs.declared.Refusal.{Refusal}
use Rattle.system.specs.declared.System.{System}
use Rattle.system.specs.Limits.{engine_limit, keeps_card}
use Rattle.system.specs.Card.{Card, mixed}
use Rattle.loads.specs.Load.{idle_engine}
use Rattle.partition.specs.Assignment.{engines_to}
use Rattle.partition.specs.Lent.{Lent}
use Rattle.planner.specs.declared.Plan.{Plan}
use Rattle.planner.specs.declared.ListPlan.{ListPlan}
use Rattle.planner.specs.Mixed.{card_outcome, card_used, card_table, card_records}
use Rattle.planner.specs.MixedDemands.{CardPlans, MixedPromises}

-- the whole result of a refused plan
abbrev pub refused_plan : Answer → Plan
refused_plan answer = record { answer = answer; used = 0; typecount = 0; numbers = engines_to engine_limit; loads = replicate engine_limit idle_engine }

-- what a call hands out: the plan, or the refused one
abbrev pub plan_from : Result Plan Refusal → Plan
plan_from (Ok p) = p
plan_from (Err why) = refused_plan (Err why)

-- the core of a plan into a list: the records of all engines beside the answer and the number of used engines
pub record Lists (c : Card) (table : Lent) (room : ℕ) (r : ListPlan) (after : Lent) : Type 0 where
  pub answer : outcome_of r.answer ≡ card_outcome c table room
  pub used : r.used ≡ card_used c table room
  pub records : r.records ≡ card_records c table room
  pub left : after ≡ card_table c table room

-- a card of two kinds within the limits, and its second kind
pub record TwoKindCard (y : System) (k : Kind) : Type 0 where
  pub limits : keeps_card y ≡ true
  pub second : y.second ≡ Some k

-- the whole result of a plan of two kinds
pub record MixedPlans (y : System) (k : Kind) (table : Lent) (room : ℕ) (r : Plan) (after : Lent) : Type 0 where
  pub whole : CardPlans (mixed y k) table room r after
  pub promises : MixedPromises y k table room r after
