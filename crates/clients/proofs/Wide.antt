-- From what a call promises of cards of one kind of engine and of two, what is said of every file that opens.
use Rattle.std.proofs.Common.{Option, None, Some}
use Prim.Native.Nat.{ℕ, ◌≤◌, ◌<◌}
use mathlib.Core.List.{List}
use mathlib.Core.Path.{◌≡◌, refl}
use mathlib.Core.Logic.{◌↔◌}
use lib.ListN.{length}
use Rattle.system.specs.declared.Kind.{Kind}
use Rattle.system.specs.declared.System.{System}
use Rattle.system.specs.Outcome.{Answer, refused, from_input, outcome_of}
use Rattle.system.specs.Layout.{read_card, opened}
use Rattle.system.specs.Card.{card_of, plain, mixed}
use Rattle.system.proofs.Cards.{card-is}
use Rattle.partition.specs.Lent.{Lent, lent}
use Rattle.partition.specs.Plain.{TooShort}
use Rattle.table.specs.Meaning.{FillCall}
use Rattle.planner.specs.declared.Plan.{Plan}
use Rattle.planner.specs.declared.EngineRecord.{EngineRecord}
use Rattle.planner.specs.MixedDemands.{PlanCall, ListCall}
use Rattle.clients.specs.Wide.{Says11, engines_in, Says15, NoPartition, Says12}

-- a file that opens is a card of one kind or of two
by-kinds : (file : List ℕ) (P : System → Option Kind → Type 0) (y : System) → read_card file ≡ opened y
    → (card_of (read_card file) ≡ plain (opened y) → P y None) → ((k : Kind) → card_of (read_card file) ≡ mixed y k → P y (Some k)) → P y y.second
by-kinds file P y opens one two = go y.second refl
  where
    go : (s : Option Kind) → y.second ≡ s → P y s
    go None is = one (card-is.one_kind (read_card file) y opens is)
    go (Some k) is = two k (card-is.two_kinds (read_card file) y k opens is)

module _ (file rows predecessors : List ℕ) where
  pub fill-eleven : (r : Answer) (after : Lent) → FillCall (card_of (read_card file)) (lent rows predecessors) r after → Says11 (read_card file) rows predecessors (outcome_of r ≡ refused from_input 11)
  fill-eleven r after e = λ y opens.
      by-kinds file (λ z s. (outcome_of r ≡ refused from_input 11) ↔ TooShort z (lent rows predecessors)) y opens
      (λ is. (e.one_kind (opened y) is).then_table y refl) (λ k is. (e.two_kinds y k is).then_table)

  pub plan-eleven : (room : ℕ) (r : Plan) (after : Lent) → PlanCall (card_of (read_card file)) (lent rows predecessors) room r after
      → Says11 (read_card file) rows predecessors (outcome_of r.answer ≡ refused from_input 11)
  plan-eleven room r after e = λ y opens.
      by-kinds file (λ z s. (outcome_of r.answer ≡ refused from_input 11) ↔ TooShort z (lent rows predecessors)) y opens
      (λ is. (e.one_kind (opened y) is).order.then_table y refl) (λ k is. (e.two_kinds y k is).order.then_table)

  pub plan-twelve : (room : ℕ) (r : Plan) (after : Lent) → PlanCall (card_of (read_card file)) (lent rows predecessors) room r after
      → Says12 (read_card file) rows predecessors room (outcome_of r.answer)
  plan-twelve room r after e = λ y opens long also.
      by-kinds file (λ z s. engines_in z s ≤ room → (outcome_of r.answer ≡ refused from_input 12) ↔ NoPartition z s) y opens
      (λ is. (e.one_kind (opened y) is).demand2.impossible y refl (long, also)) (λ k is. (e.two_kinds y k is).demand2.impossible (long, also))

  module _ (list : List EngineRecord) (r : Answer) (after : Lent) (later : List EngineRecord) (e : ListCall (card_of (read_card file)) (lent rows predecessors) list r after later) where
    pub list-eleven : Says11 (read_card file) rows predecessors (outcome_of r ≡ refused from_input 11)
    list-eleven = λ y opens.
        by-kinds file (λ z s. (outcome_of r ≡ refused from_input 11) ↔ TooShort z (lent rows predecessors)) y opens
        (λ is. (e.one_kind (opened y) is).order.then_table y refl) (λ k is. (e.two_kinds y k is).order.then_table)

    pub list-fifteen : Says15 (read_card file) rows predecessors (length list) (outcome_of r)
    list-fifteen = λ y opens long also.
        by-kinds file (λ z s. (outcome_of r ≡ refused from_input 15) ↔ (length list < engines_in z s)) y opens
        (λ is. (e.one_kind (opened y) is).order.then_list y refl (long, also)) (λ k is. (e.two_kinds y k is).order.then_list (long, also))

    pub list-twelve : Says12 (read_card file) rows predecessors (length list) (outcome_of r)
    list-twelve = λ y opens long also.
        by-kinds file (λ z s. engines_in z s ≤ length list → (outcome_of r ≡ refused from_input 12) ↔ NoPartition z s) y opens
        (λ is. (e.one_kind (opened y) is).demand2.impossible y refl (long, also)) (λ k is. (e.two_kinds y k is).impossible (long, also))
