-- The listing of a plan's loads has a line for each of the engines 1 to the number used, with what that engine holds.
use Prim.Native.Nat.{ℕ, zero, suc, ◌+◌, ◌-◌, ◌≤◌}
use mathlib.Core.Path.{◌≡◌, sym, ap, ◌∙◌}
use mathlib.Core.List.{List, ◌∷◌, ◌++◌, map-id}
use mathlib.Core.Bool.{Bool, true, false, cond}
use native.Mathlib.Omega.{arith}
use lib.ListN.{length, get_or}
use Rattle.system.specs.declared.System.{System}
use Rattle.loads.specs.declared.EngineLoad.{EngineLoad}
use Rattle.partition.specs.Assignment.{Assignment, engines_to}
use Rattle.partition.specs.Plain.{record_no, hosts, used_to}
use Rattle.partition.specs.PlainKinds.{number_no}
use Rattle.partition.proofs.Lists.{length-engines_to, get_or-map-engines_to}
use Rattle.planner.specs.declared.EngineRecord.{EngineRecord}
use Rattle.planner.specs.Plan.{records_of}
use Rattle.planner.proofs.Records.{records-numbered}
use Rattle.listing.specs.Listing.{plan_lines}
use Rattle.listing.specs.Demands.{engine_text, record_text}
use Rattle.listing.proofs.Lines.{same-each, plan-told}
use Rattle.timeline.specs.Meaning.{ListsLoads}

-- of m engines at most m are used
pub used-within : (m : ℕ) (χ : Assignment) → used_to m χ ≤ m
unfolding used_to
used-within zero χ = omega arith
used-within (suc m) χ = go (hosts χ (suc m)) (used-within m χ)
  where
    go : (b : Bool) → used_to m χ ≤ m → used_to m χ + cond b 1 0 ≤ suc m
    go true h = omega arith
    go false h = omega arith

-- the i-th engine is engine i
numbered-from-1 : (m e : ℕ) → 1 ≤ e → e ≤ m → number_no (engines_to m) e ≡ e
numbered-from-1 m e low high =
    ap (λ (l : List ℕ). get_or l (e - 1) 0) (sym (map-id (engines_to m))) ∙ get_or-map-engines_to (λ (n : ℕ). n) m (e - 1) 0 (omega arith) ∙ omega arith

-- main
pub loads-listed : (y : System) (loads : List EngineLoad) (used : ℕ) → used ≤ length loads
    → ((e : ℕ) → 1 ≤ e → e ≤ used → y.typecount ≤ length (record_no loads e).counts)
    → ListsLoads y loads used (plan_lines used y.typecount (records_of loads))
loads-listed y loads used few each =
    let numbers : List ℕ = engines_to (length loads) in
    let told = plan-told used y.typecount numbers loads few (omega (arith, length-engines_to (length loads))) each in
    let line_of : ℕ → List ℕ = λ (e : ℕ). engine_text told.spelt y.typecount e (record_no loads e).time (record_no loads e).memory (λ (t : ℕ). get_or (record_no loads e).counts (t - 1) 0) in
    record {
      spelt = told.spelt;
      in_decimal = told.in_decimal;
      lines =
          ap (λ (records : List EngineRecord). plan_lines used y.typecount records) (sym (records-numbered 1 loads))
          ∙ told.lines
          ∙ ap (λ (l : List ℕ). 101 ∷ 110 ∷ 103 ∷ 105 ∷ 110 ∷ 101 ∷ 115 ∷ 32 ∷ (told.spelt used ++ (10 ∷ l)))
          (same-each (record_text told.spelt y.typecount numbers loads) line_of used
          (λ e low high.
          ap (λ (n : ℕ). engine_text told.spelt y.typecount n (record_no loads e).time (record_no loads e).memory (λ (t : ℕ). get_or (record_no loads e).counts (t - 1) 0))
          (numbered-from-1 (length loads) e low (omega arith))));
    }
