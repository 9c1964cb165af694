-- Laws of recovery into an array of engines: row 0 changes nothing, and one row more puts one load more.
use Prim.Native.Nat.{ℕ, zero, suc, ◌-◌, ◌≤◌, ◌<◌}
use mathlib.Core.Path.{◌≡◌, refl, sym, ap, ◌∙◌}
use mathlib.Core.List.{List, [], ◌∷◌, ◌++◌, map, map-append, append_assoc}
use native.Mathlib.Omega.{arith}
use lib.ListN.{length, drop, set}
use lib.Seq.{set_split, drop_at, length-take-le}
use native.Mathlib.Nat.{le_of_lt}
use Rattle.system.specs.declared.System.{System}
use Rattle.system.specs.Values.{ceilings_of}
use Rattle.loads.specs.declared.EngineLoad.{EngineLoad}
use Rattle.loads.specs.Load.{fits_engine, engine_with}
use Rattle.partition.specs.Cell.{recover}
use Rattle.partition.specs.ForSystem.{cell_for}
use Rattle.partition.proofs.Cells.{recover-append}
use Rattle.table.specs.Chain.{row_load, recovered_onto}

drop-set : {A : Type 0} (l : List A) (i : ℕ) (a : A) → i < length l → drop i (set l i a) ≡ a ∷ drop (suc i) l
drop-set l i a h = ap (drop i) (set_split l i a h) ∙ drop_at (lib.ListN.take i l) (a ∷ drop (suc i) l) i (length-take-le i l (le_of_lt h))

module _ (y : System) (c : ℕ) (loads : List EngineLoad) where
  pub recovered_onto-none : recovered_onto y 0 c loads ≡ loads
  unfolding recovered_onto recover
  recovered_onto-none = refl

  suc-row : (i : ℕ) → i < length loads → recovered_onto y i (cell_for y (suc i) c) (set loads i (engine_with y (row_load y c (cell_for y (suc i) c)))) ≡ recovered_onto y (suc i) c loads
  unfolding recovered_onto recover
  suc-row i h =
      let before = recover (fits_engine y) (ceilings_of y) i (cell_for y (suc i) c) [] in
      let x = row_load y c (cell_for y (suc i) c) in
      ap (λ (l : List EngineLoad). map (engine_with y) before ++ l) (drop-set loads i (engine_with y x) h)
      ∙ sym (append_assoc (map (engine_with y) before) (engine_with y x ∷ []) (drop (suc i) loads))
      ∙ ap (λ (l : List EngineLoad). l ++ drop (suc i) loads) (sym (map-append (engine_with y) before (x ∷ [])))
      ∙ ap (λ (l : List (List ℕ)). map (engine_with y) l ++ drop (suc i) loads) (sym (recover-append (fits_engine y) (ceilings_of y) i (cell_for y (suc i) c) (x ∷ [])))

  -- one row more, as the code takes it: p is the cell, `engine` the row's engine, l what that engine gets, r what the rows before then give
  pub recovered_onto-row : (row p engine : ℕ) (l : EngineLoad) (r : List EngineLoad) → 1 ≤ row → row ≤ length loads → p ≡ cell_for y row c → engine ≡ row - 1
      → l ≡ engine_with y (row_load y c p) → r ≡ recovered_onto y (row - 1) p (set loads engine l) → r ≡ recovered_onto y row c loads
  recovered_onto-row zero p engine l r some room ep ee el er = absurd (omega arith)
  recovered_onto-row (suc i) p engine l r some room ep ee el er =
      let same : suc i - 1 ≡ i = omega arith in
      er ∙ rw (el, ee, ep, same) (suc-row i room)
