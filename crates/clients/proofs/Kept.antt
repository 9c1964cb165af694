-- From what a call promises that writes a file or a sheet, or that counts: where 30 and 38 are said, and that what stands past its own is as it was.
use Rattle.std.proofs.Common.{Result}
use Rattle.system.specs.declared.Refusal.{Refusal}
use Rattle.counting.specs.declared.Counts.{Counts}
use Prim.Native.Nat.{ℕ, ◌+◌, ◌*◌, ◌^◌, ◌≤◌, ◌<◌}
use mathlib.Core.List.{List, [], ◌∷◌, ◌++◌}
use mathlib.Core.Bool.{Bool, true, false}
use mathlib.Core.Path.{◌≡◌, refl, sym, ap, ◌∙◌}
use native.Mathlib.Omega.{arith}
use borrow.Author.Tests.{leb-true, leb-false}
use lib.ListN.{length, take, drop, length-append}
use lib.Seq.{take_at}
use lib.Dec.{leb}
use Rattle.system.specs.Outcome.{Answer, accepted, refused, from_input, outcome_of}
use Rattle.system.specs.declared.System.{System}
use Rattle.system.specs.Layout.{Reading, opened, unread}
use Rattle.partition.specs.Assignment.{Assignment}
use Rattle.partition.specs.Lent.{Lent, lent}
use Rattle.partition.specs.Plain.{columns_out, used_to}
use Rattle.writer.specs.Meaning.{file_out, MayBeWritten, WritesInOrder, WritePromises}
use Rattle.making.specs.declared.Recipe.{Recipe}
use Rattle.making.specs.Meaning.{NumbersWithin, PowerWithin, MakePromises}
use Rattle.making.proofs.Made.{made-length}
use Rattle.sheets.specs.Meaning.{sheet_out, GoodOnFewest, WriteSheetPromises}
use Rattle.counting.specs.Meaning.{instances_out, counted_outcome, CountPromises}
use Rattle.clients.specs.Wide.{KeptPastText, KeptPastAnswer, Says30, Says38, KeptPastColumns}

-- n bytes that stand before what was there
put-kept : (bytes old new : List ℕ) (n : ℕ) → n ≡ length bytes → new ≡ bytes ++ drop n old → KeptPastText old new n
put-kept bytes old new n size is =
    let taken : take n new ≡ bytes = ap (take n) is ∙ take_at bytes (drop n old) n (sym size) in
    let long : length new ≡ length bytes + length (drop n old) = ap (λ (l : List ℕ). length l) is ∙ length-append bytes (drop n old) in
    (omega (arith, size, long), is ∙ ap (λ (front : List ℕ). front ++ drop n old) (sym taken))

pub system-kept : {y : System} {old new : List ℕ} {r : Answer} → WritePromises y old new r
    → WritesInOrder y (length old) (outcome_of r)
    × ((n : ℕ) → outcome_of r ≡ accepted (n ∷ []) → MayBeWritten y × (new ≡ file_out y ++ drop n old))
    × KeptPastAnswer old new (outcome_of r)
system-kept {y = y} {old = old} {new = new} e = (
  e.order,
  (λ n is. (let w = e.writes n is in (w.0, w.2))),
  ((λ n is. (let w = e.writes n is in put-kept (file_out y) old new n w.1 w.2)), e.as_lent),
)

pub made_kept : {w : Recipe} {old new : List ℕ} {r : Answer} → MakePromises w old new r
    → Says30 (NumbersWithin w × PowerWithin w) (13 + 13 * w.typecount) (length old) (outcome_of r) × KeptPastAnswer old new (outcome_of r)
made_kept {w = w} {old = old} {new = new} e = (
  (λ may. e.then_room may.0 may.1),
  ((λ n is. (let l = e.writes n is in put-kept (file_out l.system) old new n (l.size ∙ sym (made-length w l.system l.made)) l.bytes)), e.as_lent),
)

module _ {x : Reading} {rows predecessors buffer : List ℕ} {r : Answer} {after : Lent} {left : List ℕ} where
  pub sheet-room : WriteSheetPromises x (lent rows predecessors) buffer r after left
      → (y : System) (χ : Assignment) → Says30 ((x ≡ opened y) × (columns_out y ≤ length rows) × (columns_out y ≤ length predecessors) × GoodOnFewest y χ) (5 + used_to y.engines χ * (12 + 2 * y.typecount)) (length buffer) (outcome_of r)
  sheet-room e y χ may = e.order.then_room y may.0 (may.1, may.2) χ may.3

  pub sheet-kept : WriteSheetPromises x (lent rows predecessors) buffer r after left → KeptPastAnswer buffer left (outcome_of r)
  sheet-kept e = (go x refl, e.as_lent)
    where
      go : (z : Reading) → x ≡ z → (n : ℕ) → outcome_of r ≡ accepted (n ∷ []) → KeptPastText buffer left n
      go (opened y) at n is = let w = e.writes y n at is in put-kept (sheet_out y w.mapping) buffer left n w.size w.bytes
      go (unread k) at n is =
          let other = e.order.file_first k at in
          let z : ◌≡◌ {A = ℕ} 0 1 = cc in absurd (omega arith)

-- a total that is not refused is within 64 bits
within_64 : (y : System) (many : Type 0) → (18446744073709551615 < y.engines ^ instances_out y → many) → (many → ⊥) → y.engines ^ instances_out y ≤ 18446744073709551615
within_64 y many says none = go (leb (y.engines ^ instances_out y) 18446744073709551615) refl
  where
    go : (b : Bool) → leb (y.engines ^ instances_out y) 18446744073709551615 ≡ b → y.engines ^ instances_out y ≤ 18446744073709551615
    go true e = leb-true (y.engines ^ instances_out y) 18446744073709551615 e
    go false e = absurd (none (says (leb-false (y.engines ^ instances_out y) 18446744073709551615 e)))

pub count_kept : {x : Reading} {part after : List ℕ} {r : Result Counts Refusal} → CountPromises x part r after → Says38 x part (counted_outcome r) × KeptPastColumns x part after (counted_outcome r)
count_kept {r = r} e = (
  (λ y opens passes. e.then_part y opens (within_64 y (counted_outcome r ≡ refused from_input 37) (e.then_total y opens).1 passes)),
  record { as_long = e.as_long; past = e.past; as_lent = e.as_lent },
)
