-- The call that counts: what it promises at each way in which it ends.
use Rattle.std.proofs.Common.{Option, Ok, Err}
use Prim.Native.Nat.{ℕ, ◌+◌, ◌-◌, ◌*◌, ◌≤◌, ◌<◌}
use mathlib.Core.Path.{◌≡◌, refl, sym, ap, subst, ◌∙◌}
use mathlib.Core.List.{List, [], ◌∷◌}
use mathlib.Core.Bool.{true, false}
use native.Mathlib.Omega.{arith}
use borrow.Author.Tests.{le-leb, lt-leb}
use lib.ListN.{length, get_or, drop}
use lib.Seq.{get_or-drop}
use lib.Dec.{leb}
use Rattle.system.specs.declared.System.{System}
use Rattle.system.specs.declared.Opened.{Opened}
use Rattle.system.specs.declared.Refusal.{Refusal}
use Rattle.system.specs.declared.Refusal.TheVariants.{Input}
use Rattle.system.specs.Limits.{columns}
use Rattle.system.specs.Layout.{Reading, read_file, opened, Reads}
use Rattle.system.specs.Outcome.{Source, accepted, refused, refusal_of}
use Rattle.system.proofs.Laws.{read-limits, unread-with, opened-unless}
use Rattle.partition.specs.Plain.{columns_out}
use Rattle.partition.proofs.Plain.{columns-out}
use Rattle.counting.specs.declared.Counts.{Counts}
use Rattle.counting.specs.Counts.{good_count, total_count, greatest, count_outcome}
use Rattle.counting.specs.Walk.{Beyond}
use Rattle.counting.specs.Meaning.{counted_outcome, CountPromises}
use Rattle.counting.proofs.Ordered.{order-of}

-- an answer that is no refusal is that of a file that opens
pub ok-opens : (x : Reading) (r : Opened) → Reads x r → {v : Option ℕ} → r.answer ≡ Ok v → x ≡ opened r.system
ok-opens x r reads {v = v} e = opened-unless x r reads (λ why f. ok_err why (sym e ∙ f))
  where
    ok_err : (why : Refusal) → Ok v ≡ Err why → ⊥
    ok_err why g = let z : ◌≡◌ {A = ℕ} 0 1 = cc in omega arith

-- every entry past 2 × columns is as it was
beyond-at : (y : System) (part after : List ℕ) → Beyond y part after → (i : ℕ) → 2 * columns y ≤ i → get_or after i 0 ≡ get_or part i 0
beyond-at y part after b i h =
    let e : 2 * columns y + (i - 2 * columns y) ≡ i = omega arith in
    ap (λ (n : ℕ). get_or after n 0) (sym e)
    ∙ sym (get_or-drop (2 * columns y) after (i - 2 * columns y) 0)
    ∙ ap (λ (l : List ℕ). get_or l (i - 2 * columns y) 0) b.past
    ∙ get_or-drop (2 * columns y) part (i - 2 * columns y) 0
    ∙ ap (λ (n : ℕ). get_or part n 0) e

module _ (file part : List ℕ) where
  -- refused: the part is as it was lent
  refused-promises : (why : Refusal) → refusal_of why ≡ count_outcome (read_file file) (length part) → CountPromises (read_file file) part (Err why) part
  refused-promises why e = order-of (read_file file) (read-limits file) part (Err why) part e (λ s n said. refl) refl (λ y i is h. refl)

  -- the file is refused
  pub unread-promises : (r : Opened) → Reads (read_file file) r → (why : Refusal) → r.answer ≡ Err why → CountPromises (read_file file) part (Err why) part
  unread-promises r reads why is =
      let (n, same, says) = unread-with (read_file file) r reads why is in
      refused-promises why (rw same says)

  module _ (y : System) (is : read_file file ≡ opened y) where
    -- 37
    pub many-promises : leb (total_count y) greatest ≡ false → CountPromises (read_file file) part (Err (Input 37)) part
    many-promises over = refused-promises (Input 37) (rw (is, over))

    module _ (within : leb (total_count y) greatest ≡ true) where
      -- 38
      pub short-promises : length part < 2 * columns y → CountPromises (read_file file) part (Err (Input 38)) part
      short-promises short = refused-promises (Input 38) (rw (is, within, lt-leb (2 * columns y) (length part) short))

      -- both numbers
      pub counted-promises : 2 * columns y ≤ length part → (good total : ℕ) (after : List ℕ) → good ≡ good_count y → total ≡ total_count y → Beyond y part after →
          CountPromises (read_file file) part (Ok record { good = good; total = total }) after
      counted-promises long good total after found all beyond =
          order-of (read_file file) (read-limits file) part (Ok record { good = good; total = total }) after
          (rw (is, within, le-leb (2 * columns y) (length part) long, found, all))
          (λ s n said. let z : ◌≡◌ {A = ℕ} 0 1 = cc in absurd (omega arith))
          beyond.long
          past
        where
          past : (z : System) (i : ℕ) → read_file file ≡ opened z → 2 * columns_out z ≤ i → get_or after i 0 ≡ get_or part i 0
          past z i also h =
              let same : y ≡ z = cc in
              let out : columns_out z ≡ columns y = columns-out z (read-limits file z also).six ∙ ap columns (sym same) in
              beyond-at y part after beyond i (omega arith)
