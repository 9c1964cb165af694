-- What a reader finds in the line of a file, from what its numbers mean; and that the line which the code writes is that one.
use Rattle.std.proofs.Common.{Result, Ok, Err}
use Rattle.system.specs.declared.Refusal.{Refusal}
use Rattle.counting.specs.declared.Counts.{Counts}
use Prim.Native.Nat.{ℕ, zero, suc, ◌*◌, ◌^◌, ◌≤◌, ◌<◌}
use mathlib.Core.Path.{◌≡◌, refl, sym, ap, ap₂, subst, ◌∙◌}
use mathlib.Core.List.{List, [], ◌∷◌}
use mathlib.Core.Bool.{Bool, true, false, cond}
use mathlib.Core.Logic.{◌↔◌, ◌⊎◌, inl, inr, ⊎_elim}
use native.Mathlib.Nat.{le_trans}
use native.Mathlib.Omega.{arith}
use borrow.Author.Tests.{le-leb, leb-true, leb-false}
use lib.Dec.{leb}
use lib.ListN.{length, get_or, take}
use Rattle.buffer.specs.Written.{Written}
use Rattle.system.specs.declared.System.{System}
use Rattle.system.specs.declared.Refusal.TheVariants.{Input, State}
use Rattle.system.specs.Values.{ceilings_of}
use Rattle.system.specs.Limits.{columns}
use Rattle.system.specs.Layout.{Reading, read_file, opened, unread}
use Rattle.system.specs.Outcome.{accepted, refused, from_input, check, and_then, unless_fails}
use Rattle.system.proofs.Laws.{Limits, read-limits}
use Rattle.system.proofs.Prefix.{read-prefix}
use Rattle.loads.proofs.Order.{within-refl}
use Rattle.partition.specs.Assignment.{Assignment, engines_to}
use Rattle.partition.specs.Plain.{ceiling_no, EngineOf, Partition}
use Rattle.partition.proofs.Lists.{not-both, distinct-engines_to, every-among, among-engines_to}
use Rattle.partition.proofs.ForSystem.{length-ceilings, feasible-iff-placeable}
use Rattle.partition.proofs.Plain.{ceiling-out, feasible-out}
use Rattle.planner.specs.Plan.{planned, judged}
use Rattle.planner.proofs.Cases.{can_place}
use Rattle.listing.specs.Listing.{refusal_line, listing_of, verdict_listing}
use Rattle.listing.specs.Demands.{TellsRefusal}
use Rattle.listing.specs.Text.{reading_verdict}
use Rattle.listing.proofs.Lines.{number-told, told-once}
use Rattle.listing.proofs.Text.{one-kind-text}
use Rattle.counting.specs.Counts.{good_count, total_count, greatest, count_outcome}
use Rattle.counting.specs.Meaning.{instances_out, CountMeans, counted_outcome, CountPromises}
use Rattle.counting.proofs.Counted.{counts-mean}
use Rattle.tightness.specs.Line.{count_line, answer_line, reading_line, tight_text}
use Rattle.tightness.specs.Meaning.{TellsCounts, TellsAnswer, TellsTight, TightPromises}
use Rattle.tightness.proofs.Refusals.{own-number}
use Rattle.tightness.proofs.Once.{good-once, total-once}
use Rattle.tightness.proofs.Lines.{counts-told, one-good, one-total, no-refusal}

-- intermediate: a file that opens

module _ (file : List ℕ) (y : System) (opens : read_file file ≡ opened y) where
  limits : Limits y
  limits = read-limits file y opens

  means : CountMeans y (good_count y) (total_count y)
  means = counts-mean y limits

  abbrev power_out : ℕ
  power_out = y.engines ^ instances_out y

  within-out : leb (total_count y) greatest ≡ true → power_out ≤ 18446744073709551615
  within-out e = subst (λ (n : ℕ). n ≤ 18446744073709551615) means.power (leb-true (total_count y) greatest e)

  over-out : leb (total_count y) greatest ≡ false → 18446744073709551615 < power_out
  over-out e = subst (λ (n : ℕ). 18446744073709551615 < n) means.power (leb-false (total_count y) greatest e)

  -- the line's numbers are those that are meant
  numbers-iff : (good total : ℕ) → TellsCounts good total (count_line (good_count y) (total_count y)) ↔ CountMeans y good total
  numbers-iff good total = (there, back)
    where
      own : TellsCounts (good_count y) (total_count y) (count_line (good_count y) (total_count y))
      own = counts-told (good_count y) (total_count y)

      there : TellsCounts good total (count_line (good_count y) (total_count y)) → CountMeans y good total
      there t = subst (λ (n : ℕ). CountMeans y n total) (one-good own t) (subst (λ (n : ℕ). CountMeans y (good_count y) n) (one-total own t) means)

      back : CountMeans y good total → TellsCounts good total (count_line (good_count y) (total_count y))
      back m =
          subst (λ (n : ℕ). TellsCounts n total (count_line (good_count y) (total_count y))) (good-once means m)
          (subst (λ (n : ℕ). TellsCounts (good_count y) n (count_line (good_count y) (total_count y))) (total-once means m) own)

  answer-by : (b : Bool) → leb (total_count y) greatest ≡ b → TellsAnswer y (cond b (count_line (good_count y) (total_count y)) (refusal_line 37))
  answer-by true e =
      let within : power_out ≤ 18446744073709551615 = within-out e in
      let own = counts-told (good_count y) (total_count y) in
      record {
        passes = ((λ r. absurd (no-refusal own r)), (λ over. absurd (omega (arith, within, over))));
        no_other = λ n r. absurd (no-refusal own r);
        else = λ h. (good_count y, total_count y, own);
        counts = λ good total. let both = numbers-iff good total in ((λ t. (within, both.0 t)), (λ (h, m). both.1 m));
      }
  answer-by false e =
      let over : 18446744073709551615 < power_out = over-out e in
      record {
        passes = ((λ r. over), (λ h. number-told 37));
        no_other = λ n r. told-once r (number-told 37);
        else = λ within. absurd (omega (arith, within, over));
        counts = λ good total. ((λ t. absurd (no-refusal t (number-told 37))), (λ (within, m). absurd (omega (arith, within, over))));
      }

  pub answer-told : TellsAnswer y (reading_line (opened y))
  unfolding reading_line
  answer-told = answer-by (leb (total_count y) greatest) refl

  -- intermediate: the file's listing

  -- a plan's lines are no refusal: the first byte
  plan-no-line : (n : ℕ) → TellsRefusal n (verdict_listing (planned y)) → ⊥
  unfolding listing_of
  plan-no-line n r = let z : ◌≡◌ {A = ℕ} 101 114 = ap (λ (l : List ℕ). get_or l 0 0) r.bytes in omega arith

  can-iff : (can_place y ≡ true) ↔ ((χ : Assignment) × Partition y (EngineOf y) (ceiling_no y) χ)
  can-iff =
      let es = engines_to y.engines in
      let six = length-ceilings y limits in
      let cells = feasible-iff-placeable y limits es (distinct-engines_to y.engines) (ceilings_of y) six (within-refl (ceilings_of y)) in
      let plain = feasible-out y limits.rule es (distinct-engines_to y.engines) (every-among es) (EngineOf y) (among-engines_to y.engines) (ceilings_of y) six (ceiling_no y) (λ t low. ceiling-out y t) in
      ((λ h. plain.0 (cells.1 h)), (λ h. cells.0 (plain.1 h)))

  -- none is good exactly where none is a partition
  none-iff : (good total : ℕ) → CountMeans y good total → (good ≡ 0) ↔ (((χ : Assignment) × Partition y (EngineOf y) (ceiling_no y) χ) → ⊥)
  none-iff good total m = (there, back)
    where
      there : good ≡ 0 → ((χ : Assignment) × Partition y (EngineOf y) (ceiling_no y) χ) → ⊥
      there none (χ, p) = let at = m.good_listed.all χ p in absurd (omega (arith, none, m.good_is, at.1))

      back : (((χ : Assignment) × Partition y (EngineOf y) (ceiling_no y) χ) → ⊥) → good ≡ 0
      back none = go good refl
        where
          go : (n : ℕ) → good ≡ n → n ≡ 0
          go zero e = refl
          go (suc n) e = absurd (none (get_or m.good_ones 0 [], m.good_listed.only 0 (omega (arith, e, m.good_is))))

  -- the listing is `refused 12` exactly where no assignment is good
  pub listing-12 : (good total : ℕ) → TellsCounts good total (reading_line (opened y)) → TellsRefusal 12 (verdict_listing (reading_verdict (opened y))) ↔ (good ≡ 0)
  unfolding reading_verdict listing_of
  listing-12 good total t = go (can_place y) refl
    where
      none : (good ≡ 0) ↔ (((χ : Assignment) × Partition y (EngineOf y) (ceiling_no y) χ) → ⊥)
      none = none-iff good total ((answer-told.counts good total).0 t).1

      go : (b : Bool) → can_place y ≡ b → TellsRefusal 12 (verdict_listing (judged y (check b from_input 12))) ↔ (good ≡ 0)
      go false q = ((λ r. none.1 (λ p. not-both (can-iff.1 p) q)), (λ h. number-told 12))
      go true q = ((λ r. absurd (plan-no-line 12 r)), (λ h. absurd (none.0 h (can-iff.0 q))))

-- intermediate: the numbers of all refusals

own_line : (file : List ℕ) (k n : ℕ) → read_file file ≡ unread k → TellsRefusal n (refusal_line k) → ((1 ≤ n) × (n ≤ 10)) ⊎ ((n ≡ 31) ⊎ ((n ≡ 37) ⊎ ((n ≡ 41) ⊎ ((n ≡ 42) ⊎ (n ≡ 43)))))
own_line file k n e r =
    ⊎_elim (λ low. inl low) (⊎_elim (λ most. inr (inl most)) (λ kinds. inr (inr (inr kinds)))) (own-number file n (e ∙ ap unread (told-once (number-told k) r)))

any-line : (file : List ℕ) (n : ℕ) → TellsRefusal n (tight_text file) → ((1 ≤ n) × (n ≤ 10)) ⊎ ((n ≡ 31) ⊎ ((n ≡ 37) ⊎ ((n ≡ 41) ⊎ ((n ≡ 42) ⊎ (n ≡ 43)))))
unfolding reading_line
any-line file n r = go (read_file file) refl r
  where
    go : (x : Reading) → read_file file ≡ x → TellsRefusal n (reading_line x) → ((1 ≤ n) × (n ≤ 10)) ⊎ ((n ≡ 31) ⊎ ((n ≡ 37) ⊎ ((n ≡ 41) ⊎ ((n ≡ 42) ⊎ (n ≡ 43)))))
    go (unread k) e r = own_line file k n e r
    go (opened y) e r = inr (inr (inl ((answer-told file y e).no_other n r)))

-- main: what a reader finds

pub tells-tight : (file : List ℕ) → TellsTight file (tight_text file)
unfolding reading_line
tells-tight file = record {
  unreadable = λ n e. rw e (number-told n);
  answer = λ y e. rw e (answer-told file y e);
  numbers = any-line file;
  refused12 = λ y good total e. rw (e, one-kind-text file y e) (listing-12 file y e good total);
}

-- main: the line of what the code is answered, over a part that is long enough

refused-line : (a : Result Counts Refusal) (n : ℕ) → counted_outcome a ≡ refused from_input n → answer_line a ≡ refusal_line n
refused-line (Ok c) n o = let z : ◌≡◌ {A = ℕ} 0 1 = cc in absurd (omega arith)
refused-line (Err (Input m)) n o = ap refusal_line (cc)
refused-line (Err (State m)) n o = ap refusal_line (cc)

counted-line : (a : Result Counts Refusal) (good total : ℕ) → counted_outcome a ≡ accepted (good ∷ total ∷ []) → answer_line a ≡ count_line good total
counted-line (Ok c) good total o = ap₂ count_line (cc) (cc)
counted-line (Err (Input m)) good total o = let z : ◌≡◌ {A = ℕ} 0 1 = cc in absurd (omega arith)
counted-line (Err (State m)) good total o = let z : ◌≡◌ {A = ℕ} 0 1 = cc in absurd (omega arith)

answer-line : (file part : List ℕ) (a : Result Counts Refusal) → 8192 ≤ length part → counted_outcome a ≡ count_outcome (read_file file) (length part) → answer_line a ≡ tight_text file
unfolding reading_line
answer-line file part a size o = go (read_file file) refl o
  where
    long : (y : System) → read_file file ≡ opened y → leb (2 * columns y) (length part) ≡ true
    long y e = le-leb (2 * columns y) (length part) (omega (arith, (read-limits file y e).columns, size))

    by : (y : System) → leb (2 * columns y) (length part) ≡ true → (b : Bool)
        → counted_outcome a ≡ unless_fails (and_then (check b from_input 37) (check (leb (2 * columns y) (length part)) from_input 38)) (accepted (good_count y ∷ total_count y ∷ []))
        → answer_line a ≡ cond b (count_line (good_count y) (total_count y)) (refusal_line 37)
    by y enough true o = counted-line a (good_count y) (total_count y) (o ∙ rw enough)
    by y enough false o = refused-line a 37 o

    go : (x : Reading) → read_file file ≡ x → counted_outcome a ≡ count_outcome x (length part) → answer_line a ≡ reading_line x
    go (unread n) e o = refused-line a n o
    go (opened y) e o = by y (long y e) (leb (total_count y) greatest) o

pub tight-promised : {file part after old new : List ℕ} {a : Result Counts Refusal} {r : ℕ} → 8192 ≤ length part → CountPromises (read_file file) part a after → Written (answer_line a) old new r
    → TightPromises file old new r
tight-promised {file = file} {part = part} {a = a} size p w = record {
  written = rw (answer-line file part a size p.answers) at w;
  tells = tells-tight file;
}

-- main: the first 384 bytes decide
pub prefix-promised : {front file old new : List ℕ} {r : ℕ} → front ≡ take 384 file → TightPromises front old new r → TightPromises file old new r
prefix-promised {front = front} {file = file} first p = record {
  written = rw (ap tight_text first ∙ ap reading_line (read-prefix file)) at p.written;
  tells = tells-tight file;
}
