-- What a reader finds in the line of a file, from what a cause means; and that the line which the code writes is that one.
use Rattle.std.proofs.Common.{Result, Ok, Err}
use Rattle.system.specs.declared.Refusal.{Refusal}
use Prim.Native.Nat.{ℕ}
use mathlib.Core.Path.{◌≡◌, refl, sym, ap, subst, ◌∙◌}
use mathlib.Core.List.{List, []}
use mathlib.Core.Bool.{Bool, true, false}
use mathlib.Core.Logic.{◌↔◌}
use native.Mathlib.Omega.{arith}
use lib.ListN.{get_or, take}
use Rattle.buffer.specs.Written.{Written}
use Rattle.system.specs.declared.System.{System}
use Rattle.system.specs.declared.Refusal.TheVariants.{Input, State}
use Rattle.system.specs.Values.{ceilings_of}
use Rattle.system.specs.Layout.{Reading, read_file, opened, unread}
use Rattle.system.specs.Outcome.{refused, from_input, from_state, check}
use Rattle.system.proofs.Laws.{Limits, read-limits, file-card}
use Rattle.system.proofs.Prefix.{read-prefix}
use Rattle.loads.proofs.Order.{within-refl}
use Rattle.partition.specs.Assignment.{Assignment, engines_to}
use Rattle.partition.specs.Lent.{Lent, lent}
use Rattle.partition.specs.Plain.{ceiling_no, EngineOf, Partition}
use Rattle.partition.proofs.Lists.{not-both, distinct-engines_to, every-among, among-engines_to}
use Rattle.partition.proofs.ForSystem.{length-ceilings}
use Rattle.partition.proofs.Plain.{ceiling-out}
use Rattle.planner.specs.Plan.{planned, judged}
use Rattle.planner.proofs.Cases.{can_place, long-back}
use Rattle.listing.specs.Listing.{refusal_line, listing_of, verdict_listing}
use Rattle.listing.specs.Demands.{TellsRefusal}
use Rattle.listing.specs.Text.{reading_verdict}
use Rattle.listing.proofs.Lines.{number-told}
use Rattle.listing.proofs.Text.{LongForAll, long-for-all, one-kind-text}
use Rattle.causes.specs.declared.Cause.{Cause}
use Rattle.causes.specs.declared.Cause.TheVariants.{Possible, NoEngine, OneTooLarge, TooMuchTime, TooMuchMemory, TooManyReplicas, NoArrangement}
use Rattle.causes.specs.Causes.{told, cause_outcome_of, cause_on, plan_cause}
use Rattle.causes.specs.Meaning.{Not1, CauseMeans, PlanCausePromises}
use Rattle.causes.proofs.Means.{same-cause, exists_iff}
use Rattle.causes.proofs.FromFile.{not-refused, file-means}
use Rattle.wording.specs.Line.{cause_line, answer_line, reading_line, why_text}
use Rattle.wording.specs.Meaning.{Tells, TellsCause, TellsWhy, WhyPromises}
use Rattle.wording.proofs.Lines.{own_line, one-cause}

-- intermediate: a file that opens

module _ (file : List ℕ) (y : System) (opens : read_file file ≡ opened y) where
  abbrev cause : Cause
  cause = cause_on y (engines_to y.engines) (ceilings_of y)

  limits : Limits y
  limits = read-limits file y opens

  means : CauseMeans y (EngineOf y) y.engines (ceiling_no y) (told cause)
  means = file-means y limits (lent [] [])

  -- the line of d is told exactly where d is the cause
  line-iff : (d : Cause) {P : Type 0} → (told cause ≡ told d) ↔ P → Tells d (cause_line cause) ↔ P
  line-iff d both =
      ((λ t. both.0 (ap told (one-cause cause d t))), (λ p. subst (λ (c : Cause). Tells d (cause_line c)) (sym (same-cause cause d (both.1 p))) (own_line d)))

  no1 : Not1 y.engines (ceiling_no y)
  no1 none = omega (arith, none.none, limits.some-engine)

  cause-told : TellsCause y (cause_line cause)
  cause-told = record {
    given = (cause, own_line cause);
    zero = line-iff Possible means.zero;
    one = λ t. no1 ((line-iff NoEngine means.one).0 t);
    two = λ t. let both = line-iff (OneTooLarge t) (means.two t) in ((λ q. let (n, h, least) = both.0 q in (h, least)), (λ (h, least). both.1 (no1, h, least)));
    too_large = λ t q. means.too_large t (ap told (one-cause cause (OneTooLarge t) q));
    three = line-iff TooMuchTime means.three;
    four = line-iff TooMuchMemory means.four;
    five = line-iff TooManyReplicas means.five;
    six = line-iff NoArrangement means.six;
  }

  -- a plan's lines are no refusal: the first byte
  plan-no-line : (n : ℕ) → TellsRefusal n (verdict_listing (planned y)) → ⊥
  unfolding listing_of
  plan-no-line n r = let z : ◌≡◌ {A = ℕ} 101 114 = ap (λ (l : List ℕ). get_or l 0 0) r.bytes in omega arith

  can-iff : (can_place y ≡ true) ↔ ((χ : Assignment) × Partition y (EngineOf y) (ceiling_no y) χ)
  can-iff =
      exists_iff y limits (engines_to y.engines) (distinct-engines_to y.engines) (every-among (engines_to y.engines)) (EngineOf y) (among-engines_to y.engines)
      (ceilings_of y) (length-ceilings y limits) (within-refl (ceilings_of y)) (ceiling_no y) (λ t low. ceiling-out y t)

  -- the listing is `refused 12` exactly where the line is not `placed`
  listing-12 : TellsRefusal 12 (verdict_listing (reading_verdict (opened y))) ↔ (Tells Possible (cause_line cause) → ⊥)
  unfolding reading_verdict listing_of
  listing-12 = go (can_place y) refl
    where
      go : (b : Bool) → can_place y ≡ b → TellsRefusal 12 (verdict_listing (judged y (check b from_input 12))) ↔ (Tells Possible (cause_line cause) → ⊥)
      go false q = ((λ r t. not-both (can-iff.1 (cause-told.zero.0 t)) q), (λ h. number-told 12))
      go true q = ((λ r. absurd (plan-no-line 12 r)), (λ h. absurd (h (cause-told.zero.1 (can-iff.0 q)))))

-- main: what a reader finds

pub tells-why : (file : List ℕ) → TellsWhy file (why_text file)
unfolding reading_line
tells-why file = record {
  unreadable = λ n e. rw e (number-told n);
  cause = λ y e. rw e (cause-told file y e);
  refused12 = λ y e. rw (e, one-kind-text file y e) (listing-12 file y e);
}

-- main: the line of what the code is answered, over a table that is long enough

unread-line : (a : Result Cause Refusal) (n : ℕ) → cause_outcome_of a ≡ refused from_input n → answer_line a ≡ refusal_line n
unread-line (Ok c) n o = not-refused c from_input n o
unread-line (Err (Input m)) n o = ap refusal_line (cc)
unread-line (Err (State m)) n o = ap refusal_line (cc)

cause-line : (a : Result Cause Refusal) (c : Cause) → cause_outcome_of a ≡ told c → answer_line a ≡ cause_line c
cause-line (Ok d) c o = ap cause_line (same-cause d c o)
cause-line (Err (Input m)) c o = not-refused c from_input m (sym o)
cause-line (Err (State m)) c o = not-refused c from_state m (sym o)

answer-line : (file : List ℕ) (table : Lent) (a : Result Cause Refusal) → LongForAll table → cause_outcome_of a ≡ plan_cause (read_file file) table → answer_line a ≡ why_text file
unfolding reading_line
answer-line file table a size o = go (read_file file) refl o
  where
    go : (x : Reading) → read_file file ≡ x → cause_outcome_of a ≡ plan_cause x table → answer_line a ≡ reading_line x
    go (unread n) e o = unread-line a n o
    go (opened y) e o = cause-line a _ (o ∙ rw (long-back y (read-limits file y e) table (long-for-all file y table (file-card file y e).0 size)))

pub why-promised : {file : List ℕ} {table after : Lent} {old new : List ℕ} {a : Result Cause Refusal} {r : ℕ} → LongForAll table → PlanCausePromises (read_file file) table a after
    → Written (answer_line a) old new r → WhyPromises file old new r
why-promised {file = file} {table = table} {a = a} size p w = record {
  written = rw (answer-line file table a size p.answers) at w;
  tells = tells-why file;
}

-- main: the first 384 bytes decide
pub prefix-promised : {front file old new : List ℕ} {r : ℕ} → front ≡ take 384 file → WhyPromises front old new r → WhyPromises file old new r
prefix-promised {front = front} {file = file} first p = record {
  written = rw (ap why_text first ∙ ap reading_line (read-prefix file)) at p.written;
  tells = tells-why file;
}
