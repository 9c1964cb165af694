-- How answers are read, from the words that read them; and what reading a file, and a part of one, hands out.
use Rattle.std.proofs.Common.{Result, Ok, Err, Option, None, Some}
use Prim.Native.Nat.{ℕ, ◌-◌, ◌≤◌, ◌<◌}
use mathlib.Core.List.{List, []}
use mathlib.Core.Bool.{Bool, true, false, cond, ◌&&◌}
use mathlib.Core.Path.{◌≡◌, refl, ap, ◌∙◌}
use mathlib.Core.Logic.{◌⊎◌, inl, inr}
use borrow.Author.Tests.{le-leb, leb-true}
use native.Mathlib.Omega.{arith}
use lib.ListN.{length, take, drop}
use lib.Dec.{leb}
use Rattle.system.specs.declared.Opened.{Opened}
use Rattle.system.specs.declared.Refusal.{Refusal}
use Rattle.system.specs.declared.Refusal.TheVariants.{Input, State}
use Rattle.system.specs.Outcome.{Answer, Outcome, Source, accepted, refused, from_input, from_state}
use Rattle.causes.specs.declared.Cause.{Cause}
use Rattle.causes.specs.declared.Cause.TheVariants.{Possible, NoEngine, OneTooLarge, TooMuchTime, TooMuchMemory, TooManyReplicas, NoArrangement}
use Rattle.counting.specs.declared.Counts.{Counts}
use Rattle.runs.specs.declared.Report.{Report}
use Rattle.deadlines.specs.Outcome.{FirstMiss, all_kept, first_at, RunOutcome, ran, not_run}
use Rattle.system.specs.Inner.{part_of}
use Rattle.system.specs.Layout.{Reading, Reads, read_outcome, read_system}
use Rattle.causes.proofs.Implied.{each-implies}
use Rattle.clients.specs.Answers.{OneOfThese, AnswersRead, CausesRead, SheetsRead, CountsRead, RunsRead, NumbersRead, GaveIs, DoesIs, ImpliedAlways, ReadsPlainly, PartPlainly}
use Rattle.clients.proofs.Plainly.{nothing_read}

pub answers-read : AnswersRead
answers-read = record { yes = λ ns. refl; no = λ s n. refl; none = refl; number = λ n. refl; input = λ n. refl; state = λ n. refl }

pub causes-read : CausesRead
causes-read = record { zero = refl; one = refl; two = λ t. refl; three = refl; four = refl; five = refl; six = refl; input = λ n. refl; state = λ n. refl; given = λ c. refl }

pub sheets-read : SheetsRead
sheets-read = record { is_right = λ fewer. refl; input = λ n. refl; state = λ n. refl }

pub counts-read : CountsRead
counts-read = record { counted = λ c. refl; input = λ n. refl; state = λ n. refl }

pub runs-read : RunsRead
runs-read = record { kept = λ idle. refl; missed = λ idle d. refl; input = λ n. refl; state = λ n. refl }

pub numbers-read : NumbersRead
numbers-read = record { input = λ n. refl; state = λ n. refl }

pub one-of-these : OneOfThese
one-of-these = record {
  outcome = outcome;
  source = source;
  apart = apart;
  refusal = refusal;
  answer = answer;
  cause = cause;
  one_cause = one-cause;
  sheet = sheet;
  count = count;
  run = run;
  report = report;
  run_outcome = run-outcome;
  first_miss = first-miss;
  miss_apart = miss-apart;
}
  where
    outcome : (o : Outcome) → ((ns : List ℕ) × (o ≡ accepted ns)) ⊎ ((s : Source) × (n : ℕ) × (o ≡ refused s n))
    outcome (accepted ns) = inl (ns, refl)
    outcome (refused s n) = inr (s, n, refl)

    source : (s : Source) → (s ≡ from_input) ⊎ (s ≡ from_state)
    source from_input = inl refl
    source from_state = inr refl

    -- one of them is first
    first : Source → ℕ
    first from_input = 0
    first from_state = 1

    apart : from_input ≡ from_state → ⊥
    apart e = let z : ◌≡◌ {A = ℕ} 0 1 = ap first e in omega arith

    refusal : (why : Refusal) → ((n : ℕ) × (why ≡ Input n)) ⊎ ((n : ℕ) × (why ≡ State n))
    refusal (Input n) = inl (n, refl)
    refusal (State n) = inr (n, refl)

    answer : (r : Answer) → (r ≡ (Ok None)) ⊎ (((n : ℕ) × (r ≡ Ok (Some n))) ⊎ ((why : Refusal) × (r ≡ Err why)))
    answer (Ok None) = inl refl
    answer (Ok (Some n)) = inr (inl (n, refl))
    answer (Err why) = inr (inr (why, refl))

    cause : (r : Result Cause Refusal) → ((c : Cause) × (r ≡ Ok c)) ⊎ ((why : Refusal) × (r ≡ Err why))
    cause (Ok c) = inl (c, refl)
    cause (Err why) = inr (why, refl)

    one-cause : (c : Cause) → (c ≡ Possible) ⊎ ((c ≡ NoEngine) ⊎ (((t : ℕ) × (c ≡ OneTooLarge t)) ⊎ ((c ≡ TooMuchTime)
        ⊎ ((c ≡ TooMuchMemory) ⊎ ((c ≡ TooManyReplicas) ⊎ (c ≡ NoArrangement))))))
    one-cause Possible = inl refl
    one-cause NoEngine = inr (inl refl)
    one-cause (OneTooLarge t) = inr (inr (inl (t, refl)))
    one-cause TooMuchTime = inr (inr (inr (inl refl)))
    one-cause TooMuchMemory = inr (inr (inr (inr (inl refl))))
    one-cause TooManyReplicas = inr (inr (inr (inr (inr (inl refl)))))
    one-cause NoArrangement = inr (inr (inr (inr (inr (inr refl)))))

    sheet : (r : Result Bool Refusal) → ((fewer : Bool) × (r ≡ Ok fewer)) ⊎ ((why : Refusal) × (r ≡ Err why))
    sheet (Ok fewer) = inl (fewer, refl)
    sheet (Err why) = inr (why, refl)

    count : (r : Result Counts Refusal) → ((c : Counts) × (r ≡ Ok c)) ⊎ ((why : Refusal) × (r ≡ Err why))
    count (Ok c) = inl (c, refl)
    count (Err why) = inr (why, refl)

    run : (r : Result Report Refusal) → ((p : Report) × (r ≡ Ok p)) ⊎ ((why : Refusal) × (r ≡ Err why))
    run (Ok p) = inl (p, refl)
    run (Err why) = inr (why, refl)

    report : (p : Report) → ((idle : ℕ) × (p ≡ record { idle = idle; missed = None })) ⊎ ((idle d : ℕ) × (p ≡ record { idle = idle; missed = Some d }))
    report p = by-miss p.missed refl
      where
        by-miss : (m : Option ℕ) → p.missed ≡ m → ((idle : ℕ) × (p ≡ record { idle = idle; missed = None })) ⊎ ((idle d : ℕ) × (p ≡ record { idle = idle; missed = Some d }))
        by-miss None e = inl (p.idle, λ i. record { idle = p.idle; missed = e i })
        by-miss (Some d) e = inr (p.idle, d, λ i. record { idle = p.idle; missed = e i })

    run-outcome : (o : RunOutcome) → ((idle : ℕ) × (miss : FirstMiss) × (o ≡ ran idle miss)) ⊎ ((s : Source) × (n : ℕ) × (o ≡ not_run s n))
    run-outcome (ran idle miss) = inl (idle, miss, refl)
    run-outcome (not_run s n) = inr (s, n, refl)

    first-miss : (m : FirstMiss) → (m ≡ all_kept) ⊎ ((d : ℕ) × (m ≡ first_at d))
    first-miss all_kept = inl refl
    first-miss (first_at d) = inr (d, refl)

    miss-apart : (d : ℕ) → all_kept ≡ first_at d → ⊥
    miss-apart d e = let z : ◌≡◌ {A = ℕ} 0 1 = cc in omega arith

pub gave-plainly : GaveIs
gave-plainly r after = (refl, refl, refl)

pub does-plainly : DoesIs
does-plainly x r after = ((λ d. (d.answer, d.board, d.table)), (λ p. record { answer = p.0; board = p.1; table = p.2 }))

pub implied-always : ImpliedAlways
implied-always y E r count numbered = each-implies y E r count numbered

pub reads-plainly : (x : Reading) (r : Opened) → Reads x r → ReadsPlainly x r
reads-plainly x r e = (
  (λ y is. (e.answer ∙ ap read_outcome is, e.system ∙ ap read_system is)),
  (λ n is. (e.answer ∙ ap read_outcome is, nothing_read r.system (e.system ∙ ap read_system is))),
)

-- the part is there, or it is not
part-there : (file : List ℕ) (start end : ℕ) → start ≤ end → end ≤ length file → part_of file start end ≡ take (end - start) (drop start file)
part-there file start end low high = rw (le-leb start end low, le-leb end (length file) high)

part_none : (file : List ℕ) (start end : ℕ) → (end < start) ⊎ (length file < end) → part_of file start end ≡ []
part_none file start end out = go (leb start end) refl (leb end (length file)) refl
  where
    never : (end < start) ⊎ (length file < end) → start ≤ end → end ≤ length file → ⊥
    never (inl past) low high = omega arith
    never (inr past) low high = omega arith

    go : (a : Bool) → leb start end ≡ a → (b : Bool) → leb end (length file) ≡ b → cond (a && b) (take (end - start) (drop start file)) [] ≡ []
    go true e true f = absurd (never out (leb-true start end e) (leb-true end (length file) f))
    go true e false f = refl
    go false e b f = refl

pub part-plainly : (file : List ℕ) (start end : ℕ) (part : List ℕ) → part ≡ part_of file start end → PartPlainly file start end part
part-plainly file start end part is = ((λ low high. is ∙ part-there file start end low high), (λ out. is ∙ part_none file start end out))
