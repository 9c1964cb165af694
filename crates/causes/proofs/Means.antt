-- What a cause says of a load and a list of engines. Each cause has its fact and those before it have not, by the tests; with the five theorems
-- a load that has a good assignment has none of the causes 1 to 5, so that 0 is given exactly there.
use Prim.Native.Nat.{ℕ, ◌-◌, ◌≤◌, ◌<◌}
use mathlib.Core.Path.{◌≡◌, refl, sym, ap, subst, ◌∙◌}
use mathlib.Core.List.{List, [], ◌∷◌}
use mathlib.Core.Bool.{Bool, true, false, cond}
use mathlib.Core.Logic.{◌↔◌}
use native.Mathlib.Omega.{arith}
use borrow.Author.Tests.{ltb-true, ltb-false, lt-ltb}
use lib.ListN.{length, get_or}
use lib.Dec.{ltb, eqb}
use Rattle.system.specs.declared.System.{System}
use Rattle.system.specs.Values.{ceilings_of}
use Rattle.system.specs.Limits.{type_limit}
use Rattle.system.specs.Outcome.{Outcome, accepted, refused}
use Rattle.system.proofs.Laws.{Limits}
use Rattle.loads.specs.Load.{within}
use Rattle.partition.specs.Assignment.{Assignment, among, every, engines_to}
use Rattle.partition.specs.Shares.{distinct}
use Rattle.partition.specs.ForSystem.{placeable}
use Rattle.partition.specs.Plain.{Partition, Impossible}
use Rattle.partition.proofs.Lists.{not-both}
use Rattle.partition.proofs.ForSystem.{feasible-iff-placeable}
use Rattle.partition.proofs.Plain.{feasible-out}
use Rattle.causes.specs.declared.Cause.{Cause}
use Rattle.causes.specs.declared.Cause.TheVariants.{Possible, NoEngine, OneTooLarge, TooMuchTime, TooMuchMemory, TooManyReplicas, NoArrangement}
use Rattle.causes.specs.Causes.{told, no_engine, lowest_unfit, time_short, memory_short, replicas_short, cause_of, cause_on}
use Rattle.causes.specs.Meaning.{Numbered, NoneInService, DoesNotFit, TimeExceeds, MemoryExceeds, CountExceeds, EachImplies, Not1, Not2, Not3, Not4, Not5, CauseMeans}
use Rattle.causes.proofs.Numbers.{numbered-by}
use Rattle.causes.proofs.Implied.{each-implies}
use Rattle.causes.proofs.Tests.{no_true, one_out, LowestIs, lowest-is, lowest-some, too_large_lem, time-iff, memory-iff, replicas-iff}

-- intermediate: a cause can be read off its number and the type that it names

by_number : ℕ → List ℕ → Cause
by_number n named =
    cond (eqb n 0) Possible
    (cond (eqb n 1) NoEngine
    (cond (eqb n 2) (OneTooLarge (get_or named 0 0))
    (cond (eqb n 3) TooMuchTime (cond (eqb n 4) TooMuchMemory (cond (eqb n 5) TooManyReplicas NoArrangement)))))

as_cause : Outcome → Cause
as_cause (accepted []) = Possible
as_cause (accepted (n ∷ named)) = by_number n named
as_cause (refused s n) = Possible

told_back : (c : Cause) → as_cause (told c) ≡ c
unfolding as_cause by_number
told_back Possible = refl
told_back NoEngine = refl
told_back (OneTooLarge t) = refl
told_back TooMuchTime = refl
told_back TooMuchMemory = refl
told_back TooManyReplicas = refl
told_back NoArrangement = refl

pub same-cause : (c d : Cause) → told c ≡ told d → c ≡ d
same-cause c d e = sym (told_back c) ∙ ap as_cause e ∙ told_back d

-- main

module _ (y : System) (limits : Limits y) (es : List ℕ) (apart : distinct es ≡ true) (known : every (among (engines_to y.engines)) es ≡ true)
    (E : ℕ → Type 0) (says : (e : ℕ) → (among es e ≡ true) ↔ E e)
    (x : List ℕ) (six : length x ≡ type_limit) (inside : within x (ceilings_of y) ≡ true) (count : ℕ → ℕ) (counts : (t : ℕ) → 1 ≤ t → get_or x (t - 1) 0 ≡ count t) where
  abbrev r : ℕ
  r = length es

  abbrev can : Bool
  can = placeable y es x

  numbered : Numbered E (length es)
  numbered = numbered-by es apart E says

  implied : EachImplies y E (length es) count
  implied = each-implies y E (length es) count numbered

  abbrev Exists : Type 0
  Exists = (χ : Assignment) × Partition y E count χ

  pub exists_iff : (placeable y es x ≡ true) ↔ ((χ : Assignment) × Partition y E count χ)
  exists_iff =
      let cells = feasible-iff-placeable y limits es apart x six inside in
      let plain = feasible-out y limits.rule es apart known E says x six count counts in
      ((λ h. plain.0 (cells.1 h)), (λ h. cells.0 (plain.1 h)))

  abbrev first-test : (no_engine r x ≡ true) ↔ NoneInService r count
  first-test = one_out y limits x six inside count counts r

  abbrev time-test : (time_short y r x ≡ true) ↔ TimeExceeds y r count
  time-test = time-iff y limits x six inside count counts r

  abbrev memory-test : (memory_short y r x ≡ true) ↔ MemoryExceeds y r count
  memory-test = memory-iff y limits x six inside count counts r

  abbrev replicas-test : (replicas_short r y.types x ≡ true) ↔ CountExceeds y r count
  replicas-test = replicas-iff y limits x six inside count counts r

  -- when each cause is the one to give

  abbrev Names : ℕ → Type 0
  Names t = Not1 r count × DoesNotFit y count t × ((u : ℕ) → u < t → DoesNotFit y count u → ⊥)

  Holds : Cause → Type 0
  Holds Possible = Exists
  Holds NoEngine = NoneInService r count
  Holds (OneTooLarge t) = Names t
  Holds TooMuchTime = Not2 y r count × TimeExceeds y r count
  Holds TooMuchMemory = Not3 y r count × MemoryExceeds y r count
  Holds TooManyReplicas = Not4 y r count × CountExceeds y r count
  Holds NoArrangement = Not5 y r count × Impossible y E count

  -- the cause that is given is one that holds, by the tests in their order

  abbrev from6 : Cause
  from6 = cond can Possible NoArrangement

  abbrev from5 : Cause
  from5 = cond (replicas_short r y.types x) TooManyReplicas from6

  abbrev from4 : Cause
  from4 = cond (memory_short y r x) TooMuchMemory from5

  abbrev from3 : Cause
  from3 = cond (time_short y r x) TooMuchTime from4

  holds6 : (b : Bool) → can ≡ b → Not5 y r count → Holds (cond b Possible NoArrangement)
  unfolding Holds
  holds6 true q n = exists_iff.0 q
  holds6 false q n = (n, λ χ p. not-both (exists_iff.1 (χ, p)) q)

  holds5 : (b : Bool) → replicas_short r y.types x ≡ b → Not4 y r count → Holds (cond b TooManyReplicas from6)
  unfolding Holds
  holds5 true q n = (n, replicas-test.0 q)
  holds5 false q n = holds6 can refl (n, λ h. not-both (replicas-test.1 h) q)

  holds4 : (b : Bool) → memory_short y r x ≡ b → Not3 y r count → Holds (cond b TooMuchMemory from5)
  unfolding Holds
  holds4 true q n = (n, memory-test.0 q)
  holds4 false q n = holds5 (replicas_short r y.types x) refl (n, λ h. not-both (memory-test.1 h) q)

  holds3 : (b : Bool) → time_short y r x ≡ b → Not2 y r count → Holds (cond b TooMuchTime from4)
  unfolding Holds
  holds3 true q n = (n, time-test.0 q)
  holds3 false q n = holds4 (memory_short y r x) refl (n, λ h. not-both (time-test.1 h) q)

  lowest-of : (t : ℕ) → DoesNotFit y count t → (lowest_unfit y x ≤ t) × LowestIs y limits x six inside count counts (lowest_unfit y x)
  lowest-of = lowest-is y limits x six inside count counts

  holds2 : (b : Bool) → ltb 0 (lowest_unfit y x) ≡ b → Not1 r count → Holds (cond b (OneTooLarge (lowest_unfit y x)) from3)
  unfolding Holds
  holds2 true q n =
      let (t, h) = lowest-some y limits x six inside count counts (ltb-true 0 (lowest_unfit y x) q) in
      let l = (lowest-of t h).1 in
      (n, l.unfit, l.least)
  holds2 false q n =
      holds3 (time_short y r x) refl (n, λ t h. omega (arith, (lowest-of t h).1.some, ltb-false 0 (lowest_unfit y x) q))

  holds1 : (b : Bool) → no_engine r x ≡ b → Holds (cond b NoEngine (cond (ltb 0 (lowest_unfit y x)) (OneTooLarge (lowest_unfit y x)) from3))
  unfolding Holds
  holds1 true q = first-test.0 q
  holds1 false q = holds2 (ltb 0 (lowest_unfit y x)) refl (λ h. not-both (first-test.1 h) q)

  holds : Holds (cause_on y es x)
  unfolding cause_of
  holds = holds1 (no_engine r x) refl

  -- and a cause that holds is the one that is given

  no1 : Not1 r count → no_engine r x ≡ false
  no1 n = no_true (no_engine r x) (λ q. n (first-test.0 q))

  no2 : ((t : ℕ) → DoesNotFit y count t → ⊥) → ltb 0 (lowest_unfit y x) ≡ false
  no2 n =
      no_true (ltb 0 (lowest_unfit y x)) (λ q. let (t, h) = lowest-some y limits x six inside count counts (ltb-true 0 (lowest_unfit y x) q) in n t h)

  no3 : (TimeExceeds y r count → ⊥) → time_short y r x ≡ false
  no3 n = no_true (time_short y r x) (λ q. n (time-test.0 q))

  no4 : (MemoryExceeds y r count → ⊥) → memory_short y r x ≡ false
  no4 n = no_true (memory_short y r x) (λ q. n (memory-test.0 q))

  no5 : (CountExceeds y r count → ⊥) → replicas_short r y.types x ≡ false
  no5 n = no_true (replicas_short r y.types x) (λ q. n (replicas-test.0 q))

  is-1 : NoneInService r count → cause_on y es x ≡ NoEngine
  unfolding cause_of
  is-1 h = rw (first-test.1 h)

  is-2 : (t : ℕ) → Names t → cause_on y es x ≡ OneTooLarge t
  unfolding cause_of
  is-2 t (n, h, least) =
      let (under, l) = lowest-of t h in
      let same : lowest_unfit y x ≡ t = reached (ltb (lowest_unfit y x) t) refl l under in
      rw (no1 n, same, lt-ltb 0 t h.is_type.0)
    where
      reached : (b : Bool) → ltb (lowest_unfit y x) t ≡ b → LowestIs y limits x six inside count counts (lowest_unfit y x) → lowest_unfit y x ≤ t → lowest_unfit y x ≡ t
      reached true q l under = absurd (least (lowest_unfit y x) (ltb-true (lowest_unfit y x) t q) l.unfit)
      reached false q l under = omega (arith, ltb-false (lowest_unfit y x) t q)

  is-3 : Not2 y r count → TimeExceeds y r count → cause_on y es x ≡ TooMuchTime
  unfolding cause_of
  is-3 n h = rw (no1 n.0, no2 n.1, time-test.1 h)

  is-4 : Not3 y r count → MemoryExceeds y r count → cause_on y es x ≡ TooMuchMemory
  unfolding cause_of
  is-4 ((n1, n2), n3) h = rw (no1 n1, no2 n2, no3 n3, memory-test.1 h)

  is-5 : Not4 y r count → CountExceeds y r count → cause_on y es x ≡ TooManyReplicas
  unfolding cause_of
  is-5 (((n1, n2), n3), n4) h = rw (no1 n1, no2 n2, no3 n3, no4 n4, replicas-test.1 h)

  is-6 : Not5 y r count → Impossible y E count → cause_on y es x ≡ NoArrangement
  unfolding cause_of
  is-6 ((((n1, n2), n3), n4), n5) h =
      rw (no1 n1, no2 n2, no3 n3, no4 n4, no5 n5, no_true can (λ q. let (χ, p) = exists_iff.0 q in h χ p))

  is-0 : Exists → cause_on y es x ≡ Possible
  unfolding cause_of
  is-0 (χ, p) =
      rw (
        no1 (λ h. implied.one h χ p),
        no2 (λ t h. implied.two t h χ p),
        no3 (λ h. implied.three h χ p),
        no4 (λ h. implied.four h χ p),
        no5 (λ h. implied.five h χ p),
        exists_iff.1 (χ, p),
      )

  told-as : (d : Cause) → told (cause_on y es x) ≡ told d → Holds d
  told-as d e = subst Holds (same-cause (cause_on y es x) d e) holds

  pub cause-means : CauseMeans y E (length es) count (told (cause_on y es x))
  unfolding Holds
  cause-means = record {
    engines = numbered;
    given = (cause_on y es x, refl);
    zero = (told-as Possible, λ h. ap told (is-0 h));
    one = (told-as NoEngine, λ h. ap told (is-1 h));
    two = λ t. (told-as (OneTooLarge t), λ h. ap told (is-2 t h));
    too_large = λ t e. let h = (told-as (OneTooLarge t) e).1 in too_large_lem y limits x six inside count counts t h.is_type.0 (omega (arith, h.is_type.1, limits.typecount)) h;
    three = (told-as TooMuchTime, λ (n, h). ap told (is-3 n h));
    four = (told-as TooMuchMemory, λ (n, h). ap told (is-4 n h));
    five = (told-as TooManyReplicas, λ (n, h). ap told (is-5 n h));
    six = (told-as NoArrangement, λ (n, h). ap told (is-6 n h));
  }
