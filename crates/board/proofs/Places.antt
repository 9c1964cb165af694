-- The engines that instances may be on, those in service, are distinct engines of the system in rising order, so that the first of them that takes a newcomer is the
-- lowest-numbered one; how many there are, and which row of a recovery each one has.
use Rattle.std.proofs.Common.{Some, None}
use Prim.Native.Nat.{ℕ, zero, suc, ◌+◌, ◌-◌, ◌≤◌}
use mathlib.Core.Path.{◌≡◌, refl, sym, ap, subst, ◌∙◌}
use mathlib.Core.List.{List, [], ◌∷◌, ◌++◌}
use mathlib.Core.Bool.{Bool, true, false, cond, not, ◌&&◌, false≢true}
use mathlib.Core.Logic.{◌↔◌, ⊎_elim}
use native.Mathlib.Nat.{le_refl}
use native.Mathlib.Omega.{arith}
use borrow.Author.Tests.{eqb-true, eq-eqb, ltb-true, lt-ltb, not-true}
use lib.ListN.{length, get_or, length-append}
use lib.Dec.{ltb, eqb}
use Rattle.loads.proofs.Order.{and_parts, and_both}
use Rattle.partition.specs.Assignment.{among, every, passing, numbers_from, engines_to}
use Rattle.partition.specs.Shares.{distinct, row_on}
use Rattle.partition.proofs.Lists.{not-both, or_cases, or-neither, among-here, among-more, among-tested, every-among, numbers_from-every, numbers_from-cut, distinct-engines_to, length-engines_to, engines_to-outside, engines_to-last, among-engines_to, among-passing, every-passing, distinct-passing, length-passing, passing-++}
use Rattle.board.specs.declared.Board.{Board}
use Rattle.board.specs.Boards.{marked, engines_of}
use Rattle.board.specs.Words.{EngineIn, serving_to, serving_all}
use Rattle.board.specs.Calls.{first_of}

-- each number is below those after it
unfoldable pub rising : List ℕ → Bool
rising [] = true
rising (e ∷ es) = every (ltb e) es && rising es

rising-from : (a n : ℕ) → rising (numbers_from a n) ≡ true
unfolding rising numbers_from
rising-from a zero = refl
rising-from a (suc n) =
    and_both (every (ltb a) (numbers_from (suc a) n)) (rising (numbers_from (suc a) n)) (numbers_from-every (ltb a) (suc a) n (λ e l u. lt-ltb a e l)) (rising-from (suc a) n)

rising-passing : (p : ℕ → Bool) (es : List ℕ) → rising es ≡ true → rising (passing p es) ≡ true
unfolding rising passing
rising-passing p [] r = refl
rising-passing p (c ∷ es) r = go (p c) (rising-passing p es above.1)
  where
    above : (every (ltb c) es ≡ true) × (rising es ≡ true)
    above = and_parts (every (ltb c) es) (rising es) r

    go : (q : Bool) → rising (passing p es) ≡ true → rising (cond q (c ∷ passing p es) (passing p es)) ≡ true
    go true rest = and_both (every (ltb c) (passing p es)) (rising (passing p es)) (every-passing (ltb c) p es above.0) rest
    go false rest = rest

-- row i is on the i-th of the engines
row-at : {A : Type 0} (none : A) (firsts : List ℕ) (e : ℕ) (rest : List ℕ) (rows : List A) → among firsts e ≡ false → row_on none (firsts ++ e ∷ rest) rows e ≡ get_or rows (length firsts) none
unfolding row_on among
row-at none [] e rest [] h = refl
row-at none [] e rest (x ∷ rows) h = rw (eq-eqb e e refl)
row-at none (d ∷ firsts) e rest [] h = refl
row-at none (d ∷ firsts) e rest (x ∷ rows) h =
    let b = or-neither (eqb d e) (among firsts e) h in
    rw b.0 (row-at none firsts e rest rows b.1)

-- main: the engines of a board

not-false : (q : Bool) → q ≡ false → not q ≡ true
not-false q h = rw h

module _ (b : Board) where
  -- engine e is in service, by its mark
  abbrev serves : ℕ → Bool
  serves e = not (marked b e)

  pub engines-distinct : distinct (engines_of b) ≡ true
  engines-distinct = distinct-passing serves (engines_to b.system.engines) (distinct-engines_to b.system.engines)

  pub engines-rising : rising (engines_of b) ≡ true
  engines-rising = rising-passing serves (engines_to b.system.engines) (rising-from 1 b.system.engines)

  pub engines-known : every (among (engines_to b.system.engines)) (engines_of b) ≡ true
  engines-known = every-passing (among (engines_to b.system.engines)) serves (engines_to b.system.engines) (every-among (engines_to b.system.engines))

  pub engines-count : length (engines_of b) ≤ b.system.engines
  engines-count = omega (arith, length-passing serves (engines_to b.system.engines), length-engines_to b.system.engines)

  -- they are those in service, in plain words
  pub engines-in : (e : ℕ) → (among (engines_of b) e ≡ true) ↔ EngineIn b e
  engines-in e = (
    (λ h.
        let p = (among-passing serves (engines_to b.system.engines) e).0 h in
        record { is_engine = (among-engines_to b.system.engines e).0 p.0; in_service = not-true (marked b e) p.1 }),
    (λ h. (among-passing serves (engines_to b.system.engines) e).1 ((among-engines_to b.system.engines e).1 h.is_engine, not-false (marked b e) h.in_service)),
  )

  -- one more engine: it is in service or not
  serving-length : (e : ℕ) → length (passing serves (engines_to e)) ≡ serving_to b e
  unfolding passing numbers_from serving_to
  serving-length zero = refl
  serving-length (suc e) =
      ap (λ (l : List ℕ). length (passing serves l)) (engines_to-last e)
      ∙ ap length (passing-++ serves (engines_to e) (suc e ∷ []))
      ∙ length-append (passing serves (engines_to e)) (passing serves (suc e ∷ []))
      ∙ ap (λ (n : ℕ). n + length (passing serves (suc e ∷ []))) (serving-length e)
      ∙ ap (λ (n : ℕ). serving_to b e + n) (go (marked b (suc e)))
    where
      go : (q : Bool) → length (cond (not q) (suc e ∷ []) []) ≡ cond q 0 1
      go true = refl
      go false = refl

  pub engines-number : length (engines_of b) ≡ serving_all b
  engines-number = serving-length b.system.engines

  -- an engine in service has the row that its place among them gives
  pub row-serving : {A : Type 0} (none : A) (rows : List A) (e : ℕ) → EngineIn b e → row_on none (engines_of b) rows e ≡ get_or rows (serving_to b e - 1) none
  unfolding numbers_from passing serving_to
  row-serving none rows zero h = absurd (omega (arith, h.is_engine.0))
  row-serving {A = A} none rows (suc i) h =
      ap (λ (es : List ℕ). row_on none es rows (suc i)) cut
      ∙ row-at none (passing serves (engines_to i)) (suc i) (passing serves (numbers_from (suc (suc i)) later)) rows before-it
      ∙ ap (λ (n : ℕ). get_or rows n none) place
    where
      later : ℕ
      later = b.system.engines - suc i

      whole : b.system.engines ≡ i + suc later
      whole = omega (arith, h.is_engine.1)

      one : 1 + i ≡ suc i
      one = omega arith

      first : passing serves (numbers_from (1 + i) (suc later)) ≡ suc i ∷ passing serves (numbers_from (suc (suc i)) later)
      first = ap (λ (n : ℕ). passing serves (numbers_from n (suc later))) one ∙ rw (not-false (marked b (suc i)) h.in_service)

      cut : engines_of b ≡ passing serves (engines_to i) ++ suc i ∷ passing serves (numbers_from (suc (suc i)) later)
      cut =
          ap (λ (m : ℕ). passing serves (engines_to m)) whole
          ∙ ap (passing serves) (numbers_from-cut 1 i (suc later))
          ∙ passing-++ serves (engines_to i) (numbers_from (1 + i) (suc later))
          ∙ ap (λ (l : List ℕ). passing serves (engines_to i) ++ l) first

      away : (q : Bool) → among (passing serves (engines_to i)) (suc i) ≡ q → among (passing serves (engines_to i)) (suc i) ≡ false
      away true q = absurd (not-both ((among-passing serves (engines_to i) (suc i)).0 q).0 (engines_to-outside i (suc i) (omega arith)))
      away false q = q

      before-it : among (passing serves (engines_to i)) (suc i) ≡ false
      before-it = away (among (passing serves (engines_to i)) (suc i)) refl

      place : length (passing serves (engines_to i)) ≡ serving_to b (suc i) - 1
      place = serving-length i ∙ rw h.in_service (omega arith)

  -- each is an engine of the system
  pub engine-of : (e : ℕ) → among (engines_of b) e ≡ true → (1 ≤ e) × (e ≤ b.system.engines)
  engine-of e h = (among-engines_to b.system.engines e).0 (among-tested (among (engines_to b.system.engines)) (engines_of b) e engines-known h)

-- main: the first that passes

-- e is the first of es that passes, and the lowest
pub record First (p : ℕ → Bool) (es : List ℕ) (e : ℕ) : Type 0 where
  pub engine : among es e ≡ true
  pub passes : p e ≡ true
  pub found : first_of p es ≡ Some e
  pub lowest : (d : ℕ) → among es d ≡ true → p d ≡ true → e ≤ d

-- none passes
pub record NoneOf (p : ℕ → Bool) (es : List ℕ) : Type 0 where
  pub found : first_of p es ≡ None
  pub nowhere : (d : ℕ) → among es d ≡ true → p d ≡ true → ⊥

pub data FirstView (p : ℕ → Bool) (es : List ℕ) : Type 0 where
  somewhere : (e : ℕ) → First p es e → FirstView p es
  nowhere : NoneOf p es → FirstView p es

pub first-view : (p : ℕ → Bool) (es : List ℕ) → rising es ≡ true → FirstView p es
unfolding first_of rising among
first-view p [] r = nowhere (record { found = refl; nowhere = λ d h k. false≢true h })
first-view p (c ∷ es) r = go (p c) refl (first-view p es above.1)
  where
    above : (every (ltb c) es ≡ true) × (rising es ≡ true)
    above = and_parts (every (ltb c) es) (rising es) r

    -- one of c and those after it is c, or is after it
    low : (d : ℕ) → among (c ∷ es) d ≡ true → c ≤ d
    low d h =
        ⊎_elim (λ q. subst (λ (z : ℕ). c ≤ z) (eqb-true c d q) (le_refl c)) (λ q. let l = ltb-true c d (among-tested (ltb c) es d above.0 q) in omega arith)
        (or_cases (eqb c d) (among es d) h)

    rest : p c ≡ false → (d : ℕ) → among (c ∷ es) d ≡ true → p d ≡ true → among es d ≡ true
    rest q d h k =
        ⊎_elim (λ s. absurd (not-both k (subst (λ (z : ℕ). p z ≡ false) (eqb-true c d s) q))) (λ s. s) (or_cases (eqb c d) (among es d) h)

    go : (q : Bool) → p c ≡ q → FirstView p es → FirstView p (c ∷ es)
    go true q v = somewhere c (record { engine = among-here c es; passes = q; found = rw q; lowest = λ d h k. low d h })
    go false q (somewhere e f) =
        somewhere e
        (record { engine = among-more c e es f.engine; passes = f.passes; found = rw q f.found; lowest = λ d h k. f.lowest d (rest q d h k) k })
    go false q (nowhere f) = nowhere (record { found = rw q f.found; nowhere = λ d h k. f.nowhere d (rest q d h k) k })
