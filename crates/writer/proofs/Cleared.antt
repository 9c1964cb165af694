-- What stands in a cleared system: the types up to k as they were, 0 past them. So a system that has 0 there already is its own cleared one: their types agree entry by entry.
-- Whether all of a second kind is given or nothing asks the first k types alone, so that a cleared system says the same of it.
use Prim.Native.Nat.{ℕ, zero, suc, ◌+◌, ◌-◌, ◌≤◌, ◌<◌}
use mathlib.Core.Path.{◌≡◌, refl, sym, ap, ◌∙◌}
use mathlib.Core.List.{List, [], ◌∷◌, ◌++◌}
use mathlib.Core.Bool.{Bool, true, false, cond, not, ◌&&◌}
use native.Mathlib.Omega.{arith}
use borrow.Author.Tests.{ltb-true, ltb-false}
use lib.ListN.{length, get_or, take, replicate, length-append, length-replicate, get_or-append}
use lib.Seq.{length-take-le, get_or-take, get_or-append-add, ext_get_or}
use lib.Dec.{ltb}
use Rattle.system.specs.declared.TaskType.{TaskType}
use Rattle.system.specs.declared.System.{System}
use Rattle.system.specs.Limits.{type_limit, given, is_one_kind, kinds_agree, kinds_fault}
use Rattle.system.specs.Values.{no_task, cleared_types, cleared}
use Rattle.system.proofs.Laws.{get_or-blank}
use Rattle.writer.specs.Meaning.{SameToK}

-- intermediate: the types

module _ (k : ℕ) (ts : List TaskType) (six : length ts ≡ type_limit) (few : k ≤ type_limit) where
  first-k : length (take k ts) ≡ k
  first-k = length-take-le k ts (omega arith)

  cleared-six : length (cleared_types k ts) ≡ type_limit
  cleared-six = omega (arith, length-append (take k ts) (replicate (type_limit - k) no_task), length-replicate (type_limit - k) no_task, first-k)

  cleared-below : (i : ℕ) → i < k → get_or (cleared_types k ts) i no_task ≡ get_or ts i no_task
  cleared-below i h = get_or-append (take k ts) (replicate (type_limit - k) no_task) no_task i (omega (arith, first-k)) ∙ get_or-take k ts i no_task h

  cleared-past : (i : ℕ) → k ≤ i → get_or (cleared_types k ts) i no_task ≡ no_task
  cleared-past i h =
      let place : i ≡ length (take k ts) + (i - k) = omega (arith, first-k) in
      ap (λ (j : ℕ). get_or (cleared_types k ts) j no_task) place
      ∙ get_or-append-add (take k ts) (replicate (type_limit - k) no_task) (i - k) no_task
      ∙ get_or-blank (type_limit - k) (i - k)

  cleared-types : ((i : ℕ) → k ≤ i → get_or ts i no_task ≡ no_task) → cleared_types k ts ≡ ts
  cleared-types past = ext_get_or no_task (cleared_types k ts) ts (cleared-six ∙ sym six) (λ i h. at i (ltb i k) refl)
    where
      at : (i : ℕ) (b : Bool) → ltb i k ≡ b → get_or (cleared_types k ts) i no_task ≡ get_or ts i no_task
      at i true q = cleared-below i (ltb-true i k q)
      at i false q = let h = ltb-false i k q in cleared-past i h ∙ sym (past i h)

-- 41 of a cleared system

no-types-agree : (one : Bool) (ts : List TaskType) → kinds_agree one zero ts ≡ true
unfolding kinds_agree
no-types-agree one [] = refl
no-types-agree one (t ∷ ts) = refl

agree-cleared : (one : Bool) (k n : ℕ) (ts : List TaskType) → k ≤ length ts → kinds_agree one k (take k ts ++ replicate n no_task) ≡ kinds_agree one k ts
unfolding kinds_agree
agree-cleared one zero n ts h = no-types-agree one (replicate n no_task) ∙ sym (no-types-agree one ts)
agree-cleared one (suc k) n [] h = absurd (omega arith)
agree-cleared one (suc k) n (t ∷ ts) h = ap (λ (b : Bool). cond one (not (given t.there)) (given t.there) && b) (agree-cleared one k n ts (omega arith))

-- main

pub kinds-cleared : (y : System) → y.typecount ≤ length y.types → kinds_fault (cleared y) ≡ kinds_fault y
kinds-cleared y h = rw (agree-cleared (is_one_kind y.second) y.typecount (type_limit - y.typecount) y.types h)

-- the cleared system is the system, but 0 past k
pub same-to-k : (y : System) → length y.types ≡ 6 → y.typecount ≤ 6 → SameToK y (cleared y)
same-to-k y six few = record {
  engines = refl;
  rule = refl;
  timecap = refl;
  memorycap = refl;
  typecount = refl;
  six = cleared-six y.typecount y.types six few;
  types = λ t low high. cleared-below y.typecount y.types six few (t - 1) (omega arith);
  past = λ t h. cleared-past y.typecount y.types six few (t - 1) (omega arith);
  second = refl;
}

-- and the system itself where that stood there
pub cleared-same : (y : System) → length y.types ≡ 6 → y.typecount ≤ 6 → ((i : ℕ) → y.typecount ≤ i → get_or y.types i no_task ≡ no_task) → cleared y ≡ y
cleared-same y six few past =
    let same = cleared-types y.typecount y.types six few past in
    λ i. record { engines = y.engines; rule = y.rule; timecap = y.timecap; memorycap = y.memorycap; typecount = y.typecount; types = same i; second = y.second }
