-- Numbers of any size and the recipe that the code has of them: it is refused as they would be, and where it is not, it has just these numbers.
use Prim.Native.Nat.{ℕ, ◌+◌, ◌*◌, ◌^◌, ◌≤◌, ◌<◌, min}
use mathlib.Core.Path.{◌≡◌, refl, sym, ap, subst, ◌∙◌}
use mathlib.Core.Bool.{Bool, true, false, cond}
use native.Mathlib.Nat.{min-eq_left, pow-zero, pow-suc, one-mul, pow-le-pow_left, pow-le-pow_right}
use native.Mathlib.Omega.{arith}
use borrow.Author.Tests.{ltb-false, le-ltb}
use lib.Dec.{ltb}
use Rattle.making.specs.declared.Recipe.{Recipe}
use Rattle.making.specs.Meaning.{NumbersWithin}
use Rattle.recipes.specs.Digits.{greatest}
use Rattle.recipes.specs.Output.{recipe_of}
use Rattle.recipes.proofs.Bytes.{cut, kept}
use Rattle.recipes.proofs.Spelled.{kept_numbers}

-- the code's recipe of these numbers
abbrev pub cut_recipe : Recipe → Recipe
cut_recipe w = recipe_of (kept_numbers w)

-- intermediate: one number

-- a number that is below where it would be cut was not cut
uncut : (n most : ℕ) → min n most < most → min n most ≡ n
uncut n most h = min-eq_left (omega arith)

uncut-twice : (n most : ℕ) → most < greatest → min (cut n) most < most → min (cut n) most ≡ n
uncut-twice n most less h =
    let outer : min (cut n) most ≡ cut n = uncut (cut n) most h in
    outer ∙ uncut n greatest (omega arith)

seed-kept : (n : ℕ) → n < 2 ^ 64 → kept 0 n ≡ n
seed-kept n h = let same : min n greatest ≡ n = min-eq_left (omega arith) in rw (le-ltb greatest n (omega arith), same)

seed-left : (n : ℕ) → 1 ≤ kept 0 n → n < 2 ^ 64
seed-left n some = go (ltb greatest n) refl some
  where
    go : (b : Bool) → ltb greatest n ≡ b → 1 ≤ cond b 0 (cut n) → n < 2 ^ 64
    go true e h = absurd (omega arith)
    go false e h = omega (arith, ltb-false greatest n e)

module _ (w : Recipe) where
  -- intermediate: every number but g is the same where the code's recipe is within the limits

  module _ (i : NumbersWithin (cut_recipe w)) where
    same-seed : (cut_recipe w).seed ≡ w.seed
    same-seed = seed-kept w.seed (seed-left w.seed i.seed)

    same-engines : (cut_recipe w).engines ≡ w.engines
    same-engines = uncut w.engines greatest (omega (arith, i.engines.1))

    same-rule : (cut_recipe w).rule ≡ w.rule
    same-rule = uncut-twice w.rule 255 (omega arith) (omega (arith, i.rule))

    same-timecap : (cut_recipe w).timecap ≡ w.timecap
    same-timecap = uncut-twice w.timecap 4294967295 (omega arith) (omega (arith, i.timecap.1))

    same-memorycap : (cut_recipe w).memorycap ≡ w.memorycap
    same-memorycap = uncut-twice w.memorycap 4294967295 (omega arith) (omega (arith, i.memorycap.1))

    pub same-typecount : (cut_recipe w).typecount ≡ w.typecount
    same-typecount = uncut w.typecount greatest (omega (arith, i.typecount.1))

    pub cut-within : (NumbersWithin w) × (w.seed < 2 ^ 64)
    cut-within = (
      record {
        seed = subst (λ (n : ℕ). 1 ≤ n) same-seed i.seed;
        engines = subst (λ (n : ℕ). (1 ≤ n) × (n ≤ 16)) same-engines i.engines;
        rule = subst (λ (n : ℕ). n ≤ 1) same-rule i.rule;
        timecap = subst (λ (n : ℕ). (1 ≤ n) × (n ≤ 1000000)) same-timecap i.timecap;
        memorycap = subst (λ (n : ℕ). (1 ≤ n) × (n ≤ 1000000)) same-memorycap i.memorycap;
        typecount = subst (λ (n : ℕ). (1 ≤ n) × (n ≤ 6)) same-typecount i.typecount;
      },
      seed-left w.seed i.seed,
    )

    pub cut-same : (cut_recipe w).top ≡ w.top → cut_recipe w ≡ w
    cut-same same-top = λ i. record {
      seed = same-seed i;
      engines = same-engines i;
      rule = same-rule i;
      timecap = same-timecap i;
      memorycap = same-memorycap i;
      typecount = same-typecount i;
      top = same-top i;
    }

  -- main: the code's recipe is within the limits exactly where the numbers are

  pub within-cut : NumbersWithin w → w.seed < 2 ^ 64 → NumbersWithin (cut_recipe w)
  within-cut i short =
      let engines : min w.engines greatest ≡ w.engines = min-eq_left (omega (arith, i.engines.1)) in
      let rule : min w.rule greatest ≡ w.rule = min-eq_left (omega (arith, i.rule)) in
      let rule8 : min w.rule 255 ≡ w.rule = min-eq_left (omega (arith, i.rule)) in
      let time : min w.timecap greatest ≡ w.timecap = min-eq_left (omega (arith, i.timecap.1)) in
      let time32 : min w.timecap 4294967295 ≡ w.timecap = min-eq_left (omega (arith, i.timecap.1)) in
      let memory : min w.memorycap greatest ≡ w.memorycap = min-eq_left (omega (arith, i.memorycap.1)) in
      let memory32 : min w.memorycap 4294967295 ≡ w.memorycap = min-eq_left (omega (arith, i.memorycap.1)) in
      let types : min w.typecount greatest ≡ w.typecount = min-eq_left (omega (arith, i.typecount.1)) in
      record {
        seed = subst (λ (n : ℕ). 1 ≤ n) (sym (seed-kept w.seed short)) i.seed;
        engines = rw engines i.engines;
        rule = rw (rule, rule8) i.rule;
        timecap = rw (time, time32) i.timecap;
        memorycap = rw (memory, memory32) i.memorycap;
        typecount = rw types i.typecount;
      }

-- main: and so is the power of g + 1

power-one : (b : ℕ) → b ^ 1 ≡ b
power-one b = pow-suc b 0 ∙ ap (λ (n : ℕ). n * b) (pow-zero b) ∙ one-mul b

-- a power is at least its base
at_least : (g k : ℕ) → 1 ≤ k → g + 1 ≤ (g + 1) ^ k
at_least g k some = let up : (g + 1) ^ 1 ≤ (g + 1) ^ k = pow-le-pow_right {n = g + 1} (omega arith) {i = 1} {j = k} some in omega (arith, up, power-one (g + 1))

-- g is no more than the power, so that a g which is cut has a power that is over, before and after
pub top-same : (g k : ℕ) → 1 ≤ k → (cut g + 1) ^ k ≤ 4096 → cut g ≡ g
top-same g k some power = uncut g greatest (omega (arith, at_least (cut g) k some))

pub power-over : (g k : ℕ) → 4096 < (cut g + 1) ^ k → 4096 < (g + 1) ^ k
power-over g k over = let up : (cut g + 1) ^ k ≤ (g + 1) ^ k = pow-le-pow_left {n = cut g + 1} {m = g + 1} (omega arith) k in omega (arith, up, over)
