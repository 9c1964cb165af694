-- What a search over the types finds, in the words of the definitions; and one law for each way out of `cause_of`.
use Rattle.std.proofs.Common.{Option, Some, None, MatchOption}
use Rattle.std.specs.List.{list_any, zip, find, range_with_len}
use Rattle.std.specs.Option.{option_map}
use Prim.Native.Nat.{ℕ, zero, suc, ◌<◌}
use mathlib.Core.Path.{◌≡◌, refl, sym, ap, subst, ◌∙◌}
use mathlib.Core.List.{List, [], ◌∷◌}
use mathlib.Core.Bool.{Bool, true, false, ◌||◌}
use native.Mathlib.Numerals.{add-one}
use native.Mathlib.Omega.{arith}
use borrow.Author.Tests.{lt-ltb}
use Rattle.system.specs.declared.TaskType.{TaskType}
use Rattle.system.specs.declared.System.{System}
use Rattle.partition.specs.Cell.{lowest}
use Rattle.causes.specs.declared.Cause.TheVariants.{Possible, NoEngine, OneTooLarge, TooMuchTime, TooMuchMemory, TooManyReplicas, NoArrangement}
use Rattle.causes.specs.Causes.{no_engine, lowest_unfit, time_short, memory_short, over_most, replicas_short, cause_of}

-- main: the lowest type that does not fit, as a search over the types finds it

-- what the search finds is the lowest, and nothing where that is 0
abbrev IsLowest : (ℕ → Bool) → ℕ → ℕ → Option ℕ → Type 0
IsLowest p n a r = MatchOption r (lowest p 0 n a ≡ 0) (λ t. (0 < t) × (t ≡ lowest p 0 n a))

look : (p : ℕ → Bool) (n a : ℕ) → 0 < a → IsLowest p n a (find p (range_with_len a n))
unfolding lowest
look p zero a h = refl
look p (suc n) a h = go (p a) refl (look p n (suc a) (omega arith))
  where
    go : (q : Bool) → p a ≡ q → IsLowest p n (suc a) (find p (range_with_len (suc a) n)) → IsLowest p (suc n) a (find p (range_with_len a (suc n)))
    go true is later = rw is (h, refl)
    go false is later = rw (is, add-one a) later

same : (o : Option ℕ) → o ≡ option_map (λ (x : ℕ). x) o
same None = refl
same (Some x) = refl

pub found-lowest : (p : ℕ → Bool) (n a : ℕ) (r : Option ℕ) → 0 < a → option_map (λ (x : ℕ). x) r ≡ find p (range_with_len a n) → IsLowest p n a r
found-lowest p n a r h e = subst (IsLowest p n a) (sym (same r ∙ e)) (look p n a h)

-- main: whether a count exceeds q × engines

pub short-zip : (r : ℕ) (ts : List TaskType) (xs : List ℕ) → list_any (λ (p : TaskType × ℕ). over_most r p.0.most p.1) (zip ts xs) ≡ replicas_short r ts xs
unfolding replicas_short
short-zip r [] xs = refl
short-zip r (t ∷ ts) [] = refl
short-zip r (t ∷ ts) (x ∷ xs) = ap (λ (b : Bool). over_most r t.most x || b) (short-zip r ts xs)

-- main: the ways out of `cause_of`, each with the tests before it failed

module _ (y : System) (engines : ℕ) (x : List ℕ) (placed : Bool) where
  pub out-1 : no_engine engines x ≡ true → NoEngine ≡ cause_of y engines x placed
  unfolding cause_of
  out-1 h = rw h

  module _ (no1 : no_engine engines x ≡ false) where
    pub out-2 : (t : ℕ) → 0 < t → t ≡ lowest_unfit y x → OneTooLarge t ≡ cause_of y engines x placed
    unfolding cause_of
    out-2 t h e = rw (no1, ← e, lt-ltb 0 t h)

    module _ (no2 : lowest_unfit y x ≡ 0) where
      pub out-3 : time_short y engines x ≡ true → TooMuchTime ≡ cause_of y engines x placed
      unfolding cause_of
      out-3 h = rw (no1, no2, h)

      module _ (no3 : time_short y engines x ≡ false) where
        pub out-4 : memory_short y engines x ≡ true → TooMuchMemory ≡ cause_of y engines x placed
        unfolding cause_of
        out-4 h = rw (no1, no2, no3, h)

        module _ (no4 : memory_short y engines x ≡ false) where
          pub out-5 : replicas_short engines y.types x ≡ true → TooManyReplicas ≡ cause_of y engines x placed
          unfolding cause_of
          out-5 h = rw (no1, no2, no3, no4, h)

          module _ (no5 : replicas_short engines y.types x ≡ false) where
            pub out-0 : placed ≡ true → Possible ≡ cause_of y engines x placed
            unfolding cause_of
            out-0 h = rw (no1, no2, no3, no4, no5, h)

            pub out-6 : placed ≡ false → NoArrangement ≡ cause_of y engines x placed
            unfolding cause_of
            out-6 h = rw (no1, no2, no3, no4, no5, h)
