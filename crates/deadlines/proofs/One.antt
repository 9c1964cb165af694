-- The rule makes one schedule: two that follow it have the same type in each tick, and the same instance where somebody runs. So a report is that of "the" schedule.
use Prim.Native.Nat.{ℕ, zero, suc, ◌+◌, ◌%◌, ◌≤◌, ◌<◌}
use mathlib.Core.Path.{◌≡◌, refl, sym, ap, ◌∙◌}
use mathlib.Core.List.{List}
use mathlib.Core.Bool.{Bool, true, false, ◌&&◌}
use mathlib.Core.Logic.{◌⊎◌, inl, inr}
use native.Mathlib.Nat.{div-add-mod, not-suc-le-zero}
use native.Mathlib.Omega.{arith}
use borrow.Author.Tests.{eqb-true}
use lib.Dec.{eqb}
use Rattle.system.specs.declared.Cycle.{Cycle}
use Rattle.system.specs.declared.System.{System}
use Rattle.deadlines.specs.Meaning.{Schedule, ran_for, Runs, arrival, Waits, GoesBefore, sooner, lower_type, lower_instance, TickIs, nobody, somebody}

-- of two that wait one goes before the other, and not both
not-both : {d t i d' t' i' : ℕ} → GoesBefore d t i d' t' i' → GoesBefore d' t' i' d t i → ⊥
not-both (sooner a) (sooner b) = omega arith
not-both (sooner a) (lower_type b c) = omega arith
not-both (sooner a) (lower_instance b c e) = omega arith
not-both (lower_type a b) (sooner c) = omega arith
not-both (lower_type a b) (lower_type c e) = omega arith
not-both (lower_type a b) (lower_instance c e f) = omega arith
not-both (lower_instance a b c) (sooner e) = omega arith
not-both (lower_instance a b c) (lower_type e f) = omega arith
not-both (lower_instance a b c) (lower_instance e f g) = omega arith

-- two schedules in one tick
pub record Agree (σ ρ : Schedule) (τ : ℕ) : Type 0 where
  pub kinds : σ.kind τ ≡ ρ.kind τ
  pub instances : 1 ≤ σ.kind τ → σ.instance τ ≡ ρ.instance τ

-- they give an instance the same ticks as long as they agree
module _ (σ ρ : Schedule) where
  same_test : (t i τ : ℕ) → 1 ≤ t → Agree σ ρ τ → (eqb (σ.kind τ) t && eqb (σ.instance τ) i) ≡ (eqb (ρ.kind τ) t && eqb (ρ.instance τ) i)
  same_test t i τ l a = rw (← a.kinds) (go (eqb (σ.kind τ) t) refl)
    where
      go : (b : Bool) → eqb (σ.kind τ) t ≡ b → (b && eqb (σ.instance τ) i) ≡ (b && eqb (ρ.instance τ) i)
      go false e = refl
      go true e = ap (λ (n : ℕ). eqb n i) (a.instances (omega (arith, eqb-true (σ.kind τ) t e)))

  same-ran : (t i start n : ℕ) → 1 ≤ t → ((s : ℕ) → s < start + n → Agree σ ρ s) → ran_for σ t i start n ≡ ran_for ρ t i start n
  unfolding ran_for
  same-ran t i start zero l all = refl
  same-ran t i start (suc n) l all =
      rw (same-ran t i start n l (λ s h. all s (omega arith)), same_test t i (start + n) l (all (start + n) (omega arith)))

  same-waits : (t i τ : ℕ) (c : Cycle) → 1 ≤ t → ((s : ℕ) → s < τ → Agree σ ρ s) → ran_for σ t i (arrival c τ) (τ % c.period) ≡ ran_for ρ t i (arrival c τ) (τ % c.period)
  same-waits t i τ c l all = same-ran t i (arrival c τ) (τ % c.period) l (λ s h. all s (omega (arith, div-add-mod τ c.period)))

module _ (y : System) (counts : List ℕ) (σ ρ : Schedule) (follows : (τ : ℕ) → TickIs y counts σ τ) (also : (τ : ℕ) → TickIs y counts ρ τ) where
  -- a tick, where all before it agree
  agree-next : (τ : ℕ) → ((s : ℕ) → s < τ → Agree σ ρ s) → Agree σ ρ τ
  agree-next τ all = go (follows τ) (also τ)
    where
      there : {t i : ℕ} {c : Cycle} → Runs y counts t i c → Waits σ t i c τ → Waits ρ t i c τ
      there {t} {i} {c} r w = omega (arith, same-waits σ ρ t i τ c r.is_type.0 all)

      back : {t i : ℕ} {c : Cycle} → Runs y counts t i c → Waits ρ t i c τ → Waits σ t i c τ
      back {t} {i} {c} r w = omega (arith, same-waits σ ρ t i τ c r.is_type.0 all)

      same : {t i t' i' d d' : ℕ} → ((t' ≡ t) × (i' ≡ i)) ⊎ GoesBefore d t i d' t' i' → ((t ≡ t') × (i ≡ i')) ⊎ GoesBefore d' t' i' d t i → (t ≡ t') × (i ≡ i')
      same (inl a) b = (sym a.0, sym a.1)
      same (inr a) (inl b) = b
      same (inr a) (inr b) = absurd (not-both a b)

      go : TickIs y counts σ τ → TickIs y counts ρ τ → Agree σ ρ τ
      go (nobody k none) (nobody k' none') = record { kinds = k ∙ sym k'; instances = λ l. absurd (omega arith) }
      go (nobody k none) (somebody t i c k' n r w before) = absurd (none t i c r (back r w))
      go (somebody t i c k n r w before) (nobody k' none) = absurd (none t i c r (there r w))
      go (somebody t i c k n r w first) (somebody t' i' c' k' n' r' w' second) =
          let s = same (first t' i' c' r' (back r' w')) (second t i c r (there r w)) in
          record { kinds = k ∙ s.0 ∙ sym k'; instances = λ l. n ∙ s.1 ∙ sym n' }

  agree-below : (n τ : ℕ) → τ < n → Agree σ ρ τ
  agree-below zero τ h = absurd (not-suc-le-zero h)
  agree-below (suc n) τ h = agree-next τ (λ s l. agree-below n s (omega arith))

  -- main
  pub schedules-agree : (τ : ℕ) → Agree σ ρ τ
  schedules-agree τ = agree-below (suc τ) τ (omega arith)
