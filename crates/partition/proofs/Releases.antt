-- Request 2026-09, for every system that a file gives and its engines in service: the lowest yes row is the fewest engines, and two releases together need at most the sum and at least the larger.
use Prim.Native.Nat.{ℕ, zero, suc, ◌+◌, ◌-◌, ◌≤◌, ◌<◌}
use mathlib.Core.Path.{◌≡◌, refl, sym, subst, ◌∙◌}
use mathlib.Core.List.{List, [], ◌∷◌}
use mathlib.Core.Bool.{Bool, true, false, cond}
use mathlib.Core.Logic.{◌↔◌}
use native.Mathlib.Nat.{le_antisymm, suc_inj}
use native.Mathlib.Omega.{arith}
use borrow.Author.Tests.{leb-true, leb-false, le-leb}
use lib.ListN.{length, get_or}
use lib.Dec.{leb}
use Rattle.system.specs.declared.System.{System}
use Rattle.system.specs.Values.{ceilings_of}
use Rattle.system.specs.Limits.{columns_of}
use Rattle.system.specs.Layout.{read_file, opened}
use Rattle.system.proofs.Laws.{Limits, read-limits}
use Rattle.loads.specs.Load.{fits_engine, within, plus}
use Rattle.loads.specs.Column.{column_of, load_of}
use Rattle.loads.proofs.Order.{and_both, Below, below-plus, plus_comm, length-plus}
use Rattle.loads.proofs.Laws.{fits-within}
use Rattle.loads.proofs.Change.{get_or-plus}
use Rattle.partition.specs.Assignment.{Assignment, among, every, engines_to}
use Rattle.partition.specs.ForSystem.{row_for, placeable}
use Rattle.partition.specs.Plain.{Partition, Impossible, used_to}
use Rattle.partition.specs.Releases.{larger, Bounds, Serving, On, instances_in, Within, AddsWithin, Fewest, RowIsFewest, TwoReleases}
use Rattle.partition.proofs.Lists.{tested-among, among-engines_to}
use Rattle.partition.proofs.ForSystem.{length-ceilings, ground, column-small, column-load, feasible-iff-placeable, fewest-for, recovered-on-fewest}
use Rattle.partition.proofs.Plain.{ceiling-out, lists-same, partition-assigns, partition-good, feasible-out, used-out, fewest-out}
use Rattle.partition.proofs.Together.{rows-add, rows-part}

-- intermediate: lists by their entries counted from 1

pub back : (i : ℕ) → suc i - 1 ≡ i
back i = omega arith

within_of : (x z : List ℕ) → length x ≡ length z → ((t : ℕ) → 1 ≤ t → instances_in x t ≤ instances_in z t) → within x z ≡ true
unfolding within
within_of [] z l h = refl
within_of (x ∷ xs) [] l h = absurd (omega arith)
within_of (x ∷ xs) (z ∷ zs) l h = and_both (leb x z) (within xs zs) (le-leb x z (h 1 (omega arith))) (within_of xs zs (suc_inj l) (λ t low. later t low (h (suc t) (omega arith))))
  where
    later : (t : ℕ) → 1 ≤ t → get_or (x ∷ xs) (suc t - 1) 0 ≤ get_or (z ∷ zs) (suc t - 1) 0 → get_or xs (t - 1) 0 ≤ get_or zs (t - 1) 0
    later zero low k = absurd (omega arith)
    later (suc t) low k = subst (λ (i : ℕ). get_or xs i 0 ≤ get_or zs i 0) (sym (back t)) (subst (λ (i : ℕ). get_or (x ∷ xs) i 0 ≤ get_or (z ∷ zs) i 0) (back (suc t)) k)

sum_of : (a b both : List ℕ) → length a ≡ 6 → length b ≡ 6 → length both ≡ 6 → ((t : ℕ) → 1 ≤ t → instances_in both t ≡ instances_in a t + instances_in b t) → plus a b ≡ both
sum_of a b both la lb l h =
    lists-same (plus a b) both (length-plus a b (la ∙ sym lb) ∙ la ∙ sym l)
    (λ i. get_or-plus a b i (la ∙ sym lb) ∙ sym (subst (λ (j : ℕ). get_or both j 0 ≡ get_or a j 0 + get_or b j 0) (back i) (h (suc i) (omega arith))))

-- intermediate: a system within the limits, and its engines in service

module _ (y : System) (limits : Limits y) where
  pub within-ceilings : (x : List ℕ) → Within y x → within x (ceilings_of y) ≡ true
  within-ceilings x w = within_of x (ceilings_of y) (w.six ∙ sym (length-ceilings y limits)) (λ t low. omega (arith, w.ceilings t low, ceiling-out y t))

  module _ (es : List ℕ) (s : Serving y es) where
    known : every (among (engines_to y.engines)) es ≡ true
    known = tested-among (among (engines_to y.engines)) es (λ e h. (among-engines_to y.engines e).1 (s.engines e h))

    -- main: the lowest yes row is the fewest engines

    module _ (x : List ℕ) (w : Within y x) where
      placed : row_for y es x ≤ length es → placeable y es x ≡ true
      placed h = le-leb (row_for y es x) (length es) h

      pub row-fewest : row_for y es x ≤ length es → Fewest y (On es) (instances_in x) (row_for y es x)
      row-fewest h =
          let f = fewest-out y limits.rule es s.once known (On es) (λ e. ((λ k. k), (λ k. k))) x w.six (instances_in x) (λ t low. refl) _ (row_for y es x) (recovered-on-fewest y limits es s.once x w.six (within-ceilings x w) (placed h) y.engines) in
          record { mapping = f.stands.mapping; partition = f.stands.partition; uses = f.uses; least = f.fewest }

      -- every partition uses at least as many engines, so that the row is not past them
      row-least : (χ : Assignment) → Partition y (On es) (instances_in x) χ → row_for y es x ≤ used_to y.engines χ
      row-least χ p =
          let assigns = partition-assigns y limits.rule es s.once known (On es) (λ e. ((λ k. k), (λ k. k))) x w.six (instances_in x) (λ t low. refl) χ p in
          let is_good = partition-good y limits.rule es s.once known (On es) (λ e. ((λ k. k), (λ k. k))) x w.six (instances_in x) (λ t low. refl) χ p in
          rw (used-out y limits.rule es s.once known (On es) (λ e. ((λ k. k), (λ k. k))) x w.six (instances_in x) (λ t low. refl) χ is_good)
          (fewest-for y limits es s.once x w.six (within-ceilings x w) χ assigns is_good)

      pub feasible-row : (χ : Assignment) → Partition y (On es) (instances_in x) χ → row_for y es x ≤ length es
      feasible-row χ p =
          let f = (feasible-out y limits.rule es s.once known (On es) (λ e. ((λ k. k), (λ k. k))) x w.six (instances_in x) (λ t low. refl)).1 (χ, p) in
          leb-true (row_for y es x) (length es) ((feasible-iff-placeable y limits es s.once x w.six (within-ceilings x w)).0 f)

      pub row-only : (r : ℕ) → Fewest y (On es) (instances_in x) r → row_for y es x ≡ r
      row-only r f =
          let own = row-fewest (feasible-row f.mapping f.partition) in
          le_antisymm (rw f.uses at (row-least f.mapping f.partition)) (rw own.uses at (f.least own.mapping own.partition))

      row-none : (length es < row_for y es x) ↔ Impossible y (On es) (instances_in x)
      row-none = ((λ h χ p. omega (arith, feasible-row χ p)), (λ never. past never (leb (row_for y es x) (length es)) refl))
        where
          past : Impossible y (On es) (instances_in x) → (b : Bool) → leb (row_for y es x) (length es) ≡ b → length es < row_for y es x
          past never true e = let f = row-fewest (leb-true (row_for y es x) (length es) e) in absurd (never f.mapping f.partition)
          past never false e = leb-false (row_for y es x) (length es) e

    pub row_within : RowIsFewest y es
    row_within = record { fewest = row-fewest; only = λ x r w. row-only x w r; none = row-none }

    -- main: two releases

    larger-le : (a b c : ℕ) → a ≤ c → b ≤ c → larger a b ≤ c
    larger-le a b c h k = go (leb a b)
      where
        go : (t : Bool) → cond t b a ≤ c
        go true = k
        go false = h

    module _ (a b both : List ℕ) (w : AddsWithin y a b both) where
      whole : plus a b ≡ both
      whole = sum_of a b both w.six.0 w.six.1 w.inside.six w.sums

      inside_a : Within y a
      inside_a = record { six = w.six.0; ceilings = λ t low. omega (arith, w.sums t low, w.inside.ceilings t low) }

      inside_b : Within y b
      inside_b = record { six = w.six.1; ceilings = λ t low. omega (arith, w.sums t low, w.inside.ceilings t low) }

      -- the load of the column that stands for a load is that load
      loads : (x : List ℕ) → Within y x → load_of (ceilings_of y) (column_of (ceilings_of y) x) ≡ x
      loads x v = column-load y limits es s.once x v.six (within-ceilings x v)

      small : (x : List ℕ) → Within y x → column_of (ceilings_of y) x < columns_of (ceilings_of y)
      small x v = column-small y limits es s.once x v.six (within-ceilings x v)

      part : (x : List ℕ) → Within y x → Below x both → row_for y es x ≤ row_for y es both
      part x v below =
          rows-part (fits_engine y) (ceilings_of y) (ground y limits).room (length es) (column_of (ceilings_of y) x) (column_of (ceilings_of y) both) (small x v) (small both w.inside)
          (rw (loads x v, loads both w.inside) below)
          (fits-within y)

      rows-bounds : row_for y es a + row_for y es b ≤ length es → Bounds (row_for y es a) (row_for y es b) (row_for y es both)
      rows-bounds h = record {
        at_most =
            rows-add (fits_engine y) (ceilings_of y) (ground y limits).room (length es) (column_of (ceilings_of y) a) (column_of (ceilings_of y) b) (column_of (ceilings_of y) both)
            (small a inside_a) (small b inside_b) (small both w.inside) (rw (loads a inside_a, loads b inside_b, loads both w.inside) whole) h;
        at_least =
            larger-le (row_for y es a) (row_for y es b) (row_for y es both)
            (part a inside_a (subst (Below a) whole (below-plus a b (w.six.0 ∙ sym w.six.1))))
            (part b inside_b (subst (Below b) (plus_comm b a ∙ whole) (below-plus b a (w.six.1 ∙ sym w.six.0))));
      }

      plain-bounds : (first second : ℕ) → Fewest y (On es) (instances_in a) first → Fewest y (On es) (instances_in b) second → first + second ≤ length es
          → (together : ℕ) × Fewest y (On es) (instances_in both) together × Bounds first second together
      plain-bounds first second f g h =
          let is_a = row-only a inside_a first f in
          let is_b = row-only b inside_b second g in
          let bounds = rows-bounds (rw (is_a, is_b) h) in
          (row_for y es both, row-fewest both w.inside (omega (arith, bounds.at_most, is_a, is_b)), rw (is_a, is_b) at bounds)

    pub releases-within : TwoReleases y es
    releases-within = record { rows = rows-bounds; plainly = λ a b both first second w. plain-bounds a b both w first second }

-- main: what a file gives

pub row-is-fewest : (file : List ℕ) (y : System) → read_file file ≡ opened y → (es : List ℕ) → Serving y es → RowIsFewest y es
row-is-fewest file y reads es s = row_within y (read-limits file y reads) es s

pub two-releases : (file : List ℕ) (y : System) → read_file file ≡ opened y → (es : List ℕ) → Serving y es → TwoReleases y es
two-releases file y reads es s = releases-within y (read-limits file y reads) es s
