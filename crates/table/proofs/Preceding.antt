-- What a scan finds is the cell: by a test that says of each column whether the row before says yes there and the rest fits, the candidates are the columns that precede. Row 1 tells whether a load fits.
use Prim.Native.Nat.{ℕ, suc, ◌+◌, ◌-◌, ◌*◌, ◌≤◌, ◌<◌}
use mathlib.Core.Path.{◌≡◌, refl, sym, ap, subst, ◌∙◌}
use mathlib.Core.List.{List}
use mathlib.Core.Bool.{Bool, true, false, not, cond, ◌&&◌, and_comm, and-true, and-false}
use mathlib.Core.Logic.{⊎_elim}
use native.Mathlib.Nat.{eq-zero-or-pos, add-mul, mul-le-mul_right}
use native.Mathlib.Omega.{arith}
use borrow.Author.Tests.{ne_eqb, eqb-true}
use lib.ListN.{length, get_or, replicate, length-map}
use lib.Dec.{eqb}
use Rattle.std.proofs.Common.{None, Some}
use Rattle.system.specs.declared.System.{System}
use Rattle.system.specs.Values.{ceilings_of}
use Rattle.system.specs.Limits.{columns_of, keeps_limits}
use Rattle.system.proofs.Laws.{limits_of}
use Rattle.loads.specs.Load.{within, less, fits_engine}
use Rattle.loads.specs.Column.{load_of}
use Rattle.loads.proofs.Order.{Below, below→within, less_zero}
use Rattle.loads.proofs.Column.{length-load_of, load_of-within, load_of-zero, column_of-load_of, load_of-difference, dominated-le}
use Rattle.partition.specs.Cell.{no_column, says_yes, lowest, precedes, cell}
use Rattle.partition.specs.ForSystem.{cell_for}
use Rattle.partition.proofs.Lists.{true-or-false}
use Rattle.partition.proofs.Cells.{cell-predecessor}
use Rattle.partition.proofs.Lowest.{lowest-here, lowest-none, lowest-same}
use Rattle.table.specs.Under.{candidate, visited_to, found_at}
use Rattle.table.proofs.Between.{lowest-cut}
use Rattle.table.proofs.Candidates.{zeros-below}
use Rattle.table.proofs.Pairs.{visited-next, visited-all, tried-accepted, tried-all}

module _ (fits : List ℕ → Bool) (ns : List ℕ) where
  -- main: row 1

  abbrev alone : ℕ → ℕ → Bool
  alone c = precedes fits ns (cell fits ns 0) c

  alone-empty : (c : ℕ) → alone c 0 ≡ fits (load_of ns c)
  unfolding precedes cell
  alone-empty c =
      let same : load_of ns 0 ≡ replicate (length (load_of ns c)) 0 = load_of-zero ns ∙ ap (λ (k : ℕ). replicate k 0) (sym (length-load_of ns c)) in
      rw (same, below→within (zeros-below (load_of ns c)), less_zero (load_of ns c)) (and-true (fits (load_of ns c)))

  alone-other : (c p : ℕ) → 0 < p → alone c p ≡ false
  unfolding precedes cell
  alone-other c p h = rw (ne_eqb p 0 (λ e. omega arith)) (and-false (within (load_of ns p) (load_of ns c) && fits (less (load_of ns c) (load_of ns p))))

  pub cell-one : (c : ℕ) → cell fits ns 1 c ≡ cond (fits (load_of ns c)) 0 no_column
  unfolding cell
  cell-one c = go (fits (load_of ns c)) refl
    where
      go : (b : Bool) → fits (load_of ns c) ≡ b → lowest (alone c) no_column (suc c) 0 ≡ cond b 0 no_column
      go true e = lowest-here (alone c) no_column c 0 (alone-empty c ∙ e)
      go false e =
          lowest-none (alone c) no_column (suc c) 0
          (λ q l u. ⊎_elim (λ (z : q ≡ 0). rw z (alone-empty c ∙ e)) (alone-other c q) (eq-zero-or-pos q))

  -- row 1 holds 0 exactly where the load fits
  one-zero : (c : ℕ) → eqb (cell fits ns 1 c) 0 ≡ fits (load_of ns c)
  one-zero c = rw (cell-one c) (go (fits (load_of ns c)))
    where
      go : (b : Bool) → eqb (cond b 0 no_column) 0 ≡ b
      go true = refl
      go false = refl

  -- main: a later row, by a test that says of each column up to c whether the row before says yes there and the rest of c's load fits

  module _ (test : ℕ → Bool) (i c : ℕ) (small : c < columns_of ns)
      (tells : (q : ℕ) → q ≤ c → test q ≡ (says_yes (cell fits ns i q) && fits (load_of ns (c - q)))) where
    candidate-precedes : (q : ℕ) → q < columns_of ns → candidate test ns (load_of ns c) q ≡ precedes fits ns (cell fits ns i) c q
    unfolding candidate precedes
    candidate-precedes q l = go (within (load_of ns q) (load_of ns c)) refl
      where
        go : (b : Bool) → within (load_of ns q) (load_of ns c) ≡ b → (b && test q) ≡ (b && fits (less (load_of ns c) (load_of ns q)) && says_yes (cell fits ns i q))
        go true w =
            rw (tells q (dominated-le ns c q small l w), load_of-difference ns c q small l w)
            (and_comm (says_yes (cell fits ns i q)) (fits (less (load_of ns c) (load_of ns q))))
        go false w = refl

    not-past : (q : ℕ) → c < q → q < columns_of ns → precedes fits ns (cell fits ns i) c q ≡ false
    unfolding precedes
    not-past q h l =
        ⊎_elim
        (λ w. absurd (omega (arith, dominated-le ns c q small l w)))
        (λ w. rw w)
        (true-or-false (within (load_of ns q) (load_of ns c)))

    pub candidates-cell : lowest (candidate test ns (load_of ns c)) no_column (columns_of ns) 0 ≡ cell fits ns (suc i) c
    unfolding cell
    candidates-cell =
        lowest-same (candidate test ns (load_of ns c)) (precedes fits ns (cell fits ns i) c) no_column (columns_of ns) 0
        (λ q l u. candidate-precedes q (omega arith))
        ∙ lowest-cut (precedes fits ns (cell fits ns i) c) no_column (suc c) (columns_of ns) small (λ q l u. not-past q l u)

-- main: what a scan that finds column 0, or nothing, has tried

-- column 0 is under every load, and is the first that is tried
pub found_first : (ns x : List ℕ) → length x ≡ length ns → record { column = Some 0; tried = 1 } ≡ found_at ns x 0
found_first ns x l =
    let under : within (load_of ns 0) x ≡ true =
    ap (λ (z : List ℕ). within z x) (load_of-zero ns ∙ ap (λ (k : ℕ). replicate k 0) (sym l)) ∙ below→within (zeros-below x) in
    let one : visited_to ns x (0 + 1) ≡ 1 = visited-next ns x 0 ∙ rw under (unfold visited_to in refl) in
    ap (λ (k : ℕ). record { column = Some 0; tried = k }) (sym one)

pub found_none : {ns x : List ℕ} → Below x ns → record { column = None; tried = columns_of x } ≡ found_at ns x no_column
found_none b = ap (λ (k : ℕ). record { column = None; tried = k }) (sym (visited-all b))
