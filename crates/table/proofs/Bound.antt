-- The bound of request 2026-05: the product of (n + 1)(n + 2)/2 is what the columns under every column are together; and where no type fits an empty engine, column 0 alone has a yes.
use Prim.Native.Nat.{ℕ, zero, suc, ◌+◌, ◌-◌, ◌*◌, ◌≤◌, ◌<◌}
use mathlib.Core.Path.{◌≡◌, refl, sym, ap, subst, ◌∙◌}
use mathlib.Core.List.{List, [], ◌∷◌, map}
use mathlib.Core.Bool.{true, not}
use mathlib.Core.Logic.{◌⊎◌, ⊎_elim}
use native.Mathlib.Numerals.{add-one}
use native.Mathlib.Nat.{mul-one, mul_comm, mul-add, suc-mul, eq-zero-or-pos, div-eq_of_eq-mul_left}
use native.Mathlib.Omega.{arith}
use borrow.Author.Tests.{eq-eqb, ne_eqb}
use lib.ListN.{length, get_or}
use lib.Dec.{eqb}
use Rattle.system.specs.declared.TaskType.{TaskType}
use Rattle.system.specs.declared.System.{System}
use Rattle.system.specs.Values.{no_task, ceilings_of}
use Rattle.system.specs.Limits.{type_limit, columns_of, columns}
use Rattle.system.proofs.Laws.{Limits}
use Rattle.loads.specs.Load.{fits_engine, holds_none, within}
use Rattle.loads.specs.Column.{load_of}
use Rattle.loads.proofs.Order.{and_both}
use Rattle.loads.proofs.Laws.{fits-held-time, fits-held-memory}
use Rattle.loads.proofs.Change.{within-get_or}
use Rattle.loads.proofs.Column.{load_of-digit, load_of-within, holds_none-load_of, dominated-le, load_of-difference}
use Rattle.partition.specs.Cell.{no_column, says_yes}
use Rattle.partition.specs.ForSystem.{cell_for}
use Rattle.partition.specs.Plain.{ceiling_no}
use Rattle.partition.proofs.Cells.{cell-predecessor, cell-zero-yes}
use Rattle.partition.proofs.Plain.{ceiling-out}
use Rattle.table.specs.Meaning.{sum_below, triangle, bound_out, NoneFits}
use Rattle.table.proofs.Sums.{sum_same, sum-times, sum-blocks}

-- intermediate: 1 + 2 + .. + (n + 1)

sum_twice : (n : ℕ) → sum_below n (λ (j : ℕ). j + 1) * 2 ≡ n * (n + 1)
unfolding sum_below
sum_twice zero = omega arith
sum_twice (suc n) =
    let up : suc n + 1 ≡ (n + 1) + 1 = omega arith in
    omega (arith, sum_twice n, suc-mul n (suc n + 1), ap (λ (k : ℕ). n * k) up, mul-add n (n + 1) 1, mul-one n)

sum-triangle : (n : ℕ) → sum_below (n + 1) (λ (j : ℕ). j + 1) ≡ triangle n
sum-triangle n =
    let up : n + 1 + 1 ≡ n + 2 = omega arith in
    sym (div-eq_of_eq-mul_left {n = 2} {m = (n + 1) * (n + 2)} {k = sum_below (n + 1) (λ (j : ℕ). j + 1)} (omega arith)
    (sym (sum_twice (n + 1) ∙ ap (λ (k : ℕ). (n + 1) * k) up)))

-- main: the columns under every column, together

unfoldable pub bound_of : List ℕ → ℕ
bound_of [] = 1
bound_of (n ∷ ns) = triangle n * bound_of ns

pub triangles : (ns : List ℕ) → sum_below (columns_of ns) (λ (c : ℕ). columns_of (load_of ns c)) ≡ bound_of ns
unfolding columns_of bound_of
triangles [] = unfold sum_below load_of in refl
triangles (n ∷ ns) =
    sum-blocks (n + 1) (columns_of ns) own
    ∙ sum_same (columns_of ns) (λ (q : ℕ). sum_below (n + 1) (λ (j : ℕ). own (j + (n + 1) * q))) (λ (q : ℕ). triangle n * columns_of (load_of ns q)) (λ q l. block q)
    ∙ sum-times (columns_of ns) (triangle n) (λ (q : ℕ). columns_of (load_of ns q))
    ∙ ap (λ (k : ℕ). triangle n * k) (triangles ns)
  where
    own : ℕ → ℕ
    own c = columns_of (load_of (n ∷ ns) c)

    block : (q : ℕ) → sum_below (n + 1) (λ (j : ℕ). own (j + (n + 1) * q)) ≡ triangle n * columns_of (load_of ns q)
    block q =
        let rest = columns_of (load_of ns q) in
        sum_same (n + 1) (λ (j : ℕ). own (j + (n + 1) * q)) (λ (j : ℕ). rest * (j + 1))
        (λ j l. ap columns_of (load_of-digit n j q ns (omega arith)) ∙ mul_comm (j + 1) rest)
        ∙ sum-times (n + 1) rest (λ (j : ℕ). j + 1)
        ∙ mul_comm rest (sum_below (n + 1) (λ (j : ℕ). j + 1))
        ∙ ap (λ (k : ℕ). k * rest) (sum-triangle n)

six-triangles : (ts : List TaskType) → length ts ≡ 6
    → triangle (get_or ts 0 no_task).ceiling * (triangle (get_or ts 1 no_task).ceiling * (triangle (get_or ts 2 no_task).ceiling * (triangle (get_or ts 3 no_task).ceiling * (triangle (get_or ts 4 no_task).ceiling * triangle (get_or ts 5 no_task).ceiling))))
    ≡ bound_of (map (λ (t : TaskType). t.ceiling) ts)
unfolding bound_of
six-triangles [] l = absurd (omega arith)
six-triangles (a ∷ []) l = absurd (omega arith)
six-triangles (a ∷ b ∷ []) l = absurd (omega arith)
six-triangles (a ∷ b ∷ c ∷ []) l = absurd (omega arith)
six-triangles (a ∷ b ∷ c ∷ d ∷ []) l = absurd (omega arith)
six-triangles (a ∷ b ∷ c ∷ d ∷ e ∷ []) l = absurd (omega arith)
six-triangles (a ∷ b ∷ c ∷ d ∷ e ∷ f ∷ []) l = rw (mul-one (triangle f.ceiling))
six-triangles (a ∷ b ∷ c ∷ d ∷ e ∷ f ∷ g ∷ ts) l = absurd (omega arith)

-- "the product of (n(t)+1) × (n(t)+2) / 2" is what the columns under every column are together
pub bound-out : (y : System) → length y.types ≡ type_limit → bound_out y ≡ sum_below (columns y) (λ (c : ℕ). columns_of (load_of (ceilings_of y) c))
bound-out y l = six-triangles y.types l ∙ sym (triangles (ceilings_of y))

-- intermediate: where no type fits, no load with an instance does

holds_none-of : (x : List ℕ) → ((j : ℕ) → get_or x j 0 ≡ 0) → holds_none x ≡ true
unfolding holds_none
holds_none-of [] h = refl
holds_none-of (a ∷ x) h = and_both (eqb a 0) (holds_none x) (eq-eqb a 0 (h 0)) (holds_none-of x (λ j. h (suc j)))

module _ (y : System) (limits : Limits y) where
  abbrev ns : List ℕ
  ns = ceilings_of y

  room : columns y ≤ no_column
  room = omega (arith, limits.columns)

  -- main: where no type fits

  module _ (nothing : NoneFits y) where
    none-held : (x : List ℕ) → within x ns ≡ true → fits_engine y x ≡ true → holds_none x ≡ true
    none-held x under fit = holds_none-of x (λ j. ⊎_elim (λ e. e) (λ held. absurd (no j held)) (eq-zero-or-pos (get_or x j 0)))
      where
        no : (j : ℕ) → 1 ≤ get_or x j 0 → ⊥
        no j held =
            let back : suc j - 1 ≡ j = omega arith in
            let some : 1 ≤ ceiling_no y (suc j) = omega (arith, ceiling-out y (suc j), ap (λ (k : ℕ). get_or ns k 0) back, within-get_or x ns j under) in
            ⊎_elim
            (λ h. omega (arith, fits-held-time y x j fit held))
            (λ h. omega (arith, fits-held-memory y x j fit held))
            (subst (λ (k : ℕ). (y.timecap < (get_or y.types k no_task).time) ⊎ (y.memorycap < (get_or y.types k no_task).memory + (get_or y.types k no_task).data)) back
            (nothing (suc j) (omega arith) some))

    -- a row says yes at column 0 alone
    pub yes-at-zero : (i c : ℕ) → c < columns y → says_yes (cell_for y i c) ≡ true → c ≡ 0
    yes-at-zero zero c small h = cell-zero-yes (fits_engine y) ns c h
    yes-at-zero (suc i) c small h =
        let p = cell_for y (suc i) c in
        let r = cell-predecessor (fits_engine y) ns i c h in
        let le : p ≤ c = r.not_above in
        let first : p ≡ 0 = yes-at-zero i p (omega arith) r.yes_before in
        let rest : fits_engine y (load_of ns (c - p)) ≡ true = rw (load_of-difference ns c p small (omega arith) r.dominated) r.difference_fits in
        let none : c - p ≡ 0 = holds_none-load_of ns (c - p) (omega arith) (none-held (load_of ns (c - p)) (load_of-within ns (c - p)) rest) in
        omega arith

-- main: "For one type with n 1,023 and m 16 the bound is 8,396,800"
pub bound-one-type : (y : System) → y.engines ≡ 16 → ceiling_no y 1 ≡ 1023 → ceiling_no y 2 ≡ 0 → ceiling_no y 3 ≡ 0 → ceiling_no y 4 ≡ 0 → ceiling_no y 5 ≡ 0 → ceiling_no y 6 ≡ 0
    → y.engines * bound_out y ≡ 8396800
bound-one-type y m a b c d e f = rw (m, a, b, c, d, e, f)
