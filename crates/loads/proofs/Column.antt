-- Laws of columns: a load within the ceilings and its column determine each other, and the column of a difference is the difference of the columns.
use Prim.Native.Nat.{ℕ, suc, ◌+◌, ◌-◌, ◌*◌, ◌/◌, ◌%◌, ◌≤◌, ◌<◌}
use mathlib.Core.Path.{◌≡◌, refl, sym, ap, ◌∙◌}
use mathlib.Core.List.{List, [], ◌∷◌}
use mathlib.Core.Bool.{true}
use native.Mathlib.Nat.{mul-add, mul_comm, mod-lt, mod-eq_of_lt, div-eq_of_lt, mod-add-div}
use native.Mathlib.Nat.{add-mul-mod_self_left, add-mul-div_left, div-lt_iff_lt-mul, zero-add, mul-le-mul_left, zero-mod, zero-div}
use native.Mathlib.Omega.{arith}
use borrow.Author.Tests.{leb-true}
use lib.ListN.{length, replicate}
use lib.Dec.{leb}
use Rattle.system.specs.Limits.{columns_of}
use Rattle.system.proofs.Laws.{columns_of-pos}
use Rattle.loads.specs.Load.{holds_none, within, less}
use Rattle.loads.specs.Column.{column_from, column_of, load_of}
use Rattle.loads.proofs.Order.{Below, none, more, and_parts, cons-path, within→below, below→within, below-refl, below-trans, below_less}
use Rattle.loads.proofs.Order.{holds_none-is-zero}
pub use Rattle.loads.proofs.Horner.{positive, column_of-horner}

pub column_of-lt : (ns x : List ℕ) → within x ns ≡ true → column_of ns x < columns_of ns
unfolding column_from columns_of within
column_of-lt [] x h = omega arith
column_of-lt (n ∷ ns) [] h = columns_of-pos (n ∷ ns)
column_of-lt (n ∷ ns) (x ∷ xs) h =
    let b = and_parts (leb x n) (within xs ns) h in
    let le = leb-true x n b.0 in
    let step = mul-le-mul_left (n + 1) (column_of-lt ns xs b.1) in
    rw (column_of-horner n x ns xs) (omega (arith, step, mul-add (n + 1) (column_of ns xs) 1))

-- main: the load of a column

pub length-load_of : (ns : List ℕ) (c : ℕ) → length (load_of ns c) ≡ length ns
unfolding load_of
length-load_of [] c = refl
length-load_of (n ∷ ns) c = ap suc (length-load_of ns (c / (n + 1)))

pub load_of-below : (ns : List ℕ) (c : ℕ) → Below (load_of ns c) ns
unfolding load_of
load_of-below [] c = none
load_of-below (n ∷ ns) c =
    let small : c % (n + 1) ≤ n = omega (arith, mod-lt c (positive n)) in
    more small (load_of-below ns (c / (n + 1)))

pub load_of-within : (ns : List ℕ) (c : ℕ) → within (load_of ns c) ns ≡ true
load_of-within ns c = below→within (load_of-below ns c)

-- of a column in Horner's form
pub load_of-digit : (n r q : ℕ) (ns : List ℕ) → r ≤ n → load_of (n ∷ ns) (r + (n + 1) * q) ≡ r ∷ load_of ns q
unfolding load_of
load_of-digit n r q ns h =
    let small : r < n + 1 = omega arith in
    rw (add-mul-mod_self_left r (n + 1) q, add-mul-div_left r q (positive n), mod-eq_of_lt small, div-eq_of_lt small, zero-add q)

pub load_of-column_of-below : {x ns : List ℕ} → Below x ns → load_of ns (column_of ns x) ≡ x
unfolding load_of
load_of-column_of-below none = refl
load_of-column_of-below (more {x = x} {y = n} {xs = xs} {ys = ns} h r) =
    let small : x < n + 1 = omega arith in
    rw (column_of-horner n x ns xs, add-mul-mod_self_left x (n + 1) (column_of ns xs), add-mul-div_left x (column_of ns xs) (positive n))
    (cons-path (mod-eq_of_lt small) (rw (div-eq_of_lt small, zero-add) (load_of-column_of-below r)))

pub load_of-column_of : (ns x : List ℕ) → length x ≡ length ns → within x ns ≡ true → load_of ns (column_of ns x) ≡ x
load_of-column_of ns x l h = load_of-column_of-below (within→below x ns l h)

pub column_of-load_of : (ns : List ℕ) (c : ℕ) → c < columns_of ns → column_of ns (load_of ns c) ≡ c
unfolding column_from columns_of load_of
column_of-load_of [] c h = omega arith
column_of-load_of (n ∷ ns) c h =
    let up : c < columns_of ns * (n + 1) = rw (mul_comm (columns_of ns) (n + 1)) h in
    column_of-horner n (c % (n + 1)) ns (load_of ns (c / (n + 1)))
    ∙ rw (column_of-load_of ns (c / (n + 1)) ((div-lt_iff_lt-mul (positive n)).1 up)) (mod-add-div c (n + 1))

-- main: the empty load

pub load_of-zero : (ns : List ℕ) → load_of ns 0 ≡ replicate (length ns) 0
unfolding load_of
load_of-zero [] = refl
load_of-zero (n ∷ ns) = cons-path (zero-mod (n + 1)) (rw (zero-div (n + 1)) (load_of-zero ns))

pub column_of-zero : (ns : List ℕ) → column_of ns (replicate (length ns) 0) ≡ 0
unfolding column_from
column_of-zero [] = refl
column_of-zero (n ∷ ns) = column_of-horner n 0 ns (replicate (length ns) 0) ∙ rw (column_of-zero ns) (omega arith)

pub holds_none-load_of : (ns : List ℕ) (c : ℕ) → c < columns_of ns → holds_none (load_of ns c) ≡ true → c ≡ 0
holds_none-load_of ns c h e =
    sym (column_of-load_of ns c h)
    ∙ rw (holds_none-is-zero (load_of ns c) e, length-load_of ns c) (column_of-zero ns)

-- main: the column of all instances is the last

column-last : (ns : List ℕ) → column_of ns ns + 1 ≡ columns_of ns
unfolding column_from columns_of
column-last [] = refl
column-last (n ∷ ns) = rw (column_of-horner n n ns ns, ← (column-last ns), mul-add (n + 1) (column_of ns ns) 1) (omega arith)

pub load-last : (ns : List ℕ) → load_of ns (columns_of ns - 1) ≡ ns
load-last ns =
    let e : columns_of ns - 1 ≡ column_of ns ns = omega (arith, column-last ns) in
    rw e (load_of-column_of-below (below-refl ns))

-- main: the load less that of a dominated column

pub column_of-less : (ns : List ℕ) {x y : List ℕ} → Below x y → column_of ns (less y x) + column_of ns x ≡ column_of ns y
unfolding column_from less
column_of-less [] b = omega arith
column_of-less (n ∷ ns) none = omega arith
column_of-less (n ∷ ns) (more {x = x} {y = y} {xs = xs} {ys = ys} h r) =
    rw (column_of-horner n (y - x) ns (less ys xs), column_of-horner n x ns xs, column_of-horner n y ns ys, ← (column_of-less ns r), mul-add)
    (omega arith)

module _ (ns : List ℕ) (c p : ℕ) (small : c < columns_of ns) (smaller : p < columns_of ns) (dominated : within (load_of ns p) (load_of ns c) ≡ true) where
  below : Below (load_of ns p) (load_of ns c)
  below = within→below (load_of ns p) (load_of ns c) (length-load_of ns p ∙ sym (length-load_of ns c)) dominated

  split : column_of ns (less (load_of ns c) (load_of ns p)) + p ≡ c
  split = rw (column_of-load_of ns p smaller, column_of-load_of ns c small) at (column_of-less ns below)

  pub dominated-le : p ≤ c
  dominated-le = omega (arith, split)

  pub column_of-difference : column_of ns (less (load_of ns c) (load_of ns p)) ≡ c - p
  column_of-difference = omega (arith, split)

  pub load_of-difference : load_of ns (c - p) ≡ less (load_of ns c) (load_of ns p)
  load_of-difference = rw (← column_of-difference) (load_of-column_of-below (below-trans (below_less below) (load_of-below ns c)))
