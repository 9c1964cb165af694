-- Laws of a part that is filled up to an entry: the entries before it, then what the part held.
use Prim.Native.Nat.{ℕ, suc, ◌+◌, ◌-◌, ◌≤◌, ◌<◌}
use mathlib.Core.Path.{◌≡◌, sym, ap, ◌∙◌}
use mathlib.Core.List.{List, ◌++◌}
use native.Mathlib.Numerals.{add-one}
use native.Mathlib.Omega.{arith}
use lib.ListN.{length, get_or, set, take, drop, length-append, length-drop, take-append-drop, get_or-append}
use lib.Seq.{set_at, drop-cons, append_snoc, drop-append-add, drop-drop, ext_get_or, get_or-take, length-take-le}
use Rattle.table.specs.Parts.{up_to}
use Rattle.table.proofs.Filled.{length-up_to, get_or-up_to}

unfoldable pub begun : (ℕ → ℕ) → ℕ → List ℕ → List ℕ
begun f k table = up_to f k ++ drop k table

module _ (f : ℕ → ℕ) (k : ℕ) (table : List ℕ) (room : k ≤ length table) where
  pub length-begun : length (begun f k table) ≡ length table
  unfolding begun
  length-begun = omega (arith, length-append (up_to f k) (drop k table), length-up_to f k, length-drop k table)

  pub get_or-begun : (j : ℕ) → j < k → get_or (begun f k table) j 0 ≡ f j
  unfolding begun
  get_or-begun j h = get_or-append (up_to f k) (drop k table) 0 j (rw (length-up_to f k) h) ∙ get_or-up_to f k j h

  -- where the entries before k stand already
  pub begun-start : ((j : ℕ) → j < k → get_or table j 0 ≡ f j) → begun f k table ≡ table
  unfolding begun
  begun-start h =
      let same : up_to f k ≡ take k table =
      ext_get_or 0 (up_to f k) (take k table) (length-up_to f k ∙ sym (length-take-le k table room))
      (λ j l.
      let small : j < k = omega (arith, length-up_to f k) in
      get_or-up_to f k j small ∙ sym (h j small) ∙ sym (get_or-take k table j 0 small)) in
      rw same (take-append-drop k table)

-- one entry more
pub begun-store : (f : ℕ → ℕ) (k : ℕ) (table : List ℕ) → k < length table → set (begun f k table) k (f k) ≡ begun f (k + 1) table
unfolding begun up_to
begun-store f k table h =
    rw (drop-cons table k 0, set_at (up_to f k) (get_or table k 0) (drop (suc k) table) (f k) k (length-up_to f k), add-one k)
    (sym (append_snoc (up_to f k) (f k) (drop (suc k) table)))

-- what was begun before makes no difference
pub begun-again : (f : ℕ → ℕ) (j k : ℕ) (table : List ℕ) → j ≤ k → begun f k (begun f j table) ≡ begun f k table
unfolding begun
begun-again f j k table h =
    let parts : k ≡ length (up_to f j) + (k - j) = omega (arith, length-up_to f j) in
    let whole : j + (k - j) ≡ k = omega arith in
    let rest : drop k (up_to f j ++ drop j table) ≡ drop k table =
    ap (λ (n : ℕ). drop n (up_to f j ++ drop j table)) parts
    ∙ drop-append-add (up_to f j) (drop j table) (k - j)
    ∙ drop-drop (k - j) j table
    ∙ ap (λ (n : ℕ). drop n table) whole in
    rw rest
