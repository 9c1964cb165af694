-- What a card says of the file that it was read from: of one kind of engine it is what the file reads as where one kind is wanted, and of two kinds the file opened, with these kinds.
use Rattle.std.proofs.Common.{Option, None, Some}
use Prim.Native.Nat.{ℕ}
use mathlib.Core.Path.{◌≡◌, refl, ap, subst}
use mathlib.Core.List.{List}
use native.Mathlib.Omega.{arith}
use Rattle.system.specs.declared.Kind.{Kind}
use Rattle.system.specs.declared.System.{System}
use Rattle.system.specs.Layout.{Reading, opened, unread, read_card, read_file}
use Rattle.system.specs.Card.{plain, mixed, kinds_of, card_of}
use Rattle.system.proofs.Laws.{Limits, CardLimits, read-limits, read-card-limits, card-file, card-refused}

-- main: of a reading

pub plain-refused : (x : Reading) (n : ℕ) → card_of x ≡ plain (unread n) → x ≡ unread n
unfolding card_of
plain-refused (unread k) n e = cc
plain-refused (opened z) n e = go z.second e
  where
    go : (s : Option Kind) → kinds_of z s ≡ plain (unread n) → opened z ≡ unread n
    go None e = let no : ◌≡◌ {A = ℕ} 0 1 = cc in absurd (omega arith)
    go (Some k) e = let no : ◌≡◌ {A = ℕ} 0 1 = cc in absurd (omega arith)

pub plain-opened : (x : Reading) (y : System) → card_of x ≡ plain (opened y) → (x ≡ opened y) × (y.second ≡ None)
unfolding card_of
plain-opened (unread n) y e = let no : ◌≡◌ {A = ℕ} 0 1 = cc in absurd (omega arith)
plain-opened (opened z) y e = go z.second refl e
  where
    go : (s : Option Kind) → z.second ≡ s → kinds_of z s ≡ plain (opened y) → (opened z ≡ opened y) × (y.second ≡ None)
    go None q e = let same : z ≡ y = cc in (ap opened same, subst (λ (w : System). w.second ≡ None) same q)
    go (Some k) q e = let no : ◌≡◌ {A = ℕ} 0 1 = cc in absurd (omega arith)

pub mixed-opened : (x : Reading) (y : System) (k : Kind) → card_of x ≡ mixed y k → (x ≡ opened y) × (y.second ≡ Some k)
unfolding card_of
mixed-opened (unread n) y k e = let no : ◌≡◌ {A = ℕ} 0 1 = cc in absurd (omega arith)
mixed-opened (opened z) y k e = go z.second refl e
  where
    go : (s : Option Kind) → z.second ≡ s → kinds_of z s ≡ mixed y k → (opened z ≡ opened y) × (y.second ≡ Some k)
    go None q e = let no : ◌≡◌ {A = ℕ} 0 1 = cc in absurd (omega arith)
    go (Some j) q e =
        let same : z ≡ y = cc in
        let kinds : j ≡ k = cc in
        (ap opened same, subst (λ (w : System). w.second ≡ Some k) same (subst (λ (i : Kind). z.second ≡ Some i) kinds q))

-- and the card of a reading
pub card-unread : (x : Reading) (n : ℕ) → x ≡ unread n → card_of x ≡ plain (unread n)
unfolding card_of
card-unread x n e = rw e

pub card-one : (x : Reading) (y : System) → x ≡ opened y → y.second ≡ None → card_of x ≡ plain (opened y)
unfolding card_of
card-one x y e one = rw (e, one)

pub card-two : (x : Reading) (y : System) (k : Kind) → x ≡ opened y → y.second ≡ Some k → card_of x ≡ mixed y k
unfolding card_of
card-two x y k e two = rw (e, two)

-- main: of a file

module _ (file : List ℕ) where
  pub plain-file : (x : Reading) → card_of (read_card file) ≡ plain x → read_file file ≡ x
  plain-file (unread n) e = card-refused file n (plain-refused (read_card file) n e)
  plain-file (opened y) e = let p = plain-opened (read_card file) y e in card-file file y p.0 p.1

  -- what opened of one kind keeps the limits, and of two kinds those of a card
  pub plain_known : (x : Reading) → card_of (read_card file) ≡ plain x → (y : System) → x ≡ opened y → Limits y
  plain_known x e y is = read-limits file y (rw (plain-file x e) is)

  pub mixed-known : (y : System) (k : Kind) → card_of (read_card file) ≡ mixed y k → CardLimits y
  mixed-known y k e = read-card-limits file y (mixed-opened (read_card file) y k e).0
