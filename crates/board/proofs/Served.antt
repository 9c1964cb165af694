-- Marks stay true: nothing stands on a marked engine after an instance joined or left an engine, after a recovery onto the engines in service, and after a mark was set or
-- taken away.
use Prim.Native.Nat.{ℕ, zero, suc, ◌-◌, ◌≤◌}
use mathlib.Core.Path.{◌≡◌, refl, sym, ap, ◌∙◌}
use mathlib.Core.List.{List, [], ◌∷◌}
use mathlib.Core.Bool.{Bool, true, false}
use native.Mathlib.Omega.{arith}
use borrow.Author.Tests.{ltb-true, ltb-false, eqb-true, eqb-false}
use lib.ListN.{get_or, set, length-set, length-map, get_or-eq_default}
use lib.Seq.{get_or-set_other}
use lib.Dec.{ltb, eqb}
use Rattle.system.specs.declared.System.{System}
use Rattle.system.specs.Limits.{type_limit}
use Rattle.loads.specs.Load.{empty_load}
use Rattle.partition.specs.Assignment.{among, engines_to}
use Rattle.partition.specs.Shares.{row_on}
use Rattle.partition.specs.ForSystem.{rows_for, recovered_for}
use Rattle.partition.proofs.Lists.{not-both, length-engines_to, get_or-map-engines_to, get_or-padded}
use Rattle.partition.proofs.Engines.{row_on-outside}
use Rattle.partition.proofs.Standing.{load_in}
use Rattle.board.specs.Boards.{engines_of}
use Rattle.board.proofs.Places.{engines-in}
use Rattle.board.proofs.Truth.{board_on, Served, marked-on}

-- a mark that was taken away is not set
cleared-here : (l : List Bool) (i : ℕ) → get_or (set l i false) i false ≡ false
cleared-here [] i = refl
cleared-here (a ∷ l) zero = refl
cleared-here (a ∷ l) (suc i) = cleared-here l i

module _ (y : System) (ms : List Bool) (xs : List (List ℕ)) (s : Served y ms xs) where
  -- an engine that holds an instance has no mark
  pub held-unmarked : (i j : ℕ) → 1 ≤ get_or (load_in xs i) j 0 → get_or ms i false ≡ false
  held-unmarked i j held = go (get_or ms i false) refl
    where
      go : (q : Bool) → get_or ms i false ≡ q → q ≡ false
      go false q = refl
      go true q = absurd (omega (arith, held, ap (λ (x : List ℕ). get_or x j 0) (s.idle i q) ∙ get_or-padded [] type_limit j 0))

  -- one load changed, on an engine without a mark
  pub served-set : (i : ℕ) (x : List ℕ) → get_or ms i false ≡ false → Served y ms (set xs i x)
  served-set i x none = record {
    count = s.count;
    idle = λ j q. get_or-set_other xs i j x empty_load (λ same. not-both q (ap (λ (k : ℕ). get_or ms k false) same ∙ none)) ∙ s.idle j q;
  }

  -- an engine that holds nothing is marked
  pub served-marked : (i : ℕ) → load_in xs i ≡ empty_load → Served y (set ms i true) xs
  served-marked i none = record { count = length-set ms i true ∙ s.count; idle = λ j q. go j q (eqb j i) refl }
    where
      go : (j : ℕ) → get_or (set ms i true) j false ≡ true → (p : Bool) → eqb j i ≡ p → load_in xs j ≡ empty_load
      go j q true e = ap (load_in xs) (eqb-true j i e) ∙ none
      go j q false e = s.idle j (sym (get_or-set_other ms i j true false (λ same. eqb-false j i e same)) ∙ q)

  -- a mark is taken away
  pub served-cleared : (i : ℕ) → Served y (set ms i false) xs
  served-cleared i = record { count = length-set ms i false ∙ s.count; idle = λ j q. s.idle j (go j q (eqb j i) refl) }
    where
      go : (j : ℕ) → get_or (set ms i false) j false ≡ true → (p : Bool) → eqb j i ≡ p → get_or ms j false ≡ true
      go j q true e = absurd (not-both q (ap (λ (k : ℕ). get_or (set ms i false) k false) (eqb-true j i e) ∙ cleared-here ms i))
      go j q false e = sym (get_or-set_other ms i j false false (λ same. eqb-false j i e same)) ∙ q

  -- all became a recovery onto the engines in service
  abbrev es : List ℕ
  es = engines_of (board_on y ms xs)

  pub served-recovered : (x : List ℕ) → Served y ms (recovered_for y.engines y es x)
  served-recovered x = record { count = s.count; idle = λ i q. go i q (ltb i y.engines) refl }
    where
      out : (i : ℕ) → get_or ms i false ≡ true → (p : Bool) → among es (suc i) ≡ p → among es (suc i) ≡ false
      out i q true e =
          let back : suc i - 1 ≡ i = omega arith in
          absurd (not-both q (ap (λ (j : ℕ). get_or ms j false) (sym back) ∙ sym (marked-on y ms xs (suc i)) ∙ ((engines-in (board_on y ms xs) (suc i)).0 e).in_service))
      out i q false e = e

      go : (i : ℕ) → get_or ms i false ≡ true → (p : Bool) → ltb i y.engines ≡ p → load_in (recovered_for y.engines y es x) i ≡ empty_load
      go i q true e =
          get_or-map-engines_to (row_on empty_load es (rows_for y es x)) y.engines i empty_load (ltb-true i y.engines e)
          ∙ row_on-outside empty_load es (rows_for y es x) (suc i) (out i q (among es (suc i)) refl)
      go i q false e =
          get_or-eq_default (recovered_for y.engines y es x) empty_load
          (omega (arith, ltb-false i y.engines e, length-map (engines_to y.engines) (row_on empty_load es (rows_for y es x)), length-engines_to y.engines))
