-- What the work of a call rests on once its checks have passed: numbers in range, counts far below 16 bits, loads that fit.
use Prim.Native.Nat.{ℕ, ◌-◌, ◌≤◌, ◌<◌}
use mathlib.Core.Path.{◌≡◌, sym, ap, subst, ◌∙◌}
use mathlib.Core.List.{List}
use mathlib.Core.Bool.{true}
use native.Mathlib.Nat.{le_refl}
use native.Mathlib.Omega.{arith}
use borrow.Author.Tests.{leb-true, le-leb, ltb-true}
use lib.ListN.{length, get_or}
use lib.Dec.{leb}
use Rattle.system.specs.Values.{ceilings_of}
use Rattle.system.specs.Limits.{columns, keeps_limits, column_limit, engine_limit, type_limit}
use Rattle.system.proofs.Laws.{Limits, limits_of, ceiling-lt}
use Rattle.loads.specs.Load.{fits_engine, within}
use Rattle.loads.proofs.Order.{and_parts, and_both}
use Rattle.loads.proofs.Change.{within-get_or, one_more-within}
use Rattle.partition.specs.Assignment.{among, engines_to}
use Rattle.partition.specs.Lent.{Lent}
use Rattle.partition.proofs.Lists.{among-engines_to, tested-among}
use Rattle.partition.proofs.Standing.{count-le-sum, load_in-fits}
use Rattle.table.specs.declared.Engines.{Engines}
use Rattle.table.specs.Table.{long_enough}
use Rattle.table.specs.Chain.{listed, MayPlace}
use Rattle.board.specs.declared.Board.{Board}
use Rattle.board.specs.Boards.{engines_of, load_at, standing}
use Rattle.board.specs.Truth.{true_board}
use Rattle.board.specs.Calls.{known_type, known_engine, with_newcomer}
use Rattle.board.specs.Inner.{CheckedNewcomer, OnEngine}
use Rattle.board.proofs.Places.{engines-distinct, engines-count, engine-of}
use Rattle.board.proofs.Truth.{truth-of, load_at-on}

-- main: of a true board

module _ (b : Board) (h : true_board b ≡ true) where
  pub true-keeps : keeps_limits b.system ≡ true
  true-keeps = (truth-of b h).keeps

  true-limits : Limits b.system
  true-limits = limits_of b.system true-keeps

  pub engines-most : b.system.engines ≤ engine_limit
  engines-most = true-limits.engines

  pub columns-most : columns b.system ≤ column_limit
  columns-most = true-limits.columns

  pub true-within : within (standing b) (ceilings_of b.system) ≡ true
  true-within = let t = truth-of b h in subst (λ (x : List ℕ). within x (ceilings_of b.system) ≡ true) (sym t.stands) t.valid.ceiling

  pub standing-small : (j : ℕ) → get_or (standing b) j 0 < column_limit
  standing-small j =
      omega (arith, within-get_or (standing b) (ceilings_of b.system) j true-within, ceiling-lt (ceilings_of b.system) j, true-limits.columns)

  -- an engine that instances may be on, as what the inner functions take
  pub on-engine : (e : ℕ) → among (engines_of b) e ≡ true → OnEngine b e
  on-engine e k =
      let r = engine-of b e k in
      record { is_true = h; known = and_both (leb 1 e) (leb e b.system.engines) (le-leb 1 e r.0) (le-leb e b.system.engines r.1) }

  -- a load within the ceilings may be placed on them
  pub may-place : (es : Engines) (x : List ℕ) (table : Lent) → es.count ≡ length (engines_of b) → listed es ≡ engines_of b → long_enough b.system table ≡ true → within x (ceilings_of b.system) ≡ true → MayPlace b.system es x table
  may-place es x table count same room under = record {
    limits = true-keeps;
    few = omega (arith, count, engines-count b);
    engines = record {
      enough = le_refl es.count;
      few = omega (arith, count, engines-count b, engines-most);
      apart = rw same (engines-distinct b);
      known = rw same (tested-among (among (engines_to engine_limit)) (engines_of b) (λ e k. let r = engine-of b e k in (among-engines_to engine_limit e).1 (r.0, omega (arith, r.1, engines-most))));
    };
    room = room;
    under = under;
  }

  pub type-range : (t : ℕ) → known_type b.system t ≡ true → (1 ≤ t) × (t ≤ type_limit)
  type-range t k =
      let p = and_parts (leb 1 t) (leb t b.system.typecount) k in
      (leb-true 1 t p.0, omega (arith, leb-true t b.system.typecount p.1, true-limits.typecount))

  module _ (e : ℕ) (k : known_engine b.system e ≡ true) where
    pub engine-range : (1 ≤ e) × (e ≤ b.system.engines)
    engine-range =
        let p = and_parts (leb 1 e) (leb e b.system.engines) k in
        (leb-true 1 e p.0, leb-true e b.system.engines p.1)

    pub engine-in : (1 ≤ e) × (e ≤ engine_limit)
    engine-in = (engine-range.0, omega (arith, engine-range.1, true-limits.engines))

    abbrev rows : List (List ℕ)
    rows = (truth-of b h).rows

    inside : e - 1 < length rows
    inside = omega (arith, engine-range.0, engine-range.1, (truth-of b h).valid.rows)

    load_row : load_at b e ≡ get_or rows (e - 1) (lib.ListN.replicate type_limit 0)
    load_row = ap (λ (d : Board). load_at d e) (truth-of b h).same ∙ load_at-on b.system (truth-of b h).marks rows e

    pub load-small : (j : ℕ) → get_or (load_at b e) j 0 ≤ get_or (standing b) j 0
    load-small j =
        omega (
          arith,
          ap (λ (x : List ℕ). get_or x j 0) load_row,
          ap (λ (x : List ℕ). get_or x j 0) (truth-of b h).stands,
          count-le-sum type_limit rows (e - 1) j (truth-of b h).valid.sized inside,
        )

    pub load_fits : fits_engine b.system (load_at b e) ≡ true
    load_fits = subst (λ (x : List ℕ). fits_engine b.system x ≡ true) (sym load_row) (load_in-fits (truth-of b h).valid (e - 1) inside)

-- main: of a newcomer that the checks let through

module _ (b : Board) (t : ℕ) (n : CheckedNewcomer b t) where
  pub newcomer-range : (1 ≤ t) × (t ≤ type_limit)
  newcomer-range = type-range b n.is_true t n.known

  pub newcomer-within : within (with_newcomer b t) (ceilings_of b.system) ≡ true
  newcomer-within =
      one_more-within (t - 1) (standing b) (ceilings_of b.system) (true-within b n.is_true)
      (ltb-true (get_or (standing b) (t - 1) 0) (get_or (ceilings_of b.system) (t - 1) 0) n.below)
