-- Request 2026-13, "Cards with two kinds of engine": the split that is taken is a good assignment of all instances to the engines of both kinds, and no good assignment is on fewer of them,
-- or on as many and fewer of the second kind. Good means that each engine keeps source 001, Definition 1 with the numbers of its own kind.
use Prim.Native.Nat.{ℕ, suc, ◌+◌, ◌-◌, ◌*◌, ◌≤◌, ◌<◌}
use mathlib.Core.Path.{◌≡◌, refl, sym, ap, subst, ◌∙◌}
use mathlib.Core.List.{List, [], ◌∷◌, ◌++◌}
use mathlib.Core.Bool.{Bool, true, false, not, cond}
use mathlib.Core.Logic.{◌↔◌}
use native.Mathlib.Nat.{suc-add, zero-add}
use native.Mathlib.Omega.{arith}
use borrow.Author.Tests.{leb-true, leb-false, ltb-true, lt-ltb, le-leb, lt-leb, not-true}
use lib.ListN.{length, get_or, replicate, length-map, length-append, length-replicate, get_or-append, get_or-eq_default}
use lib.Seq.{get_or-append-add}
use lib.Dec.{eqb, leb}
use Rattle.system.specs.declared.System.{System}
use Rattle.system.specs.Values.{ceilings_of}
use Rattle.system.specs.Limits.{type_limit, columns}
use Rattle.system.proofs.Laws.{Limits}
use Rattle.loads.specs.Load.{fits_engine, holds_none, plus, less, empty_load}
use Rattle.loads.specs.Column.{column_of, load_of}
use Rattle.loads.proofs.Order.{Below, and_both, below→within, below-plus, less-plus}
use Rattle.loads.proofs.Column.{column_of-lt, load_of-column_of-below}
use Rattle.partition.specs.Assignment.{Assignment, load_on, assigned, among, every, good, used_of, numbers_from, engines_to}
use Rattle.partition.specs.OwnWords.{place_of}
use Rattle.partition.specs.Cell.{recovery}
use Rattle.partition.specs.Shares.{loads_on, sum_of, used_loads, Shares, Carried}
use Rattle.partition.specs.Kinds.{kind_test, engines_after, mixed_engines, good_mixed, fewest_in, rest_of, no_split, split_cost, best_split, mixed_placeable, used_first, used_second, loads_first, loads_second}
use Rattle.partition.specs.Kinds.{MixedGiven, uses_first, uses_second, MixedFewest, KindsOf, MixedKeeps}
use Rattle.partition.proofs.Lists.{every-++, every-get_or, every-engines_to, among-engines_to, numbers_from-every, length-numbers_from, length-engines_to, distinct-engines_to, get_or-map-engines_to, get_or-padded}
use Rattle.partition.proofs.Shares.{good-parts, sum_of-loads_on, tested-shares, tested-carried, used_of-loads_on}
use Rattle.partition.proofs.Engines.{numbers_from-more}
use Rattle.partition.proofs.Cells.{length-sum_of}
use Rattle.partition.proofs.Rows.{fewest-loads}
use Rattle.partition.proofs.Recovery.{length-recovery, recovery-used, padded-shares}
use Rattle.partition.proofs.OwnWords.{fits-keeps, every-placed}
use Rattle.partition.proofs.Theorems.{used_of-le}
use Rattle.partition.proofs.ForSystem.{length-ceilings, ground}
use Rattle.partition.proofs.Together.{sum_of-append}
use Rattle.partition.proofs.Splits.{best-inside, best-least, cost-where-held, held-where-cheap, cheaper, load_of-rest, loads-whole, limits_first, limits_second, rest-small, rest-load}

-- intermediate: the engines of both kinds

-- what χ sends to each engine fits it by its kind
record FitByKind (first second : System) (χ : Assignment) : Type 0 where
  on_first : (e : ℕ) → 1 ≤ e → e ≤ first.engines → fits_engine first (load_on e χ) ≡ true
  on_second : (e : ℕ) → first.engines < e → e ≤ first.engines + second.engines → fits_engine second (load_on e χ) ≡ true

module _ (first second : System) where
  -- their loads are those of the first kind and after them those of the second
  loads_on-mixed : (χ : Assignment) → loads_on (mixed_engines first second) χ ≡ loads_on (engines_to first.engines) χ ++ loads_on (engines_after first.engines second.engines) χ
  loads_on-mixed χ =
      let next : 1 + first.engines ≡ suc first.engines = omega arith in
      numbers_from-more (λ (e : ℕ). load_on e χ) 1 first.engines second.engines
      ∙ ap (λ (a : ℕ). loads_on (engines_to first.engines) χ ++ loads_on (numbers_from a second.engines) χ) next

  -- the test of all of them says so
  kinds-tested : (χ : Assignment) → (every (λ (e : ℕ). kind_test first second e (load_on e χ)) (mixed_engines first second) ≡ true) ↔ FitByKind first second χ
  kinds-tested χ = (there, back)
    where
      test : ℕ → Bool
      test e = kind_test first second e (load_on e χ)

      each : (every test (mixed_engines first second) ≡ true) ↔ ((e : ℕ) → 1 ≤ e → e ≤ first.engines + second.engines → test e ≡ true)
      each = every-engines_to test (first.engines + second.engines)

      there : every test (mixed_engines first second) ≡ true → FitByKind first second χ
      there h = record {
        on_first = λ e low high. rw (le-leb e first.engines high) at (each.0 h e low (omega arith));
        on_second = λ e low high. rw (lt-leb e first.engines low) at (each.0 h e (omega arith) high);
      }

      back : FitByKind first second χ → every test (mixed_engines first second) ≡ true
      back k = each.1 (λ e low high. go e low high (leb e first.engines) refl)
        where
          go : (e : ℕ) → 1 ≤ e → e ≤ first.engines + second.engines → (c : Bool) → leb e first.engines ≡ c → cond c (fits_engine first (load_on e χ)) (fits_engine second (load_on e χ)) ≡ true
          go e low high true q = k.on_first e low (leb-true e first.engines q)
          go e low high false q = k.on_second e (leb-false e first.engines q) high

-- main: a good assignment in source 001's own words

pub mixed-keeps : (first second : System) (χ : Assignment) → first.rule ≤ 1 → second.rule ≤ 1 → (good_mixed first second χ ≡ true) ↔ MixedKeeps first second χ
unfolding good
mixed-keeps first second χ r s = (there, back)
  where
    es : List ℕ
    es = mixed_engines first second

    placed : (every (every (among es)) χ ≡ true) ↔ ((t j : ℕ) → t < length χ → j < length (get_or χ t []) → (1 ≤ place_of χ t j) × (place_of χ t j ≤ first.engines + second.engines))
    placed = every-placed χ es (λ (e : ℕ). (1 ≤ e) × (e ≤ first.engines + second.engines)) (among-engines_to (first.engines + second.engines))

    there : good_mixed first second χ ≡ true → MixedKeeps first second χ
    there h =
        let b = good-parts (kind_test first second) es χ h in
        let t = (kinds-tested first second χ).0 b.1 in
        record {
          placed = placed.0 b.0;
          on_first = λ e low high. (fits-keeps first e χ r).0 (t.on_first e low high);
          on_second = λ e low high. (fits-keeps second e χ s).0 (t.on_second e low high);
        }

    back : MixedKeeps first second χ → good_mixed first second χ ≡ true
    back k =
        and_both (every (every (among es)) χ) (every (λ (e : ℕ). kind_test first second e (load_on e χ)) es) (placed.1 k.placed)
        ((kinds-tested first second χ).1 (record {
          on_first = λ e low high. (fits-keeps first e χ r).1 (k.on_first e low high);
          on_second = λ e low high. (fits-keeps second e χ s).1 (k.on_second e low high);
        }))

-- main: the engines used are those of the first kind and those of the second

used_loads-append : (xs zs : List (List ℕ)) → used_loads (xs ++ zs) ≡ used_loads xs + used_loads zs
unfolding used_loads
used_loads-append [] zs = sym (zero-add (used_loads zs))
used_loads-append (x ∷ xs) zs = go (holds_none x) (used_loads-append xs zs)
  where
    go : (b : Bool) → used_loads (xs ++ zs) ≡ used_loads xs + used_loads zs → cond b (used_loads (xs ++ zs)) (suc (used_loads (xs ++ zs))) ≡ cond b (used_loads xs) (suc (used_loads xs)) + used_loads zs
    go true h = h
    go false h = ap suc h ∙ sym (suc-add (used_loads xs) (used_loads zs))

pub mixed-used : (first second : System) (χ : Assignment) → used_of (mixed_engines first second) χ ≡ uses_first first χ + uses_second first second χ
mixed-used first second χ =
    let es = engines_to first.engines in
    let ds = engines_after first.engines second.engines in
    used_of-loads_on (mixed_engines first second) χ
    ∙ ap used_loads (loads_on-mixed first second χ)
    ∙ used_loads-append (loads_on es χ) (loads_on ds χ)
    ∙ rw (used_of-loads_on es χ, used_of-loads_on ds χ)

-- main: no good assignment of all instances is on fewer engines

module _ (first second : System) (kinds : KindsOf first second) (χ : Assignment) (all : assigned χ ≡ ceilings_of first) (is_good : good_mixed first second χ ≡ true) where
  pub mixed-fewest : MixedFewest first second χ
  mixed-fewest = record {
    placeable = lt-ltb (split_cost first second (best_split first second)) no_split (omega (arith, cheap, under));
    fewest = least.0;
    fewest_second = least.1;
  }
    where
      ns : List ℕ
      ns = ceilings_of first

      parts : (every (every (among (mixed_engines first second))) χ ≡ true) × (every (λ (e : ℕ). kind_test first second e (load_on e χ)) (mixed_engines first second) ≡ true)
      parts = good-parts (kind_test first second) (mixed_engines first second) χ is_good

      tested : FitByKind first second χ
      tested = (kinds-tested first second χ).0 parts.1

      types : length χ ≡ length ns
      types = sym (length-map χ length) ∙ ap length all

      -- what is on the engines of each kind
      k : ℕ
      k = length χ

      es : List ℕ
      es = engines_to first.engines

      ds : List ℕ
      ds = engines_after first.engines second.engines

      our_load : List ℕ
      our_load = sum_of k (loads_on es χ)

      their_load : List ℕ
      their_load = sum_of k (loads_on ds χ)

      our_shares : Shares (fits_engine first) k (loads_on es χ) our_load
      our_shares = tested-shares (fits_engine first) es χ ((every-engines_to (λ (e : ℕ). fits_engine first (load_on e χ)) first.engines).1 tested.on_first)

      their_shares : Shares (fits_engine second) k (loads_on ds χ) their_load
      their_shares =
          tested-shares (fits_engine second) ds χ
          (numbers_from-every (λ (e : ℕ). fits_engine second (load_on e χ)) (suc first.engines) second.engines (λ e low high. tested.on_second e low (omega arith)))

      together : plus our_load their_load ≡ ns
      together =
          sym (sum_of-append k (loads_on es χ) (loads_on ds χ) their_shares.sized)
          ∙ ap (sum_of k) (sym (loads_on-mixed first second χ))
          ∙ sum_of-loads_on (mixed_engines first second) χ (distinct-engines_to (first.engines + second.engines)) parts.0
          ∙ all

      level : length our_load ≡ length their_load
      level = length-sum_of k (loads_on es χ) our_shares.sized ∙ sym (length-sum_of k (loads_on ds χ) their_shares.sized)

      -- the column of the first kind's part, and that of the second's
      inside : Below our_load ns
      inside = subst (Below our_load) together (below-plus our_load their_load level)

      p : ℕ
      p = column_of ns our_load

      small : p < columns first
      small = column_of-lt ns our_load (below→within inside)

      our_column : our_load ≡ load_of ns p
      our_column = sym (load_of-column_of-below inside)

      their_column : their_load ≡ load_of (ceilings_of second) (rest_of first p)
      their_column =
          sym (less-plus our_load their_load level)
          ∙ ap (λ (x : List ℕ). less x our_load) together
          ∙ ap (less ns) our_column
          ∙ sym (load_of-rest ns p small)
          ∙ sym (rest-load first second kinds p)

      -- each kind is on as many engines as its lowest yes row says, or more
      few_ours : fewest_in first p ≤ uses_first first χ
      few_ours =
          rw (used_of-loads_on es χ)
          (fewest-loads (fits_engine first) ns (ground first (limits_first first second kinds)).room first.engines p small (loads_on es χ)
          (rw (← types, ← our_column) our_shares))

      few_theirs : fewest_in second (rest_of first p) ≤ uses_second first second χ
      few_theirs =
          rw (used_of-loads_on ds χ)
          (fewest-loads (fits_engine second) (ceilings_of second) (ground second (limits_second first second kinds)).room second.engines (rest_of first p) (rest-small first second kinds p) (loads_on ds χ)
          (rw (← their_column, kinds.same_ceilings, ← types) their_shares))

      -- so the split of these columns costs no more than one on as many engines, and the best no more than it
      at_most : uses_second first second χ ≤ second.engines
      at_most = omega (arith, used_of-le ds χ, length-numbers_from (suc first.engines) second.engines)

      cost : split_cost first second p ≡ (fewest_in first p + fewest_in second (rest_of first p)) * 32 + fewest_in second (rest_of first p)
      cost = cost-where-held first second p (omega (arith, few_ours, used_of-le es χ, length-engines_to first.engines)) (omega (arith, few_theirs, at_most))

      cheap : split_cost first second (best_split first second) ≤ (uses_first first χ + uses_second first second χ) * 32 + uses_second first second χ
      cheap = omega (arith, best-least first second p small, cost, few_ours, few_theirs)

      under : (uses_first first χ + uses_second first second χ) * 32 + uses_second first second χ < no_split
      under = omega (arith, (limits_first first second kinds).engines, (limits_second first second kinds).engines, at_most, used_of-le es χ, length-engines_to first.engines)

      held : (used_first first second ≤ first.engines) × (used_second first second ≤ second.engines)
      held = held-where-cheap first second (best_split first second) (omega (arith, cheap, under))

      least : (used_first first second + used_second first second ≤ uses_first first χ + uses_second first second χ) × (uses_first first χ + uses_second first second χ ≡ used_first first second + used_second first second → used_second first second ≤ uses_second first second χ)
      least =
          cheaper (used_first first second) (used_second first second) (uses_first first χ) (uses_second first second χ)
          (omega (arith, (limits_second first second kinds).engines, at_most))
          (omega (arith, cost-where-held first second (best_split first second) held.0 held.1, cheap))

-- intermediate: the recovery of a column with an empty load for each engine that is left, so that every engine has one

abbrev rows_of : System → ℕ → List (List ℕ)
rows_of y c = recovery (fits_engine y) (ceilings_of y) y.engines c

abbrev each_engine : System → ℕ → List (List ℕ)
each_engine y c = rows_of y c ++ replicate (y.engines - fewest_in y c) empty_load

module _ (y : System) (limits : Limits y) (c : ℕ) (small : c < columns y) (held : fewest_in y c ≤ y.engines) where
  -- there are as many rows as the lowest yes row says, and with the empty loads as many as engines
  length-rows_of : length (rows_of y c) ≡ fewest_in y c
  length-rows_of = length-recovery (fits_engine y) (ceilings_of y) y.engines c

  length-each_engine : length (each_engine y c) ≡ y.engines
  length-each_engine =
      length-append (rows_of y c) (replicate (y.engines - fewest_in y c) empty_load)
      ∙ rw (length-rows_of, length-replicate (y.engines - fewest_in y c) empty_load) (omega arith)

  -- they fit and make up the column's load
  each_engine-shares : Shares (fits_engine y) type_limit (each_engine y c) (load_of (ceilings_of y) c)
  each_engine-shares =
      subst (λ (k : ℕ). Shares (fits_engine y) k (rows_of y c ++ replicate (y.engines - fewest_in y c) (replicate k 0)) (load_of (ceilings_of y) c)) (length-ceilings y limits)
      (padded-shares (fits_engine y) (ceilings_of y) (ground y limits).room y.engines c small held (ground y limits).empty_fits (y.engines - fewest_in y c))

  -- each engine's load fits it
  each_engine-fits : (i : ℕ) → i < y.engines → fits_engine y (get_or (rows_of y c) i empty_load) ≡ true
  each_engine-fits i h =
      subst (λ (x : List ℕ). fits_engine y x ≡ true) (get_or-padded (rows_of y c) (y.engines - fewest_in y c) i empty_load)
      (every-get_or (fits_engine y) (each_engine y c) empty_load i each_engine-shares.all_fit (omega (arith, length-each_engine)))

  -- those of the rows hold an instance, those past them nothing
  rows_of-some : (i : ℕ) → i < fewest_in y c → holds_none (get_or (rows_of y c) i empty_load) ≡ false
  rows_of-some i h =
      not-true (holds_none (get_or (rows_of y c) i empty_load))
      (every-get_or (λ (x : List ℕ). not (holds_none x)) (rows_of y c) empty_load i (recovery-used (fits_engine y) (ceilings_of y) (ground y limits).room y.engines c small held) (omega (arith, length-rows_of)))

  rows_of-idle : (i : ℕ) → fewest_in y c ≤ i → get_or (rows_of y c) i empty_load ≡ empty_load
  rows_of-idle i h = get_or-eq_default (rows_of y c) empty_load (omega (arith, length-rows_of))

-- main: the split that is taken is a good assignment of all instances

module _ (first second : System) (kinds : KindsOf first second) (can : mixed_placeable first second ≡ true) where
  pub mixed-given : MixedGiven first second
  mixed-given = record {
    mapping = carried.mapping;
    assigns = carried.assigns;
    is_good = carried.is_good;
    holds_first = λ i h. on_first carried.mapping carried.holds i (omega (arith, held.0));
    holds_second = λ i h. on_second carried.mapping carried.holds i (omega (arith, held.1));
    idle_first = idle;
    idle_second = λ i h k. on_second carried.mapping carried.holds i k ∙ rows_of-idle second their_limits r their_small held.1 i h;
    some_first = rows_of-some first our_limits p our_small held.0;
    some_second = rows_of-some second their_limits r their_small held.1;
    few_first = held.0;
    few_second = held.1;
    length_first = length-rows_of first our_limits p our_small held.0;
    length_second = length-rows_of second their_limits r their_small held.1;
  }
    where
      m : ℕ
      m = first.engines

      n : ℕ
      n = second.engines

      p : ℕ
      p = best_split first second

      r : ℕ
      r = rest_of first p

      our_limits : Limits first
      our_limits = limits_first first second kinds

      their_limits : Limits second
      their_limits = limits_second first second kinds

      our_small : p < columns first
      our_small = best-inside first second

      their_small : r < columns second
      their_small = rest-small first second kinds p

      held : (used_first first second ≤ m) × (used_second first second ≤ n)
      held = held-where-cheap first second p (ltb-true (split_cost first second p) no_split can)

      -- one load for each engine of both kinds
      ours : List (List ℕ)
      ours = each_engine first p

      theirs : List (List ℕ)
      theirs = each_engine second r

      our_shares : Shares (fits_engine first) type_limit ours (load_of (ceilings_of first) p)
      our_shares = each_engine-shares first our_limits p our_small held.0

      their_shares : Shares (fits_engine second) type_limit theirs (load_of (ceilings_of second) r)
      their_shares = each_engine-shares second their_limits r their_small held.1

      our_length : length ours ≡ m
      our_length = length-each_engine first our_limits p our_small held.0

      their_length : length theirs ≡ n
      their_length = length-each_engine second their_limits r their_small held.1

      count : length (ours ++ theirs) ≡ m + n
      count = length-append ours theirs ∙ rw (our_length, their_length)

      sized : every (λ (x : List ℕ). eqb (length x) type_limit) (ours ++ theirs) ≡ true
      sized = every-++ (λ (x : List ℕ). eqb (length x) type_limit) ours theirs our_shares.sized their_shares.sized

      sums : sum_of type_limit (ours ++ theirs) ≡ ceilings_of first
      sums =
          sum_of-append type_limit ours theirs their_shares.sized
          ∙ rw (our_shares.sums, their_shares.sums, rest-load first second kinds p) (loads-whole (ceilings_of first) p our_small)

      -- the load of engine i + 1, and that of engine m + i + 1
      our_load : (i : ℕ) → i < m → get_or (ours ++ theirs) i empty_load ≡ get_or (loads_first first second) i empty_load
      our_load i h =
          get_or-append ours theirs empty_load i (omega (arith, our_length))
          ∙ get_or-padded (loads_first first second) (m - used_first first second) i empty_load

      their_load : (i : ℕ) → get_or (ours ++ theirs) (m + i) empty_load ≡ get_or (loads_second first second) i empty_load
      their_load i =
          ap (λ (a : ℕ). get_or (ours ++ theirs) (a + i) empty_load) (sym our_length)
          ∙ get_or-append-add ours theirs i empty_load
          ∙ get_or-padded (loads_second first second) (n - used_second first second) i empty_load

      -- an assignment that has these loads has them by kind
      Has : Assignment → Type 0
      Has χ = loads_on (mixed_engines first second) χ ≡ ours ++ theirs

      at : (χ : Assignment) → Has χ → (i : ℕ) → i < m + n → load_on (suc i) χ ≡ get_or (ours ++ theirs) i empty_load
      at χ same i h = sym (get_or-map-engines_to (λ (e : ℕ). load_on e χ) (m + n) i empty_load h) ∙ ap (λ (l : List (List ℕ)). get_or l i empty_load) same

      on_first : (χ : Assignment) → Has χ → (i : ℕ) → i < m → load_on (suc i) χ ≡ get_or (loads_first first second) i empty_load
      on_first χ same i h = at χ same i (omega arith) ∙ our_load i h

      on_second : (χ : Assignment) → Has χ → (i : ℕ) → i < n → load_on (suc (m + i)) χ ≡ get_or (loads_second first second) i empty_load
      on_second χ same i h = at χ same (m + i) (omega arith) ∙ their_load i

      -- so each passes the test of its engine
      fits_first : (χ : Assignment) → Has χ → (e : ℕ) → 1 ≤ e → e ≤ m → fits_engine first (load_on e χ) ≡ true
      fits_first χ same e low high =
          let up : suc (e - 1) ≡ e = omega arith in
          subst (λ (d : ℕ). fits_engine first (load_on d χ) ≡ true) up
          (rw (on_first χ same (e - 1) (omega arith)) (each_engine-fits first our_limits p our_small held.0 (e - 1) (omega arith)))

      fits_second : (χ : Assignment) → Has χ → (e : ℕ) → m < e → e ≤ m + n → fits_engine second (load_on e χ) ≡ true
      fits_second χ same e low high =
          let up : suc (m + (e - suc m)) ≡ e = omega arith in
          subst (λ (d : ℕ). fits_engine second (load_on d χ) ≡ true) up
          (rw (on_second χ same (e - suc m) (omega arith)) (each_engine-fits second their_limits r their_small held.1 (e - suc m) (omega arith)))

      carried : Carried (kind_test first second) (mixed_engines first second) (ours ++ theirs) (ceilings_of first)
      carried =
          tested-carried (kind_test first second) type_limit (mixed_engines first second) (ours ++ theirs) (ceilings_of first)
          (distinct-engines_to (m + n)) (count ∙ sym (length-engines_to (m + n))) sized sums
          (λ χ same. (kinds-tested first second χ).1 (record { on_first = fits_first χ same; on_second = fits_second χ same }))

      idle : (e : ℕ) → used_first first second < e → e ≤ m → load_on e carried.mapping ≡ empty_load
      idle e low high =
          let up : suc (e - 1) ≡ e = omega arith in
          subst (λ (d : ℕ). load_on d carried.mapping ≡ empty_load) up
          (on_first carried.mapping carried.holds (e - 1) (omega arith) ∙ rows_of-idle first our_limits p our_small held.0 (e - 1) (omega arith))
