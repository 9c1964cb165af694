-- The theorems for a system within the limits, a list es of distinct engines and a load x within the ceilings: the cells decide whether x can be placed on es,
-- as brute force does, and the recovery of x onto es is a good assignment of it on the fewest of them.
use Prim.Native.Nat.{ℕ, suc, ◌+◌, ◌≤◌, ◌<◌}
use mathlib.Core.Path.{◌≡◌, refl, sym, ap, subst, ◌∙◌}
use mathlib.Core.List.{List, ◌++◌, map}
use mathlib.Core.Bool.{Bool, true, false}
use mathlib.Core.Logic.{◌↔◌}
use native.Mathlib.Numerals.{add-one}
use native.Mathlib.Omega.{arith}
use borrow.Author.Tests.{leb-true, le-leb}
use lib.ListN.{length, replicate, get_or, length-map, get_or-map}
use Rattle.system.specs.declared.TaskType.{TaskType}
use Rattle.system.specs.declared.System.{System}
use Rattle.system.specs.Values.{ceilings_of}
use Rattle.system.specs.Limits.{type_limit, columns_of}
use Rattle.system.proofs.Laws.{Limits}
use Rattle.loads.specs.declared.EngineLoad.{EngineLoad}
use Rattle.loads.specs.Load.{fits_engine, within, empty_load, engine_with, idle_engine}
use Rattle.loads.specs.Column.{column_of, load_of}
use Rattle.loads.proofs.Laws.{zeros-fit, engine_with-idle}
use Rattle.loads.proofs.Column.{load_of-column_of, column_of-lt}
use Rattle.partition.specs.Assignment.{Assignment, load_on, assigned, among, every, used_of, engines_to, some_good}
use Rattle.partition.specs.Shares.{distinct, loads_on, used_loads, row_on, Shares, Carried, Recovered, Assumed}
use Rattle.partition.specs.ForSystem.{good_on, FeasibleOn, row_for, placeable, rows_for, recovered_for, Placed, OnFewest}
use Rattle.partition.proofs.Lists.{distinct-engines_to, length-engines_to, get_or-map-engines_to, get_or-padded}
use Rattle.partition.proofs.Shares.{carried-at, good-parts, good-shares, used_of-loads_on}
use Rattle.partition.proofs.Engines.{map_same, good-wider, used_of-wider, on_engines-more, on_engines-past}
use Rattle.partition.proofs.Recovery.{length-recovery}
use Rattle.partition.proofs.Brute.{some_good-iff-feasible}
use Rattle.partition.proofs.Theorems.{fewest, recovery-good, feasible-iff-row, loads-carried}

-- intermediate

same_test : (a b : Bool) → (a ≡ true → b ≡ true) → (b ≡ true → a ≡ true) → a ≡ b
same_test true b f g = sym (f refl)
same_test false true f g = g refl
same_test false false f g = refl

-- an engine's record from the loads
records-hold : (y : System) (loads : List (List ℕ)) (χ : Assignment) (i : ℕ) → load_on (suc i) χ ≡ get_or loads i empty_load → get_or (map (engine_with y) loads) i idle_engine ≡ engine_with y (load_on (i + 1) χ)
records-hold y loads χ i h =
    subst (λ (d : EngineLoad). get_or (map (engine_with y) loads) i d ≡ engine_with y (load_on (i + 1) χ)) (engine_with-idle y)
    (get_or-map (engine_with y) loads i empty_load ∙ ap (engine_with y) (rw (add-one i) (sym h)))

module _ (y : System) (limits : Limits y) where
  pub length-ceilings : length (ceilings_of y) ≡ type_limit
  length-ceilings = length-map y.types (λ (t : TaskType). t.ceiling) ∙ limits.six

  pub ground : Assumed (fits_engine y) (ceilings_of y)
  ground = record { empty_fits = zeros-fit y (length (ceilings_of y)); room = omega (arith, limits.columns) }

  module _ (es : List ℕ) (apart : distinct es ≡ true) (x : List ℕ) (six : length x ≡ type_limit) (inside : within x (ceilings_of y) ≡ true) where
    pub column-small : column_of (ceilings_of y) x < columns_of (ceilings_of y)
    column-small = column_of-lt (ceilings_of y) x inside

    pub column-load : load_of (ceilings_of y) (column_of (ceilings_of y) x) ≡ x
    column-load = load_of-column_of (ceilings_of y) x (six ∙ sym length-ceilings) inside

    -- main: the cells and brute force decide the same

    pub feasible-iff-placeable : FeasibleOn y es x ↔ (placeable y es x ≡ true)
    feasible-iff-placeable =
        let e = feasible-iff-row (fits_engine y) (ceilings_of y) ground es (column_of (ceilings_of y) x) apart column-small in
        ((λ f. le-leb (row_for y es x) (length es) (e.0 (rw column-load f))), (λ h. rw column-load at (e.1 (leb-true (row_for y es x) (length es) h))))

    pub some_good-placeable : some_good (λ (e : ℕ). fits_engine y) es x ≡ placeable y es x
    some_good-placeable =
        let e = some_good-iff-feasible (λ (d : ℕ). fits_engine y) es x in
        same_test (some_good (λ (d : ℕ). fits_engine y) es x) (placeable y es x)
        (λ h. feasible-iff-placeable.0 (e.0 h))
        (λ h. e.1 (feasible-iff-placeable.1 h))

    -- main: no good assignment uses fewer engines

    pub fewest-for : (χ : Assignment) → assigned χ ≡ x → good_on y es χ ≡ true → row_for y es x ≤ used_of es χ
    fewest-for χ a h =
        fewest (fits_engine y) (ceilings_of y) ground (length es) (column_of (ceilings_of y) x) es χ column-small apart h (a ∙ sym column-load)

    -- main: the recovery

    module _ (can : placeable y es x ≡ true) where
      pub row-found : row_for y es x ≤ length es
      row-found = leb-true (row_for y es x) (length es) can

      -- the assignment that it stands for
      pub recovery-for : Recovered (fits_engine y) (ceilings_of y) es (column_of (ceilings_of y) x)
      recovery-for = recovery-good (fits_engine y) (ceilings_of y) ground es (column_of (ceilings_of y) x) apart column-small row-found

      recovery-assigns : assigned recovery-for.mapping ≡ x
      recovery-assigns = recovery-for.assigns ∙ column-load

      recovery-types : length recovery-for.mapping ≡ type_limit
      recovery-types = sym (length-map recovery-for.mapping length) ∙ ap length recovery-assigns ∙ six

      -- what it sends to engine e is the row of e
      pub recovery-on : (e : ℕ) → load_on e recovery-for.mapping ≡ row_on empty_load es (rows_for y es x) e
      recovery-on e = recovery-for.holds e ∙ ap (λ (k : ℕ). row_on (replicate k 0) es (rows_for y es x) e) length-ceilings

      -- the loads of the engines 1 to `all` are those of the assignment
      pub recovered_for-loads : (all : ℕ) → loads_on (engines_to all) recovery-for.mapping ≡ recovered_for all y es x
      recovered_for-loads all = map_same (λ (e : ℕ). load_on e recovery-for.mapping) (row_on empty_load es (rows_for y es x)) recovery-on (engines_to all)

      pub length-recovered_for : (all : ℕ) → length (recovered_for all y es x) ≡ all
      length-recovered_for all = length-map (engines_to all) (row_on empty_load es (rows_for y es x)) ∙ length-engines_to all

      pub recovered_for-at : (all j : ℕ) → j < all → load_on (suc j) recovery-for.mapping ≡ get_or (recovered_for all y es x) j empty_load
      recovered_for-at all j h = recovery-on (suc j) ∙ sym (get_or-map-engines_to (row_on empty_load es (rows_for y es x)) all j empty_load h)

      -- the recovered loads as engine records are a good assignment of x on the fewest engines
      pub recovered-on-fewest : (all : ℕ) → OnFewest y es x (map (engine_with y) (recovered_for all y es x)) (row_for y es x)
      recovered-on-fewest all = record {
        placed = record {
          mapping = recovery-for.mapping;
          assigns = recovery-assigns;
          is_good = recovery-for.is_good;
          holds = λ i h. records-hold y (recovered_for all y es x) recovery-for.mapping i (recovered_for-at all i (within_all all i h));
        };
        uses = recovery-for.uses;
        fewest = fewest-for;
      }
        where
          within_all : (all i : ℕ) → i < length (map (engine_with y) (recovered_for all y es x)) → i < all
          within_all all i h = omega (arith, length-map (recovered_for all y es x) (engine_with y), length-recovered_for all)

      -- where the engines es are among 1 to `all`

      module _ (all : ℕ) (known : every (among (engines_to all)) es ≡ true) where
        -- the loads fit and make up x
        pub recovered_for-shares : Shares (fits_engine y) type_limit (recovered_for all y es x) x
        recovered_for-shares =
            let χ = recovery-for.mapping in
            subst (λ (k : ℕ). Shares (fits_engine y) k (recovered_for all y es x) x) recovery-types
            (subst (λ (l : List (List ℕ)). Shares (fits_engine y) (length χ) l x) (recovered_for-loads all)
            (subst (Shares (fits_engine y) (length χ) (loads_on (engines_to all) χ)) recovery-assigns
            (good-shares (fits_engine y) (engines_to all) χ (distinct-engines_to all)
            (good-wider (fits_engine y) es (engines_to all) χ known (zeros-fit y (length χ)) recovery-for.is_good))))

        -- as many of them are used as the lowest yes row says
        pub recovered_for-uses : used_loads (recovered_for all y es x) ≡ row_for y es x
        recovered_for-uses =
            let χ = recovery-for.mapping in
            ap used_loads (sym (recovered_for-loads all))
            ∙ sym (used_of-loads_on (engines_to all) χ)
            ∙ used_of-wider es (engines_to all) χ apart (distinct-engines_to all) known (good-parts (λ (e : ℕ). fits_engine y) es χ recovery-for.is_good).0
            ∙ recovery-for.uses

        -- with more engines there are more empty ones
        pub recovered_for-more : (n : ℕ) → recovered_for (all + n) y es x ≡ recovered_for all y es x ++ replicate n empty_load
        recovered_for-more n = on_engines-more empty_load all n es (rows_for y es x) known

-- main: with row i on engine i, the engines past the lowest yes row hold nothing

pub recovered_for-past : (y : System) (m : ℕ) (x : List ℕ) (all j : ℕ) → row_for y (engines_to m) x ≤ j → get_or (recovered_for all y (engines_to m) x) j empty_load ≡ empty_load
recovered_for-past y m x all j h =
    on_engines-past empty_load all m (rows_for y (engines_to m) x) j
    (rw (length-recovery (fits_engine y) (ceilings_of y) (length (engines_to m)) (column_of (ceilings_of y) x)) h)

-- main: loads by engine as engine records

-- one load for each of the engines 1 to m, and nothing past them, are a good assignment of what they sum to
pub shares-placed : (y : System) (m : ℕ) (loads : List (List ℕ)) (n : ℕ) (x : List ℕ) → length loads ≡ m → length x ≡ type_limit → Shares (fits_engine y) type_limit loads x → Placed y (engines_to m) x (map (engine_with y) (loads ++ replicate n empty_load))
shares-placed y m loads n x l six s = record {
  mapping = a.mapping;
  assigns = a.assigns;
  is_good = a.is_good;
  holds = λ i h. records-hold y (loads ++ replicate n empty_load) a.mapping i (at i);
}
  where
    a : Carried (λ (e : ℕ). fits_engine y) (engines_to m) loads x
    a = loads-carried (fits_engine y) type_limit m loads x l s

    at : (j : ℕ) → load_on (suc j) a.mapping ≡ get_or (loads ++ replicate n empty_load) j empty_load
    at j =
        subst (λ (k : ℕ). load_on (suc j) a.mapping ≡ get_or loads j (replicate k 0)) six (carried-at (λ (e : ℕ). fits_engine y) m loads x a j)
        ∙ sym (get_or-padded loads n j empty_load)

pub placed-feasible : {y : System} {es x : List ℕ} {loads : List EngineLoad} → Placed y es x loads → FeasibleOn y es x
placed-feasible p = record { mapping = p.mapping; assigns = p.assigns; is_good = p.is_good }
