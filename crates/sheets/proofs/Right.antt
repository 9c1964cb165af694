-- What the checks say of a sheet, in plain words: 32 of any records, 33 and 34 of the records that the sheet states, and all together of assignments.
use Prim.Native.Nat.{ℕ, zero, suc, ◌+◌, ◌-◌, ◌≤◌, ◌<◌}
use mathlib.Core.Path.{◌≡◌, refl, sym, ap, subst, ◌∙◌}
use mathlib.Core.List.{List, []}
use mathlib.Core.Bool.{Bool, true, false}
use mathlib.Core.Logic.{◌↔◌}
use native.Mathlib.Omega.{arith}
use borrow.Author.Tests.{ltb-true, ltb-false, lt-ltb, le-ltb, leb-true}
use lib.ListN.{length, get_or, drop, get_or-eq_default}
use lib.Dec.{leb, ltb, eqb}
use Rattle.system.specs.declared.System.{System}
use Rattle.system.specs.Values.{ceilings_of}
use Rattle.system.specs.Limits.{engine_limit, type_limit, keeps_limits}
use Rattle.system.specs.Layout.{byte_at}
use Rattle.system.proofs.Laws.{limits_of}
use Rattle.loads.proofs.Order.{and_parts, within-refl}
use Rattle.partition.specs.Assignment.{Assignment}
use Rattle.partition.specs.ForSystem.{row_for}
use Rattle.partition.specs.Plain.{used_to}
use Rattle.partition.proofs.Lists.{distinct-engines_to, get_or-padded}
use Rattle.partition.proofs.ForSystem.{length-ceilings, feasible-iff-placeable}
use Rattle.table.proofs.Filled.{length-up_to, get_or-up_to}
use Rattle.planner.specs.declared.EngineRecord.{EngineRecord}
use Rattle.planner.specs.Plan.{plan_engines}
use Rattle.planner.proofs.Cases.{can_place, on-fewest}
use Rattle.board.specs.Boards.{standing_of}
use Rattle.sheets.specs.Sheet.{header_rule, record_rule, field_size, used_in, sheet_bytes, stated_count, stated_counts, taken_at, is_next, loads_from, loads_in}
use Rattle.sheets.specs.Checking.{laid_out, summed_up, added_up, stated_loads, fewer_do}
use Rattle.sheets.specs.Meaning.{sheet_out, GoodForAll, sheet_with, Each, Stated, SumsAndFit, AddUp}
use Rattle.sheets.proofs.Back.{Neat, sheet-back}
use Rattle.sheets.proofs.Stated.{gather, Shaped, bare, along, neat-shaped, gather-sheet, gather-rising, gather-each, spread, length-spread, Left, spread-neat, gather-spread}
use Rattle.sheets.proofs.Sums.{same_numbers, sums-out, totals-out}
use Rattle.sheets.proofs.Assigned.{loads_of, Assigns, assigns-of, sheet-assigned, used-assigned, six-places, on-engines, assigned-neat, length-assigned, assigned-true, assigned-total, true-assigned}

-- intermediate: what is taken from any bytes

pub length-loads_from : (m k : ℕ) (sheet : List ℕ) (at e n : ℕ) → length (loads_from m k sheet at e n) ≡ n
unfolding loads_from
length-loads_from m k sheet at e zero = refl
length-loads_from m k sheet at e (suc n) = ap suc (length-loads_from m k sheet (taken_at m k sheet at e).next (suc e) n)

counts_past : (k : ℕ) (s : List ℕ) (t : ℕ) → k ≤ t → get_or (stated_counts k s) t 0 ≡ 0
counts_past k s t h = go (ltb t type_limit) refl
  where
    go : (b : Bool) → ltb t type_limit ≡ b → get_or (stated_counts k s) t 0 ≡ 0
    go true q = get_or-up_to (stated_count k s) type_limit t (ltb-true t type_limit q) ∙ rw (le-ltb t k h)
    go false q = get_or-eq_default (stated_counts k s) 0 (omega (arith, length-up_to (stated_count k s) type_limit, ltb-false t type_limit q))

module _ (m k : ℕ) (sheet : List ℕ) where
  taken-shaped : (at e n : ℕ) → Shaped m k e (loads_from m k sheet at e n)
  unfolding loads_from taken_at
  taken-shaped at e zero = bare
  taken-shaped at e (suc n) = go (is_next m (drop at sheet) e) refl (taken-shaped (at + field_size record_rule k) (suc e) n) (taken-shaped at (suc e) n)
    where
      go : (b : Bool) → is_next m (drop at sheet) e ≡ b → Shaped m k (suc e) (loads_from m k sheet (at + field_size record_rule k) (suc e) n) → Shaped m k (suc e) (loads_from m k sheet at (suc e) n)
          → Shaped m k e (loads_from m k sheet at e (suc n))
      go true q later kept =
          rw q
          (along {e = e} (length-up_to (stated_count k (drop at sheet)) type_limit) (counts_past k (drop at sheet))
          (λ h. absurd (omega (arith, leb-true e m (and_parts (eqb (byte_at (drop at sheet) 3) e) (leb e m) q).1)))
          later)
      go false q later kept = rw q (along {e = e} refl (λ t h. get_or-padded [] type_limit t 0) (λ h. refl) kept)

-- main: a file that opens, and the records that a sheet states

module _ (y : System) (keeps : keeps_limits y ≡ true) (sheet : List ℕ) where
  abbrev k : ℕ
  k = y.typecount

  few : y.typecount ≤ type_limit
  few = (limits_of y keeps).typecount

  pub length-stated : length (stated_loads y sheet) ≡ engine_limit
  unfolding loads_in
  length-stated = length-loads_from y.engines k sheet (field_size header_rule k) 1 engine_limit

  stated-shaped : Shaped y.engines k 1 (stated_loads y sheet)
  unfolding loads_in
  stated-shaped = taken-shaped y.engines k sheet (field_size header_rule k) 1 engine_limit

  module _ (rs : List EngineRecord) (st : Stated y sheet rs) where
    left : Left y.engines k 0 engine_limit rs
    left = record { rising = st.rising; each = st.each; room = omega (arith, (limits_of y keeps).engines) }

    neat : Neat y.engines k 1 (spread 1 engine_limit rs)
    neat = spread-neat 0 engine_limit rs left

    back : gather 1 (spread 1 engine_limit rs) ≡ rs
    back = gather-spread 0 engine_limit rs left

    sheet-is : sheet ≡ sheet_bytes k (spread 1 engine_limit rs)
    sheet-is = st.bytes ∙ sym (gather-sheet few (neat-shaped neat) ∙ ap (sheet_with k) back)

    loads-are : stated_loads y sheet ≡ spread 1 engine_limit rs
    loads-are = ap (loads_in y.engines k) sheet-is ∙ sheet-back y.engines k few neat (length-spread 1 engine_limit rs)

    pub stated-layout : laid_out k sheet (stated_loads y sheet) ≡ true
    stated-layout = (same_numbers sheet (sheet_bytes k (stated_loads y sheet))).1 (sheet-is ∙ ap (sheet_bytes k) (sym loads-are))

    pub stated-sums : (summed_up y (stated_loads y sheet) ≡ true) ↔ Each (SumsAndFit y) rs
    stated-sums = rw loads-are (subst (λ (r : List EngineRecord). (summed_up y (spread 1 engine_limit rs) ≡ true) ↔ Each (SumsAndFit y) r) back (sums-out y (limits_of y keeps) neat))

    pub stated-totals : (added_up y (stated_loads y sheet) ≡ true) ↔ AddUp y rs
    stated-totals = rw loads-are (subst (λ (r : List EngineRecord). (added_up y (spread 1 engine_limit rs) ≡ true) ↔ AddUp y r) back (totals-out y (limits_of y keeps) neat))

  pub layout-stated : laid_out k sheet (stated_loads y sheet) ≡ true → Stated y sheet (gather 1 (stated_loads y sheet))
  layout-stated h = record {
    bytes = (same_numbers sheet (sheet_bytes k (stated_loads y sheet))).0 h ∙ gather-sheet few stated-shaped;
    rising = gather-rising stated-shaped;
    each = gather-each stated-shaped;
  }

  -- main: and assignments

  -- all checks pass
  pub record Passed : Type 0 where
    pub layout : laid_out y.typecount sheet (stated_loads y sheet) ≡ true
    pub sums : summed_up y (stated_loads y sheet) ≡ true
    pub totals : added_up y (stated_loads y sheet) ≡ true

  -- the sheet is that of a good assignment of all instances, and these are the loads that it states
  pub record Sheet (χ : Assignment) : Type 0 where
    pub assigns : Assigns y χ
    pub bytes : sheet ≡ sheet_out y χ
    pub loads : stated_loads y sheet ≡ loads_of y χ

  pub passed-sheet : Passed → (χ : Assignment) × Sheet χ
  passed-sheet p =
      let (χ, a, is) = true-assigned y (stated_loads y sheet) keeps length-stated p.sums ((same_numbers (standing_of (stated_loads y sheet)) (ceilings_of y)).0 p.totals) in
      let bytes = (same_numbers sheet (sheet_bytes k (stated_loads y sheet))).0 p.layout ∙ ap (sheet_bytes k) is ∙ sheet-assigned y (limits_of y keeps) χ (six-places y keeps χ a) (on-engines y keeps χ a) in
      (χ, record { assigns = a; bytes = bytes; loads = is })

  pub sheet-of : (χ : Assignment) → GoodForAll y χ → sheet ≡ sheet_out y χ → Sheet χ
  sheet-of χ good is =
      let a = assigns-of y (limits_of y keeps) χ good in
      let bytes = is ∙ sym (sheet-assigned y (limits_of y keeps) χ (six-places y keeps χ a) (on-engines y keeps χ a)) in
      record { assigns = a; bytes = is; loads = ap (loads_in y.engines k) bytes ∙ sheet-back y.engines k few (assigned-neat y keeps χ a) (length-assigned y keeps χ a) }

  pub sheet-passed : (χ : Assignment) → Sheet χ → Passed
  sheet-passed χ s =
      let a = s.assigns in
      let whole = s.bytes ∙ sym (sheet-assigned y (limits_of y keeps) χ (six-places y keeps χ a) (on-engines y keeps χ a)) ∙ ap (sheet_bytes k) (sym s.loads) in
      record {
        layout = (same_numbers sheet (sheet_bytes k (stated_loads y sheet))).1 whole;
        sums = rw (s.loads, assigned-true y keeps χ a);
        totals = (same_numbers (standing_of (stated_loads y sheet)) (ceilings_of y)).1 (ap standing_of s.loads ∙ assigned-total y keeps χ a);
      }

  -- main: whether fewer engines would do

  module _ (χ : Assignment) (s : Sheet χ) where
    pub can : can_place y ≡ true
    can =
        (feasible-iff-placeable y (limits_of y keeps) (plan_engines y) (distinct-engines_to y.engines) (ceilings_of y) (length-ceilings y (limits_of y keeps)) (within-refl (ceilings_of y))
        ).0 (record { mapping = χ; assigns = s.assigns.all; is_good = s.assigns.is_good })

    -- the header says how many engines are used
    used-said : used_in (stated_loads y sheet) ≡ get_or sheet 3 0
    used-said =
        ap used_in s.loads
        ∙ used-assigned y (limits_of y keeps) χ (six-places y keeps χ s.assigns) (on-engines y keeps χ s.assigns)
        ∙ ap (λ (l : List ℕ). get_or l 3 0) (sym s.bytes)

    pub fewer-out : (fewer_do y sheet ≡ true) ↔ ((χ' : Assignment) × GoodForAll y χ' × (used_to y.engines χ' < get_or sheet 3 0))
    fewer-out = (there, back)
      where
        there : fewer_do y sheet ≡ true → (χ' : Assignment) × GoodForAll y χ' × (used_to y.engines χ' < get_or sheet 3 0)
        there h =
            let f = on-fewest y (limits_of y keeps) can in
            let less = ltb-true (row_for y (plan_engines y) (ceilings_of y)) (used_in (stated_loads y sheet)) h in
            (f.stands.mapping, f.stands.partition, omega (arith, f.uses, less, used-said))

        back : (χ' : Assignment) × GoodForAll y χ' × (used_to y.engines χ' < get_or sheet 3 0) → fewer_do y sheet ≡ true
        back (χ', good, less) =
            lt-ltb (row_for y (plan_engines y) (ceilings_of y)) (used_in (stated_loads y sheet)) (omega (arith, (on-fewest y (limits_of y keeps) can).fewest χ' good, less, used-said))
