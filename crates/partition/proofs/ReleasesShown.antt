-- Worked examples of request 2026-09, by computation: the sum is met and the larger is met, so that neither bound can be closer; and what each rule needs of one load.
use Prim.Native.Nat.{ℕ, zero, suc, ◌+◌, ◌-◌, ◌≤◌, zero-le}
use mathlib.Core.Path.{◌≡◌, refl}
use mathlib.Core.Bool.{true, false, ◌||◌, false≢true}
use mathlib.Core.Logic.{⊎_elim}
use native.Mathlib.Nat.{le_refl}
use native.Mathlib.Omega.{arith}
use borrow.Author.Tests.{eqb-true}
use lib.ListN.{get_or}
use lib.Dec.{eqb}
use Rattle.system.specs.Limits.{columns_of, kinds_agree}
use Rattle.system.specs.Layout.{rule_of, platform_from, type_from, data_from, most_from, ruled_head, head_of, body_of, ruled_field, field_of, end_of, fields_from, read_card, of_one_kind, read_file, opened}
use Rattle.loads.specs.Load.{sum_over, apart, fits_engine, within, less}
use Rattle.loads.specs.Column.{column_from, load_of}
use Rattle.partition.specs.Assignment.{among}
use Rattle.partition.specs.OwnWords.{no_type, type_at}
use Rattle.partition.specs.Shares.{distinct}
use Rattle.partition.specs.Cell.{lowest, precedes, cell, lowest_row}
use Rattle.partition.specs.Plain.{EngineOf}
use Rattle.partition.specs.Releases.{Bounds, NoMore, Serving, AddsWithin, SameButCeilings, BothReleases, SheetsAdd}
use Rattle.partition.specs.ReleaseCases.{file_a, system_a, load_with, row_a, row_b, one_and_three, all_three, file_of_q, file_q, system_q, half_q, row_q}
use Rattle.partition.proofs.Lists.{or_cases}
use Rattle.partition.proofs.Releases.{two-releases}
use Rattle.partition.proofs.ReleaseSheets.{sheets-add}

-- system A with engine 2 out of service: two of type 1 need one engine, one of type 1 and two of type 2 need one; both need two, the sum
rows-sum : (row_a one_and_three 2 0 ≡ 1) × (row_a one_and_three 1 2 ≡ 1) × (row_a one_and_three 3 2 ≡ 2)
unfolding columns_of rule_of platform_from type_from data_from ruled_head head_of body_of ruled_field field_of end_of fields_from read_card of_one_kind kinds_agree read_file sum_over apart fits_engine within less column_from load_of lowest precedes cell lowest_row
rows-sum = (refl, refl, refl)

-- all engines in service: two of type 1 and one of type 2 need two engines, one of type 2 needs one; both need two, the larger
rows-larger : (row_a all_three 2 1 ≡ 2) × (row_a all_three 0 1 ≡ 1) × (row_a all_three 2 2 ≡ 2)
unfolding columns_of rule_of platform_from type_from data_from ruled_head head_of body_of ruled_field field_of end_of fields_from read_card of_one_kind kinds_agree read_file sum_over apart fits_engine within less column_from load_of lowest precedes cell lowest_row
rows-larger = (refl, refl, refl)

-- both bounds hold of these numbers; that each is met is `rows-sum` and `rows-larger`
pub sum-met : Bounds (row_a one_and_three 2 0) (row_a one_and_three 1 2) (row_a one_and_three 3 2)
sum-met = rw (rows-sum.0, rows-sum.1, rows-sum.2) (record { at_most = omega arith; at_least = omega arith })

pub larger-met : Bounds (row_a all_three 2 1) (row_a all_three 0 1) (row_a all_three 2 2)
larger-met = rw (rows-larger.0, rows-larger.1, rows-larger.2) (record { at_most = omega arith; at_least = omega arith })

-- intermediate: the theorem applied to these numbers

reads-A : read_file file_a ≡ opened system_a
unfolding columns_of rule_of platform_from type_from data_from ruled_head head_of body_of ruled_field field_of end_of fields_from read_card of_one_kind kinds_agree read_file
reads-A = refl

one-or-three : (e : ℕ) → among one_and_three e ≡ true → EngineOf system_a e
unfolding columns_of rule_of platform_from type_from data_from ruled_head head_of body_of ruled_field field_of end_of fields_from read_card of_one_kind kinds_agree read_file among
one-or-three e h =
    ⊎_elim
    (λ q. let is = eqb-true 1 e q in (omega arith, omega arith))
    (λ r. ⊎_elim (λ q. let is = eqb-true 3 e q in (omega arith, omega arith)) (λ q. absurd (false≢true q)) (or_cases (eqb 3 e) false r))
    (or_cases (eqb 1 e) (eqb 3 e || false) h)

served-A : Serving system_a one_and_three
served-A = record { once = unfold distinct among in refl; engines = one-or-three }

adds-at : (a b c d i : ℕ) → get_or (load_with (a + c) (b + d)) i 0 ≡ get_or (load_with a b) i 0 + get_or (load_with c d) i 0
adds-at a b c d zero = refl
adds-at a b c d (suc zero) = refl
adds-at a b c d (suc (suc zero)) = refl
adds-at a b c d (suc (suc (suc zero))) = refl
adds-at a b c d (suc (suc (suc (suc zero)))) = refl
adds-at a b c d (suc (suc (suc (suc (suc zero))))) = refl
adds-at a b c d (suc (suc (suc (suc (suc (suc i)))))) = refl

inside-at : (i : ℕ) → get_or (load_with 3 2) i 0 ≤ (get_or system_a.types i no_type).ceiling
unfolding columns_of rule_of platform_from type_from data_from ruled_head head_of body_of ruled_field field_of end_of fields_from read_card of_one_kind kinds_agree read_file
inside-at zero = le_refl 3
inside-at (suc zero) = le_refl 2
inside-at (suc (suc zero)) = zero-le
inside-at (suc (suc (suc zero))) = zero-le
inside-at (suc (suc (suc (suc zero)))) = zero-le
inside-at (suc (suc (suc (suc (suc zero))))) = zero-le
inside-at (suc (suc (suc (suc (suc (suc i)))))) = zero-le

adds-A : AddsWithin system_a (load_with 2 0) (load_with 1 2) (load_with 3 2)
adds-A = record {
  six = (refl, refl);
  sums = λ t low. adds-at 2 0 1 2 (t - 1);
  inside = record { six = refl; ceilings = λ t low. inside-at (t - 1) };
}

-- main: two engines are in service and one each is needed, so that the sum is just the engines in service: the theorem says so much there
pub sum_by : Bounds (row_a one_and_three 2 0) (row_a one_and_three 1 2) (row_a one_and_three 3 2)
sum_by = (two-releases file_a system_a reads-A one_and_three served-A).rows (load_with 2 0) (load_with 1 2) (load_with 3 2) adds-A (rw (rows-sum.0, rows-sum.1) (omega arith))

-- four instances of system B: own copies need four engines; shared code needs one without data, two with a d of 1, and four with a d of 3, as many as own copies
rules-shown : ((row_b 0 0 ≡ 4) × (row_b 1 0 ≡ 1)) × ((row_b 0 1 ≡ 4) × (row_b 1 1 ≡ 2)) × ((row_b 0 3 ≡ 4) × (row_b 1 3 ≡ 4))
unfolding columns_of rule_of platform_from type_from data_from ruled_head head_of body_of ruled_field field_of end_of fields_from read_card of_one_kind kinds_agree read_file sum_over apart fits_engine within less column_from load_of lowest precedes cell lowest_row
rules-shown = ((refl, refl), (refl, refl), (refl, refl))

pub rules-met : NoMore (row_b 1 0) (row_b 0 0) × NoMore (row_b 1 1) (row_b 0 1) × NoMore (row_b 1 3) (row_b 0 3)
rules-met =
    let r = rules-shown in
    (rw (r.0.0, r.0.1) (omega arith), rw (r.1.0, r.1.1) (omega arith), rw (r.2.0, r.2.1) (omega arith))

-- the same under rule 1, of a type with d and with q 2: two of it need one engine, and four just the two in service
rows-Q : (row_q 2 ≡ 1) × (row_q 4 ≡ 2)
unfolding columns_of rule_of platform_from type_from data_from most_from ruled_head head_of body_of ruled_field field_of end_of fields_from read_card of_one_kind kinds_agree read_file sum_over apart fits_engine within less column_from load_of lowest precedes cell lowest_row
rows-Q = (refl, refl)

reads-Q : read_file file_q ≡ opened system_q
unfolding columns_of rule_of platform_from type_from data_from most_from ruled_head head_of body_of ruled_field field_of end_of fields_from read_card of_one_kind kinds_agree read_file
reads-Q = refl

one-or-three-Q : (e : ℕ) → among one_and_three e ≡ true → EngineOf system_q e
unfolding columns_of rule_of platform_from type_from data_from most_from ruled_head head_of body_of ruled_field field_of end_of fields_from read_card of_one_kind kinds_agree read_file among
one-or-three-Q e h =
    ⊎_elim
    (λ q. let is = eqb-true 1 e q in (omega arith, omega arith))
    (λ r. ⊎_elim (λ q. let is = eqb-true 3 e q in (omega arith, omega arith)) (λ q. absurd (false≢true q)) (or_cases (eqb 3 e) false r))
    (or_cases (eqb 1 e) (eqb 3 e || false) h)

served-Q : Serving system_q one_and_three
served-Q = record { once = unfold distinct among in refl; engines = one-or-three-Q }

inside-Q : (i : ℕ) → get_or (load_with 4 0) i 0 ≤ (get_or system_q.types i no_type).ceiling
unfolding columns_of rule_of platform_from type_from data_from most_from ruled_head head_of body_of ruled_field field_of end_of fields_from read_card of_one_kind kinds_agree read_file
inside-Q zero = le_refl 4
inside-Q (suc zero) = zero-le
inside-Q (suc (suc zero)) = zero-le
inside-Q (suc (suc (suc zero))) = zero-le
inside-Q (suc (suc (suc (suc zero)))) = zero-le
inside-Q (suc (suc (suc (suc (suc zero))))) = zero-le
inside-Q (suc (suc (suc (suc (suc (suc i)))))) = zero-le

adds-Q : AddsWithin system_q (load_with 2 0) (load_with 2 0) (load_with 4 0)
adds-Q = record {
  six = (refl, refl);
  sums = λ t low. adds-at 2 0 2 0 (t - 1);
  inside = record { six = refl; ceilings = λ t low. inside-Q (t - 1) };
}

pub sum-by-Q : Bounds (row_q 2) (row_q 2) (row_q 4)
sum-by-Q = (two-releases file_q system_q reads-Q one_and_three served-Q).rows (load_with 2 0) (load_with 2 0) (load_with 4 0) adds-Q (rw rows-Q.0 (omega arith))

-- two files of half the instances each and the one with all of them: what `sheets-add` asks of them is no more than this
time-Q : (i : ℕ) → (type_at half_q i).time ≡ (type_at system_q i).time
unfolding columns_of rule_of platform_from type_from data_from most_from ruled_head head_of body_of ruled_field field_of end_of fields_from read_card of_one_kind kinds_agree read_file
time-Q zero = refl
time-Q (suc zero) = refl
time-Q (suc (suc zero)) = refl
time-Q (suc (suc (suc zero))) = refl
time-Q (suc (suc (suc (suc zero)))) = refl
time-Q (suc (suc (suc (suc (suc zero))))) = refl
time-Q (suc (suc (suc (suc (suc (suc i)))))) = refl

memory-Q : (i : ℕ) → (type_at half_q i).memory ≡ (type_at system_q i).memory
unfolding columns_of rule_of platform_from type_from data_from most_from ruled_head head_of body_of ruled_field field_of end_of fields_from read_card of_one_kind kinds_agree read_file
memory-Q zero = refl
memory-Q (suc zero) = refl
memory-Q (suc (suc zero)) = refl
memory-Q (suc (suc (suc zero))) = refl
memory-Q (suc (suc (suc (suc zero)))) = refl
memory-Q (suc (suc (suc (suc (suc zero))))) = refl
memory-Q (suc (suc (suc (suc (suc (suc i)))))) = refl

data-Q : (i : ℕ) → (type_at half_q i).data ≡ (type_at system_q i).data
unfolding columns_of rule_of platform_from type_from data_from most_from ruled_head head_of body_of ruled_field field_of end_of fields_from read_card of_one_kind kinds_agree read_file
data-Q zero = refl
data-Q (suc zero) = refl
data-Q (suc (suc zero)) = refl
data-Q (suc (suc (suc zero))) = refl
data-Q (suc (suc (suc (suc zero)))) = refl
data-Q (suc (suc (suc (suc (suc zero))))) = refl
data-Q (suc (suc (suc (suc (suc (suc i)))))) = refl

most-Q : (i : ℕ) → (type_at half_q i).most ≡ (type_at system_q i).most
unfolding columns_of rule_of platform_from type_from data_from most_from ruled_head head_of body_of ruled_field field_of end_of fields_from read_card of_one_kind kinds_agree read_file
most-Q zero = refl
most-Q (suc zero) = refl
most-Q (suc (suc zero)) = refl
most-Q (suc (suc (suc zero))) = refl
most-Q (suc (suc (suc (suc zero)))) = refl
most-Q (suc (suc (suc (suc (suc zero))))) = refl
most-Q (suc (suc (suc (suc (suc (suc i)))))) = refl

there-Q : (i : ℕ) → (type_at half_q i).there ≡ (type_at system_q i).there
unfolding columns_of rule_of platform_from type_from data_from most_from ruled_head head_of body_of ruled_field field_of end_of fields_from read_card of_one_kind kinds_agree read_file
there-Q zero = refl
there-Q (suc zero) = refl
there-Q (suc (suc zero)) = refl
there-Q (suc (suc (suc zero))) = refl
there-Q (suc (suc (suc (suc zero)))) = refl
there-Q (suc (suc (suc (suc (suc zero))))) = refl
there-Q (suc (suc (suc (suc (suc (suc i)))))) = refl

sums-Q : (i : ℕ) → (type_at system_q i).ceiling ≡ (type_at half_q i).ceiling + (type_at half_q i).ceiling
unfolding columns_of rule_of platform_from type_from data_from most_from ruled_head head_of body_of ruled_field field_of end_of fields_from read_card of_one_kind kinds_agree read_file
sums-Q zero = refl
sums-Q (suc zero) = refl
sums-Q (suc (suc zero)) = refl
sums-Q (suc (suc (suc zero))) = refl
sums-Q (suc (suc (suc (suc zero)))) = refl
sums-Q (suc (suc (suc (suc (suc zero))))) = refl
sums-Q (suc (suc (suc (suc (suc (suc i)))))) = refl

alike-Q : SameButCeilings system_q half_q
unfolding columns_of rule_of platform_from type_from data_from most_from ruled_head head_of body_of ruled_field field_of end_of fields_from read_card of_one_kind kinds_agree read_file
alike-Q = record {
  engines = refl;
  rule = refl;
  timecap = refl;
  memorycap = refl;
  typecount = refl;
  times = λ t low. time-Q (t - 1);
  codes = λ t low. memory-Q (t - 1);
  datas = λ t low. data-Q (t - 1);
  mosts = λ t low. most-Q (t - 1);
  theres = λ t low. there-Q (t - 1);
  second = refl;
}

reads-half : read_file (file_of_q 2) ≡ opened half_q
unfolding columns_of rule_of platform_from type_from data_from most_from ruled_head head_of body_of ruled_field field_of end_of fields_from read_card of_one_kind kinds_agree read_file
reads-half = refl

pub sheets-by-Q : SheetsAdd half_q half_q system_q
sheets-by-Q =
    sheets-add (file_of_q 2) (file_of_q 2) file_q half_q half_q system_q reads-half reads-half reads-Q
    (record { alike_first = alike-Q; alike_second = alike-Q; sums = λ t low. sums-Q (t - 1) })
