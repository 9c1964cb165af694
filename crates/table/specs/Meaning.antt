-- What a filled table says, in plain words, and what the calls that fill one promise.
use Rattle.std.specs.Prelude.{ℕ, zero, suc, ◌+◌, ◌-◌, ◌*◌, ◌/◌, ◌≤◌, ◌<◌, List, [], ◌∷◌, Bool, true, cond, ◌&&◌, ◌||◌, ◌≡◌, ◌↔◌, ◌⊎◌, length, get_or, leb, ltb}
use Rattle.system.specs.declared.System.{System}
use Rattle.system.specs.Outcome.{Answer, Outcome, Source, accepted, refused, from_input, outcome_of}
use Rattle.system.specs.Values.{ceilings_of}
use Rattle.system.specs.declared.Kind.{Kind}
use Rattle.system.specs.Layout.{Reading, opened, unread}
use Rattle.system.specs.Card.{Card, plain, mixed}
use Rattle.loads.specs.Column.{load_of}
use Rattle.partition.specs.ForSystem.{cell_for}
use Rattle.partition.specs.Lent.{Lent}
use Rattle.partition.specs.Plain.{type_no, ceiling_no, columns_out, LongEnough, TooShort, Impossible}
use Rattle.table.specs.Table.{fill_outcome, fill_table, fill_card_outcome, fill_card_table, columns_needed}

-- how many instances of type t, counted from 1, the load of column c has
abbrev pub count_in : System → ℕ → ℕ → ℕ
count_in y c t = get_or (load_of (ceilings_of y) c) (t - 1) 0

-- the stride of the type after the first t: "stride(1) = 1 and stride(t+1) = stride(t) × (n(t)+1)"
unfoldable pub stride_after : System → ℕ → ℕ
stride_after y zero = 1
stride_after y (suc t) = stride_after y t * (ceiling_no y (suc t) + 1)

-- "column = sum of count(t) × stride(t)", over the six types
abbrev pub column_no : System → (ℕ → ℕ) → ℕ
column_no y count =
    count 1 * stride_after y 0
    + (count 2 * stride_after y 1 + (count 3 * stride_after y 2 + (count 4 * stride_after y 3 + (count 5 * stride_after y 4 + count 6 * stride_after y 5))))

-- "no greater count": of none of the six types does column p have more instances than column c
abbrev pub no_greater : System → ℕ → ℕ → Bool
no_greater y p c =
    leb (count_in y p 1) (count_in y c 1)
    && leb (count_in y p 2) (count_in y c 2)
    && leb (count_in y p 3) (count_in y c 3)
    && leb (count_in y p 4) (count_in y c 4)
    && leb (count_in y p 5) (count_in y c 5)
    && leb (count_in y p 6) (count_in y c 6)

-- the row and the predecessor of column c
abbrev pub row_of : Lent → ℕ → ℕ
row_of table c = get_or table.rows c 0

abbrev pub predecessor_of : Lent → ℕ → ℕ
predecessor_of table c = get_or table.predecessors c 0

-- of the lowest yes row i of column c, by the table itself: column p "such that the load of c' has no count above that of c, row i-1 says yes at c', and
-- the load of c less that of c' fits", which is that one engine can hold it
pub record MayPrecede (y : System) (table : Lent) (c p : ℕ) : Type 0 where
  pub inside : p < columns_out y
  pub no_more : no_greater y p c ≡ true
  pub yes_before : row_of table p < row_of table c
  pub fits : Impossible y (λ (e : ℕ). (1 ≤ e) × (e ≤ 1)) (λ (t : ℕ). count_in y c t - count_in y p t) → ⊥

-- after a fill of rows 0 to r, r being the number of engines in service: the row of a column is "its lowest yes row (m+1 for none)" by document 01's cells,
-- and its predecessor the cell "at that row (65,535 for none and for column 0)"; in plain words, row i is below it exactly when the column's load cannot be
-- partitioned among i engines; "entries past those are unchanged"
pub record FilledMeans (y : System) (r : ℕ) (table after : Lent) : Type 0 where
  pub cells : (i c : ℕ) → i ≤ r → c < columns_out y → (cell_for y i c ≡ 65535) ↔ (i < row_of after c)
  pub cell_there : (c : ℕ) → 0 < c → c < columns_out y → row_of after c ≤ r → predecessor_of after c ≡ cell_for y (row_of after c) c
  pub says : (i c : ℕ) → i ≤ r → c < columns_out y → (i < row_of after c) ↔ Impossible y (λ (e : ℕ). (1 ≤ e) × (e ≤ i)) (count_in y c)
  pub none : (c : ℕ) → c < columns_out y → r < row_of after c → (row_of after c ≡ y.engines + 1) × (predecessor_of after c ≡ 65535)
  pub column_zero : (row_of after 0 ≡ 0) × (predecessor_of after 0 ≡ 65535)
  -- "A column stands for a load within the ceilings"
  pub ceilings : (c t : ℕ) → count_in y c t ≤ ceiling_no y t
  pub numbered : (c : ℕ) → c < columns_out y → column_no y (count_in y c) ≡ c
  -- the predecessor is a column that may precede, and the lowest there is
  pub precedes : (c : ℕ) → 0 < c → c < columns_out y → row_of after c ≤ r → MayPrecede y after c (predecessor_of after c)
  pub lowest : (c p : ℕ) → 0 < c → c < columns_out y → row_of after c ≤ r → MayPrecede y after c p → predecessor_of after c ≤ p
  pub past : (k : ℕ) → columns_out y ≤ k → (row_of after k ≡ row_of table k) × (predecessor_of after k ≡ predecessor_of table k)
  pub as_long : (length after.rows ≡ length table.rows) × (length after.predecessors ≡ length table.predecessors)

-- document 01's recovery of count(t) instances of each type, read in a filled table: it "starts at the lowest row i that says yes", which is `used`, at the
-- load's column; "Engine i gets the load less that of the cell's column, and the rest is found the same way from row i-1 at that column". `row i t` is what
-- row i gets of type t
pub record RecoveredBy (y : System) (table : Lent) (used : ℕ) (count : ℕ → ℕ) (row : ℕ → ℕ → ℕ) : Type 0 where
  pub column : ℕ → ℕ
  pub starts : column used ≡ column_no y count
  pub lowest_row : row_of table (column used) ≡ used
  pub down : (i : ℕ) → i < used → column i ≡ predecessor_of table (column (i + 1))
  pub gets : (i t : ℕ) → i < used → row (i + 1) t ≡ count_in y (column (i + 1)) t - count_in y (column i) t

-- Request 2026-05: the pairs that a fill tries, counted in the table that it leaves; request 2026-10: "only for columns without a row yet"

-- f 0 + f 1 + .., as many as n
unfoldable pub sum_below : ℕ → (ℕ → ℕ) → ℕ
sum_below zero f = 0
sum_below (suc n) f = sum_below n f + f n

-- 1 where column p is tried for row i, column c, which has no row below i: "from the lowest up to the one accepted or to the last". The one accepted is the
-- predecessor, in the column's own row
abbrev pub tried_out : System → Lent → ℕ → ℕ → ℕ → ℕ
tried_out y after i c p = cond (leb i (row_of after c) && no_greater y p c && (ltb i (row_of after c) || leb p (predecessor_of after c))) 1 0

-- "for each row from 1 and each column"
abbrev pub pairs_out : System → ℕ → Lent → ℕ
pairs_out y r after = sum_below r (λ (i : ℕ). sum_below (columns_out y) (λ (c : ℕ). sum_below (columns_out y) (tried_out y after (i + 1) c)))

-- "the product of (n(t)+1) × (n(t)+2) / 2", written out
abbrev pub triangle : ℕ → ℕ
triangle n = (n + 1) * (n + 2) / 2

abbrev pub bound_out : System → ℕ
bound_out y =
    triangle (ceiling_no y 1)
    * (triangle (ceiling_no y 2) * (triangle (ceiling_no y 3) * (triangle (ceiling_no y 4) * (triangle (ceiling_no y 5) * triangle (ceiling_no y 6)))))

-- of no type that has instances does one fit an empty engine: its time, or its code with its data, is too large. A q that is given is not 0, so that it
-- never forbids one
abbrev pub NoneFits : System → Type 0
NoneFits y = (t : ℕ) → 1 ≤ t → 1 ≤ ceiling_no y t → (y.timecap < (type_no y t).time) ⊎ (y.memorycap < (type_no y t).memory + (type_no y t).data)

-- what the call `fill_table` promises: 1 to 10, 31, 41 and 43, then 11 exactly where a part is too short, and the table as lent; else the table filled, and
-- the answer is the number of pairs tried, at most m times the product, and m less than that where no type fits: column 0 never counts
pub record FillPromises (x : Reading) (table : Lent) (answer : Answer) (after : Lent) : Type 0 where
  pub answers : outcome_of answer ≡ fill_outcome x table
  pub leaves : after ≡ fill_table x table
  pub file_first : (n : ℕ) → x ≡ unread n → outcome_of answer ≡ refused from_input n
  pub then_table : (y : System) → x ≡ opened y → (outcome_of answer ≡ refused from_input 11) ↔ TooShort y table
  pub fills : (y : System) → x ≡ opened y → LongEnough y table → FilledMeans y y.engines table after
  pub counts : (y : System) → x ≡ opened y → LongEnough y table → outcome_of answer ≡ accepted (pairs_out y y.engines after ∷ [])
  pub bounded : (y : System) (pairs : ℕ) → x ≡ opened y → outcome_of answer ≡ accepted (pairs ∷ []) → pairs ≤ y.engines * bound_out y
  pub met : (y : System) (pairs : ℕ) → x ≡ opened y → outcome_of answer ≡ accepted (pairs ∷ []) → NoneFits y → pairs + y.engines ≡ y.engines * bound_out y
  pub as_lent : (s : Source) (n : ℕ) → outcome_of answer ≡ refused s n → after ≡ table

-- Request 2026-13: "free .. are the table's first entries, one for each column in each part", of a card of two kinds; all later ones are as they were
pub record KeptPast (y : System) (table after : Lent) : Type 0 where
  pub past : (c : ℕ) → columns_out y ≤ c → (row_of after c ≡ row_of table c) × (predecessor_of after c ≡ predecessor_of table c)
  pub as_long : (length after.rows ≡ length table.rows) × (length after.predecessors ≡ length table.predecessors)

-- what the call `fill_table` promises of such a card: 11 exactly where a part is too short, and the table as lent; else accepted, and "no pairs are reported"
pub record FillMixed (y : System) (table : Lent) (answer : Answer) (after : Lent) : Type 0 where
  pub then_table : (outcome_of answer ≡ refused from_input 11) ↔ TooShort y table
  pub accepts : LongEnough y table → outcome_of answer ≡ accepted []
  pub as_lent : (s : Source) (n : ℕ) → outcome_of answer ≡ refused s n → after ≡ table
  pub kept : KeptPast y table after

-- and of any card: of one kind what it promised before, word for word
pub record FillCall (c : Card) (table : Lent) (answer : Answer) (after : Lent) : Type 0 where
  pub answers : outcome_of answer ≡ fill_card_outcome c table
  pub leaves : after ≡ fill_card_table c table
  pub one_kind : (x : Reading) → c ≡ plain x → FillPromises x table answer after
  pub two_kinds : (y : System) (k : Kind) → c ≡ mixed y k → FillMixed y table answer after

-- what the call `columns_needed` promises: the shortest parts that 11 passes
pub record NeedPromises (x : Reading) (answer : Answer) : Type 0 where
  pub answers : outcome_of answer ≡ columns_needed x
  pub refuses : (n : ℕ) → x ≡ unread n → outcome_of answer ≡ refused from_input n
  pub needs : (y : System) → x ≡ opened y → outcome_of answer ≡ accepted (columns_out y ∷ [])
