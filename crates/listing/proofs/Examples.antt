-- Document 01's listings come out of the definition: its example, W6's refusal and W7's `engines 0`; a card of two kinds, with the engines' own numbers; and the listings of files that do not read.
-- All by computation from the files' bytes.
use Prim.Native.Nat.{ℕ}
use mathlib.Core.List.{List, [], ◌∷◌, ◌++◌, map}
use mathlib.Core.Path.{◌≡◌, refl}
use lib.ListN.{replicate}
use Rattle.system.specs.Limits.{columns_of, kinds_agree}
use Rattle.system.specs.Layout.{rule_of, platform_from, type_from, second_from, costs_from, ruled_head, head_of, body_of, ruled_field, field_of, end_of, fields_from, read_card}
use Rattle.system.specs.Card.{card_of}
use Rattle.loads.specs.Load.{sum_over, apart, fits_engine, within, less}
use Rattle.loads.specs.Column.{column_from, load_of}
use Rattle.partition.specs.Assignment.{numbers_from}
use Rattle.partition.specs.Lent.{Lent, lent}
use Rattle.partition.specs.Shares.{row_on}
use Rattle.partition.specs.Kinds.{split_cost, least_at}
use Rattle.partition.specs.Cell.{lowest, precedes, cell, lowest_row, recover, recovery}
use Rattle.kinds.specs.Mixing.{mixed_placement}
use Rattle.planner.specs.Plan.{verdict_of, records_with}
use Rattle.listing.specs.Listing.{decimal_from, parted, engine_line, record_lines, listing_of, file_listing}
use Rattle.listing.specs.Text.{reading_verdict, card_text, file_text}

-- a table that is long enough for each of them: system A has 12 columns
abbrev table : Lent
table = lent (replicate 12 0) (replicate 12 0)

-- document 01's system A, with its two ceilings
abbrev system_a : ℕ → ℕ → List ℕ
system_a n₁ n₂ =
    1 ∷ 0 ∷ 10 ∷ 3 ∷ 0 ∷ 0 ∷ 0 ∷ 0 ∷ 10 ∷ 0 ∷ 0 ∷ 0 ∷ 8
    ∷ 2 ∷ 0 ∷ 10 ∷ 0 ∷ 0 ∷ 0 ∷ 4 ∷ 0 ∷ 0 ∷ 0 ∷ 3 ∷ 0 ∷ n₁
    ∷ 2 ∷ 0 ∷ 10 ∷ 0 ∷ 0 ∷ 0 ∷ 3 ∷ 0 ∷ 0 ∷ 0 ∷ 2 ∷ 0 ∷ n₂ ∷ []

-- document 01's system B under rule 0, with its number of engines
abbrev system_b : ℕ → List ℕ
system_b m =
    1 ∷ 0 ∷ 10 ∷ m ∷ 0 ∷ 0 ∷ 0 ∷ 0 ∷ 10 ∷ 0 ∷ 0 ∷ 0 ∷ 8
    ∷ 2 ∷ 0 ∷ 10 ∷ 0 ∷ 0 ∷ 0 ∷ 2 ∷ 0 ∷ 0 ∷ 0 ∷ 5 ∷ 0 ∷ 4 ∷ []

-- two engines with U 10, S 8 and one of a second kind with the same; a type with u 4, s 3 and n 7, and there u 2 and s 1
abbrev two_kinds : List ℕ
two_kinds =
    1 ∷ 0 ∷ 10 ∷ 2 ∷ 0 ∷ 0 ∷ 0 ∷ 0 ∷ 10 ∷ 0 ∷ 0 ∷ 0 ∷ 8
    ∷ 6 ∷ 0 ∷ 9 ∷ 1 ∷ 0 ∷ 0 ∷ 0 ∷ 10 ∷ 0 ∷ 0 ∷ 0 ∷ 8
    ∷ 2 ∷ 0 ∷ 10 ∷ 0 ∷ 0 ∷ 0 ∷ 4 ∷ 0 ∷ 0 ∷ 0 ∷ 3 ∷ 0 ∷ 7
    ∷ 7 ∷ 0 ∷ 8 ∷ 0 ∷ 0 ∷ 0 ∷ 2 ∷ 0 ∷ 0 ∷ 0 ∷ 1 ∷ []

-- a type with u 1, s 1 and n; six of them with n 3 have 4,096 columns, and with one n of 4 there are 5,120
abbrev type_of : ℕ → List ℕ
type_of n = 2 ∷ 0 ∷ 10 ∷ 0 ∷ 0 ∷ 0 ∷ 1 ∷ 0 ∷ 0 ∷ 0 ∷ 1 ∷ 0 ∷ n ∷ []

abbrev six_types : ℕ → List ℕ
six_types n =
    1 ∷ 0 ∷ 10 ∷ 3 ∷ 0 ∷ 0 ∷ 0 ∷ 0 ∷ 10 ∷ 0 ∷ 0 ∷ 0 ∷ 8 ∷ (type_of 3 ++ type_of 3 ++ type_of 3 ++ type_of 3 ++ type_of 3 ++ type_of n)

-- engines 2 | engine 1 util 8 mem 6 types 2 0 | engine 2 util 10 mem 7 types 1 2, byte by byte: the words too are fixed by this
abbrev two_engines : List ℕ
two_engines =
    101 ∷ 110 ∷ 103 ∷ 105 ∷ 110 ∷ 101 ∷ 115 ∷ 32 ∷ 50 ∷ 10
    ∷ 101 ∷ 110 ∷ 103 ∷ 105 ∷ 110 ∷ 101 ∷ 32 ∷ 49 ∷ 32 ∷ 117 ∷ 116 ∷ 105 ∷ 108 ∷ 32 ∷ 56 ∷ 32 ∷ 109 ∷ 101 ∷ 109 ∷ 32 ∷ 54 ∷ 32 ∷ 116 ∷ 121 ∷ 112 ∷ 101 ∷ 115 ∷ 32 ∷ 50 ∷ 32 ∷ 48 ∷ 10
    ∷ 101 ∷ 110 ∷ 103 ∷ 105 ∷ 110 ∷ 101 ∷ 32 ∷ 50 ∷ 32 ∷ 117 ∷ 116 ∷ 105 ∷ 108 ∷ 32 ∷ 49 ∷ 48 ∷ 32 ∷ 109 ∷ 101 ∷ 109 ∷ 32 ∷ 55 ∷ 32 ∷ 116 ∷ 121 ∷ 112 ∷ 101 ∷ 115 ∷ 32 ∷ 49 ∷ 32 ∷ 50 ∷ 10 ∷ []

-- engines 2 | engine 1 util 8 mem 6 types 2 | engine 3 util 10 mem 5 types 5: engine 2 is not used
abbrev first_and_third : List ℕ
first_and_third =
    101 ∷ 110 ∷ 103 ∷ 105 ∷ 110 ∷ 101 ∷ 115 ∷ 32 ∷ 50 ∷ 10
    ∷ 101 ∷ 110 ∷ 103 ∷ 105 ∷ 110 ∷ 101 ∷ 32 ∷ 49 ∷ 32 ∷ 117 ∷ 116 ∷ 105 ∷ 108 ∷ 32 ∷ 56 ∷ 32 ∷ 109 ∷ 101 ∷ 109 ∷ 32 ∷ 54 ∷ 32 ∷ 116 ∷ 121 ∷ 112 ∷ 101 ∷ 115 ∷ 32 ∷ 50 ∷ 10
    ∷ 101 ∷ 110 ∷ 103 ∷ 105 ∷ 110 ∷ 101 ∷ 32 ∷ 51 ∷ 32 ∷ 117 ∷ 116 ∷ 105 ∷ 108 ∷ 32 ∷ 49 ∷ 48 ∷ 32 ∷ 109 ∷ 101 ∷ 109 ∷ 32 ∷ 53 ∷ 32 ∷ 116 ∷ 121 ∷ 112 ∷ 101 ∷ 115 ∷ 32 ∷ 53 ∷ 10 ∷ []

-- refused 12
abbrev refused12 : List ℕ
refused12 = 114 ∷ 101 ∷ 102 ∷ 117 ∷ 115 ∷ 101 ∷ 100 ∷ 32 ∷ 49 ∷ 50 ∷ 10 ∷ []

-- refused 9
abbrev refused9 : List ℕ
refused9 = 114 ∷ 101 ∷ 102 ∷ 117 ∷ 115 ∷ 101 ∷ 100 ∷ 32 ∷ 57 ∷ 10 ∷ []

-- refused 5
abbrev refused5 : List ℕ
refused5 = 114 ∷ 101 ∷ 102 ∷ 117 ∷ 115 ∷ 101 ∷ 100 ∷ 32 ∷ 53 ∷ 10 ∷ []

-- refused 10
abbrev refused10 : List ℕ
refused10 = 114 ∷ 101 ∷ 102 ∷ 117 ∷ 115 ∷ 101 ∷ 100 ∷ 32 ∷ 49 ∷ 48 ∷ 10 ∷ []

-- refused 11
abbrev refused11 : List ℕ
refused11 = 114 ∷ 101 ∷ 102 ∷ 117 ∷ 115 ∷ 101 ∷ 100 ∷ 32 ∷ 49 ∷ 49 ∷ 10 ∷ []

-- engines 0
abbrev no_engine : List ℕ
no_engine = 101 ∷ 110 ∷ 103 ∷ 105 ∷ 110 ∷ 101 ∷ 115 ∷ 32 ∷ 48 ∷ 10 ∷ []

pub examples : map (λ (file : List ℕ). file_listing file table) (system_a 3 2 ∷ system_b 3 ∷ system_a 0 0 ∷ []) ≡ two_engines ∷ refused12 ∷ no_engine ∷ []
unfolding rule_of platform_from type_from ruled_head head_of body_of ruled_field field_of end_of fields_from read_card card_of columns_of kinds_agree sum_over apart fits_engine within less column_from load_of lowest precedes cell lowest_row recover recovery row_on numbers_from verdict_of records_with decimal_from parted engine_line record_lines listing_of
examples = refl

-- both kinds are needed, and the second kind's engine is numbered after both of the first
pub two-kinds-example : file_listing two_kinds table ≡ first_and_third
unfolding rule_of platform_from type_from second_from costs_from ruled_head head_of body_of ruled_field field_of end_of fields_from read_card card_of columns_of kinds_agree sum_over apart fits_engine within less column_from load_of lowest precedes cell lowest_row recover recovery split_cost least_at mixed_placement row_on numbers_from records_with decimal_from parted engine_line record_lines listing_of
two-kinds-example = refl

-- an empty file is `refused 9`, m 17 is `refused 5`, six types of too many columns are `refused 10`, of program `plan` too; a table of which a part is too short is `refused 11`
pub refusal-examples : map (λ (file : List ℕ). file_listing file table) ([] ∷ system_b 17 ∷ six_types 4 ∷ six_types 3 ∷ []) ≡ refused9 ∷ refused5 ∷ refused10 ∷ refused11 ∷ []
unfolding rule_of platform_from type_from ruled_head head_of body_of ruled_field field_of end_of fields_from read_card card_of columns_of kinds_agree verdict_of decimal_from parted listing_of
refusal-examples = refl

pub text-examples : map file_text ([] ∷ system_b 17 ∷ six_types 4 ∷ []) ≡ refused9 ∷ refused5 ∷ refused10 ∷ []
unfolding rule_of platform_from type_from ruled_head head_of body_of ruled_field field_of end_of fields_from read_card card_of columns_of kinds_agree reading_verdict card_text decimal_from parted listing_of
text-examples = refl

pub short-table-example : map (file_listing (system_a 3 2)) (lent (replicate 11 0) (replicate 12 0) ∷ lent (replicate 12 0) (replicate 11 0) ∷ []) ≡ refused11 ∷ refused11 ∷ []
unfolding rule_of platform_from type_from ruled_head head_of body_of ruled_field field_of end_of fields_from read_card card_of columns_of kinds_agree verdict_of decimal_from parted listing_of
short-table-example = refl
