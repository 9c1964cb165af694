-- The edges of document 01 and of tags 3 to 7, and every number that a file can be refused by, hold of the definitions: by computation, one theorem over each table.
use Rattle.std.proofs.Common.{None, Some}
use mathlib.Core.List.{[], ◌∷◌}
use mathlib.Core.Path.{refl}
use Rattle.system.specs.Limits.{columns_of, kinds_agree}
use Rattle.system.specs.Layout.{rule_of, platform_from, type_from, data_from, most_from, pace_from, second_from, costs_from, ruled_head, head_of, body_of, ruled_field, field_of, end_of, fields_from, read_card, of_one_kind, read_file}
use Rattle.cases.specs.Edges.{type_with, data_with, most_with, pace_with, costs_with, good_type, good_all, with_types, with_kinds, types_of, edges, pace_edges, EdgesHold, CardEdgesHold, DataRead, MostRead, PaceRead, SecondRead, ThereRead}

pub edges-shown : EdgesHold edges
unfolding columns_of kinds_agree rule_of platform_from type_from data_from most_from second_from costs_from ruled_head head_of body_of ruled_field field_of end_of fields_from read_card of_one_kind read_file types_of edges
edges-shown = refl

pub card-edges-shown : CardEdgesHold edges
unfolding columns_of kinds_agree rule_of platform_from type_from data_from most_from second_from costs_from ruled_head head_of body_of ruled_field field_of end_of fields_from read_card types_of edges
card-edges-shown = refl

pub pace-edges-shown : EdgesHold pace_edges
unfolding columns_of kinds_agree rule_of platform_from type_from data_from most_from pace_from second_from costs_from ruled_head head_of body_of ruled_field field_of end_of fields_from read_card of_one_kind read_file types_of pace_edges
pace-edges-shown = refl

pub pace-card-edges-shown : CardEdgesHold pace_edges
unfolding columns_of kinds_agree rule_of platform_from type_from data_from most_from pace_from second_from costs_from ruled_head head_of body_of ruled_field field_of end_of fields_from read_card types_of pace_edges
pace-card-edges-shown = refl

-- d is that of the type before it, most significant byte first, and 0 without it
pub data-read : DataRead (with_types (good_type ∷ data_with 1000000 ∷ good_type ∷ good_type ∷ data_with 258 ∷ [])) (1000000 ∷ 0 ∷ 258 ∷ 0 ∷ 0 ∷ 0 ∷ [])
unfolding columns_of kinds_agree rule_of platform_from type_from data_from ruled_head head_of body_of ruled_field field_of end_of fields_from read_card of_one_kind read_file types_of
data-read = refl

-- q is that of the type before it, also one above n and where n is 0, and not given without it
pub most-read :
    MostRead (with_types (good_type ∷ most_with 258 ∷ good_type ∷ type_with 4 3 0 ∷ data_with 5 ∷ most_with 65535 ∷ good_type ∷ data_with 0 ∷ []))
    (Some 258 ∷ None ∷ Some 65535 ∷ None ∷ None ∷ None ∷ [])
unfolding columns_of kinds_agree rule_of platform_from type_from data_from most_from ruled_head head_of body_of ruled_field field_of end_of fields_from read_card of_one_kind read_file types_of
most-read = refl

-- C and T are those of the type before them, most significant byte first, and not given without them
pub pace-read :
    PaceRead (with_types (good_type ∷ pace_with 258 772 ∷ good_type ∷ type_with 10 3 0 ∷ data_with 5 ∷ most_with 1 ∷ pace_with 65535 65535 ∷ []))
    (Some (record { run = 258; period = 772 }) ∷ None ∷ Some (record { run = 65535; period = 65535 }) ∷ None ∷ None ∷ None ∷ [])
unfolding columns_of kinds_agree rule_of platform_from type_from data_from most_from pace_from ruled_head head_of body_of ruled_field field_of end_of fields_from read_card of_one_kind read_file types_of
pace-read = refl

-- the second kind's number, U and S are those of tag 6
pub second-read : SecondRead (with_kinds (good_type ∷ costs_with 2 1 ∷ [])) (Some (record { number = 2; timecap = 6; memorycap = 5 }))
unfolding columns_of kinds_agree rule_of platform_from type_from second_from costs_from ruled_head head_of body_of ruled_field field_of end_of fields_from read_card types_of
second-read = refl

-- u and s there are those of the type before, most significant byte first
pub there-read :
    ThereRead (with_kinds (good_type ∷ costs_with 66051 1000000 ∷ good_all ∷ costs_with 0 0 ∷ type_with 4 3 0 ∷ most_with 1 ∷ costs_with 2 1 ∷ []))
    (Some (record { time = 66051; memory = 1000000 }) ∷ Some (record { time = 0; memory = 0 }) ∷ Some (record { time = 2; memory = 1 }) ∷ None ∷ None ∷ None ∷ [])
unfolding columns_of kinds_agree rule_of platform_from type_from data_from most_from second_from costs_from ruled_head head_of body_of ruled_field field_of end_of fields_from read_card types_of
there-read = refl
