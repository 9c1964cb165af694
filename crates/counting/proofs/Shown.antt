-- The worked examples of request 2026-11 hold of the definitions: by computation, the assignments of each system listed one by one.
use mathlib.Core.Path.{◌≡◌, refl}
use mathlib.Core.List.{[], ◌∷◌}
use Rattle.system.specs.Limits.{columns_of, kinds_agree}
use Rattle.system.specs.Layout.{rule_of, platform_from, type_from, data_from, most_from, ruled_head, head_of, body_of, ruled_field, field_of, end_of, fields_from, read_card, of_one_kind, read_file}
use Rattle.system.specs.Outcome.{accepted, refused, from_input}
use Rattle.loads.specs.Load.{sum_over, apart, fits_engine}
use Rattle.partition.specs.Assignment.{count_on, among, every, good, numbers_from, each_before, places_of, assignments_of}
use Rattle.partition.specs.Listing.{instances}
use Rattle.counting.specs.Counts.{count_of}
use Rattle.counting.specs.Cases.{counted_as, file_a, two_and_one, with_copies, apart_by, costless}

-- engines and instances are distinct
pub distinct-shown : (counted_as file_a 24 ≡ accepted (126 ∷ 243 ∷ [])) × (counted_as two_and_one 12 ≡ accepted (6 ∷ 8 ∷ []))
unfolding columns_of kinds_agree rule_of platform_from type_from data_from most_from ruled_head head_of body_of ruled_field field_of end_of fields_from read_card of_one_kind read_file sum_over apart fits_engine count_on among every good numbers_from each_before places_of assignments_of instances count_of
distinct-shown = (refl, refl)

-- each rule judges the memory of what an engine holds, and q how many of a type are there
pub judged-shown : (counted_as (with_copies 0 4) 12 ≡ accepted (4 ∷ 8 ∷ [])) × (counted_as (with_copies 1 4) 12 ≡ accepted (6 ∷ 8 ∷ []))
    × (counted_as (with_copies 0 6) 12 ≡ accepted (6 ∷ 8 ∷ [])) × (counted_as (with_copies 1 6) 12 ≡ accepted (8 ∷ 8 ∷ []))
    × (counted_as (apart_by 2 1) 12 ≡ accepted (4 ∷ 8 ∷ [])) × (counted_as (apart_by 3 1) 12 ≡ accepted (18 ∷ 27 ∷ [])) × (counted_as (apart_by 3 2) 12 ≡ accepted (27 ∷ 27 ∷ []))
unfolding columns_of kinds_agree rule_of platform_from type_from data_from most_from ruled_head head_of body_of ruled_field field_of end_of fields_from read_card of_one_kind read_file sum_over apart fits_engine count_on among every good numbers_from each_before places_of assignments_of instances count_of
judged-shown = (refl, refl, refl, refl, refl, refl, refl)

-- "N = 0 gives 1 of 1"; 37 at 2^64, whatever is lent, and not below it; 38 one entry short
pub ends-shown : (counted_as (costless 16 0) 2 ≡ accepted (1 ∷ 1 ∷ [])) × (counted_as (costless 16 0) 1 ≡ refused from_input 38)
    × (counted_as (costless 2 64) 0 ≡ refused from_input 37) × (counted_as (costless 16 16) 0 ≡ refused from_input 37)
    × (counted_as (costless 2 63) 127 ≡ refused from_input 38) × (counted_as (costless 16 15) 31 ≡ refused from_input 38)
    × (counted_as (costless 3 40) 81 ≡ refused from_input 38) × (counted_as (costless 3 41) 84 ≡ refused from_input 37)
    × (counted_as two_and_one 11 ≡ refused from_input 38) × (counted_as (costless 1 255) 512 ≡ accepted (1 ∷ 1 ∷ []))
unfolding columns_of kinds_agree rule_of platform_from type_from data_from most_from ruled_head head_of body_of ruled_field field_of end_of fields_from read_card of_one_kind read_file sum_over apart fits_engine count_on among every good numbers_from each_before places_of assignments_of instances count_of
ends-shown = (refl, refl, refl, refl, refl, refl, refl, refl, refl, refl)
