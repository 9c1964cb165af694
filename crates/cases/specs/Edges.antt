-- Document 01's "Edges" with request 2026-10's columns, and a file for every row of "From the input" that a file can be refused by: what it reads as against
-- the number that 01 writes,
-- and the same of tag 3 (request 2026-03), tag 4 (2026-04), tags 6 and 7 (2026-13), and tag 5 (2026-14). One kind of engine is wanted of each file; the same
-- table says what it comes to as a card of one kind or two.
use Rattle.std.specs.Prelude.{ℕ, zero, suc, ◌/◌, ◌%◌, List, [], ◌∷◌, ◌++◌, map, cond, ◌≡◌, replicate, eqb, Option}
use Rattle.system.specs.declared.Kind.{Kind}
use Rattle.system.specs.declared.Costs.{Costs}
use Rattle.system.specs.declared.Cycle.{Cycle}
use Rattle.system.specs.declared.TaskType.{TaskType}
use Rattle.system.specs.Layout.{read_card, read_file, read_outcome, read_system}
use Rattle.system.specs.Outcome.{Outcome, accepted, refused, from_input}

-- numbers of two and of four bytes, most significant byte first
abbrev pub two : ℕ → List ℕ
two n = (n / 256) ∷ (n % 256) ∷ []

abbrev pub four : ℕ → List ℕ
four n = two (n / 65536) ++ two (n % 65536)

-- a field of this tag and length, with this body
abbrev pub field : ℕ → ℕ → List ℕ → List ℕ
field tag size body = (tag ∷ two size) ++ body

abbrev pub platform_with : ℕ → ℕ → ℕ → ℕ → List ℕ
platform_with m rule u s = field 1 10 ((m ∷ rule ∷ []) ++ (four u ++ four s))

abbrev pub type_with : ℕ → ℕ → ℕ → List ℕ
type_with u s n = field 2 10 (four u ++ (four s ++ two n))

abbrev pub data_with : ℕ → List ℕ
data_with d = field 3 4 (four d)

abbrev pub most_with : ℕ → List ℕ
most_with q = field 4 2 (two q)

abbrev pub pace_with : ℕ → ℕ → List ℕ
pace_with c t = field 5 8 (four c ++ four t)

abbrev pub second_with : ℕ → ℕ → ℕ → List ℕ
second_with n u s = field 6 9 ((n ∷ []) ++ (four u ++ four s))

abbrev pub costs_with : ℕ → ℕ → List ℕ
costs_with u s = field 7 8 (four u ++ four s)

-- a good platform, a good type, one with its d, and one with its d and its q
abbrev pub good_platform : List ℕ
good_platform = platform_with 3 0 10 8

abbrev pub good_type : List ℕ
good_type = type_with 4 3 1

abbrev pub good_both : List ℕ
good_both = good_type ++ data_with 5

abbrev pub good_all : List ℕ
good_all = good_both ++ most_with 1

-- a good second kind of engine, and a good type with its u and s there, alone and with its d and its q
abbrev pub good_second : List ℕ
good_second = second_with 2 6 5

abbrev pub good_there : List ℕ
good_there = good_type ++ costs_with 2 1

abbrev pub good_last : List ℕ
good_last = good_all ++ costs_with 2 1

-- a good type with its C and T, where u × T is just C × U; and one with all that a type may have
abbrev pub good_paced : List ℕ
good_paced = good_type ++ pace_with 2 5

abbrev pub good_whole : List ℕ
good_whole = good_all ++ (pace_with 2 5 ++ costs_with 2 1)

-- the file with these types
unfoldable pub types_of : List (List ℕ) → List ℕ
types_of [] = []
types_of (t ∷ ts) = t ++ types_of ts

abbrev pub with_types : List (List ℕ) → List ℕ
with_types ts = good_platform ++ types_of ts

-- and with a second kind
abbrev pub with_kinds : List (List ℕ) → List ℕ
with_kinds ts = good_platform ++ (good_second ++ types_of ts)

-- a file, and what it comes to: 0 where it opens, else the number of its refusal
pub record Edge : Type 0 where
  pub file : List ℕ
  pub comes_to : ℕ

abbrev pub edge : List ℕ → ℕ → Edge
edge file n = record { file = file; comes_to = n }

unfoldable pub edges : List Edge
edges =
    edge (platform_with 1 0 10 8 ++ good_type) 0
    ∷ edge (platform_with 16 0 10 8 ++ good_type) 0
    ∷ edge (platform_with 16 1 1000000 1000000 ++ type_with 1000000 1000000 1023) 0
    ∷ edge (with_types (type_with 4 3 31 ∷ type_with 4 3 31 ∷ [])) 0
    -- "Columns may be 4,096 (one type's n 4,095 is read, 4,096 refused 10)"
    ∷ edge (with_types (type_with 4 3 1024 ∷ [])) 0
    ∷ edge (with_types (type_with 4 3 4095 ∷ [])) 0
    ∷ edge (with_types (type_with 4 3 63 ∷ type_with 4 3 63 ∷ [])) 0
    ∷ edge (with_types (replicate 6 good_type)) 0
    ∷ edge (with_types (type_with 0 0 0 ∷ [])) 0
    ∷ edge (with_types (good_type ∷ data_with 0 ∷ good_type ∷ [])) 0
    ∷ edge (with_types (good_type ∷ data_with 1000000 ∷ [])) 0
    ∷ edge (with_types (replicate 6 good_both)) 0
    ∷ edge (with_types (good_type ∷ most_with 1 ∷ good_type ∷ [])) 0
    ∷ edge (with_types (type_with 4 3 0 ∷ data_with 0 ∷ most_with 65535 ∷ [])) 0
    ∷ edge (with_types (replicate 6 good_all)) 0
    ∷ edge (1 ∷ []) 1
    ∷ edge (with_types (good_type ∷ (2 ∷ 0 ∷ []) ∷ [])) 1
    ∷ edge (field 1 10 (3 ∷ 0 ∷ four 10)) 1
    ∷ edge (with_types (field 2 10 (four 4 ++ four 3) ∷ [])) 1
    ∷ edge (with_types (good_type ∷ (3 ∷ 0 ∷ []) ∷ [])) 1
    ∷ edge (with_types (good_type ∷ field 3 4 (0 ∷ two 5) ∷ [])) 1
    ∷ edge (with_types (good_both ∷ (4 ∷ 0 ∷ []) ∷ [])) 1
    ∷ edge (with_types (good_type ∷ field 4 2 (1 ∷ []) ∷ [])) 1
    -- "start cut (1), 2, 3": before the tag of what is left over is known, or its place is judged
    ∷ edge (good_platform ++ (8 ∷ [])) 1
    ∷ edge (good_platform ++ (3 ∷ 0 ∷ [])) 1
    ∷ edge (with_types (good_both ∷ (255 ∷ 0 ∷ []) ∷ [])) 1
    ∷ edge (with_types (good_all ∷ (1 ∷ []) ∷ [])) 1
    ∷ edge (with_kinds ((0 ∷ 0 ∷ []) ∷ [])) 1
    ∷ edge (with_kinds ((6 ∷ []) ∷ [])) 1
    ∷ edge (with_kinds (good_there ∷ (8 ∷ 0 ∷ []) ∷ [])) 1
    ∷ edge (with_kinds (good_there ∷ (4 ∷ []) ∷ [])) 1
    ∷ edge (field 0 10 [] ++ good_type) 2
    ∷ edge (with_types (good_all ∷ field 8 2 (two 1) ∷ [])) 2
    ∷ edge good_type 3
    ∷ edge (good_platform ++ good_platform) 3
    ∷ edge (with_types (good_type ∷ good_platform ∷ [])) 3
    ∷ edge (data_with 5) 3
    ∷ edge (with_types (field 3 5 [] ∷ [])) 3
    ∷ edge (with_types (data_with 5 ∷ good_type ∷ [])) 3
    ∷ edge (with_types (good_both ∷ data_with 5 ∷ [])) 3
    ∷ edge (with_types (good_both ∷ good_platform ∷ [])) 3
    ∷ edge (most_with 1) 3
    ∷ edge (with_types (field 4 3 [] ∷ [])) 3
    ∷ edge (with_types (most_with 1 ∷ good_type ∷ [])) 3
    ∷ edge (with_types (good_type ∷ most_with 1 ∷ data_with 5 ∷ [])) 3
    ∷ edge (with_types (good_all ∷ most_with 1 ∷ [])) 3
    ∷ edge (with_types (good_all ∷ good_platform ∷ [])) 3
    ∷ edge (field 1 9 []) 4
    ∷ edge (with_types (field 2 11 [] ∷ [])) 4
    ∷ edge (with_types (good_type ∷ field 3 5 [] ∷ [])) 4
    ∷ edge (with_types (good_type ∷ field 4 3 [] ∷ [])) 4
    ∷ edge (with_types (good_both ∷ field 4 1 (1 ∷ []) ∷ [])) 4
    ∷ edge (platform_with 0 2 1000001 8 ++ good_type) 5
    ∷ edge (platform_with 17 0 10 8 ++ good_type) 5
    ∷ edge (platform_with 3 2 1000001 8 ++ good_type) 6
    ∷ edge (with_types (replicate 7 good_type)) 7
    ∷ edge (with_types (replicate 6 good_both ++ (type_with 1000001 3 1 ∷ []))) 7
    ∷ edge (with_types (replicate 6 good_all ++ (good_type ∷ most_with 0 ∷ []))) 7
    ∷ edge (platform_with 3 0 1000001 8 ++ good_type) 8
    ∷ edge (platform_with 3 0 10 1000001 ++ good_type) 8
    ∷ edge (with_types (type_with 1000001 3 1 ∷ [])) 8
    ∷ edge (with_types (type_with 4 1000001 1 ∷ [])) 8
    ∷ edge (with_types (good_type ∷ data_with 1000001 ∷ [])) 8
    ∷ edge (with_types (good_type ∷ data_with 1000001 ∷ most_with 0 ∷ [])) 8
    ∷ edge [] 9
    ∷ edge good_platform 9
    ∷ edge (with_types (type_with 4 3 4096 ∷ [])) 10
    ∷ edge (with_types (type_with 4 3 63 ∷ type_with 4 3 64 ∷ [])) 10
    ∷ edge (with_types (good_both ∷ most_with 0 ∷ [])) 31
    ∷ edge (with_types (type_with 4 3 4096 ∷ most_with 0 ∷ type_with 1000001 3 1 ∷ [])) 31
    -- "Fields are judged in file order": what an earlier field is refused with comes before any fault of a later one
    ∷ edge (platform_with 17 2 1000001 8 ++ (2 ∷ [])) 5
    ∷ edge (platform_with 0 0 10 8 ++ field 8 2 []) 5
    ∷ edge (platform_with 3 2 10 8 ++ good_platform) 6
    ∷ edge (platform_with 3 0 10 1000001 ++ field 2 11 []) 8
    ∷ edge (platform_with 17 0 10 8 ++ type_with 1000001 3 1) 5
    ∷ edge (platform_with 17 0 10 8) 5
    ∷ edge (with_types (type_with 1000001 3 1 ∷ field 8 2 [] ∷ [])) 8
    ∷ edge (with_types (type_with 4 1000001 1 ∷ (2 ∷ []) ∷ [])) 8
    ∷ edge (with_types (good_type ∷ data_with 1000001 ∷ data_with 5 ∷ [])) 8
    -- "at the end 9, 10": a fault of a later field comes before them
    ∷ edge (with_types (type_with 4 3 4096 ∷ type_with 1000001 3 1 ∷ [])) 8
    ∷ edge (good_platform ++ field 8 2 []) 2
    -- request 2026-13: a file of two kinds of engine is refused 42 where one is wanted. "at least 1, total still at most 16"; u and s of 0 are given ones
    ∷ edge (with_kinds (good_there ∷ [])) 42
    ∷ edge (with_kinds (replicate 6 good_last)) 42
    ∷ edge (with_kinds (good_there ∷ good_both ∷ costs_with 0 0 ∷ good_type ∷ most_with 1 ∷ costs_with 2 1 ∷ [])) 42
    ∷ edge (platform_with 1 0 10 8 ++ (second_with 1 0 0 ++ good_there)) 42
    ∷ edge (platform_with 3 0 10 8 ++ (second_with 13 6 5 ++ good_there)) 42
    ∷ edge (platform_with 15 0 10 8 ++ (second_with 1 1000000 1000000 ++ (good_type ++ costs_with 1000000 1000000))) 42
    ∷ edge (with_kinds (type_with 4 3 4095 ∷ costs_with 2 1 ∷ [])) 42
    -- "directly after 10"
    ∷ edge (with_kinds (type_with 4 3 4096 ∷ costs_with 2 1 ∷ [])) 10
    -- "41, when tag 7 is missing though tag 6 stands, or the reverse, after 9", so before 10
    ∷ edge (with_kinds (good_type ∷ [])) 41
    ∷ edge (with_kinds (good_there ∷ good_all ∷ [])) 41
    ∷ edge (with_kinds (good_all ∷ good_there ∷ [])) 41
    ∷ edge (with_types (good_there ∷ [])) 41
    ∷ edge (with_types (good_type ∷ good_type ∷ costs_with 0 0 ∷ [])) 41
    ∷ edge (with_types (good_there ∷ good_type ∷ [])) 41
    ∷ edge (with_kinds (type_with 4 3 4096 ∷ [])) 41
    ∷ edge (with_types (type_with 4 3 4096 ∷ costs_with 2 1 ∷ [])) 41
    ∷ edge (good_platform ++ good_second) 9
    -- "directly after the platform", and "once, last after each type"
    ∷ edge good_second 3
    ∷ edge (with_types (good_type ∷ good_second ∷ [])) 3
    ∷ edge (with_types (good_there ∷ field 6 10 [] ∷ [])) 3
    ∷ edge (with_kinds (good_second ∷ good_there ∷ [])) 3
    ∷ edge (with_kinds (good_platform ∷ good_there ∷ [])) 3
    ∷ edge (with_kinds (good_there ∷ good_platform ∷ [])) 3
    ∷ edge (costs_with 2 1) 3
    ∷ edge (with_types (costs_with 2 1 ∷ good_type ∷ [])) 3
    ∷ edge (with_kinds (costs_with 2 1 ∷ good_type ∷ [])) 3
    ∷ edge (with_kinds (data_with 5 ∷ good_type ∷ [])) 3
    ∷ edge (with_kinds (most_with 1 ∷ good_type ∷ [])) 3
    ∷ edge (with_kinds (good_there ∷ most_with 1 ∷ [])) 3
    ∷ edge (with_kinds (good_there ∷ data_with 5 ∷ [])) 3
    ∷ edge (with_kinds (good_last ∷ costs_with 2 1 ∷ [])) 3
    -- the other numbers of these two fields
    ∷ edge (good_platform ++ (6 ∷ 0 ∷ [])) 1
    ∷ edge (good_platform ++ field 6 9 (2 ∷ four 6)) 1
    ∷ edge (with_kinds (good_type ∷ (7 ∷ 0 ∷ []) ∷ [])) 1
    ∷ edge (with_kinds (good_all ∷ field 7 8 (four 2) ∷ [])) 1
    ∷ edge (good_platform ++ field 6 10 []) 4
    ∷ edge (with_kinds (good_type ∷ field 7 9 [] ∷ [])) 4
    ∷ edge (good_platform ++ (second_with 0 1000001 5 ++ good_there)) 5
    ∷ edge (platform_with 3 0 10 8 ++ (second_with 14 6 5 ++ good_there)) 5
    ∷ edge (platform_with 16 0 10 8 ++ (second_with 1 6 5 ++ good_there)) 5
    ∷ edge (platform_with 1 0 10 8 ++ (second_with 255 6 1000001 ++ good_there)) 5
    ∷ edge (with_kinds (replicate 6 good_last ++ (good_there ∷ []))) 7
    ∷ edge (good_platform ++ (second_with 2 1000001 5 ++ good_there)) 8
    ∷ edge (good_platform ++ (second_with 2 6 1000001 ++ good_there)) 8
    ∷ edge (with_kinds (good_type ∷ costs_with 1000001 1 ∷ [])) 8
    ∷ edge (with_kinds (good_all ∷ costs_with 2 1000001 ∷ [])) 8
    -- and in file order: what such a field is refused with comes before any fault of a later one, and before 41
    ∷ edge (good_platform ++ (second_with 0 6 5 ++ field 8 2 [])) 5
    ∷ edge (good_platform ++ (second_with 2 1000001 5 ++ good_platform)) 8
    ∷ edge (with_types (good_type ∷ costs_with 2 1000001 ∷ (2 ∷ []) ∷ [])) 8
    ∷ edge (with_types (good_type ∷ most_with 0 ∷ costs_with 2 1 ∷ [])) 31
    ∷ []

-- request 2026-14, C and T of a type: U is 10 and u is 4 where nothing else is written
unfoldable pub pace_edges : List Edge
pace_edges =
    -- "after any tag 4, at most one": after the type, its tag 3 or its tag 4, and before a tag 7. The file of 307 bytes, the longest
    edge (with_types (good_paced ∷ [])) 0
    ∷ edge (with_types (good_both ∷ pace_with 1 3 ∷ good_type ∷ [])) 0
    ∷ edge (with_types (good_type ∷ most_with 1 ∷ pace_with 1 3 ∷ good_paced ∷ [])) 0
    ∷ edge (with_types (replicate 6 (good_all ++ pace_with 2 5))) 0
    ∷ edge (with_kinds (good_paced ∷ costs_with 2 1 ∷ [])) 42
    ∷ edge (with_kinds (replicate 6 good_whole)) 42
    ∷ edge (pace_with 2 5) 3
    ∷ edge (with_types (field 5 9 [] ∷ [])) 3
    ∷ edge (with_kinds (pace_with 2 5 ∷ good_there ∷ [])) 3
    ∷ edge (with_types (good_paced ∷ data_with 5 ∷ [])) 3
    ∷ edge (with_types (good_paced ∷ most_with 1 ∷ [])) 3
    ∷ edge (with_types (good_paced ∷ pace_with 2 5 ∷ [])) 3
    ∷ edge (with_types (good_paced ∷ good_platform ∷ [])) 3
    ∷ edge (with_types (good_paced ∷ good_second ∷ [])) 3
    ∷ edge (with_kinds (good_there ∷ pace_with 2 5 ∷ [])) 3
    ∷ edge (with_types (good_all ∷ (5 ∷ 0 ∷ []) ∷ [])) 1
    ∷ edge (with_types (good_paced ∷ (8 ∷ []) ∷ [])) 1
    ∷ edge (with_types (good_paced ∷ (3 ∷ 0 ∷ []) ∷ [])) 1
    ∷ edge (with_types (good_type ∷ field 5 8 (four 2 ++ (0 ∷ two 5)) ∷ [])) 1
    ∷ edge (with_types (good_type ∷ field 5 9 [] ∷ [])) 4
    ∷ edge (with_types (good_type ∷ field 5 4 (two 2 ++ two 5) ∷ [])) 4
    -- "1 to 65,535, C at most T": each bound alone, its last good number first
    ∷ edge (platform_with 3 0 4 8 ++ (good_type ++ pace_with 65535 65535)) 0
    ∷ edge (platform_with 3 0 4 8 ++ (good_type ++ pace_with 1 65536)) 43
    ∷ edge (platform_with 3 0 4 8 ++ (good_type ++ pace_with 65536 65536)) 43
    ∷ edge (with_types (type_with 10 3 1 ∷ pace_with 1 1 ∷ [])) 0
    ∷ edge (with_types (type_with 10 3 1 ∷ pace_with 0 1 ∷ [])) 43
    ∷ edge (with_types (type_with 10 3 1 ∷ pace_with 0 0 ∷ [])) 43
    ∷ edge (with_types (type_with 100 3 1 ∷ pace_with 5 5 ∷ [])) 0
    ∷ edge (with_types (type_with 100 3 1 ∷ pace_with 6 5 ∷ [])) 43
    -- "U is 0"
    ∷ edge (platform_with 3 0 0 8 ++ (good_type ++ pace_with 1 1)) 43
    -- "u × T is less than C × U": by one, and with products of 36 bits, of which u 16,945 would pass by their lower 32; of a card of two kinds it is the
    -- first kind's u and U that count
    ∷ edge (with_types (type_with 9 3 1 ∷ pace_with 1 1 ∷ [])) 43
    ∷ edge (with_types (type_with 3 3 1 ∷ pace_with 2 7 ∷ [])) 0
    ∷ edge (with_types (type_with 3 3 1 ∷ pace_with 2 6 ∷ [])) 43
    ∷ edge (platform_with 3 0 1000000 8 ++ (type_with 1000000 3 1 ++ pace_with 65535 65535)) 0
    ∷ edge (platform_with 3 0 1000000 8 ++ (type_with 999999 3 1 ++ pace_with 65535 65535)) 43
    ∷ edge (platform_with 3 0 1000000 8 ++ (type_with 16945 3 1 ++ pace_with 65535 65535)) 43
    ∷ edge (with_kinds (good_type ∷ pace_with 1 2 ∷ costs_with 6 1 ∷ [])) 43
    -- "after 31", in file order, and before 41 and 10
    ∷ edge (with_types (replicate 6 good_paced ++ (good_type ∷ pace_with 0 5 ∷ []))) 7
    ∷ edge (with_types (good_type ∷ data_with 1000001 ∷ pace_with 0 5 ∷ [])) 8
    ∷ edge (with_types (good_type ∷ most_with 0 ∷ pace_with 0 5 ∷ [])) 31
    ∷ edge (with_types (good_type ∷ pace_with 0 5 ∷ costs_with 1000001 1 ∷ [])) 43
    ∷ edge (with_types (good_type ∷ pace_with 0 5 ∷ (2 ∷ []) ∷ [])) 43
    ∷ edge (with_types (type_with 4 3 4096 ∷ pace_with 0 5 ∷ [])) 43
    ∷ edge (with_types (good_paced ∷ costs_with 2 1 ∷ [])) 41
    ∷ edge (with_types (type_with 4 3 4096 ∷ pace_with 2 5 ∷ [])) 10
    ∷ []

-- the number as an outcome
abbrev pub told : ℕ → Outcome
told zero = accepted []
told (suc n) = refused from_input (suc n)

-- every file comes to what the papers write
abbrev pub EdgesHold : List Edge → Type 0
EdgesHold es = map (λ (e : Edge). read_outcome (read_file e.file)) es ≡ map (λ (e : Edge). told e.comes_to) es

-- where two kinds will do, those of 42 open, and every other file comes to the same
abbrev pub told_of_card : ℕ → Outcome
told_of_card n = cond (eqb n 42) (accepted []) (told n)

abbrev pub CardEdgesHold : List Edge → Type 0
CardEdgesHold es = map (λ (e : Edge). read_outcome (read_card e.file)) es ≡ map (λ (e : Edge). told_of_card e.comes_to) es

-- the file's types have these d, 0 past k
abbrev pub DataRead : List ℕ → List ℕ → Type 0
DataRead file ds = map (λ (t : TaskType). t.data) (read_system (read_file file)).types ≡ ds

-- and these q, none past k
abbrev pub MostRead : List ℕ → List (Option ℕ) → Type 0
MostRead file qs = map (λ (t : TaskType). t.most) (read_system (read_file file)).types ≡ qs

-- and these C and T, none past k
abbrev pub PaceRead : List ℕ → List (Option Cycle) → Type 0
PaceRead file paces = map (λ (t : TaskType). t.pace) (read_system (read_file file)).types ≡ paces

-- the card has this second kind, and its types these u and s there, none past k
abbrev pub SecondRead : List ℕ → Option Kind → Type 0
SecondRead file second = (read_system (read_card file)).second ≡ second

abbrev pub ThereRead : List ℕ → List (Option Costs) → Type 0
ThereRead file costs = map (λ (t : TaskType). t.there) (read_system (read_card file)).types ≡ costs
