-- A q need not be at most n (request 2026-04): a system with q 65,535 beside n 0, and with q 7 beside n 3, is read from its file, and written it gives the same bytes.
-- A card of two kinds of engine (request 2026-13) is read from its file, refused 42 where one kind is wanted, and written it gives the same bytes.
-- So does a card of one kind with C and T (request 2026-14), its tag 5 after the tag 4; with a T one less the type's u is too small for its share of an engine, and 43 is said by reader and writer.
-- All by computation.
use Rattle.std.proofs.Common.{Some, None}
use Prim.Native.Nat.{ℕ}
use mathlib.Core.Path.{◌≡◌, refl}
use mathlib.Core.List.{List, [], ◌∷◌}
use lib.ListN.{replicate}
use Rattle.system.specs.declared.Cycle.{Cycle}
use Rattle.system.specs.declared.System.{System}
use Rattle.system.specs.Values.{no_task}
use Rattle.system.specs.Limits.{paces_fault, kinds_agree, columns_of}
use Rattle.system.specs.Rules.{rule_of}
use Rattle.system.specs.Layout.{opened, unread, head_of, ruled_head, body_of, ruled_field, field_of, platform_from, type_from, data_from, most_from, pace_from, second_from, costs_from, end_of, fields_from, read_card, of_one_kind, read_file}
use Rattle.system.specs.Outcome.{accepted, refused, from_input}
use Rattle.writer.specs.File.{field_bytes, types_bytes, file_of}
use Rattle.writer.specs.Writing.{types_fault, mosts_fault, system_fault, write_fault, write_outcome, written_to}

abbrev pub replicas : System
replicas =
    record {
      engines = 4;
      rule = 1;
      timecap = 100;
      memorycap = 200;
      typecount = 2;
      types =
          record { time = 10; memory = 20; ceiling = 0; «data» = 0; most = Some 65535; pace = None; there = None }
          ∷ record { time = 30; memory = 40; ceiling = 3; «data» = 5; most = Some 7; pace = None; there = None }
          ∷ replicate 4 no_task;
      second = None;
    }

-- the platform; type 1 and its q; type 2, its d and its q
abbrev pub file : List ℕ
file =
    1 ∷ 0 ∷ 10 ∷ 4 ∷ 1 ∷ 0 ∷ 0 ∷ 0 ∷ 100 ∷ 0 ∷ 0 ∷ 0 ∷ 200
    ∷ 2 ∷ 0 ∷ 10 ∷ 0 ∷ 0 ∷ 0 ∷ 10 ∷ 0 ∷ 0 ∷ 0 ∷ 20 ∷ 0 ∷ 0
    ∷ 4 ∷ 0 ∷ 2 ∷ 255 ∷ 255
    ∷ 2 ∷ 0 ∷ 10 ∷ 0 ∷ 0 ∷ 0 ∷ 30 ∷ 0 ∷ 0 ∷ 0 ∷ 40 ∷ 0 ∷ 3
    ∷ 3 ∷ 0 ∷ 4 ∷ 0 ∷ 0 ∷ 0 ∷ 5
    ∷ 4 ∷ 0 ∷ 2 ∷ 0 ∷ 7
    ∷ []

pub replicas-read : read_file file ≡ opened replicas
unfolding read_file of_one_kind read_card fields_from field_of head_of ruled_head rule_of ruled_field body_of platform_from type_from data_from most_from end_of kinds_agree columns_of
replicas-read = refl

pub replicas-written : (write_outcome replicas 56 ≡ accepted (56 ∷ [])) × (written_to replicas (replicate 56 0) ≡ file)
unfolding write_outcome written_to write_fault system_fault kinds_agree types_fault mosts_fault paces_fault columns_of file_of types_bytes field_bytes rule_of
replicas-written = (refl, refl)

-- two kinds: 4 engines, and 2 more with U 50 and S 300, where the type needs 6 and 9
abbrev pub kinds : System
kinds =
    record {
      engines = 4;
      rule = 1;
      timecap = 100;
      memorycap = 200;
      typecount = 1;
      types =
          record { time = 10; memory = 20; ceiling = 3; «data» = 5; most = Some 7; pace = None; there = Some (record { time = 6; memory = 9 }) }
          ∷ replicate 5 no_task;
      second = Some (record { number = 2; timecap = 50; memorycap = 300 });
    }

-- the platform; the second kind; the type, its d, its q, and its u and s there
abbrev pub card : List ℕ
card =
    1 ∷ 0 ∷ 10 ∷ 4 ∷ 1 ∷ 0 ∷ 0 ∷ 0 ∷ 100 ∷ 0 ∷ 0 ∷ 0 ∷ 200
    ∷ 6 ∷ 0 ∷ 9 ∷ 2 ∷ 0 ∷ 0 ∷ 0 ∷ 50 ∷ 0 ∷ 0 ∷ 1 ∷ 44
    ∷ 2 ∷ 0 ∷ 10 ∷ 0 ∷ 0 ∷ 0 ∷ 10 ∷ 0 ∷ 0 ∷ 0 ∷ 20 ∷ 0 ∷ 3
    ∷ 3 ∷ 0 ∷ 4 ∷ 0 ∷ 0 ∷ 0 ∷ 5
    ∷ 4 ∷ 0 ∷ 2 ∷ 0 ∷ 7
    ∷ 7 ∷ 0 ∷ 8 ∷ 0 ∷ 0 ∷ 0 ∷ 6 ∷ 0 ∷ 0 ∷ 0 ∷ 9
    ∷ []

pub kinds-read : (read_card card ≡ opened kinds) × (read_file card ≡ unread 42)
unfolding read_file of_one_kind read_card fields_from field_of head_of ruled_head rule_of ruled_field body_of platform_from type_from data_from most_from second_from costs_from end_of kinds_agree columns_of
kinds-read = (refl, refl)

pub kinds-written : (write_outcome kinds 61 ≡ accepted (61 ∷ [])) × (written_to kinds (replicate 61 0) ≡ card)
unfolding write_outcome written_to write_fault system_fault kinds_agree types_fault mosts_fault paces_fault columns_of file_of types_bytes field_bytes rule_of
kinds-written = (refl, refl)

-- one kind: of each 30 ticks an instance runs 3, a tenth of an engine, as u is 10 of a U of 100
abbrev pub cycle : ℕ → Cycle
cycle period = record { run = 3; period = period }

abbrev pub runs : ℕ → System
runs period =
    record {
      engines = 4;
      rule = 1;
      timecap = 100;
      memorycap = 200;
      typecount = 1;
      types =
          record { time = 10; memory = 20; ceiling = 3; «data» = 5; most = Some 7; pace = Some (cycle period); there = None }
          ∷ replicate 5 no_task;
      second = None;
    }

-- the platform; the type, its d, its q, and its C and T
abbrev pub runs_file : ℕ → List ℕ
runs_file period =
    1 ∷ 0 ∷ 10 ∷ 4 ∷ 1 ∷ 0 ∷ 0 ∷ 0 ∷ 100 ∷ 0 ∷ 0 ∷ 0 ∷ 200
    ∷ 2 ∷ 0 ∷ 10 ∷ 0 ∷ 0 ∷ 0 ∷ 10 ∷ 0 ∷ 0 ∷ 0 ∷ 20 ∷ 0 ∷ 3
    ∷ 3 ∷ 0 ∷ 4 ∷ 0 ∷ 0 ∷ 0 ∷ 5
    ∷ 4 ∷ 0 ∷ 2 ∷ 0 ∷ 7
    ∷ 5 ∷ 0 ∷ 8 ∷ 0 ∷ 0 ∷ 0 ∷ 3 ∷ 0 ∷ 0 ∷ 0 ∷ period
    ∷ []

pub runs-read : (read_file (runs_file 30) ≡ opened (runs 30)) × (read_file (runs_file 29) ≡ unread 43)
unfolding read_file of_one_kind read_card fields_from field_of head_of ruled_head rule_of ruled_field body_of platform_from type_from data_from most_from pace_from end_of kinds_agree columns_of
runs-read = (refl, refl)

pub runs-written : (write_outcome (runs 30) 49 ≡ accepted (49 ∷ [])) × (written_to (runs 30) (replicate 49 0) ≡ runs_file 30)
    × (write_outcome (runs 29) 49 ≡ refused from_input 43) × (written_to (runs 29) (replicate 49 0) ≡ replicate 49 0)
unfolding write_outcome written_to write_fault system_fault kinds_agree types_fault mosts_fault paces_fault columns_of file_of types_bytes field_bytes rule_of
runs-written = (refl, refl, refl, refl)
