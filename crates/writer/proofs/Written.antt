-- What is written reads, and so does every file of the system: the reader goes over its fields one by one. After the platform, any second kind and some types it holds them, with 0 past them;
-- a type's d is set by the tag 3 after it, and is 0 where there is none; its q is set by the tag 4 after both, its C and T by the tag 5 after these, and its u and s on the second kind by the tag 7 after them all; none is given
-- where there is no such tag.
-- At the end 9, 41 and 10 pass, since the writer asked them.
use Rattle.std.proofs.Common.{Option, None, Some, Result, Ok}
use Rattle.system.specs.declared.Costs.{Costs}
use Rattle.system.specs.declared.Cycle.{Cycle}
use Prim.Native.Nat.{ℕ, zero, suc, ◌+◌, ◌-◌, ◌≤◌, ◌<◌}
use mathlib.Core.Path.{◌≡◌, refl, sym, ap, ◌∙◌, subst}
use mathlib.Core.List.{List, [], ◌∷◌, ◌++◌, append-nil, append_assoc}
use mathlib.Core.Bool.{Bool, true, false}
use native.Mathlib.Omega.{arith}
use native.Mathlib.Nat.{le_refl}
use borrow.Author.Tests.{le-leb, lt-leb, eqb-true, eq-eqb, ne_eqb}
use lib.ListN.{length, get_or, take, replicate, set, length-append, length-replicate}
use lib.Seq.{append_snoc, set-append_seam, set-set, get_or-set_same, take-suc, length-take-le}
use Rattle.buffer.proofs.Laws.{bytes2-read, bytes4-read}
use Rattle.system.specs.declared.Kind.{Kind}
use Rattle.system.specs.declared.TaskType.{TaskType}
use Rattle.system.specs.declared.System.{System}
use Rattle.system.specs.declared.FieldRule.{FieldRule}
use Rattle.system.specs.Values.{task_of, with_data, with_most, with_pace, with_costs, no_task, blank, with_platform, with_second, with_type, last_type, with_last, cleared}
use Rattle.system.specs.Limits.{type_limit, platform_fault, kind_fault, second_fault, type_fault, most_fault, pace_fault, costs_fault, kinds_fault, columns_fault}
use Rattle.system.specs.Rules.{platform_rule, type_rule, data_rule, most_rule, pace_rule, second_rule, costs_rule, rule_of, follows, may_follow, head_size}
use Rattle.system.specs.Layout.{Reading, opened, unread, word4, head_of, ruled_head, body_part, body_of, platform_from, type_from, data_from, most_from, pace_from, second_from, costs_from}
use Rattle.system.specs.Layout.{unless_fault, ruled_field, field_of, end_of, after_field, fields_from, read_card}
use Rattle.system.proofs.Laws.{sized-task, sized-test, paces-each, type-later, fields_from-nil}
use Rattle.partition.specs.Plain.{type_no}
use Rattle.writer.specs.File.{file_of}
use Rattle.writer.specs.Writing.{or_else, system_fault}
use Rattle.writer.specs.Meaning.{two_out, four_out, platform_out, second_out, data_out, most_out, pace_out, costs_out, type_out, types_out, file_with}
use Rattle.writer.proofs.Bytes.{four-out, file-out}
use Rattle.writer.proofs.Told.{HasData, left_out, given, has-data}
use Rattle.writer.proofs.Cleared.{same-to-k, kinds-cleared}
use Rattle.writer.proofs.Writable.{types-each, mosts-each, faultless-of}
use Rattle.writer.proofs.Faults.{none_or}

-- intermediate: one field

four-read : (n : ℕ) → word4 (four_out n) 0 ≡ n
four-read n = ap (λ (l : List ℕ). word4 l 0) (sym (four-out n)) ∙ bytes4-read n

unless-none : (n : ℕ) (z : System) → n ≡ 0 → unless_fault n z ≡ opened z
unless-none n z e = rw (eq-eqb n 0 e)

field-ruled : (s : List ℕ) (last : ℕ) (z : System) (r : FieldRule) → head_of s last ≡ Ok r → field_of s last z ≡ body_of r (body_part s) z
unfolding field_of ruled_field
field-ruled s last z r e = ap (λ (h : Result FieldRule ℕ). ruled_field h (body_part s) z) e

-- a platform, at the start
module _ (y : System) (rest : List ℕ) (z : System) (sound : platform_fault y.engines y.rule y.timecap y.memorycap ≡ 0) where
  abbrev with-platform : System
  with-platform = with_platform y.engines y.rule y.timecap y.memorycap z

  platform-head : head_of (platform_out y ++ rest) 0 ≡ Ok platform_rule
  unfolding rule_of head_of ruled_head
  platform-head = rw (le-leb head_size (length (platform_out y ++ rest)) (omega arith), le-leb 13 (length (platform_out y ++ rest)) (omega arith))

  platform-body : body_of platform_rule (body_part (platform_out y ++ rest)) z ≡ opened with-platform
  unfolding body_of platform_from
  platform-body =
      rw (le-leb 13 (length (platform_out y ++ rest)) (omega arith), four-read y.timecap, four-read y.memorycap)
      (unless-none (platform_fault y.engines y.rule y.timecap y.memorycap) with-platform sound)

  platform-step : (f : ℕ) → fields_from (suc f) (platform_out y ++ rest) 0 z ≡ fields_from f rest 1 with-platform
  unfolding fields_from
  platform-step f =
      ap (λ (x : Reading). after_field x (λ (next : System). fields_from f rest 1 next))
      (field-ruled (platform_out y ++ rest) 0 z platform_rule platform-head ∙ platform-body)

-- a second kind of engine, after the platform
module _ (k : Kind) (rest : List ℕ) (z : System) (sound : kind_fault z.engines k.number k.timecap k.memorycap ≡ 0) where
  abbrev second-field : List ℕ
  second-field = second_out (Some k) ++ rest

  abbrev with_second_lem : System
  with_second_lem = with_second k.number k.timecap k.memorycap z

  second_head : head_of second-field 1 ≡ Ok second_rule
  unfolding rule_of head_of ruled_head
  second_head = rw (le-leb head_size (length second-field) (omega arith), le-leb 12 (length second-field) (omega arith))

  second-body : body_of second_rule (body_part second-field) z ≡ opened with_second_lem
  unfolding body_of second_from
  second-body =
      rw (le-leb 12 (length second-field) (omega arith), four-read k.timecap, four-read k.memorycap)
      (unless-none (kind_fault z.engines k.number k.timecap k.memorycap) with_second_lem sound)

  second-step : (f : ℕ) → fields_from (suc f) second-field 1 z ≡ fields_from f rest 6 with_second_lem
  unfolding fields_from
  second-step f =
      ap (λ (x : Reading). after_field x (λ (next : System). fields_from f rest 6 next))
      (field-ruled second-field 1 z second_rule second_head ∙ second-body)

-- u, s and n of a type, after a platform, a second kind, a type, or what belongs to one
module _ (u s n : ℕ) (rest : List ℕ) (last : ℕ) (z : System) (place : may_follow follows last type_rule.tag ≡ true) (few : z.typecount < type_limit) (sound : type_fault (task_of u s n) ≡ 0) where
  abbrev type-field : List ℕ
  type-field = type_out false (task_of u s n) ++ rest

  type-head : head_of type-field last ≡ Ok type_rule
  unfolding rule_of head_of ruled_head
  type-head = rw (le-leb head_size (length type-field) (omega arith), place, le-leb 13 (length type-field) (omega arith))

  type-body : body_of type_rule (body_part type-field) z ≡ opened (with_type (task_of u s n) z)
  unfolding body_of type_from
  type-body =
      rw (lt-leb type_limit z.typecount few, le-leb 13 (length type-field) (omega arith), four-read u, four-read s, bytes2-read n)
      (unless-none (type_fault (task_of u s n)) (with_type (task_of u s n) z) sound)

  type-step : (f : ℕ) → fields_from (suc f) type-field last z ≡ fields_from f rest 2 (with_type (task_of u s n) z)
  unfolding fields_from
  type-step f =
      ap (λ (x : Reading). after_field x (λ (next : System). fields_from f rest 2 next))
      (field-ruled type-field last z type_rule type-head ∙ type-body)

-- d of the last type, after it
module _ (d : ℕ) (rest : List ℕ) (z : System) (sound : type_fault (with_data d (last_type z)) ≡ 0) where
  abbrev data-field : List ℕ
  data-field = 3 ∷ 0 ∷ 4 ∷ (four_out d ++ rest)

  data_head : head_of data-field 2 ≡ Ok data_rule
  unfolding rule_of head_of ruled_head
  data_head = rw (le-leb head_size (length data-field) (omega arith), le-leb 7 (length data-field) (omega arith))

  data-body : body_of data_rule (body_part data-field) z ≡ opened (with_last (with_data d (last_type z)) z)
  unfolding body_of data_from
  data-body =
      rw (le-leb 7 (length data-field) (omega arith), four-read d)
      (unless-none (type_fault (with_data d (last_type z))) (with_last (with_data d (last_type z)) z) sound)

  data-step : (f : ℕ) → fields_from (suc f) data-field 2 z ≡ fields_from f rest 3 (with_last (with_data d (last_type z)) z)
  unfolding fields_from
  data-step f =
      ap (λ (x : Reading). after_field x (λ (next : System). fields_from f rest 3 next))
      (field-ruled data-field 2 z data_rule data_head ∙ data-body)

-- q of the last type, after it or its d
module _ (q : ℕ) (rest : List ℕ) (last : ℕ) (z : System) (place : may_follow follows last most_rule.tag ≡ true) (sound : most_fault (Some q) ≡ 0) where
  abbrev most-field : List ℕ
  most-field = 4 ∷ 0 ∷ 2 ∷ (two_out q ++ rest)

  most-head : head_of most-field last ≡ Ok most_rule
  unfolding rule_of head_of ruled_head
  most-head = rw (le-leb head_size (length most-field) (omega arith), place, le-leb 5 (length most-field) (omega arith))

  most-body : body_of most_rule (body_part most-field) z ≡ opened (with_last (with_most q (last_type z)) z)
  unfolding body_of most_from
  most-body =
      rw (le-leb 5 (length most-field) (omega arith), bytes2-read q)
      (unless-none (most_fault (Some q)) (with_last (with_most q (last_type z)) z) sound)

  most_step : (f : ℕ) → fields_from (suc f) most-field last z ≡ fields_from f rest 4 (with_last (with_most q (last_type z)) z)
  unfolding fields_from
  most_step f =
      ap (λ (x : Reading). after_field x (λ (next : System). fields_from f rest 4 next))
      (field-ruled most-field last z most_rule most-head ∙ most-body)

-- C and T of the last type, after it, its d or its q
module _
    (c p : ℕ)
    (rest : List ℕ)
    (last : ℕ)
    (z : System)
    (place : may_follow follows last pace_rule.tag ≡ true)
    (sound : pace_fault z.timecap (last_type z).time (Some (record { run = c; period = p })) ≡ 0) where
  abbrev pace-field : List ℕ
  pace-field = 5 ∷ 0 ∷ 8 ∷ ((four_out c ++ four_out p) ++ rest)

  pace-head : head_of pace-field last ≡ Ok pace_rule
  unfolding rule_of head_of ruled_head
  pace-head = rw (le-leb head_size (length pace-field) (omega arith), place, le-leb 11 (length pace-field) (omega arith))

  pace-body : body_of pace_rule (body_part pace-field) z ≡ opened (with_last (with_pace c p (last_type z)) z)
  unfolding body_of pace_from
  pace-body =
      rw (le-leb 11 (length pace-field) (omega arith), four-read c, four-read p)
      (unless-none (pace_fault z.timecap (last_type z).time (Some (record { run = c; period = p }))) (with_last (with_pace c p (last_type z)) z) sound)

  pace-step : (f : ℕ) → fields_from (suc f) pace-field last z ≡ fields_from f rest 5 (with_last (with_pace c p (last_type z)) z)
  unfolding fields_from
  pace-step f =
      ap (λ (x : Reading). after_field x (λ (next : System). fields_from f rest 5 next))
      (field-ruled pace-field last z pace_rule pace-head ∙ pace-body)

-- u and s of the last type on the second kind, after it, its d, its q, or its C and T
module _ (u s : ℕ) (rest : List ℕ) (last : ℕ) (z : System) (place : may_follow follows last costs_rule.tag ≡ true) (sound : costs_fault (Some (record { time = u; memory = s })) ≡ 0) where
  abbrev costs-field : List ℕ
  costs-field = 7 ∷ 0 ∷ 8 ∷ ((four_out u ++ four_out s) ++ rest)

  costs-head : head_of costs-field last ≡ Ok costs_rule
  unfolding rule_of head_of ruled_head
  costs-head = rw (le-leb head_size (length costs-field) (omega arith), place, le-leb 11 (length costs-field) (omega arith))

  costs-body : body_of costs_rule (body_part costs-field) z ≡ opened (with_last (with_costs u s (last_type z)) z)
  unfolding body_of costs_from
  costs-body =
      rw (le-leb 11 (length costs-field) (omega arith), four-read u, four-read s)
      (unless-none (costs_fault (Some (record { time = u; memory = s }))) (with_last (with_costs u s (last_type z)) z) sound)

  costs-step : (f : ℕ) → fields_from (suc f) costs-field last z ≡ fields_from f rest 7 (with_last (with_costs u s (last_type z)) z)
  unfolding fields_from
  costs-step f =
      ap (λ (x : Reading). after_field x (λ (next : System). fields_from f rest 7 next))
      (field-ruled costs-field last z costs_rule costs-head ∙ costs-body)

-- intermediate: a type with its d, its q, its C and T, and its u and s on the second kind, where it has a tag 3, 4, 5 or 7 and where not

-- what may follow a tag: a type, before that u and s on the second kind, before these C and T, and before these a q
abbrev TypeMay : ℕ → Type 0
TypeMay tag = may_follow follows tag type_rule.tag ≡ true

abbrev CostsMay : ℕ → Type 0
CostsMay tag = TypeMay tag × (may_follow follows tag costs_rule.tag ≡ true)

abbrev PaceMay : ℕ → Type 0
PaceMay tag = CostsMay tag × (may_follow follows tag pace_rule.tag ≡ true)

abbrev MostMay : ℕ → Type 0
MostMay tag = PaceMay tag × (may_follow follows tag most_rule.tag ≡ true)

-- the reader has come to `rest`, where P tells what may stand there, with steps enough for it, and holds `next`
record Comes (P : ℕ → Type 0) (f : ℕ) (s : List ℕ) (last : ℕ) (z : System) (rest : List ℕ) (next : System) : Type 0 where
  steps : ℕ
  enough : length rest ≤ steps
  tag : ℕ
  place : P tag
  goes : fields_from f s last z ≡ fields_from steps rest tag next

comes-then : {P Q : ℕ → Type 0} {f : ℕ} {s : List ℕ} {last : ℕ} {z : System} {mid rest : List ℕ} {a b : System} → Comes P f s last z mid a
    → ((steps tag : ℕ) → length mid ≤ steps → P tag → Comes Q steps mid tag a rest b)
    → Comes Q f s last z rest b
comes-then p on =
    let q = on p.steps p.tag p.enough p.place in
    record { steps = q.steps; enough = q.enough; tag = q.tag; place = q.place; goes = p.goes ∙ q.goes }

-- the type that was read last, as it stands so far: another one in its place
module _ (z : System) (six : length z.types ≡ type_limit) (few : z.typecount < type_limit) (t : TaskType) where
  last_of : last_type (with_type t z) ≡ t
  last_of =
      let back : suc z.typecount - 1 ≡ z.typecount = omega arith in
      ap (λ (k : ℕ). get_or (with_type t z).types k no_task) back ∙ get_or-set_same z.types z.typecount t no_task (omega arith)

  last_set : (change : TaskType → TaskType) → with_last (change (last_type (with_type t z))) (with_type t z) ≡ with_type (change t) z
  last_set change =
      let back : suc z.typecount - 1 ≡ z.typecount = omega arith in
      let types : set (with_type t z).types (suc z.typecount - 1) (change (last_type (with_type t z))) ≡ set z.types z.typecount (change t) =
      (λ i. set (with_type t z).types (back i) (change (last_of i))) ∙ set-set z.types z.typecount t (change t) in
      λ i. record { engines = z.engines; rule = z.rule; timecap = z.timecap; memorycap = z.memorycap; typecount = suc z.typecount; types = types i; second = z.second }

  -- its d
  data-comes : (told : Bool) (d : ℕ) → t.data ≡ 0 → type_fault (with_data d t) ≡ 0 → (rest : List ℕ) (f : ℕ) → length (data_out told d ++ rest) ≤ f
      → Comes MostMay f (data_out told d ++ rest) 2 (with_type t z) rest (with_type (with_data d t) z)
  data-comes told d bare sound rest f enough = at (has-data told d) f enough
    where
      long : length (data_out told d ++ rest) ≡ length (data_out told d) + length rest
      long = length-append (data_out told d) rest

      at : HasData told d → (f : ℕ) → length (data_out told d ++ rest) ≤ f → Comes MostMay f (data_out told d ++ rest) 2 (with_type t z) rest (with_type (with_data d t) z)
      at (left_out quiet none) f enough =
          let nothing : data_out told d ≡ [] = λ i. data_out (quiet i) (none i) in
          let same : t ≡ with_data d t = λ i. with_data ((bare ∙ sym none) i) t in
          record {
            steps = f;
            enough = omega (arith, long);
            tag = 2;
            place = (((refl, refl), refl), refl);
            goes = ap (λ (l : List ℕ). fields_from f (l ++ rest) 2 (with_type t z)) nothing ∙ ap (λ (x : TaskType). fields_from f rest 2 (with_type x z)) same;
          }
      at (given e) zero enough = absurd (omega (arith, long, ap length e))
      at (given e) (suc f) enough = record {
        steps = f;
        enough = omega (arith, long, ap length e);
        tag = 3;
        place = (((refl, refl), refl), refl);
        goes =
            ap (λ (l : List ℕ). fields_from (suc f) (l ++ rest) 2 (with_type t z)) e
            ∙ data-step d rest (with_type t z) (ap (λ (x : TaskType). type_fault (with_data d x)) last_of ∙ sound) f
            ∙ ap (fields_from f rest 3) (last_set (with_data d));
      }

  -- its q
  abbrev limited : Option ℕ → TaskType
  limited m = record { time = t.time; memory = t.memory; ceiling = t.ceiling; «data» = t.data; most = m; pace = t.pace; there = t.there }

  most-comes : (m : Option ℕ) → t.most ≡ None → most_fault m ≡ 0 → (rest : List ℕ) (f tag : ℕ) → length (most_out m ++ rest) ≤ f → MostMay tag
      → Comes PaceMay f (most_out m ++ rest) tag (with_type t z) rest (with_type (limited m) z)
  most-comes None free sound rest f tag enough place = record {
    steps = f;
    enough = enough;
    tag = tag;
    place = place.0;
    goes = let same : t ≡ limited None = λ i. limited (free i) in ap (λ (x : TaskType). fields_from f rest tag (with_type x z)) same;
  }
  most-comes (Some q) free sound rest zero tag enough place = absurd (omega arith)
  most-comes (Some q) free sound rest (suc f) tag enough place = record {
    steps = f;
    enough = omega arith;
    tag = 4;
    place = ((refl, refl), refl);
    goes = most_step q rest tag (with_type t z) place.1 sound f ∙ ap (fields_from f rest 4) (last_set (with_most q));
  }

  -- its C and T
  abbrev pacing : Option Cycle → TaskType
  pacing x = record { time = t.time; memory = t.memory; ceiling = t.ceiling; «data» = t.data; most = t.most; pace = x; there = t.there }

  pace-comes : (x : Option Cycle) → t.pace ≡ None → pace_fault z.timecap t.time x ≡ 0 → (rest : List ℕ) (f tag : ℕ) → length (pace_out x ++ rest) ≤ f → PaceMay tag
      → Comes CostsMay f (pace_out x ++ rest) tag (with_type t z) rest (with_type (pacing x) z)
  pace-comes None idle sound rest f tag enough place = record {
    steps = f;
    enough = enough;
    tag = tag;
    place = place.0;
    goes = let same : t ≡ pacing None = λ i. pacing (idle i) in ap (λ (x : TaskType). fields_from f rest tag (with_type x z)) same;
  }
  pace-comes (Some c) idle sound rest zero tag enough place = absurd (omega arith)
  pace-comes (Some c) idle sound rest (suc f) tag enough place = record {
    steps = f;
    enough = omega arith;
    tag = 5;
    place = (refl, refl);
    goes =
        pace-step c.run c.period rest tag (with_type t z) place.1 (ap (λ (x : TaskType). pace_fault z.timecap x.time (Some c)) last_of ∙ sound) f
        ∙ ap (fields_from f rest 5) (last_set (with_pace c.run c.period));
  }

  -- its u and s on the second kind
  abbrev costing : Option Costs → TaskType
  costing x = record { time = t.time; memory = t.memory; ceiling = t.ceiling; «data» = t.data; most = t.most; pace = t.pace; there = x }

  costs-comes : (x : Option Costs) → t.there ≡ None → costs_fault x ≡ 0 → (rest : List ℕ) (f tag : ℕ) → length (costs_out x ++ rest) ≤ f → CostsMay tag
      → Comes TypeMay f (costs_out x ++ rest) tag (with_type t z) rest (with_type (costing x) z)
  costs-comes None alone sound rest f tag enough place = record {
    steps = f;
    enough = enough;
    tag = tag;
    place = place.0;
    goes = let same : t ≡ costing None = λ i. costing (alone i) in ap (λ (x : TaskType). fields_from f rest tag (with_type x z)) same;
  }
  costs-comes (Some c) alone sound rest zero tag enough place = absurd (omega arith)
  costs-comes (Some c) alone sound rest (suc f) tag enough place = record {
    steps = f;
    enough = omega arith;
    tag = 7;
    place = refl;
    goes = costs-step c.time c.memory rest tag (with_type t z) place.1 sound f ∙ ap (fields_from f rest 7) (last_set (with_costs c.time c.memory));
  }

module _ (told : Bool) (t : TaskType) (rest : List ℕ) (last : ℕ) (z : System) (place : TypeMay last) where
  module _
      (six : length z.types ≡ type_limit)
      (few : z.typecount < type_limit)
      (sound : type_fault t ≡ 0)
      (apart : most_fault t.most ≡ 0)
      (paced : pace_fault z.timecap t.time t.pace ≡ 0)
      (there : costs_fault t.there ≡ 0) where
    -- the type as it stands before its d, its q, its C and T, and its u and s on the second kind are read
    abbrev bare : TaskType
    bare = task_of t.time t.memory t.ceiling

    bare-sound : type_fault bare ≡ 0
    bare-sound = let s = sized-task t sound in eqb-true (type_fault bare) 0 (sized-test bare (record { time = s.time; memory = s.memory; «data» = omega arith }))

    -- what follows it: from its C and T on, from its q on, and from its d on
    abbrev paces : List ℕ
    paces = pace_out t.pace ++ (costs_out t.there ++ rest)

    abbrev mosts : List ℕ
    mosts = most_out t.most ++ paces

    abbrev tail : List ℕ
    tail = data_out told t.data ++ mosts

    -- and what it is once they are read
    abbrev loaded : TaskType
    loaded = with_data t.data bare

    abbrev limited-type : TaskType
    limited-type = limited z six few loaded t.most

    abbrev paced-type : TaskType
    paced-type = pacing z six few limited-type t.pace

    bare-comes : (f : ℕ) → length (type_out false bare ++ tail) ≤ f → Comes (λ (tag : ℕ). tag ≡ 2) f (type_out false bare ++ tail) last z tail (with_type bare z)
    bare-comes zero enough = absurd (omega arith)
    bare-comes (suc f) enough = record {
      steps = f;
      enough = omega arith;
      tag = 2;
      place = refl;
      goes = type-step t.time t.memory t.ceiling tail last z place few bare-sound f;
    }

    one_type : (f : ℕ) → length (type_out told t ++ rest) ≤ f → Comes TypeMay f (type_out told t ++ rest) last z rest (with_type t z)
    one_type f enough =
        let joined : type_out false bare ++ tail ≡ type_out told t ++ rest =
        ap (λ (l : List ℕ). type_out false bare ++ l)
        (ap (λ (l : List ℕ). data_out told t.data ++ l)
        (ap (λ (l : List ℕ). most_out t.most ++ l) (sym (append_assoc (pace_out t.pace) (costs_out t.there) rest))
        ∙ sym (append_assoc (most_out t.most) (pace_out t.pace ++ costs_out t.there) rest))
        ∙ sym (append_assoc (data_out told t.data) (most_out t.most ++ (pace_out t.pace ++ costs_out t.there)) rest)) in
        subst (λ (s : List ℕ). Comes TypeMay f s last z rest (with_type t z)) joined
        (comes-then (bare-comes f (omega (arith, ap length joined)))
        (λ steps tag more is.
        comes-then
        (subst
        (λ (n : ℕ). Comes MostMay steps tail n (with_type bare z) mosts (with_type loaded z))
        (sym is)
        (data-comes z six few bare told t.data refl sound mosts steps more))
        (λ steps tag more place.
        comes-then (most-comes z six few loaded t.most refl apart paces steps tag more place)
        (λ steps tag more place.
        comes-then (pace-comes z six few limited-type t.pace refl paced (costs_out t.there ++ rest) steps tag more place)
        (λ steps tag more place. costs-comes z six few paced-type t.there refl there rest steps tag more place)))))

-- intermediate: the system that the reader holds after the platform of y and some types

abbrev holding : System → List TaskType → System
holding y done =
    record {
      engines = y.engines;
      rule = y.rule;
      timecap = y.timecap;
      memorycap = y.memorycap;
      typecount = length done;
      types = done ++ replicate (type_limit - length done) no_task;
      second = y.second;
    }

holding-more : (y : System) (done : List TaskType) (t : TaskType) → length done < type_limit → with_type t (holding y done) ≡ holding y (done ++ (t ∷ []))
holding-more y done t few =
    let count : suc (length done) ≡ length (done ++ (t ∷ [])) = omega (arith, length-append done (t ∷ [])) in
    let one : type_limit - length done ≡ suc (type_limit - suc (length done)) = omega arith in
    let types : set (done ++ replicate (type_limit - length done) no_task) (length done) t ≡ (done ++ (t ∷ [])) ++ replicate (type_limit - suc (length done)) no_task =
    ap (λ (n : ℕ). set (done ++ replicate n no_task) (length done) t) one
    ∙ set-append_seam done no_task (replicate (type_limit - suc (length done)) no_task) t
    ∙ sym (append_snoc done t (replicate (type_limit - suc (length done)) no_task)) in
    let all = types ∙ ap (λ (n : ℕ). (done ++ (t ∷ [])) ++ replicate (type_limit - n) no_task) count in
    λ i. record { engines = y.engines; rule = y.rule; timecap = y.timecap; memorycap = y.memorycap; typecount = count i; types = all i; second = y.second }

holding-six : (y : System) (done : List TaskType) → length done ≤ type_limit → length (holding y done).types ≡ type_limit
holding-six y done few = omega (arith, length-append done (replicate (type_limit - length done) no_task), length-replicate (type_limit - length done) no_task)

-- after the platform and any second kind

abbrev equipped : System → Option Kind → System
equipped y s =
    record {
      engines = y.engines;
      rule = y.rule;
      timecap = y.timecap;
      memorycap = y.memorycap;
      typecount = 0;
      types = replicate type_limit no_task;
      second = s;
    }

second-comes : (y : System) (s : Option Kind) → second_fault y.engines s ≡ 0 → (rest : List ℕ) (f : ℕ) → length (second_out s ++ rest) ≤ f
    → Comes TypeMay f (second_out s ++ rest) 1 (equipped y None) rest (equipped y s)
second-comes y None sound rest f enough = record { steps = f; enough = enough; tag = 1; place = refl; goes = refl }
second-comes y (Some k) sound rest zero enough = absurd (omega arith)
second-comes y (Some k) sound rest (suc f) enough = record {
  steps = f;
  enough = omega arith;
  tag = 6;
  place = refl;
  goes = second-step k rest (equipped y None) sound f;
}

-- at the end it does not matter which field was the last
end_later : (last : ℕ) (z : System) → (last ≡ 0 → ⊥) → end_of last z ≡ end_of 2 z
unfolding end_of
end_later last z n = rw (ne_eqb last 0 n)

-- intermediate: every file of which each field passes is read to its end

-- what the fields of a system's file are judged by: nothing of it is asked at the end
pub record Passing (y : System) : Type 0 where
  pub few : y.typecount ≤ type_limit
  pub platform : platform_fault y.engines y.rule y.timecap y.memorycap ≡ 0
  pub second : second_fault y.engines y.second ≡ 0
  pub sound : (t : ℕ) → 1 ≤ t → t ≤ y.typecount → type_fault (type_no y t) ≡ 0
  pub costs : (t : ℕ) → 1 ≤ t → t ≤ y.typecount → costs_fault (type_no y t).there ≡ 0
  pub apart : (t : ℕ) → 1 ≤ t → t ≤ y.typecount → most_fault (type_no y t).most ≡ 0
  pub paced : (t : ℕ) → 1 ≤ t → t ≤ y.typecount → pace_fault y.timecap (type_no y t).time (type_no y t).pace ≡ 0

module _ (told : ℕ → Bool) (y : System) (six : length y.types ≡ 6) (pass : Passing y) where
  first-types : (n : ℕ) → n ≤ y.typecount → length (take n y.types) ≡ n
  first-types n h = length-take-le n y.types (omega (arith, pass.few))

  next-type : (n : ℕ) → n < y.typecount → with_type (type_no y (suc n)) (holding y (take n y.types)) ≡ holding y (take (suc n) y.types)
  next-type n h =
      let back : suc n - 1 ≡ n = omega arith in
      holding-more y (take n y.types) (type_no y (suc n)) (omega (arith, pass.few, first-types n (omega arith)))
      ∙ ap (λ (j : ℕ). holding y (take n y.types ++ (get_or y.types j no_task ∷ []))) back
      ∙ ap (holding y) (sym (take-suc y.types n no_task (omega (arith, pass.few))))

  types-read : (n : ℕ) → n ≤ y.typecount → (first : ℕ) → TypeMay first → (f : ℕ) (rest : List ℕ) → length (types_out told y n ++ rest) ≤ f
      → Comes TypeMay f (types_out told y n ++ rest) first (holding y []) rest (holding y (take n y.types))
  unfolding types_out
  types-read zero h first start f rest enough = record { steps = f; enough = enough; tag = first; place = start; goes = refl }
  types-read (suc n) h first start f rest enough =
      let t = type_no y (suc n) in
      let done = take n y.types in
      let joined : types_out told y n ++ (type_out (told (suc n)) t ++ rest) ≡ (types_out told y n ++ type_out (told (suc n)) t) ++ rest =
      sym (append_assoc (types_out told y n) (type_out (told (suc n)) t) rest) in
      let few : length done < type_limit = omega (arith, pass.few, first-types n (omega arith)) in
      subst (λ (s : List ℕ). Comes TypeMay f s first (holding y []) rest (holding y (take (suc n) y.types))) joined
      (subst (Comes TypeMay f (types_out told y n ++ (type_out (told (suc n)) t ++ rest)) first (holding y []) rest) (next-type n h)
      (comes-then (types-read n (omega arith) first start f (type_out (told (suc n)) t ++ rest) (omega (arith, ap length joined)))
      (λ steps tag more place.
      one_type (told (suc n)) t rest tag (holding y done) place (holding-six y done (omega arith)) few (pass.sound (suc n) (omega arith) h) (pass.apart (suc n) (omega arith) h)
      (pass.paced (suc n) (omega arith) h) (pass.costs (suc n) (omega arith) h) steps more)))

  reads-cleared : holding y (take y.typecount y.types) ≡ cleared y
  reads-cleared =
      let count = first-types y.typecount (le_refl y.typecount) in
      λ i. record {
        engines = y.engines;
        rule = y.rule;
        timecap = y.timecap;
        memorycap = y.memorycap;
        typecount = count i;
        types = take y.typecount y.types ++ replicate (type_limit - count i) no_task;
        second = y.second;
      }

  fields_read : (f : ℕ) → length (file_with told y) ≤ f → fields_from f (file_with told y) 0 blank ≡ end_of 2 (cleared y)
  fields_read zero enough = absurd (omega arith)
  fields_read (suc f) enough =
      let k = y.typecount in
      let all = append-nil (types_out told y k) in
      let both : second_out y.second ++ (types_out told y k ++ []) ≡ second_out y.second ++ types_out told y k = ap (λ (l : List ℕ). second_out y.second ++ l) all in
      let p =
      comes-then (second-comes y y.second pass.second (types_out told y k ++ []) f (omega (arith, ap length both)))
      (λ steps tag more place. types-read k (le_refl k) tag place steps [] more) in
      platform-step y (second_out y.second ++ types_out told y k) blank pass.platform f
      ∙ ap (λ (s : List ℕ). fields_from f s 1 (equipped y None)) (sym both)
      ∙ p.goes
      ∙ fields_from-nil p.steps p.tag (holding y (take k y.types))
      ∙ ap (end_of p.tag) reads-cleared
      ∙ end_later p.tag (cleared y) (type-later p.tag p.place)

  pub told-ends : read_card (file_with told y) ≡ end_of 2 (cleared y)
  unfolding read_card
  told-ends = fields_read (length (file_with told y)) (le_refl (length (file_with told y)))

-- what is judged at the end: 9, 41, 10
pub ends-nine : (y : System) → y.typecount ≡ 0 → end_of 2 (cleared y) ≡ unread 9
unfolding end_of
ends-nine y none = rw (eq-eqb y.typecount 0 none)

module _ (y : System) (some : 1 ≤ y.typecount) (long : y.typecount ≤ length y.types) where
  pub ends-forty-one : kinds_fault y ≡ 41 → end_of 2 (cleared y) ≡ unread 41
  unfolding end_of
  ends-forty-one apart = let kinds : kinds_fault (cleared y) ≡ 41 = kinds-cleared y long ∙ apart in rw (ne_eqb y.typecount 0 (λ e. omega arith), kinds)

  pub ends-ten : kinds_fault y ≡ 0 → columns_fault (cleared y).types ≡ 10 → end_of 2 (cleared y) ≡ unread 10
  unfolding end_of
  ends-ten agree many = let kinds : kinds_fault (cleared y) ≡ 0 = kinds-cleared y long ∙ agree in rw (ne_eqb y.typecount 0 (λ e. omega arith), kinds, many)

  pub ends_open : kinds_fault y ≡ 0 → columns_fault (cleared y).types ≡ 0 → end_of 2 (cleared y) ≡ opened (cleared y)
  unfolding end_of
  ends_open agree few =
      let kinds : kinds_fault (cleared y) ≡ 0 = kinds-cleared y long ∙ agree in
      rw (ne_eqb y.typecount 0 (λ e. omega arith))
      (unless-none (or_else (kinds_fault (cleared y)) (columns_fault (cleared y).types)) (cleared y) (none_or (kinds_fault (cleared y)) (columns_fault (cleared y).types) kinds few))

-- main: every file of the system reads as it, 0 past k

module _ (told : ℕ → Bool) (y : System) (six : length y.types ≡ 6) (none : system_fault y ≡ 0) where
  few-types : y.typecount ≤ type_limit
  few-types = (faultless-of y none).count.1

  each-sound : (t : ℕ) → 1 ≤ t → t ≤ y.typecount → type_fault (type_no y t) ≡ 0
  each-sound t low high = ap type_fault (sym ((same-to-k y six few-types).types t low high)) ∙ (types-each (cleared y).types (faultless-of y none).types (t - 1)).0

  each-costs : (t : ℕ) → 1 ≤ t → t ≤ y.typecount → costs_fault (type_no y t).there ≡ 0
  each-costs t low high =
      ap (λ (x : TaskType). costs_fault x.there) (sym ((same-to-k y six few-types).types t low high)) ∙ (types-each (cleared y).types (faultless-of y none).types (t - 1)).1

  each-apart : (t : ℕ) → 1 ≤ t → t ≤ y.typecount → most_fault (type_no y t).most ≡ 0
  each-apart t low high =
      ap (λ (x : TaskType). most_fault x.most) (sym ((same-to-k y six few-types).types t low high)) ∙ mosts-each (cleared y).types (faultless-of y none).replicas (t - 1)

  each-paced : (t : ℕ) → 1 ≤ t → t ≤ y.typecount → pace_fault y.timecap (type_no y t).time (type_no y t).pace ≡ 0
  each-paced t low high =
      ap (λ (x : TaskType). pace_fault y.timecap x.time x.pace) (sym ((same-to-k y six few-types).types t low high))
      ∙ paces-each y.timecap type_limit (cleared y).types (faultless-of y none).paces (t - 1) (omega (arith, few-types))

  pub told-reads : read_card (file_with told y) ≡ opened (cleared y)
  told-reads =
      let f = faultless-of y none in
      let pass : Passing y = record { few = few-types; platform = f.platform; second = f.second; sound = each-sound; costs = each-costs; apart = each-apart; paced = each-paced } in
      told-ends told y six pass ∙ ends_open y f.count.0 (omega (arith, few-types)) f.kinds f.columns

pub written-reads : (y : System) → length y.types ≡ 6 → system_fault y ≡ 0 → read_card (file_of y) ≡ opened (cleared y)
written-reads y six none =
    let few = (faultless-of y none).count in
    ap read_card (file-out y (omega arith)) ∙ told-reads (λ (t : ℕ). false) y six none
