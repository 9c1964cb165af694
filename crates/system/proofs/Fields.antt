-- What a field that is read does to the system so far: a type is one more, with d 0, no q, no C and T and nothing of a second kind; a tag 3 sets d of the last type and nothing else (request 2026-03), a tag 4 its q and nothing else (2026-04), a tag 5 its C and T and nothing else (2026-14), a tag 6 the second kind of engine and nothing else, and a tag 7 the last type's u and s there and nothing else (2026-13).
use Rattle.std.proofs.Common.{None, Some, Ok}
use Prim.Native.Nat.{ℕ, suc, ◌-◌, ◌≤◌, ◌<◌}
use native.Mathlib.Omega.{arith}
use mathlib.Core.List.{List}
use mathlib.Core.Bool.{true, false}
use mathlib.Core.Path.{◌≡◌, refl, ap, ◌∙◌, subst}
use borrow.Author.Tests.{le-leb, lt-leb, leb-false, ne_eqb}
use lib.ListN.{length, get_or}
use lib.Seq.{get_or-set_same, get_or-set_other}
use lib.Dec.{leb}
use Rattle.system.specs.declared.Cycle.{Cycle}
use Rattle.system.specs.declared.Costs.{Costs}
use Rattle.system.specs.declared.TaskType.{TaskType}
use Rattle.system.specs.declared.System.{System}
use Rattle.system.specs.declared.FieldRule.{FieldRule}
use Rattle.system.specs.Values.{task_of, with_data, with_most, with_pace, with_costs, no_task, with_second, with_type, last_type, with_last}
use Rattle.system.specs.Limits.{type_limit, size_limit, kind_fault, type_fault, most_fault, cycle_keeps, pace_fault, costs_fault}
use Rattle.system.specs.Layout.{type_rule, data_rule, most_rule, pace_rule, second_rule, costs_rule, follows, may_follow, opened, unread, byte_at, word2, word4, body_part}
use Rattle.system.specs.Layout.{type_from, type_of, data_from, most_from, pace_from, second_from, costs_from, head_of, body_of, ruled_field, field_of, read_card, read_file}
use Rattle.system.proofs.Laws.{some-replica, CycleLimits, cycle-limits, costs-sized, passes, no-fault, Sound, OneOf, a-platform, a-type, a-data, a-most, a-pace, a_second, a-costs, part-later, field_of-opened, read-card-limits, file-card}

-- type t, counted from 0
abbrev type_at : System → ℕ → TaskType
type_at y t = get_or y.types t no_task

-- the platform's numbers
pub record SameFirst (y z : System) : Type 0 where
  pub engines : z.engines ≡ y.engines
  pub rule : z.rule ≡ y.rule
  pub timecap : z.timecap ≡ y.timecap
  pub memorycap : z.memorycap ≡ y.memorycap

-- and any second kind of engine
pub record SamePlatform (y z : System) : Type 0 where
  pub first : SameFirst y z
  pub second : z.second ≡ y.second

-- one type more, with these u, s and n, with d 0, without q, without C and T, and with nothing of a second kind
pub record AddsType (u s n : ℕ) (y z : System) : Type 0 where
  pub platform : SamePlatform y z
  pub typecount : z.typecount ≡ suc y.typecount
  pub time : (type_at z y.typecount).time ≡ u
  pub memory : (type_at z y.typecount).memory ≡ s
  pub ceiling : (type_at z y.typecount).ceiling ≡ n
  pub no-data : (type_at z y.typecount).data ≡ 0
  pub no-most : (type_at z y.typecount).most ≡ None
  pub no-pace : (type_at z y.typecount).pace ≡ None
  pub no-costs : (type_at z y.typecount).there ≡ None
  pub others : (i : ℕ) → (i ≡ y.typecount → ⊥) → type_at z i ≡ type_at y i

-- d of the last type
pub record SetsData (d : ℕ) (y z : System) : Type 0 where
  pub platform : SamePlatform y z
  pub some-type : 0 < y.typecount
  pub typecount : z.typecount ≡ y.typecount
  pub time : (type_at z (y.typecount - 1)).time ≡ (type_at y (y.typecount - 1)).time
  pub memory : (type_at z (y.typecount - 1)).memory ≡ (type_at y (y.typecount - 1)).memory
  pub ceiling : (type_at z (y.typecount - 1)).ceiling ≡ (type_at y (y.typecount - 1)).ceiling
  pub data-set : (type_at z (y.typecount - 1)).data ≡ d
  pub most : (type_at z (y.typecount - 1)).most ≡ (type_at y (y.typecount - 1)).most
  pub pace : (type_at z (y.typecount - 1)).pace ≡ (type_at y (y.typecount - 1)).pace
  pub there : (type_at z (y.typecount - 1)).there ≡ (type_at y (y.typecount - 1)).there
  pub others : (i : ℕ) → (i ≡ y.typecount - 1 → ⊥) → type_at z i ≡ type_at y i

-- q of the last type
pub record SetsMost (q : ℕ) (y z : System) : Type 0 where
  pub platform : SamePlatform y z
  pub some-type : 0 < y.typecount
  pub typecount : z.typecount ≡ y.typecount
  pub time : (type_at z (y.typecount - 1)).time ≡ (type_at y (y.typecount - 1)).time
  pub memory : (type_at z (y.typecount - 1)).memory ≡ (type_at y (y.typecount - 1)).memory
  pub ceiling : (type_at z (y.typecount - 1)).ceiling ≡ (type_at y (y.typecount - 1)).ceiling
  pub «data» : (type_at z (y.typecount - 1)).data ≡ (type_at y (y.typecount - 1)).data
  pub most-set : (type_at z (y.typecount - 1)).most ≡ Some q
  pub pace : (type_at z (y.typecount - 1)).pace ≡ (type_at y (y.typecount - 1)).pace
  pub there : (type_at z (y.typecount - 1)).there ≡ (type_at y (y.typecount - 1)).there
  pub others : (i : ℕ) → (i ≡ y.typecount - 1 → ⊥) → type_at z i ≡ type_at y i

-- C and T of the last type
pub record SetsPace (c p : ℕ) (y z : System) : Type 0 where
  pub platform : SamePlatform y z
  pub some-type : 0 < y.typecount
  pub typecount : z.typecount ≡ y.typecount
  pub time : (type_at z (y.typecount - 1)).time ≡ (type_at y (y.typecount - 1)).time
  pub memory : (type_at z (y.typecount - 1)).memory ≡ (type_at y (y.typecount - 1)).memory
  pub ceiling : (type_at z (y.typecount - 1)).ceiling ≡ (type_at y (y.typecount - 1)).ceiling
  pub «data» : (type_at z (y.typecount - 1)).data ≡ (type_at y (y.typecount - 1)).data
  pub most : (type_at z (y.typecount - 1)).most ≡ (type_at y (y.typecount - 1)).most
  pub pace-set : (type_at z (y.typecount - 1)).pace ≡ Some (record { run = c; period = p })
  pub there : (type_at z (y.typecount - 1)).there ≡ (type_at y (y.typecount - 1)).there
  pub others : (i : ℕ) → (i ≡ y.typecount - 1 → ⊥) → type_at z i ≡ type_at y i

-- u and s of the last type on the second kind
pub record SetsCosts (u s : ℕ) (y z : System) : Type 0 where
  pub platform : SamePlatform y z
  pub some-type : 0 < y.typecount
  pub typecount : z.typecount ≡ y.typecount
  pub time : (type_at z (y.typecount - 1)).time ≡ (type_at y (y.typecount - 1)).time
  pub memory : (type_at z (y.typecount - 1)).memory ≡ (type_at y (y.typecount - 1)).memory
  pub ceiling : (type_at z (y.typecount - 1)).ceiling ≡ (type_at y (y.typecount - 1)).ceiling
  pub «data» : (type_at z (y.typecount - 1)).data ≡ (type_at y (y.typecount - 1)).data
  pub most : (type_at z (y.typecount - 1)).most ≡ (type_at y (y.typecount - 1)).most
  pub pace : (type_at z (y.typecount - 1)).pace ≡ (type_at y (y.typecount - 1)).pace
  pub costs-set : (type_at z (y.typecount - 1)).there ≡ Some (record { time = u; memory = s })
  pub others : (i : ℕ) → (i ≡ y.typecount - 1 → ⊥) → type_at z i ≡ type_at y i

-- the second kind of engine: its number, U and S
pub record SetsSecond (n u s : ℕ) (y z : System) : Type 0 where
  pub first : SameFirst y z
  pub typecount : z.typecount ≡ y.typecount
  pub types : z.types ≡ y.types
  pub second-set : z.second ≡ Some (record { number = n; timecap = u; memorycap = s })

same-platform : {y z : System} → z.engines ≡ y.engines → z.rule ≡ y.rule → z.timecap ≡ y.timecap → z.memorycap ≡ y.memorycap → z.second ≡ y.second → SamePlatform y z
same-platform a b c d e = record { first = record { engines = a; rule = b; timecap = c; memorycap = d }; second = e }

adds-type : (t : TaskType) (y : System) → y.typecount < length y.types → t.data ≡ 0 → t.most ≡ None → t.pace ≡ None → t.there ≡ None
    → AddsType t.time t.memory t.ceiling y (with_type t y)
adds-type t y h none no-limit no-cycle no-costs =
    let new = get_or-set_same y.types y.typecount t no_task h in
    record {
      platform = same-platform refl refl refl refl refl;
      typecount = refl;
      time = ap (λ (x : TaskType). x.time) new;
      memory = ap (λ (x : TaskType). x.memory) new;
      ceiling = ap (λ (x : TaskType). x.ceiling) new;
      no-data = ap (λ (x : TaskType). x.data) new ∙ none;
      no-most = ap (λ (x : TaskType). x.most) new ∙ no-limit;
      no-pace = ap (λ (x : TaskType). x.pace) new ∙ no-cycle;
      no-costs = ap (λ (x : TaskType). x.there) new ∙ no-costs;
      others = λ i n. get_or-set_other y.types y.typecount i t no_task n;
    }

sets-data : (d : ℕ) (y : System) → 0 < y.typecount → y.typecount ≤ length y.types → SetsData d y (with_last (with_data d (last_type y)) y)
sets-data d y some h =
    let t = with_data d (last_type y) in
    let new = get_or-set_same y.types (y.typecount - 1) t no_task (omega arith) in
    record {
      platform = same-platform refl refl refl refl refl;
      some-type = some;
      typecount = refl;
      time = ap (λ (x : TaskType). x.time) new;
      memory = ap (λ (x : TaskType). x.memory) new;
      ceiling = ap (λ (x : TaskType). x.ceiling) new;
      data-set = ap (λ (x : TaskType). x.data) new;
      most = ap (λ (x : TaskType). x.most) new;
      pace = ap (λ (x : TaskType). x.pace) new;
      there = ap (λ (x : TaskType). x.there) new;
      others = λ i n. get_or-set_other y.types (y.typecount - 1) i t no_task n;
    }

sets-most : (q : ℕ) (y : System) → 0 < y.typecount → y.typecount ≤ length y.types → SetsMost q y (with_last (with_most q (last_type y)) y)
sets-most q y some h =
    let t = with_most q (last_type y) in
    let new = get_or-set_same y.types (y.typecount - 1) t no_task (omega arith) in
    record {
      platform = same-platform refl refl refl refl refl;
      some-type = some;
      typecount = refl;
      time = ap (λ (x : TaskType). x.time) new;
      memory = ap (λ (x : TaskType). x.memory) new;
      ceiling = ap (λ (x : TaskType). x.ceiling) new;
      «data» = ap (λ (x : TaskType). x.data) new;
      most-set = ap (λ (x : TaskType). x.most) new;
      pace = ap (λ (x : TaskType). x.pace) new;
      there = ap (λ (x : TaskType). x.there) new;
      others = λ i n. get_or-set_other y.types (y.typecount - 1) i t no_task n;
    }

sets-pace : (c p : ℕ) (y : System) → 0 < y.typecount → y.typecount ≤ length y.types → SetsPace c p y (with_last (with_pace c p (last_type y)) y)
sets-pace c p y some h =
    let t = with_pace c p (last_type y) in
    let new = get_or-set_same y.types (y.typecount - 1) t no_task (omega arith) in
    record {
      platform = same-platform refl refl refl refl refl;
      some-type = some;
      typecount = refl;
      time = ap (λ (x : TaskType). x.time) new;
      memory = ap (λ (x : TaskType). x.memory) new;
      ceiling = ap (λ (x : TaskType). x.ceiling) new;
      «data» = ap (λ (x : TaskType). x.data) new;
      most = ap (λ (x : TaskType). x.most) new;
      pace-set = ap (λ (x : TaskType). x.pace) new;
      there = ap (λ (x : TaskType). x.there) new;
      others = λ i n. get_or-set_other y.types (y.typecount - 1) i t no_task n;
    }

sets-costs : (u s : ℕ) (y : System) → 0 < y.typecount → y.typecount ≤ length y.types → SetsCosts u s y (with_last (with_costs u s (last_type y)) y)
sets-costs u s y some h =
    let t = with_costs u s (last_type y) in
    let new = get_or-set_same y.types (y.typecount - 1) t no_task (omega arith) in
    record {
      platform = same-platform refl refl refl refl refl;
      some-type = some;
      typecount = refl;
      time = ap (λ (x : TaskType). x.time) new;
      memory = ap (λ (x : TaskType). x.memory) new;
      ceiling = ap (λ (x : TaskType). x.ceiling) new;
      «data» = ap (λ (x : TaskType). x.data) new;
      most = ap (λ (x : TaskType). x.most) new;
      pace = ap (λ (x : TaskType). x.pace) new;
      costs-set = ap (λ (x : TaskType). x.there) new;
      others = λ i n. get_or-set_other y.types (y.typecount - 1) i t no_task n;
    }

sets-second : (n u s : ℕ) (y : System) → SetsSecond n u s y (with_second n u s y)
sets-second n u s y = record { first = record { engines = refl; rule = refl; timecap = refl; memorycap = refl }; typecount = refl; types = refl; second-set = refl }

-- of a whole field: its body is that of its tag
module _ (s : List ℕ) (last : ℕ) (y z : System) (sound : Sound last y) (read : field_of s last y ≡ opened z) where
  pub type-adds : byte_at s 0 ≡ type_rule.tag → AddsType (word4 (body_part s) 0) (word4 (body_part s) 4) (word2 (body_part s) 8) y z
  unfolding body_of type_from
  type-adds is = let a = field_of-opened s last y z read in at a.rule (a.passed.rule.same_tag ∙ is) a.body a.passed.rule.which
    where
      at : (r : FieldRule) → r.tag ≡ type_rule.tag → body_of r (body_part s) y ≡ opened z → OneOf r → AddsType (word4 (body_part s) 0) (word4 (body_part s) 4) (word2 (body_part s) 8) y z
      at r tag e (a-platform w) = absurd (omega (arith, ap (λ (x : FieldRule). x.tag) w))
      at r tag e (a-data w) = absurd (omega (arith, ap (λ (x : FieldRule). x.tag) w))
      at r tag e (a-most w) = absurd (omega (arith, ap (λ (x : FieldRule). x.tag) w))
      at r tag e (a-pace w) = absurd (omega (arith, ap (λ (x : FieldRule). x.tag) w))
      at r tag e (a_second w) = absurd (omega (arith, ap (λ (x : FieldRule). x.tag) w))
      at r tag e (a-costs w) = absurd (omega (arith, ap (λ (x : FieldRule). x.tag) w))
      at r tag e (a-type w) =
          let t = task_of (word4 (body_part s) 0) (word4 (body_part s) 4) (word2 (body_part s) 8) in
          let q = passes (leb type_limit y.typecount) 7 (type_of (body_part s) y) z (rw w at e) in
          subst (AddsType t.time t.memory t.ceiling y) (no-fault (type_fault t) (with_type t y) z q.1).1
          (adds-type t y (omega (arith, sound.six, leb-false type_limit y.typecount q.0)) refl refl refl refl)

  pub data-sets : byte_at s 0 ≡ data_rule.tag → SetsData (word4 (body_part s) 0) y z
  unfolding body_of data_from
  data-sets is = let a = field_of-opened s last y z read in at a.rule (a.passed.rule.same_tag ∙ is) a.passed.place a.body a.passed.rule.which
    where
      at : (r : FieldRule) → r.tag ≡ data_rule.tag → may_follow follows last r.tag ≡ true → body_of r (body_part s) y ≡ opened z → OneOf r → SetsData (word4 (body_part s) 0) y z
      at r tag p e (a-platform w) = absurd (omega (arith, ap (λ (x : FieldRule). x.tag) w))
      at r tag p e (a-type w) = absurd (omega (arith, ap (λ (x : FieldRule). x.tag) w))
      at r tag p e (a-most w) = absurd (omega (arith, ap (λ (x : FieldRule). x.tag) w))
      at r tag p e (a-pace w) = absurd (omega (arith, ap (λ (x : FieldRule). x.tag) w))
      at r tag p e (a_second w) = absurd (omega (arith, ap (λ (x : FieldRule). x.tag) w))
      at r tag p e (a-costs w) = absurd (omega (arith, ap (λ (x : FieldRule). x.tag) w))
      at r tag p e (a-data w) =
          let t = with_data (word4 (body_part s) 0) (last_type y) in
          subst (SetsData (word4 (body_part s) 0) y) (no-fault (type_fault t) (with_last t y) z (rw w at e)).1
          (sets-data (word4 (body_part s) 0) y (sound.some-type (part-later r last (a-data w) (omega arith) (λ n. omega arith) p)) (omega (arith, sound.six, sound.typecount)))

  pub most-sets : byte_at s 0 ≡ most_rule.tag → SetsMost (word2 (body_part s) 0) y z
  unfolding body_of most_from
  most-sets is = let a = field_of-opened s last y z read in at a.rule (a.passed.rule.same_tag ∙ is) a.passed.place a.body a.passed.rule.which
    where
      at : (r : FieldRule) → r.tag ≡ most_rule.tag → may_follow follows last r.tag ≡ true → body_of r (body_part s) y ≡ opened z → OneOf r → SetsMost (word2 (body_part s) 0) y z
      at r tag p e (a-platform w) = absurd (omega (arith, ap (λ (x : FieldRule). x.tag) w))
      at r tag p e (a-type w) = absurd (omega (arith, ap (λ (x : FieldRule). x.tag) w))
      at r tag p e (a-data w) = absurd (omega (arith, ap (λ (x : FieldRule). x.tag) w))
      at r tag p e (a-pace w) = absurd (omega (arith, ap (λ (x : FieldRule). x.tag) w))
      at r tag p e (a_second w) = absurd (omega (arith, ap (λ (x : FieldRule). x.tag) w))
      at r tag p e (a-costs w) = absurd (omega (arith, ap (λ (x : FieldRule). x.tag) w))
      at r tag p e (a-most w) =
          let t = with_most (word2 (body_part s) 0) (last_type y) in
          subst (SetsMost (word2 (body_part s) 0) y) (no-fault (most_fault t.most) (with_last t y) z (rw w at e)).1
          (sets-most (word2 (body_part s) 0) y (sound.some-type (part-later r last (a-most w) (omega arith) (λ n. omega arith) p)) (omega (arith, sound.six, sound.typecount)))

  pub pace-sets : byte_at s 0 ≡ pace_rule.tag → SetsPace (word4 (body_part s) 0) (word4 (body_part s) 4) y z
  unfolding body_of pace_from
  pace-sets is = let a = field_of-opened s last y z read in at a.rule (a.passed.rule.same_tag ∙ is) a.passed.place a.body a.passed.rule.which
    where
      at : (r : FieldRule) → r.tag ≡ pace_rule.tag → may_follow follows last r.tag ≡ true → body_of r (body_part s) y ≡ opened z → OneOf r → SetsPace (word4 (body_part s) 0) (word4 (body_part s) 4) y z
      at r tag p e (a-platform w) = absurd (omega (arith, ap (λ (x : FieldRule). x.tag) w))
      at r tag p e (a-type w) = absurd (omega (arith, ap (λ (x : FieldRule). x.tag) w))
      at r tag p e (a-data w) = absurd (omega (arith, ap (λ (x : FieldRule). x.tag) w))
      at r tag p e (a-most w) = absurd (omega (arith, ap (λ (x : FieldRule). x.tag) w))
      at r tag p e (a_second w) = absurd (omega (arith, ap (λ (x : FieldRule). x.tag) w))
      at r tag p e (a-costs w) = absurd (omega (arith, ap (λ (x : FieldRule). x.tag) w))
      at r tag p e (a-pace w) =
          let t = with_pace (word4 (body_part s) 0) (word4 (body_part s) 4) (last_type y) in
          subst (SetsPace (word4 (body_part s) 0) (word4 (body_part s) 4) y) (no-fault (pace_fault y.timecap t.time t.pace) (with_last t y) z (rw w at e)).1
          (sets-pace (word4 (body_part s) 0) (word4 (body_part s) 4) y (sound.some-type (part-later r last (a-pace w) (omega arith) (λ n. omega arith) p)) (omega (arith, sound.six, sound.typecount)))

  pub costs-sets : byte_at s 0 ≡ costs_rule.tag → SetsCosts (word4 (body_part s) 0) (word4 (body_part s) 4) y z
  unfolding body_of costs_from
  costs-sets is = let a = field_of-opened s last y z read in at a.rule (a.passed.rule.same_tag ∙ is) a.passed.place a.body a.passed.rule.which
    where
      at : (r : FieldRule) → r.tag ≡ costs_rule.tag → may_follow follows last r.tag ≡ true → body_of r (body_part s) y ≡ opened z → OneOf r → SetsCosts (word4 (body_part s) 0) (word4 (body_part s) 4) y z
      at r tag p e (a-platform w) = absurd (omega (arith, ap (λ (x : FieldRule). x.tag) w))
      at r tag p e (a-type w) = absurd (omega (arith, ap (λ (x : FieldRule). x.tag) w))
      at r tag p e (a-data w) = absurd (omega (arith, ap (λ (x : FieldRule). x.tag) w))
      at r tag p e (a-most w) = absurd (omega (arith, ap (λ (x : FieldRule). x.tag) w))
      at r tag p e (a-pace w) = absurd (omega (arith, ap (λ (x : FieldRule). x.tag) w))
      at r tag p e (a_second w) = absurd (omega (arith, ap (λ (x : FieldRule). x.tag) w))
      at r tag p e (a-costs w) =
          let t = with_costs (word4 (body_part s) 0) (word4 (body_part s) 4) (last_type y) in
          subst (SetsCosts (word4 (body_part s) 0) (word4 (body_part s) 4) y) (no-fault (costs_fault t.there) (with_last t y) z (rw w at e)).1
          (sets-costs (word4 (body_part s) 0) (word4 (body_part s) 4) y (sound.some-type (part-later r last (a-costs w) (omega arith) (λ n. omega arith) p)) (omega (arith, sound.six, sound.typecount)))

  pub second-sets : byte_at s 0 ≡ second_rule.tag → SetsSecond (byte_at (body_part s) 0) (word4 (body_part s) 1) (word4 (body_part s) 5) y z
  unfolding body_of second_from
  second-sets is = let a = field_of-opened s last y z read in at a.rule (a.passed.rule.same_tag ∙ is) a.body a.passed.rule.which
    where
      at : (r : FieldRule) → r.tag ≡ second_rule.tag → body_of r (body_part s) y ≡ opened z → OneOf r → SetsSecond (byte_at (body_part s) 0) (word4 (body_part s) 1) (word4 (body_part s) 5) y z
      at r tag e (a-platform w) = absurd (omega (arith, ap (λ (x : FieldRule). x.tag) w))
      at r tag e (a-type w) = absurd (omega (arith, ap (λ (x : FieldRule). x.tag) w))
      at r tag e (a-data w) = absurd (omega (arith, ap (λ (x : FieldRule). x.tag) w))
      at r tag e (a-most w) = absurd (omega (arith, ap (λ (x : FieldRule). x.tag) w))
      at r tag e (a-pace w) = absurd (omega (arith, ap (λ (x : FieldRule). x.tag) w))
      at r tag e (a-costs w) = absurd (omega (arith, ap (λ (x : FieldRule). x.tag) w))
      at r tag e (a_second w) =
          let n = byte_at (body_part s) 0 in
          let u = word4 (body_part s) 1 in
          let v = word4 (body_part s) 5 in
          subst (SetsSecond n u v y) (no-fault (kind_fault y.engines n u v) (with_second n u v y) z (rw w at e)).1 (sets-second n u v y)

-- d is judged alone: over 1,000,000 it is refused 8, and any other is read
module _ (d last : ℕ) (y : System) (sound : Sound last y) where
  pub data-over : size_limit < d → data_from d y ≡ unread 8
  unfolding data_from
  data-over h =
      let t = sound.sized (y.typecount - 1) in
      rw (le-leb (last_type y).time size_limit t.time, le-leb (last_type y).memory size_limit t.memory, lt-leb d size_limit h)

  pub data-within : d ≤ size_limit → data_from d y ≡ opened (with_last (with_data d (last_type y)) y)
  unfolding data_from
  data-within h =
      let t = sound.sized (y.typecount - 1) in
      rw (le-leb (last_type y).time size_limit t.time, le-leb (last_type y).memory size_limit t.memory, le-leb d size_limit h)

-- q is judged alone: 0 is refused 31, and any other is read
pub most-zero : (y : System) → most_from 0 y ≡ unread 31
unfolding most_from
most-zero y = refl

pub most-within : (q : ℕ) (y : System) → 1 ≤ q → most_from q y ≡ opened (with_last (with_most q (last_type y)) y)
unfolding most_from
most-within q y h = rw (ne_eqb q 0 (λ none. omega arith))

-- C and T are judged by the last type's u and the platform's U: 43 where they break the bounds, and any others are read
module _ (c p : ℕ) (y : System) where
  pub pace-breaks : cycle_keeps y.timecap (last_type y).time (record { run = c; period = p }) ≡ false → pace_from c p y ≡ unread 43
  unfolding pace_from
  pace-breaks e = rw e

  pub pace-keeps : cycle_keeps y.timecap (last_type y).time (record { run = c; period = p }) ≡ true → pace_from c p y ≡ opened (with_last (with_pace c p (last_type y)) y)
  unfolding pace_from
  pace-keeps e = rw e

-- of a whole field that refusals 1 to 4 do not stop
pub most-zero-field : (s : List ℕ) (last : ℕ) (y : System) → head_of s last ≡ Ok most_rule → word2 (body_part s) 0 ≡ 0 → field_of s last y ≡ unread 31
unfolding field_of ruled_field body_of
most-zero-field s last y head none = rw head (ap (λ (q : ℕ). most_from q y) none ∙ most-zero y)

pub pace-breaks-field : (s : List ℕ) (last : ℕ) (y : System) → head_of s last ≡ Ok pace_rule
    → cycle_keeps y.timecap (last_type y).time (record { run = word4 (body_part s) 0; period = word4 (body_part s) 4 }) ≡ false → field_of s last y ≡ unread 43
unfolding field_of ruled_field body_of
pace-breaks-field s last y head e = rw head (pace-breaks (word4 (body_part s) 0) (word4 (body_part s) 4) y e)

-- and of a whole file: no q of a system that is read is 0, its C and T keep their bounds, and no u and s on the second kind is over the limit
pub read-replicas-card : (file : List ℕ) (y : System) → read_card file ≡ opened y → (i q : ℕ) → (type_at y i).most ≡ Some q → 1 ≤ q
read-replicas-card file y read i q is = some-replica (type_at y i).most q ((read-card-limits file y read).replicas i) is

pub read-replicas : (file : List ℕ) (y : System) → read_file file ≡ opened y → (i q : ℕ) → (type_at y i).most ≡ Some q → 1 ≤ q
read-replicas file y read i q is = read-replicas-card file y (file-card file y read).0 i q is

pub read-cycles-card : (file : List ℕ) (y : System) → read_card file ≡ opened y → (i : ℕ) (c : Cycle) → (type_at y i).pace ≡ Some c → CycleLimits y.timecap (type_at y i).time c
read-cycles-card file y read i c is = cycle-limits y.timecap (type_at y i).time (type_at y i).pace c ((read-card-limits file y read).paces i) is

pub read-cycles : (file : List ℕ) (y : System) → read_file file ≡ opened y → (i : ℕ) (c : Cycle) → (type_at y i).pace ≡ Some c → CycleLimits y.timecap (type_at y i).time c
read-cycles file y read i c is = read-cycles-card file y (file-card file y read).0 i c is

pub read-costs : (file : List ℕ) (y : System) → read_card file ≡ opened y → (i : ℕ) (c : Costs) → (type_at y i).there ≡ Some c → (c.time ≤ size_limit) × (c.memory ≤ size_limit)
read-costs file y read i c is = costs-sized (type_at y i).there c ((read-card-limits file y read).costs i) is
