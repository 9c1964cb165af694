-- What `Fields` of the specs says of each field after the first and of the file's end: after fields that pass the reader stands behind them, with a sound system of their types, of the engines of both kinds, of the platform's U and the last type's u, and of as many types with u and s on the second kind as there were tags 7.
-- At the end those are none or all where `kinds_agree` says so: entries past k have none.
use Rattle.std.proofs.Common.{Some, Option, None}
use Prim.Native.Nat.{ℕ, zero, suc, ◌+◌, ◌-◌, ◌*◌, ◌≤◌, ◌<◌}
use native.Mathlib.Omega.{arith}
use native.Mathlib.Nat.{le_refl, mul_comm, mul_assoc}
use mathlib.Core.List.{List, [], ◌∷◌, ◌++◌, append_assoc, append-nil, map}
use mathlib.Core.Bool.{Bool, true, false, not, cond, ◌&&◌, false≢true}
use mathlib.Core.Path.{◌≡◌, refl, sym, ap, ◌∙◌}
use mathlib.Core.Logic.{◌⊎◌, inl, inr, ⊎_elim}
use borrow.Author.Tests.{le-leb, lt-leb, eqb-true, eqb-false, eq-eqb, ne_eqb}
use lib.ListN.{length, get_or, set, drop, length-append}
use lib.Seq.{get_or-set_same}
use lib.Dec.{leb, eqb}
use Rattle.system.specs.declared.Cycle.{Cycle}
use Rattle.system.specs.declared.Kind.{Kind}
use Rattle.system.specs.declared.TaskType.{TaskType}
use Rattle.system.specs.declared.System.{System}
use Rattle.system.specs.declared.FieldRule.{FieldRule}
use Rattle.system.specs.Values.{task_of, with_data, with_most, with_pace, with_costs, no_task, blank, with_platform, with_second, with_type, last_type, with_last, ceilings_of}
use Rattle.system.specs.Limits.{columns_of, size_fault, kind_counted, kind_fault, type_fault, most_fault, cycle_keeps, pace_fault, given, is_one_kind, kinds_agree}
use Rattle.system.specs.Rules.{platform_rule, type_rule, data_rule, most_rule, pace_rule, second_rule, costs_rule, field_rules, rule_of, follows, may_follow, head_size}
use Rattle.system.specs.Layout.{Reading, opened, unread, field_size, body_part, type_from, data_from, most_from, pace_from, second_from, costs_from}
use Rattle.system.specs.Layout.{unless_fault, ruled_head, head_of, body_of, ruled_field, field_of, end_of, after_field, fields_from, read_card, read_file}
use Rattle.system.specs.Fields.{two_bytes, four_bytes, platform_field, type_field, data_field, most_field, pace_field, second_field, costs_field, MayData, MayMost, MayPace, MayCosts, PaceWithin}
use Rattle.system.specs.Fields.{Beginning, a-platform, then-second, then-type, then-data, then-most, then-pace, then-costs, NextField, AllOrNone, FileEnd, LaterFields}
use Rattle.system.proofs.Laws.{Sound, sound-blank, data-after-type, most-after-type, pace-after-type, second-after-platform, costs-after-type, cycle-limits, sound-field, fields_from-nil, second-within, card-file, card-mixed, card-refused}
use Rattle.system.proofs.Order.{first_field, starts}

-- One field, after one of tag `last`

abbrev cycle_of : ℕ → ℕ → Cycle
cycle_of c t = record { run = c; period = t }

module _ (last : ℕ) (y : System) where
  cut-one : (a : ℕ) → field_of (a ∷ []) last y ≡ unread 1
  cut-one a = unfold field_of ruled_field head_of in refl

  cut-two : (a b : ℕ) → field_of (a ∷ b ∷ []) last y ≡ unread 1
  cut-two a b = unfold field_of ruled_field head_of in refl

  module _ (t h l : ℕ) (rest : List ℕ) where
    unknown : (t ≡ 1 → ⊥) → (t ≡ 2 → ⊥) → (t ≡ 3 → ⊥) → (t ≡ 4 → ⊥) → (t ≡ 5 → ⊥) → (t ≡ 6 → ⊥) → (t ≡ 7 → ⊥) → field_of (t ∷ h ∷ l ∷ rest) last y ≡ unread 2
    unfolding field_of ruled_field head_of ruled_head rule_of
    unknown a b c d e f g =
        rw (
          starts h l rest t,
          ne_eqb 1 t (λ z. a (sym z)),
          ne_eqb 2 t (λ z. b (sym z)),
          ne_eqb 3 t (λ z. c (sym z)),
          ne_eqb 4 t (λ z. d (sym z)),
          ne_eqb 5 t (λ z. e (sym z)),
          ne_eqb 6 t (λ z. f (sym z)),
          ne_eqb 7 t (λ z. g (sym z)),
        )

    module _ (r : FieldRule) (known : rule_of field_rules t ≡ Some r) where
      misplaced : may_follow follows last r.tag ≡ false → field_of (t ∷ h ∷ l ∷ rest) last y ≡ unread 3
      unfolding field_of ruled_field head_of ruled_head
      misplaced p = rw (starts h l rest t, known, p)

      other_length : may_follow follows last r.tag ≡ true → (two_bytes h l ≡ r.body → ⊥) → field_of (t ∷ h ∷ l ∷ rest) last y ≡ unread 4
      unfolding field_of ruled_field head_of ruled_head
      other_length p n = rw (starts h l rest t, known, p, ne_eqb (two_bytes h l) r.body n)

      cut-body : may_follow follows last r.tag ≡ true → two_bytes h l ≡ r.body → length rest < two_bytes h l → field_of (t ∷ h ∷ l ∷ rest) last y ≡ unread 1
      unfolding field_of ruled_field head_of ruled_head
      cut-body p e short = rw (starts h l rest t, known, p, eq-eqb (two_bytes h l) r.body e, lt-leb (head_size + two_bytes h l) (length (t ∷ h ∷ l ∷ rest)) (omega arith))

      whole-body : may_follow follows last r.tag ≡ true → two_bytes h l ≡ r.body → two_bytes h l ≤ length rest
          → field_of (t ∷ h ∷ l ∷ rest) last y ≡ body_of r (body_part (t ∷ h ∷ l ∷ rest)) y
      unfolding field_of ruled_field head_of ruled_head
      whole-body p e long = rw (starts h l rest t, known, p, eq-eqb (two_bytes h l) r.body e, le-leb (head_size + two_bytes h l) (length (t ∷ h ∷ l ∷ rest)) (omega arith))

  -- what each whole body is judged as, in its place

  module _ (u1 u2 u3 u4 s1 s2 s3 s4 n1 n2 : ℕ) (rest : List ℕ) where
    abbrev a_type : List ℕ
    a_type = type_field u1 u2 u3 u4 s1 s2 s3 s4 n1 n2 ++ rest

    abbrev task : TaskType
    task = task_of (four_bytes u1 u2 u3 u4) (four_bytes s1 s2 s3 s4) (two_bytes n1 n2)

    type-body : body_of type_rule (body_part a_type) y ≡ cond (leb 6 y.typecount) (unread 7) (unless_fault (type_fault task) (with_type task y))
    unfolding body_of type_from
    type-body = rw (le-leb 13 (length a_type) (omega arith))

    type-field : may_follow follows last 2 ≡ true → field_of a_type last y ≡ cond (leb 6 y.typecount) (unread 7) (unless_fault (type_fault task) (with_type task y))
    type-field p = whole-body 2 0 10 (u1 ∷ u2 ∷ u3 ∷ u4 ∷ s1 ∷ s2 ∷ s3 ∷ s4 ∷ n1 ∷ n2 ∷ rest) type_rule (unfold rule_of in refl) p refl (omega arith) ∙ type-body

  module _ (d1 d2 d3 d4 : ℕ) (rest : List ℕ) where
    abbrev a_data : List ℕ
    a_data = data_field d1 d2 d3 d4 ++ rest

    abbrev with_d : TaskType
    with_d = with_data (four_bytes d1 d2 d3 d4) (last_type y)

    data-body : body_of data_rule (body_part a_data) y ≡ unless_fault (type_fault with_d) (with_last with_d y)
    unfolding body_of data_from
    data-body = rw (le-leb 7 (length a_data) (omega arith))

    data-field : may_follow follows last 3 ≡ true → field_of a_data last y ≡ unless_fault (type_fault with_d) (with_last with_d y)
    data-field p = whole-body 3 0 4 (d1 ∷ d2 ∷ d3 ∷ d4 ∷ rest) data_rule (unfold rule_of in refl) p refl (omega arith) ∙ data-body

  module _ (q1 q2 : ℕ) (rest : List ℕ) where
    abbrev a_most : List ℕ
    a_most = most_field q1 q2 ++ rest

    abbrev with_q : TaskType
    with_q = with_most (two_bytes q1 q2) (last_type y)

    most-body : body_of most_rule (body_part a_most) y ≡ unless_fault (most_fault (Some (two_bytes q1 q2))) (with_last with_q y)
    unfolding body_of most_from
    most-body = rw (le-leb 5 (length a_most) (omega arith))

    most-field : may_follow follows last 4 ≡ true → field_of a_most last y ≡ unless_fault (most_fault (Some (two_bytes q1 q2))) (with_last with_q y)
    most-field p = whole-body 4 0 2 (q1 ∷ q2 ∷ rest) most_rule (unfold rule_of in refl) p refl (omega arith) ∙ most-body

  module _ (c1 c2 c3 c4 t1 t2 t3 t4 : ℕ) (rest : List ℕ) where
    abbrev a_pace : List ℕ
    a_pace = pace_field c1 c2 c3 c4 t1 t2 t3 t4 ++ rest

    abbrev pace_read : Reading
    pace_read = unless_fault (pace_fault y.timecap (last_type y).time (Some (cycle_of (four_bytes c1 c2 c3 c4) (four_bytes t1 t2 t3 t4)))) (with_last (with_pace (four_bytes c1 c2 c3 c4) (four_bytes t1 t2 t3 t4) (last_type y)) y)

    pace-body : body_of pace_rule (body_part a_pace) y ≡ pace_read
    unfolding body_of pace_from
    pace-body = rw (le-leb 11 (length a_pace) (omega arith))

    pace-field : may_follow follows last 5 ≡ true → field_of a_pace last y ≡ pace_read
    pace-field p = whole-body 5 0 8 (c1 ∷ c2 ∷ c3 ∷ c4 ∷ t1 ∷ t2 ∷ t3 ∷ t4 ∷ rest) pace_rule (unfold rule_of in refl) p refl (omega arith) ∙ pace-body

  module _ (n u1 u2 u3 u4 s1 s2 s3 s4 : ℕ) (rest : List ℕ) where
    abbrev a_second : List ℕ
    a_second = second_field n u1 u2 u3 u4 s1 s2 s3 s4 ++ rest

    abbrev second_read : Reading
    second_read =
        unless_fault (kind_fault y.engines n (four_bytes u1 u2 u3 u4) (four_bytes s1 s2 s3 s4)) (with_second n (four_bytes u1 u2 u3 u4) (four_bytes s1 s2 s3 s4) y)

    second-body : body_of second_rule (body_part a_second) y ≡ second_read
    unfolding body_of second_from
    second-body = rw (le-leb 12 (length a_second) (omega arith))

    second-field : may_follow follows last 6 ≡ true → field_of a_second last y ≡ second_read
    second-field p = whole-body 6 0 9 (n ∷ u1 ∷ u2 ∷ u3 ∷ u4 ∷ s1 ∷ s2 ∷ s3 ∷ s4 ∷ rest) second_rule (unfold rule_of in refl) p refl (omega arith) ∙ second-body

  module _ (u1 u2 u3 u4 s1 s2 s3 s4 : ℕ) (rest : List ℕ) where
    abbrev a_costs : List ℕ
    a_costs = costs_field u1 u2 u3 u4 s1 s2 s3 s4 ++ rest

    abbrev costs_read : Reading
    costs_read =
        unless_fault (size_fault (four_bytes u1 u2 u3 u4) (four_bytes s1 s2 s3 s4)) (with_last (with_costs (four_bytes u1 u2 u3 u4) (four_bytes s1 s2 s3 s4) (last_type y)) y)

    costs-body : body_of costs_rule (body_part a_costs) y ≡ costs_read
    unfolding body_of costs_from
    costs-body = rw (le-leb 11 (length a_costs) (omega arith))

    costs-field : may_follow follows last 7 ≡ true → field_of a_costs last y ≡ costs_read
    costs-field p = whole-body 7 0 8 (u1 ∷ u2 ∷ u3 ∷ u4 ∷ s1 ∷ s2 ∷ s3 ∷ s4 ∷ rest) costs_rule (unfold rule_of in refl) p refl (omega arith) ∙ costs-body

-- The fields from here on: the first is refused, or passes

stop-here : (f b : ℕ) (s : List ℕ) (last : ℕ) (y : System) (n : ℕ) → length (b ∷ s) ≤ f → field_of (b ∷ s) last y ≡ unread n → fields_from f (b ∷ s) last y ≡ unread n
unfolding fields_from
stop-here zero b s last y n enough e = absurd (omega arith)
stop-here (suc f) b s last y n enough e = ap (λ (x : Reading). after_field x (λ (next : System). fields_from f (drop (field_size (b ∷ s)) (b ∷ s)) b next)) e

-- reading goes on with enough steps for the bytes that are left
record GoesOn (x : Reading) (rest : List ℕ) (last : ℕ) (y : System) : Type 0 where
  steps : ℕ
  enough : length rest ≤ steps
  same : x ≡ fields_from steps rest last y

go_on : (f b : ℕ) (s : List ℕ) (last : ℕ) (y z : System) (rest : List ℕ) → length (b ∷ s) ≤ f → drop (field_size (b ∷ s)) (b ∷ s) ≡ rest → length rest < length (b ∷ s) → field_of (b ∷ s) last y ≡ opened z
    → GoesOn (fields_from f (b ∷ s) last y) rest b z
unfolding fields_from
go_on zero b s last y z rest enough left fewer e = absurd (omega arith)
go_on (suc f) b s last y z rest enough left fewer e =
    record {
      steps = f;
      enough = omega arith;
      same = ap (λ (x : Reading). after_field x (λ (next : System). fields_from f (drop (field_size (b ∷ s)) (b ∷ s)) b next)) e ∙ ap (λ (r : List ℕ). fields_from f r b z) left;
    }

-- the columns with one type more, and with another type of the same n in a type's place
abbrev columns_in : List TaskType → ℕ
columns_in ts = columns_of (map (λ (t : TaskType). t.ceiling) ts)

columns-more : (ts : List TaskType) (i : ℕ) (t : TaskType) → i < length ts → (get_or ts i no_task).ceiling ≡ 0 → columns_in (set ts i t) ≡ columns_in ts * (t.ceiling + 1)
unfolding columns_of
columns-more [] i t h e = absurd (omega arith)
columns-more (v ∷ ts) zero t h e =
    let one : columns_in ts ≡ columns_in (v ∷ ts) = omega (arith, ap (λ (n : ℕ). (n + 1) * columns_in ts) e) in
    mul_comm (t.ceiling + 1) (columns_in ts) ∙ ap (λ (c : ℕ). c * (t.ceiling + 1)) one
columns-more (v ∷ ts) (suc i) t h e = ap (λ (c : ℕ). (v.ceiling + 1) * c) (columns-more ts i t (omega arith) e) ∙ sym (mul_assoc (v.ceiling + 1) (columns_in ts) (t.ceiling + 1))

columns-same : (ts : List TaskType) (i : ℕ) (t : TaskType) → t.ceiling ≡ (get_or ts i no_task).ceiling → columns_in (set ts i t) ≡ columns_in ts
unfolding columns_of
columns-same [] i t e = refl
columns-same (v ∷ ts) zero t e = ap (λ (n : ℕ). (n + 1) * columns_in ts) e
columns-same (v ∷ ts) (suc i) t e = ap (λ (c : ℕ). (v.ceiling + 1) * c) (columns-same ts i t e)

-- How many types have u and s on the second kind

abbrev one : Bool → ℕ
one b = cond b 1 0

abbrev given_in : List TaskType → ℕ
given_in [] = 0
given_in (t ∷ ts) = one (given t.there) + given_in ts

-- one type more has them, or as many
given-more : (ts : List TaskType) (i : ℕ) (t : TaskType) → i < length ts → given t.there ≡ true → given (get_or ts i no_task).there ≡ false → given_in (set ts i t) ≡ suc (given_in ts)
given-more [] i t h e n = absurd (omega arith)
given-more (v ∷ ts) zero t h e n = rw (e, n) (omega arith)
given-more (v ∷ ts) (suc i) t h e n = omega (arith, given-more ts i t (omega arith) e n)

given-same : (ts : List TaskType) (i : ℕ) (t : TaskType) → given t.there ≡ given (get_or ts i no_task).there → given_in (set ts i t) ≡ given_in ts
given-same [] i t e = refl
given-same (v ∷ ts) zero t e = ap (λ (b : Bool). one b + given_in ts) e
given-same (v ∷ ts) (suc i) t e = ap (λ (n : ℕ). one (given v.there) + n) (given-same ts i t e)

-- entries past k have none, so there are k at most
given-few : (k : ℕ) (ts : List TaskType) → ((i : ℕ) → k ≤ i → get_or ts i no_task ≡ no_task) → given_in ts ≤ k
given-few k [] past = omega arith
given-few zero (t ∷ ts) past =
    let none : given t.there ≡ false = ap (λ (x : TaskType). given x.there) (past 0 (omega arith)) in
    rw none (omega (arith, given-few zero ts (λ i h. past (suc i) (omega arith))))
given-few (suc k) (t ∷ ts) past = at_most (given t.there) (given-few k ts (λ i h. past (suc i) (omega arith)))
  where
    at_most : (b : Bool) → given_in ts ≤ k → one b + given_in ts ≤ suc k
    at_most true h = omega arith
    at_most false h = omega arith

-- with one kind none is asked, with two all
agree-none : (k : ℕ) (ts : List TaskType) → ((i : ℕ) → k ≤ i → get_or ts i no_task ≡ no_task) → kinds_agree true k ts ≡ eqb (given_in ts) 0
unfolding kinds_agree
agree-none k [] past = refl
agree-none zero (t ∷ ts) past = sym (eq-eqb (given_in (t ∷ ts)) 0 (omega (arith, given-few zero (t ∷ ts) past)))
agree-none (suc k) (t ∷ ts) past = rest (given t.there) (agree-none k ts (λ i h. past (suc i) (omega arith)))
  where
    rest : (b : Bool) → kinds_agree true k ts ≡ eqb (given_in ts) 0 → not b && kinds_agree true k ts ≡ eqb (one b + given_in ts) 0
    rest true e = sym (ne_eqb (1 + given_in ts) 0 (λ z. omega arith))
    rest false e = e ∙ ap (λ (n : ℕ). eqb n 0) (zeros (given_in ts))
      where
        zeros : (n : ℕ) → n ≡ 0 + n
        zeros n = omega arith

agree-all : (k : ℕ) (ts : List TaskType) → ((i : ℕ) → k ≤ i → get_or ts i no_task ≡ no_task) → k ≤ length ts → kinds_agree false k ts ≡ eqb (given_in ts) k
unfolding kinds_agree
agree-all k [] past inside = sym (eq-eqb 0 k (omega arith))
agree-all zero (t ∷ ts) past inside = sym (eq-eqb (given_in (t ∷ ts)) 0 (omega (arith, given-few zero (t ∷ ts) past)))
agree-all (suc k) (t ∷ ts) past inside =
    rest (given t.there) (given-few k ts (λ i h. past (suc i) (omega arith))) (agree-all k ts (λ i h. past (suc i) (omega arith)) (omega arith))
  where
    next : (n : ℕ) → eqb n k ≡ eqb (1 + n) (suc k)
    next n = go (eqb n k) refl
      where
        go : (b : Bool) → eqb n k ≡ b → b ≡ eqb (1 + n) (suc k)
        go true q = sym (eq-eqb (1 + n) (suc k) (omega (arith, eqb-true n k q)))
        go false q = sym (ne_eqb (1 + n) (suc k) (λ z. eqb-false n k q (omega arith)))

    rest : (b : Bool) → given_in ts ≤ k → kinds_agree false k ts ≡ eqb (given_in ts) k → b && kinds_agree false k ts ≡ eqb (one b + given_in ts) (suc k)
    rest true few e = e ∙ next (given_in ts)
    rest false few e = sym (ne_eqb (0 + given_in ts) (suc k) (λ z. omega arith))

-- C and T within the bounds of `Fields` are those that `cycle_keeps` lets through

module _ (whole u c t : ℕ) where
  within-keeps : PaceWithin whole u c t → cycle_keeps whole u (cycle_of c t) ≡ true
  within-keeps w =
      rw (
        le-leb 1 c w.run.0,
        le-leb c t w.runs,
        le-leb t 65535 w.period.1,
        le-leb 1 whole (some whole w.some),
        le-leb (c * whole) (u * t) w.share,
      )
    where
      some : (n : ℕ) → (n ≡ 0 → ⊥) → 1 ≤ n
      some zero none = absurd (none refl)
      some (suc n) none = omega arith

  broken-breaks : (PaceWithin whole u c t → ⊥) → cycle_keeps whole u (cycle_of c t) ≡ false
  broken-breaks broken = go (cycle_keeps whole u (cycle_of c t)) refl
    where
      go : (b : Bool) → cycle_keeps whole u (cycle_of c t) ≡ b → b ≡ false
      go false e = refl
      go true e =
          let l = cycle-limits whole u (Some (cycle_of c t)) (cycle_of c t) (ap (λ (b : Bool). cond (not b) 43 0) e) refl in
          let low : 1 ≤ c = l.some-run in
          let runs : c ≤ t = l.runs in
          let high : t ≤ 65535 = l.period in
          let time : 1 ≤ whole = l.some-time in
          absurd (broken (record { run = (low, omega arith); period = (omega arith, high); runs = runs; some = λ none. omega arith; share = l.share }))

-- After fields that pass

-- the kinds of engine that were read
data KindsAre : ℕ → Option Kind → Type 0 where
  only_one : KindsAre 1 None
  one_more : (x : Kind) → KindsAre 2 (Some x)

record Reached (p : List ℕ) (last k c m kinds w whole u : ℕ) : Type 0 where
  so_far : System
  goes : (rest : List ℕ) → GoesOn (read_card (p ++ rest)) rest last so_far
  sound : Sound last so_far
  types : so_far.typecount ≡ k
  columns : columns_of (ceilings_of so_far) ≡ c
  engines : so_far.engines ≡ m
  second : KindsAre kinds so_far.second
  costs : given_in so_far.types ≡ w
  -- the last type has no costs yet where they may come next
  no-costs : MayCosts last → given (last_type so_far).there ≡ false
  -- what C and T are judged by: without a type yet, u of the first of the empty entries, 0
  cap : so_far.timecap ≡ whole
  time : (last_type so_far).time ≡ u
  not_first : eqb last 0 ≡ false
  no-platform : may_follow follows last 1 ≡ false
  type-may : may_follow follows last 2 ≡ true

-- one field more that passes
module _ (p : List ℕ) (last : ℕ) (y : System) (goes : (rest : List ℕ) → GoesOn (read_card (p ++ rest)) rest last y) (sound : Sound last y) where
  reach-field : (b : ℕ) (s : List ℕ) (z : System) (k c m kinds w whole u : ℕ)
      → ((rest : List ℕ) → field_of (b ∷ s ++ rest) last y ≡ opened z) → ((rest : List ℕ) → drop (field_size (b ∷ s ++ rest)) (b ∷ s ++ rest) ≡ rest)
      → z.typecount ≡ k → columns_of (ceilings_of z) ≡ c → z.engines ≡ m → KindsAre kinds z.second → given_in z.types ≡ w → (MayCosts b → given (last_type z).there ≡ false)
      → z.timecap ≡ whole → (last_type z).time ≡ u → eqb b 0 ≡ false → may_follow follows b 1 ≡ false → may_follow follows b 2 ≡ true → Reached (p ++ (b ∷ s)) b k c m kinds w whole u
  reach-field b s z k c m kinds w whole u passes left types columns engines second costs no-costs cap time not_first no-platform type-may =
      record {
        so_far = z;
        goes = on;
        sound = sound-field (b ∷ s ++ []) last y z sound (passes []);
        types = types;
        columns = columns;
        engines = engines;
        second = second;
        costs = costs;
        no-costs = no-costs;
        cap = cap;
        time = time;
        not_first = not_first;
        no-platform = no-platform;
        type-may = type-may;
      }
    where
      on : (rest : List ℕ) → GoesOn (read_card (p ++ (b ∷ s) ++ rest)) rest b z
      on rest =
          let g = goes (b ∷ s ++ rest) in
          let next = go_on g.steps b (s ++ rest) last y z rest g.enough (left rest) (omega (arith, length-append s rest)) (passes rest) in
          record { steps = next.steps; enough = next.enough; same = ap read_card (append_assoc p (b ∷ s) rest) ∙ g.same ∙ next.same }

at-start : (rest : List ℕ) → GoesOn (read_card rest) rest 0 blank
at-start rest = record { steps = length rest; enough = le_refl (length rest); same = unfold read_card in refl }

-- a tag after which no costs may come
no_place : {A : Type 0} (b : ℕ) → (b ≡ 2 → ⊥) → (b ≡ 3 → ⊥) → (b ≡ 4 → ⊥) → (b ≡ 5 → ⊥) → MayCosts b → A
no_place b n2 n3 n4 n5 may = absurd (⊎_elim n2 (⊎_elim n3 (⊎_elim n4 n5)) may)

reach-platform : (m r u1 u2 u3 u4 s1 s2 s3 s4 : ℕ) → 1 ≤ m → m ≤ 16 → r ≤ 1 → four_bytes u1 u2 u3 u4 ≤ 1000000 → four_bytes s1 s2 s3 s4 ≤ 1000000 → Reached (platform_field m r u1 u2 u3 u4 s1 s2 s3 s4) 1 0 1 m 1 0 (four_bytes u1 u2 u3 u4) 0
unfolding columns_of
reach-platform m r u1 u2 u3 u4 s1 s2 s3 s4 low high rule time memory =
    reach-field [] 0 blank at-start sound-blank 1 (0 ∷ 10 ∷ m ∷ r ∷ u1 ∷ u2 ∷ u3 ∷ u4 ∷ s1 ∷ s2 ∷ s3 ∷ s4 ∷ []) (with_platform m r (four_bytes u1 u2 u3 u4) (four_bytes s1 s2 s3 s4) blank) 0 1 m 1 0 (four_bytes u1 u2 u3 u4) 0
    (λ rest. first_field m r u1 u2 u3 u4 s1 s2 s3 s4 rest
    ∙ rw (le-leb 1 m low, le-leb m 16 high, le-leb r 1 rule, le-leb (four_bytes u1 u2 u3 u4) 1000000 time, le-leb (four_bytes s1 s2 s3 s4) 1000000 memory))
    (λ rest. refl) refl refl refl only_one refl (no_place 1 (λ e. omega arith) (λ e. omega arith) (λ e. omega arith) (λ e. omega arith)) refl refl refl refl refl

module _ (p : List ℕ) (last k c m kinds w whole u : ℕ) (before : Reached p last k c m kinds w whole u) where
  abbrev y : System
  y = before.so_far

  abbrev at : ℕ
  at = y.typecount - 1

  -- where d, q, C and T, and costs may come there is a type
  some : MayCosts last → 0 < y.typecount
  some may = before.sound.some-type (⊎_elim (λ e. (omega arith, λ z. omega arith)) (⊎_elim (λ e. (omega arith, λ z. omega arith)) (⊎_elim (λ e. (omega arith, λ z. omega arith)) (λ e. (omega arith, λ z. omega arith)))) may)

  -- another type in the last one's place is the last one
  new-last : (t : TaskType) → MayCosts last → last_type (with_last t y) ≡ t
  new-last t may = get_or-set_same y.types at t no_task (omega (arith, before.sound.six, before.sound.typecount, some may))

  -- one of the same u keeps it
  same-time : (t : TaskType) → MayCosts last → t.time ≡ (last_type y).time → (last_type (with_last t y)).time ≡ u
  same-time t may e = ap (λ (x : TaskType). x.time) (new-last t may) ∙ e ∙ before.time

  reach-second : (n u1 u2 u3 u4 s1 s2 s3 s4 : ℕ) → last ≡ 1 → 1 ≤ n → m + n ≤ 16 → four_bytes u1 u2 u3 u4 ≤ 1000000 → four_bytes s1 s2 s3 s4 ≤ 1000000
      → Reached (p ++ second_field n u1 u2 u3 u4 s1 s2 s3 s4) 6 k c m 2 w whole u
  reach-second n u1 u2 u3 u4 s1 s2 s3 s4 place low high time memory =
      let new : Kind = record { number = n; timecap = four_bytes u1 u2 u3 u4; memorycap = four_bytes s1 s2 s3 s4 } in
      let total : y.engines + n ≤ 16 = omega (arith, before.engines) in
      reach-field p last y before.goes before.sound 6 (0 ∷ 9 ∷ n ∷ u1 ∷ u2 ∷ u3 ∷ u4 ∷ s1 ∷ s2 ∷ s3 ∷ s4 ∷ []) (with_second n (four_bytes u1 u2 u3 u4) (four_bytes s1 s2 s3 s4) y) k c m 2 w whole u
      (λ rest. second-field last y n u1 u2 u3 u4 s1 s2 s3 s4 rest ((second-after-platform last).1 place)
      ∙ rw (
        second-within y.engines n (four_bytes u1 u2 u3 u4) (four_bytes s1 s2 s3 s4) low total,
        le-leb (four_bytes u1 u2 u3 u4) 1000000 time,
        le-leb (four_bytes s1 s2 s3 s4) 1000000 memory,
      ))
      (λ rest. refl) before.types before.columns before.engines (one_more new) before.costs (no_place 6 (λ e. omega arith) (λ e. omega arith) (λ e. omega arith) (λ e. omega arith)) before.cap before.time refl refl refl

  reach-type : (u1 u2 u3 u4 s1 s2 s3 s4 n1 n2 : ℕ) → k < 6 → four_bytes u1 u2 u3 u4 ≤ 1000000 → four_bytes s1 s2 s3 s4 ≤ 1000000
      → Reached (p ++ type_field u1 u2 u3 u4 s1 s2 s3 s4 n1 n2) 2 (suc k) (c * (two_bytes n1 n2 + 1)) m kinds w whole (four_bytes u1 u2 u3 u4)
  reach-type u1 u2 u3 u4 s1 s2 s3 s4 n1 n2 room time memory =
      let new = task_of (four_bytes u1 u2 u3 u4) (four_bytes s1 s2 s3 s4) (two_bytes n1 n2) in
      let none = before.sound.past y.typecount (le_refl y.typecount) in
      let inside : y.typecount < length y.types = omega (arith, before.types, before.sound.six) in
      let one_less : suc y.typecount - 1 ≡ y.typecount = omega arith in
      let is_last : last_type (with_type new y) ≡ new =
      ap (λ (i : ℕ). get_or (set y.types y.typecount new) i no_task) one_less ∙ get_or-set_same y.types y.typecount new no_task inside in
      reach-field p last y before.goes before.sound 2 (0 ∷ 10 ∷ u1 ∷ u2 ∷ u3 ∷ u4 ∷ s1 ∷ s2 ∷ s3 ∷ s4 ∷ n1 ∷ n2 ∷ []) (with_type new y) (suc k) (c * (two_bytes n1 n2 + 1)) m kinds w whole (four_bytes u1 u2 u3 u4)
      (λ rest. type-field last y u1 u2 u3 u4 s1 s2 s3 s4 n1 n2 rest before.type-may
      ∙ rw (lt-leb 6 y.typecount (omega (arith, before.types)), le-leb (four_bytes u1 u2 u3 u4) 1000000 time, le-leb (four_bytes s1 s2 s3 s4) 1000000 memory))
      (λ rest. refl) (ap suc before.types)
      (columns-more y.types y.typecount new inside (ap (λ (t : TaskType). t.ceiling) none) ∙ ap (λ (n : ℕ). n * (two_bytes n1 n2 + 1)) before.columns)
      before.engines before.second (given-same y.types y.typecount new (ap (λ (t : TaskType). given t.there) (sym none)) ∙ before.costs)
      (λ may. ap (λ (t : TaskType). given t.there) is_last) before.cap (ap (λ (t : TaskType). t.time) is_last) refl refl refl

  reach-data : (d1 d2 d3 d4 : ℕ) → MayData last → four_bytes d1 d2 d3 d4 ≤ 1000000 → Reached (p ++ data_field d1 d2 d3 d4) 3 k c m kinds w whole u
  reach-data d1 d2 d3 d4 place small =
      let new = with_data (four_bytes d1 d2 d3 d4) (last_type y) in
      let sized = before.sound.sized at in
      reach-field p last y before.goes before.sound 3 (0 ∷ 4 ∷ d1 ∷ d2 ∷ d3 ∷ d4 ∷ []) (with_last new y) k c m kinds w whole u
      (λ rest. data-field last y d1 d2 d3 d4 rest ((data-after-type last).1 place)
      ∙ rw (le-leb (last_type y).time 1000000 sized.time, le-leb (last_type y).memory 1000000 sized.memory, le-leb (four_bytes d1 d2 d3 d4) 1000000 small))
      (λ rest. refl) before.types (columns-same y.types at new refl ∙ before.columns) before.engines before.second
      (given-same y.types at new refl ∙ before.costs)
      (λ may. ap (λ (t : TaskType). given t.there) (new-last new (inl place)) ∙ before.no-costs (inl place)) before.cap (same-time new (inl place) refl) refl refl refl

  reach-most : (q1 q2 : ℕ) → MayMost last → (two_bytes q1 q2 ≡ 0 → ⊥) → Reached (p ++ most_field q1 q2) 4 k c m kinds w whole u
  reach-most q1 q2 place some =
      let new = with_most (two_bytes q1 q2) (last_type y) in
      let may-costs : MayCosts last = ⊎_elim inl (λ e. inr (inl e)) place in
      reach-field p last y before.goes before.sound 4 (0 ∷ 2 ∷ q1 ∷ q2 ∷ []) (with_last new y) k c m kinds w whole u
      (λ rest. most-field last y q1 q2 rest ((most-after-type last).1 place) ∙ rw (ne_eqb (two_bytes q1 q2) 0 some))
      (λ rest. refl) before.types (columns-same y.types at new refl ∙ before.columns) before.engines before.second
      (given-same y.types at new refl ∙ before.costs)
      (λ may. ap (λ (t : TaskType). given t.there) (new-last new may-costs) ∙ before.no-costs may-costs) before.cap (same-time new may-costs refl) refl refl refl

  reach-pace : (c1 c2 c3 c4 t1 t2 t3 t4 : ℕ) → MayPace last → PaceWithin whole u (four_bytes c1 c2 c3 c4) (four_bytes t1 t2 t3 t4)
      → Reached (p ++ pace_field c1 c2 c3 c4 t1 t2 t3 t4) 5 k c m kinds w whole u
  reach-pace c1 c2 c3 c4 t1 t2 t3 t4 place within =
      let run = four_bytes c1 c2 c3 c4 in
      let period = four_bytes t1 t2 t3 t4 in
      let new = with_pace run period (last_type y) in
      let may-costs : MayCosts last = ⊎_elim inl (λ e. inr (⊎_elim inl (λ e. inr (inl e)) e)) place in
      let keeps : cycle_keeps y.timecap (last_type y).time (cycle_of run period) ≡ true =
      (λ i. cycle_keeps (before.cap i) (before.time i) (cycle_of run period)) ∙ within-keeps whole u run period within in
      reach-field p last y before.goes before.sound 5 (0 ∷ 8 ∷ c1 ∷ c2 ∷ c3 ∷ c4 ∷ t1 ∷ t2 ∷ t3 ∷ t4 ∷ []) (with_last new y) k c m kinds w whole u
      (λ rest. pace-field last y c1 c2 c3 c4 t1 t2 t3 t4 rest ((pace-after-type last).1 place) ∙ rw keeps)
      (λ rest. refl) before.types (columns-same y.types at new refl ∙ before.columns) before.engines before.second
      (given-same y.types at new refl ∙ before.costs)
      (λ may. ap (λ (t : TaskType). given t.there) (new-last new may-costs) ∙ before.no-costs may-costs) before.cap (same-time new may-costs refl) refl refl refl

  reach-costs : (u1 u2 u3 u4 s1 s2 s3 s4 : ℕ) → MayCosts last → four_bytes u1 u2 u3 u4 ≤ 1000000 → four_bytes s1 s2 s3 s4 ≤ 1000000
      → Reached (p ++ costs_field u1 u2 u3 u4 s1 s2 s3 s4) 7 k c m kinds (suc w) whole u
  reach-costs u1 u2 u3 u4 s1 s2 s3 s4 place time memory =
      let new = with_costs (four_bytes u1 u2 u3 u4) (four_bytes s1 s2 s3 s4) (last_type y) in
      let inside : at < length y.types = omega (arith, before.sound.six, before.sound.typecount, some place) in
      reach-field p last y before.goes before.sound 7 (0 ∷ 8 ∷ u1 ∷ u2 ∷ u3 ∷ u4 ∷ s1 ∷ s2 ∷ s3 ∷ s4 ∷ []) (with_last new y) k c m kinds (suc w) whole u
      (λ rest. costs-field last y u1 u2 u3 u4 s1 s2 s3 s4 rest ((costs-after-type last).1 place)
      ∙ rw (le-leb (four_bytes u1 u2 u3 u4) 1000000 time, le-leb (four_bytes s1 s2 s3 s4) 1000000 memory))
      (λ rest. refl) before.types (columns-same y.types at new refl ∙ before.columns) before.engines before.second
      (given-more y.types at new inside refl (before.no-costs place) ∙ ap suc before.costs)
      (no_place 7 (λ e. omega arith) (λ e. omega arith) (λ e. omega arith) (λ e. omega arith)) before.cap (same-time new place refl) refl refl refl

reached : {p : List ℕ} {last k c m kinds w whole u : ℕ} → Beginning p last k c m kinds w whole u → Reached p last k c m kinds w whole u
reached (a-platform m r u1 u2 u3 u4 s1 s2 s3 s4 low high rule time memory) = reach-platform m r u1 u2 u3 u4 s1 s2 s3 s4 low high rule time memory
reached (then-second p last k c m kinds w whole u n u1 u2 u3 u4 s1 s2 s3 s4 before place low high time memory) =
    reach-second p last k c m kinds w whole u (reached before) n u1 u2 u3 u4 s1 s2 s3 s4 place low high time memory
reached (then-type p last k c m kinds w whole u u1 u2 u3 u4 s1 s2 s3 s4 n1 n2 before room time memory) =
    reach-type p last k c m kinds w whole u (reached before) u1 u2 u3 u4 s1 s2 s3 s4 n1 n2 room time memory
reached (then-data p last k c m kinds w whole u d1 d2 d3 d4 before place small) = reach-data p last k c m kinds w whole u (reached before) d1 d2 d3 d4 place small
reached (then-most p last k c m kinds w whole u q1 q2 before place some) = reach-most p last k c m kinds w whole u (reached before) q1 q2 place some
reached (then-pace p last k c m kinds w whole u c1 c2 c3 c4 t1 t2 t3 t4 before place within) =
    reach-pace p last k c m kinds w whole u (reached before) c1 c2 c3 c4 t1 t2 t3 t4 place within
reached (then-costs p last k c m kinds w whole u u1 u2 u3 u4 s1 s2 s3 s4 before place time memory) =
    reach-costs p last k c m kinds w whole u (reached before) u1 u2 u3 u4 s1 s2 s3 s4 place time memory

-- What comes next

-- a test of three parts of which one fails
over : (a b : Bool) → (a ≡ false) ⊎ (b ≡ false) → not (a && b && true) ≡ true
over false b (inl e) = refl
over true b (inl e) = absurd (false≢true (sym e))
over false b (inr e) = refl
over true false (inr e) = refl
over true true (inr e) = absurd (false≢true (sym e))

third-over : (a b : Bool) → not (a && b && false) ≡ true
third-over true true = refl
third-over true false = refl
third-over false b = refl

-- one of two parts that fails, and a number of engines that does
over-two : (a b : Bool) → (a ≡ false) ⊎ (b ≡ false) → not (a && b) ≡ true
over-two false b e = refl
over-two true false e = refl
over-two true true (inl e) = absurd (false≢true (sym e))
over-two true true (inr e) = absurd (false≢true (sym e))

-- which of two sizes is over the limit
too_large_lem : (u s : ℕ) → (1000000 < u) ⊎ (1000000 < s) → (leb u 1000000 ≡ false) ⊎ (leb s 1000000 ≡ false)
too_large_lem u s large = ⊎_elim (λ e. inl (lt-leb u 1000000 e)) (λ e. inr (lt-leb s 1000000 e)) large

module _ (p : List ℕ) (last k c m kinds w whole u : ℕ) (here : Reached p last k c m kinds w whole u) where
  stops : (b : ℕ) (s : List ℕ) (n : ℕ) → field_of (b ∷ s) last here.so_far ≡ unread n → read_card (p ++ (b ∷ s)) ≡ unread n
  stops b s n e = let g = here.goes (b ∷ s) in g.same ∙ stop-here g.steps b s last here.so_far n g.enough e

  data-may-not : (MayData last → ⊥) → may_follow follows last 3 ≡ false
  data-may-not n = rw (ne_eqb 2 last (λ e. n (sym e)))

  most-may-not : (MayMost last → ⊥) → may_follow follows last 4 ≡ false
  most-may-not n = rw (ne_eqb 2 last (λ e. n (inl (sym e))), ne_eqb 3 last (λ e. n (inr (sym e))))

  pace-may-not : (MayPace last → ⊥) → may_follow follows last 5 ≡ false
  pace-may-not n = rw (ne_eqb 2 last (λ e. n (inl (sym e))), ne_eqb 3 last (λ e. n (inr (inl (sym e)))), ne_eqb 4 last (λ e. n (inr (inr (sym e)))))

  second-may-not : (last ≡ 1 → ⊥) → may_follow follows last 6 ≡ false
  second-may-not n = rw (ne_eqb 1 last (λ e. n (sym e)))

  costs-may-not : (MayCosts last → ⊥) → may_follow follows last 7 ≡ false
  costs-may-not n =
      rw (
        ne_eqb 2 last (λ e. n (inl (sym e))),
        ne_eqb 3 last (λ e. n (inr (inl (sym e)))),
        ne_eqb 4 last (λ e. n (inr (inr (inl (sym e))))),
        ne_eqb 5 last (λ e. n (inr (inr (inr (sym e))))),
      )

  number-over : (n : ℕ) → (n ≡ 0) ⊎ (16 < m + n) → not (kind_counted here.so_far.engines n) ≡ true
  number-over n bad =
      over-two (leb 1 n) (leb (here.so_far.engines + n) 16)
      (⊎_elim (λ (e : n ≡ 0). inl (lt-leb 1 n (omega arith))) (λ (e : 16 < m + n). inr (lt-leb (here.so_far.engines + n) 16 (omega (arith, here.engines)))) bad)

  cycle-broken : (run period : ℕ) → (PaceWithin whole u run period → ⊥) → cycle_keeps here.so_far.timecap (last_type here.so_far).time (cycle_of run period) ≡ false
  cycle-broken run period broken = (λ i. cycle_keeps (here.cap i) (here.time i) (cycle_of run period)) ∙ broken-breaks whole u run period broken

  next_field : NextField p last k m whole u
  next_field =
      let y = here.so_far in
      record {
        one_byte = λ a. stops a [] 1 (cut-one last y a);
        two_bytes_lem = λ a b. stops a (b ∷ []) 1 (cut-two last y a b);
        no-tag = λ t h l rest n1 n2 n3 n4 n5 n6 n7. stops t (h ∷ l ∷ rest) 2 (unknown last y t h l rest n1 n2 n3 n4 n5 n6 n7);
        platform-again = λ h l rest. stops 1 (h ∷ l ∷ rest) 3 (misplaced last y 1 h l rest platform_rule (unfold rule_of in refl) here.no-platform);
        data-place = λ h l rest n. stops 3 (h ∷ l ∷ rest) 3 (misplaced last y 3 h l rest data_rule (unfold rule_of in refl) (data-may-not n));
        most-place = λ h l rest n. stops 4 (h ∷ l ∷ rest) 3 (misplaced last y 4 h l rest most_rule (unfold rule_of in refl) (most-may-not n));
        pace-place = λ h l rest n. stops 5 (h ∷ l ∷ rest) 3 (misplaced last y 5 h l rest pace_rule (unfold rule_of in refl) (pace-may-not n));
        second-place = λ h l rest n. stops 6 (h ∷ l ∷ rest) 3 (misplaced last y 6 h l rest second_rule (unfold rule_of in refl) (second-may-not n));
        costs-place = λ h l rest n. stops 7 (h ∷ l ∷ rest) 3 (misplaced last y 7 h l rest costs_rule (unfold rule_of in refl) (costs-may-not n));
        type-length = λ h l rest n. stops 2 (h ∷ l ∷ rest) 4 (other_length last y 2 h l rest type_rule (unfold rule_of in refl) here.type-may n);
        data-length = λ h l rest e n. stops 3 (h ∷ l ∷ rest) 4 (other_length last y 3 h l rest data_rule (unfold rule_of in refl) ((data-after-type last).1 e) n);
        most-length = λ h l rest e n. stops 4 (h ∷ l ∷ rest) 4 (other_length last y 4 h l rest most_rule (unfold rule_of in refl) ((most-after-type last).1 e) n);
        pace-length = λ h l rest e n. stops 5 (h ∷ l ∷ rest) 4 (other_length last y 5 h l rest pace_rule (unfold rule_of in refl) ((pace-after-type last).1 e) n);
        second-length = λ h l rest e n. stops 6 (h ∷ l ∷ rest) 4 (other_length last y 6 h l rest second_rule (unfold rule_of in refl) ((second-after-platform last).1 e) n);
        costs-length = λ h l rest e n. stops 7 (h ∷ l ∷ rest) 4 (other_length last y 7 h l rest costs_rule (unfold rule_of in refl) ((costs-after-type last).1 e) n);
        type-cut = λ rest short. stops 2 (0 ∷ 10 ∷ rest) 1 (cut-body last y 2 0 10 rest type_rule (unfold rule_of in refl) here.type-may refl short);
        data-cut = λ rest e short. stops 3 (0 ∷ 4 ∷ rest) 1 (cut-body last y 3 0 4 rest data_rule (unfold rule_of in refl) ((data-after-type last).1 e) refl short);
        most-cut = λ rest e short. stops 4 (0 ∷ 2 ∷ rest) 1 (cut-body last y 4 0 2 rest most_rule (unfold rule_of in refl) ((most-after-type last).1 e) refl short);
        pace-cut = λ rest e short. stops 5 (0 ∷ 8 ∷ rest) 1 (cut-body last y 5 0 8 rest pace_rule (unfold rule_of in refl) ((pace-after-type last).1 e) refl short);
        second-cut = λ rest e short. stops 6 (0 ∷ 9 ∷ rest) 1 (cut-body last y 6 0 9 rest second_rule (unfold rule_of in refl) ((second-after-platform last).1 e) refl short);
        costs-cut = λ rest e short. stops 7 (0 ∷ 8 ∷ rest) 1 (cut-body last y 7 0 8 rest costs_rule (unfold rule_of in refl) ((costs-after-type last).1 e) refl short);
        seventh-type = λ u1 u2 u3 u4 s1 s2 s3 s4 n1 n2 rest six.
            stops 2 (0 ∷ 10 ∷ u1 ∷ u2 ∷ u3 ∷ u4 ∷ s1 ∷ s2 ∷ s3 ∷ s4 ∷ n1 ∷ n2 ∷ rest) 7
            (type-field last y u1 u2 u3 u4 s1 s2 s3 s4 n1 n2 rest here.type-may ∙ rw (le-leb 6 y.typecount (omega (arith, here.types))));
        second-number = λ n u1 u2 u3 u4 s1 s2 s3 s4 rest e bad.
            stops 6 (0 ∷ 9 ∷ n ∷ u1 ∷ u2 ∷ u3 ∷ u4 ∷ s1 ∷ s2 ∷ s3 ∷ s4 ∷ rest) 5
            (second-field last y n u1 u2 u3 u4 s1 s2 s3 s4 rest ((second-after-platform last).1 e) ∙ rw (number-over n bad));
        type-size = λ u1 u2 u3 u4 s1 s2 s3 s4 n1 n2 rest room large.
            stops 2 (0 ∷ 10 ∷ u1 ∷ u2 ∷ u3 ∷ u4 ∷ s1 ∷ s2 ∷ s3 ∷ s4 ∷ n1 ∷ n2 ∷ rest) 8
            (type-field last y u1 u2 u3 u4 s1 s2 s3 s4 n1 n2 rest here.type-may
            ∙ rw (
              lt-leb 6 y.typecount (omega (arith, here.types)),
              over (leb (four_bytes u1 u2 u3 u4) 1000000) (leb (four_bytes s1 s2 s3 s4) 1000000) (too_large_lem (four_bytes u1 u2 u3 u4) (four_bytes s1 s2 s3 s4) large),
            ));
        data-size = λ d1 d2 d3 d4 rest e large.
            stops 3 (0 ∷ 4 ∷ d1 ∷ d2 ∷ d3 ∷ d4 ∷ rest) 8
            (data-field last y d1 d2 d3 d4 rest ((data-after-type last).1 e)
            ∙ rw (lt-leb (four_bytes d1 d2 d3 d4) 1000000 large, third-over (leb (last_type y).time 1000000) (leb (last_type y).memory 1000000)));
        second-size = λ n u1 u2 u3 u4 s1 s2 s3 s4 rest e low high large.
            stops 6 (0 ∷ 9 ∷ n ∷ u1 ∷ u2 ∷ u3 ∷ u4 ∷ s1 ∷ s2 ∷ s3 ∷ s4 ∷ rest) 8
            (second-field last y n u1 u2 u3 u4 s1 s2 s3 s4 rest ((second-after-platform last).1 e)
            ∙ rw (
              second-within y.engines n (four_bytes u1 u2 u3 u4) (four_bytes s1 s2 s3 s4) low (omega (arith, here.engines)),
              over-two (leb (four_bytes u1 u2 u3 u4) 1000000) (leb (four_bytes s1 s2 s3 s4) 1000000) (too_large_lem (four_bytes u1 u2 u3 u4) (four_bytes s1 s2 s3 s4) large),
            ));
        costs-size = λ u1 u2 u3 u4 s1 s2 s3 s4 rest e large.
            stops 7 (0 ∷ 8 ∷ u1 ∷ u2 ∷ u3 ∷ u4 ∷ s1 ∷ s2 ∷ s3 ∷ s4 ∷ rest) 8
            (costs-field last y u1 u2 u3 u4 s1 s2 s3 s4 rest ((costs-after-type last).1 e)
            ∙ rw (over-two (leb (four_bytes u1 u2 u3 u4) 1000000) (leb (four_bytes s1 s2 s3 s4) 1000000) (too_large_lem (four_bytes u1 u2 u3 u4) (four_bytes s1 s2 s3 s4) large)));
        most-none = λ q1 q2 rest e none. stops 4 (0 ∷ 2 ∷ q1 ∷ q2 ∷ rest) 31 (most-field last y q1 q2 rest ((most-after-type last).1 e) ∙ rw (eq-eqb (two_bytes q1 q2) 0 none));
        pace-broken = λ c1 c2 c3 c4 t1 t2 t3 t4 rest e broken.
            stops 5 (0 ∷ 8 ∷ c1 ∷ c2 ∷ c3 ∷ c4 ∷ t1 ∷ t2 ∷ t3 ∷ t4 ∷ rest) 43
            (pace-field last y c1 c2 c3 c4 t1 t2 t3 t4 rest ((pace-after-type last).1 e) ∙ rw (cycle-broken (four_bytes c1 c2 c3 c4) (four_bytes t1 t2 t3 t4) broken));
      }

  ends : (x : Reading) → end_of last here.so_far ≡ x → read_card p ≡ x
  ends x e = let g = here.goes [] in ap read_card (sym (append-nil p)) ∙ g.same ∙ fields_from-nil g.steps last here.so_far ∙ e

  -- all or none, as `kinds_agree` says it
  agree : (b : Bool) → kinds_agree (is_one_kind here.so_far.second) here.so_far.typecount here.so_far.types ≡ b → (b ≡ true → AllOrNone k kinds w) × (b ≡ false → AllOrNone k kinds w → ⊥)
  agree b e = judged kinds here.so_far.second here.second e
    where
      z : System
      z = here.so_far

      judged : (n : ℕ) (x : Option Kind) → KindsAre n x → kinds_agree (is_one_kind x) z.typecount z.types ≡ b → (b ≡ true → AllOrNone k n w) × (b ≡ false → AllOrNone k n w → ⊥)
      judged n x only_one e =
          let is = sym (agree-none z.typecount z.types here.sound.past) ∙ e in (
            λ yes. record { one = λ n. omega (arith, here.costs, eqb-true (given_in z.types) 0 (is ∙ yes)); two = λ n. absurd (omega arith) },
            λ no all. eqb-false (given_in z.types) 0 (is ∙ no) (here.costs ∙ all.one refl),
          )
      judged n x (one_more x1) e =
          let is = sym (agree-all z.typecount z.types here.sound.past (omega (arith, here.sound.six, here.sound.typecount))) ∙ e in (
            λ yes. record { one = λ n. absurd (omega arith); two = λ n. omega (arith, here.costs, here.types, eqb-true (given_in z.types) z.typecount (is ∙ yes)) },
            λ no all. eqb-false (given_in z.types) z.typecount (is ∙ no) (here.costs ∙ all.two refl ∙ sym here.types),
          )

  at-end : FileEnd p k c kinds w
  unfolding end_of
  at-end = judged (kinds_agree (is_one_kind here.so_far.second) here.so_far.typecount here.so_far.types) refl
    where
      y : System
      y = here.so_far

      some : 1 ≤ k → eqb y.typecount 0 ≡ false
      some h = ne_eqb y.typecount 0 (λ e. omega (arith, here.types))

      none : k ≡ 0 → read_card p ≡ unread 9
      none e = ends (unread 9) (rw (here.not_first, here.types, e))

      one_wanted : (n : ℕ) (x : Option Kind) → KindsAre n x → y.second ≡ x → read_card p ≡ opened y → (n ≡ 1 → read_file p ≡ opened y) × (n ≡ 2 → read_file p ≡ unread 42)
      one_wanted n x only_one is e = (λ h. card-file p y e is, λ h. absurd (omega arith))
      one_wanted n x (one_more x1) is e = (λ h. absurd (omega arith), λ h. card-mixed p y x1 e is)

      judged : (b : Bool) → kinds_agree (is_one_kind y.second) y.typecount y.types ≡ b → FileEnd p k c kinds w
      judged true e =
          record {
            no-type = none;
            some-kinds = λ h not-all. absurd (not-all ((agree true e).0 refl));
            columns-over = λ h all large. ends (unread 10) (rw (here.not_first, some h, e, here.columns, lt-leb c 4096 large));
            opens = λ h all small.
                let read = ends (opened y) (rw (here.not_first, some h, e, here.columns, le-leb c 4096 small)) in
                let wanted = one_wanted kinds y.second here.second refl read in
                (y, read, wanted.0, wanted.1);
          }
      judged false e =
          record {
            no-type = none;
            some-kinds = λ h not-all. ends (unread 41) (rw (here.not_first, some h, e));
            columns-over = λ h all large. absurd ((agree false e).1 refl all);
            opens = λ h all small. absurd ((agree false e).1 refl all);
          }

pub later-fields : LaterFields
later-fields =
    record {
      empty-file = unfold read_card fields_from end_of in refl;
      next_field = λ p last k c m kinds w whole u before. next_field p last k c m kinds w whole u (reached before);
      file-end = λ p last k c m kinds w whole u before. at-end p last k c m kinds w whole u (reached before);
      refused-alike = card-refused;
    }
