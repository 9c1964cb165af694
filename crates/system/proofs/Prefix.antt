-- How many fields of a rule a file has that opens; and how much of a file decides what it reads as: a field is judged by its own bytes, and after the fields
-- that the rules allow the next one is refused.
use Rattle.std.proofs.Common.{Option, Some, None, Result, Ok, Err}
use Prim.Native.Nat.{ℕ, zero, suc, ◌+◌, ◌-◌, ◌*◌, ◌≤◌, ◌<◌}
use native.Mathlib.Omega.{arith}
use native.Mathlib.Nat.{le_refl, zero-sub}
use native.Mathlib.Numerals.{unary_clauses}
use mathlib.Core.List.{List, [], ◌∷◌, ◌++◌}
use mathlib.Core.Bool.{Bool, true, false, not, cond, ◌||◌}
use mathlib.Core.Path.{◌≡◌, refl, sym, ap, ◌∙◌}
use mathlib.Core.Logic.{⊎_elim}
use borrow.Author.Tests.{leb-true, leb-false, eqb-true, le-leb, lt-leb}
use lib.ListN.{length, take, drop, length-append, length-take, length-drop}
use lib.Seq.{get_or-take, take-take, take-nil, drop_at}
use lib.Dec.{leb, eqb, lit≤}
use Rattle.system.specs.declared.System.{System}
use Rattle.system.specs.declared.FieldRule.{FieldRule}
use Rattle.system.specs.Numbers.{type_limit, file_bytes}
use Rattle.system.specs.Values.{task_of, with_data, with_most, with_pace, with_costs, blank, with_platform, with_second, with_type, last_type, with_last}
use Rattle.system.specs.Limits.{platform_fault, kind_fault, type_fault, most_fault, pace_fault, costs_fault, columns_of, kinds_agree}
use Rattle.system.specs.Rules.{platform_rule, type_rule, data_rule, most_rule, pace_rule, second_rule, costs_rule}
use Rattle.system.specs.Rules.{field_rules, rule_of, follows, may_follow, head_size, ruled_size, longest_field, longest_file}
use Rattle.system.specs.Layout.{Reading, opened, unread, byte_at, word2, word4, field_size, headed_field, whole_field, body_part, is_type, is_data, is_most, is_pace, is_second, is_costs}
use Rattle.system.specs.Layout.{platform_from, platform_of, type_from, type_of, data_from, data_of, most_from, most_of, pace_from, pace_of, second_from, second_of, costs_from, costs_of}
use Rattle.system.specs.Layout.{ruled_head, head_of, body_of, ruled_field, field_of, end_of, after_field, fields_from, read_card, read_system, of_one_kind, read_file}
use Rattle.system.specs.Fields.{WholeFields, a-field, then-fields, tagged, HowMany}
use Rattle.system.proofs.Laws.{passes, no-fault, OneOf, a-platform, a-type, a-data, a-most, a-pace, a_second, a-costs, platform-first, data-after-type, most-after-type, pace-after-type, second-after-platform, costs-after-type, card-refused, IsRule, rule_of-known, head_of-ruled, field_of-opened, fields_from-nil}

-- The bytes that the fields still allowed can have, after a field of tag `last` and with the system y so far

-- one field of a tag where it may stand next
abbrev next : ℕ → ℕ → ℕ
next tag last = cond (may_follow follows last tag) 1 0

-- how many fields of a rule may still come: the types up to the limit, d, q, C and T, and u and s on the second kind for each of them and for the last one where it may stand next,
-- a second kind up to the platform, and the platform where it may
abbrev still : FieldRule → ℕ → System → ℕ
still r last y =
    cond (is_type r.tag) (r.allowed - y.typecount)
    (cond (is_data r.tag || is_most r.tag || is_pace r.tag || is_costs r.tag) (r.allowed - y.typecount + next r.tag last)
    (cond (is_second r.tag) (cond (leb last 1) 1 0)
    (next r.tag last)))

abbrev room_for : List FieldRule → ℕ → System → ℕ
room_for [] last y = 0
room_for (r ∷ rs) last y = still r last y * ruled_size r + room_for rs last y

abbrev room : ℕ → System → ℕ
room last y = room_for field_rules last y

platform-types : (b : List ℕ) (y z : System) → platform_of b y ≡ opened z → z.typecount ≡ y.typecount
unfolding platform_from
platform-types b y z e =
    let p = no-fault (platform_fault (byte_at b 0) (byte_at b 1) (word4 b 2) (word4 b 6)) (with_platform (byte_at b 0) (byte_at b 1) (word4 b 2) (word4 b 6) y) z e in
    ap (λ (x : System). x.typecount) (sym p.1)

type-types : (b : List ℕ) (y z : System) → type_of b y ≡ opened z → z.typecount ≡ suc y.typecount
unfolding type_from
type-types b y z e =
    let t = task_of (word4 b 0) (word4 b 4) (word2 b 8) in
    ap (λ (x : System). x.typecount) (sym (no-fault (type_fault t) (with_type t y) z e).1)

data-types : (b : List ℕ) (y z : System) → data_of b y ≡ opened z → z.typecount ≡ y.typecount
unfolding data_from
data-types b y z e =
    let t = with_data (word4 b 0) (last_type y) in
    ap (λ (x : System). x.typecount) (sym (no-fault (type_fault t) (with_last t y) z e).1)

most-types : (b : List ℕ) (y z : System) → most_of b y ≡ opened z → z.typecount ≡ y.typecount
unfolding most_from
most-types b y z e =
    let t = with_most (word2 b 0) (last_type y) in
    ap (λ (x : System). x.typecount) (sym (no-fault (most_fault t.most) (with_last t y) z e).1)

pace-types : (b : List ℕ) (y z : System) → pace_of b y ≡ opened z → z.typecount ≡ y.typecount
unfolding pace_from
pace-types b y z e =
    let t = with_pace (word4 b 0) (word4 b 4) (last_type y) in
    ap (λ (x : System). x.typecount) (sym (no-fault (pace_fault y.timecap (last_type y).time t.pace) (with_last t y) z e).1)

second-types : (b : List ℕ) (y z : System) → second_of b y ≡ opened z → z.typecount ≡ y.typecount
unfolding second_from
second-types b y z e =
    let p = no-fault (kind_fault y.engines (byte_at b 0) (word4 b 1) (word4 b 5)) (with_second (byte_at b 0) (word4 b 1) (word4 b 5) y) z e in
    ap (λ (x : System). x.typecount) (sym p.1)

costs-types : (b : List ℕ) (y z : System) → costs_of b y ≡ opened z → z.typecount ≡ y.typecount
unfolding costs_from
costs-types b y z e =
    let t = with_costs (word4 b 0) (word4 b 4) (last_type y) in
    ap (λ (x : System). x.typecount) (sym (no-fault (costs_fault t.there) (with_last t y) z e).1)

-- an accepted field of this tag takes itself from those of a rule that may still come
abbrev Fewer : FieldRule → ℕ → ℕ → System → System → Type 0
Fewer r tag last y z = cond (eqb tag r.tag) 1 0 + still r tag z ≤ still r last y

abbrev AllFewer : ℕ → ℕ → System → System → Type 0
AllFewer tag last y z =
    Fewer platform_rule tag last y z × Fewer type_rule tag last y z × Fewer data_rule tag last y z × Fewer most_rule tag last y z × Fewer pace_rule tag last y z
    × Fewer second_rule tag last y z × Fewer costs_rule tag last y z

body-fewer : (r : FieldRule) (b : List ℕ) (last : ℕ) (y z : System) → OneOf r → may_follow follows last r.tag ≡ true
    → body_of r b y ≡ opened z → AllFewer r.tag last y z
unfolding body_of
body-fewer r b last y z (a-platform w) p e = rw (w, platform-first last (rw w at p), platform-types b y z (rw w at e)) (omega arith, omega arith, omega arith, omega arith, omega arith, omega arith, omega arith)
body-fewer r b last y z (a-type w) p e =
    let q = passes (leb type_limit y.typecount) 7 (type_of b y) z (rw w at e) in
    let few = leb-false type_limit y.typecount q.0 in
    rw (w, type-types b y z q.1) (omega arith, omega arith, omega arith, omega arith, omega arith, omega arith, omega arith)
body-fewer r b last y z (a-data w) p e = rw (w, (data-after-type last).0 (rw w at p), data-types b y z (rw w at e)) (omega arith, omega arith, omega arith, omega arith, omega arith, omega arith, omega arith)
body-fewer r b last y z (a-most w) p e =
    let types = most-types b y z (rw w at e) in
    ⊎_elim (λ (last2 : last ≡ 2). rw (w, last2, types) (omega arith, omega arith, omega arith, omega arith, omega arith, omega arith, omega arith))
    (λ (last3 : last ≡ 3). rw (w, last3, types) (omega arith, omega arith, omega arith, omega arith, omega arith, omega arith, omega arith))
    ((most-after-type last).0 (rw w at p))
body-fewer r b last y z (a-pace w) p e =
    let types = pace-types b y z (rw w at e) in
    ⊎_elim (λ (last2 : last ≡ 2). rw (w, last2, types) (omega arith, omega arith, omega arith, omega arith, omega arith, omega arith, omega arith))
    (⊎_elim (λ (last3 : last ≡ 3). rw (w, last3, types) (omega arith, omega arith, omega arith, omega arith, omega arith, omega arith, omega arith))
    (λ (last4 : last ≡ 4). rw (w, last4, types) (omega arith, omega arith, omega arith, omega arith, omega arith, omega arith, omega arith)))
    ((pace-after-type last).0 (rw w at p))
body-fewer r b last y z (a_second w) p e = rw (w, (second-after-platform last).0 (rw w at p), second-types b y z (rw w at e)) (omega arith, omega arith, omega arith, omega arith, omega arith, omega arith, omega arith)
body-fewer r b last y z (a-costs w) p e =
    let types = costs-types b y z (rw w at e) in
    ⊎_elim (λ (last2 : last ≡ 2). rw (w, last2, types) (omega arith, omega arith, omega arith, omega arith, omega arith, omega arith, omega arith))
    (⊎_elim (λ (last3 : last ≡ 3). rw (w, last3, types) (omega arith, omega arith, omega arith, omega arith, omega arith, omega arith, omega arith))
    (⊎_elim (λ (last4 : last ≡ 4). rw (w, last4, types) (omega arith, omega arith, omega arith, omega arith, omega arith, omega arith, omega arith))
    (λ (last5 : last ≡ 5). rw (w, last5, types) (omega arith, omega arith, omega arith, omega arith, omega arith, omega arith, omega arith))))
    ((costs-after-type last).0 (rw w at p))

-- what holds of each of the seven rules
by-rule : (P : FieldRule → Type 0) → P platform_rule → P type_rule → P data_rule → P most_rule → P pace_rule → P second_rule → P costs_rule → (r : FieldRule) → OneOf r → P r
by-rule P a b c d e f g r (a-platform w) = rw w a
by-rule P a b c d e f g r (a-type w) = rw w b
by-rule P a b c d e f g r (a-data w) = rw w c
by-rule P a b c d e f g r (a-most w) = rw w d
by-rule P a b c d e f g r (a-pace w) = rw w e
by-rule P a b c d e f g r (a_second w) = rw w f
by-rule P a b c d e f g r (a-costs w) = rw w g

-- so it takes its bytes from the room
room-less : (last : ℕ) (y z : System) (r : FieldRule) → OneOf r → AllFewer r.tag last y z → ruled_size r + room r.tag z ≤ room last y
room-less last y z =
    by-rule (λ (r : FieldRule). AllFewer r.tag last y z → ruled_size r + room r.tag z ≤ room last y)
    (λ a. omega arith) (λ a. omega arith) (λ a. omega arith) (λ a. omega arith) (λ a. omega arith) (λ a. omega arith) (λ a. omega arith)

-- an accepted field takes its bytes from the room
body-room : (r : FieldRule) (b : List ℕ) (last : ℕ) (y z : System) → OneOf r → may_follow follows last r.tag ≡ true
    → body_of r b y ≡ opened z → ruled_size r + room r.tag z ≤ room last y
body-room r b last y z w p e = room-less last y z r w (body-fewer r b last y z w p e)

-- so the reading goes on with less room, by the field's size
pub record Goes (s : List ℕ) (last : ℕ) (y z : System) : Type 0 where
  pub inside : field_size s ≤ length s
  less : field_size s + room (byte_at s 0) z ≤ room last y

pub field-goes : (s : List ℕ) (last : ℕ) (y z : System) → field_of s last y ≡ opened z → Goes s last y z
field-goes s last y z e =
    let a = field_of-opened s last y z e in
    let fewer = rw a.passed.rule.same_tag at (body-room a.rule (body_part s) last y z a.passed.rule.which a.passed.place a.body) in
    record {
      inside = leb-true (field_size s) (length s) a.passed.whole;
      less = omega (arith, a.passed.length);
    }

-- How many fields of a rule a file has that opens

-- a field that is read is one fewer to come
field-fewer : (s : List ℕ) (last : ℕ) (y z : System) → field_of s last y ≡ opened z → (r : FieldRule) → OneOf r → Fewer r (byte_at s 0) last y z
field-fewer s last y z e =
    let a = field_of-opened s last y z e in
    let all = rw a.passed.rule.same_tag at (body-fewer a.rule (body_part s) last y z a.passed.rule.which a.passed.place a.body) in
    by-rule (λ (r : FieldRule). Fewer r (byte_at s 0) last y z) all.0 all.1 all.2 all.3 all.4 all.5 all.6

-- so the fields that are read are no more than may still come
fields-few : (r : FieldRule) → OneOf r → (f : ℕ) {s : List ℕ} {end : ℕ} (fields : WholeFields s end) (last : ℕ) (y z : System)
    → length s ≤ f → fields_from f s last y ≡ opened z → tagged r.tag fields ≤ still r last y
unfolding fields_from
fields-few r which zero (a-field t h l body size) last y z enough e = absurd (omega arith)
fields-few r which zero (then-fields t h l body rest end size more) last y z enough e = absurd (omega arith)
fields-few r which (suc f) (a-field t h l body size) last y z enough e = on (field_of (t ∷ h ∷ l ∷ body) last y) refl e
  where
    on : (x : Reading) → field_of (t ∷ h ∷ l ∷ body) last y ≡ x
        → after_field x (λ (next : System). fields_from f (drop (field_size (t ∷ h ∷ l ∷ body)) (t ∷ h ∷ l ∷ body)) t next) ≡ opened z → cond (eqb t r.tag) 1 0 ≤ still r last y
    on (unread n) q e = let never : ◌≡◌ {A = ℕ} 0 1 = cc in absurd (omega arith)
    on (opened next) q e = omega (arith, field-fewer (t ∷ h ∷ l ∷ body) last y next q r which)
fields-few r which (suc f) (then-fields t h l body rest end size more) last y z enough e =
    on (field_of s last y) refl e (λ next. fields-few r which f more t next z (omega (arith, length-append body rest)))
  where
    s : List ℕ
    s = t ∷ h ∷ l ∷ (body ++ rest)

    left : drop (field_size s) s ≡ rest
    left = drop_at (t ∷ h ∷ l ∷ body) rest (field_size s) (omega arith)

    on : (x : Reading) → field_of s last y ≡ x → after_field x (λ (next : System). fields_from f (drop (field_size s) s) t next) ≡ opened z
        → ((next : System) → fields_from f rest t next ≡ opened z → tagged r.tag more ≤ still r t next) → cond (eqb t r.tag) 1 0 + tagged r.tag more ≤ still r last y
    on (unread n) q e later = let never : ◌≡◌ {A = ℕ} 0 1 = cc in absurd (omega arith)
    on (opened next) q e later =
        omega (arith, field-fewer s last y next q r which, later next (sym (ap (λ (x : List ℕ). fields_from f x t next) left) ∙ e))

-- at the file's start as many may come as the rule allows
still-all : (r : FieldRule) → OneOf r → still r 0 blank ≤ r.allowed
still-all = by-rule (λ (r : FieldRule). still r 0 blank ≤ r.allowed) (lit≤ tt) (lit≤ tt) (lit≤ tt) (lit≤ tt) (lit≤ tt) (lit≤ tt) (lit≤ tt)

-- one file has them all: one engine of each kind, U, S and every u, s, d, q, C and T 1, and every n 0
abbrev one : List ℕ
one = 0 ∷ 0 ∷ 0 ∷ 1 ∷ []

abbrev two : List ℕ
two = 0 ∷ 0 ∷ 0 ∷ 1 ∷ 0 ∷ 0 ∷ 0 ∷ 1 ∷ []

abbrev typed : List ℕ → List ℕ
typed rest =
    2 ∷ 0 ∷ 10 ∷ ((two ++ (0 ∷ 0 ∷ [])) ++ (3 ∷ 0 ∷ 4 ∷ (one ++ (4 ∷ 0 ∷ 2 ∷ ((0 ∷ 1 ∷ []) ++ (5 ∷ 0 ∷ 8 ∷ (two ++ (7 ∷ 0 ∷ 8 ∷ (two ++ rest)))))))))

typed-fields : {rest : List ℕ} → WholeFields rest 7 → WholeFields (typed rest) 7
typed-fields more =
    then-fields 2 0 10 (two ++ (0 ∷ 0 ∷ [])) _ 7 refl (then-fields 3 0 4 one _ 7 refl (then-fields 4 0 2 (0 ∷ 1 ∷ []) _ 7 refl
    (then-fields 5 0 8 two _ 7 refl (then-fields 7 0 8 two _ 7 refl more))))

-- the last of them, whose last field ends the file
abbrev typed_last : List ℕ
typed_last = 2 ∷ 0 ∷ 10 ∷ ((two ++ (0 ∷ 0 ∷ [])) ++ (3 ∷ 0 ∷ 4 ∷ (one ++ (4 ∷ 0 ∷ 2 ∷ ((0 ∷ 1 ∷ []) ++ (5 ∷ 0 ∷ 8 ∷ (two ++ (7 ∷ 0 ∷ 8 ∷ two))))))))

last-fields : WholeFields typed_last 7
last-fields =
    then-fields 2 0 10 (two ++ (0 ∷ 0 ∷ [])) _ 7 refl (then-fields 3 0 4 one _ 7 refl (then-fields 4 0 2 (0 ∷ 1 ∷ []) _ 7 refl
    (then-fields 5 0 8 two _ 7 refl (a-field 7 0 8 two refl))))

abbrev full_file : List ℕ
full_file = 1 ∷ 0 ∷ 10 ∷ ((1 ∷ 0 ∷ two) ++ (6 ∷ 0 ∷ 9 ∷ ((1 ∷ two) ++ typed (typed (typed (typed (typed typed_last)))))))

full-fields : WholeFields full_file 7
full-fields =
    then-fields 1 0 10 (1 ∷ 0 ∷ two) _ 7 refl (then-fields 6 0 9 (1 ∷ two) _ 7 refl
    (typed-fields (typed-fields (typed-fields (typed-fields (typed-fields last-fields))))))

full-opens : read_card full_file ≡ opened (read_system (read_card full_file))
unfolding rule_of platform_from type_from data_from most_from pace_from second_from costs_from ruled_head head_of body_of ruled_field field_of end_of fields_from read_card columns_of kinds_agree
full-opens = refl

full-has : (r : FieldRule) → OneOf r → tagged r.tag full-fields ≡ r.allowed
unfolding full-fields typed-fields last-fields
full-has = by-rule (λ (r : FieldRule). tagged r.tag full-fields ≡ r.allowed) refl refl refl refl refl refl refl

pub how-many : HowMany
unfolding read_card
how-many =
    record {
      no_more = λ r known file y last fields e.
          let which = (rule_of-known r.tag r known).which in
          omega (arith, fields-few r which (length file) fields 0 blank y (le_refl (length file)) e, still-all r which);
      as_many = (full_file, read_system (read_card full_file), 7, full-fields, full-opens, λ r known. full-has r (rule_of-known r.tag r known).which);
    }

-- A file past the room is refused

fields-refused : (f : ℕ) (s : List ℕ) (last : ℕ) (y : System) → length s ≤ f → room last y < length s → (n : ℕ) × (fields_from f s last y ≡ unread n)
unfolding fields_from
fields-refused zero s last y enough long = absurd (omega arith)
fields-refused (suc f) [] last y enough long = absurd (omega arith)
fields-refused (suc f) (b ∷ s) last y enough long =
    after (field_of (b ∷ s) last y) refl (λ next. fields-refused f (drop (field_size (b ∷ s)) (b ∷ s)) b next)
  where
    on : System → Reading
    on next = fields_from f (drop (field_size (b ∷ s)) (b ∷ s)) b next

    after : (x : Reading) → field_of (b ∷ s) last y ≡ x
        → ((next : System) → length (drop (field_size (b ∷ s)) (b ∷ s)) ≤ f → room b next < length (drop (field_size (b ∷ s)) (b ∷ s)) → (n : ℕ) × (on next ≡ unread n))
        → (n : ℕ) × (after_field x on ≡ unread n)
    after (unread n) q rest = (n, refl)
    after (opened next) q rest =
        let g = field-goes (b ∷ s) last y next q in
        let left = length-drop (field_size (b ∷ s)) (b ∷ s) in
        rest next (omega arith) (omega arith)

-- no file that opens is longer than all fields that the rules allow: a platform, a second kind, six types, their d, their q, their C and T, and their u and s there, 307 bytes
pub longest-is : longest_file ≡ 307
longest-is = refl

pub long-file-refused-card : (file : List ℕ) → longest_file < length file → (n : ℕ) × (read_card file ≡ unread n)
unfolding read_card
long-file-refused-card file long = fields-refused (length file) file 0 blank (le_refl (length file)) long

pub long-file-refused : (file : List ℕ) → longest_file < length file → (n : ℕ) × (read_file file ≡ unread n)
long-file-refused file long = let (n, e) = long-file-refused-card file long in (n, card-refused file n e)

-- A field in a cut

pub drop-take : {A : Type 0} (m n : ℕ) (l : List A) → drop m (take n l) ≡ take (n - m) (drop m l)
drop-take zero n l = simp unary_clauses
drop-take (suc m) n [] = ap (drop (suc m)) (take-nil n) ∙ sym (take-nil (n - suc m))
drop-take (suc m) zero (a ∷ l) = simp zero-sub
drop-take (suc m) (suc n) (a ∷ l) = simp unary_clauses (drop-take m n l)

module _ (n : ℕ) (s : List ℕ) where
  leb-take : (k : ℕ) → k ≤ n → leb k (length (take n s)) ≡ leb k (length s)
  leb-take k h = go (leb k (length s)) refl
    where
      go : (c : Bool) → leb k (length s) ≡ c → leb k (length (take n s)) ≡ c
      go true e = let l = leb-true k (length s) e in le-leb k (length (take n s)) (omega (arith, length-take n s))
      go false e = let l = leb-false k (length s) e in lt-leb k (length (take n s)) (omega (arith, length-take n s))

  module _ (wide : head_size ≤ n) where
    pub byte-take : (i : ℕ) → i < head_size → byte_at (take n s) i ≡ byte_at s i
    byte-take i h = get_or-take n s i 0 (omega arith)

    pub word-take : word2 (take n s) 1 ≡ word2 s 1
    word-take = rw (byte-take 1 (omega arith), byte-take 2 (omega arith))

    whole_take : field_size s ≤ n → whole_field (take n s) ≡ whole_field s
    whole_take h = rw (word-take, leb-take (field_size s) h)

    pub part-take : field_size s ≤ n → body_part (take n s) ≡ body_part s
    part-take h =
        rw (whole_take h, word-take, drop-take head_size n s)
        (ap (λ (l : List ℕ). cond (whole_field s) l []) (take-take (word2 s 1) (n - head_size) (drop head_size s) (omega arith)))

  -- a head is judged by the bytes before its body, and a body by what its rule says of its length
  module _ (wide : longest_field ≤ n) where
    all_in : (r : FieldRule) → IsRule r (byte_at s 0) → word2 s 1 ≡ r.body → field_size s ≤ n
    all_in r i size = omega (arith, size, longest i.which)
      where
        longest : OneOf r → ruled_size r ≤ longest_field
        longest (a-platform w) = rw w (lit≤ tt)
        longest (a-type w) = rw w (lit≤ tt)
        longest (a-data w) = rw w (lit≤ tt)
        longest (a-most w) = rw w (lit≤ tt)
        longest (a-pace w) = rw w (lit≤ tt)
        longest (a_second w) = rw w (lit≤ tt)
        longest (a-costs w) = rw w (lit≤ tt)

    head-take : (last : ℕ) → head_of (take n s) last ≡ head_of s last
    unfolding head_of ruled_head
    head-take last =
        rw (leb-take head_size (omega arith), byte-take (omega arith) 0 (omega arith), word-take (omega arith))
        (ap (cond {A = Result FieldRule ℕ} (not (headed_field s)) (Err 1)) (ruled (rule_of field_rules (byte_at s 0)) refl))
      where
        ruled : (x : Option FieldRule) → rule_of field_rules (byte_at s 0) ≡ x → ruled_head x (word2 s 1) (leb (field_size s) (length (take n s))) last ≡ ruled_head x (word2 s 1) (whole_field s) last
        ruled None q = refl
        ruled (Some r) q = ap (cond (not (may_follow follows last r.tag)) (Err 3)) (sized (eqb (word2 s 1) r.body) refl)
          where
            sized : (b : Bool) → eqb (word2 s 1) r.body ≡ b
                → cond {A = Result FieldRule ℕ} (not b) (Err 4) (cond (not (leb (field_size s) (length (take n s)))) (Err 1) (Ok r)) ≡ cond (not b) (Err 4) (cond (not (whole_field s)) (Err 1) (Ok r))
            sized false e = refl
            sized true e = rw (leb-take (field_size s) (all_in r (rule_of-known (byte_at s 0) r q) (eqb-true (word2 s 1) r.body e)))

    field-take : (last : ℕ) (y : System) → field_of (take n s) last y ≡ field_of s last y
    unfolding field_of ruled_field
    field-take last y = rw (head-take last) (judged (head_of s last) refl)
      where
        judged : (x : Result FieldRule ℕ) → head_of s last ≡ x → ruled_field x (body_part (take n s)) y ≡ ruled_field x (body_part s) y
        judged (Err m) q = refl
        judged (Ok r) q =
            let passed = head_of-ruled s last r q in
            ap (λ (b : List ℕ). body_of r b y) (part-take (omega arith) (all_in r passed.rule passed.length))

-- Readings of a cut

empty-take : (f g n : ℕ) (last : ℕ) (y : System) → fields_from f (take n []) last y ≡ fields_from g [] last y
empty-take f g n last y = ap (λ (s : List ℕ). fields_from f s last y) (take-nil n) ∙ fields_from-nil f last y ∙ sym (fields_from-nil g last y)

-- the two may have steps to spare
fields-take : (f g n : ℕ) (s : List ℕ) (last : ℕ) (y : System) → length (take n s) ≤ f → length s ≤ g → room last y + longest_field ≤ n
    → fields_from f (take n s) last y ≡ fields_from g s last y
unfolding fields_from
fields-take zero g n [] last y enough more wide = empty-take zero g n last y
fields-take zero g zero (b ∷ s) last y enough more wide = absurd (omega arith)
fields-take zero g (suc n) (b ∷ s) last y enough more wide = absurd (omega arith)
fields-take (suc f) g n [] last y enough more wide = empty-take (suc f) g n last y
fields-take (suc f) g zero (b ∷ s) last y enough more wide = absurd (omega arith)
fields-take (suc f) zero (suc n) (b ∷ s) last y enough more wide = absurd (omega arith)
fields-take (suc f) (suc g) (suc n) (b ∷ s) last y enough more wide =
    ap (λ (x : Reading). after_field x cut) (field-take (suc n) (b ∷ s) (omega arith) last y)
    ∙ after (field_of (b ∷ s) last y) refl (λ next. fields-take f g (suc n - size) (drop size (b ∷ s)) b next)
  where
    size : ℕ
    size = field_size (b ∷ s)

    cut : System → Reading
    cut next = fields_from f (drop (field_size (b ∷ take n s)) (b ∷ take n s)) b next

    on : System → Reading
    on next = fields_from g (drop size (b ∷ s)) b next

    place : drop (field_size (b ∷ take n s)) (b ∷ take n s) ≡ take (suc n - size) (drop size (b ∷ s))
    place = ap (λ (w : ℕ). drop (head_size + w) (b ∷ take n s)) (word-take (suc n) (b ∷ s) (omega arith)) ∙ drop-take size (suc n) (b ∷ s)

    fewer : length (drop size (b ∷ s)) ≤ g
    fewer = omega (arith, length-drop size (b ∷ s))

    fewer-cut : length (take (suc n - size) (drop size (b ∷ s))) ≤ f
    fewer-cut = omega (arith, ap length (sym (drop-take size (suc n) (b ∷ s))) ∙ length-drop size (b ∷ take n s))

    after : (x : Reading) → field_of (b ∷ s) last y ≡ x
        → ((next : System) → length (take (suc n - size) (drop size (b ∷ s))) ≤ f → length (drop size (b ∷ s)) ≤ g → room b next + longest_field ≤ suc n - size
        → fields_from f (take (suc n - size) (drop size (b ∷ s))) b next ≡ on next)
        → after_field x cut ≡ after_field x on
    after (unread m) q rest = refl
    after (opened next) q rest =
        let goes = field-goes (b ∷ s) last y next q in
        ap (λ (l : List ℕ). fields_from f l b next) place ∙ rest next fewer-cut fewer (omega arith)

-- a cut that leaves the longest file and one field more reads as the whole file
pub read-take-card : (n : ℕ) (file : List ℕ) → longest_file + longest_field ≤ n → read_card (take n file) ≡ read_card file
unfolding read_card
read-take-card n file wide = fields-take (length (take n file)) (length file) n file 0 blank (le_refl (length (take n file))) (le_refl (length file)) wide

pub read_take : (n : ℕ) (file : List ℕ) → longest_file + longest_field ≤ n → read_file (take n file) ≡ read_file file
unfolding read_file
read_take n file wide = ap of_one_kind (read-take-card n file wide)

-- document 01, with request 2026-14's 384 bytes: program `plan` "reads the first .. bytes of standard input (a longer file is refused by then)"
pub read-prefix-card : (file : List ℕ) → read_card (take file_bytes file) ≡ read_card file
read-prefix-card file = read-take-card file_bytes file (lit≤ tt)

pub read-prefix : (file : List ℕ) → read_file (take file_bytes file) ≡ read_file file
read-prefix file = read_take file_bytes file (lit≤ tt)

pub refused-by-then-card : (file : List ℕ) → file_bytes < length file → (n : ℕ) × (read_card (take file_bytes file) ≡ unread n)
refused-by-then-card file long = rw read-prefix-card (long-file-refused-card file (omega arith))

pub refused-by-then : (file : List ℕ) → file_bytes < length file → (n : ℕ) × (read_file (take file_bytes file) ≡ unread n)
refused-by-then file long = rw read-prefix (long-file-refused file (omega arith))
