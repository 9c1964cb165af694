-- "Fields are judged in file order": what a beginning of a file is refused with stands, whatever follows, but for a cut (1) and the end (9, 41, 10; 42 where one kind of engine is wanted); and the first field, byte by byte.
-- All is said of a card, of one kind or two: where one kind is wanted the refusals are the same (`card-refused` of `Laws`).
use Rattle.std.proofs.Common.{Option, Some, None, Result, Ok, Err}
use Rattle.system.specs.declared.FieldRule.{FieldRule}
use Prim.Native.Nat.{ℕ, zero, suc, ◌+◌, ◌-◌, ◌*◌, ◌≤◌, ◌<◌}
use native.Mathlib.Omega.{arith}
use native.Mathlib.Nat.{le_refl}
use mathlib.Core.List.{List, [], ◌∷◌}
use mathlib.Core.Bool.{Bool, true, false, not, cond, ◌||◌}
use mathlib.Core.Path.{◌≡◌, refl, sym, ap, ◌∙◌}
use mathlib.Core.Logic.{◌⊎◌, ⊎_elim}
use borrow.Author.Tests.{leb-true, leb-false, le-leb, lt-leb, ne_eqb}
use lib.ListN.{length, take, drop, length-take, length-drop}
use lib.Seq.{take-nil}
use lib.Dec.{leb, eqb}
use Rattle.system.specs.declared.System.{System}
use Rattle.system.specs.Values.{blank, with_platform, ceilings_of}
use Rattle.system.specs.Limits.{or_else, column_limit, columns_of, is_one_kind, kinds_agree, kinds_fault, platform_fault, columns_fault}
use Rattle.system.specs.Rules.{platform_rule, field_rules, rule_of, follows, may_follow, head_size}
use Rattle.system.specs.Layout.{Reading, opened, unread, byte_at, word2, field_size, headed_field, whole_field, body_part, platform_from}
use Rattle.system.specs.Layout.{unless_fault, ruled_head, head_of, body_of, ruled_field, field_of, end_of, after_field, fields_from, read_card, read_file}
use Rattle.system.specs.Fields.{four_bytes, FirstField}
use Rattle.system.proofs.Laws.{head_of-ruled, fields_from-nil, card-refused, Mixed, file-refused}
use Rattle.system.proofs.Prefix.{field-goes, drop-take, byte-take, word-take, part-take}

-- the end is refused 9, 41 or 10 alone
end-only : (last : ℕ) (y : System) (k : ℕ) → end_of last y ≡ unread k → (k ≡ 9 → ⊥) → (k ≡ 41 → ⊥) → (k ≡ 10 → ⊥) → ⊥
unfolding end_of
end-only last y k e not9 not41 not10 = ended (eqb last 0 || eqb y.typecount 0) e
  where
    judged : (f : ℕ) (b c : Bool) → f ≡ or_else (cond (not b) 41 0) (cond (not c) 10 0) → unless_fault f y ≡ unread k → ⊥
    judged f true true is e = let z : ◌≡◌ {A = ℕ} 0 1 = let e0 : unless_fault 0 y ≡ unread k = rw is at e in cc in absurd (omega arith)
    judged f true false is e = let same : k ≡ 10 = let e0 : unless_fault 10 y ≡ unread k = rw is at e in cc in not10 same
    judged f false c is e = let same : k ≡ 41 = let e0 : unless_fault 41 y ≡ unread k = rw is at e in cc in not41 same

    ended : (b : Bool) → cond b (unread 9) (unless_fault (or_else (kinds_fault y) (columns_fault y.types)) y) ≡ unread k → ⊥
    ended true e = let same : k ≡ 9 = cc in not9 same
    ended false e =
        judged (or_else (kinds_fault y) (columns_fault y.types)) (kinds_agree (is_one_kind y.second) y.typecount y.types) (leb (columns_of (ceilings_of y)) column_limit) refl e

-- a head that is not cut is judged alike with more bytes after it
whole-more : (x : Option FieldRule) (size : ℕ) (a c : Bool) (last : ℕ) (h : Result FieldRule ℕ) → (a ≡ true → c ≡ true) → ruled_head x size a last ≡ h → (h ≡ Err 1 → ⊥) → ruled_head x size c last ≡ h
unfolding ruled_head
whole-more None size a c last h more e uncut = e
whole-more (Some r) size true c last h more e uncut = rw (more refl) e
whole-more (Some r) size false c last h more e uncut = placed (may_follow follows last r.tag) (eqb size r.body) e
  where
    placed : (p q : Bool) → cond (not p) (Err 3) (cond (not q) (Err 4) (Err 1)) ≡ h → cond (not p) (Err 3) (cond (not q) (Err 4) (cond (not c) (Err 1) (Ok r))) ≡ h
    placed false q e = e
    placed true false e = e
    placed true true e = absurd (uncut (sym e))

module _ (n : ℕ) (s : List ℕ) where
  shorter : length (take n s) ≤ length s
  shorter = omega (arith, length-take n s)

  within : length (take n s) ≤ n
  within = omega (arith, length-take n s)

  head_more : (last : ℕ) (h : Result FieldRule ℕ) → head_of (take n s) last ≡ h → (h ≡ Err 1 → ⊥) → head_of s last ≡ h
  unfolding head_of
  head_more last h e uncut = headed (headed_field (take n s)) refl e
    where
      headed : (c : Bool) → headed_field (take n s) ≡ c
          → cond (not c) (Err 1) (ruled_head (rule_of field_rules (byte_at (take n s) 0)) (word2 (take n s) 1) (whole_field (take n s)) last) ≡ h → head_of s last ≡ h
      headed false q e = absurd (uncut (sym e))
      headed true q e =
          let long = leb-true head_size (length (take n s)) q in
          let wide : head_size ≤ n = omega (arith, within) in
          let front = leb (field_size s) (length (take n s)) in
          let more : front ≡ true → whole_field s ≡ true = λ w. le-leb (field_size s) (length s) (omega (arith, leb-true (field_size s) (length (take n s)) w, shorter)) in
          let same : ruled_head (rule_of field_rules (byte_at s 0)) (word2 s 1) front last ≡ h =
          rw (byte-take n s wide 0 (omega arith), word-take n s wide) at e in
          rw (le-leb head_size (length s) (omega (arith, shorter)))
          (whole-more (rule_of field_rules (byte_at s 0)) (word2 s 1) front (whole_field s) last h more same uncut)

  field-more : (last : ℕ) (y : System) (x : Reading) → field_of (take n s) last y ≡ x → (x ≡ unread 1 → ⊥) → field_of s last y ≡ x
  unfolding field_of ruled_field
  field-more last y x e uncut = judged (head_of (take n s) last) refl e
    where
      judged : (h : Result FieldRule ℕ) → head_of (take n s) last ≡ h → ruled_field h (body_part (take n s)) y ≡ x → field_of s last y ≡ x
      judged (Err m) q e =
          ap (λ (h : Result FieldRule ℕ). ruled_field h (body_part s) y) (head_more last (Err m) q (λ is. let one : m ≡ 1 = cc in uncut (sym e ∙ ap unread one))) ∙ e
      judged (Ok r) q e =
          let passed = head_of-ruled (take n s) last r q in
          let inside = leb-true (field_size (take n s)) (length (take n s)) passed.whole in
          let wide : head_size ≤ n = omega (arith, within) in
          let all : field_size s ≤ n = omega (arith, word-take n s wide, within) in
          ap (λ (h : Result FieldRule ℕ). ruled_field h (body_part s) y) (head_more last (Ok r) q (λ is. let z : ◌≡◌ {A = ℕ} 0 1 = cc in absurd (omega arith)))
          ∙ ap (λ (b : List ℕ). body_of r b y) (sym (part-take n s wide all))
          ∙ e

-- the number stands
module _ (k : ℕ) (not1 : k ≡ 1 → ⊥) (not9 : k ≡ 9 → ⊥) (not41 : k ≡ 41 → ⊥) (not10 : k ≡ 10 → ⊥) where
  none_left : (f : ℕ) (s : List ℕ) (last : ℕ) (y : System) → s ≡ [] → fields_from f s last y ≡ unread k → ⊥
  none_left f s last y none e = end-only last y k (sym (ap (λ (l : List ℕ). fields_from f l last y) none ∙ fields_from-nil f last y) ∙ e) not9 not41 not10

  fields-more : (f g n : ℕ) (s : List ℕ) (last : ℕ) (y : System) → length (take n s) ≤ f → length s ≤ g → fields_from f (take n s) last y ≡ unread k → fields_from g s last y ≡ unread k
  unfolding fields_from
  fields-more zero g n [] last y enough more e = absurd (none_left zero (take n []) last y (take-nil n) e)
  fields-more zero g zero (b ∷ s) last y enough more e = absurd (none_left zero [] last y refl e)
  fields-more zero g (suc n) (b ∷ s) last y enough more e = absurd (omega arith)
  fields-more (suc f) g n [] last y enough more e = absurd (none_left (suc f) (take n []) last y (take-nil n) e)
  fields-more (suc f) g zero (b ∷ s) last y enough more e = absurd (none_left (suc f) [] last y refl e)
  fields-more (suc f) zero (suc n) (b ∷ s) last y enough more e = absurd (omega arith)
  fields-more (suc f) (suc g) (suc n) (b ∷ s) last y enough more e =
      after (field_of (b ∷ take n s) last y) refl (λ next. fields-more f g (suc n - size) (drop size (b ∷ s)) b next) e
    where
      size : ℕ
      size = field_size (b ∷ s)

      cut : System → Reading
      cut next = fields_from f (drop (field_size (b ∷ take n s)) (b ∷ take n s)) b next

      on : System → Reading
      on next = fields_from g (drop size (b ∷ s)) b next

      after : (x : Reading) → field_of (b ∷ take n s) last y ≡ x
          → ((next : System) → length (take (suc n - size) (drop size (b ∷ s))) ≤ f → length (drop size (b ∷ s)) ≤ g
          → fields_from f (take (suc n - size) (drop size (b ∷ s))) b next ≡ unread k → on next ≡ unread k)
          → after_field x cut ≡ unread k → after_field (field_of (b ∷ s) last y) on ≡ unread k
      after (unread m) q rest e =
          let same : m ≡ k = cc in
          ap (λ (x : Reading). after_field x on) (field-more (suc n) (b ∷ s) last y (unread m) q (λ is. let one : m ≡ 1 = cc in not1 (sym same ∙ one))) ∙ e
      after (opened next) q rest e =
          let goes = field-goes (b ∷ take n s) last y next q in
          let wide : head_size ≤ suc n = omega (arith, goes.inside, within (suc n) (b ∷ s)) in
          let place : drop (field_size (b ∷ take n s)) (b ∷ take n s) ≡ take (suc n - size) (drop size (b ∷ s)) =
          ap (λ (w : ℕ). drop (head_size + w) (b ∷ take n s)) (word-take (suc n) (b ∷ s) wide) ∙ drop-take size (suc n) (b ∷ s) in
          let fewer : length (drop size (b ∷ s)) ≤ g = omega (arith, length-drop size (b ∷ s)) in
          let fewer-cut : length (take (suc n - size) (drop size (b ∷ s))) ≤ f =
          omega (arith, ap length (sym (drop-take size (suc n) (b ∷ s))) ∙ length-drop size (b ∷ take n s)) in
          ap (λ (x : Reading). after_field x on) (field-more (suc n) (b ∷ s) last y (opened next) q (λ is. let z : ◌≡◌ {A = ℕ} 0 1 = cc in absurd (omega arith)))
          ∙ rest next fewer-cut fewer (sym (ap (λ (l : List ℕ). fields_from f l b next) place) ∙ e)

pub file-order-card : (n : ℕ) (file : List ℕ) (k : ℕ) → read_card (take n file) ≡ unread k → (k ≡ 1 → ⊥) → (k ≡ 9 → ⊥) → (k ≡ 41 → ⊥) → (k ≡ 10 → ⊥) → read_card file ≡ unread k
unfolding read_card
file-order-card n file k e not1 not9 not41 not10 =
    fields-more k not1 not9 not41 not10 (length (take n file)) (length file) n file 0 blank (le_refl (length (take n file))) (le_refl (length file)) e

pub file-order : (n : ℕ) (file : List ℕ) (k : ℕ) → read_file (take n file) ≡ unread k → (k ≡ 1 → ⊥) → (k ≡ 9 → ⊥) → (k ≡ 41 → ⊥) → (k ≡ 10 → ⊥) → (k ≡ 42 → ⊥) → read_file file ≡ unread k
file-order n file k e not1 not9 not41 not10 not42 =
    ⊎_elim (λ (card : read_card (take n file) ≡ unread k). card-refused file k (file-order-card n file k card not1 not9 not41 not10))
    (λ (m : Mixed (read_card (take n file)) k). absurd (not42 m.number)) (file-refused (take n file) k e)

-- "in one field: .. then 5, 6, 8": a platform at the file's start, byte by byte, whatever follows it

first_stops : (b : ℕ) (s : List ℕ) (k : ℕ) → field_of (b ∷ s) 0 blank ≡ unread k → read_card (b ∷ s) ≡ unread k
unfolding read_card fields_from
first_stops b s k e = ap (λ (x : Reading). after_field x (λ (next : System). fields_from (length s) (drop (field_size (b ∷ s)) (b ∷ s)) b next)) e

module _ (m r u1 u2 u3 u4 s1 s2 s3 s4 : ℕ) (rest : List ℕ) where
  abbrev pub platform_file : List ℕ
  platform_file = 1 ∷ 0 ∷ 10 ∷ m ∷ r ∷ u1 ∷ u2 ∷ u3 ∷ u4 ∷ s1 ∷ s2 ∷ s3 ∷ s4 ∷ rest

  abbrev pub size_u : ℕ
  size_u = (u1 * 256 + u2) * 65536 + (u3 * 256 + u4)

  abbrev pub size_s : ℕ
  size_s = (s1 * 256 + s2) * 65536 + (s3 * 256 + s4)

  first_head : head_of platform_file 0 ≡ Ok platform_rule
  unfolding rule_of head_of ruled_head
  first_head = rw (le-leb head_size (length platform_file) (omega arith), le-leb 13 (length platform_file) (omega arith))

  first_body : body_of platform_rule (body_part platform_file) blank ≡ unless_fault (platform_fault m r size_u size_s) (with_platform m r size_u size_s blank)
  unfolding body_of platform_from
  first_body = rw (le-leb 13 (length platform_file) (omega arith))

  pub first_field : field_of platform_file 0 blank ≡ unless_fault (platform_fault m r size_u size_s) (with_platform m r size_u size_s blank)
  unfolding field_of ruled_field
  first_field = ap (λ (h : Result FieldRule ℕ). ruled_field h (body_part platform_file) blank) first_head ∙ first_body

  first-fault : (k : ℕ) → eqb k 0 ≡ false → platform_fault m r size_u size_s ≡ k → read_card platform_file ≡ unread k
  first-fault k some e =
      first_stops 1 (0 ∷ 10 ∷ m ∷ r ∷ u1 ∷ u2 ∷ u3 ∷ u4 ∷ s1 ∷ s2 ∷ s3 ∷ s4 ∷ rest) k
      (first_field ∙ ap (λ (n : ℕ). unless_fault n (with_platform m r size_u size_s blank)) e ∙ rw some)

  pub five-none : m ≡ 0 → read_card platform_file ≡ unread 5
  five-none none = first-fault 5 refl (rw (lt-leb 1 m (omega arith)))

  pub five-many : 16 < m → read_card platform_file ≡ unread 5
  five-many many = first-fault 5 refl (rw (le-leb 1 m (omega arith), lt-leb m 16 many))

  pub then-six : 1 ≤ m → m ≤ 16 → 1 < r → read_card platform_file ≡ unread 6
  then-six low high over = first-fault 6 refl (rw (le-leb 1 m low, le-leb m 16 high, lt-leb r 1 over))

  pub then-eight-time : 1 ≤ m → m ≤ 16 → r ≤ 1 → 1000000 < size_u → read_card platform_file ≡ unread 8
  then-eight-time low high one over = first-fault 8 refl (rw (le-leb 1 m low, le-leb m 16 high, le-leb r 1 one, lt-leb size_u 1000000 over))

  pub then-eight-memory : 1 ≤ m → m ≤ 16 → r ≤ 1 → size_u ≤ 1000000 → 1000000 < size_s → read_card platform_file ≡ unread 8
  then-eight-memory low high one small over =
      first-fault 8 refl (rw (le-leb 1 m low, le-leb m 16 high, le-leb r 1 one, le-leb size_u 1000000 small, lt-leb size_s 1000000 over))

-- "start cut (1), 2, 3, 4, body cut (1)": the head of the first field, whatever follows it

pub first-one-byte : (a : ℕ) → read_card (a ∷ []) ≡ unread 1
first-one-byte a = first_stops a [] 1 (unfold field_of ruled_field head_of in refl)

pub first-two-bytes : (a b : ℕ) → read_card (a ∷ b ∷ []) ≡ unread 1
first-two-bytes a b = first_stops a (b ∷ []) 1 (unfold field_of ruled_field head_of in refl)

module _ (h l : ℕ) (rest : List ℕ) where
  pub starts : (t : ℕ) → leb head_size (length (t ∷ h ∷ l ∷ rest)) ≡ true
  starts t = le-leb head_size (length (t ∷ h ∷ l ∷ rest)) (omega arith)

  no-tag-field : (t : ℕ) → (t ≡ 1 → ⊥) → (t ≡ 2 → ⊥) → (t ≡ 3 → ⊥) → (t ≡ 4 → ⊥) → (t ≡ 5 → ⊥) → (t ≡ 6 → ⊥) → (t ≡ 7 → ⊥) → field_of (t ∷ h ∷ l ∷ rest) 0 blank ≡ unread 2
  unfolding field_of ruled_field head_of ruled_head rule_of
  no-tag-field t a b c d e f g =
      rw (
        starts t,
        ne_eqb 1 t (λ z. a (sym z)),
        ne_eqb 2 t (λ z. b (sym z)),
        ne_eqb 3 t (λ z. c (sym z)),
        ne_eqb 4 t (λ z. d (sym z)),
        ne_eqb 5 t (λ z. e (sym z)),
        ne_eqb 6 t (λ z. f (sym z)),
        ne_eqb 7 t (λ z. g (sym z)),
      )

  pub first-no-tag : (t : ℕ) → (t ≡ 1 → ⊥) → (t ≡ 2 → ⊥) → (t ≡ 3 → ⊥) → (t ≡ 4 → ⊥) → (t ≡ 5 → ⊥) → (t ≡ 6 → ⊥) → (t ≡ 7 → ⊥) → read_card (t ∷ h ∷ l ∷ rest) ≡ unread 2
  first-no-tag t a b c d e f g = first_stops t (h ∷ l ∷ rest) 2 (no-tag-field t a b c d e f g)

  later-field : (field_of (2 ∷ h ∷ l ∷ rest) 0 blank ≡ unread 3) × (field_of (3 ∷ h ∷ l ∷ rest) 0 blank ≡ unread 3) × (field_of (4 ∷ h ∷ l ∷ rest) 0 blank ≡ unread 3)
      × (field_of (5 ∷ h ∷ l ∷ rest) 0 blank ≡ unread 3) × (field_of (6 ∷ h ∷ l ∷ rest) 0 blank ≡ unread 3) × (field_of (7 ∷ h ∷ l ∷ rest) 0 blank ≡ unread 3)
  unfolding field_of ruled_field head_of ruled_head rule_of
  later-field = (rw (starts 2), rw (starts 3), rw (starts 4), rw (starts 5), rw (starts 6), rw (starts 7))

  pub first-no-platform : (read_card (2 ∷ h ∷ l ∷ rest) ≡ unread 3) × (read_card (3 ∷ h ∷ l ∷ rest) ≡ unread 3) × (read_card (4 ∷ h ∷ l ∷ rest) ≡ unread 3)
      × (read_card (5 ∷ h ∷ l ∷ rest) ≡ unread 3) × (read_card (6 ∷ h ∷ l ∷ rest) ≡ unread 3) × (read_card (7 ∷ h ∷ l ∷ rest) ≡ unread 3)
  first-no-platform =
      let p = later-field in
      let on : List ℕ = h ∷ l ∷ rest in
      (first_stops 2 on 3 p.0, first_stops 3 on 3 p.1, first_stops 4 on 3 p.2, first_stops 5 on 3 p.3, first_stops 6 on 3 p.4, first_stops 7 on 3 p.5)

  length-field : (h * 256 + l ≡ 10 → ⊥) → field_of (1 ∷ h ∷ l ∷ rest) 0 blank ≡ unread 4
  unfolding field_of ruled_field head_of ruled_head rule_of
  length-field n = rw (starts 1, ne_eqb (h * 256 + l) 10 n)

  pub first-length : (h * 256 + l ≡ 10 → ⊥) → read_card (1 ∷ h ∷ l ∷ rest) ≡ unread 4
  first-length n = first_stops 1 (h ∷ l ∷ rest) 4 (length-field n)

cut_field : (rest : List ℕ) → length rest < 10 → field_of (1 ∷ 0 ∷ 10 ∷ rest) 0 blank ≡ unread 1
unfolding field_of ruled_field head_of ruled_head rule_of
cut_field rest short = rw (starts 0 10 rest 1, lt-leb 13 (length (1 ∷ 0 ∷ 10 ∷ rest)) (omega arith))

pub first-body-cut : (rest : List ℕ) → length rest < 10 → read_card (1 ∷ 0 ∷ 10 ∷ rest) ≡ unread 1
first-body-cut rest short = first_stops 1 (0 ∷ 10 ∷ rest) 1 (cut_field rest short)

-- all of them, as `Fields` of the specs says it

no-platform-at : (t h l : ℕ) (rest : List ℕ) → 2 ≤ t → t ≤ 7 → read_card (t ∷ h ∷ l ∷ rest) ≡ unread 3
no-platform-at t h l rest low high = at (t - 2) (omega arith) (omega arith)
  where
    p : (read_card (2 ∷ h ∷ l ∷ rest) ≡ unread 3) × (read_card (3 ∷ h ∷ l ∷ rest) ≡ unread 3) × (read_card (4 ∷ h ∷ l ∷ rest) ≡ unread 3)
        × (read_card (5 ∷ h ∷ l ∷ rest) ≡ unread 3) × (read_card (6 ∷ h ∷ l ∷ rest) ≡ unread 3) × (read_card (7 ∷ h ∷ l ∷ rest) ≡ unread 3)
    p = first-no-platform h l rest

    at : (i : ℕ) → t ≡ 2 + i → i ≤ 5 → read_card (t ∷ h ∷ l ∷ rest) ≡ unread 3
    at zero e few = rw e p.0
    at (suc zero) e few = rw e p.1
    at (suc (suc zero)) e few = rw e p.2
    at (suc (suc (suc zero))) e few = rw e p.3
    at (suc (suc (suc (suc zero)))) e few = rw e p.4
    at (suc (suc (suc (suc (suc zero))))) e few = rw e p.5
    at (suc (suc (suc (suc (suc (suc i)))))) e few = absurd (omega arith)

pub first-refusals : FirstField
first-refusals =
    record {
      one_byte = first-one-byte;
      two_bytes_lem = first-two-bytes;
      no-tag = λ t h l rest. first-no-tag h l rest t;
      no-platform = no-platform-at;
      platform-length = first-length;
      platform-cut = first-body-cut;
      engines = λ m r u1 u2 u3 u4 s1 s2 s3 s4 rest. ⊎_elim (five-none m r u1 u2 u3 u4 s1 s2 s3 s4 rest) (five-many m r u1 u2 u3 u4 s1 s2 s3 s4 rest);
      rule = then-six;
      size = eight;
    }
  where
    eight : (m r u1 u2 u3 u4 s1 s2 s3 s4 : ℕ) (rest : List ℕ) → 1 ≤ m → m ≤ 16 → r ≤ 1 → (1000000 < four_bytes u1 u2 u3 u4) ⊎ (1000000 < four_bytes s1 s2 s3 s4)
        → read_card (platform_file m r u1 u2 u3 u4 s1 s2 s3 s4 rest) ≡ unread 8
    eight m r u1 u2 u3 u4 s1 s2 s3 s4 rest low high one large = small (leb (four_bytes u1 u2 u3 u4) 1000000) refl
      where
        small : (b : Bool) → leb (four_bytes u1 u2 u3 u4) 1000000 ≡ b → read_card (platform_file m r u1 u2 u3 u4 s1 s2 s3 s4 rest) ≡ unread 8
        small false e = then-eight-time m r u1 u2 u3 u4 s1 s2 s3 s4 rest low high one (leb-false (four_bytes u1 u2 u3 u4) 1000000 e)
        small true e =
            let time = leb-true (four_bytes u1 u2 u3 u4) 1000000 e in
            then-eight-memory m r u1 u2 u3 u4 s1 s2 s3 s4 rest low high one time (⊎_elim (λ over. absurd (omega arith)) (λ over. over) large)
