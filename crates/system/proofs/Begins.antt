-- How wide the beginnings of `Fields` are, and the field step in plain bytes. After a beginning, or at the file's start, the next field is refused by one of the laws of `Fields`, by a number that no file's end has,
-- or it is whole and gives a longer beginning: each of the laws' premises is a comparison of numbers, which holds or does not. So a file that is read to its end is a beginning after each of its fields.
use Prim.Native.Nat.{ℕ, zero, suc, ◌+◌, ◌*◌, ◌≤◌, ◌<◌}
use native.Mathlib.Omega.{arith}
use mathlib.Core.List.{List, [], ◌∷◌, ◌++◌, append_assoc, append-nil}
use mathlib.Core.Bool.{Bool, true, false, cond, ◌||◌, false≢true}
use mathlib.Core.Path.{◌≡◌, refl, sym, ap, ◌∙◌, subst}
use mathlib.Core.Logic.{◌⊎◌, inl, inr, ⊎_elim}
use borrow.Author.Tests.{leb-true, leb-false, eqb-true, eqb-false, le-leb, lt-leb}
use lib.ListN.{length, take, drop, length-append, length-drop, take-append-drop, drop_of_length-le}
use lib.Seq.{take-append_seam, drop-append_seam, length-take-le}
use lib.Dec.{leb, eqb}
use Rattle.system.specs.declared.Field.{Field}
use Rattle.system.specs.Inner.{part_of}
use Rattle.system.specs.Rules.{head_size}
use Rattle.system.proofs.Laws.{body_is}
use Rattle.system.specs.Layout.{opened, unread, byte_at, word2, field_size, headed_field, whole_field, body_part, field_at, tag_at, length_at, body_at, next_at, read_card}
use Rattle.system.specs.Fields.{two_bytes, four_bytes, MayData, MayMost, MayPace, MayCosts, PaceWithin, AllOrNone, NextField, FileEnd}
use Rattle.system.specs.Fields.{Beginning, a-platform, then-second, then-type, then-data, then-most, then-pace, then-costs, WholeFields, a-field, then-fields, AtEnd, Begun, Beginnings}
use Rattle.system.specs.Fields.{StandsAt, whole-field, body-cut, two_bytes_lem, one_byte, past_end, FieldStep}
use Rattle.system.proofs.Order.{first-refusals}
use Rattle.system.proofs.Later.{later-fields}

-- A comparison holds or does not

same : (a b : ℕ) → (a ≡ b) ⊎ (a ≡ b → ⊥)
same a b = go (eqb a b) refl
  where
    go : (t : Bool) → eqb a b ≡ t → (a ≡ b) ⊎ (a ≡ b → ⊥)
    go true e = inl (eqb-true a b e)
    go false e = inr (eqb-false a b e)

within : (a b : ℕ) → (a ≤ b) ⊎ (b < a)
within a b = go (leb a b) refl
  where
    go : (t : Bool) → leb a b ≡ t → (a ≤ b) ⊎ (b < a)
    go true e = inl (leb-true a b e)
    go false e = inr (leb-false a b e)

may-data : (last : ℕ) → MayData last ⊎ (MayData last → ⊥)
may-data last = same last 2

-- one of two
either : {A B : Type 0} → A ⊎ (A → ⊥) → B ⊎ (B → ⊥) → (A ⊎ B) ⊎ (A ⊎ B → ⊥)
either (inl a) b = inl (inl a)
either (inr a) (inl b) = inl (inr b)
either (inr a) (inr b) = inr (⊎_elim a b)

may-most : (last : ℕ) → MayMost last ⊎ (MayMost last → ⊥)
may-most last = either (same last 2) (same last 3)

may-pace : (last : ℕ) → MayPace last ⊎ (MayPace last → ⊥)
may-pace last = either (same last 2) (either (same last 3) (same last 4))

may-costs : (last : ℕ) → MayCosts last ⊎ (MayCosts last → ⊥)
may-costs last = either (same last 2) (either (same last 3) (either (same last 4) (same last 5)))

-- two sizes are within the limit, or one is not
sizes : (a b : ℕ) → ((a ≤ 1000000) × (b ≤ 1000000)) ⊎ ((1000000 < a) ⊎ (1000000 < b))
sizes a b = ⊎_elim (λ low. ⊎_elim (λ also. inl (low, also)) (λ over. inr (inr over)) (within b 1000000)) (λ over. inr (inl over)) (within a 1000000)

pace-within : (whole u c t : ℕ) → PaceWithin whole u c t ⊎ (PaceWithin whole u c t → ⊥)
pace-within whole u c t =
    ⊎_elim
    (λ some. ⊎_elim
    (λ runs. ⊎_elim
    (λ high. ⊎_elim
    (λ none. inr (λ w. w.some none))
    (λ time. ⊎_elim
    (λ share. inl (record { run = (some, omega arith); period = (omega arith, high); runs = runs; some = time; share = share }))
    (λ n. inr (λ w. let s = w.share in absurd (omega arith)))
    (within (c * whole) (u * t)))
    (same whole 0))
    (λ n. inr (λ w. let s = w.period.1 in absurd (omega arith)))
    (within t 65535))
    (λ n. inr (λ w. let s = w.runs in absurd (omega arith)))
    (within c t))
    (λ n. inr (λ w. let s = w.run.0 in absurd (omega arith)))
    (within 1 c)

-- The first bytes of a list that is long enough

two-first : (r : List ℕ) → 2 ≤ length r → (P : List ℕ → Type 0) → ((a b : ℕ) (s : List ℕ) → length r ≡ 2 + length s → P (a ∷ b ∷ s)) → P r
two-first [] long P on = absurd (omega arith)
two-first (a ∷ []) long P on = absurd (omega arith)
two-first (a ∷ b ∷ s) long P on = on a b s (omega arith)

four-first : (r : List ℕ) → 4 ≤ length r → (P : List ℕ → Type 0) → ((a b c d : ℕ) (s : List ℕ) → length r ≡ 4 + length s → P (a ∷ b ∷ c ∷ d ∷ s)) → P r
four-first r long P on =
    two-first r (omega arith) P (λ a b s e. two-first s (omega arith) (λ x. P (a ∷ b ∷ x)) (λ c d s2 e2. on a b c d s2 (omega arith)))

eight-first : (r : List ℕ) → 8 ≤ length r → (P : List ℕ → Type 0)
    → ((a b c d e f g h : ℕ) (s : List ℕ) → length r ≡ 8 + length s → P (a ∷ b ∷ c ∷ d ∷ e ∷ f ∷ g ∷ h ∷ s)) → P r
eight-first r long P on =
    four-first r (omega arith) P (λ a b c d s x. four-first s (omega arith) (λ z. P (a ∷ b ∷ c ∷ d ∷ z)) (λ e f g h s2 x2. on a b c d e f g h s2 (omega arith)))

-- One field

-- refused, by a number that no file's end has
abbrev end_number : ℕ → Bool
end_number n = eqb n 9 || eqb n 41 || eqb n 10

record Stops (file : List ℕ) : Type 0 where
  number : ℕ
  read : read_card file ≡ unread number
  inside : end_number number ≡ false

-- so the file is not read to its end
not-at-end : {file : List ℕ} → Stops file → AtEnd (read_card file) → ⊥
not-at-end {file = file} s (inl (y, e)) = let z : ◌≡◌ {A = ℕ} 0 1 = let both : unread s.number ≡ opened y = sym s.read ∙ e in cc in absurd (omega arith)
not-at-end {file = file} s (inr at) = ⊎_elim (no_end 9 refl) (⊎_elim (no_end 41 refl) (no_end 10 refl)) at
  where
    no_end : (n : ℕ) → end_number n ≡ true → read_card file ≡ unread n → ⊥
    no_end n is e = let is-n : s.number ≡ n = let both : unread s.number ≡ unread n = sym s.read ∙ e in cc in false≢true (sym s.inside ∙ ap end_number is-n ∙ is)

-- it is refused, or it is whole and makes a longer beginning
data Step (p : List ℕ) (t h l : ℕ) (r : List ℕ) : Type 0 where
  stops : Stops (p ++ (t ∷ h ∷ l ∷ r)) → Step p t h l r
  goes : two_bytes h l ≤ length r → Begun (p ++ (t ∷ h ∷ l ∷ take (two_bytes h l) r)) t → Step p t h l r

stops-with : {p r : List ℕ} {t h l : ℕ} (n : ℕ) → end_number n ≡ false → read_card (p ++ (t ∷ h ∷ l ∷ r)) ≡ unread n → Step p t h l r
stops-with n inside e = stops (record { number = n; read = e; inside = inside })

-- a length below 256 has 0 in its first byte
sized : {p r : List ℕ} {t h l : ℕ} (n : ℕ) → n < 256 → two_bytes h l ≡ n → Step p t 0 n r → Step p t h l r
sized {h = h} {l = l} n small e step = let high : h ≡ 0 = omega arith in let low : l ≡ n = omega arith in rw (high, low) step

-- after a beginning
module _ (p : List ℕ) (last k c m kinds w whole u : ℕ) (before : Beginning p last k c m kinds w whole u) where
  next : NextField p last k m whole u
  next = later-fields.next_field p last k c m kinds w whole u before

  -- a longer beginning
  begun : {q : List ℕ} {t k2 c2 m2 kinds2 w2 whole2 u2 : ℕ} → Beginning q t k2 c2 m2 kinds2 w2 whole2 u2 → Begun q t
  begun {k2 = k2} {c2 = c2} {m2 = m2} {kinds2 = kinds2} {w2 = w2} {whole2 = whole2} {u2 = u2} b =
      record { k = k2; c = c2; m = m2; kinds = kinds2; w = w2; whole = whole2; u = u2; is = b }

  type-whole : (u1 u2 u3 u4 s1 s2 s3 s4 n1 n2 : ℕ) (r : List ℕ) → Step p 2 0 10 (u1 ∷ u2 ∷ u3 ∷ u4 ∷ s1 ∷ s2 ∷ s3 ∷ s4 ∷ n1 ∷ n2 ∷ r)
  type-whole u1 u2 u3 u4 s1 s2 s3 s4 n1 n2 r =
      ⊎_elim
      (λ six. stops-with 7 refl (next.seventh-type u1 u2 u3 u4 s1 s2 s3 s4 n1 n2 r six))
      (λ room. ⊎_elim
      (λ kept. goes (omega arith) (begun (then-type p last k c m kinds w whole u u1 u2 u3 u4 s1 s2 s3 s4 n1 n2 before room kept.0 kept.1)))
      (λ large. stops-with 8 refl (next.type-size u1 u2 u3 u4 s1 s2 s3 s4 n1 n2 r room large))
      (sizes (four_bytes u1 u2 u3 u4) (four_bytes s1 s2 s3 s4)))
      (within 6 k)

  type-step : (h l : ℕ) (r : List ℕ) → Step p 2 h l r
  type-step h l r =
      ⊎_elim
      (λ size. sized 10 (omega arith) size (⊎_elim
      (λ long. eight-first r (omega arith) (Step p 2 0 10) (λ u1 u2 u3 u4 s1 s2 s3 s4 s e. two-first s (omega arith) (λ x. Step p 2 0 10 (u1 ∷ u2 ∷ u3 ∷ u4 ∷ s1 ∷ s2 ∷ s3 ∷ s4 ∷ x)) (λ n1 n2 x e2. type-whole u1 u2 u3 u4 s1 s2 s3 s4 n1 n2 x)))
      (λ short. stops-with 1 refl (next.type-cut r short))
      (within 10 (length r))))
      (λ n. stops-with 4 refl (next.type-length h l r n))
      (same (two_bytes h l) 10)

  data-whole : (d1 d2 d3 d4 : ℕ) (r : List ℕ) → MayData last → Step p 3 0 4 (d1 ∷ d2 ∷ d3 ∷ d4 ∷ r)
  data-whole d1 d2 d3 d4 r may =
      ⊎_elim
      (λ small. goes (omega arith) (begun (then-data p last k c m kinds w whole u d1 d2 d3 d4 before may small)))
      (λ large. stops-with 8 refl (next.data-size d1 d2 d3 d4 r may large))
      (within (four_bytes d1 d2 d3 d4) 1000000)

  data-step : (h l : ℕ) (r : List ℕ) → Step p 3 h l r
  data-step h l r =
      ⊎_elim
      (λ may. ⊎_elim
      (λ size. sized 4 (omega arith) size (⊎_elim
      (λ long. four-first r long (Step p 3 0 4) (λ d1 d2 d3 d4 s e. data-whole d1 d2 d3 d4 s may))
      (λ short. stops-with 1 refl (next.data-cut r may short))
      (within 4 (length r))))
      (λ n. stops-with 4 refl (next.data-length h l r may n))
      (same (two_bytes h l) 4))
      (λ n. stops-with 3 refl (next.data-place h l r n))
      (may-data last)

  most-whole : (q1 q2 : ℕ) (r : List ℕ) → MayMost last → Step p 4 0 2 (q1 ∷ q2 ∷ r)
  most-whole q1 q2 r may =
      ⊎_elim
      (λ none. stops-with 31 refl (next.most-none q1 q2 r may none))
      (λ some. goes (omega arith) (begun (then-most p last k c m kinds w whole u q1 q2 before may some)))
      (same (two_bytes q1 q2) 0)

  most_step : (h l : ℕ) (r : List ℕ) → Step p 4 h l r
  most_step h l r =
      ⊎_elim
      (λ may. ⊎_elim
      (λ size. sized 2 (omega arith) size (⊎_elim
      (λ long. two-first r long (Step p 4 0 2) (λ q1 q2 s e. most-whole q1 q2 s may))
      (λ short. stops-with 1 refl (next.most-cut r may short))
      (within 2 (length r))))
      (λ n. stops-with 4 refl (next.most-length h l r may n))
      (same (two_bytes h l) 2))
      (λ n. stops-with 3 refl (next.most-place h l r n))
      (may-most last)

  pace-whole : (c1 c2 c3 c4 t1 t2 t3 t4 : ℕ) (r : List ℕ) → MayPace last → Step p 5 0 8 (c1 ∷ c2 ∷ c3 ∷ c4 ∷ t1 ∷ t2 ∷ t3 ∷ t4 ∷ r)
  pace-whole c1 c2 c3 c4 t1 t2 t3 t4 r may =
      ⊎_elim
      (λ kept. goes (omega arith) (begun (then-pace p last k c m kinds w whole u c1 c2 c3 c4 t1 t2 t3 t4 before may kept)))
      (λ broken. stops-with 43 refl (next.pace-broken c1 c2 c3 c4 t1 t2 t3 t4 r may broken))
      (pace-within whole u (four_bytes c1 c2 c3 c4) (four_bytes t1 t2 t3 t4))

  pace-step : (h l : ℕ) (r : List ℕ) → Step p 5 h l r
  pace-step h l r =
      ⊎_elim
      (λ may. ⊎_elim
      (λ size. sized 8 (omega arith) size (⊎_elim
      (λ long. eight-first r long (Step p 5 0 8) (λ c1 c2 c3 c4 t1 t2 t3 t4 s e. pace-whole c1 c2 c3 c4 t1 t2 t3 t4 s may))
      (λ short. stops-with 1 refl (next.pace-cut r may short))
      (within 8 (length r))))
      (λ n. stops-with 4 refl (next.pace-length h l r may n))
      (same (two_bytes h l) 8))
      (λ n. stops-with 3 refl (next.pace-place h l r n))
      (may-pace last)

  second-whole : (n u1 u2 u3 u4 s1 s2 s3 s4 : ℕ) (r : List ℕ) → last ≡ 1 → Step p 6 0 9 (n ∷ u1 ∷ u2 ∷ u3 ∷ u4 ∷ s1 ∷ s2 ∷ s3 ∷ s4 ∷ r)
  second-whole n u1 u2 u3 u4 s1 s2 s3 s4 r may =
      ⊎_elim
      (λ counted. ⊎_elim
      (λ kept. goes (omega arith) (begun (then-second p last k c m kinds w whole u n u1 u2 u3 u4 s1 s2 s3 s4 before may counted.0 counted.1 kept.0 kept.1)))
      (λ large. stops-with 8 refl (next.second-size n u1 u2 u3 u4 s1 s2 s3 s4 r may counted.0 counted.1 large))
      (sizes (four_bytes u1 u2 u3 u4) (four_bytes s1 s2 s3 s4)))
      (λ bad. stops-with 5 refl (next.second-number n u1 u2 u3 u4 s1 s2 s3 s4 r may bad))
      number
    where
      number : ((1 ≤ n) × (m + n ≤ 16)) ⊎ ((n ≡ 0) ⊎ (16 < m + n))
      number = ⊎_elim (λ low. ⊎_elim (λ high. inl (low, high)) (λ over. inr (inr over)) (within (m + n) 16)) (λ none. inr (inl (omega arith))) (within 1 n)

  second-step : (h l : ℕ) (r : List ℕ) → Step p 6 h l r
  second-step h l r =
      ⊎_elim
      (λ may. ⊎_elim
      (λ size. sized 9 (omega arith) size (⊎_elim
      (λ long. nine r long may)
      (λ short. stops-with 1 refl (next.second-cut r may short))
      (within 9 (length r))))
      (λ n. stops-with 4 refl (next.second-length h l r may n))
      (same (two_bytes h l) 9))
      (λ n. stops-with 3 refl (next.second-place h l r n))
      (same last 1)
    where
      nine : (r : List ℕ) → 9 ≤ length r → last ≡ 1 → Step p 6 0 9 r
      nine [] long may = absurd (omega arith)
      nine (n ∷ r) long may = eight-first r (omega arith) (λ x. Step p 6 0 9 (n ∷ x)) (λ u1 u2 u3 u4 s1 s2 s3 s4 s e. second-whole n u1 u2 u3 u4 s1 s2 s3 s4 s may)

  costs-whole : (u1 u2 u3 u4 s1 s2 s3 s4 : ℕ) (r : List ℕ) → MayCosts last → Step p 7 0 8 (u1 ∷ u2 ∷ u3 ∷ u4 ∷ s1 ∷ s2 ∷ s3 ∷ s4 ∷ r)
  costs-whole u1 u2 u3 u4 s1 s2 s3 s4 r may =
      ⊎_elim
      (λ kept. goes (omega arith) (begun (then-costs p last k c m kinds w whole u u1 u2 u3 u4 s1 s2 s3 s4 before may kept.0 kept.1)))
      (λ large. stops-with 8 refl (next.costs-size u1 u2 u3 u4 s1 s2 s3 s4 r may large))
      (sizes (four_bytes u1 u2 u3 u4) (four_bytes s1 s2 s3 s4))

  costs-step : (h l : ℕ) (r : List ℕ) → Step p 7 h l r
  costs-step h l r =
      ⊎_elim
      (λ may. ⊎_elim
      (λ size. sized 8 (omega arith) size (⊎_elim
      (λ long. eight-first r long (Step p 7 0 8) (λ u1 u2 u3 u4 s1 s2 s3 s4 s e. costs-whole u1 u2 u3 u4 s1 s2 s3 s4 s may))
      (λ short. stops-with 1 refl (next.costs-cut r may short))
      (within 8 (length r))))
      (λ n. stops-with 4 refl (next.costs-length h l r may n))
      (same (two_bytes h l) 8))
      (λ n. stops-with 3 refl (next.costs-place h l r n))
      (may-costs last)

  -- whatever its tag is
  step : (t h l : ℕ) (r : List ℕ) → Step p t h l r
  step t h l r =
      of 1 (λ h l r. stops-with 3 refl (next.platform-again h l r)) (λ n1. of 2 type-step (λ n2. of 3 data-step (λ n3. of 4 most_step (λ n4. of 5 pace-step (λ n5. of 6 second-step (λ n6. of 7 costs-step (λ n7.
      stops-with 2 refl (next.no-tag t h l r n1 n2 n3 n4 n5 n6 n7))))))))
    where
      of : (n : ℕ) → ((h l : ℕ) (r : List ℕ) → Step p n h l r) → ((t ≡ n → ⊥) → Step p t h l r) → Step p t h l r
      of n here other = ⊎_elim (λ (e : t ≡ n). rw e (here h l r)) other (same t n)

-- at the file's start
first_step : (t h l : ℕ) (r : List ℕ) → Step [] t h l r
first_step t h l r =
    ⊎_elim
    (λ e. rw e platform)
    (λ n1. ⊎_elim
    (λ low. ⊎_elim
    (λ high. stops-with 3 refl (first-refusals.no-platform t h l r low high))
    (λ over. unknown n1 (λ e. omega arith) (λ e. omega arith) (λ e. omega arith) (λ e. omega arith) (λ e. omega arith) (λ e. omega arith))
    (within t 7))
    (λ none. unknown n1 (λ e. omega arith) (λ e. omega arith) (λ e. omega arith) (λ e. omega arith) (λ e. omega arith) (λ e. omega arith))
    (within 2 t))
    (same t 1)
  where
    unknown : (t ≡ 1 → ⊥) → (t ≡ 2 → ⊥) → (t ≡ 3 → ⊥) → (t ≡ 4 → ⊥) → (t ≡ 5 → ⊥) → (t ≡ 6 → ⊥) → (t ≡ 7 → ⊥) → Step [] t h l r
    unknown n1 n2 n3 n4 n5 n6 n7 = stops-with 2 refl (first-refusals.no-tag t h l r n1 n2 n3 n4 n5 n6 n7)

    whole : (m k u1 u2 u3 u4 s1 s2 s3 s4 : ℕ) (r : List ℕ) → Step [] 1 0 10 (m ∷ k ∷ u1 ∷ u2 ∷ u3 ∷ u4 ∷ s1 ∷ s2 ∷ s3 ∷ s4 ∷ r)
    whole m k u1 u2 u3 u4 s1 s2 s3 s4 r =
        ⊎_elim
        (λ low. ⊎_elim
        (λ high. ⊎_elim
        (λ one. ⊎_elim
        (λ kept. goes (omega arith) (record { k = 0; c = 1; m = m; kinds = 1; w = 0; whole = four_bytes u1 u2 u3 u4; u = 0; is = a-platform m k u1 u2 u3 u4 s1 s2 s3 s4 low high one kept.0 kept.1 }))
        (λ large. stops-with 8 refl (first-refusals.size m k u1 u2 u3 u4 s1 s2 s3 s4 r low high one large))
        (sizes (four_bytes u1 u2 u3 u4) (four_bytes s1 s2 s3 s4)))
        (λ over. stops-with 6 refl (first-refusals.rule m k u1 u2 u3 u4 s1 s2 s3 s4 r low high over))
        (within k 1))
        (λ many. stops-with 5 refl (first-refusals.engines m k u1 u2 u3 u4 s1 s2 s3 s4 r (inr many)))
        (within m 16))
        (λ none. stops-with 5 refl (first-refusals.engines m k u1 u2 u3 u4 s1 s2 s3 s4 r (inl (omega arith))))
        (within 1 m)

    platform : Step [] 1 h l r
    platform =
        ⊎_elim
        (λ size. sized 10 (omega arith) size (⊎_elim
        (λ long. eight-first r (omega arith) (Step [] 1 0 10) (λ m k u1 u2 u3 u4 s1 s2 s e. two-first s (omega arith) (λ x. Step [] 1 0 10 (m ∷ k ∷ u1 ∷ u2 ∷ u3 ∷ u4 ∷ s1 ∷ s2 ∷ x)) (λ s3 s4 x e2. whole m k u1 u2 u3 u4 s1 s2 s3 s4 x)))
        (λ short. stops-with 1 refl (first-refusals.platform-cut r short))
        (within 10 (length r))))
        (λ n. stops-with 4 refl (first-refusals.platform-length h l r n))
        (same (two_bytes h l) 10)

-- either
data Before : List ℕ → Type 0 where
  start : Before []
  behind : (p : List ℕ) (last : ℕ) → Begun p last → Before p

any_step : {p : List ℕ} → Before p → (t h l : ℕ) (r : List ℕ) → Step p t h l r
any_step start t h l r = first_step t h l r
any_step (behind p last b) t h l r = step p last b.k b.c b.m b.kinds b.w b.whole b.u b.is t h l r

any-one : {p : List ℕ} → Before p → (a : ℕ) → Stops (p ++ (a ∷ []))
any-one start a = record { number = 1; read = first-refusals.one_byte a; inside = refl }
any-one (behind p last b) a = record { number = 1; read = (next p last b.k b.c b.m b.kinds b.w b.whole b.u b.is).one_byte a; inside = refl }

any-two : {p : List ℕ} → Before p → (a b : ℕ) → Stops (p ++ (a ∷ b ∷ []))
any-two start a c = record { number = 1; read = first-refusals.two_bytes_lem a c; inside = refl }
any-two (behind p last b) a c = record { number = 1; read = (next p last b.k b.c b.m b.kinds b.w b.whole b.u b.is).two_bytes_lem a c; inside = refl }

-- All fields

-- a list of bytes is whole fields, or what a file has from there on is refused in a field
from : (n : ℕ) (p s : List ℕ) → length s ≤ n → Before p → AtEnd (read_card (p ++ s)) → (s ≡ []) ⊎ ((last : ℕ) × (WholeFields s last))
from zero p [] few before end = inl refl
from zero p (t ∷ r) few before end = absurd (omega arith)
from (suc n) p [] few before end = inl refl
from (suc n) p (a ∷ []) few before end = absurd (not-at-end (any-one before a) end)
from (suc n) p (a ∷ b ∷ []) few before end = absurd (not-at-end (any-two before a b) end)
from (suc n) p (t ∷ h ∷ l ∷ r) few before end = on (any_step before t h l r) (λ b. from n field later fewer (behind field t b))
  where
    body : List ℕ
    body = take (two_bytes h l) r

    later : List ℕ
    later = drop (two_bytes h l) r

    field : List ℕ
    field = p ++ (t ∷ h ∷ l ∷ body)

    fewer : length later ≤ n
    fewer = omega (arith, length-drop (two_bytes h l) r)

    whole : body ++ later ≡ r
    whole = take-append-drop (two_bytes h l) r

    all : field ++ later ≡ p ++ (t ∷ h ∷ l ∷ r)
    all = append_assoc p (t ∷ h ∷ l ∷ body) later ∙ ap (λ (x : List ℕ). p ++ (t ∷ h ∷ l ∷ x)) whole

    on : Step p t h l r → (Begun field t → AtEnd (read_card (field ++ later)) → (later ≡ []) ⊎ ((last : ℕ) × (WholeFields later last)))
        → (t ∷ h ∷ l ∷ r ≡ []) ⊎ ((last : ℕ) × (WholeFields (t ∷ h ∷ l ∷ r) last))
    on (stops x) rest = absurd (not-at-end x end)
    on (goes inside b) rest = inr (ended (rest b (subst (λ (x : List ℕ). AtEnd (read_card x)) (sym all) end)))
      where
        size : length body ≡ two_bytes h l
        size = omega (arith, ap length whole, length-append body later, length-drop (two_bytes h l) r)

        ended : (later ≡ []) ⊎ ((last : ℕ) × (WholeFields later last)) → (last : ℕ) × (WholeFields (t ∷ h ∷ l ∷ r) last)
        ended (inl none) = (t, subst (λ (x : List ℕ). WholeFields (t ∷ h ∷ l ∷ x) t) (sym (append-nil body) ∙ ap (λ (x : List ℕ). body ++ x) (sym none) ∙ whole) (a-field t h l body size))
        ended (inr (last, more)) = (last, subst (λ (x : List ℕ). WholeFields (t ∷ h ∷ l ∷ x) last) whole (then-fields t h l body later last size more))

-- the fields of a file that is read to its end are a beginning after each of them
each : (p s rest : List ℕ) (last : ℕ) → WholeFields s last → Before p → AtEnd (read_card (p ++ (s ++ rest))) → Begun (p ++ s) last
each p s rest last (a-field t h l body size) before end = on (any_step before t h l (body ++ rest))
  where
    same_body : take (two_bytes h l) (body ++ rest) ≡ body
    same_body = ap (λ (n : ℕ). take n (body ++ rest)) (sym size) ∙ take-append_seam body rest

    on : Step p t h l (body ++ rest) → Begun (p ++ (t ∷ h ∷ l ∷ body)) t
    on (stops x) = absurd (not-at-end x end)
    on (goes inside b) = subst (λ (x : List ℕ). Begun (p ++ (t ∷ h ∷ l ∷ x)) t) same_body b
each p s rest last (then-fields t h l body later end-tag size more) before end =
    on (any_step before t h l ((body ++ later) ++ rest)) (λ b ended. each field later rest last more (behind field t b) ended)
  where
    field : List ℕ
    field = p ++ (t ∷ h ∷ l ∷ body)

    same_body : take (two_bytes h l) ((body ++ later) ++ rest) ≡ body
    same_body = (λ i. take (sym size i) (append_assoc body later rest i)) ∙ take-append_seam body (later ++ rest)

    all : field ++ (later ++ rest) ≡ p ++ (t ∷ h ∷ l ∷ ((body ++ later) ++ rest))
    all = append_assoc p (t ∷ h ∷ l ∷ body) (later ++ rest) ∙ ap (λ (x : List ℕ). p ++ (t ∷ h ∷ l ∷ x)) (sym (append_assoc body later rest))

    on : Step p t h l ((body ++ later) ++ rest) → (Begun field t → AtEnd (read_card (field ++ (later ++ rest))) → Begun (field ++ later) last)
        → Begun (p ++ (t ∷ h ∷ l ∷ (body ++ later))) last
    on (stops x) go = absurd (not-at-end x end)
    on (goes inside b) go =
        subst (λ (x : List ℕ). Begun x last) (append_assoc p (t ∷ h ∷ l ∷ body) later)
        (go (subst (λ (x : List ℕ). Begun (p ++ (t ∷ h ∷ l ∷ x)) t) same_body b) (subst (λ (x : List ℕ). AtEnd (read_card x)) (sym all) end))

-- Nothing else is a beginning

-- whole fields after whole fields
fields-on : (p q : List ℕ) (a b : ℕ) → WholeFields p a → WholeFields q b → WholeFields (p ++ q) b
fields-on p q a b (a-field t h l body size) more = then-fields t h l body q b size more
fields-on p q a b (then-fields t h l body rest last size later) more =
    subst (λ (x : List ℕ). WholeFields (t ∷ h ∷ l ∷ x) b) (sym (append_assoc body rest q)) (then-fields t h l body (rest ++ q) b size (fields-on rest q last b later more))

fields-of : {p : List ℕ} {last k c m kinds w whole u : ℕ} → Beginning p last k c m kinds w whole u → WholeFields p last
fields-of (a-platform m r u1 u2 u3 u4 s1 s2 s3 s4 low high rule time memory) = a-field 1 0 10 (m ∷ r ∷ u1 ∷ u2 ∷ u3 ∷ u4 ∷ s1 ∷ s2 ∷ s3 ∷ s4 ∷ []) refl
fields-of (then-second p last k c m kinds w whole u n u1 u2 u3 u4 s1 s2 s3 s4 before place low high time memory) =
    fields-on p _ last 6 (fields-of before) (a-field 6 0 9 (n ∷ u1 ∷ u2 ∷ u3 ∷ u4 ∷ s1 ∷ s2 ∷ s3 ∷ s4 ∷ []) refl)
fields-of (then-type p last k c m kinds w whole u u1 u2 u3 u4 s1 s2 s3 s4 n1 n2 before room time memory) =
    fields-on p _ last 2 (fields-of before) (a-field 2 0 10 (u1 ∷ u2 ∷ u3 ∷ u4 ∷ s1 ∷ s2 ∷ s3 ∷ s4 ∷ n1 ∷ n2 ∷ []) refl)
fields-of (then-data p last k c m kinds w whole u d1 d2 d3 d4 before place small) = fields-on p _ last 3 (fields-of before) (a-field 3 0 4 (d1 ∷ d2 ∷ d3 ∷ d4 ∷ []) refl)
fields-of (then-most p last k c m kinds w whole u q1 q2 before place some) = fields-on p _ last 4 (fields-of before) (a-field 4 0 2 (q1 ∷ q2 ∷ []) refl)
fields-of (then-pace p last k c m kinds w whole u c1 c2 c3 c4 t1 t2 t3 t4 before place kept) =
    fields-on p _ last 5 (fields-of before) (a-field 5 0 8 (c1 ∷ c2 ∷ c3 ∷ c4 ∷ t1 ∷ t2 ∷ t3 ∷ t4 ∷ []) refl)
fields-of (then-costs p last k c m kinds w whole u u1 u2 u3 u4 s1 s2 s3 s4 before place time memory) =
    fields-on p _ last 7 (fields-of before) (a-field 7 0 8 (u1 ∷ u2 ∷ u3 ∷ u4 ∷ s1 ∷ s2 ∷ s3 ∷ s4 ∷ []) refl)

-- all or none, or not
all-or-none : (k kinds w : ℕ) → AllOrNone k kinds w ⊎ (AllOrNone k kinds w → ⊥)
all-or-none k kinds w =
    ⊎_elim
    (λ one. ⊎_elim (λ two. inl (record { one = one; two = two })) (λ n. inr (λ all. n all.two)) (implied (same kinds 2) (same w k)))
    (λ n. inr (λ all. n all.one))
    (implied (same kinds 1) (same w 0))
  where
    implied : {A B : Type 0} → A ⊎ (A → ⊥) → B ⊎ (B → ⊥) → (A → B) ⊎ ((A → B) → ⊥)
    implied a (inl b) = inl (λ x. b)
    implied (inl a) (inr b) = inr (λ f. b (f a))
    implied (inr a) (inr b) = inl (λ x. absurd (a x))

ends : (p : List ℕ) (k c kinds w : ℕ) → FileEnd p k c kinds w → AtEnd (read_card p)
ends p k c kinds w e =
    ⊎_elim
    (λ some. ⊎_elim
    (λ all. ⊎_elim
    (λ small. let o = e.opens some all small in inl (o.0, o.1))
    (λ large. inr (inr (inr (e.columns-over some all large))))
    (within c 4096))
    (λ n. inr (inr (inl (e.some-kinds some n))))
    (all-or-none k kinds w))
    (λ none. inr (inl (e.no-type (omega arith))))
    (within 1 k)

pub beginnings : Beginnings
beginnings =
    record {
      whole-file = λ file some end. ⊎_elim (λ none. absurd (some none)) (λ is. is) (from (length file) [] file (omega arith) start end);
      each-field = λ p rest last fields end. each [] p rest last fields start end;
      nothing-else = λ p last b. (fields-of b.is, ends p b.k b.c b.kinds b.w (later-fields.file-end p last b.k b.c b.m b.kinds b.w b.whole b.u b.is));
    }

-- The field step

-- what it answers of what is left of the file
record Answers (at : ℕ) (s : List ℕ) (t n : ℕ) (body : List ℕ) (next : ℕ) : Type 0 where
  tag : byte_at s 0 ≡ t
  size : word2 s 1 ≡ n
  part : body_part s ≡ body
  after : cond (whole_field s) (at + field_size s) at ≡ next

answered : (file : List ℕ) (at : ℕ) {t n next : ℕ} {body : List ℕ} (s : List ℕ) → drop at file ≡ s → Answers at s t n body next
    → (tag_at file at ≡ t) × (length_at file at ≡ n) × (body_at file at ≡ body) × ((next_at file at).at ≡ next)
answered file at s left a = (
  ap (λ (x : List ℕ). byte_at x 0) left ∙ a.tag,
  ap (λ (x : List ℕ). word2 x 1) left ∙ a.size,
  ap body_part left ∙ a.part,
  ap (λ (x : List ℕ). cond (whole_field x) (at + field_size x) at) left ∙ a.after,
)

-- of a field that is not whole
cut-answers : (at : ℕ) (s : List ℕ) → length s < field_size s → Answers at s (byte_at s 0) (word2 s 1) [] at
cut-answers at s short = let cut : whole_field s ≡ false = lt-leb (field_size s) (length s) short in record { tag = refl; size = refl; part = rw cut; after = rw cut }

step-answers : {file : List ℕ} {at t n next : ℕ} {body : List ℕ} → StandsAt file at t n body next
    → (tag_at file at ≡ t) × (length_at file at ≡ n) × (body_at file at ≡ body) × ((next_at file at).at ≡ next)
step-answers (whole-field before t h l body after size) =
    let s : List ℕ = t ∷ h ∷ l ∷ (body ++ after) in
    let whole : whole_field s ≡ true = le-leb (3 + two_bytes h l) (length s) (omega (arith, length-append body after)) in
    answered (before ++ s) (length before) s (drop-append_seam before s)
    (record { tag = refl; size = refl; part = rw whole (ap (λ (n : ℕ). take n (body ++ after)) (sym size) ∙ take-append_seam body after); after = rw whole })
step-answers (body-cut before t h l rest short) =
    let s : List ℕ = t ∷ h ∷ l ∷ rest in
    answered (before ++ s) (length before) s (drop-append_seam before s) (cut-answers (length before) s (omega arith))
step-answers (two_bytes_lem before a b) = let s : List ℕ = a ∷ b ∷ [] in answered (before ++ s) (length before) s (drop-append_seam before s) (cut-answers (length before) s (omega arith))
step-answers (one_byte before a) = let s : List ℕ = a ∷ [] in answered (before ++ s) (length before) s (drop-append_seam before s) (cut-answers (length before) s (omega arith))
step-answers (past_end file at past) = answered file at [] (drop_of_length-le file past) (cut-answers at [] (omega arith))

abbrev Stands : List ℕ → ℕ → Type 0
Stands file at = (t : ℕ) × (n : ℕ) × (body : List ℕ) × (next : ℕ) × StandsAt file at t n body next

-- after these bytes
stands_after : (before s : List ℕ) → Stands (before ++ s) (length before)
stands_after before [] = (_, _, _, _, past_end (before ++ []) (length before) (omega (arith, length-append before [])))
stands_after before (a ∷ []) = (_, _, _, _, one_byte before a)
stands_after before (a ∷ b ∷ []) = (_, _, _, _, two_bytes_lem before a b)
stands_after before (t ∷ h ∷ l ∷ r) =
    ⊎_elim
    (λ long. subst (λ (x : List ℕ). Stands (before ++ (t ∷ h ∷ l ∷ x)) (length before)) (take-append-drop (two_bytes h l) r)
    (_, _, _, _, whole-field before t h l (take (two_bytes h l) r) (drop (two_bytes h l) r) (length-take-le (two_bytes h l) r long)))
    (λ short. (_, _, _, _, body-cut before t h l r short))
    (within (two_bytes h l) (length r))

stands : (file : List ℕ) (at : ℕ) → Stands file at
stands file at =
    ⊎_elim
    (λ inside.
    subst (λ (n : ℕ). Stands file n) (length-take-le at file inside)
    (subst (λ (x : List ℕ). Stands x (length (take at file))) (take-append-drop at file) (stands_after (take at file) (drop at file))))
    (λ past. (_, _, _, _, past_end file at (omega arith)))
    (within at (length file))

-- of what is left of the file
abbrev step_of : ℕ → List ℕ → Field
step_of at s =
    record {
      tag = byte_at s 0;
      size = word2 s 1;
      headed = headed_field s;
      whole = whole_field s;
      start = cond (whole_field s) (at + head_size) at;
      next = record { at = cond (whole_field s) (at + field_size s) at };
    }

step_after : (before s : List ℕ) → field_at (before ++ s) (length before) ≡ step_of (length before) s
unfolding field_at
step_after before s = ap (step_of (length before)) (drop-append_seam before s)

step_past : (file : List ℕ) (at : ℕ) → length file ≤ at → field_at file at ≡ record { tag = 0; size = 0; headed = false; whole = false; start = at; next = record { at = at } }
unfolding field_at
step_past file at past = ap (step_of at) (drop_of_length-le file past)

module _ (before : List ℕ) (t h l : ℕ) where
  step-whole : (body after : List ℕ) → length body ≡ two_bytes h l
      → field_at (before ++ (t ∷ h ∷ l ∷ (body ++ after))) (length before)
      ≡ record { tag = t; size = two_bytes h l; headed = true; whole = true; start = length before + 3; next = record { at = length before + (3 + two_bytes h l) } }
  step-whole body after size =
      let s : List ℕ = t ∷ h ∷ l ∷ (body ++ after) in
      let long = length-append body after in
      step_after before s ∙ rw (le-leb 3 (length s) (omega arith), le-leb (3 + two_bytes h l) (length s) (omega arith))

  step_cut : (rest : List ℕ) → length rest < two_bytes h l
      → field_at (before ++ (t ∷ h ∷ l ∷ rest)) (length before)
      ≡ record { tag = t; size = two_bytes h l; headed = true; whole = false; start = length before; next = record { at = length before } }
  step_cut rest short =
      let s : List ℕ = t ∷ h ∷ l ∷ rest in
      step_after before s ∙ rw (le-leb 3 (length s) (omega arith), lt-leb (3 + two_bytes h l) (length s) (omega arith))

  body-whole : (body after : List ℕ) → length body ≡ two_bytes h l
      → let file = before ++ (t ∷ h ∷ l ∷ (body ++ after)) in
      part_of file (field_at file (length before)).start (field_at file (length before)).next.at ≡ body
  unfolding field_at
  body-whole body after size =
      let s : List ℕ = t ∷ h ∷ l ∷ (body ++ after) in
      let long = length-append body after in
      let whole : body_part s ≡ take (two_bytes h l) (body ++ after) = rw (le-leb (3 + two_bytes h l) (length s) (omega arith)) in
      body_is (before ++ s) (length before)
      ∙ ap body_part (drop-append_seam before s)
      ∙ whole
      ∙ ap (λ (n : ℕ). take n (body ++ after)) (sym size)
      ∙ take-append_seam body after

no_whole : (file : List ℕ) (at : ℕ) → (field_at file at).whole ≡ false → part_of file (field_at file at).start (field_at file at).next.at ≡ []
unfolding field_at
no_whole file at none = body_is file at ∙ ap (λ (b : Bool). cond b (take (word2 (drop at file) 1) (drop head_size (drop at file))) []) none

pub field_step : FieldStep
field_step =
    record {
      whole-field = step-whole;
      body-cut = step_cut;
      two_bytes_lem = λ before a b. step_after before (a ∷ b ∷ []) ∙ rw (lt-leb (3 + two_bytes b 0) 2 (omega arith));
      one_byte = λ before a. step_after before (a ∷ []);
      past_end = step_past;
      body = body-whole;
      no_body = no_whole;
      answers = λ file at t n body next is. step-answers is;
      always = stands;
    }
