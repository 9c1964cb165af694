-- "Fields are judged in file order; in one field: start cut (1), 2, 3, 4, body cut (1), 7, then 5, 6, 8. At the end 9, 10", 31 "after 8" (request 2026-04),
-- 43 "after 31" (2026-14), and 41 "after 9" (2026-13): of the first field and of each later one, byte by byte, and of the file's end; how wide the beginnings
-- are of which this is said; how many fields of a tag a file may have; and the field step.
use Rattle.std.specs.Prelude.{ℕ, suc, ◌+◌, ◌*◌, ◌≤◌, ◌<◌, List, [], ◌∷◌, ◌++◌, true, false, cond, ◌≡◌, ◌⊎◌, length, eqb, Some}
use Rattle.system.specs.declared.System.{System}
use Rattle.system.specs.declared.FieldRule.{FieldRule}
use Rattle.system.specs.Rules.{field_rules, rule_of}
use Rattle.system.specs.Inner.{part_of}
use Rattle.system.specs.Layout.{Reading, opened, unread, field_at, tag_at, length_at, body_at, next_at, read_card, read_file}

-- two and four bytes as a number, most significant first
abbrev pub two_bytes : ℕ → ℕ → ℕ
two_bytes a b = a * 256 + b

abbrev pub four_bytes : ℕ → ℕ → ℕ → ℕ → ℕ
four_bytes a b c d = two_bytes a b * 65536 + two_bytes c d

-- whole fields: the platform (m, rule, U, S), a type (u, s, n), its d and its q
abbrev pub platform_field : (m r u1 u2 u3 u4 s1 s2 s3 s4 : ℕ) → List ℕ
platform_field m r u1 u2 u3 u4 s1 s2 s3 s4 = 1 ∷ 0 ∷ 10 ∷ m ∷ r ∷ u1 ∷ u2 ∷ u3 ∷ u4 ∷ s1 ∷ s2 ∷ s3 ∷ s4 ∷ []

abbrev pub type_field : (u1 u2 u3 u4 s1 s2 s3 s4 n1 n2 : ℕ) → List ℕ
type_field u1 u2 u3 u4 s1 s2 s3 s4 n1 n2 = 2 ∷ 0 ∷ 10 ∷ u1 ∷ u2 ∷ u3 ∷ u4 ∷ s1 ∷ s2 ∷ s3 ∷ s4 ∷ n1 ∷ n2 ∷ []

abbrev pub data_field : (d1 d2 d3 d4 : ℕ) → List ℕ
data_field d1 d2 d3 d4 = 3 ∷ 0 ∷ 4 ∷ d1 ∷ d2 ∷ d3 ∷ d4 ∷ []

abbrev pub most_field : (q1 q2 : ℕ) → List ℕ
most_field q1 q2 = 4 ∷ 0 ∷ 2 ∷ q1 ∷ q2 ∷ []

-- request 2026-14: C and T of a type
abbrev pub pace_field : (c1 c2 c3 c4 t1 t2 t3 t4 : ℕ) → List ℕ
pace_field c1 c2 c3 c4 t1 t2 t3 t4 = 5 ∷ 0 ∷ 8 ∷ c1 ∷ c2 ∷ c3 ∷ c4 ∷ t1 ∷ t2 ∷ t3 ∷ t4 ∷ []

-- request 2026-13: the second kind's number, U and S, and u and s of a type there
abbrev pub second_field : (n u1 u2 u3 u4 s1 s2 s3 s4 : ℕ) → List ℕ
second_field n u1 u2 u3 u4 s1 s2 s3 s4 = 6 ∷ 0 ∷ 9 ∷ n ∷ u1 ∷ u2 ∷ u3 ∷ u4 ∷ s1 ∷ s2 ∷ s3 ∷ s4 ∷ []

abbrev pub costs_field : (u1 u2 u3 u4 s1 s2 s3 s4 : ℕ) → List ℕ
costs_field u1 u2 u3 u4 s1 s2 s3 s4 = 7 ∷ 0 ∷ 8 ∷ u1 ∷ u2 ∷ u3 ∷ u4 ∷ s1 ∷ s2 ∷ s3 ∷ s4 ∷ []

-- where d, q, C and T, and u and s on the second kind may stand, by the tag of the field before
abbrev pub MayData : ℕ → Type 0
MayData last = last ≡ 2

abbrev pub MayMost : ℕ → Type 0
MayMost last = (last ≡ 2) ⊎ (last ≡ 3)

abbrev pub MayPace : ℕ → Type 0
MayPace last = (last ≡ 2) ⊎ ((last ≡ 3) ⊎ (last ≡ 4))

abbrev pub MayCosts : ℕ → Type 0
MayCosts last = (last ≡ 2) ⊎ ((last ≡ 3) ⊎ ((last ≡ 4) ⊎ (last ≡ 5)))

-- C and T, of a type with this u on an engine with this U, that 43 lets through
pub record PaceWithin (whole u c t : ℕ) : Type 0 where
  pub run : (1 ≤ c) × (c ≤ 65535)
  pub period : (1 ≤ t) × (t ≤ 65535)
  pub runs : c ≤ t
  pub some : (whole ≡ 0) → ⊥
  pub share : c * whole ≤ u * t

-- the bytes of fields that pass, from the file's start on; the tag of the last one, the number of types, the product of all n + 1, m, the kinds of engine,
-- the number of types with a tag 7, the platform's U, and u of the last type
pub data Beginning : List ℕ → ℕ → ℕ → ℕ → ℕ → ℕ → ℕ → ℕ → ℕ → Type 0 where
  a-platform : (m r u1 u2 u3 u4 s1 s2 s3 s4 : ℕ) → 1 ≤ m → m ≤ 16 → r ≤ 1 → four_bytes u1 u2 u3 u4 ≤ 1000000 → four_bytes s1 s2 s3 s4 ≤ 1000000
      → Beginning (platform_field m r u1 u2 u3 u4 s1 s2 s3 s4) 1 0 1 m 1 0 (four_bytes u1 u2 u3 u4) 0
  then-second : (p : List ℕ) (last k c m kinds w whole u n u1 u2 u3 u4 s1 s2 s3 s4 : ℕ) → Beginning p last k c m kinds w whole u → last ≡ 1 → 1 ≤ n → m + n ≤ 16
      → four_bytes u1 u2 u3 u4 ≤ 1000000 → four_bytes s1 s2 s3 s4 ≤ 1000000 → Beginning (p ++ second_field n u1 u2 u3 u4 s1 s2 s3 s4) 6 k c m 2 w whole u
  then-type : (p : List ℕ) (last k c m kinds w whole u u1 u2 u3 u4 s1 s2 s3 s4 n1 n2 : ℕ) → Beginning p last k c m kinds w whole u → k < 6
      → four_bytes u1 u2 u3 u4 ≤ 1000000 → four_bytes s1 s2 s3 s4 ≤ 1000000
      → Beginning (p ++ type_field u1 u2 u3 u4 s1 s2 s3 s4 n1 n2) 2 (suc k) (c * (two_bytes n1 n2 + 1)) m kinds w whole (four_bytes u1 u2 u3 u4)
  then-data : (p : List ℕ) (last k c m kinds w whole u d1 d2 d3 d4 : ℕ) → Beginning p last k c m kinds w whole u → MayData last
      → four_bytes d1 d2 d3 d4 ≤ 1000000
      → Beginning (p ++ data_field d1 d2 d3 d4) 3 k c m kinds w whole u
  then-most : (p : List ℕ) (last k c m kinds w whole u q1 q2 : ℕ) → Beginning p last k c m kinds w whole u → MayMost last → (two_bytes q1 q2 ≡ 0 → ⊥)
      → Beginning (p ++ most_field q1 q2) 4 k c m kinds w whole u
  then-pace : (p : List ℕ) (last k c m kinds w whole u c1 c2 c3 c4 t1 t2 t3 t4 : ℕ) → Beginning p last k c m kinds w whole u → MayPace last
      → PaceWithin whole u (four_bytes c1 c2 c3 c4) (four_bytes t1 t2 t3 t4) → Beginning (p ++ pace_field c1 c2 c3 c4 t1 t2 t3 t4) 5 k c m kinds w whole u
  then-costs : (p : List ℕ) (last k c m kinds w whole u u1 u2 u3 u4 s1 s2 s3 s4 : ℕ) → Beginning p last k c m kinds w whole u → MayCosts last
      → four_bytes u1 u2 u3 u4 ≤ 1000000 → four_bytes s1 s2 s3 s4 ≤ 1000000
      → Beginning (p ++ costs_field u1 u2 u3 u4 s1 s2 s3 s4) 7 k c m kinds (suc w) whole u

-- the first field: where it is no platform that passes it is refused, whatever follows it. The order is that of the lines, as below
pub record FirstField : Type 0 where
  pub one_byte : (a : ℕ) → read_card (a ∷ []) ≡ unread 1
  pub two_bytes_lem : (a b : ℕ) → read_card (a ∷ b ∷ []) ≡ unread 1
  pub no-tag : (t h l : ℕ) (rest : List ℕ) → (t ≡ 1 → ⊥) → (t ≡ 2 → ⊥) → (t ≡ 3 → ⊥) → (t ≡ 4 → ⊥) → (t ≡ 5 → ⊥) → (t ≡ 6 → ⊥) → (t ≡ 7 → ⊥)
      → read_card (t ∷ h ∷ l ∷ rest) ≡ unread 2
  pub no-platform : (t h l : ℕ) (rest : List ℕ) → 2 ≤ t → t ≤ 7 → read_card (t ∷ h ∷ l ∷ rest) ≡ unread 3
  pub platform-length : (h l : ℕ) (rest : List ℕ) → (two_bytes h l ≡ 10 → ⊥) → read_card (1 ∷ h ∷ l ∷ rest) ≡ unread 4
  pub platform-cut : (rest : List ℕ) → length rest < 10 → read_card (1 ∷ 0 ∷ 10 ∷ rest) ≡ unread 1
  pub engines : (m r u1 u2 u3 u4 s1 s2 s3 s4 : ℕ) (rest : List ℕ) → (m ≡ 0) ⊎ (16 < m) → read_card (platform_field m r u1 u2 u3 u4 s1 s2 s3 s4 ++ rest) ≡ unread 5
  pub rule : (m r u1 u2 u3 u4 s1 s2 s3 s4 : ℕ) (rest : List ℕ) → 1 ≤ m → m ≤ 16 → 1 < r
      → read_card (platform_field m r u1 u2 u3 u4 s1 s2 s3 s4 ++ rest) ≡ unread 6
  pub size : (m r u1 u2 u3 u4 s1 s2 s3 s4 : ℕ) (rest : List ℕ) → 1 ≤ m → m ≤ 16 → r ≤ 1 → (1000000 < four_bytes u1 u2 u3 u4) ⊎ (1000000 < four_bytes s1 s2 s3 s4)
      → read_card (platform_field m r u1 u2 u3 u4 s1 s2 s3 s4 ++ rest) ≡ unread 8

-- what comes next and does not pass is refused, whatever follows it. The order is that of the lines: each has as premises what the lines before it let through
pub record NextField (p : List ℕ) (last k m whole u : ℕ) : Type 0 where
  pub one_byte : (a : ℕ) → read_card (p ++ a ∷ []) ≡ unread 1
  pub two_bytes_lem : (a b : ℕ) → read_card (p ++ a ∷ b ∷ []) ≡ unread 1
  pub no-tag : (t h l : ℕ) (rest : List ℕ) → (t ≡ 1 → ⊥) → (t ≡ 2 → ⊥) → (t ≡ 3 → ⊥) → (t ≡ 4 → ⊥) → (t ≡ 5 → ⊥) → (t ≡ 6 → ⊥) → (t ≡ 7 → ⊥)
      → read_card (p ++ t ∷ h ∷ l ∷ rest) ≡ unread 2
  pub platform-again : (h l : ℕ) (rest : List ℕ) → read_card (p ++ 1 ∷ h ∷ l ∷ rest) ≡ unread 3
  pub data-place : (h l : ℕ) (rest : List ℕ) → (MayData last → ⊥) → read_card (p ++ 3 ∷ h ∷ l ∷ rest) ≡ unread 3
  pub most-place : (h l : ℕ) (rest : List ℕ) → (MayMost last → ⊥) → read_card (p ++ 4 ∷ h ∷ l ∷ rest) ≡ unread 3
  pub pace-place : (h l : ℕ) (rest : List ℕ) → (MayPace last → ⊥) → read_card (p ++ 5 ∷ h ∷ l ∷ rest) ≡ unread 3
  pub second-place : (h l : ℕ) (rest : List ℕ) → (last ≡ 1 → ⊥) → read_card (p ++ 6 ∷ h ∷ l ∷ rest) ≡ unread 3
  pub costs-place : (h l : ℕ) (rest : List ℕ) → (MayCosts last → ⊥) → read_card (p ++ 7 ∷ h ∷ l ∷ rest) ≡ unread 3
  pub type-length : (h l : ℕ) (rest : List ℕ) → (two_bytes h l ≡ 10 → ⊥) → read_card (p ++ 2 ∷ h ∷ l ∷ rest) ≡ unread 4
  pub data-length : (h l : ℕ) (rest : List ℕ) → MayData last → (two_bytes h l ≡ 4 → ⊥) → read_card (p ++ 3 ∷ h ∷ l ∷ rest) ≡ unread 4
  pub most-length : (h l : ℕ) (rest : List ℕ) → MayMost last → (two_bytes h l ≡ 2 → ⊥) → read_card (p ++ 4 ∷ h ∷ l ∷ rest) ≡ unread 4
  pub pace-length : (h l : ℕ) (rest : List ℕ) → MayPace last → (two_bytes h l ≡ 8 → ⊥) → read_card (p ++ 5 ∷ h ∷ l ∷ rest) ≡ unread 4
  pub second-length : (h l : ℕ) (rest : List ℕ) → last ≡ 1 → (two_bytes h l ≡ 9 → ⊥) → read_card (p ++ 6 ∷ h ∷ l ∷ rest) ≡ unread 4
  pub costs-length : (h l : ℕ) (rest : List ℕ) → MayCosts last → (two_bytes h l ≡ 8 → ⊥) → read_card (p ++ 7 ∷ h ∷ l ∷ rest) ≡ unread 4
  pub type-cut : (rest : List ℕ) → length rest < 10 → read_card (p ++ 2 ∷ 0 ∷ 10 ∷ rest) ≡ unread 1
  pub data-cut : (rest : List ℕ) → MayData last → length rest < 4 → read_card (p ++ 3 ∷ 0 ∷ 4 ∷ rest) ≡ unread 1
  pub most-cut : (rest : List ℕ) → MayMost last → length rest < 2 → read_card (p ++ 4 ∷ 0 ∷ 2 ∷ rest) ≡ unread 1
  pub pace-cut : (rest : List ℕ) → MayPace last → length rest < 8 → read_card (p ++ 5 ∷ 0 ∷ 8 ∷ rest) ≡ unread 1
  pub second-cut : (rest : List ℕ) → last ≡ 1 → length rest < 9 → read_card (p ++ 6 ∷ 0 ∷ 9 ∷ rest) ≡ unread 1
  pub costs-cut : (rest : List ℕ) → MayCosts last → length rest < 8 → read_card (p ++ 7 ∷ 0 ∷ 8 ∷ rest) ≡ unread 1
  pub seventh-type : (u1 u2 u3 u4 s1 s2 s3 s4 n1 n2 : ℕ) (rest : List ℕ) → 6 ≤ k → read_card (p ++ (type_field u1 u2 u3 u4 s1 s2 s3 s4 n1 n2 ++ rest)) ≡ unread 7
  pub second-number : (n u1 u2 u3 u4 s1 s2 s3 s4 : ℕ) (rest : List ℕ) → last ≡ 1 → (n ≡ 0) ⊎ (16 < m + n)
      → read_card (p ++ (second_field n u1 u2 u3 u4 s1 s2 s3 s4 ++ rest)) ≡ unread 5
  pub type-size : (u1 u2 u3 u4 s1 s2 s3 s4 n1 n2 : ℕ) (rest : List ℕ) → k < 6 → (1000000 < four_bytes u1 u2 u3 u4) ⊎ (1000000 < four_bytes s1 s2 s3 s4)
      → read_card (p ++ (type_field u1 u2 u3 u4 s1 s2 s3 s4 n1 n2 ++ rest)) ≡ unread 8
  pub data-size : (d1 d2 d3 d4 : ℕ) (rest : List ℕ) → MayData last → 1000000 < four_bytes d1 d2 d3 d4
      → read_card (p ++ (data_field d1 d2 d3 d4 ++ rest)) ≡ unread 8
  pub second-size : (n u1 u2 u3 u4 s1 s2 s3 s4 : ℕ) (rest : List ℕ) → last ≡ 1 → 1 ≤ n → m + n ≤ 16
      → (1000000 < four_bytes u1 u2 u3 u4) ⊎ (1000000 < four_bytes s1 s2 s3 s4)
      → read_card (p ++ (second_field n u1 u2 u3 u4 s1 s2 s3 s4 ++ rest)) ≡ unread 8
  pub costs-size : (u1 u2 u3 u4 s1 s2 s3 s4 : ℕ) (rest : List ℕ) → MayCosts last → (1000000 < four_bytes u1 u2 u3 u4) ⊎ (1000000 < four_bytes s1 s2 s3 s4)
      → read_card (p ++ (costs_field u1 u2 u3 u4 s1 s2 s3 s4 ++ rest)) ≡ unread 8
  pub most-none : (q1 q2 : ℕ) (rest : List ℕ) → MayMost last → two_bytes q1 q2 ≡ 0 → read_card (p ++ (most_field q1 q2 ++ rest)) ≡ unread 31
  pub pace-broken : (c1 c2 c3 c4 t1 t2 t3 t4 : ℕ) (rest : List ℕ) → MayPace last → (PaceWithin whole u (four_bytes c1 c2 c3 c4) (four_bytes t1 t2 t3 t4) → ⊥)
      → read_card (p ++ (pace_field c1 c2 c3 c4 t1 t2 t3 t4 ++ rest)) ≡ unread 43

-- "Either all are present or none": with one kind no type has a tag 7, with two each has one
pub record AllOrNone (k kinds w : ℕ) : Type 0 where
  pub one : kinds ≡ 1 → w ≡ 0
  pub two : kinds ≡ 2 → w ≡ k

-- where nothing comes next: no type, then a tag 7 that is missing or too many, then too many columns; any other file opens. One of two kinds is refused 42
-- where one kind is wanted
pub record FileEnd (p : List ℕ) (k c kinds w : ℕ) : Type 0 where
  pub no-type : k ≡ 0 → read_card p ≡ unread 9
  pub some-kinds : 1 ≤ k → (AllOrNone k kinds w → ⊥) → read_card p ≡ unread 41
  pub columns-over : 1 ≤ k → AllOrNone k kinds w → 4096 < c → read_card p ≡ unread 10
  pub opens : 1 ≤ k → AllOrNone k kinds w → c ≤ 4096
      → (y : System) × (read_card p ≡ opened y) × (kinds ≡ 1 → read_file p ≡ opened y) × (kinds ≡ 2 → read_file p ≡ unread 42)

-- with the laws of the first field (`FirstField`) every file's refusal is told: it is empty, or its first field is refused, or it has such a beginning
-- (`Beginnings`). A refusal is the same whether two kinds of engine are wanted or one
pub record LaterFields : Type 0 where
  pub empty-file : read_card [] ≡ unread 9
  pub next_field : (p : List ℕ) (last k c m kinds w whole u : ℕ) → Beginning p last k c m kinds w whole u → NextField p last k m whole u
  pub file-end : (p : List ℕ) (last k c m kinds w whole u : ℕ) → Beginning p last k c m kinds w whole u → FileEnd p k c kinds w
  pub refused-alike : (file : List ℕ) (n : ℕ) → read_card file ≡ unread n → read_file file ≡ unread n

-- "Fields follow each other: tag (1 byte), body length (2 bytes), body": whole fields, whatever their tags and bodies are; and the tag of the last one
pub data WholeFields : List ℕ → ℕ → Type 0 where
  a-field : (t h l : ℕ) (body : List ℕ) → length body ≡ two_bytes h l → WholeFields (t ∷ h ∷ l ∷ body) t
  then-fields : (t h l : ℕ) (body rest : List ℕ) (last : ℕ) → length body ≡ two_bytes h l → WholeFields rest last → WholeFields (t ∷ h ∷ l ∷ (body ++ rest)) last

-- a file that is read to its end: it opens, or it is refused by what is judged there
abbrev pub AtEnd : Reading → Type 0
AtEnd x = ((y : System) × (x ≡ opened y)) ⊎ ((x ≡ unread 9) ⊎ ((x ≡ unread 41) ⊎ (x ≡ unread 10)))

-- a beginning, whatever its numbers are but for the tag of its last field
pub record Begun (p : List ℕ) (last : ℕ) : Type 0 where
  pub k : ℕ
  pub c : ℕ
  pub m : ℕ
  pub kinds : ℕ
  pub w : ℕ
  pub whole : ℕ
  pub u : ℕ
  pub is : Beginning p last k c m kinds w whole u

-- how wide `Beginning` is, without its own words: it holds exactly of the whole fields that are read to the file's end, and it holds after each field of every
-- file that is, whatever comes after that field. So `LaterFields` speaks of every file that opens, and of every field of it
pub record Beginnings : Type 0 where
  pub whole-file : (file : List ℕ) → (file ≡ [] → ⊥) → AtEnd (read_card file) → (last : ℕ) × (WholeFields file last)
  pub each-field : (p rest : List ℕ) (last : ℕ) → WholeFields p last → AtEnd (read_card (p ++ rest)) → Begun p last
  pub nothing-else : (p : List ℕ) (last : ℕ) → Begun p last → (WholeFields p last) × (AtEnd (read_card p))

-- how many of these fields have a tag
abbrev pub tagged : {file : List ℕ} {last : ℕ} → ℕ → WholeFields file last → ℕ
tagged tag (a-field t h l body size) = cond (eqb t tag) 1 0
tagged tag (then-fields t h l body rest last size more) = cond (eqb t tag) 1 0 + tagged tag more

-- "how many" in document 01's table of fields: the number that a rule allows is the most that a file has that opens. None has more, and one file has as many
-- of every tag
pub record HowMany : Type 0 where
  pub no_more : (r : FieldRule) → rule_of field_rules r.tag ≡ Some r
      → (file : List ℕ) (y : System) (last : ℕ) (fields : WholeFields file last) → read_card file ≡ opened y → tagged r.tag fields ≤ r.allowed
  pub as_many : (file : List ℕ) × (y : System) × (last : ℕ) × (fields : WholeFields file last) × (read_card file ≡ opened y)
      × ((r : FieldRule) → rule_of field_rules r.tag ≡ Some r → tagged r.tag fields ≡ r.allowed)

-- what stands at a place of a file, after the bytes before it: a field's tag, length and body, and the place after it. The field is whole, or cut in its body
-- or in its head; or the place is the file's end, or past it
pub data StandsAt : List ℕ → ℕ → ℕ → ℕ → List ℕ → ℕ → Type 0 where
  whole-field : (before : List ℕ) (t h l : ℕ) (body after : List ℕ) → length body ≡ two_bytes h l
      → StandsAt (before ++ (t ∷ h ∷ l ∷ (body ++ after))) (length before) t (two_bytes h l) body (length before + (3 + two_bytes h l))
  body-cut : (before : List ℕ) (t h l : ℕ) (rest : List ℕ) → length rest < two_bytes h l
      → StandsAt (before ++ (t ∷ h ∷ l ∷ rest)) (length before) t (two_bytes h l) [] (length before)
  two_bytes_lem : (before : List ℕ) (a b : ℕ) → StandsAt (before ++ (a ∷ b ∷ [])) (length before) a (two_bytes b 0) [] (length before)
  one_byte : (before : List ℕ) (a : ℕ) → StandsAt (before ++ (a ∷ [])) (length before) a 0 [] (length before)
  past_end : (file : List ℕ) (at : ℕ) → length file ≤ at → StandsAt file at 0 0 [] at

-- the field step after some bytes: the next field is whole, or cut in its body or in its head; and at the file's end and past it. Its body is the part from
-- `start` to `next`. In its four answers the step answers what stands there; and something does, at every place of every file
pub record FieldStep : Type 0 where
  pub whole-field : (before : List ℕ) (t h l : ℕ) (body after : List ℕ) → length body ≡ two_bytes h l
      → field_at (before ++ (t ∷ h ∷ l ∷ (body ++ after))) (length before)
      ≡ record { tag = t; size = two_bytes h l; headed = true; whole = true; start = length before + 3; next = record { at = length before + (3 + two_bytes h l) } }
  pub body-cut : (before : List ℕ) (t h l : ℕ) (rest : List ℕ) → length rest < two_bytes h l
      → field_at (before ++ (t ∷ h ∷ l ∷ rest)) (length before)
      ≡ record { tag = t; size = two_bytes h l; headed = true; whole = false; start = length before; next = record { at = length before } }
  pub two_bytes_lem : (before : List ℕ) (a b : ℕ)
      → field_at (before ++ (a ∷ b ∷ [])) (length before)
      ≡ record { tag = a; size = two_bytes b 0; headed = false; whole = false; start = length before; next = record { at = length before } }
  pub one_byte : (before : List ℕ) (a : ℕ)
      → field_at (before ++ (a ∷ [])) (length before) ≡ record { tag = a; size = 0; headed = false; whole = false; start = length before; next = record { at = length before } }
  pub past_end : (file : List ℕ) (at : ℕ) → length file ≤ at
      → field_at file at ≡ record { tag = 0; size = 0; headed = false; whole = false; start = at; next = record { at = at } }
  pub body : (before : List ℕ) (t h l : ℕ) (body after : List ℕ) → length body ≡ two_bytes h l
      → let file = before ++ (t ∷ h ∷ l ∷ (body ++ after)) in
      part_of file (field_at file (length before)).start (field_at file (length before)).next.at ≡ body
  pub no_body : (file : List ℕ) (at : ℕ) → (field_at file at).whole ≡ false → part_of file (field_at file at).start (field_at file at).next.at ≡ []
  pub answers : (file : List ℕ) (at t n : ℕ) (body : List ℕ) (next : ℕ) → StandsAt file at t n body next
      → (tag_at file at ≡ t) × (length_at file at ≡ n) × (body_at file at ≡ body) × ((next_at file at).at ≡ next)
  pub always : (file : List ℕ) (at : ℕ) → (t : ℕ) × (n : ℕ) × (body : List ℕ) × (next : ℕ) × StandsAt file at t n body next
