-- What is read comes back: along a reading, some file of the system so far and the bytes that are left are the whole file.
-- A field that was accepted has the bytes that its platform, its second kind, its type, or what belongs to a type is written with, since bytes that were read as a number are that number's bytes.
-- A platform comes without a second kind, which a tag 6 gives. A type comes without d, q, C and T, and without u and s there. Where a tag 3 follows, it is told; a tag 4 gives q, a tag 5 C
-- and T, a tag 7 u and s there.
use Rattle.std.proofs.Common.{None, Some, Option}
use Rattle.system.specs.declared.Kind.{Kind}
use Prim.Native.Nat.{ℕ, zero, suc, ◌+◌, ◌-◌, ◌≤◌, ◌<◌}
use mathlib.Core.Path.{◌≡◌, refl, sym, ap, ap₂, ◌∙◌, subst}
use mathlib.Core.List.{List, [], ◌∷◌, ◌++◌, append-nil, append_assoc}
use mathlib.Core.Bool.{Bool, true, false, cond, ◌||◌}
use mathlib.Core.Logic.{⊎_elim}
use native.Mathlib.Omega.{arith}
use native.Mathlib.Nat.{le_refl}
use borrow.Author.Tests.{leb-true, leb-false, eqb-false, eq-eqb, ne_eqb}
use lib.ListN.{length, get_or, take, drop, length-drop, take-append-drop}
use lib.Seq.{drop-cons, get_or-drop, get_or-set_same, get_or-set_other}
use lib.Dec.{leb, eqb, lit<}
use Rattle.buffer.proofs.Laws.{bytes2-back, bytes4-back}
use Rattle.system.specs.declared.TaskType.{TaskType}
use Rattle.system.specs.declared.System.{System}
use Rattle.system.specs.declared.FieldRule.{FieldRule}
use Rattle.system.specs.Values.{task_of, with_data, with_most, with_pace, with_costs, no_task, blank, with_platform, with_second, with_type, last_type, with_last}
use Rattle.system.specs.Limits.{or_else, type_limit, platform_fault, kind_fault, type_fault, most_fault, pace_fault, costs_fault, kinds_fault, columns_fault}
use Rattle.system.specs.Rules.{platform_rule, type_rule, data_rule, most_rule, pace_rule, second_rule, costs_rule, head_size, ruled_size}
use Rattle.system.specs.Layout.{Reading, opened, unread, byte_at, word2, word4, field_size, whole_field, body_part}
use Rattle.system.specs.Layout.{platform_from, platform_of, type_from, type_of, data_from, data_of, most_from, most_of, pace_from, pace_of, second_from, second_of, costs_from, costs_of}
use Rattle.system.specs.Layout.{body_of, field_of, end_of, after_field, fields_from, read_card}
use Rattle.system.specs.Inner.{PastTypes}
use Rattle.system.proofs.Laws.{passes, no-fault, either-false, platform-first, type-later, data-after-type, most-after-type, pace-after-type, second-after-platform, costs-after-type}
use Rattle.system.proofs.Laws.{OneOf, a-platform, a-type, a-data, a-most, a-pace, a_second, a-costs, Passed, field_of-opened, Sound, sound-blank, sound-field}
use Rattle.partition.specs.Plain.{type_no}
use Rattle.writer.specs.Meaning.{two_out, four_out, platform_out, second_out, type_out, types_out, file_with, IsBytes}
use Rattle.writer.proofs.Bytes.{four-out}
use Rattle.writer.proofs.Told.{type-given, type-limited, type-paced, type-costed, types_same_lem}

-- intermediate: the bytes of a field, one by one

-- n bytes from place i on
abbrev bytes_from : ℕ → ℕ → List ℕ → List ℕ
bytes_from zero i s = []
bytes_from (suc n) i s = byte_at s i ∷ bytes_from n (suc i) s

take-bytes : (n i : ℕ) (s : List ℕ) → i + n ≤ length s → take n (drop i s) ≡ bytes_from n i s
take-bytes zero i s h = refl
take-bytes (suc n) i s h = ap (take (suc n)) (drop-cons s i 0 (omega arith)) ∙ ap (λ (l : List ℕ). byte_at s i ∷ l) (take-bytes n (suc i) s (omega arith))

-- a whole field of a rule
record Whole (s : List ℕ) (r : FieldRule) : Type 0 where
  first : byte_at s 0 ≡ r.tag
  size : word2 s 1 ≡ r.body
  long : ruled_size r ≤ length s
  body : body_part s ≡ bytes_from r.body head_size s

whole-field : (s : List ℕ) (last : ℕ) (r : FieldRule) → Passed (byte_at s 0) (word2 s 1) (whole_field s) last r → Whole s r
whole-field s last r p =
    let long : ruled_size r ≤ length s = omega (arith, p.length, leb-true (field_size s) (length s) p.whole) in
    record {
      first = sym p.rule.same_tag;
      size = p.length;
      long = long;
      body =
          ap (λ (b : Bool). cond b (take (word2 s 1) (drop head_size s)) []) p.whole
          ∙ ap (λ (n : ℕ). take n (drop head_size s)) p.length
          ∙ take-bytes r.body head_size s long;
    }

module _ (s : List ℕ) (bytes : IsBytes s) where
  four-back : (i : ℕ) → four_out (word4 s i) ≡ byte_at s i ∷ byte_at s (i + 1) ∷ byte_at s (i + 2) ∷ byte_at s (i + 2 + 1) ∷ []
  four-back i =
      sym (four-out (word4 s i)) ∙ bytes4-back (byte_at s i) (byte_at s (i + 1)) (byte_at s (i + 2)) (byte_at s (i + 2 + 1)) (bytes (i + 1)) (bytes (i + 2)) (bytes (i + 2 + 1))

  -- the head: its tag, and its length in two bytes
  module _ (r : FieldRule) (short : r.body < 256) (f : Whole s r) where
    high : 0 ≡ byte_at s 1
    high = omega (arith, f.size, bytes 2)

    low : r.body ≡ byte_at s 2
    low = omega (arith, f.size, bytes 2)

    whole-bytes : take (field_size s) s ≡ bytes_from (ruled_size r) 0 s
    whole-bytes = ap (λ (n : ℕ). take (head_size + n) s) f.size ∙ take-bytes (ruled_size r) 0 s (omega (arith, f.long))

  platform-back : Whole s platform_rule → (z : System) → platform_out (with_platform (byte_at s 3) (byte_at s 4) (word4 s 5) (word4 s 9) z) ≡ take (field_size s) s
  platform-back f z =
      (λ i. sym f.first i ∷ high platform_rule (lit< tt) f i ∷ low platform_rule (lit< tt) f i ∷ byte_at s 3 ∷ byte_at s 4 ∷ (four-back 5 i ++ four-back 9 i))
      ∙ sym (whole-bytes platform_rule (lit< tt) f)

  type-back : Whole s type_rule → type_out false (task_of (word4 s 3) (word4 s 7) (word2 s 11)) ≡ take (field_size s) s
  type-back f =
      (λ i. sym f.first i ∷ high type_rule (lit< tt) f i ∷ low type_rule (lit< tt) f i ∷ (four-back 3 i ++ (four-back 7 i ++ bytes2-back (byte_at s 11) (byte_at s 12) (bytes 12) i)))
      ∙ sym (whole-bytes type_rule (lit< tt) f)

  data-back : Whole s data_rule → 3 ∷ 0 ∷ 4 ∷ four_out (word4 s 3) ≡ take (field_size s) s
  data-back f = (λ i. sym f.first i ∷ high data_rule (lit< tt) f i ∷ low data_rule (lit< tt) f i ∷ four-back 3 i) ∙ sym (whole-bytes data_rule (lit< tt) f)

  most-back : Whole s most_rule → 4 ∷ 0 ∷ 2 ∷ two_out (word2 s 3) ≡ take (field_size s) s
  most-back f =
      (λ i. sym f.first i ∷ high most_rule (lit< tt) f i ∷ low most_rule (lit< tt) f i ∷ bytes2-back (byte_at s 3) (byte_at s 4) (bytes 4) i)
      ∙ sym (whole-bytes most_rule (lit< tt) f)

  pace-back : Whole s pace_rule → 5 ∷ 0 ∷ 8 ∷ (four_out (word4 s 3) ++ four_out (word4 s 7)) ≡ take (field_size s) s
  pace-back f =
      (λ i. sym f.first i ∷ high pace_rule (lit< tt) f i ∷ low pace_rule (lit< tt) f i ∷ (four-back 3 i ++ four-back 7 i))
      ∙ sym (whole-bytes pace_rule (lit< tt) f)

  second_back : Whole s second_rule → 6 ∷ 0 ∷ 9 ∷ byte_at s 3 ∷ (four_out (word4 s 4) ++ four_out (word4 s 8)) ≡ take (field_size s) s
  second_back f =
      (λ i. sym f.first i ∷ high second_rule (lit< tt) f i ∷ low second_rule (lit< tt) f i ∷ byte_at s 3 ∷ (four-back 4 i ++ four-back 8 i))
      ∙ sym (whole-bytes second_rule (lit< tt) f)

  costs-back : Whole s costs_rule → 7 ∷ 0 ∷ 8 ∷ (four_out (word4 s 3) ++ four_out (word4 s 7)) ≡ take (field_size s) s
  costs-back f =
      (λ i. sym f.first i ∷ high costs_rule (lit< tt) f i ∷ low costs_rule (lit< tt) f i ∷ (four-back 3 i ++ four-back 7 i))
      ∙ sym (whole-bytes costs_rule (lit< tt) f)

-- intermediate: a file with one field more

-- what is told of type k, and of all others what was told before
abbrev tells : ℕ → Bool → (ℕ → Bool) → ℕ → Bool
tells k b told t = cond (eqb t k) b (told t)

tells-it : (k : ℕ) (b : Bool) (told : ℕ → Bool) → tells k b told k ≡ b
tells-it k b told = rw (eq-eqb k k refl)

tells-other : (k : ℕ) (b : Bool) (told : ℕ → Bool) (t : ℕ) → (t ≡ k → ⊥) → tells k b told t ≡ told t
tells-other k b told t n = rw (ne_eqb t k n)

-- types 1 to k, the last by itself
types-last : (told : ℕ → Bool) (y : System) (k : ℕ) → 1 ≤ k → types_out told y k ≡ types_out told y (k - 1) ++ type_out (told k) (type_no y k)
unfolding types_out
types-last told y zero h = absurd (omega arith)
types-last told y (suc k) h = let back : k ≡ suc k - 1 = omega arith in ap (λ (j : ℕ). types_out told y j ++ type_out (told (suc k)) (type_no y (suc k))) back

-- type k in another form, told another way: it changes its own bytes alone
types-set : (told : ℕ → Bool) (z next : System) (k : ℕ) (b : Bool) (t : TaskType) → 1 ≤ k → type_no next k ≡ t → ((i : ℕ) → (i ≡ k - 1 → ⊥) → get_or next.types i no_task ≡ get_or z.types i no_task)
    → types_out (tells k b told) next k ≡ types_out told z (k - 1) ++ type_out b t
types-set told z next k b t some here others =
    types-last (tells k b told) next k some
    ∙ ap₂ (λ (a c : List ℕ). a ++ c)
    (types_same_lem (tells k b told) told next z (k - 1) (λ i low high. λ j. type_out (tells-other k b told i (λ e. omega arith) j) (others (i - 1) (λ e. omega arith) j)))
    (λ i. type_out (tells-it k b told i) (here i))

-- before the first type: the platform alone, or with a second kind
file-platform : (told : ℕ → Bool) (z : System) → z.typecount ≡ 0 → z.second ≡ None → file_with told z ≡ platform_out z
unfolding types_out
file-platform told z e one = ap₂ (λ (s : Option Kind) (k : ℕ). platform_out z ++ (second_out s ++ types_out told z k)) one e

file-second : (told : ℕ → Bool) (z : System) (n u s : ℕ) → z.typecount ≡ 0 → z.second ≡ None
    → file_with told (with_second n u s z) ≡ file_with told z ++ (6 ∷ 0 ∷ 9 ∷ n ∷ (four_out u ++ four_out s))
unfolding types_out
file-second told z n u s e one =
    let field : List ℕ = 6 ∷ 0 ∷ 9 ∷ n ∷ (four_out u ++ four_out s) in
    ap (λ (k : ℕ). platform_out z ++ (field ++ types_out told (with_second n u s z) k)) e
    ∙ sym (ap (λ (l : List ℕ). l ++ field) (file-platform told z e one))

-- what stands before the types, and then they
file-append : (z : System) (a b : List ℕ) → platform_out z ++ (second_out z.second ++ (a ++ b)) ≡ (platform_out z ++ (second_out z.second ++ a)) ++ b
file-append z a b = ap (λ (l : List ℕ). platform_out z ++ l) (sym (append_assoc (second_out z.second) a b))

file_type : (told : ℕ → Bool) (z : System) (t : TaskType) → z.typecount < length z.types → file_with (tells (suc z.typecount) false told) (with_type t z) ≡ file_with told z ++ type_out false t
file_type told z t h =
    let k = z.typecount in
    let back : suc k - 1 ≡ k = omega arith in
    ap (λ (l : List ℕ). platform_out z ++ (second_out z.second ++ l))
    (types-set told z (with_type t z) (suc k) false t (omega arith) (ap (λ (j : ℕ). get_or (with_type t z).types j no_task) back ∙ get_or-set_same z.types k t no_task h)
    (λ i n. get_or-set_other z.types k i t no_task (λ e. n (e ∙ sym back))))
    ∙ ap (λ (j : ℕ). platform_out z ++ (second_out z.second ++ (types_out told z j ++ type_out false t))) back
    ∙ file-append z (types_out told z k) (type_out false t)

-- the last type in another form, its bytes those that it had and then a field
file-last : (told : ℕ → Bool) (z : System) (b : Bool) (t : TaskType) (field : List ℕ) → 1 ≤ z.typecount → z.typecount ≤ length z.types
    → type_out b t ≡ type_out (told z.typecount) (last_type z) ++ field → file_with (tells z.typecount b told) (with_last t z) ≡ file_with told z ++ field
file-last told z b t field some most more =
    let k = z.typecount in
    let before = types_out told z (k - 1) in
    let old = type_out (told k) (last_type z) in
    ap (λ (l : List ℕ). platform_out z ++ (second_out z.second ++ l))
    (types-set told z (with_last t z) k b t some (get_or-set_same z.types (k - 1) t no_task (omega arith)) (λ i n. get_or-set_other z.types (k - 1) i t no_task n)
    ∙ ap (λ (l : List ℕ). before ++ l) more
    ∙ sym (append_assoc before old field)
    ∙ ap (λ (l : List ℕ). l ++ field) (sym (types-last told z k some)))
    ∙ file-append z (types_out told z k) field

-- intermediate: what was read so far, as it is written

-- nothing before the platform, after it a file of the system so far
abbrev written : (ℕ → Bool) → ℕ → System → List ℕ
written told last z = cond (eqb last 0) [] (file_with told z)

written-some : (told : ℕ → Bool) (last : ℕ) (z : System) → (last ≡ 0 → ⊥) → written told last z ≡ file_with told z
written-some told last z n = rw (ne_eqb last 0 n)

-- a system so far: no type and no second kind before the platform and directly after it, no d directly after a type, no q before the tag 4, no C and T before the tag 5, and no u and s there before the tag 7
record SoFar (told : ℕ → Bool) (last : ℕ) (z : System) : Type 0 where
  sound : Sound last z
  start : last ≤ 1 → (z.typecount ≡ 0) × (z.second ≡ None)
  quiet : last ≡ 2 → (told z.typecount ≡ false) × ((last_type z).data ≡ 0)
  free : 1 < last → last < 4 → (last_type z).most ≡ None
  idle : 1 < last → last < 5 → (last_type z).pace ≡ None
  alone : 1 < last → last < 6 → (last_type z).there ≡ None

-- an accepted field adds its bytes to what is written
record Adds (told : ℕ → Bool) (s : List ℕ) (last : ℕ) (z next : System) : Type 0 where
  tells-now : ℕ → Bool
  start : byte_at s 0 ≤ 1 → (next.typecount ≡ 0) × (next.second ≡ None)
  quiet : byte_at s 0 ≡ 2 → (tells-now next.typecount ≡ false) × ((last_type next).data ≡ 0)
  free : 1 < byte_at s 0 → byte_at s 0 < 4 → (last_type next).most ≡ None
  idle : 1 < byte_at s 0 → byte_at s 0 < 5 → (last_type next).pace ≡ None
  alone : 1 < byte_at s 0 → byte_at s 0 < 6 → (last_type next).there ≡ None
  bytes : written tells-now (byte_at s 0) next ≡ written told last z ++ take (field_size s) s

module _ (told : ℕ → Bool) (s : List ℕ) (bytes : IsBytes s) (last : ℕ) (z next : System) (so_far : SoFar told last z) where
  adds-platform : Whole s platform_rule → last ≡ 0 → platform_of (body_part s) z ≡ opened next → Adds told s last z next
  unfolding platform_from
  adds-platform f first e =
      let some : byte_at s 0 ≡ 0 → ⊥ = λ w. omega (arith, f.first) in
      let early = so_far.start (omega arith) in
      let new = with_platform (byte_at s 3) (byte_at s 4) (word4 s 5) (word4 s 9) z in
      let read : platform_of (bytes_from 10 3 s) z ≡ opened next = ap (λ (b : List ℕ). platform_of b z) (sym f.body) ∙ e in
      let q = no-fault (platform_fault (byte_at s 3) (byte_at s 4) (word4 s 5) (word4 s 9)) new next read in
      subst (Adds told s last z) q.1
      (record {
        tells-now = told;
        start = λ w. early;
        quiet = λ w. absurd (omega (arith, f.first));
        free = λ low high. absurd (omega (arith, f.first));
        idle = λ low high. absurd (omega (arith, f.first));
        alone = λ low high. absurd (omega (arith, f.first));
        bytes =
            written-some told (byte_at s 0) new some
            ∙ file-platform told new early.0 early.1
            ∙ platform-back s bytes f z
            ∙ sym (ap (λ (b : Bool). cond b [] (file_with told z) ++ take (field_size s) s) (eq-eqb last 0 first));
      })

  adds-second : Whole s second_rule → last ≡ 1 → second_of (body_part s) z ≡ opened next → Adds told s last z next
  unfolding second_from
  adds-second f after e =
      let early = so_far.start (omega arith) in
      let new = with_second (byte_at s 3) (word4 s 4) (word4 s 8) z in
      let read : second_of (bytes_from 9 3 s) z ≡ opened next = ap (λ (b : List ℕ). second_of b z) (sym f.body) ∙ e in
      let q = no-fault (kind_fault z.engines (byte_at s 3) (word4 s 4) (word4 s 8)) new next read in
      subst (Adds told s last z) q.1
      (record {
        tells-now = told;
        start = λ w. absurd (omega (arith, f.first));
        quiet = λ w. absurd (omega (arith, f.first));
        free = λ low high. absurd (omega (arith, f.first));
        idle = λ low high. absurd (omega (arith, f.first));
        alone = λ low high. absurd (omega (arith, f.first));
        bytes =
            written-some told (byte_at s 0) new (λ w. omega (arith, f.first))
            ∙ file-second told z (byte_at s 3) (word4 s 4) (word4 s 8) early.0 early.1
            ∙ ap₂ (λ (a b : List ℕ). a ++ b) (sym (written-some told last z (λ w. omega arith))) (second_back s bytes f);
      })

  adds-type : Whole s type_rule → (last ≡ 0 → ⊥) → z.typecount < type_limit → type_of (body_part s) z ≡ opened next → Adds told s last z next
  unfolding type_from
  adds-type f later few e =
      let some : byte_at s 0 ≡ 0 → ⊥ = λ w. omega (arith, f.first) in
      let t = task_of (word4 s 3) (word4 s 7) (word2 s 11) in
      let now = tells (suc z.typecount) false told in
      let room : z.typecount < length z.types = omega (arith, so_far.sound.six) in
      let back : suc z.typecount - 1 ≡ z.typecount = omega arith in
      let here : last_type (with_type t z) ≡ t = ap (λ (j : ℕ). get_or (with_type t z).types j no_task) back ∙ get_or-set_same z.types z.typecount t no_task room in
      let read : type_of (bytes_from 10 3 s) z ≡ opened next = ap (λ (b : List ℕ). type_of b z) (sym f.body) ∙ e in
      let q = no-fault (type_fault t) (with_type t z) next read in
      subst (Adds told s last z) q.1
      (record {
        tells-now = now;
        start = λ w. absurd (omega (arith, f.first));
        quiet = λ w. (tells-it (suc z.typecount) false told, ap (λ (x : TaskType). x.data) here);
        free = λ low high. ap (λ (x : TaskType). x.most) here;
        idle = λ low high. ap (λ (x : TaskType). x.pace) here;
        alone = λ low high. ap (λ (x : TaskType). x.there) here;
        bytes =
            written-some now (byte_at s 0) (with_type t z) some
            ∙ file_type told z t room
            ∙ ap₂ (λ (a b : List ℕ). a ++ b) (sym (written-some told last z later)) (type-back s bytes f);
      })

  -- a field of the last type: the type's bytes, and then those of the field
  adds-last : (b : Bool) (t : TaskType) (field : List ℕ) → PastTypes last → 2 < byte_at s 0
      → (byte_at s 0 < 4 → t.most ≡ None) → (byte_at s 0 < 5 → t.pace ≡ None) → (byte_at s 0 < 6 → t.there ≡ None)
      → type_out b t ≡ type_out (told z.typecount) (last_type z) ++ field → field ≡ take (field_size s) s → Adds told s last z (with_last t z)
  adds-last b t field after later free idle alone more is =
      let sound = so_far.sound in
      let some = sound.some-type after in
      let most : z.typecount ≤ length z.types = omega (arith, sound.six, sound.typecount) in
      let here : last_type (with_last t z) ≡ t = get_or-set_same z.types (z.typecount - 1) t no_task (omega arith) in
      let now = tells z.typecount b told in
      record {
        tells-now = now;
        start = λ w. absurd (omega arith);
        quiet = λ w. absurd (omega arith);
        free = λ low high. ap (λ (x : TaskType). x.most) here ∙ free high;
        idle = λ low high. ap (λ (x : TaskType). x.pace) here ∙ idle high;
        alone = λ low high. ap (λ (x : TaskType). x.there) here ∙ alone high;
        bytes =
            written-some now (byte_at s 0) (with_last t z) (λ w. omega arith)
            ∙ file-last told z b t field some most more
            ∙ ap₂ (λ (a c : List ℕ). a ++ c) (sym (written-some told last z (λ w. omega arith))) is;
      }

  adds-data : Whole s data_rule → last ≡ 2 → data_of (body_part s) z ≡ opened next → Adds told s last z next
  unfolding data_from
  adds-data f after e =
      let d = word4 s 3 in
      let t = with_data d (last_type z) in
      let old = so_far.quiet after in
      let free = so_far.free (omega arith) (omega arith) in
      let idle = so_far.idle (omega arith) (omega arith) in
      let alone = so_far.alone (omega arith) (omega arith) in
      let field : List ℕ = 3 ∷ 0 ∷ 4 ∷ four_out d in
      let read : data_of (bytes_from 4 3 s) z ≡ opened next = ap (λ (b : List ℕ). data_of b z) (sym f.body) ∙ e in
      let q = no-fault (type_fault t) (with_last t z) next read in
      subst (Adds told s last z) q.1
      (adds-last true t field (omega arith, λ w. omega arith) (omega (arith, f.first)) (λ low. free) (λ low. idle) (λ low. alone)
      (type-given (last_type z) d old.1 free idle alone ∙ ap (λ (b : Bool). type_out b (last_type z) ++ field) (sym old.0))
      (data-back s bytes f))

  adds-most : Whole s most_rule → 1 < last → last < 4 → most_of (body_part s) z ≡ opened next → Adds told s last z next
  unfolding most_from
  adds-most f low high e =
      let n = word2 s 3 in
      let idle = so_far.idle low (omega arith) in
      let alone = so_far.alone low (omega arith) in
      let t = with_most n (last_type z) in
      let read : most_of (bytes_from 2 3 s) z ≡ opened next = ap (λ (b : List ℕ). most_of b z) (sym f.body) ∙ e in
      let q = no-fault (most_fault (Some n)) (with_last t z) next read in
      subst (Adds told s last z) q.1
      (adds-last (told z.typecount) t (4 ∷ 0 ∷ 2 ∷ two_out n) (low, λ w. omega arith) (omega (arith, f.first)) (λ less. absurd (omega (arith, f.first))) (λ less. idle) (λ less. alone)
      (type-limited (told z.typecount) (last_type z) n (so_far.free low high) idle alone)
      (most-back s bytes f))

  adds-pace : Whole s pace_rule → 1 < last → last < 5 → pace_of (body_part s) z ≡ opened next → Adds told s last z next
  unfolding pace_from
  adds-pace f low high e =
      let c = word4 s 3 in
      let p = word4 s 7 in
      let alone = so_far.alone low (omega arith) in
      let t = with_pace c p (last_type z) in
      let read : pace_of (bytes_from 8 3 s) z ≡ opened next = ap (λ (b : List ℕ). pace_of b z) (sym f.body) ∙ e in
      let q = no-fault (pace_fault z.timecap (last_type z).time (Some (record { run = c; period = p }))) (with_last t z) next read in
      subst (Adds told s last z) q.1
      (adds-last (told z.typecount) t (5 ∷ 0 ∷ 8 ∷ (four_out c ++ four_out p)) (low, λ w. omega arith) (omega (arith, f.first)) (λ less. absurd (omega (arith, f.first)))
      (λ less. absurd (omega (arith, f.first))) (λ less. alone)
      (type-paced (told z.typecount) (last_type z) c p (so_far.idle low high) alone)
      (pace-back s bytes f))

  adds-costs : Whole s costs_rule → 1 < last → last < 6 → costs_of (body_part s) z ≡ opened next → Adds told s last z next
  unfolding costs_from
  adds-costs f low high e =
      let u = word4 s 3 in
      let m = word4 s 7 in
      let t = with_costs u m (last_type z) in
      let read : costs_of (bytes_from 8 3 s) z ≡ opened next = ap (λ (b : List ℕ). costs_of b z) (sym f.body) ∙ e in
      let q = no-fault (costs_fault (Some (record { time = u; memory = m }))) (with_last t z) next read in
      subst (Adds told s last z) q.1
      (adds-last (told z.typecount) t (7 ∷ 0 ∷ 8 ∷ (four_out u ++ four_out m)) (low, λ w. omega arith) (omega (arith, f.first)) (λ less. absurd (omega (arith, f.first)))
      (λ less. absurd (omega (arith, f.first))) (λ less. absurd (omega (arith, f.first)))
      (type-costed (told z.typecount) (last_type z) u m (so_far.alone low high))
      (costs-back s bytes f))

  adds-field : field_of s last z ≡ opened next → Adds told s last z next
  unfolding body_of
  adds-field e =
      let a = field_of-opened s last z next e in
      at a.rule a.passed a.body a.passed.rule.which
    where
      of-rule : (r rule : FieldRule) → r ≡ rule → Passed (byte_at s 0) (word2 s 1) (whole_field s) last r → Whole s rule
      of-rule r rule w p = whole-field s last rule (subst (Passed (byte_at s 0) (word2 s 1) (whole_field s) last) w p)

      at : (r : FieldRule) → Passed (byte_at s 0) (word2 s 1) (whole_field s) last r → body_of r (body_part s) z ≡ opened next → OneOf r → Adds told s last z next
      at r p b (a-platform w) = adds-platform (of-rule r platform_rule w p) (platform-first last (rw w at p.place)) (rw w at b)
      at r p b (a-type w) =
          let q = passes (leb type_limit z.typecount) 7 (type_of (body_part s) z) next (rw w at b) in
          adds-type (of-rule r type_rule w p) (type-later last (rw w at p.place)) (leb-false type_limit z.typecount q.0) q.1
      at r p b (a-data w) = adds-data (of-rule r data_rule w p) ((data-after-type last).0 (rw w at p.place)) (rw w at b)
      at r p b (a-most w) =
          let after = (most-after-type last).0 (rw w at p.place) in
          let low : 1 < last = ⊎_elim (λ e. omega arith) (λ e. omega arith) after in
          let high : last < 4 = ⊎_elim (λ e. omega arith) (λ e. omega arith) after in
          adds-most (of-rule r most_rule w p) low high (rw w at b)
      at r p b (a-pace w) =
          let after = (pace-after-type last).0 (rw w at p.place) in
          let low : 1 < last = ⊎_elim (λ e. omega arith) (⊎_elim (λ e. omega arith) (λ e. omega arith)) after in
          let high : last < 5 = ⊎_elim (λ e. omega arith) (⊎_elim (λ e. omega arith) (λ e. omega arith)) after in
          adds-pace (of-rule r pace_rule w p) low high (rw w at b)
      at r p b (a_second w) = adds-second (of-rule r second_rule w p) ((second-after-platform last).0 (rw w at p.place)) (rw w at b)
      at r p b (a-costs w) =
          let after = (costs-after-type last).0 (rw w at p.place) in
          let low : 1 < last = ⊎_elim (λ e. omega arith) (⊎_elim (λ e. omega arith) (⊎_elim (λ e. omega arith) (λ e. omega arith))) after in
          let high : last < 6 = ⊎_elim (λ e. omega arith) (⊎_elim (λ e. omega arith) (⊎_elim (λ e. omega arith) (λ e. omega arith))) after in
          adds-costs (of-rule r costs_rule w p) low high (rw w at b)

-- intermediate: along a reading

-- the bytes are a file of y
abbrev IsFile : List ℕ → System → Type 0
IsFile file y = (told : ℕ → Bool) × (file ≡ file_with told y)

end_back : (told : ℕ → Bool) (last : ℕ) (z y : System) → end_of last z ≡ opened y → IsFile (written told last z ++ []) y
unfolding end_of
end_back told last z y e =
    let a = passes (eqb last 0 || eqb z.typecount 0) 9 _ y e in
    let some = either-false (eqb last 0) (eqb z.typecount 0) a.0 in
    let c = no-fault (or_else (kinds_fault z) (columns_fault z.types)) z y a.1 in
    (told, append-nil (written told last z) ∙ written-some told last z (eqb-false last 0 some.0) ∙ ap (file_with told) c.1)

fields_back : (f : ℕ) (told : ℕ → Bool) (s : List ℕ) (last : ℕ) (z y : System) → length s ≤ f → IsBytes s → SoFar told last z → fields_from f s last z ≡ opened y
    → IsFile (written told last z ++ s) y
unfolding fields_from
fields_back zero told [] last z y enough bytes so_far e = end_back told last z y e
fields_back zero told (b ∷ s) last z y enough bytes so_far e = absurd (omega arith)
fields_back (suc f) told [] last z y enough bytes so_far e = end_back told last z y e
fields_back (suc f) told (b ∷ s) last z y enough bytes so_far e =
    after (field_of (b ∷ s) last z) refl (λ now next. fields_back f now (drop (field_size (b ∷ s)) (b ∷ s)) b next y) e
  where
    left : List ℕ
    left = drop (field_size (b ∷ s)) (b ∷ s)

    left-bytes : IsBytes left
    left-bytes i = rw (get_or-drop (field_size (b ∷ s)) (b ∷ s) i 0) (bytes (field_size (b ∷ s) + i))

    after : (x : Reading) → field_of (b ∷ s) last z ≡ x
        → ((now : ℕ → Bool) (next : System) → length left ≤ f → IsBytes left → SoFar now b next → fields_from f left b next ≡ opened y → IsFile (written now b next ++ left) y)
        → after_field x (λ (next : System). fields_from f left b next) ≡ opened y
        → IsFile (written told last z ++ (b ∷ s)) y
    after (unread n) q rest e = let z : ◌≡◌ {A = ℕ} 0 1 = cc in absurd (omega arith)
    after (opened next) q rest e =
        let a = adds-field told (b ∷ s) bytes last z next so_far q in
        let joined : written a.tells-now b next ++ left ≡ written told last z ++ (b ∷ s) =
        ap (λ (l : List ℕ). l ++ left) a.bytes
        ∙ append_assoc (written told last z) (take (field_size (b ∷ s)) (b ∷ s)) left
        ∙ ap (λ (l : List ℕ). written told last z ++ l) (take-append-drop (field_size (b ∷ s)) (b ∷ s)) in
        let now : SoFar a.tells-now b next = record { sound = sound-field (b ∷ s) last z next so_far.sound q; start = a.start; quiet = a.quiet; free = a.free; idle = a.idle; alone = a.alone } in
        subst (λ (l : List ℕ). IsFile l y) joined
        (rest a.tells-now next (omega (arith, length-drop (field_size (b ∷ s)) (b ∷ s))) left-bytes now e)

-- main: every file that is read is a file of its system

pub read-comes-back : (file : List ℕ) (y : System) → IsBytes file → read_card file ≡ opened y → (told : ℕ → Bool) × (file ≡ file_with told y)
unfolding read_card
read-comes-back file y bytes e =
    fields_back (length file) (λ (t : ℕ). false) file 0 blank y (le_refl (length file)) bytes
    (record {
      sound = sound-blank;
      start = λ n. (refl, refl);
      quiet = λ n. absurd (omega arith);
      free = λ low high. absurd (omega arith);
      idle = λ low high. absurd (omega arith);
      alone = λ low high. absurd (omega arith);
    })
    e
