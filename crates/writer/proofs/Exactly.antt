-- Both round trips in plain words: a file is read as the card y exactly where it is a file of y byte by byte and y keeps the limits of a card; so a file gives y exactly where y keeps them and each q
-- fits its two bytes, its own file being one. The same of systems of one kind of engine, which are the cards without a second kind.
use Rattle.std.proofs.Common.{Option, None, Some}
use Prim.Native.Nat.{ℕ, zero, suc, ◌-◌, ◌/◌, ◌≤◌, ◌<◌}
use mathlib.Core.Path.{◌≡◌, refl, ap, ◌∙◌, subst}
use mathlib.Core.List.{List, [], ◌∷◌, ◌++◌}
use mathlib.Core.Bool.{Bool, true, false}
use mathlib.Core.Logic.{◌↔◌}
use native.Mathlib.Omega.{arith}
use borrow.Author.Tests.{leb-true, leb-false}
use lib.ListN.{get_or-map}
use lib.Dec.{leb, lit<}
use Rattle.buffer.specs.Bytes.{bytes2}
use Rattle.buffer.proofs.Laws.{bytes2-small, bytes4-small}
use Rattle.system.specs.declared.Cycle.{Cycle}
use Rattle.system.specs.declared.Costs.{Costs}
use Rattle.system.specs.declared.Kind.{Kind}
use Rattle.system.specs.declared.TaskType.{TaskType}
use Rattle.system.specs.declared.System.{System}
use Rattle.system.specs.Values.{task_of, no_task, ceilings_of}
use Rattle.system.specs.Layout.{read_card, read_file, opened}
use Rattle.system.proofs.Laws.{CardLimits, card-of, card-keep, limits_of, limits-card, read-keeps-card, read-keeps-limits, file-card, card-file, ceiling-lt}
use Rattle.partition.specs.Plain.{type_no, LimitsOut, CardOut}
use Rattle.partition.proofs.Plain.{limits-out, card-out}
use Rattle.writer.specs.Meaning.{two_out, four_out, platform_out, second_out, data_out, most_out, pace_out, costs_out, type_out, types_out, file_with, file_out, IsBytes, ReadsExactly, CardExactly, Given, GivenOneKind, ReplicasFit}
use Rattle.writer.proofs.Bytes.{four-out}
use Rattle.writer.proofs.Told.{HasData, left_out, given, has-data}
use Rattle.writer.proofs.Writable.{card-writable}
use Rattle.writer.proofs.Written.{told-reads}
use Rattle.writer.proofs.Read.{read-comes-back}

-- intermediate: a file of a system within the limits is a list of bytes

bytes-append : (a b : List ℕ) → IsBytes a → IsBytes b → IsBytes (a ++ b)
bytes-append [] b p q i = q i
bytes-append (x ∷ a) b p q zero = p zero
bytes-append (x ∷ a) b p q (suc i) = bytes-append a b (λ j. p (suc j)) q i

four_bytes : (n : ℕ) → n < 4294967296 → IsBytes (four_out n)
four_bytes n h = subst IsBytes (four-out n) (λ i. bytes4-small n i h)

-- a field's head, with a body of that length
bytes-head : (tag size : ℕ) (body : List ℕ) → tag < 256 → size < 256 → IsBytes body → IsBytes (tag ∷ 0 ∷ size ∷ body)
bytes-head tag size body h l b zero = h
bytes-head tag size body h l b (suc zero) = lit< tt
bytes-head tag size body h l b (suc (suc zero)) = l
bytes-head tag size body h l b (suc (suc (suc i))) = b i

platform-bytes : (y : System) → CardLimits y → IsBytes (platform_out y)
platform-bytes y l = bytes-head 1 10 (y.engines ∷ y.rule ∷ sizes) (lit< tt) (lit< tt) body
  where
    sizes : List ℕ
    sizes = four_out y.timecap ++ four_out y.memorycap

    body : IsBytes (y.engines ∷ y.rule ∷ sizes)
    body zero = omega (arith, l.engines)
    body (suc zero) = omega (arith, l.rule)
    body (suc (suc i)) =
        bytes-append (four_out y.timecap) (four_out y.memorycap) (four_bytes y.timecap (omega (arith, l.time))) (four_bytes y.memorycap (omega (arith, l.memory))) i

-- a second kind's number fits a byte, its U and S four
record KindFits (k : Kind) : Type 0 where
  number : k.number < 256
  time : k.timecap < 4294967296
  memory : k.memorycap < 4294967296

second-bytes : (s : Option Kind) → ((k : Kind) → s ≡ Some k → KindFits k) → IsBytes (second_out s)
second-bytes None h i = lit< tt
second-bytes (Some k) h i = bytes-head 6 9 (k.number ∷ sizes) (lit< tt) (lit< tt) body i
  where
    sizes : List ℕ
    sizes = four_out k.timecap ++ four_out k.memorycap

    body : IsBytes (k.number ∷ sizes)
    body zero = (h k refl).number
    body (suc j) = bytes-append (four_out k.timecap) (four_out k.memorycap) (four_bytes k.timecap (h k refl).time) (four_bytes k.memorycap (h k refl).memory) j

-- u, s and d fit four bytes, n and q two, and C and T, and u and s on the second kind, four
abbrev MostFits : Option ℕ → Type 0
MostFits m = (q : ℕ) → m ≡ Some q → q < 65536

abbrev PaceFits : Option Cycle → Type 0
PaceFits x = (c : Cycle) → x ≡ Some c → (c.run < 4294967296) × (c.period < 4294967296)

abbrev CostsFit : Option Costs → Type 0
CostsFit x = (c : Costs) → x ≡ Some c → (c.time < 4294967296) × (c.memory < 4294967296)

record Small (t : TaskType) : Type 0 where
  time : t.time < 4294967296
  memory : t.memory < 4294967296
  ceiling : t.ceiling < 65536
  «data» : t.data < 4294967296
  most : MostFits t.most
  paces : PaceFits t.pace
  costs : CostsFit t.there

data-bytes : (told : Bool) (d : ℕ) → d < 4294967296 → IsBytes (data_out told d)
data-bytes told d h = at (has-data told d)
  where
    at : HasData told d → IsBytes (data_out told d)
    at (left_out quiet none) i = rw (quiet, none) (lit< tt)
    at (given e) i = rw e (bytes-head 3 4 (four_out d) (lit< tt) (lit< tt) (four_bytes d h) i)

most_bytes : (m : Option ℕ) → MostFits m → IsBytes (most_out m)
most_bytes None h i = lit< tt
most_bytes (Some q) h i = bytes-head 4 2 (two_out q) (lit< tt) (lit< tt) (λ j. bytes2-small q j (h q refl)) i

pace-bytes : (x : Option Cycle) → PaceFits x → IsBytes (pace_out x)
pace-bytes None h i = lit< tt
pace-bytes (Some c) h i =
    bytes-head 5 8 (four_out c.run ++ four_out c.period) (lit< tt) (lit< tt)
    (bytes-append (four_out c.run) (four_out c.period) (four_bytes c.run (h c refl).0) (four_bytes c.period (h c refl).1)) i

costs-bytes : (x : Option Costs) → CostsFit x → IsBytes (costs_out x)
costs-bytes None h i = lit< tt
costs-bytes (Some c) h i =
    bytes-head 7 8 (four_out c.time ++ four_out c.memory) (lit< tt) (lit< tt)
    (bytes-append (four_out c.time) (four_out c.memory) (four_bytes c.time (h c refl).0) (four_bytes c.memory (h c refl).1)) i

-- the bytes of u, s and n, and those that follow: of d, of q, of C and T, and of u and s on the second kind
abbrev front : TaskType → List ℕ
front t = type_out false (task_of t.time t.memory t.ceiling)

abbrev after : Bool → TaskType → List ℕ
after told t = data_out told t.data ++ (most_out t.most ++ (pace_out t.pace ++ costs_out t.there))

type-bytes : (told : Bool) (t : TaskType) → Small t → IsBytes (type_out told t)
type-bytes told t h =
    let costs = bytes-append (four_out t.memory) (bytes2 t.ceiling) (four_bytes t.memory h.memory) (λ i. bytes2-small t.ceiling i h.ceiling) in
    let body = bytes-append (four_out t.time) (four_out t.memory ++ bytes2 t.ceiling) (four_bytes t.time h.time) costs in
    let first = bytes-head 2 10 (four_out t.time ++ (four_out t.memory ++ bytes2 t.ceiling)) (lit< tt) (lit< tt) body in
    bytes-append (front t) (after told t) first
    (bytes-append (data_out told t.data) (most_out t.most ++ (pace_out t.pace ++ costs_out t.there)) (data-bytes told t.data h.data)
    (bytes-append (most_out t.most) (pace_out t.pace ++ costs_out t.there) (most_bytes t.most h.most)
    (bytes-append (pace_out t.pace) (costs_out t.there) (pace-bytes t.pace h.paces) (costs-bytes t.there h.costs))))

types-bytes : (told : ℕ → Bool) (y : System) (n : ℕ) → ((t : ℕ) → 1 ≤ t → t ≤ n → Small (type_no y t)) → IsBytes (types_out told y n)
unfolding types_out
types-bytes told y zero h = λ i. lit< tt
types-bytes told y (suc n) h =
    bytes-append (types_out told y n) (type_out (told (suc n)) (type_no y (suc n))) (types-bytes told y n (λ t low high. h t low (omega arith)))
    (type-bytes (told (suc n)) (type_no y (suc n)) (h (suc n) (omega arith) (omega arith)))

file-bytes : (told : ℕ → Bool) (y : System) → CardLimits y → CardOut y → ReplicasFit y → IsBytes (file_with told y)
file-bytes told y l w fit =
    bytes-append (platform_out y) (second_out y.second ++ types_out told y y.typecount) (platform-bytes y l)
    (bytes-append (second_out y.second) (types_out told y y.typecount) (second-bytes y.second kind) (types-bytes told y y.typecount small))
  where
    kind : (k : Kind) → y.second ≡ Some k → KindFits k
    kind k is =
        let few = w.second k is in
        let sizes = w.second_sizes.capacities k is in
        record { number = omega arith; time = omega arith; memory = omega arith }

    small : (t : ℕ) → 1 ≤ t → t ≤ y.typecount → Small (type_no y t)
    small t low high =
        let few = get_or-map (λ (x : TaskType). x.ceiling) y.types (t - 1) no_task in
        let sized = l.sized (t - 1) in
        record {
          time = omega (arith, sized.time);
          memory = omega (arith, sized.memory);
          ceiling = omega (arith, few, ceiling-lt (ceilings_of y) (t - 1), l.columns);
          «data» = omega (arith, sized.data);
          most = λ q is. fit t q low high is;
          paces = λ c is. let within = w.paces t c low high is in (omega (arith, within.run.1), omega (arith, within.period.1));
          costs = λ c is. let sizes = w.second_sizes.costs t c low high is in (omega arith, omega arith);
        }

-- intermediate: and where a file of a system is a list of bytes, each q fits its two

bytes-parts : (a b : List ℕ) → IsBytes (a ++ b) → IsBytes a × IsBytes b
bytes-parts [] b p = ((λ i. lit< tt), p)
bytes-parts (x ∷ a) b p = let rest = bytes-parts a b (λ i. p (suc i)) in (at rest.0, rest.1)
  where
    at : IsBytes a → IsBytes (x ∷ a)
    at more zero = p zero
    at more (suc i) = more i

most-fits : (m : Option ℕ) → IsBytes (most_out m) → MostFits m
most-fits m bytes q is = let high : q / 256 < 256 = rw is at (bytes 3) in omega arith

types-fit : (told : ℕ → Bool) (y : System) (n : ℕ) → IsBytes (types_out told y n) → (t : ℕ) → 1 ≤ t → t ≤ n → MostFits (type_no y t).most
unfolding types_out
types-fit told y zero bytes t low high = absurd (omega arith)
types-fit told y (suc n) bytes t low high = at (leb t n) refl (types-fit told y n parts.0 t low)
  where
    last : TaskType
    last = type_no y (suc n)

    tail : List ℕ
    tail = after (told (suc n)) last

    parts : IsBytes (types_out told y n) × IsBytes (front last ++ tail)
    parts = bytes-parts (types_out told y n) (front last ++ tail) bytes

    -- the bytes of its q
    own : IsBytes (most_out last.most)
    own =
        let later = pace_out last.pace ++ costs_out last.there in
        let rest = (bytes-parts (data_out (told (suc n)) last.data) (most_out last.most ++ later) (bytes-parts (front last) tail parts.1).1).1 in
        (bytes-parts (most_out last.most) later rest).0

    at : (b : Bool) → leb t n ≡ b → (t ≤ n → MostFits (type_no y t).most) → MostFits (type_no y t).most
    at true e before = before (leb-true t n e)
    at false e before =
        let same : suc n ≡ t = omega (arith, leb-false t n e) in
        subst (λ (j : ℕ). MostFits (type_no y j).most) same (most-fits last.most own)

file-fits : (told : ℕ → Bool) (y : System) → IsBytes (file_with told y) → ReplicasFit y
file-fits told y bytes t q low high is =
    let rest = (bytes-parts (platform_out y) (second_out y.second ++ types_out told y y.typecount) bytes).1 in
    types-fit told y y.typecount (bytes-parts (second_out y.second) (types_out told y y.typecount) rest).1 t low high q is

-- main: the round trips of cards

pub card-reads : (told : ℕ → Bool) (y : System) → CardOut y → read_card (file_with told y) ≡ opened y
card-reads told y l = let w = card-writable y ((card-out y).1 l) in told-reads told y l.six w.0 ∙ ap opened w.1

pub card-exactly : (file : List ℕ) (y : System) → IsBytes file → CardExactly file y
card-exactly file y bytes = (
  λ e. (read-comes-back file y bytes e, (card-out y).0 (read-keeps-card file y e)),
  λ p. ap read_card p.0.1 ∙ card-reads p.0.0 y p.1,
)

-- main: the round trips of systems of one kind

pub limits-reads : (told : ℕ → Bool) (y : System) → LimitsOut y → read_file (file_with told y) ≡ opened y
limits-reads told y l =
    let card = (card-out y).0 (card-keep y (limits-card y (limits_of y ((limits-out y).1 l)))) in
    card-file (file_with told y) y (card-reads told y card) l.one_kind

pub reads-exactly : (file : List ℕ) (y : System) → IsBytes file → ReadsExactly file y
reads-exactly file y bytes = (
  λ e. (read-comes-back file y bytes (file-card file y e).0, (limits-out y).0 (read-keeps-limits file y e)),
  λ p. ap read_file p.0.1 ∙ limits-reads p.0.0 y p.1,
)

-- main: the cards that a file gives

pub given-iff : (y : System) → Given y ↔ (CardOut y × ReplicasFit y)
given-iff y = (given-keeps, limits-give)
  where
    given-keeps : Given y → CardOut y × ReplicasFit y
    given-keeps g =
        let is = read-comes-back g.file y g.bytes g.reads in
        ((card-out y).0 (read-keeps-card g.file y g.reads), file-fits is.0 y (subst IsBytes is.1 g.bytes))

    limits-give : CardOut y × ReplicasFit y → Given y
    limits-give p = record {
      file = file_out y;
      bytes = file-bytes (λ (t : ℕ). false) y (card-of y ((card-out y).1 p.0)) p.0 p.1;
      reads = card-reads (λ (t : ℕ). false) y p.0;
    }

-- main: the systems of one kind that a file gives, which are those that a true board may have

pub given-one-kind : (y : System) → GivenOneKind y ↔ (LimitsOut y × ReplicasFit y)
given-one-kind y = (given-keeps, limits-give)
  where
    given-keeps : GivenOneKind y → LimitsOut y × ReplicasFit y
    given-keeps g =
        let card = (given-iff y).0 (record { file = g.file; bytes = g.bytes; reads = (file-card g.file y g.reads).0 }) in
        ((limits-out y).0 (read-keeps-limits g.file y g.reads), card.1)

    limits-give : LimitsOut y × ReplicasFit y → GivenOneKind y
    limits-give p =
        let card = (card-out y).0 (card-keep y (limits-card y (limits_of y ((limits-out y).1 p.0)))) in
        let g = (given-iff y).1 (card, p.1) in
        record { file = g.file; bytes = g.bytes; reads = card-file g.file y g.reads p.0.one_kind }
