-- How a reading goes on: the laws over plain variables that the proofs of the reader's functions cite, in the order of the functions.
use Rattle.std.proofs.Common.{Option, Some, None, Result, Ok, Err}
use Prim.Native.Nat.{ℕ, zero, suc, ◌+◌, ◌-◌, ◌≤◌, ◌<◌}
use native.Mathlib.Omega.{arith}
use mathlib.Core.List.{List, [], ◌∷◌}
use mathlib.Core.Bool.{Bool, true, false, not, cond}
use mathlib.Core.Path.{◌≡◌, sym, ap, ◌∙◌, subst}
use borrow.Author.Tests.{le-leb, lt-leb, eq-eqb, ne_eqb}
use lib.ListN.{length, drop, length-drop, drop_of_length-le}
use lib.Seq.{drop-drop}
use lib.Dec.{leb, eqb, lit≤}
use Rattle.std.specs.Prelude.{is_some}
use Rattle.system.specs.declared.Kind.{Kind}
use Rattle.system.specs.declared.System.{System}
use Rattle.system.specs.declared.FieldRule.{FieldRule}
use Rattle.system.specs.declared.Cursor.{Cursor}
use Rattle.system.specs.declared.Refusal.{Refusal}
use Rattle.system.specs.declared.Refusal.TheVariants.{Input}
use Rattle.system.specs.Outcome.{within, or_input}
use Rattle.system.specs.Inner.{Typed, PastTypes, BodyReady}
use Rattle.system.specs.Values.{blank}
use Rattle.system.specs.Limits.{type_limit, is_one_kind}
use Rattle.system.specs.Rules.{type_rule, field_rules, rule_of, follows, may_follow, head_size}
use Rattle.system.specs.Layout.{Reading, opened, unread, byte_at, word2, field_size, headed_field, whole_field, body_part, field_at, tag_at, next_at, seen_of, unless_fault}
use Rattle.system.specs.Layout.{ruled_head, head_from, head_of, body_of, ruled_field, field_of, end_of, after_field, fields_from, read_card, of_one_kind, read_result}
use Rattle.system.proofs.Laws.{whole-inside, OneOf, a-platform, a-type, a-data, a-most, a-pace, a_second, a-costs, part-later, head_of-ruled, field_of-opened, fields_from-nil}
use Rattle.system.proofs.Within.{passed_zero, refused_not_zero, refused_number}
use Rattle.system.proofs.Laws.{Sound, sound-blank, sound-field}

-- The field step, where s is what is left of the file

module _ (file : List ℕ) (at : ℕ) (s : List ℕ) (rest : s ≡ drop at file) (tag size : ℕ) (first : tag ≡ byte_at s 0) (next-two : size ≡ word2 s 1) where
  same_tag : tag ≡ byte_at (drop at file) 0
  same_tag = first ∙ ap (λ (x : List ℕ). byte_at x 0) rest

  same_size : size ≡ word2 (drop at file) 1
  same_size = next-two ∙ ap (λ (x : List ℕ). word2 x 1) rest

  same_whole : leb (head_size + size) (length s) ≡ whole_field (drop at file)
  same_whole = λ i. leb (head_size + same_size i) (length (rest i))

  pub field_cut : length s < head_size + size
      → record { tag = tag; size = size; headed = leb head_size (length s); whole = false; start = at; next = record { at = at } } ≡ field_at file at
  unfolding field_at
  field_cut h =
      let w : false ≡ whole_field (drop at file) = sym (lt-leb (head_size + size) (length s) h) ∙ same_whole in
      λ i. record {
        tag = same_tag i;
        size = same_size i;
        headed = leb head_size (length (rest i));
        whole = w i;
        start = cond (w i) (at + head_size) at;
        next = record { at = cond (w i) (at + (head_size + same_size i)) at };
      }

  pub field-whole : head_size + size ≤ length s
      → record { tag = tag; size = size; headed = leb head_size (length s); whole = true; start = at + head_size; next = record { at = at + (head_size + size) } } ≡ field_at file at
  unfolding field_at
  field-whole h =
      let w : true ≡ whole_field (drop at file) = sym (le-leb (head_size + size) (length s) h) ∙ same_whole in
      λ i. record {
        tag = same_tag i;
        size = same_size i;
        headed = leb head_size (length (rest i));
        whole = w i;
        start = cond (w i) (at + head_size) at;
        next = record { at = cond (w i) (at + (head_size + same_size i)) at };
      }

-- A reading that a test may refuse

pub fault_read : {n m : ℕ} (y : System) {why : Refusal} → n ≡ m → Err why ≡ within n → Err why ≡ read_result (unless_fault m y)
fault_read {n = n} {m = m} y {why = why} e h =
    let some : eqb m 0 ≡ false = ap (λ (k : ℕ). eqb k 0) (sym e) ∙ refused_not_zero n why h in
    let number : why ≡ Input m = refused_number n why h ∙ ap Input e in
    rw some (ap Err number)

pub passed_read : {n m : ℕ} {y z : System} → n ≡ m → y ≡ z → Ok tt ≡ within n → Ok y ≡ read_result (unless_fault m z)
passed_read {n = n} {m = m} {z = z} e same h =
    let none : eqb m 0 ≡ true = ap (λ (k : ℕ). eqb k 0) (sym e) ∙ passed_zero n h in
    rw none (ap Ok same)

-- A head whose tag and length stand there

module _ (headed : Bool) (tag size : ℕ) (whole : Bool) (last : ℕ) (found : Option FieldRule) (stands : not headed ≡ false) (look : found ≡ rule_of field_rules tag) where
  head-found : head_from headed tag size whole last ≡ ruled_head found size whole last
  head-found = rw stands (ap (λ (f : Option FieldRule). ruled_head f size whole last) (sym look))

  pub head-unknown : found ≡ None → Err 2 ≡ head_from headed tag size whole last
  unfolding ruled_head
  head-unknown e = rw (head-found, e)

  module _ (rule : FieldRule) (known : found ≡ Some rule) where
    pub head-misplaced : may_follow follows last rule.tag ≡ false → Err 3 ≡ head_from headed tag size whole last
    unfolding ruled_head
    head-misplaced p = rw (head-found, known, p)

    module _ (place : may_follow follows last rule.tag ≡ true) where
      pub head-other-size : (size ≡ rule.body → ⊥) → Err 4 ≡ head_from headed tag size whole last
      unfolding ruled_head
      head-other-size n = rw (head-found, known, place, ne_eqb size rule.body n)

      pub head-body-cut : size ≡ rule.body → not whole ≡ true → Err 1 ≡ head_from headed tag size whole last
      unfolding ruled_head
      head-body-cut e w = rw (head-found, known, place, eq-eqb size rule.body e, w)

      pub head-ruled : size ≡ rule.body → not whole ≡ false → Ok rule ≡ head_from headed tag size whole last
      unfolding ruled_head
      head-ruled e w = rw (head-found, known, place, eq-eqb size rule.body e, w)

pub head-cut : (headed : Bool) (tag size : ℕ) (whole : Bool) (last : ℕ) → headed ≡ false → Err 1 ≡ head_from headed tag size whole last
head-cut headed tag size whole last e = rw e

-- the head of a field is that of its parts, each of which was read for itself
pub head-is : (s : List ℕ) (last : ℕ) {headed : Bool} {tag size : ℕ} {whole : Bool} → headed ≡ headed_field s → tag ≡ byte_at s 0 → size ≡ word2 s 1 → whole ≡ whole_field s
    → head_from headed tag size whole last ≡ head_of s last
unfolding head_of
head-is s last a b c d = λ i. head_from (a i) (b i) (c i) (d i) last

-- and its answer is that of the definition, with a refusal from the input for a number
pub ok_head : (s : List ℕ) (last : ℕ) {rule : FieldRule} → Ok rule ≡ or_input (head_of s last) → Ok rule ≡ head_of s last
ok_head s last {rule = rule} e = at (head_of s last) e
  where
    at : (h : Result FieldRule ℕ) → Ok rule ≡ or_input h → Ok rule ≡ h
    at (Ok r) e = let same : rule ≡ r = cc in ap Ok same
    at (Err n) e = cc

-- no rule allows more than six, and what belongs to a type comes where there is one
rule-six : (rule : FieldRule) → OneOf rule → rule.allowed ≤ type_limit
rule-six rule (a-platform w) = rw w (lit≤ tt)
rule-six rule (a-type w) = rw w (lit≤ tt)
rule-six rule (a-data w) = rw w (lit≤ tt)
rule-six rule (a-most w) = rw w (lit≤ tt)
rule-six rule (a-pace w) = rw w (lit≤ tt)
rule-six rule (a_second w) = rw w (lit≤ tt)
rule-six rule (a-costs w) = rw w (lit≤ tt)

pub ruled-ready : (s : List ℕ) (last : ℕ) (y : System) {rule : FieldRule} → (PastTypes last → Typed y) → Ok rule ≡ head_of s last → BodyReady rule y
ruled-ready s last y {rule = rule} typed e =
    let p = head_of-ruled s last rule (sym e) in
    record { allowed = rule-six rule p.rule.which; typed = λ h n. typed (part-later rule last p.rule.which h n p.place) }

-- A body, of which there were few enough before

pub few_seen : (rule : FieldRule) (y : System) (seen : ℕ) → seen ≡ seen_of rule.tag y → seen < rule.allowed → leb rule.allowed (seen_of rule.tag y) ≡ false
few_seen rule y seen count h = lt-leb rule.allowed (seen_of rule.tag y) (omega arith)

pub many_seen : (rule : FieldRule) (y : System) (seen : ℕ) → seen ≡ seen_of rule.tag y → rule.allowed ≤ seen → leb rule.allowed (seen_of rule.tag y) ≡ true
many_seen rule y seen count h = le-leb rule.allowed (seen_of rule.tag y) (omega arith)

pub types-seen : (tag : ℕ) (y : System) → tag ≡ type_rule.tag → seen_of tag y ≡ y.typecount
types-seen tag y e = rw (eq-eqb tag type_rule.tag e)

-- A field, whose head was found over what stands at its start

module _ (s : List ℕ) (last : ℕ) (y : System) where
  pub field-stops : {why : Refusal} → Err why ≡ or_input (head_of s last) → Err why ≡ read_result (field_of s last y)
  unfolding field_of ruled_field
  field-stops {why = why} e = at (head_of s last) e
    where
      at : (h : Result FieldRule ℕ) → Err why ≡ or_input h → Err why ≡ read_result (ruled_field h (body_part s) y)
      at (Ok r) e = cc
      at (Err n) e = let same : why ≡ Input n = cc in ap Err same

  pub field-ruled : {rule : FieldRule} {b : List ℕ} {r : Result System Refusal} → Ok rule ≡ head_of s last → b ≡ body_part s → r ≡ read_result (body_of rule b y) → r ≡ read_result (field_of s last y)
  unfolding field_of ruled_field
  field-ruled {rule = rule} e part read =
      read ∙ ap read_result ((λ i. body_of rule (part i) y) ∙ ap (λ (h : Result FieldRule ℕ). ruled_field h (body_part s) y) e)

-- A reading as the parts answer it

refused-stays : {why : Refusal} (x : Reading) (rest : System → Reading) → Err why ≡ read_result x → Err why ≡ read_result (after_field x rest)
refused-stays (opened y) rest e = cc
refused-stays (unread n) rest e = e

ok-opened : {z : System} (x : Reading) → Ok z ≡ read_result x → x ≡ opened z
ok-opened {z = z} (opened y) e = let same : y ≡ z = cc in ap opened same
ok-opened (unread n) e = cc

-- How far a reading is: from `at` on, after a field of tag `last`, with the system y so far
pub record Reached (file : List ℕ) (at last : ℕ) (y : System) : Type 0 where
  pub fuel : ℕ
  pub enough : length file - at ≤ fuel
  pub same : read_card file ≡ fields_from fuel (drop at file) last y
  pub sound : Sound last y

pub reached-start : {file : List ℕ} {y : System} → y ≡ blank → Reached file 0 0 y
unfolding read_card
reached-start {file = file} e =
    record {
      fuel = length file;
      enough = omega arith;
      same = ap (λ (x : System). fields_from (length file) file 0 x) (sym e);
      sound = subst (Sound 0) (sym e) sound-blank;
    }

-- at or after a type there is one
pub reached-typed : {file : List ℕ} {at last : ℕ} {y : System} → Reached file at last y → PastTypes last → Typed y
reached-typed r h = record { some = r.sound.some-type h; most = r.sound.typecount }

-- the rest is empty
pub reached-end : {file : List ℕ} {at last : ℕ} {y : System} → Reached file at last y → length file ≤ at → read_card file ≡ end_of last y
reached-end {file = file} {last = last} {y = y} r h = r.same ∙ ap (λ (s : List ℕ). fields_from r.fuel s last y) (drop_of_length-le file h) ∙ fields_from-nil r.fuel last y

-- the rest begins with a field
module _ {file : List ℕ} {at last : ℕ} {y : System} (r : Reached file at last y) (more : at < length file) where
  reached-field : (g : ℕ) × (length file - at ≤ suc g)
      × (read_card file ≡ after_field (field_of (drop at file) last y) (λ (next : System). fields_from g (drop (field_size (drop at file)) (drop at file)) (byte_at (drop at file) 0) next))
  unfolding fields_from
  reached-field = some r.fuel (drop at file) r.enough (omega (arith, length-drop at file)) r.same
    where
      some : (f : ℕ) (s : List ℕ) → length file - at ≤ f → 0 < length s → read_card file ≡ fields_from f s last y
          → (g : ℕ) × (length file - at ≤ suc g) × (read_card file ≡ after_field (field_of s last y) (λ (next : System). fields_from g (drop (field_size s) s) (byte_at s 0) next))
      some zero s enough h e = absurd (omega arith)
      some (suc g) [] enough h e = absurd (omega arith)
      some (suc g) (b ∷ s) enough h e = (g, enough, e)

  -- it is refused
  pub reached-refused : {why : Refusal} → Err why ≡ read_result (field_of (drop at file) last y) → Err why ≡ read_result (read_card file)
  reached-refused {why = why} e =
      let g = reached-field in
      rw g.2 (refused-stays (field_of (drop at file) last y) _ e)

  -- it is accepted, so it is whole, and the reading goes on after it
  module _ {z : System} (read : Ok z ≡ read_result (field_of (drop at file) last y)) {next : Cursor} (step : next ≡ next_at file at) where
    field-opened : field_of (drop at file) last y ≡ opened z
    field-opened = ok-opened (field_of (drop at file) last y) read

    is_whole : whole_field (drop at file) ≡ true
    is_whole = (field_of-opened (drop at file) last y z field-opened).passed.whole

    pub next-is : next.at ≡ at + field_size (drop at file)
    next-is = ap (λ (z : Cursor). z.at) step ∙ rw is_whole

    pub next-inside : next.at ≤ length file
    next-inside = rw next-is (whole-inside file at is_whole)

    pub reached-next : {tag : ℕ} → tag ≡ tag_at file at → Reached file next.at tag z
    reached-next {tag = tag} first =
        let g = reached-field in
        let place : drop (field_size (drop at file)) (drop at file) ≡ drop next.at file =
        drop-drop (field_size (drop at file)) at file ∙ ap (λ (k : ℕ). drop k file) (sym next-is) in
        let on : read_card file ≡ fields_from g.0 (drop (field_size (drop at file)) (drop at file)) (byte_at (drop at file) 0) z = g.2 ∙ rw field-opened in
        record {
          fuel = g.0;
          enough = omega (arith, g.1, next-is);
          same = on ∙ (λ i. fields_from g.0 (place i) (sym first i) z);
          sound = rw first (sound-field (drop at file) last y z r.sound field-opened);
        }

-- Where one kind of engine is wanted: a card of one kind, or a refusal, is handed on, and one of two kinds is refused

pub one-stops : {why : Refusal} (x : Reading) → Err why ≡ read_result x → Err why ≡ read_result (of_one_kind x)
unfolding of_one_kind
one-stops (unread n) e = e
one-stops (opened y) e = cc

one_of : {b : Bool} (second : Option Kind) → b ≡ is_some second → is_one_kind second ≡ not b
one_of None e = rw e
one_of (Some k) e = rw e

pub one-reads : {y : System} {two : Bool} (x : Reading) → Ok y ≡ read_result x → two ≡ is_some y.second → two ≡ false → Ok y ≡ read_result (of_one_kind x)
unfolding of_one_kind
one-reads {y = y} x e is none = let one : is_one_kind y.second ≡ true = one_of y.second is ∙ ap not none in rw (ok-opened x e) (rw one)

pub two-refused : {y : System} {two : Bool} (x : Reading) → Ok y ≡ read_result x → two ≡ is_some y.second → two ≡ true → Err (Input 42) ≡ read_result (of_one_kind x)
unfolding of_one_kind
two-refused {y = y} x e is some = let more : is_one_kind y.second ≡ false = one_of y.second is ∙ ap not some in rw (ok-opened x e) (rw more)
