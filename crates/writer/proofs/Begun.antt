-- A file of which each field keeps its limits is read to its end (`read-to-end`), and by `beginnings` it is a beginning after each of its fields. Its platform, any second kind and
-- the fields of its types are whole fields by their lengths, and each of them leaves a rest of the file.
use Rattle.std.proofs.Common.{Option, None, Some}
use Rattle.system.specs.declared.Costs.{Costs}
use Rattle.system.specs.declared.Cycle.{Cycle}
use Prim.Native.Nat.{ℕ, zero, suc, ◌≤◌, ◌<◌}
use mathlib.Core.Path.{◌≡◌, refl, sym, ap, ◌∙◌, subst}
use mathlib.Core.List.{List, [], ◌∷◌, ◌++◌, append-nil, append_assoc}
use mathlib.Core.Bool.{Bool, true, false}
use native.Mathlib.Omega.{arith}
use borrow.Author.Tests.{leb-true, leb-false}
use lib.ListN.{length}
use lib.Dec.{leb}
use Rattle.system.specs.declared.Kind.{Kind}
use Rattle.system.specs.declared.TaskType.{TaskType}
use Rattle.system.specs.declared.System.{System}
use Rattle.system.specs.Layout.{read_card}
use Rattle.system.specs.Fields.{two_bytes, WholeFields, a-field, then-fields, NextField, AtEnd, Begun}
use Rattle.system.proofs.Later.{later-fields}
use Rattle.system.proofs.Begins.{beginnings}
use Rattle.partition.specs.Plain.{type_no, CardOut}
use Rattle.writer.specs.Meaning.{two_out, four_out, platform_out, second_out, data_out, most_out, pace_out, costs_out, type_out, types_out, file_with}
use Rattle.writer.specs.Begun.{FieldsWithin, up_to_type, own_out, FieldByField}
use Rattle.writer.proofs.Told.{HasData, left_out, given, has-data}
use Rattle.writer.proofs.Ends.{card-fields, read-to-end}

-- intermediate: whole fields

-- after whole fields
fields-on : (p q : List ℕ) (a b : ℕ) → WholeFields p a → WholeFields q b → WholeFields (p ++ q) b
fields-on p q a b (a-field t h l body size) more = then-fields t h l body q b size more
fields-on p q a b (then-fields t h l body rest last size later) more =
    subst (λ (x : List ℕ). WholeFields (t ∷ h ∷ l ∷ x) b) (sym (append_assoc body rest q)) (then-fields t h l body (rest ++ q) b size (fields-on rest q last b later more))

-- what leaves whole fields whole fields: nothing, a field, and one such after another
abbrev Joins : List ℕ → Type 0
Joins s = (p : List ℕ) (a : ℕ) → WholeFields p a → (b : ℕ) × (WholeFields (p ++ s) b)

joins-none : Joins []
joins-none p a w = (a, subst (λ (x : List ℕ). WholeFields x a) (sym (append-nil p)) w)

joins-field : (t h l : ℕ) (body : List ℕ) → length body ≡ two_bytes h l → Joins (t ∷ h ∷ l ∷ body)
joins-field t h l body size p a w = (t, fields-on p (t ∷ h ∷ l ∷ body) a t w (a-field t h l body size))

joins-both : (r s : List ℕ) → Joins r → Joins s → Joins (r ++ s)
joins-both r s f g p a w =
    let x = f p a w in
    let z = g (p ++ r) x.0 x.1 in
    (z.0, subst (λ (l : List ℕ). WholeFields l z.0) (append_assoc p r s) z.1)

joins-data : (told : Bool) (d : ℕ) → Joins (data_out told d)
joins-data told d = at (has-data told d)
  where
    at : HasData told d → Joins (data_out told d)
    at (left_out quiet none) = rw (quiet, none) joins-none
    at (given e) = rw e (joins-field 3 0 4 (four_out d) refl)

joins-most : (m : Option ℕ) → Joins (most_out m)
joins-most None = joins-none
joins-most (Some q) = joins-field 4 0 2 (two_out q) refl

joins-pace : (x : Option Cycle) → Joins (pace_out x)
joins-pace None = joins-none
joins-pace (Some c) = joins-field 5 0 8 (four_out c.run ++ four_out c.period) refl

joins-costs : (x : Option Costs) → Joins (costs_out x)
joins-costs None = joins-none
joins-costs (Some c) = joins-field 7 0 8 (four_out c.time ++ four_out c.memory) refl

joins-second : (s : Option Kind) → Joins (second_out s)
joins-second None = joins-none
joins-second (Some k) = joins-field 6 0 9 (k.number ∷ (four_out k.timecap ++ four_out k.memorycap)) refl

-- what a type has after its own field
abbrev after : Bool → TaskType → List ℕ
after told t = data_out told t.data ++ (most_out t.most ++ (pace_out t.pace ++ costs_out t.there))

own-field : (t : TaskType) → WholeFields (own_out t) 2
own-field t = a-field 2 0 10 (four_out t.time ++ (four_out t.memory ++ two_out t.ceiling)) refl

joins-type : (told : Bool) (t : TaskType) → Joins (type_out told t)
joins-type told t =
    joins-both (own_out t) (after told t) (λ p a w. (2, fields-on p (own_out t) a 2 w (own-field t)))
    (joins-both (data_out told t.data) (most_out t.most ++ (pace_out t.pace ++ costs_out t.there)) (joins-data told t.data)
    (joins-both (most_out t.most) (pace_out t.pace ++ costs_out t.there) (joins-most t.most)
    (joins-both (pace_out t.pace) (costs_out t.there) (joins-pace t.pace) (joins-costs t.there))))

joins-types : (told : ℕ → Bool) (y : System) (n : ℕ) → Joins (types_out told y n)
unfolding types_out
joins-types told y zero = joins-none
joins-types told y (suc n) = joins-both (types_out told y n) (type_out (told (suc n)) (type_no y (suc n))) (joins-types told y n) (joins-type (told (suc n)) (type_no y (suc n)))

platform-field : (y : System) → WholeFields (platform_out y) 1
platform-field y = a-field 1 0 10 (y.engines ∷ y.rule ∷ (four_out y.timecap ++ four_out y.memorycap)) refl

second-field : (y : System) (k : Kind) → y.second ≡ Some k → WholeFields (platform_out y ++ second_out y.second) 6
second-field y k is =
    subst (λ (s : Option Kind). WholeFields (platform_out y ++ second_out s) 6) (sym is)
    (fields-on (platform_out y) (second_out (Some k)) 1 6 (platform-field y) (a-field 6 0 9 (k.number ∷ (four_out k.timecap ++ four_out k.memorycap)) refl))

fields-to : (told : ℕ → Bool) (y : System) (t : ℕ) → (last : ℕ) × (WholeFields (up_to_type told y t) last)
fields-to told y t = joins-both (second_out y.second) (types_out told y t) (joins-second y.second) (joins-types told y t) (platform_out y) 1 (platform-field y)

-- intermediate: what a file starts with, and its rest

abbrev Starts : List ℕ → List ℕ → Type 0
Starts p q = (rest : List ℕ) × (p ++ rest ≡ q)

starts-trans : (p q r : List ℕ) → Starts p q → Starts q r → Starts p r
starts-trans p q r a b = (a.0 ++ b.0, sym (append_assoc p a.0 b.0) ∙ ap (λ (x : List ℕ). x ++ b.0) a.1 ∙ b.1)

module _ (told : ℕ → Bool) (y : System) where
  types-start : (t n : ℕ) → t ≤ n → Starts (types_out told y t) (types_out told y n)
  unfolding types_out
  types-start t zero few = let none : 0 ≡ t = omega arith in subst (λ (j : ℕ). Starts (types_out told y j) []) none ([], refl)
  types-start t (suc n) few = at (leb t n) refl (types-start t n)
    where
      last : List ℕ
      last = type_out (told (suc n)) (type_no y (suc n))

      at : (b : Bool) → leb t n ≡ b → (t ≤ n → Starts (types_out told y t) (types_out told y n)) → Starts (types_out told y t) (types_out told y n ++ last)
      at true e before = starts-trans (types_out told y t) (types_out told y n) (types_out told y n ++ last) (before (leb-true t n e)) (last, refl)
      at false e before =
          let same : suc n ≡ t = omega (arith, leb-false t n e) in
          subst (λ (j : ℕ). Starts (types_out told y j) (types_out told y n ++ last)) same ([], append-nil (types_out told y n ++ last))

  up_start : (t n : ℕ) → t ≤ n → Starts (up_to_type told y t) (up_to_type told y n)
  up_start t n few =
      let r = types-start t n few in
      (r.0, ap (λ (x : List ℕ). platform_out y ++ x) (append_assoc (second_out y.second) (types_out told y t) r.0 ∙ ap (λ (x : List ℕ). second_out y.second ++ x) r.1))

  own-start : (t : ℕ) → Starts (up_to_type told y t ++ own_out (type_no y (suc t))) (up_to_type told y (suc t))
  unfolding types_out
  own-start t =
      let own = own_out (type_no y (suc t)) in
      let later = after (told (suc t)) (type_no y (suc t)) in (
        later,
        append_assoc (up_to_type told y t) own later ∙ ap (λ (x : List ℕ). platform_out y ++ x) (append_assoc (second_out y.second) (types_out told y t) (own ++ later)),
      )

-- main

pub field-by-field : (told : ℕ → Bool) (y : System) → FieldsWithin y → FieldByField told y
field-by-field told y within = record {
  ends = ends;
  whole = beginnings.whole-file (file_with told y) (λ none. omega (arith, ap length none)) ends;
  each = each;
  one_byte = λ p rest last a fields is. (next p last (each p rest last fields is)).one_byte a;
  two_bytes_lem = λ p rest last a b fields is. (next p last (each p rest last fields is)).two_bytes_lem a b;
  platform = from (platform_out y) 1 (platform-field y) (second_out y.second ++ types_out told y y.typecount, refl);
  second = λ k is. from (platform_out y ++ second_out y.second) 6 (second-field y k is) (types_out told y y.typecount, append_assoc (platform_out y) (second_out y.second) (types_out told y y.typecount));
  own = λ t few.
      let before = fields-to told y t in
      let own = own_out (type_no y (suc t)) in
      from (up_to_type told y t ++ own) 2 (fields-on (up_to_type told y t) own before.0 2 before.1 (own-field (type_no y (suc t))))
      (starts-trans (up_to_type told y t ++ own) (up_to_type told y (suc t)) (file_with told y) (own-start told y t) (up_start told y (suc t) y.typecount few));
  types = λ t few. let before = fields-to told y t in (before.0, from (up_to_type told y t) before.0 before.1 (up_start told y t y.typecount few));
}
  where
    ends : AtEnd (read_card (file_with told y))
    ends = read-to-end told y within

    each : (p rest : List ℕ) (last : ℕ) → WholeFields p last → p ++ rest ≡ file_with told y → Begun p last
    each p rest last fields is = beginnings.each-field p rest last fields (subst (λ (x : List ℕ). AtEnd (read_card x)) (sym is) ends)

    next : (p : List ℕ) (last : ℕ) (b : Begun p last) → NextField p last b.k b.m b.whole b.u
    next p last b = later-fields.next_field p last b.k b.c b.m b.kinds b.w b.whole b.u b.is

    from : (p : List ℕ) (last : ℕ) → WholeFields p last → Starts p (file_with told y) → Begun p last
    from p last fields start = each p start.0 last fields start.1

-- and so of every card within the limits
pub card-by-field : (told : ℕ → Bool) (y : System) → CardOut y → FieldByField told y
card-by-field told y card = field-by-field told y (card-fields y card)
