-- The rule is the fifth byte of a file that is a card, and with the other rule there the file is the same card under that rule; so of a system of one kind, which is a card without a second kind.
use Prim.Native.Nat.{ℕ, zero, suc, ◌≤◌, ◌<◌}
use mathlib.Core.List.{List}
use mathlib.Core.Bool.{Bool, true, false}
use mathlib.Core.Path.{◌≡◌, refl, sym, ap, subst, ◌∙◌}
use native.Mathlib.Omega.{arith}
use borrow.Author.Tests.{leb-true, leb-false, eqb-true, eqb-false}
use lib.ListN.{length, get_or, set, length-set, get_or-eq_default}
use lib.Seq.{get_or-set_same, get_or-set_other, ext_get_or}
use lib.Dec.{leb, eqb}
use Rattle.system.specs.declared.System.{System}
use Rattle.system.specs.Layout.{read_card, read_file, opened}
use Rattle.system.proofs.Laws.{file-card, card-file}
use Rattle.partition.specs.Plain.{CardOut}
use Rattle.partition.specs.Releases.{SameButRule}
use Rattle.writer.specs.Meaning.{IsBytes, file_with, types_out}
use Rattle.writer.specs.RuleByte.{RuleByte, CardRuleByte, RuleApart, CardsApart}
use Rattle.writer.proofs.Exactly.{card-reads, card-exactly}

-- the system under another rule
abbrev under : ℕ → System → System
under rule y = record { engines = y.engines; rule = rule; timecap = y.timecap; memorycap = y.memorycap; typecount = y.typecount; types = y.types; second = y.second }

under-card : (rule : ℕ) (y : System) → rule ≤ 1 → CardOut y → CardOut (under rule y)
under-card rule y small l = record {
  engines = l.engines;
  rule = small;
  capacities = l.capacities;
  known = l.known;
  six = l.six;
  costs = l.costs;
  replicas = l.replicas;
  paces = l.paces;
  past = l.past;
  columns = l.columns;
  second = l.second;
  second_sizes = record { capacities = l.second_sizes.capacities; costs = l.second_sizes.costs };
  kinds = record { none = l.kinds.none; all = l.kinds.all };
}

-- no byte but the fifth says the rule
module _ (rule : ℕ) (told : ℕ → Bool) (y : System) where
  types-under : (n : ℕ) → types_out told (under rule y) n ≡ types_out told y n
  unfolding types_out
  types-under zero = refl
  types-under (suc n) = rw (types-under n)

  file-under : set (file_with told y) 4 rule ≡ file_with told (under rule y)
  file-under = rw (types-under y.typecount)

  -- so the file with that byte reads as the card under that rule
  byte-read : rule ≤ 1 → CardOut y → read_card (set (file_with told y) 4 rule) ≡ opened (under rule y)
  byte-read small l = ap read_card file-under ∙ card-reads told (under rule y) (under-card rule y small l)

-- main: of a card

pub card-rule-byte : (file : List ℕ) (y : System) → IsBytes file → read_card file ≡ opened y → CardRuleByte file y
card-rule-byte file y bytes reads = record {
  fifth = ap (λ (l : List ℕ). get_or l 4 0) is.0.1;
  changed = λ own. (
    under 1 y,
    ap (λ (l : List ℕ). read_card (set l 4 1)) is.0.1 ∙ byte-read 1 is.0.0 y (omega arith) is.1,
    record { own_copies = own; shared_code = refl; engines = refl; timecap = refl; memorycap = refl; typecount = refl; types = refl; second = refl },
  );
  back = λ common. (
    under 0 y,
    ap (λ (l : List ℕ). read_card (set l 4 0)) is.0.1 ∙ byte-read 0 is.0.0 y (omega arith) is.1,
    record { own_copies = refl; shared_code = common; engines = refl; timecap = refl; memorycap = refl; typecount = refl; types = refl; second = refl },
  );
}
  where
    is : ((told : ℕ → Bool) × (file ≡ file_with told y)) × CardOut y
    is = (card-exactly file y bytes).0 reads

-- main: of a system of one kind

pub rule-byte : (file : List ℕ) (y : System) → IsBytes file → read_file file ≡ opened y → RuleByte file y
rule-byte file y bytes reads =
    let one = file-card file y reads in
    let card = card-rule-byte file y bytes one.0 in
    record {
      fifth = card.fifth;
      changed = λ own. (let c = card.changed own in (c.0, card-file (set file 4 1) c.0 c.1 (c.2.second ∙ one.1), c.2));
      back = λ common. (let c = card.back common in (c.0, card-file (set file 4 0) c.0 c.1 (sym c.2.second ∙ one.1), c.2));
    }

-- main: of two files that differ in that byte alone

-- a file that is another but for the fifth byte is the other with that byte
byte-apart : (a b : List ℕ) (rule : ℕ) → length b ≡ length a → 4 < length a → get_or b 4 0 ≡ rule → ((i : ℕ) → (i ≡ 4 → ⊥) → get_or b i 0 ≡ get_or a i 0) → set a 4 rule ≡ b
byte-apart a b rule long fifth is others = ext_get_or 0 (set a 4 rule) b (length-set a 4 rule ∙ sym long) (λ i h. at i (eqb i 4) refl)
  where
    at : (i : ℕ) (q : Bool) → eqb i 4 ≡ q → get_or (set a 4 rule) i 0 ≡ get_or b i 0
    at i true q = subst (λ (j : ℕ). get_or (set a 4 rule) j 0 ≡ get_or b j 0) (sym (eqb-true i 4 q)) (get_or-set_same a 4 rule 0 fifth ∙ sym is)
    at i false q = get_or-set_other a 4 i rule 0 (eqb-false i 4 q) ∙ sym (others i (eqb-false i 4 q))

-- two readings of one file are one card
same-card : (x : System) (y : System) → opened x ≡ opened y → x ≡ y
same-card x y e = cc

pub cards-apart : (own_file shared_file : List ℕ) → IsBytes own_file → IsBytes shared_file → RuleApart own_file shared_file → CardsApart own_file shared_file
cards-apart own_file shared_file bytes bytes_too apart = record {
  reads = forth;
  back = λ shared e. (let c = card-rule-byte shared_file shared bytes_too e in let z = c.back (sym c.fifth ∙ apart.shared_code) in (z.0, ap read_card (sym is-own) ∙ z.1, z.2));
  both = λ own shared e f. (let z = forth own e in let same = same-card z.0 shared (sym z.1 ∙ f) in subst (SameButRule own) same z.2);
}
  where
    -- both have a fifth byte
    five : 4 < length shared_file
    five = at (leb 5 (length shared_file)) refl
      where
        at : (q : Bool) → leb 5 (length shared_file) ≡ q → 4 < length shared_file
        at true q = omega (arith, leb-true 5 (length shared_file) q)
        at false q = absurd (omega (arith, apart.shared_code, get_or-eq_default shared_file 0 {n = 4} (omega (arith, leb-false 5 (length shared_file) q))))

    is_shared : set own_file 4 1 ≡ shared_file
    is_shared = byte-apart own_file shared_file 1 apart.long (omega (arith, five, apart.long)) apart.shared_code apart.others

    is-own : set shared_file 4 0 ≡ own_file
    is-own = byte-apart shared_file own_file 0 (sym apart.long) five apart.own_copies (λ i h. sym (apart.others i h))

    forth : (own : System) → read_card own_file ≡ opened own → (shared : System) × (read_card shared_file ≡ opened shared) × SameButRule own shared
    forth own e = let c = card-rule-byte own_file own bytes e in let z = c.changed (sym c.fifth ∙ apart.own_copies) in (z.0, ap read_card (sym is_shared) ∙ z.1, z.2)
