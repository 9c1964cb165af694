-- Request 2026-09: "for the same file otherwise". The rule is the fifth byte of a file, and a file whose fifth byte is changed from 0 to 1, or from 1 to 0,
-- gives the same system under the other rule.
-- It is said of systems of one kind of engine; of cards, of one kind or two (request 2026-13); and of any two files that differ in that byte alone.
use Rattle.std.specs.Prelude.{ℕ, List, ◌≡◌, length, get_or, set}
use Rattle.system.specs.declared.System.{System}
use Rattle.system.specs.Layout.{read_card, read_file, opened}
use Rattle.partition.specs.Releases.{SameButRule}

pub record RuleByte (file : List ℕ) (y : System) : Type 0 where
  pub fifth : get_or file 4 0 ≡ y.rule
  pub changed : y.rule ≡ 0 → (z : System) × (read_file (set file 4 1) ≡ opened z) × SameButRule y z
  pub back : y.rule ≡ 1 → (z : System) × (read_file (set file 4 0) ≡ opened z) × SameButRule z y

-- the same of a card
pub record CardRuleByte (file : List ℕ) (y : System) : Type 0 where
  pub fifth : get_or file 4 0 ≡ y.rule
  pub changed : y.rule ≡ 0 → (z : System) × (read_card (set file 4 1) ≡ opened z) × SameButRule y z
  pub back : y.rule ≡ 1 → (z : System) × (read_card (set file 4 0) ≡ opened z) × SameButRule z y

-- two files that differ in the rule byte alone: they are as long, every other byte is the same, and that one is 0 in the first and 1 in the second
pub record RuleApart (own_file shared_file : List ℕ) : Type 0 where
  pub long : length shared_file ≡ length own_file
  pub others : (i : ℕ) → (i ≡ 4 → ⊥) → get_or shared_file i 0 ≡ get_or own_file i 0
  pub own_copies : get_or own_file 4 0 ≡ 0
  pub shared_code : get_or shared_file 4 0 ≡ 1

-- where one of them is a card, so is the other, and whatever cards they are, these differ in their rule alone
pub record CardsApart (own_file shared_file : List ℕ) : Type 0 where
  pub reads : (own : System) → read_card own_file ≡ opened own → (shared : System) × (read_card shared_file ≡ opened shared) × SameButRule own shared
  pub back : (shared : System) → read_card shared_file ≡ opened shared → (own : System) × (read_card own_file ≡ opened own) × SameButRule own shared
  pub both : (own shared : System) → read_card own_file ≡ opened own → read_card shared_file ≡ opened shared → SameButRule own shared
