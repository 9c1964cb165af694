-- `reader::head_of` meets its contract: one law for each answer.
use Rattle.std.proofs.Common.{Result}
use mathlib.Core.Path.{◌≡◌, refl, sym, ap, ◌∙◌}
use mathlib.Core.Bool.{not}
use Prim.Native.Nat.{ℕ}
use lib.ListN.{drop}
use Rattle.system.specs.declared.FieldRule.{FieldRule}
use Rattle.system.specs.Outcome.{or_input}
use Rattle.system.specs.Layout.{word2, whole_field}
use Rattle.system_code.proofs.Goes.{head-is, head-cut, head-unknown, head-misplaced, head-other-size, head-body-cut, head-ruled}
use Rattle.system_code.proofs.reader.head_of.Goals as goal

-- a head that was found over its parts, as the code answers it
pub answered : {h k : Result FieldRule ℕ} → h ≡ k → or_input h ≡ or_input k
answered e = ap (λ (h : Result FieldRule ℕ). or_input h) e

pub returns-then-not-headed_at : goal.returns-then-not-headed_at
returns-then-not-headed_at c =
    let a = c.args in
    let s = drop a.c.at a.file.now in
    answered (head-cut _ _ (word2 s 1) (whole_field s) a.last c.if-not-headed_at.true ∙ head-is s a.last c.headed_at.ensures refl refl refl)

pub returns-in_default : goal.returns-in_default
returns-in_default c =
    let a = c.args in
    let s = drop a.c.at a.file.now in
    answered (head-unknown _ _ (word2 s 1) (whole_field s) a.last c.rule_of.result (ap not c.if-not-headed_at.false) c.rule_of.ensures c.in_default.is ∙ head-is s a.last c.headed_at.ensures c.tag_at.ensures refl refl)

pub returns-then-not-may_follow : goal.returns-then-not-may_follow
returns-then-not-may_follow c =
    let a = c.args in
    let s = drop a.c.at a.file.now in
    answered (head-misplaced _ _ (word2 s 1) (whole_field s) a.last c.rule_of.result (ap not c.if-not-headed_at.false) c.rule_of.ensures c.in-Some.rule c.in-Some.is (sym c.may_follow.ensures ∙ c.if-not-may_follow.true) ∙ head-is s a.last c.headed_at.ensures c.tag_at.ensures refl refl)

pub returns-then-length_at-rule : goal.returns-then-length_at-rule
returns-then-length_at-rule c =
    let a = c.args in
    let s = drop a.c.at a.file.now in
    answered (head-other-size _ _ _ (whole_field s) a.last c.rule_of.result (ap not c.if-not-headed_at.false) c.rule_of.ensures c.in-Some.rule c.in-Some.is (sym c.may_follow.ensures ∙ c.if-not-may_follow.false) c.if-length_at-rule.true ∙ head-is s a.last c.headed_at.ensures c.tag_at.ensures c.length_at.ensures refl)

pub returns-then-not-whole_at : goal.returns-then-not-whole_at
returns-then-not-whole_at c =
    let a = c.args in
    let s = drop a.c.at a.file.now in
    answered (head-body-cut _ _ _ _ a.last c.rule_of.result (ap not c.if-not-headed_at.false) c.rule_of.ensures c.in-Some.rule c.in-Some.is (sym c.may_follow.ensures ∙ c.if-not-may_follow.false) c.if-length_at-rule.false (ap not c.if-not-whole_at.true) ∙ head-is s a.last c.headed_at.ensures c.tag_at.ensures c.length_at.ensures c.whole_at.ensures)

pub returns : goal.returns
returns c =
    let a = c.args in
    let s = drop a.c.at a.file.now in
    answered (head-ruled _ _ _ _ a.last c.rule_of.result (ap not c.if-not-headed_at.false) c.rule_of.ensures c.in-Some.rule c.in-Some.is (sym c.may_follow.ensures ∙ c.if-not-may_follow.false) c.if-length_at-rule.false (ap not c.if-not-whole_at.false) ∙ head-is s a.last c.headed_at.ensures c.tag_at.ensures c.length_at.ensures c.whole_at.ensures)
