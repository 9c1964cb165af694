-- `reader::body_of` meets its contract: the tag picks the case.
use native.Mathlib.Omega.{arith}
use borrow.Author.Tests.{ne_eqb}
use Rattle.system.specs.Layout.{body_of}
use Rattle.system_code.proofs.Goes.{few_seen, many_seen, types-seen}
use Rattle.system_code.proofs.reader.body_of.Goals as goal

pub returns-then-rule-seen_of : goal.returns-then-rule-seen_of
unfolding body_of
returns-then-rule-seen_of c = rw (many_seen c.args.rule c.args.y c.seen_of.result c.seen_of.ensures c.if-rule-seen_of.true)

pub type_of-requires : goal.type_of-requires
type_of-requires c = omega (arith, c.seen_of.ensures, types-seen c.args.rule.tag c.args.y c.in-2.is, c.requires.allowed)

pub returns-in-2 : goal.returns-in-2
unfolding body_of
returns-in-2 c =
    let few = few_seen c.args.rule c.args.y c.seen_of.result c.seen_of.ensures c.if-rule-seen_of.false in
    rw (few, c.in-2.is) c.type_of.ensures

pub returns-in-3 : goal.returns-in-3
unfolding body_of
returns-in-3 c =
    let few = few_seen c.args.rule c.args.y c.seen_of.result c.seen_of.ensures c.if-rule-seen_of.false in
    rw (few, c.in-3.is) c.data_of.ensures

pub returns-in-4 : goal.returns-in-4
unfolding body_of
returns-in-4 c =
    let few = few_seen c.args.rule c.args.y c.seen_of.result c.seen_of.ensures c.if-rule-seen_of.false in
    rw (few, c.in-4.is) c.most_of.ensures

pub returns-in-5 : goal.returns-in-5
unfolding body_of
returns-in-5 c =
    let few = few_seen c.args.rule c.args.y c.seen_of.result c.seen_of.ensures c.if-rule-seen_of.false in
    rw (few, c.in-5.is) c.pace_of.ensures

pub returns-in-6 : goal.returns-in-6
unfolding body_of
returns-in-6 c =
    let few = few_seen c.args.rule c.args.y c.seen_of.result c.seen_of.ensures c.if-rule-seen_of.false in
    rw (few, c.in-6.is) c.second_of.ensures

pub returns-in-7 : goal.returns-in-7
unfolding body_of
returns-in-7 c =
    let few = few_seen c.args.rule c.args.y c.seen_of.result c.seen_of.ensures c.if-rule-seen_of.false in
    rw (few, c.in-7.is) c.costs_of.ensures

pub returns-in_default : goal.returns-in_default
unfolding body_of
returns-in_default c =
    let few = few_seen c.args.rule c.args.y c.seen_of.result c.seen_of.ensures c.if-rule-seen_of.false in
    let tag = c.args.rule.tag in
    rw (
      few,
      ne_eqb tag 2 (λ e. omega (arith, e)),
      ne_eqb tag 3 (λ e. omega (arith, e)),
      ne_eqb tag 4 (λ e. omega (arith, e)),
      ne_eqb tag 5 (λ e. omega (arith, e)),
      ne_eqb tag 6 (λ e. omega (arith, e)),
      ne_eqb tag 7 (λ e. omega (arith, e)),
    ) c.platform_of.ensures
