-- `type_size`: 13 bytes, and those of its d, its q, its C and T, and its u and s on the second kind.
use native.Mathlib.Omega.{arith}
use mathlib.Core.Path.{◌∙◌}
use Rattle.system.specs.Rules.{rule_of}
use Rattle.writer.proofs.Bytes.{data-longest, most-longest, pace-longest, costs-longest, type-size}
use Rattle.writer_code.proofs.Steps.{data-sized, most-sized, pace-sized, costs-sized}
use Rattle.writer_code.proofs.type_size.Goals as goal

pub overflow_add-result : goal.overflow_add-result
unfolding rule_of
overflow_add-result c =
    let t = c.args.t in
    let d = c.size_if.ensures ∙ data-sized t.data in
    omega (arith, c.field_size.ensures, d, data-longest t.data)

pub overflow_add-result-2 : goal.overflow_add-result-2
unfolding rule_of
overflow_add-result-2 c =
    let t = c.args.t in
    let d = c.size_if.ensures ∙ data-sized t.data in
    let m = c.size_if-2.ensures ∙ most-sized t.most c.is_some.ensures in
    omega (arith, c.field_size.ensures, d, m, data-longest t.data, most-longest t.most)

pub overflow_add-result-3 : goal.overflow_add-result-3
unfolding rule_of
overflow_add-result-3 c =
    let t = c.args.t in
    let d = c.size_if.ensures ∙ data-sized t.data in
    let m = c.size_if-2.ensures ∙ most-sized t.most c.is_some.ensures in
    let p = c.size_if-3.ensures ∙ pace-sized t.pace c.is_some-2.ensures in
    omega (arith, c.field_size.ensures, d, m, p, data-longest t.data, most-longest t.most, pace-longest t.pace)

pub overflow_add-result-4 : goal.overflow_add-result-4
unfolding rule_of
overflow_add-result-4 c =
    let t = c.args.t in
    let d = c.size_if.ensures ∙ data-sized t.data in
    let m = c.size_if-2.ensures ∙ most-sized t.most c.is_some.ensures in
    let p = c.size_if-3.ensures ∙ pace-sized t.pace c.is_some-2.ensures in
    let k = c.size_if-4.ensures ∙ costs-sized t.there c.is_some-3.ensures in
    omega (arith, c.field_size.ensures, d, m, p, k, data-longest t.data, most-longest t.most, pace-longest t.pace, costs-longest t.there)

pub returns : goal.returns
unfolding rule_of
returns c =
    let t = c.args.t in
    let d = c.size_if.ensures ∙ data-sized t.data in
    let m = c.size_if-2.ensures ∙ most-sized t.most c.is_some.ensures in
    let p = c.size_if-3.ensures ∙ pace-sized t.pace c.is_some-2.ensures in
    let k = c.size_if-4.ensures ∙ costs-sized t.there c.is_some-3.ensures in
    omega (arith, c.field_size.ensures, d, m, p, k, type-size t)
