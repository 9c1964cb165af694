-- `types_size`: each turn adds the size of one type, and the sum stays within that of all of them, which is short.
use Prim.Native.Nat.{◌<◌}
use mathlib.Core.Path.{◌≡◌, ap, ◌∙◌}
use mathlib.Core.List.{List}
use native.Mathlib.Omega.{arith}
use lib.ListN.{length, take}
use lib.Seq.{take_all, length-take-le}
use borrow.Author.Rules.{rules}
use Rattle.system.specs.declared.TaskType.{TaskType}
use Rattle.system.specs.Values.{no_task}
use Rattle.system.specs.Limits.{type_limit}
use Rattle.writer.specs.File.{types_bytes}
use Rattle.writer.proofs.Bytes.{first-longest}
use Rattle.writer_code.proofs.Steps.{types-suc-size, types-within}
use Rattle.writer_code.proofs.types_size.Goals as goal

pub loop-t-init : goal.loop-t-init
unfolding types_bytes
loop-t-init c = search rules

pub overflow_add-size : goal.overflow_add-size
overflow_add-size c =
    let k = c.args.typecount in
    let ts = take k c.args.types in
    let l = c.loop-t in
    let six : length c.args.types ≡ type_limit = search rules in
    let size : length ts ≡ k = length-take-le k c.args.types (omega (arith, c.requires)) in
    let inside : l.t-index < length ts = c.loop-t-test.true in
    omega (arith, c.requires, l.invariant, c.type_size-size.ensures, types-within ts l.t-index k no_task (omega arith) inside, first-longest ts k)

pub loop-t-preserved : goal.loop-t-preserved
loop-t-preserved c =
    let ts = take c.args.typecount c.args.types in
    let l = c.loop-t in
    omega (arith, l.invariant, c.type_size-size.ensures, types-suc-size ts l.t-index no_task c.loop-t-test.true)

pub returns : goal.returns
returns c =
    let ts = take c.args.typecount c.args.types in
    let l = c.loop-t in
    l.invariant ∙ ap (λ (s : List TaskType). length (types_bytes s)) (take_all l.t-index ts c.loop-t-test.false)
