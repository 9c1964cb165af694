-- `put_types`: each turn adds the bytes of one type, so the fields of all stand at `at` after the last.
use Prim.Native.Nat.{◌≤◌, ◌<◌}
use mathlib.Core.Path.{◌≡◌, refl, ap, ◌∙◌}
use mathlib.Core.List.{List}
use native.Mathlib.Omega.{arith}
use lib.ListN.{length, take}
use lib.Seq.{take_all, length-take-le}
use borrow.Author.Rules.{rules}
use Rattle.system.specs.declared.TaskType.{TaskType}
use Rattle.system.specs.Values.{no_task}
use Rattle.system.specs.Limits.{type_limit}
use Rattle.buffer.proofs.Laws.{puts_then, puts_none}
use Rattle.writer.specs.File.{types_bytes}
use Rattle.writer_code.proofs.Steps.{types-suc, types-within}
use Rattle.writer_code.proofs.put_types.Goals as goal

pub loop-t-init : goal.loop-t-init
unfolding types_bytes
loop-t-init c = (refl, puts_none c.args.at c.args.out.now)

pub put_type-next-requires : goal.put_type-next-requires
put_type-next-requires c =
    let k = c.args.typecount in
    let ts = take k c.args.types in
    let l = c.loop-t in
    let six : length c.args.types ≡ type_limit = search rules in
    let size : length ts ≡ k = length-take-le k c.args.types (omega (arith, c.requires.0)) in
    let inside : l.t-index < length ts = c.loop-t-test.true in
    let same : take k ts ≡ ts = take_all k ts (omega arith) in
    omega (
      arith,
      l.invariant.0,
      l.invariant.1.next,
      types-within ts l.t-index k no_task (omega arith) inside,
      ap (λ (s : List TaskType). length (types_bytes s)) same,
      c.requires.1,
    )

pub loop-t-preserved : goal.loop-t-preserved
loop-t-preserved c =
    let ts = take c.args.typecount c.args.types in
    let l = c.loop-t in
    let room : c.args.at ≤ length c.args.out.now = omega (arith, c.requires.1) in
    (c.put_type-next.auto.out ∙ l.invariant.0, rw (types-suc ts l.t-index no_task c.loop-t-test.true) (puts_then room l.invariant.1 c.put_type-next.ensures))

pub returns : goal.returns
returns c =
    let ts = take c.args.typecount c.args.types in
    let l = c.loop-t in
    let all : take l.t-index ts ≡ ts = take_all l.t-index ts c.loop-t-test.false in
    rw all at l.invariant.1
