-- `put_file`: the platform, any second kind, then the types.
use Prim.Native.Nat.{◌+◌, zero-le}
use native.Mathlib.Omega.{arith}
use mathlib.Core.Path.{◌≡◌}
use mathlib.Core.List.{◌++◌}
use lib.ListN.{length, take, length-append}
use Rattle.buffer.proofs.Laws.{puts_then}
use Rattle.system.specs.declared.System.{System}
use Rattle.system.specs.Rules.{rule_of}
use Rattle.writer.specs.File.{field_bytes, platform_bytes, second_bytes, types_bytes, file_of}
use Rattle.writer.proofs.Bytes.{platform-size}
use Rattle.writer_code.proofs.put_file.Goals as goal

-- the bytes of its parts
parts : (y : System) → length (file_of y) ≡ 13 + length (second_bytes y.second) + length (types_bytes (take y.typecount y.types))
unfolding file_of
parts y =
    let types = types_bytes (take y.typecount y.types) in
    omega (arith, platform-size y, length-append (platform_bytes y) (second_bytes y.second ++ types), length-append (second_bytes y.second) types)

pub put_platform-equipped-requires : goal.put_platform-equipped-requires
put_platform-equipped-requires c =
    (omega (arith, c.requires.3, parts c.args.y), c.requires.0)

pub put_second-next-requires : goal.put_second-next-requires
put_second-next-requires c =
    let y = c.args.y in
    let kept = c.put_platform-equipped.auto.out in
    (c.requires.1, omega (arith, c.requires.3, c.put_platform-equipped.ensures.next, platform-size y, parts y))

pub put_types-requires : goal.put_types-requires
put_types-requires c =
    let y = c.args.y in
    let kept = c.put_platform-equipped.auto.out in
    let left = c.put_second-next.auto.out in
    (c.requires.2, omega (arith, c.requires.3, c.put_platform-equipped.ensures.next, c.put_second-next.ensures.next, platform-size y, parts y))

pub returns : goal.returns
unfolding file_of field_bytes rule_of
returns c =
    puts_then zero-le (puts_then zero-le c.put_platform-equipped.ensures c.put_second-next.ensures) c.put_types.ensures
