-- `write_system`: a refusal is the answer and nothing is written; else the file is put at the start of the buffer.
use Rattle.std.proofs.Common.{Option, Result, Err}
use Prim.Native.Nat.{ℕ}
use mathlib.Core.Path.{◌≡◌, sym, ap, subst}
use lib.ListN.{length}
use borrow.Author.Rules.{rules}
use native.Mathlib.Omega.{arith}
use Rattle.system.specs.declared.Refusal.{Refusal}
use Rattle.system.specs.declared.Refusal.TheVariants.{Input}
use Rattle.system.specs.Limits.{type_limit}
use Rattle.system.proofs.Within.{handed_on, passed_none, refused_some, refused_number}
use Rattle.loads.proofs.Steps.{length-mapped}
use Rattle.writer.specs.Inner.{SecondFits}
use Rattle.writer.specs.Meaning.{WritePromises}
use Rattle.writer.specs.Writing.{write_fault}
use Rattle.writer.proofs.Order.{fault-none, may-be-written}
use Rattle.writer.proofs.Promises.{promised-refusal, promised-file}
use Rattle.writer_code.proofs.write_system.Goals as goal

pub returns-in_err-write_fault : goal.returns-in_err-write_fault
returns-in_err-write_fault c =
    let y = c.args.y in
    let old = c.args.out.now in
    let n = write_fault y (length old) in
    let six : length y.types ≡ type_limit = search (rules, length-mapped) in
    let said : c.from_residual.result ≡ Err (Input n) = handed_on _ c.from_residual.ensures.1 (ap Err (refused_number n _ c.in_err-write_fault.ensures)) in
    subst (λ (r : Result (Option ℕ) Refusal). WritePromises y old old r) (sym said)
    (promised-refusal y old six {fault = n} (λ i. n) (refused_some n _ c.in_err-write_fault.ensures))

pub put_file-requires : goal.put_file-requires
put_file-requires c =
    let y = c.args.y in
    let room = length c.args.out.now in
    let none = passed_none (write_fault y room) c.in_ok-write_fault.ensures in
    let six : length y.types ≡ type_limit = search (rules, length-mapped) in
    let may = may-be-written y room six none in
    let fits : SecondFits y.second = λ k is. let few = may.engines.2 k is in omega arith in
    (may.engines.1, fits, may.count.1, (fault-none y room none).1)

pub returns : goal.returns
returns c =
    let y = c.args.y in
    let none = passed_none (write_fault y (length c.args.out.now)) c.in_ok-write_fault.ensures in
    let six : length y.types ≡ type_limit = search (rules, length-mapped) in
    promised-file y c.args.out.now six none c.put_file.ensures
