-- A refusal is the answer and nothing is written; else the writer answers for the system that is drawn.
use Rattle.std.proofs.Common.{Option, Result, Err}
use Prim.Native.Nat.{ℕ}
use mathlib.Core.Path.{◌≡◌, sym, ap, subst}
use native.Mathlib.Omega.{arith}
use borrow.Author.Rules.{rules}
use mir.Val.{Fits}
use mir.Syntax.{w64}
use Rattle.system.specs.declared.System.{System}
use Rattle.system.specs.declared.Refusal.{Refusal}
use Rattle.system.specs.declared.Refusal.TheVariants.{Input}
use Rattle.system.proofs.Within.{handed_on, passed_none, refused_some, refused_number}
use Rattle.writer.specs.Meaning.{WritePromises}
use Rattle.making.specs.Making.{recipe_fault}
use Rattle.making.specs.Meaning.{MakePromises}
use Rattle.making.proofs.Promises.{drawable, promised-refusal, promised-file}
use Rattle.making_code.proofs.calls.make_file.Goals as goal

pub returns-in_err-recipe_fault : goal.returns-in_err-recipe_fault
returns-in_err-recipe_fault c =
    let w = c.args.w in
    let old = c.args.out.now in
    let n = recipe_fault w in
    let bits : Fits w64 w.seed = search rules in
    let said : c.from_residual.result ≡ Err (Input n) = handed_on _ c.from_residual.ensures.1 (ap Err (refused_number n _ c.in_err-recipe_fault.ensures)) in
    subst (λ (r : Result (Option ℕ) Refusal). MakePromises w old old r) (sym said)
    (promised-refusal w (omega (arith, bits)) old {fault = n} (λ i. n) (refused_some n _ c.in_err-recipe_fault.ensures))

pub drawn_system-requires : goal.drawn_system-requires
drawn_system-requires c = drawable c.args.w (passed_none (recipe_fault c.args.w) c.in_ok-recipe_fault.ensures)

pub returns : goal.returns
returns c =
    let none = passed_none (recipe_fault c.args.w) c.in_ok-recipe_fault.ensures in
    let bits : Fits w64 c.args.w.seed = search rules in
    let promises =
    subst (λ (y : System). WritePromises y c.args.out.now c.write_system.new.out c.write_system.result) c.drawn_system.ensures c.write_system.ensures in
    promised-file c.args.w (omega (arith, bits)) c.args.out.now c.write_system.new.out c.write_system.result none promises
