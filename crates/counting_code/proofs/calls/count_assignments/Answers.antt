-- Each way out is the one that the call is defined to take there (the laws of FromFile), from what the callees ensure.
use Rattle.std.proofs.Common.{Option, Ok, Err}
use Prim.Native.Nat.{ℕ}
use mathlib.Core.Path.{◌≡◌, sym, ◌∙◌}
use mathlib.Core.List.{List}
use mathlib.Core.Bool.{true}
use native.Mathlib.Omega.{arith}
use borrow.Author.Tests.{leb-true}
use borrow.Author.Rules.{rules}
use Rattle.system.specs.declared.System.{System}
use Rattle.system.specs.declared.Opened.{Opened}
use Rattle.system.specs.Limits.{columns, keeps_limits}
use Rattle.system.specs.Values.{ceilings_of}
use Rattle.system.specs.Inner.{columns_within}
use Rattle.system.specs.Layout.{read_file, Reads}
use Rattle.system.proofs.Laws.{limits_of, read-keeps-limits}
use Rattle.partition.specs.Listing.{instances}
use Rattle.counting.specs.Counts.{total_count, greatest}
use Rattle.counting.proofs.FromFile.{ok-opens, unread-promises, many-promises, short-promises, counted-promises}
use Rattle.counting.proofs.Turns.{past-said, within-said}
use Rattle.counting_code.proofs.calls.count_assignments.Goals as goal

-- the file reads as a system that keeps the limits
keeps : (file : List ℕ) (r : Opened) → Reads (read_file file) r → {v : Option ℕ} → r.answer ≡ Ok v → keeps_limits r.system ≡ true
keeps file r reads e = read-keeps-limits file r.system (ok-opens (read_file file) r reads e)

-- the columns
columns-are : (y : System) (n : ℕ) → keeps_limits y ≡ true → n ≡ columns_within y.types → n ≡ columns y
columns-are y n keeping e = omega (arith, e, (limits_of y keeping).columns)

-- the file is refused
pub returns-in_err-opened : goal.returns-in_err-opened
returns-in_err-opened c =
    let r = c.read_system-opened in
    let told : c.from_residual.result ≡ Err c.in_err-opened.field-0.0 = search rules in
    rw told (unread-promises c.args.file.now c.args.part.now r.result r.ensures c.in_err-opened.field-0.0 c.in_err-opened.was)

pub total_of-requires : goal.total_of-requires
total_of-requires c = let r = c.read_system-opened in keeps c.args.file.now r.result r.ensures c.in_ok-opened.was

-- 37
pub returns-in_default : goal.returns-in_default
returns-in_default c =
    let r = c.read_system-opened in
    let y = r.result.system in
    many-promises c.args.file.now c.args.part.now y (ok-opens (read_file c.args.file.now) r.result r.ensures c.in_ok-opened.was)
    (past-said y.engines (instances (ceilings_of y)) (sym c.in_default.is ∙ c.total_of.ensures))

-- 38
pub returns-then-part-columns : goal.returns-then-part-columns
returns-then-part-columns c =
    let r = c.read_system-opened in
    let y = r.result.system in
    let said = within-said y.engines (instances (ceilings_of y)) c.in-Some.total (sym c.in-Some.is ∙ c.total_of.ensures) in
    let all = columns-are y c.columns_within-columns.result (keeps c.args.file.now r.result r.ensures c.in_ok-opened.was) c.columns_within-columns.ensures in
    short-promises c.args.file.now c.args.part.now y (ok-opens (read_file c.args.file.now) r.result r.ensures c.in_ok-opened.was) said.0
    (omega (arith, c.if-part-columns.true, all))

pub count_good-requires : goal.count_good-requires
count_good-requires c =
    let r = c.read_system-opened in
    let y = r.result.system in
    let said = within-said y.engines (instances (ceilings_of y)) c.in-Some.total (sym c.in-Some.is ∙ c.total_of.ensures) in
    let keeping = keeps c.args.file.now r.result r.ensures c.in_ok-opened.was in
    record {
      limits = keeping;
      all = columns-are y c.columns_within-columns.result keeping c.columns_within-columns.ensures;
      halves = omega (arith, c.if-part-columns.false);
      small = leb-true (total_count y) greatest said.0;
    }

-- both numbers
pub returns : goal.returns
returns c =
    let r = c.read_system-opened in
    let y = r.result.system in
    let said = within-said y.engines (instances (ceilings_of y)) c.in-Some.total (sym c.in-Some.is ∙ c.total_of.ensures) in
    let all = columns-are y c.columns_within-columns.result (keeps c.args.file.now r.result r.ensures c.in_ok-opened.was) c.columns_within-columns.ensures in
    counted-promises c.args.file.now c.args.part.now y (ok-opens (read_file c.args.file.now) r.result r.ensures c.in_ok-opened.was) said.0
    (omega (arith, c.if-part-columns.false, all))
    c.count_good.result c.in-Some.total c.count_good.new.part
    c.count_good.ensures.0 said.1 c.count_good.ensures.1
