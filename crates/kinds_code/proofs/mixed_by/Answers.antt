-- The best column that the parts show is that of the definition (`best-shown`), so what both kinds place of it and of the rest, joined, is the mixed placement (`both-joined`).
use Prim.Native.Nat.{ℕ, ◌+◌, ◌-◌, ◌≤◌, ◌<◌}
use mathlib.Core.List.{List}
use mathlib.Core.Path.{◌≡◌, refl, sym, ap, ◌∙◌}
use native.Mathlib.Omega.{arith}
use borrow.Author.Rules.{rules}
use Rattle.std.proofs.Common.{Option, None, Some}
use Rattle.system.specs.declared.System.{System}
use Rattle.system.specs.Values.{ceilings_of}
use Rattle.system.specs.Limits.{columns}
use Rattle.system.proofs.Laws.{columns_of-pos, limits_of}
use Rattle.loads.specs.Column.{load_of}
use Rattle.loads.proofs.Column.{load_of-within}
use Rattle.partition.specs.Kinds.{rest_of, best_split, least_at}
use Rattle.table.specs.declared.Placement.{Placement}
use Rattle.table.specs.Chain.{rows_placed}
use Rattle.table.proofs.Placed.{rows-used}
use Rattle.kinds.specs.Mixing.{mixed_placement}
use Rattle.kinds.specs.Inner.{BothShow, cost_at, joined_placement}
use Rattle.kinds.proofs.Splits.{as_many, split-in, best-shown, best-inside}
use Rattle.kinds_code.proofs.Both.{both-joined}
use Rattle.kinds_code.proofs.mixed_by.Goals.{After-load_of-left}
use Rattle.kinds_code.proofs.mixed_by.Goals as goal

pub columns_of-last-requires : goal.columns_of-last-requires
columns_of-last-requires c = (limits_of _ c.requires.one.limits).columns

pub overflow_sub-last : goal.overflow_sub-last
overflow_sub-last c = omega (arith, c.columns_of-last.ensures, columns_of-pos (ceilings_of c.args.first))

pub best_split-best-requires : goal.best_split-best-requires
best_split-best-requires c =
    let all = columns_of-pos (ceilings_of c.args.first) in
    split-in c.requires (c.columns_of-last.result - 1) (omega (arith, c.columns_of-last.ensures, all))

-- what is found is the best split, one of the columns, and all the rest of them is what the definition gives to the second kind
module _ {first second : System} {rows predecessors rows2 predecessors2 : List ℕ} (shown : BothShow first second rows predecessors rows2 predecessors2) (all : ℕ) (is_all : all ≡ columns first) (best : ℕ)
    (is_best : best ≡ least_at (cost_at rows rows2 (all - 1) first.engines second.engines) (all - 1 + 1)) where
  is_last : all - 1 + 1 ≡ columns first
  is_last = omega (arith, columns_of-pos (ceilings_of first))

  is-best : best ≡ best_split first second
  is-best = is_best ∙ best-shown shown (all - 1) is_last

  best-last : best_split first second ≤ all - 1
  best-last = best-inside shown (all - 1) is_last

  best-within : best ≤ all - 1
  best-within = omega (arith, is-best, best-last)

  both-mixed : (a b : Option Placement) → a ≡ rows_placed first first.engines (load_of (ceilings_of first) best)
      → b ≡ rows_placed second second.engines (load_of (ceilings_of second) (all - 1 - best)) → joined_placement a b first.engines ≡ mixed_placement first second
  both-mixed a b is_one is_other =
      let many = as_many shown (all - 1) is_last in
      let small : best_split first second < columns first = omega (arith, best-last, is_last) in
      let rest : all - 1 - best ≡ rest_of first (best_split first second) = omega (arith, is-best, is_last) in
      let small2 : rest_of first (best_split first second) < columns second = omega (arith, many, small) in
      both-joined first second shown.few a b small small2
      (is_one ∙ ap (rows_placed first first.engines) (ap (load_of (ceilings_of first)) is-best))
      (is_other ∙ ap (rows_placed second second.engines) (ap (load_of (ceilings_of second)) rest))

pub overflow_sub-rest : goal.overflow_sub-rest
overflow_sub-rest c = best-within c.requires c.columns_of-last.result c.columns_of-last.ensures c.best_split-best.result c.best_split-best.ensures

pub placed_by-requires : goal.placed_by-requires
placed_by-requires c = (c.requires.one, rw c.load_of-given.ensures (load_of-within (ceilings_of c.args.first) c.best_split-best.result))

pub placed_by-requires-2 : goal.placed_by-requires-2
placed_by-requires-2 c =
    (c.requires.other, rw c.load_of-left.ensures (load_of-within (ceilings_of c.args.second) (c.columns_of-last.result - 1 - c.best_split-best.result)))

pub joined-requires : goal.joined-requires
joined-requires c =
    let first = c.args.first in
    let second = c.args.second in
    let one = rows-used first first.engines c.load_of-given.result _ (sym c.in_ok-one.was ∙ c.placed_by.ensures) in
    let other = rows-used second second.engines c.load_of-left.result _ (sym c.in_ok-other.was ∙ c.placed_by-2.ensures) in
    (omega (arith, one, other, c.requires.few), omega (arith, c.requires.few))

-- what both kinds place, joined
module _ (c : After-load_of-left) where
  both-is : (a b : Option Placement) → a ≡ rows_placed c.args.first c.args.first.engines c.load_of-given.result → b ≡ rows_placed c.args.second c.args.second.engines c.load_of-left.result
      → joined_placement a b c.args.first.engines ≡ mixed_placement c.args.first c.args.second
  both-is a b one other =
      let first = c.args.first in
      let second = c.args.second in
      both-mixed c.requires c.columns_of-last.result c.columns_of-last.ensures c.best_split-best.result c.best_split-best.ensures a b
      (one ∙ ap (rows_placed first first.engines) c.load_of-given.ensures)
      (other ∙ ap (rows_placed second second.engines) c.load_of-left.ensures)

-- one of them places nothing
pub returns-in_err-one : goal.returns-in_err-one
unfolding joined_placement
returns-in_err-one c =
    let told : c.from_residual.result ≡ None = search rules in
    told ∙ both-is (goal.at.returns-in_err-one c).After-load_of-left None _ (sym c.in_err-one.was ∙ c.placed_by.ensures) refl

pub returns-in_err-other : goal.returns-in_err-other
unfolding joined_placement
returns-in_err-other c =
    let told : c.from_residual-in_err-other.result ≡ None = search rules in
    told ∙ both-is (goal.at.returns-in_err-other c).After-load_of-left (Some _) None (sym c.in_ok-one.was ∙ c.placed_by.ensures) (sym c.in_err-other.was ∙ c.placed_by-2.ensures)

pub returns : goal.returns
returns c = c.joined.ensures ∙ both-is (goal.at.returns c).After-load_of-left (Some _) (Some _) (sym c.in_ok-one.was ∙ c.placed_by.ensures) (sym c.in_ok-other.was ∙ c.placed_by-2.ensures)
