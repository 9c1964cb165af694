-- The sums of the six types, one by one.
use Rattle.std.proofs.Common.{rules, arith, ◌≡◌, ℕ, ◌+◌, get_or, length, sym, ap, ◌∙◌}
use mathlib.Core.List.{List}
use mir.Syntax.{w16}
use mir.Val.{Fits}
use Rattle.loads.specs.Load.{plus}
use Rattle.loads.proofs.Change.{get_or-plus}
use Rattle.loads.proofs.Order.{length-plus}
use Rattle.board_code.proofs.Chains.{six-same}
use Rattle.board_code.proofs.state.added.Goals as goal

pub returns : goal.returns
returns c =
    let a = c.args in
    let x = a.l.counts in
    let r = c.from_fn.result in
    let lx : length x ≡ 6 = search rules in
    let ls : length a.sum ≡ 6 = search rules in
    let lr : length r ≡ 6 = search rules in
    let at : (k : ℕ) → get_or (plus x a.sum) k 0 ≡ get_or x k 0 + get_or a.sum k 0 = λ k. get_or-plus x a.sum k (lx ∙ sym ls) in
    let e0 : get_or r 0 0 ≡ get_or x 0 0 + get_or a.sum 0 0 = search rules in
    let e1 : get_or r 1 0 ≡ get_or x 1 0 + get_or a.sum 1 0 = search rules in
    let e2 : get_or r 2 0 ≡ get_or x 2 0 + get_or a.sum 2 0 = search rules in
    let e3 : get_or r 3 0 ≡ get_or x 3 0 + get_or a.sum 3 0 = search rules in
    let e4 : get_or r 4 0 ≡ get_or x 4 0 + get_or a.sum 4 0 = search rules in
    let e5 : get_or r 5 0 ≡ get_or x 5 0 + get_or a.sum 5 0 = search rules in
    let same : r ≡ plus x a.sum =
    six-same r (plus x a.sum) lr (length-plus x a.sum (lx ∙ sym ls) ∙ lx) (e0 ∙ sym (at 0)) (e1 ∙ sym (at 1)) (e2 ∙ sym (at 2)) (e3 ∙ sym (at 3)) (e4 ∙ sym (at 4)) (e5 ∙ sym (at 5)) in
    (same, λ t. let f : Fits w16 (get_or x t 0) = search rules in let e = ap (λ (l : List ℕ). get_or l t 0) same ∙ at t in omega arith)
