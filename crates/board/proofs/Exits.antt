-- How an exit of a call meets its definition: a refusal by the checks, and what is known once they have passed.
use Rattle.std.proofs.Common.{Option, Some, None, Ok, Err}
use Prim.Native.Nat.{ℕ, ◌-◌}
use mathlib.Core.Path.{◌≡◌, refl, sym, ap, subst, ◌∙◌}
use mathlib.Core.List.{List, map}
use mathlib.Core.Bool.{Bool, true, false, cond}
use native.Mathlib.Omega.{arith}
use lib.ListN.{length}
use Rattle.std.specs.Option.{is_some, unwrap_or}
use Rattle.system.specs.declared.Refusal.{Refusal}
use Rattle.system.specs.declared.Refusal.TheVariants.{Input, State}
use Rattle.system.specs.Limits.{engine_limit}
use Rattle.system.specs.Layout.{Reading, opened, unread, read_system}
use Rattle.system.specs.Outcome.{refused, from_input, from_state, outcome_of, Checked, passes, fails_with}
use Rattle.system.proofs.Checks.{check-passed, both-passed}
use Rattle.loads.specs.declared.EngineLoad.{EngineLoad}
use Rattle.loads.specs.Load.{engine_with, one_more}
use Rattle.partition.specs.ForSystem.{placeable, recovered_for}
use Rattle.partition.specs.Lent.{Lent}
use Rattle.table.specs.declared.Placement.{Placement}
use Rattle.table.specs.Table.{long_enough, filled, placement}
use Rattle.board.specs.declared.Board.{Board}
use Rattle.board.specs.declared.Turn.{Turn}
use Rattle.board.specs.Boards.{empty_board, opened_board, with_load, engines_of, load_at}
use Rattle.board.specs.Truth.{true_board}
use Rattle.board.specs.Calls.{
  Result,
  checked,
  known_type,
  known_engine,
  under_ceiling,
  check_newcomer,
  check_retire,
  check_repack,
  check_restore,
  check_withdraw,
  with_newcomer,
  takes,
  first_engine,
  crowded,
  admitted,
  reseated,
  gave,
  Does,
}
use Rattle.board.specs.Inner.{CheckedNewcomer, OnEngine}
use Rattle.board.proofs.Places.{FirstView, somewhere, nowhere, first-view, engines-rising}
use Rattle.board.proofs.Ready.{on-engine}

-- the board of a file
pub opened-board : (x : Reading) → empty_board (read_system x) ≡ opened_board x
opened-board (opened y) = refl
opened-board (unread n) = refl

-- what holds of a call's definition holds of what the call gave
pub of-given : (P : Result → Type 0) (x : Result) (r : Turn) (after : Lent) → Does x r after → P x → P (gave r after)
of-given P x r after d = subst P (sym (λ i. record { outcome = d.answer i; board = d.board i; table = d.table i }))

-- main: the checks

module _ (b : Board) (table : Lent) (work : Result) (r : Turn) where
  fails-here : (why : Refusal) → r.answer ≡ Err why → r.board ≡ b → Does (checked (fails_with why) b table work) r table
  fails-here (Input n) e s = record { answer = ap outcome_of e; board = s; table = refl }
  fails-here (State n) e s = record { answer = ap outcome_of e; board = s; table = refl }

  -- a call that its checks refuse
  pub checks-fail : (x : Checked) (why : Refusal) → fails_with why ≡ x → r.answer ≡ Err why → r.board ≡ b → Does (checked x b table work) r table
  checks-fail x why e a s = subst (λ (z : Checked). Does (checked z b table work) r table) e (fails-here why a s)

  -- and one that they let through
  pub checks-pass : (x : Checked) (after : Lent) → passes ≡ x → Does work r after → Does (checked x b table work) r after
  checks-pass x after e d = subst (λ (z : Checked). Does (checked z b table work) r after) e d

-- what the checks have shown where they passed

module _ (b : Board) (t : ℕ) (table : Lent) (e : passes ≡ check_newcomer b t (length table.rows) (length table.predecessors)) where
  newcomer-parts : CheckedNewcomer b t × (long_enough b.system table ≡ true)
  unfolding check_newcomer
  newcomer-parts =
      let p = both-passed _ _ e in
      let q = both-passed _ _ p.1 in
      let r = both-passed _ _ q.1 in (
        record { is_true = check-passed (true_board b) from_state 20 p.0; known = check-passed (known_type b.system t) from_input 13 q.0; below = check-passed (under_ceiling b t) from_state 21 r.1 },
        check-passed (long_enough b.system table) from_input 11 r.0,
      )

  pub newcomer-passed : CheckedNewcomer b t
  newcomer-passed = newcomer-parts.0

  pub newcomer-long : long_enough b.system table ≡ true
  newcomer-long = newcomer-parts.1

pub leaver-passed : (b : Board) (t e : ℕ) → passes ≡ check_retire b t e → OnEngine b e × (known_type b.system t ≡ true)
unfolding check_retire
leaver-passed b t e h =
    let p = both-passed _ _ h in
    let q = both-passed _ _ p.1 in
    let r = both-passed _ _ q.1 in
    (record { is_true = check-passed (true_board b) from_state 20 p.0; known = check-passed (known_engine b.system e) from_input 14 r.0 }, check-passed (known_type b.system t) from_input 13 q.0)

pub repack-passed : (b : Board) (table : Lent) → passes ≡ check_repack b (length table.rows) (length table.predecessors) → (true_board b ≡ true) × (long_enough b.system table ≡ true)
unfolding check_repack
repack-passed b table h =
    let p = both-passed _ _ h in
    (check-passed (true_board b) from_state 20 p.0, check-passed (long_enough b.system table) from_input 11 p.1)

pub withdraw-passed : (b : Board) (e : ℕ) → passes ≡ check_withdraw b e → OnEngine b e
unfolding check_withdraw
withdraw-passed b e h =
    let p = both-passed _ _ h in
    let q = both-passed _ _ p.1 in
    record { is_true = check-passed (true_board b) from_state 20 p.0; known = check-passed (known_engine b.system e) from_input 14 q.0 }

pub restore-passed : (b : Board) (e : ℕ) → passes ≡ check_restore b e → OnEngine b e
unfolding check_restore
restore-passed b e h =
    let p = both-passed _ _ h in
    let q = both-passed _ _ p.1 in
    record { is_true = check-passed (true_board b) from_state 20 p.0; known = check-passed (known_engine b.system e) from_input 14 q.0 }

-- main: admit's work, by the place that the search came to

engine-same : (d e : ℕ) → Some d ≡ Some e → d ≡ e
engine-same d e h = cc

nowhere-not : (e : ℕ) → None ≡ Some e → ⊥
nowhere-not e h = let z : ◌≡◌ {A = ℕ} 0 1 = cc in omega arith

-- an engine that was found takes the newcomer
pub found-takes : (b : Board) (t e : ℕ) → true_board b ≡ true → Some e ≡ first_engine b t → OnEngine b e × (takes b t e ≡ true)
found-takes b t e h is = by-view (first-view (takes b t) (engines_of b) (engines-rising b))
  where
    by-view : FirstView (takes b t) (engines_of b) → OnEngine b e × (takes b t e ≡ true)
    by-view (somewhere d f) =
        let same : d ≡ e = engine-same d e (sym f.found ∙ sym is) in
        subst (λ (z : ℕ). OnEngine b z × (takes b t z ≡ true)) same (on-engine b h d f.engine, f.passes)
    by-view (nowhere f) = absurd (nowhere-not e (sym f.found ∙ sym is))

module _ (b : Board) (t : ℕ) (table : Lent) (p : Option ℕ) (r : Turn) where
  pub admitted-joins : (e : ℕ) → Some e ≡ p → r.answer ≡ Ok (Some e) → r.board ≡ with_load b e (one_more (t - 1) (load_at b e)) → Does (admitted b t table p) r table
  unfolding admitted
  admitted-joins e is a s = rw (← is) (record { answer = ap outcome_of a; board = s; table = refl })

  pub admitted-nowhere : (after : Lent) → None ≡ p → Does (crowded b t table) r after → Does (admitted b t table p) r after
  unfolding admitted
  admitted-nowhere after is d = rw (← is) d

-- main: a load placed or not

placed-flag : (q : Bool) (one : Placement) → is_some (cond q (Some one) None) ≡ q
placed-flag true one = refl
placed-flag false one = refl

module _ (b : Board) (x : List ℕ) (found : Option Placement) (e : found ≡ placement b.system (engines_of b) x) where
  pub found-placed : is_some found ≡ placeable b.system (engines_of b) x
  unfolding placement
  found-placed = ap is_some e ∙ placed-flag (placeable b.system (engines_of b) x) _

  module _ (table : Lent) (r : Turn) (after : Lent) (f : after ≡ filled b.system (engines_of b) table) where
    pub reseated-placed : (p : Placement) → found ≡ Some p → r.answer ≡ (Ok None) → r.board ≡ record { system = b.system; loads = p.loads; marks = b.marks } → Does (reseated b x table) r after
    unfolding reseated placement
    reseated-placed p h a s =
        let can : placeable b.system (engines_of b) x ≡ true = sym found-placed ∙ ap is_some h in
        let same : p.loads ≡ map (engine_with b.system) (recovered_for engine_limit b.system (engines_of b) x) = ap (λ (o : Option Placement). (unwrap_or o p).loads) (sym h ∙ e) ∙ rw can in
        rw can
        (record {
          answer = ap outcome_of a;
          board = s ∙ ap (λ (ls : List EngineLoad). record { system = b.system; loads = ls; marks = b.marks }) same;
          table = f;
        })

    pub reseated-none : found ≡ None → r.answer ≡ Err (State 24) → r.board ≡ b → Does (reseated b x table) r after
    unfolding reseated
    reseated-none h a s =
        let cannot : placeable b.system (engines_of b) x ≡ false = sym found-placed ∙ ap is_some h in
        rw cannot (record { answer = ap outcome_of a; board = s; table = f })

-- no engine takes the newcomer: 23 or 24
module _ (b : Board) (t : ℕ) (found : Option Placement) (e : found ≡ placement b.system (engines_of b) (with_newcomer b t)) (table : Lent) (r : Turn) (after : Lent) where
  pub crowded-by : (q : Bool) → is_some found ≡ q → after ≡ filled b.system (engines_of b) table → r.answer ≡ Err (State (cond q 23 24)) → r.board ≡ b → Does (crowded b t table) r after
  crowded-by q h f a s =
      let same : q ≡ placeable b.system (engines_of b) (with_newcomer b t) = sym h ∙ found-placed b (with_newcomer b t) found e in
      record { answer = ap outcome_of a ∙ ap (λ (z : Bool). refused from_state (cond z 23 24)) same; board = s; table = f }
