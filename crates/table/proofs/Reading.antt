-- The answers of the calls that take a system file, from what the reader answered, what the check of the table did and what the parts hold.
use Rattle.std.proofs.Common.{Option, None, Some, Ok, Err, arith}
use Prim.Native.Nat.{ℕ, ◌≤◌}
use mathlib.Core.Path.{◌≡◌, sym, ap, ◌∙◌}
use mathlib.Core.Bool.{true, false}
use mathlib.Core.List.{List, [], ◌∷◌}
use borrow.Author.Tests.{leb-true}
use lib.ListN.{length}
use lib.Dec.{leb}
use Rattle.system.specs.declared.Kind.{Kind}
use Rattle.system.specs.declared.System.{System}
use Rattle.system.specs.declared.Opened.{Opened}
use Rattle.system.specs.declared.Refusal.{Refusal}
use Rattle.system.specs.Limits.{columns, keeps_card}
use Rattle.system.specs.Layout.{Reading, opened, Reads, read_card}
use Rattle.system.specs.Card.{first_of, kinds_of, card_of}
use Rattle.system.specs.Outcome.{accepted, refusal_of, from_input, passes, fails_with}
use Rattle.system.proofs.Checks.{check-passed, check-failed, fails-refuse}
use Rattle.system.proofs.Laws.{read-keeps-card, opened-unless, unread-with}
use Rattle.loads.proofs.Order.{and_parts}
use Rattle.partition.specs.Lent.{Lent}
use Rattle.partition.proofs.Lists.{length-engines_to}
use Rattle.table.specs.Pairs.{counted_of}
use Rattle.table.specs.Table.{long_enough, table_check, filled_to, fill_card_outcome, fill_card_table, columns_needed}
use Rattle.table.proofs.Cards.{card-unread, card-one, card-two}

-- an answer that is no refusal is that of a file that opens
pub ok-opens : (x : Reading) (r : Opened) → Reads x r → {v : Option ℕ} → r.answer ≡ Ok v → x ≡ opened r.system
ok-opens x r reads {v = v} e = opened-unless x r reads (λ why f. ok_err why (sym e ∙ f))
  where
    ok_err : (why : Refusal) → Ok v ≡ Err why → ⊥
    ok_err why g = let z : ◌≡◌ {A = ℕ} 0 1 = cc in omega arith

-- a card that was read keeps the limits
pub read-card : (file : List ℕ) (r : Opened) → Reads (read_card file) r → {v : Option ℕ} → r.answer ≡ Ok v → keeps_card r.system ≡ true
read-card file r reads e = read-keeps-card file r.system (ok-opens (read_card file) r reads e)

-- parts that are long enough have an entry for each column
pub parts-room : (y : System) (table : Lent) → long_enough y table ≡ true → (columns y ≤ length table.rows) × (columns y ≤ length table.predecessors)
parts-room y table h =
    let both = and_parts (leb (columns y) (length table.rows)) (leb (columns y) (length table.predecessors)) h in
    (leb-true (columns y) (length table.rows) both.0, leb-true (columns y) (length table.predecessors) both.1)

module _ (x : Reading) (r : Opened) (reads : Reads x r) where
  pub needed-refused : {why : Refusal} → r.answer ≡ Err why → refusal_of why ≡ columns_needed x
  needed-refused {why = why} e = let (n, same, number) = unread-with x r reads why e in number ∙ ap columns_needed (sym same)

  pub needed-told : {v : Option ℕ} → r.answer ≡ Ok v → accepted (columns r.system ∷ []) ≡ columns_needed x
  needed-told e = let same = ok-opens x r reads e in rw same

  module _ (table : Lent) where
    pub fill-refused : {why : Refusal} → r.answer ≡ Err why → (refusal_of why ≡ fill_card_outcome (card_of x) table) × (table ≡ fill_card_table (card_of x) table)
    fill-refused {why = why} e =
        let (n, same, number) = unread-with x r reads why e in
        let card = card-unread x n same in
        (number ∙ rw card, rw card)

    -- a part too short, whatever the kinds
    pub fill-short : {v : Option ℕ} → r.answer ≡ Ok v → (why : Refusal) → fails_with why ≡ table_check r.system table → (refusal_of why ≡ fill_card_outcome (card_of x) table) × (table ≡ fill_card_table (card_of x) table)
    unfolding card_of
    fill-short e why failed = let same = ok-opens x r reads e in rw same (go r.system.second)
      where
        short : long_enough r.system table ≡ false
        short = check-failed (long_enough r.system table) from_input 11 why failed

        go : (s : Option Kind) → (refusal_of why ≡ fill_card_outcome (kinds_of r.system s) table) × (table ≡ fill_card_table (kinds_of r.system s) table)
        go None = (rw (← failed) (sym (fails-refuse why (accepted (counted_of r.system r.system.engines ∷ [])))), rw short)
        go (Some k) = (rw (← failed) (sym (fails-refuse why (accepted []))), rw short)

    pub fill_done : {v : Option ℕ} → r.answer ≡ Ok v → r.system.second ≡ None → passes ≡ table_check r.system table → (last : Lent) → last ≡ filled_to r.system r.system.engines table
        → (pairs : ℕ) → pairs ≡ counted_of r.system r.system.engines → (accepted (pairs ∷ []) ≡ fill_card_outcome (card_of x) table) × (last ≡ fill_card_table (card_of x) table)
    fill_done e one passed last h pairs counted =
        let card = card-one x r.system (ok-opens x r reads e) one in
        let long = check-passed (long_enough r.system table) from_input 11 passed in
        (rw (card, long, counted), rw (card, long, length-engines_to r.system.engines) h)

    -- of two kinds no pairs are reported
    pub fill-two : {v : Option ℕ} → r.answer ≡ Ok v → (k : Kind) → r.system.second ≡ Some k → passes ≡ table_check r.system table → (last : Lent) → last ≡ filled_to (first_of r.system) r.system.engines table
        → (accepted [] ≡ fill_card_outcome (card_of x) table) × (last ≡ fill_card_table (card_of x) table)
    fill-two e k two passed last h =
        let card = card-two x r.system k (ok-opens x r reads e) two in
        let long = check-passed (long_enough r.system table) from_input 11 passed in
        (rw (card, long), rw (card, long) h)
