-- `write_listing`: what was put at place 0 is written at the start; a listing takes at most 3,405 bytes.
use Rattle.std.proofs.Common.{Option, Ok, Some, None}
use Prim.Native.Nat.{ℕ}
use mathlib.Core.Path.{◌≡◌, refl}
use mathlib.Core.List.{List, []}
use native.Mathlib.Omega.{arith}
use Rattle.system.specs.Outcome.{outcome_of, refusal_of}
use Rattle.system.specs.declared.Refusal.{Refusal}
use Rattle.system.specs.declared.Refusal.TheVariants.{Input, State}
use Rattle.planner.specs.declared.EngineRecord.{EngineRecord}
use Rattle.planner.specs.Plan.{records_with}
use Rattle.listing.specs.Listing.{plan_lines, listing_of}
use Rattle.buffer.proofs.Laws.{written}
use Rattle.listing.proofs.Lines.{write-promised}
use Rattle.listing_code.proofs.write_listing.Goals as goal

-- an answer that is no refusal
listing-given : (v : Option ℕ) (used k : ℕ) (records : List EngineRecord) → listing_of (outcome_of (Ok v)) used k records ≡ plan_lines used k records
unfolding listing_of
listing-given None used k records = refl
listing-given (Some n) used k records = refl

-- a refusal's listing says its number alone
listing-refused : (why : Refusal) (used k : ℕ) (records : List EngineRecord) → listing_of (refusal_of why) used k records ≡ listing_of (refusal_of why) 0 0 []
unfolding listing_of
listing-refused (Input n) used k records = refl
listing-refused (State n) used k records = refl

pub returns-in-Ok : goal.returns-in-Ok
returns-in-Ok c =
    let p = c.args.p in
    write-promised p
    (rw (c.in-Ok.is, listing-given _ p.used p.typecount (records_with p.numbers p.loads))
    (written (omega arith) c.put_plan.auto.out c.put_plan.ensures.0))

pub returns-in-Err : goal.returns-in-Err
unfolding listing_of
returns-in-Err c =
    let p = c.args.p in
    write-promised p
    (rw (c.in-Err.is, listing-refused _ p.used p.typecount (records_with p.numbers p.loads))
    (written (omega arith) c.put_refusal.auto.out c.put_refusal.ensures.0))
