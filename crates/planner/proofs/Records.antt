-- The records of engines: as many as loads, and the number and the load of each; those of engines with given numbers, and that numbers 1, 2, .. give the same.
use Prim.Native.Nat.{ℕ, zero, suc, ◌+◌, ◌<◌}
use native.Mathlib.Omega.{arith}
use native.Mathlib.Nat.{add-suc, suc-add, add-zero}
use mathlib.Core.Path.{◌≡◌, refl, sym, ◌∙◌, ap}
use mathlib.Core.List.{List, [], ◌∷◌}
use lib.ListN.{length, get_or}
use Rattle.loads.specs.declared.EngineLoad.{EngineLoad}
use Rattle.loads.specs.Load.{idle_engine}
use Rattle.partition.specs.Assignment.{numbers_from}
use Rattle.planner.specs.declared.EngineRecord.{EngineRecord}
use Rattle.planner.specs.Plan.{record_of, records_from, records_of, records_with}

-- what stands for a record past the end of a list
abbrev pub no_record : EngineRecord
no_record = record_of 0 idle_engine

-- a record has the load that it is made of
pub load-of : (n : ℕ) (l : EngineLoad) → (record_of n l).load ≡ l
load-of n l = refl

pub length-records_from : (a : ℕ) (ls : List EngineLoad) → length (records_from a ls) ≡ length ls
unfolding records_from
length-records_from a [] = refl
length-records_from a (l ∷ ls) = ap suc (length-records_from (suc a) ls)

-- the record at index i, in a list that is long enough
pub get_or-records_from : (a : ℕ) (ls : List EngineLoad) (i : ℕ) (d : EngineRecord) (z : EngineLoad) → i < length ls → get_or (records_from a ls) i d ≡ record_of (a + i) (get_or ls i z)
unfolding records_from
get_or-records_from a [] i d z h = absurd (omega arith)
get_or-records_from a (l ∷ ls) zero d z h = ap (λ (n : ℕ). record_of n l) (sym (add-zero a))
get_or-records_from a (l ∷ ls) (suc i) d z h =
    get_or-records_from (suc a) ls i d z (omega arith) ∙ ap (λ (n : ℕ). record_of n (get_or ls i z)) (suc-add a i ∙ sym (add-suc a i))

pub get_or-records_of : (ls : List EngineLoad) (i : ℕ) (d : EngineRecord) (z : EngineLoad) → i < length ls → get_or (records_of ls) i d ≡ record_of (1 + i) (get_or ls i z)
get_or-records_of ls = get_or-records_from 1 ls

-- main: of engines with given numbers, as many as loads

pub length-records_with : (ns : List ℕ) (ls : List EngineLoad) → length ns ≡ length ls → length (records_with ns ls) ≡ length ls
unfolding records_with
length-records_with [] [] h = refl
length-records_with [] (l ∷ ls) h = absurd (omega arith)
length-records_with (n ∷ ns) [] h = absurd (omega arith)
length-records_with (n ∷ ns) (l ∷ ls) h = ap suc (length-records_with ns ls (omega arith))

pub get_or-records_with : (ns : List ℕ) (ls : List EngineLoad) (i : ℕ) (d : EngineRecord) (z : EngineLoad) → length ns ≡ length ls → i < length ls → get_or (records_with ns ls) i d ≡ record_of (get_or ns i 0) (get_or ls i z)
unfolding records_with
get_or-records_with [] [] i d z h k = absurd (omega arith)
get_or-records_with [] (l ∷ ls) i d z h k = absurd (omega arith)
get_or-records_with (n ∷ ns) [] i d z h k = absurd (omega arith)
get_or-records_with (n ∷ ns) (l ∷ ls) zero d z h k = refl
get_or-records_with (n ∷ ns) (l ∷ ls) (suc i) d z h k = get_or-records_with ns ls i d z (omega arith) (omega arith)

-- with the numbers a, a + 1, .. they are those counted from a
pub records-numbered : (a : ℕ) (ls : List EngineLoad) → records_with (numbers_from a (length ls)) ls ≡ records_from a ls
unfolding records_with records_from numbers_from
records-numbered a [] = refl
records-numbered a (l ∷ ls) = ap (λ (rest : List EngineRecord). record_of a l ∷ rest) (records-numbered (suc a) ls)
