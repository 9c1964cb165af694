-- Document 01's limits of a system: each is tested here once, and a test gives the number of the refusal that it calls for, 0 for none.
use Rattle.std.specs.Prelude.{ℕ, zero, suc, ◌+◌, ◌*◌, List, [], ◌∷◌, map, Bool, true, false, not, cond, ◌&&◌, length, leb, eqb, Option, None, Some}
use Rattle.system.specs.declared.Kind.{Kind}
use Rattle.system.specs.declared.Costs.{Costs}
use Rattle.system.specs.declared.Cycle.{Cycle}
use Rattle.system.specs.declared.TaskType.{TaskType}
use Rattle.system.specs.declared.System.{System}
pub use Rattle.system.specs.Numbers.{engine_limit, type_limit, size_limit, column_limit, tick_limit}
use Rattle.system.specs.Values.{ceilings_of}

-- of two tests one after the other, the first that calls for a refusal
abbrev pub or_else : ℕ → ℕ → ℕ
or_else fault later = cond (eqb fault 0) later fault

-- U and S of a kind of engine, or u and s there
abbrev pub size_fault : ℕ → ℕ → ℕ
size_fault u s = cond (not (leb u size_limit && leb s size_limit)) 8 0

-- a platform's m, rule, U and S
abbrev pub platform_fault : ℕ → ℕ → ℕ → ℕ → ℕ
platform_fault m rule u s = cond (not (leb 1 m && leb m engine_limit)) 5 (cond (not (leb rule 1)) 6 (size_fault u s))

-- request 2026-13: the second kind's number, "at least 1, total still at most 16", m being the number of the first; its U and S
abbrev pub kind_counted : ℕ → ℕ → Bool
kind_counted m n = leb 1 n && leb (m + n) engine_limit

abbrev pub kind_fault : ℕ → ℕ → ℕ → ℕ → ℕ
kind_fault m n u s = cond (not (kind_counted m n)) 5 (size_fault u s)

abbrev pub second_fault : ℕ → Option Kind → ℕ
second_fault m None = 0
second_fault m (Some k) = kind_fault m k.number k.timecap k.memorycap

-- a type's u, s and d
abbrev pub type_fault : TaskType → ℕ
type_fault t = cond (not (leb t.time size_limit && leb t.memory size_limit && leb t.data size_limit)) 8 0

-- "31, when q is 0" (request 2026-04): a q that is not given is not 0
abbrev pub most_fault : Option ℕ → ℕ
most_fault None = 0
most_fault (Some q) = cond (eqb q 0) 31 0

-- request 2026-14: C and T are "1 to 65,535, C at most T", U is not 0, and u × T is not less than C × U; `whole` is U
abbrev pub cycle_keeps : ℕ → ℕ → Cycle → Bool
cycle_keeps whole u c =
    leb 1 c.run && leb c.run c.period && leb c.period tick_limit && leb 1 whole && leb (c.run * whole) (u * c.period)

-- "43, when C or T breaks these bounds, U is 0, or u × T is less than C × U": of a type
abbrev pub pace_fault : ℕ → ℕ → Option Cycle → ℕ
pace_fault whole u None = 0
pace_fault whole u (Some c) = cond (not (cycle_keeps whole u c)) 43 0

-- of the first k types
unfoldable pub paces_fault : ℕ → ℕ → List TaskType → ℕ
paces_fault whole k [] = 0
paces_fault whole zero (t ∷ ts) = 0
paces_fault whole (suc k) (t ∷ ts) = or_else (pace_fault whole t.time t.pace) (paces_fault whole k ts)

-- u and s on the second kind, where they are given
abbrev pub costs_fault : Option Costs → ℕ
costs_fault None = 0
costs_fault (Some c) = size_fault c.time c.memory

-- "the product of all n(t)+1, called the columns"
unfoldable pub columns_of : List ℕ → ℕ
columns_of [] = 1
columns_of (n ∷ ns) = (n + 1) * columns_of ns

abbrev pub columns : System → ℕ
columns y = columns_of (ceilings_of y)

abbrev pub columns_fault : List TaskType → ℕ
columns_fault ts = cond (not (leb (columns_of (map (λ (t : TaskType). t.ceiling) ts)) column_limit)) 10 0

-- no q
abbrev pub not_given : Option ℕ → Bool
not_given None = true
not_given (Some q) = false

-- no C and T
abbrev pub unpaced : Option Cycle → Bool
unpaced None = true
unpaced (Some c) = false

-- u and s on the second kind are given
abbrev pub given : Option Costs → Bool
given None = false
given (Some c) = true

-- there is no second kind
abbrev pub is_one_kind : Option Kind → Bool
is_one_kind None = true
is_one_kind (Some k) = false

-- "Either all are present or none": of each of the first k types u and s on the second kind are given exactly where there is one
unfoldable pub kinds_agree : Bool → ℕ → List TaskType → Bool
kinds_agree one k [] = true
kinds_agree one zero (t ∷ ts) = true
kinds_agree one (suc k) (t ∷ ts) = cond one (not (given t.there)) (given t.there) && kinds_agree one k ts

-- "41, when tag 7 is missing though tag 6 stands, or the reverse"
abbrev pub kinds_fault : System → ℕ
kinds_fault y = cond (not (kinds_agree (is_one_kind y.second) y.typecount y.types)) 41 0

-- an entry past k
abbrev pub zero_task : TaskType → Bool
zero_task t = eqb t.time 0 && eqb t.memory 0 && eqb t.ceiling 0 && eqb t.data 0 && not_given t.most && unpaced t.pace && not (given t.there)

-- an entry of a type
abbrev pub sound_task : TaskType → Bool
sound_task t = eqb (type_fault t) 0 && eqb (most_fault t.most) 0 && eqb (costs_fault t.there) 0

-- the first k are within the limits, the others 0 and with nothing given
unfoldable pub types_keep : ℕ → List TaskType → Bool
types_keep k [] = true
types_keep zero (t ∷ ts) = zero_task t && types_keep zero ts
types_keep (suc k) (t ∷ ts) = sound_task t && types_keep k ts

-- every limit of a card, of one kind of engine or two, and zero entries past k; six entries is what an array of the code always has
unfoldable pub keeps_card : System → Bool
keeps_card y =
    eqb (platform_fault y.engines y.rule y.timecap y.memorycap) 0
    && leb 1 y.typecount
    && leb y.typecount type_limit
    && eqb (length y.types) type_limit
    && types_keep y.typecount y.types
    && eqb (columns_fault y.types) 0
    && eqb (paces_fault y.timecap y.typecount y.types) 0
    && eqb (second_fault y.engines y.second) 0
    && eqb (kinds_fault y) 0

-- and of a system of one kind, which document 01 and all that knows one kind only speak of
unfoldable pub keeps_limits : System → Bool
keeps_limits y = keeps_card y && is_one_kind y.second
