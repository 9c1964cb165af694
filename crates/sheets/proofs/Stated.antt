-- Any records in plain words: the sheet of loads is the sheet of the records of those that hold an instance, and every list of such records, numbers rising, comes from loads.
use Prim.Native.Nat.{ℕ, zero, suc, ◌+◌, ◌-◌, ◌≤◌, ◌<◌}
use mathlib.Core.Path.{◌≡◌, refl, sym, ap, ap₂, subst, ◌∙◌}
use mathlib.Core.List.{List, [], ◌∷◌, ◌++◌}
use mathlib.Core.Bool.{Bool, true, false, cond}
use native.Mathlib.Nat.{zero-mul, le_refl}
use native.Mathlib.Omega.{arith}
use borrow.Author.Tests.{ltb-true, ltb-false, eqb-true, eqb-false}
use lib.ListN.{length, get_or, take}
use lib.Seq.{take-suc, length-take-le}
use lib.Dec.{ltb, eqb}
use Rattle.buffer.specs.Bytes.{bytes4}
use Rattle.system.specs.Limits.{type_limit}
use Rattle.loads.specs.declared.EngineLoad.{EngineLoad}
use Rattle.loads.specs.Load.{holds_none, idle_engine}
use Rattle.loads.proofs.Order.{cons-path, holds_none-is-zero}
use Rattle.partition.specs.Shares.{used_loads}
use Rattle.partition.specs.Plain.{record_no}
use Rattle.partition.proofs.Lists.{not-both, get_or-padded}
use Rattle.writer.proofs.Bytes.{four-out}
use Rattle.planner.specs.declared.EngineRecord.{EngineRecord}
use Rattle.planner.specs.Plan.{record_of, records_from}
use Rattle.board.specs.Words.{count_no}
use Rattle.sheets.specs.Sheet.{header_rule, record_rule, head_bytes, counts_bytes, record_bytes, records_bytes, used_in, sheet_bytes}
use Rattle.sheets.specs.Meaning.{counts_out, record_out, headed_out, records_out, sheet_with, Rising, none, next, Each, done, more, HasInstance, records_to}
use Rattle.sheets.proofs.Putting.{counts-more}
use Rattle.sheets.proofs.Back.{Tidy, Neat, nil, cons, not-past}

-- intermediate: one record

pub counts-out : (xs : List ℕ) (count : ℕ → ℕ) (k : ℕ) → k ≤ length xs → ((t : ℕ) → get_or xs t 0 ≡ count (suc t)) → counts_bytes (take k xs) ≡ counts_out count k
unfolding counts_bytes counts_out
counts-out xs count zero h same = refl
counts-out xs count (suc k) h same =
    rw (take-suc xs k 0, counts-more (take k xs) (get_or xs k 0), counts-out xs count k (omega arith) same, same k)

-- the record of an engine whose time, memory and counts are these
pub record-out : (k e : ℕ) (l : EngineLoad) (time memory : ℕ) (count : ℕ → ℕ) → k ≤ length l.counts → l.time ≡ time → l.memory ≡ memory → ((t : ℕ) → get_or l.counts t 0 ≡ count (suc t))
    → record_bytes k e l ≡ record_out k e time memory count
unfolding record_bytes
record-out k e l time memory count h t m c =
    let first = ap bytes4 t ∙ four-out time in
    let second = ap bytes4 m ∙ four-out memory in
    let last = counts-out l.counts count k h c in
    λ i. head_bytes record_rule k ++ (e ∷ (first i ++ (second i ++ last i)))

-- the head of the sheet
pub head-out : (k used : ℕ) (records : List ℕ) → head_bytes header_rule k ++ (used ∷ k ∷ records) ≡ headed_out used k records
head-out k used records = rw (zero-mul k)

-- main: the records of the engines e, e + 1, .. that hold an instance

unfoldable pub gather : ℕ → List EngineLoad → List EngineRecord
gather e [] = []
gather e (l ∷ ls) = cond (holds_none l.counts) (gather (suc e) ls) (record_of e l ∷ gather (suc e) ls)

-- of engines e, e + 1, .. six counts are known, 0 past k, and those past m are idle: what is taken from any bytes
pub data Shaped (m k : ℕ) : ℕ → List EngineLoad → Type 0 where
  bare : {e : ℕ} → Shaped m k e []
  along : {e : ℕ} {l : EngineLoad} {ls : List EngineLoad} → length l.counts ≡ type_limit → ((t : ℕ) → k ≤ t → get_or l.counts t 0 ≡ 0) → (m < e → l ≡ idle_engine)
      → Shaped m k (suc e) ls → Shaped m k e (l ∷ ls)

pub neat-shaped : {m k e : ℕ} {ls : List EngineLoad} → Neat m k e ls → Shaped m k e ls
neat-shaped nil = bare
neat-shaped (cons tidy past rest) = along tidy.six tidy.past past (neat-shaped rest)

gather-used : (e : ℕ) (ls : List EngineLoad) → used_in ls ≡ length (gather e ls)
unfolding used_loads gather
gather-used e [] = refl
gather-used e (l ∷ ls) = go (holds_none l.counts) (gather-used (suc e) ls)
  where
    go : (b : Bool) → used_in ls ≡ length (gather (suc e) ls) → cond b (used_in ls) (suc (used_in ls)) ≡ length (cond b (gather (suc e) ls) (record_of e l ∷ gather (suc e) ls))
    go true h = h
    go false h = ap suc h

pub number-back : (t : ℕ) → suc t - 1 ≡ t
number-back t = omega arith

gather-records : {m k e : ℕ} {ls : List EngineLoad} → k ≤ type_limit → Shaped m k e ls → records_bytes k e ls ≡ records_out k (gather e ls)
unfolding records_bytes records_out gather
gather-records few bare = refl
gather-records {k = k} {e = e} {ls = l ∷ ls} few (along six past idle rest) = go (holds_none l.counts) (gather-records few rest)
  where
    same : record_bytes k e l ≡ record_out k e l.time l.memory (count_no l)
    same = record-out k e l l.time l.memory (count_no l) (omega arith) refl refl (λ t. ap (λ (j : ℕ). get_or l.counts j 0) (sym (number-back t)))

    go : (b : Bool) → records_bytes k (suc e) ls ≡ records_out k (gather (suc e) ls)
        → cond b [] (record_bytes k e l) ++ records_bytes k (suc e) ls ≡ records_out k (cond b (gather (suc e) ls) (record_of e l ∷ gather (suc e) ls))
    go true h = h
    go false h = ap₂ (λ (x z : List ℕ). x ++ z) same h

-- main: the sheet of loads is that of their records
pub gather-sheet : {m k : ℕ} {ls : List EngineLoad} → k ≤ type_limit → Shaped m k 1 ls → sheet_bytes k ls ≡ sheet_with k (gather 1 ls)
unfolding sheet_bytes
gather-sheet {k = k} {ls = ls} few shaped =
    rw (gather-used 1 ls, gather-records few shaped) (head-out k (length (gather 1 ls)) (records_out k (gather 1 ls)))

-- main: some instance

some-count : (x : List ℕ) → holds_none x ≡ false → (i : ℕ) × (1 ≤ get_or x i 0)
unfolding holds_none
some-count [] h = absurd (not-both refl h)
some-count (a ∷ x) h = go (eqb a 0) refl (some-count x)
  where
    go : (b : Bool) → eqb a 0 ≡ b → (holds_none x ≡ false → (i : ℕ) × (1 ≤ get_or x i 0)) → (i : ℕ) × (1 ≤ get_or (a ∷ x) i 0)
    go true q rest = let (i, one) = rest (rw q at h) in (suc i, one)
    go false q rest = (0, omega (arith, eqb-false a 0 q))

pub no-count : (x : List ℕ) → holds_none x ≡ true → (i : ℕ) → get_or x i 0 ≡ 0
no-count x h i = ap (λ (l : List ℕ). get_or l i 0) (holds_none-is-zero x h) ∙ get_or-padded [] (length x) i 0

holds-some : {k : ℕ} {l : EngineLoad} → HasInstance k l → holds_none l.counts ≡ false
holds-some {l = l} has = go (holds_none l.counts) refl
  where
    go : (b : Bool) → holds_none l.counts ≡ b → b ≡ false
    go true q = absurd (omega (arith, no-count l.counts q (has.type - 1), has.some))
    go false q = refl

pub idle-none : holds_none idle_engine.counts ≡ true
unfolding holds_none
idle-none = refl

-- main: what is gathered is a list of records as a sheet may state them

rising-from : {m k e : ℕ} {ls : List EngineLoad} (a : ℕ) → a ≤ e → Shaped m k (suc e) ls → Rising m a (gather (suc e) ls)
unfolding gather
rising-from a h bare = none
rising-from {m = m} {e = e} {ls = l ∷ ls} a h (along six past idle rest) = go (holds_none l.counts) refl (rising-from a (omega arith) rest) (rising-from (suc e) (le_refl (suc e)) rest)
  where
    go : (b : Bool) → holds_none l.counts ≡ b → Rising m a (gather (suc (suc e)) ls) → Rising m (suc e) (gather (suc (suc e)) ls)
        → Rising m a (cond b (gather (suc (suc e)) ls) (record_of (suc e) l ∷ gather (suc (suc e)) ls))
    go true q kept later = kept
    go false q kept later = next {a = a} {r = record_of (suc e) l} (omega arith) (not-past m (suc e) l idle q) later

pub gather-rising : {m k : ℕ} {ls : List EngineLoad} → Shaped m k 1 ls → Rising m 0 (gather 1 ls)
gather-rising shape = rising-from 0 (le_refl 0) shape

pub gather-each : {m k e : ℕ} {ls : List EngineLoad} → Shaped m k e ls → Each (HasInstance k) (gather e ls)
unfolding gather
gather-each bare = done
gather-each {k = k} {e = e} {ls = l ∷ ls} (along six past idle rest) = go (holds_none l.counts) refl (gather-each rest)
  where
    has : holds_none l.counts ≡ false → HasInstance k l
    has q =
        let (i, one) = some-count l.counts q in
        record { six = six; past = λ t h. past (t - 1) (omega arith); type = suc i; typed = omega arith; some = subst (λ (j : ℕ). 1 ≤ get_or l.counts j 0) (sym (number-back i)) one }

    go : (b : Bool) → holds_none l.counts ≡ b → Each (HasInstance k) (gather (suc e) ls) → Each (HasInstance k) (cond b (gather (suc e) ls) (record_of e l ∷ gather (suc e) ls))
    go true q kept = kept
    go false q kept = more (has q) kept

-- main: where as many engines hold an instance as stand before those that hold none, what is gathered is the records of the engines from the first on

-- those past u hold none
abbrev pub NonePast : ℕ → List EngineLoad → Type 0
NonePast u ls = (i : ℕ) → u ≤ i → holds_none (get_or ls i idle_engine).counts ≡ true

used-below : (ls : List EngineLoad) (u : ℕ) → NonePast u ls → used_in ls ≤ u
unfolding used_loads
used-below [] u idle = omega arith
used-below (l ∷ ls) zero idle = go (holds_none l.counts) (idle 0 (le_refl 0)) (used-below ls zero (λ i h. idle (suc i) (omega arith)))
  where
    go : (b : Bool) → b ≡ true → used_in ls ≤ zero → cond b (used_in ls) (suc (used_in ls)) ≤ zero
    go true q h = h
    go false q h = absurd (not-both q refl)
used-below (l ∷ ls) (suc u) idle = go (holds_none l.counts) (used-below ls u (λ i h. idle (suc i) (omega arith)))
  where
    go : (b : Bool) → used_in ls ≤ u → cond b (used_in ls) (suc (used_in ls)) ≤ suc u
    go true h = omega arith
    go false h = omega arith

gather_none : (e : ℕ) (ls : List EngineLoad) → NonePast zero ls → gather e ls ≡ []
unfolding gather
gather_none e [] idle = refl
gather_none e (l ∷ ls) idle = go (holds_none l.counts) (idle 0 (le_refl 0)) (gather_none (suc e) ls (λ i h. idle (suc i) (omega arith)))
  where
    go : (b : Bool) → b ≡ true → gather (suc e) ls ≡ [] → cond b (gather (suc e) ls) (record_of e l ∷ gather (suc e) ls) ≡ []
    go true q h = h
    go false q h = absurd (not-both q refl)

gather-first : (e u : ℕ) (ls : List EngineLoad) → used_in ls ≡ u → NonePast u ls → gather e ls ≡ records_from e (take u ls)
unfolding used_loads gather records_from
gather-first e zero ls used idle = gather_none e ls idle
gather-first e (suc u) [] used idle = absurd (omega (arith, used))
gather-first e (suc u) (l ∷ ls) used idle = go (holds_none l.counts) used (gather-first (suc e) u ls)
  where
    later : NonePast u ls
    later i h = idle (suc i) (omega arith)

    go : (b : Bool) → cond b (used_in ls) (suc (used_in ls)) ≡ suc u → (used_in ls ≡ u → NonePast u ls → gather (suc e) ls ≡ records_from (suc e) (take u ls))
        → cond b (gather (suc e) ls) (record_of e l ∷ gather (suc e) ls) ≡ record_of e l ∷ records_from (suc e) (take u ls)
    go true h rest = absurd (omega (arith, h, used-below ls u later))
    go false h rest = ap (λ (rs : List EngineRecord). record_of e l ∷ rs) (rest (omega (arith, h)) later)

records-snoc : (e : ℕ) (ls : List EngineLoad) (l : EngineLoad) → records_from e (ls ++ (l ∷ [])) ≡ records_from e ls ++ (record_of (e + length ls) l ∷ [])
unfolding records_from
records-snoc e [] l =
    let same : e ≡ e + 0 = omega arith in
    ap (λ (n : ℕ). record_of n l ∷ []) same
records-snoc e (k ∷ ls) l =
    let same : suc e + length ls ≡ e + suc (length ls) = omega arith in
    ap (λ (rs : List EngineRecord). record_of e k ∷ rs) (records-snoc (suc e) ls l ∙ ap (λ (n : ℕ). records_from (suc e) ls ++ (record_of n l ∷ [])) same)

-- what `record_no` gives past the end
abbrev blank : EngineLoad
blank = record { time = 0; memory = 0; counts = [] }

records-to : (ls : List EngineLoad) (u : ℕ) → u ≤ length ls → records_from 1 (take u ls) ≡ records_to ls u
unfolding records_from records_to
records-to ls zero h = refl
records-to ls (suc u) h =
    let earlier : records_from 1 (take u ls) ≡ records_to ls u = records-to ls u (omega arith) in
    let size : 1 + length (take u ls) ≡ suc u = omega (arith, length-take-le u ls (omega arith)) in
    let load : get_or ls u blank ≡ record_no ls (suc u) = ap (λ (j : ℕ). get_or ls j blank) (sym (number-back u)) in
    ap (records_from 1) (take-suc ls u blank h)
    ∙ records-snoc 1 (take u ls) (get_or ls u blank)
    ∙ (λ i. earlier i ++ (record_of (size i) (load i) ∷ []))

pub gather-to : (u : ℕ) (ls : List EngineLoad) → u ≤ length ls → used_in ls ≡ u → NonePast u ls → gather 1 ls ≡ records_to ls u
gather-to u ls h used idle = gather-first 1 u ls used idle ∙ records-to ls u h

-- main: from records, numbers rising, to the loads of the engines e, e + 1, .., as many as n

unfoldable pub spread : ℕ → ℕ → List EngineRecord → List EngineLoad
spread e zero rs = []
spread e (suc n) [] = idle_engine ∷ spread (suc e) n []
spread e (suc n) (r ∷ rs) = cond (eqb r.number e) (r.load ∷ spread (suc e) n rs) (idle_engine ∷ spread (suc e) n (r ∷ rs))

pub length-spread : (e n : ℕ) (rs : List EngineRecord) → length (spread e n rs) ≡ n
unfolding spread
length-spread e zero rs = refl
length-spread e (suc n) [] = ap suc (length-spread (suc e) n [])
length-spread e (suc n) (r ∷ rs) = go (eqb r.number e) (length-spread (suc e) n rs) (length-spread (suc e) n (r ∷ rs))
  where
    go : (b : Bool) → length (spread (suc e) n rs) ≡ n → length (spread (suc e) n (r ∷ rs)) ≡ n
        → length (cond b (r.load ∷ spread (suc e) n rs) (idle_engine ∷ spread (suc e) n (r ∷ rs))) ≡ suc n
    go true taken kept = ap suc taken
    go false taken kept = ap suc kept

lt_of_ne : {a b : ℕ} → a < b → (b ≡ suc a → ⊥) → suc a < b
lt_of_ne {a = a} {b = b} h n = go (ltb (suc a) b) refl
  where
    go : (q : Bool) → ltb (suc a) b ≡ q → suc a < b
    go true q = ltb-true (suc a) b q
    go false q = absurd (n (omega (arith, ltb-false (suc a) b q)))

idle-tidy : (k : ℕ) → Tidy k idle_engine
idle-tidy k = record { six = refl; past = λ t h. get_or-padded [] type_limit t 0; idle = λ q. refl }

stated-tidy : {k : ℕ} {l : EngineLoad} → HasInstance k l → Tidy k l
stated-tidy {l = l} has = record {
  six = has.six;
  past = λ t h. subst (λ (j : ℕ). get_or l.counts j 0 ≡ 0) (number-back t) (has.past (suc t) (omega arith));
  idle = λ q. absurd (not-both q (holds-some has));
}

-- what is known of the records that are left for the engines after a
pub record Left (m k a n : ℕ) (rs : List EngineRecord) : Type 0 where
  pub rising : Rising m a rs
  pub each : Each (HasInstance k) rs
  pub room : m ≤ a + n

-- what is left for the engines after the next one: its record is taken, or it is not the next
no_record : {m k a n : ℕ} → Left m k a (suc n) [] → Left m k (suc a) n []
no_record left = record { rising = none; each = done; room = omega (arith, left.room) }

take-record : {m k a n : ℕ} {r : EngineRecord} {rs : List EngineRecord} → Left m k a (suc n) (r ∷ rs) → r.number ≡ suc a → Left m k (suc a) n rs
take-record {m = m} {k = k} {a = a} {n = n} {r = r} {rs = rs} left same = go left.rising left.each
  where
    go : Rising m a (r ∷ rs) → Each (HasInstance k) (r ∷ rs) → Left m k (suc a) n rs
    go (next low high later) (more has rest) =
        record { rising = subst (λ (b : ℕ). Rising m b rs) same later; each = rest; room = omega (arith, left.room) }

pass-record : {m k a n : ℕ} {r : EngineRecord} {rs : List EngineRecord} → Left m k a (suc n) (r ∷ rs) → (r.number ≡ suc a → ⊥) → Left m k (suc a) n (r ∷ rs)
pass-record {m = m} {k = k} {a = a} {n = n} {r = r} {rs = rs} left other = go left.rising
  where
    go : Rising m a (r ∷ rs) → Left m k (suc a) n (r ∷ rs)
    go (next low high later) = record { rising = next (lt_of_ne low other) high later; each = left.each; room = omega (arith, left.room) }

first-record : {m k a n : ℕ} {r : EngineRecord} {rs : List EngineRecord} → Left m k a n (r ∷ rs) → HasInstance k r.load × (a < r.number) × (r.number ≤ m)
first-record {m = m} {k = k} {a = a} {r = r} {rs = rs} left = go left.rising left.each
  where
    go : Rising m a (r ∷ rs) → Each (HasInstance k) (r ∷ rs) → HasInstance k r.load × (a < r.number) × (r.number ≤ m)
    go (next low high later) (more has rest) = (has, low, high)

pub spread-neat : {m k : ℕ} (a n : ℕ) (rs : List EngineRecord) → Left m k a n rs → Neat m k (suc a) (spread (suc a) n rs)
unfolding spread
spread-neat a zero rs left = nil
spread-neat {k = k} a (suc n) [] left = cons (idle-tidy k) (λ h. refl) (spread-neat (suc a) n [] (no_record left))
spread-neat {m = m} {k = k} a (suc n) (r ∷ rs) left =
    go (eqb r.number (suc a)) refl (λ same. spread-neat (suc a) n rs (take-record left same)) (λ other. spread-neat (suc a) n (r ∷ rs) (pass-record left other))
  where
    go : (b : Bool) → eqb r.number (suc a) ≡ b → (r.number ≡ suc a → Neat m k (suc (suc a)) (spread (suc (suc a)) n rs)) → ((r.number ≡ suc a → ⊥) → Neat m k (suc (suc a)) (spread (suc (suc a)) n (r ∷ rs)))
        → Neat m k (suc a) (cond b (r.load ∷ spread (suc (suc a)) n rs) (idle_engine ∷ spread (suc (suc a)) n (r ∷ rs)))
    go true q taken kept =
        let first = first-record left in
        let same = eqb-true r.number (suc a) q in
        cons (stated-tidy first.0) (λ (h : m < suc a). absurd (omega (arith, first.2, same))) (taken same)
    go false q taken kept = cons (idle-tidy k) (λ h. refl) (kept (eqb-false r.number (suc a) q))

pub gather-spread : {m k : ℕ} (a n : ℕ) (rs : List EngineRecord) → Left m k a n rs → gather (suc a) (spread (suc a) n rs) ≡ rs
unfolding spread gather
gather-spread a zero [] left = refl
gather-spread a zero (r ∷ rs) left = let first = first-record left in absurd (omega (arith, first.1, first.2, left.room))
gather-spread a (suc n) [] left = rw idle-none (gather-spread (suc a) n [] (no_record left))
gather-spread {m = m} {k = k} a (suc n) (r ∷ rs) left =
    go (eqb r.number (suc a)) refl (λ same. gather-spread (suc a) n rs (take-record left same)) (λ other. gather-spread (suc a) n (r ∷ rs) (pass-record left other))
  where
    go : (b : Bool) → eqb r.number (suc a) ≡ b → (r.number ≡ suc a → gather (suc (suc a)) (spread (suc (suc a)) n rs) ≡ rs)
        → ((r.number ≡ suc a → ⊥) → gather (suc (suc a)) (spread (suc (suc a)) n (r ∷ rs)) ≡ r ∷ rs)
        → gather (suc a) (cond b (r.load ∷ spread (suc (suc a)) n rs) (idle_engine ∷ spread (suc (suc a)) n (r ∷ rs))) ≡ r ∷ rs
    go true q taken kept =
        let same = eqb-true r.number (suc a) q in
        let number = sym same in
        rw (holds-some (first-record left).0) (cons-path (λ i. record { number = number i; load = r.load }) (taken same))
    go false q taken kept = rw idle-none (kept (eqb-false r.number (suc a) q))
