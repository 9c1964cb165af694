-- The numbers for which a file is refused as it is read: 1 to 10, 31, 41 and 43, and where one kind of engine is wanted 42, whatever its bytes. Each test of a field, and of the file's end, hands out one of them or none.
use Rattle.std.proofs.Common.{Some, Option, None, Result, Ok, Err}
use Prim.Native.Nat.{ℕ, zero, suc, ◌≤◌}
use mathlib.Core.Path.{◌≡◌, refl, subst}
use mathlib.Core.List.{List, [], ◌∷◌, map}
use mathlib.Core.Bool.{Bool, true, false, cond, not, ◌&&◌, ◌||◌}
use mathlib.Core.Logic.{◌⊎◌, inl, inr}
use native.Mathlib.Omega.{arith}
use lib.Dec.{eqb, leb}
use lib.ListN.{length, drop}
use Rattle.system.specs.declared.TaskType.{TaskType}
use Rattle.system.specs.declared.System.{System}
use Rattle.system.specs.declared.FieldRule.{FieldRule}
use Rattle.system.specs.Values.{task_of, with_data, with_most, with_pace, with_costs, blank, with_platform, with_second, with_type, last_type, with_last}
use Rattle.system.specs.Limits.{engine_limit, size_limit, column_limit, or_else, size_fault, platform_fault, kind_counted, kind_fault, type_fault, most_fault, cycle_keeps, pace_fault, costs_fault, columns_of, columns_fault, is_one_kind, kinds_agree, kinds_fault}
use Rattle.system.specs.Rules.{field_rules, rule_of, follows, may_follow}
use Rattle.system.specs.Layout.{Reading, opened, unread, byte_at, word2, word4, field_size, headed_field, whole_field, body_part, is_type, is_data, is_most, is_pace, is_second, is_costs, seen_of, unless_fault, platform_from, type_from, data_from, most_from, pace_from, second_from, costs_from, ruled_head, head_of, body_of, ruled_field, field_of, end_of, after_field, fields_from, read_card, of_one_kind, read_file}

-- a number for which a file is refused, whether one kind of engine is wanted or not
abbrev Own : ℕ → Type 0
Own n = ((1 ≤ n) × (n ≤ 10)) ⊎ ((n ≡ 31) ⊎ ((n ≡ 41) ⊎ (n ≡ 43)))

-- a reading that is refused, if it is, for such a number
data Numbered : Reading → Type 0 where
  opens : (y : System) → Numbered (opened y)
  stops : (n : ℕ) → Own n → Numbered (unread n)

-- a head that stops, if it does, for such a number
data HeadNumbered : Result FieldRule ℕ → Type 0 where
  ruled : (r : FieldRule) → HeadNumbered (Ok r)
  stopped : (n : ℕ) → Own n → HeadNumbered (Err n)

-- intermediate: one of two

either : {A : Type 0} (P : A → Type 0) (b : Bool) {x z : A} → P x → P z → P (cond b x z)
either P true p q = p
either P false p q = q

-- the number of a limit: of one that is broken, or 0
abbrev Fault : ℕ → Type 0
Fault n = (n ≡ 0) ⊎ Own n

one : Own 1
one = inl (omega arith, omega arith)

kept : Fault 0
kept = inl refl

-- 5, 6, 8 and 10, and else what is left
fault : (n : ℕ) {k : ℕ} → 1 ≤ n → n ≤ 10 → (b : Bool) → Fault k → Fault (cond b n k)
fault n h g b rest = either Fault b (inr (inl (h, g))) rest

or-else : (n k : ℕ) → Fault n → Fault k → Fault (or_else n k)
or-else n k first rest = either Fault (eqb n 0) rest first

unless-numbered : (n : ℕ) (y : System) → Fault n → Numbered (unless_fault n y)
unless-numbered n y (inl e) = rw e (opens y)
unless-numbered n y (inr h) = either Numbered (eqb n 0) (opens y) (stops n h)

-- intermediate: one field

head-numbered : (found : Option FieldRule) (size : ℕ) (whole : Bool) (last : ℕ) → HeadNumbered (ruled_head found size whole last)
unfolding ruled_head
head-numbered None size whole last = stopped 2 (inl (omega arith, omega arith))
head-numbered (Some r) size whole last =
    either HeadNumbered (not (may_follow follows last r.tag)) (stopped 3 (inl (omega arith, omega arith)))
    (either HeadNumbered (not (eqb size r.body)) (stopped 4 (inl (omega arith, omega arith)))
    (either HeadNumbered (not whole) (stopped 1 one) (ruled r)))

-- u, s and d of a type, or of its d alone
type-fault : (t : TaskType) → Fault (type_fault t)
type-fault t = fault 8 (omega arith) (omega arith) (not (leb t.time size_limit && leb t.memory size_limit && leb t.data size_limit)) kept

size-fault : (u s : ℕ) → Fault (size_fault u s)
size-fault u s = fault 8 (omega arith) (omega arith) (not (leb u size_limit && leb s size_limit)) kept

platform-fault : (m rule u s : ℕ) → Fault (platform_fault m rule u s)
platform-fault m rule u s =
    fault 5 (omega arith) (omega arith) (not (leb 1 m && leb m engine_limit))
    (fault 6 (omega arith) (omega arith) (not (leb rule 1)) (size-fault u s))

kind-fault : (m n u s : ℕ) → Fault (kind_fault m n u s)
kind-fault m n u s = fault 5 (omega arith) (omega arith) (not (kind_counted m n)) (size-fault u s)

columns-fault : (ts : List TaskType) → Fault (columns_fault ts)
columns-fault ts = fault 10 (omega arith) (omega arith) (not (leb (columns_of (map (λ (t : TaskType). t.ceiling) ts)) column_limit)) kept

most-fault : (q : ℕ) → Fault (most_fault (Some q))
most-fault q = either Fault (eqb q 0) (inr (inr (inl refl))) kept

pace-fault : (whole u c p : ℕ) → Fault (pace_fault whole u (Some (record { run = c; period = p })))
pace-fault whole u c p = either Fault (not (cycle_keeps whole u (record { run = c; period = p }))) (inr (inr (inr (inr refl)))) kept

kinds-fault : (y : System) → Fault (kinds_fault y)
kinds-fault y = either Fault (not (kinds_agree (is_one_kind y.second) y.typecount y.types)) (inr (inr (inr (inl refl)))) kept

type-numbered : (t : TaskType) (y : System) → Numbered (type_from t y)
unfolding type_from
type-numbered t y = unless-numbered (type_fault t) (with_type t y) (type-fault t)

data-numbered : (d : ℕ) (y : System) → Numbered (data_from d y)
unfolding data_from
data-numbered d y = unless-numbered (type_fault (with_data d (last_type y))) (with_last (with_data d (last_type y)) y) (type-fault (with_data d (last_type y)))

most-numbered : (q : ℕ) (y : System) → Numbered (most_from q y)
unfolding most_from
most-numbered q y = unless-numbered (most_fault (Some q)) (with_last (with_most q (last_type y)) y) (most-fault q)

pace-numbered : (c p : ℕ) (y : System) → Numbered (pace_from c p y)
unfolding pace_from
pace-numbered c p y =
    unless-numbered (pace_fault y.timecap (last_type y).time (Some (record { run = c; period = p }))) (with_last (with_pace c p (last_type y)) y) (pace-fault y.timecap (last_type y).time c p)

platform-numbered : (m rule u s : ℕ) (y : System) → Numbered (platform_from m rule u s y)
unfolding platform_from
platform-numbered m rule u s y = unless-numbered (platform_fault m rule u s) (with_platform m rule u s y) (platform-fault m rule u s)

second-numbered : (n u s : ℕ) (y : System) → Numbered (second_from n u s y)
unfolding second_from
second-numbered n u s y = unless-numbered (kind_fault y.engines n u s) (with_second n u s y) (kind-fault y.engines n u s)

costs-numbered : (u s : ℕ) (y : System) → Numbered (costs_from u s y)
unfolding costs_from
costs-numbered u s y = unless-numbered (costs_fault (Some (record { time = u; memory = s }))) (with_last (with_costs u s (last_type y)) y) (size-fault u s)

body-numbered : (r : FieldRule) (b : List ℕ) (y : System) → Numbered (body_of r b y)
unfolding body_of
body-numbered r b y =
    either Numbered (leb r.allowed (seen_of r.tag y)) (stops 7 (inl (omega arith, omega arith)))
    (either Numbered (is_type r.tag) (type-numbered (task_of (word4 b 0) (word4 b 4) (word2 b 8)) y)
    (either Numbered (is_data r.tag) (data-numbered (word4 b 0) y)
    (either Numbered (is_most r.tag) (most-numbered (word2 b 0) y)
    (either Numbered (is_pace r.tag) (pace-numbered (word4 b 0) (word4 b 4) y)
    (either Numbered (is_second r.tag) (second-numbered (byte_at b 0) (word4 b 1) (word4 b 5) y)
    (either Numbered (is_costs r.tag) (costs-numbered (word4 b 0) (word4 b 4) y)
    (platform-numbered (byte_at b 0) (byte_at b 1) (word4 b 2) (word4 b 6) y)))))))

field-numbered : (s : List ℕ) (last : ℕ) (y : System) → Numbered (field_of s last y)
unfolding field_of head_of ruled_field
field-numbered s last y =
    go (head_of s last) (either HeadNumbered (not (headed_field s)) (stopped 1 one) (head-numbered (rule_of field_rules (byte_at s 0)) (word2 s 1) (whole_field s) last))
  where
    go : (h : Result FieldRule ℕ) → HeadNumbered h → Numbered (ruled_field h (body_part s) y)
    go h (ruled r) = body-numbered r (body_part s) y
    go h (stopped n own) = stops n own

end-numbered : (last : ℕ) (y : System) → Numbered (end_of last y)
unfolding end_of
end-numbered last y =
    either Numbered (eqb last 0 || eqb y.typecount 0) (stops 9 (inl (omega arith, omega arith)))
    (unless-numbered (or_else (kinds_fault y) (columns_fault y.types)) y (or-else (kinds_fault y) (columns_fault y.types) (kinds-fault y) (columns-fault y.types)))

-- main: the whole file

fields-numbered : (f : ℕ) (s : List ℕ) (last : ℕ) (y : System) → Numbered (fields_from f s last y)
unfolding fields_from
fields-numbered zero s last y = end-numbered last y
fields-numbered (suc f) [] last y = end-numbered last y
fields-numbered (suc f) (b ∷ s) last y = go (field_of (b ∷ s) last y) (field-numbered (b ∷ s) last y) (λ next. fields-numbered f (drop (field_size (b ∷ s)) (b ∷ s)) b next)
  where
    go : (x : Reading) → Numbered x → ((next : System) → Numbered (fields_from f (drop (field_size (b ∷ s)) (b ∷ s)) b next))
        → Numbered (after_field x (λ (next : System). fields_from f (drop (field_size (b ∷ s)) (b ∷ s)) b next))
    go x (opens next) rest = rest next
    go x (stops n own) rest = stops n own

-- where one kind is wanted, 42 is one number more
pub own-number : (file : List ℕ) (n : ℕ) → read_file file ≡ unread n → ((1 ≤ n) × (n ≤ 10)) ⊎ ((n ≡ 31) ⊎ ((n ≡ 41) ⊎ ((n ≡ 42) ⊎ (n ≡ 43))))
unfolding read_file read_card of_one_kind
own-number file n e = go (read_card file) (fields-numbered (length file) file 0 blank) e
  where
    more : Own n → ((1 ≤ n) × (n ≤ 10)) ⊎ ((n ≡ 31) ⊎ ((n ≡ 41) ⊎ ((n ≡ 42) ⊎ (n ≡ 43))))
    more (inl low) = inl low
    more (inr (inl most)) = inr (inl most)
    more (inr (inr (inl missing))) = inr (inr (inl missing))
    more (inr (inr (inr broken))) = inr (inr (inr (inr broken)))

    wanted : (b : Bool) (y : System) → cond b (opened y) (unread 42) ≡ unread n → n ≡ 42
    wanted true y e = let z : ◌≡◌ {A = ℕ} 0 1 = cc in absurd (omega arith)
    wanted false y e = cc

    go : (x : Reading) → Numbered x → of_one_kind x ≡ unread n → ((1 ≤ n) × (n ≤ 10)) ⊎ ((n ≡ 31) ⊎ ((n ≡ 41) ⊎ ((n ≡ 42) ⊎ (n ≡ 43))))
    go x (opens y) e = inr (inr (inr (inl (wanted (is_one_kind y.second) y e))))
    go x (stops k own) e = let same : k ≡ n = cc in more (subst Own same own)
