-- Request 2026-09 for files that differ: in their n (C and T, which no plan asks, may differ too), so that the numbers of two sheets bound that of both; and in their rule alone, so that shared code never needs more engines than own copies.
-- A partition asks no n, and under rule 0 it is one under rule 1; so systems are compared by their partitions and not by their columns.
use Prim.Native.Nat.{ℕ, suc, ◌+◌, ◌-◌, ◌≤◌}
use mathlib.Core.Path.{◌≡◌, refl, sym, ap, subst, ◌∙◌}
use mathlib.Core.List.{List, [], ◌∷◌}
use mathlib.Core.Bool.{Bool, true, false, cond}
use mathlib.Core.Logic.{◌↔◌}
use native.Mathlib.Nat.{suc_inj}
use native.Mathlib.Omega.{arith}
use borrow.Author.Tests.{leb-true, leb-false}
use lib.ListN.{length, get_or}
use lib.Dec.{leb}
use Rattle.system.specs.declared.TaskType.{TaskType}
use Rattle.system.specs.declared.System.{System}
use Rattle.system.specs.Values.{ceilings_of}
use Rattle.system.specs.Layout.{read_file, opened}
use Rattle.system.proofs.Laws.{Limits, read-limits}
use Rattle.loads.specs.Load.{fits_engine}
use Rattle.loads.specs.Column.{column_of}
use Rattle.loads.proofs.Rules.{memory-shared}
use Rattle.partition.specs.Assignment.{Assignment, load_on, among, engines_to}
use Rattle.partition.specs.OwnWords.{over_instances, sum_on, time_on, memory_on, shared_memory_on, no_type, type_at}
use Rattle.partition.specs.ForSystem.{row_for}
use Rattle.partition.specs.Plain.{type_no, ceiling_no, EngineOf, Partition, used_to}
use Rattle.partition.specs.Releases.{NoMore, Serving, On, instances_in, Within, AddsWithin, Fewest, SameButCeilings, BothReleases, SheetsAdd, SameButRule, SharedNoMore, SheetsShare}
use Rattle.partition.proofs.Lists.{among-engines_to, distinct-engines_to, length-engines_to}
use Rattle.partition.proofs.Rows.{lowest_row-most}
use Rattle.partition.proofs.ForSystem.{length-ceilings}
use Rattle.partition.proofs.OwnWords.{memory_on-memory_of, shared_memory_on-memory_of}
use Rattle.partition.proofs.Plain.{ceiling-out}
use Rattle.partition.proofs.Releases.{back, row-fewest, feasible-row, row-only, releases-within}

-- intermediate: partitions do not ask n, and any words for the same engines are as good

module _ {E F : ℕ → Type 0} (same : (e : ℕ) → E e ↔ F e) where
  engines-said : {y : System} {count : ℕ → ℕ} {χ : Assignment} → Partition y E count χ → Partition y F count χ
  engines-said p =
      let k = p.keeps in
      record {
        six = p.six;
        all = p.all;
        keeps = record {
          placed = λ t j h l. (same _).0 (k.placed t j h l);
          time = λ e f. k.time e ((same e).1 f);
          own_copies = λ r e f. k.own_copies r e ((same e).1 f);
          shared_code = λ r e f. k.shared_code r e ((same e).1 f);
          separate = λ t q is e f. k.separate t q is e ((same e).1 f);
        };
      }

pub fewest-said : {E F : ℕ → Type 0} → ((e : ℕ) → E e ↔ F e) → {y : System} {count : ℕ → ℕ} {r : ℕ} → Fewest y E count r → Fewest y F count r
fewest-said same f = record {
  mapping = f.mapping;
  partition = engines-said same f.partition;
  uses = f.uses;
  least = λ χ p. f.least χ (engines-said (λ e. ((same e).1, (same e).0)) p);
}

counted-said : {y : System} {E : ℕ → Type 0} {c d : ℕ → ℕ} {χ : Assignment} → ((t : ℕ) → 1 ≤ t → c t ≡ d t) → Partition y E c χ → Partition y E d χ
counted-said same p = record { six = p.six; all = λ t low. p.all t low ∙ same t low; keeps = p.keeps }

pub fewest-counted : {y : System} {E : ℕ → Type 0} {c d : ℕ → ℕ} {r : ℕ} → ((t : ℕ) → 1 ≤ t → c t ≡ d t) → Fewest y E c r → Fewest y E d r
fewest-counted same f = record {
  mapping = f.mapping;
  partition = counted-said same f.partition;
  uses = f.uses;
  least = λ χ p. f.least χ (counted-said (λ t low. sym (same t low)) p);
}

-- a sum over the types is the same where the types are the same in all that it asks
sum_same : (each : TaskType → List ℕ → ℕ) (ts us : List TaskType) (χ : Assignment) → length ts ≡ length us
    → ((i : ℕ) (places : List ℕ) → each (get_or ts i no_type) places ≡ each (get_or us i no_type) places) → sum_on each ts χ ≡ sum_on each us χ
unfolding sum_on
sum_same each [] [] χ l h = refl
sum_same each [] (u ∷ us) χ l h = absurd (omega arith)
sum_same each (t ∷ ts) [] χ l h = absurd (omega arith)
sum_same each (t ∷ ts) (u ∷ us) [] l h = refl
sum_same each (t ∷ ts) (u ∷ us) (places ∷ χ) l h =
    ap (λ (n : ℕ). n + sum_on each ts χ) (h 0 places) ∙ ap (λ (n : ℕ). each u places + n) (sum_same each ts us χ (suc_inj l) (λ i. h (suc i)))

-- what a type says at index i is what it says of type i + 1
from_one : {A : Type 0} (f : TaskType → A) (y z : System) → ((t : ℕ) → 1 ≤ t → f (type_no z t) ≡ f (type_no y t)) → (i : ℕ) → f (type_at z i) ≡ f (type_at y i)
from_one f y z h i = subst (λ (j : ℕ). f (type_at z j) ≡ f (type_at y j)) (back i) (h (suc i) (omega arith))

module _ (y z : System) (ly : Limits y) (lz : Limits z) (alike : SameButCeilings y z) where
  level : length z.types ≡ length y.types
  level = lz.six ∙ sym ly.six

  times-same : (e : ℕ) (χ : Assignment) → time_on e z.types χ ≡ time_on e y.types χ
  times-same e χ =
      sum_same (λ (t : TaskType) (places : List ℕ). over_instances e t.time places) z.types y.types χ level
      (λ i places. ap (λ (n : ℕ). over_instances e n places) (from_one (λ (t : TaskType). t.time) y z alike.times i))

  own_same : (e : ℕ) (χ : Assignment) → memory_on e z.types χ ≡ memory_on e y.types χ
  own_same e χ =
      sum_same (λ (t : TaskType) (places : List ℕ). over_instances e (t.memory + t.data) places) z.types y.types χ level
      (λ i places. ap (λ (n : ℕ). over_instances e n places) (from_one (λ (t : TaskType). t.memory + t.data) y z (λ t low. rw (alike.codes t low, alike.datas t low)) i))

  shared_same : (e : ℕ) (χ : Assignment) → shared_memory_on e z.types χ ≡ shared_memory_on e y.types χ
  shared_same e χ =
      rw (
        sum_same (λ (t : TaskType) (places : List ℕ). cond (among places e) t.memory 0) z.types y.types χ level
            (λ i places. ap (λ (n : ℕ). cond (among places e) n 0) (from_one (λ (t : TaskType). t.memory) y z alike.codes i)),
        sum_same (λ (t : TaskType) (places : List ℕ). over_instances e t.data places) z.types y.types χ level
            (λ i places. ap (λ (n : ℕ). over_instances e n places) (from_one (λ (t : TaskType). t.data) y z alike.datas i)),
      )

  ceilings-aside : {E : ℕ → Type 0} {count : ℕ → ℕ} {χ : Assignment} → Partition z E count χ → Partition y E count χ
  ceilings-aside {E} {count} {χ} p =
      let k = p.keeps in
      record {
        six = p.six;
        all = p.all;
        keeps = record {
          placed = k.placed;
          time = λ e f. omega (arith, k.time e f, times-same e χ, alike.timecap);
          own_copies = λ r e f. omega (arith, k.own_copies (alike.rule ∙ r) e f, own_same e χ, alike.memorycap);
          shared_code = λ r e f. omega (arith, k.shared_code (alike.rule ∙ r) e f, shared_same e χ, alike.memorycap);
          separate = λ t q is e f. k.separate t q (from_one (λ (task : TaskType). task.most) y z alike.mosts t ∙ is) e f;
        };
      }

alike-back : {y z : System} → SameButCeilings y z → SameButCeilings z y
alike-back a = record {
  engines = sym a.engines;
  rule = sym a.rule;
  timecap = sym a.timecap;
  memorycap = sym a.memorycap;
  typecount = sym a.typecount;
  times = λ t low. sym (a.times t low);
  codes = λ t low. sym (a.codes t low);
  datas = λ t low. sym (a.datas t low);
  mosts = λ t low. sym (a.mosts t low);
  theres = λ t low. sym (a.theres t low);
  second = sym a.second;
}

fewest-aside : (y z : System) → Limits y → Limits z → SameButCeilings y z → {E : ℕ → Type 0} {count : ℕ → ℕ} {r : ℕ} → Fewest z E count r → Fewest y E count r
fewest-aside y z ly lz alike f = record {
  mapping = f.mapping;
  partition = ceilings-aside y z ly lz alike f.partition;
  uses = ap (λ (m : ℕ). used_to m f.mapping) (sym alike.engines) ∙ f.uses;
  least = λ χ p. rw alike.engines at (f.least χ (ceilings-aside z y lz ly (alike-back alike) p));
}

-- main: the numbers of two sheets

-- all the engines of a system are in service
abbrev all : System → List ℕ
all y = engines_to y.engines

served : (y : System) → Serving y (all y)
served y = record { once = distinct-engines_to y.engines; engines = λ e h. (among-engines_to y.engines e).0 h }

all_said : (y : System) (e : ℕ) → EngineOf y e ↔ On (all y) e
all_said y e = let s = among-engines_to y.engines e in (s.1, s.0)

all_back : (y : System) (e : ℕ) → On (all y) e ↔ EngineOf y e
all_back y e = among-engines_to y.engines e

module _ (first second both : System) (l1 : Limits first) (l2 : Limits second) (l3 : Limits both) (releases : BothReleases first second both) where
  moved : (z : System) → Limits z → SameButCeilings both z → {r : ℕ} → Fewest z (EngineOf z) (ceiling_no z) r → Fewest both (On (all both)) (instances_in (ceilings_of z)) r
  moved z lz alike f =
      fewest-said (all_said both)
      (fewest-counted (λ t low. sym (ceiling-out z t))
      (fewest-aside both z l3 lz alike (fewest-said (λ e. ((λ k. rw alike.engines at k), (λ k. rw alike.engines k))) f)))

  together : AddsWithin both (ceilings_of first) (ceilings_of second) (ceilings_of both)
  together = record {
    six = (length-ceilings first l1, length-ceilings second l2);
    sums = λ t low. rw (ceiling-out both t, ceiling-out first t, ceiling-out second t) (releases.sums t low);
    inside = record { six = length-ceilings both l3; ceilings = λ t low. omega (arith, ceiling-out both t) };
  }

  sheets-within : SheetsAdd first second both
  sheets-within a b f g h =
      let r = (releases-within both l3 (all both) (served both)).plainly (ceilings_of first) (ceilings_of second) (ceilings_of both) a b together (moved first l1 releases.alike_first f) (moved second l2 releases.alike_second g) (rw (length-engines_to both.engines) h) in
      (r.0, fewest-said (all_back both) (fewest-counted (λ t low. ceiling-out both t) r.1), r.2)

pub sheets-add : (first_file second_file both_file : List ℕ) (first second both : System) → read_file first_file ≡ opened first → read_file second_file ≡ opened second → read_file both_file ≡ opened both
    → BothReleases first second both → SheetsAdd first second both
sheets-add first_file second_file both_file first second both r1 r2 r3 =
    sheets-within first second both (read-limits first_file first r1) (read-limits second_file second r2) (read-limits both_file both r3)

-- main: shared code

module _ (own shared : System) (lo : Limits own) (ls : Limits shared) (alike : SameButRule own shared) where
  rule-aside : {E : ℕ → Type 0} {count : ℕ → ℕ} {χ : Assignment} → Partition own E count χ → Partition shared E count χ
  rule-aside {E} {count} {χ} p =
      let k = p.keeps in
      record {
        six = p.six;
        all = p.all;
        keeps = record {
          placed = k.placed;
          time = λ e f. rw (alike.timecap, alike.types) (k.time e f);
          own_copies = λ r e f. absurd (omega (arith, alike.shared_code, r));
          shared_code = λ r e f. rw alike.types (omega (arith, k.own_copies alike.own_copies e f, memory_on-memory_of e own.types χ, shared_memory_on-memory_of e own.types χ, memory-shared own.types (load_on e χ), alike.memorycap));
          separate = λ t q is. k.separate t q (rw alike.types at is);
        };
      }

  module _ (es : List ℕ) (s : Serving own es) where
    also : Serving shared es
    also = record { once = s.once; engines = λ e h. rw alike.engines (s.engines e h) }

    widened : (x : List ℕ) → Within own x → Within shared x
    widened x w = record { six = w.six; ceilings = λ t low. rw alike.types (w.ceilings t low) }

    fewer : (x : List ℕ) (r : ℕ) → Within own x → Fewest own (On es) (instances_in x) r → (fewer : ℕ) × Fewest shared (On es) (instances_in x) fewer × NoMore fewer r
    fewer x r w f =
        let p = rule-aside f.partition in
        let least = row-fewest shared ls es also x (widened x w) (feasible-row shared ls es also x (widened x w) f.mapping p) in
        (row_for shared es x, least, omega (arith, least.least f.mapping p, ap (λ (m : ℕ). used_to m f.mapping) alike.engines, f.uses))

    rows-shared : (x : List ℕ) → Within own x → NoMore (row_for shared es x) (row_for own es x)
    rows-shared x w = go (leb (row_for own es x) (length es)) refl
      where
        go : (b : Bool) → leb (row_for own es x) (length es) ≡ b → NoMore (row_for shared es x) (row_for own es x)
        go true e =
            let f = fewer x (row_for own es x) w (row-fewest own lo es s x w (leb-true (row_for own es x) (length es) e)) in
            omega (arith, f.2, row-only shared ls es also x (widened x w) f.0 f.1)
        go false e = omega (arith, leb-false (row_for own es x) (length es) e, lowest_row-most (fits_engine shared) (ceilings_of shared) (length es) (column_of (ceilings_of shared) x))

    shared-within : SharedNoMore own shared es
    shared-within = record { rows = rows-shared; feasible = λ count χ p. rule-aside p; plainly = fewer }

  sheets-within-rule : SheetsShare own shared
  sheets-within-rule a f =
      let x = ceilings_of own in
      let w : Within own x = record { six = length-ceilings own lo; ceilings = λ t low. omega (arith, ceiling-out own t) } in
      let r = fewer (all own) (served own) x a w (fewest-said (all_said own) (fewest-counted (λ t low. sym (ceiling-out own t)) f)) in
      (r.0, fewest-said here (fewest-counted (λ t low. ceiling-out own t ∙ ap (λ (ts : List TaskType). (get_or ts (t - 1) no_type).ceiling) (sym alike.types)) r.1), r.2)
    where
      here : (e : ℕ) → On (all own) e ↔ EngineOf shared e
      here e = let s = all_back own e in ((λ h. rw alike.engines (s.0 h)), (λ h. s.1 (rw alike.engines at h)))

pub shared-no-more : (own_file shared_file : List ℕ) (own shared : System) → read_file own_file ≡ opened own → read_file shared_file ≡ opened shared
    → SameButRule own shared → (es : List ℕ) → Serving own es → SharedNoMore own shared es
shared-no-more own_file shared_file own shared r1 r2 alike es s = shared-within own shared (read-limits own_file own r1) (read-limits shared_file shared r2) alike es s

pub sheets-share : (own_file shared_file : List ℕ) (own shared : System) → read_file own_file ≡ opened own → read_file shared_file ≡ opened shared → SameButRule own shared → SheetsShare own shared
sheets-share own_file shared_file own shared r1 r2 alike = sheets-within-rule own shared (read-limits own_file own r1) (read-limits shared_file shared r2) alike
