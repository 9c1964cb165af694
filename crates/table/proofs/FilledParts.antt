-- Laws of the two parts while they are filled: an entry of the row part says none before it gets its row, and the pairs counted stay few.
use Prim.Native.Nat.{ℕ, ◌+◌, ◌*◌, ◌≤◌, ◌<◌}
use mathlib.Core.Path.{◌≡◌, refl, ◌∙◌}
use mathlib.Core.List.{List}
use mathlib.Core.Bool.{true}
use native.Mathlib.Nat.{mul-le-mul_right}
use native.Mathlib.Omega.{arith}
use lib.ListN.{length, set, length-set}
use lib.Seq.{set-set, get_or-set_same, get_or-set_other}
use Rattle.system.specs.declared.System.{System}
use Rattle.system.specs.Values.{ceilings_of}
use Rattle.system.specs.Limits.{columns, column_limit, keeps_limits}
use Rattle.system.proofs.Laws.{limits_of}
use Rattle.loads.specs.Column.{load_of}
use Rattle.table.specs.Parts.{up_to}
use Rattle.table.proofs.Begun.{begun, length-begun, get_or-begun, begun-store}
use Rattle.table.specs.Parts.{row_at, part_of}
use Rattle.table.specs.Pairs.{counted_of}
use Rattle.table.specs.Scan.{RowsTo, EntryWanted, column_counted}
use Rattle.table.proofs.Counted.{counted_to, counted_to-more, counted-few}

-- main: a part that is filled up to column c

module _ (f : ℕ → ℕ) (c : ℕ) (part : List ℕ) (room : c < length part) where
  -- the entry of column c is set to none, and then to what belongs there
  pub stored-again : (a b : ℕ) → b ≡ f c → set (set (begun f c part) c a) c b ≡ begun f (c + 1) part
  stored-again a b e = set-set (begun f c part) c a b ∙ rw e (begun-store f c part room)

  pub stored : (b : ℕ) → b ≡ f c → set (begun f c part) c b ≡ begun f (c + 1) part
  stored b e = rw e (begun-store f c part room)

pub part-starts : (f : ℕ → ℕ) (part : List ℕ) → part ≡ begun f 0 part
unfolding begun up_to
part-starts f part = refl

pub part-ends : (y : System) (f : ℕ → ℕ) (part : List ℕ) → begun f (columns y) part ≡ part_of y f part
unfolding begun
part-ends y f part = refl

-- main: the entries of column c may be wanted when its own row says none

module _ (y : System) (r c : ℕ) (part : List ℕ) (limits : keeps_limits y ≡ true) (few : r ≤ y.engines) (inside : c < columns y) (room : columns y ≤ length part) where
  abbrev with_none : List ℕ
  with_none = set (begun (row_at y r) c part) c (y.engines + 1)

  same-room : length (begun (row_at y r) c part) ≡ length part
  same-room = length-begun (row_at y r) c part (omega arith)

  pub rows-to : RowsTo y r c with_none
  rows-to = record {
    limits = limits;
    few = few;
    inside = inside;
    room = omega (arith, length-set (begun (row_at y r) c part) c (y.engines + 1), same-room);
    holds = λ p l. get_or-set_other (begun (row_at y r) c part) c p (y.engines + 1) 0 (λ e. omega arith) ∙ get_or-begun (row_at y r) c part (omega arith) p l;
    none = get_or-set_same (begun (row_at y r) c part) c (y.engines + 1) 0 (omega (arith, same-room));
  }

  -- main: with those of column c the pairs are few

  pub counted-more : (k : ℕ) → k ≤ c * (16 * column_limit) → k + column_counted y r c ≤ (c + 1) * (16 * column_limit)
  counted-more k h = omega (arith, counted-few y limits r c inside, mul-le-mul_right column_limit sixteen)
    where
      sixteen : r ≤ 16
      sixteen = omega (arith, few, (limits_of y limits).engines)
