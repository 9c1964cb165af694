-- A file's bytes are the layout's of document 01, byte by byte; the fields of types agree by one type more at the end.
use Prim.Native.Nat.{ℕ, zero, suc, ◌+◌, ◌-◌, ◌≤◌}
use mathlib.Core.Path.{◌≡◌, refl, ap, ap₂, ◌∙◌}
use mathlib.Core.List.{List, [], ◌++◌}
use mathlib.Core.Bool.{false}
use native.Mathlib.Omega.{arith}
use lib.ListN.{length, get_or, take}
use lib.Seq.{take-suc}
use Rattle.system.specs.declared.System.{System}
use Rattle.system.specs.Values.{no_task}
use Rattle.partition.specs.Plain.{type_no}
use Rattle.writer.specs.File.{type_bytes, types_bytes, file_of}
use Rattle.writer.specs.Meaning.{types_out, file_out}
use Rattle.writer.proofs.BytesOfType.{four-out, platform-out, second-out, type-out, types_more}

types-out : (y : System) (k : ℕ) → k ≤ length y.types → types_bytes (take k y.types) ≡ types_out (λ (t : ℕ). false) y k
unfolding types_bytes types_out
types-out y zero h = refl
types-out y (suc k) h =
    let back : k ≡ suc k - 1 = omega arith in
    ap types_bytes (take-suc y.types k no_task h)
    ∙ types_more (take k y.types) (get_or y.types k no_task)
    ∙ ap₂ (λ (a b : List ℕ). a ++ b) (types-out y k (omega arith))
    (ap (λ (j : ℕ). type_bytes (get_or y.types j no_task)) back ∙ type-out (type_no y (suc k)))

-- main: the file is document 01's layout, byte by byte

pub file-out : (y : System) → y.typecount ≤ length y.types → file_of y ≡ file_out y
unfolding file_of
file-out y h = λ i. platform-out y i ++ (second-out y.second i ++ types-out y y.typecount h i)
