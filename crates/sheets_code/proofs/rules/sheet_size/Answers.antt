-- The header, and a record for each used engine: at most 16 records of 24 bytes.
use Prim.Native.Nat.{◌+◌, ◌*◌, ◌≤◌}
use mathlib.Core.Path.{ap₂}
use native.Mathlib.Nat.{zero-mul, mul-le-mul_right}
use native.Mathlib.Omega.{arith}
use Rattle.sheets_code.proofs.rules.sheet_size.Goals.{After-field_size-2}
use Rattle.sheets_code.proofs.rules.sheet_size.Goals as goal

-- at most 16 × 24 bytes of records
few : (c : After-field_size-2) → c.used_engines.result * c.field_size-2.result ≤ 16 * 24
few c =
    let most = mul-le-mul_right c.field_size-2.result c.used_engines.ensures.1 in
    omega (arith, most, c.field_size-2.ensures, c.requires)

pub overflow_mul-result : goal.overflow_mul-result
overflow_mul-result c = omega (arith, few c)

pub overflow_add-result : goal.overflow_add-result
overflow_add-result c = omega (arith, few c, c.field_size.ensures, zero-mul c.args.k)

pub returns : goal.returns
returns c = ap₂ ◌+◌ c.field_size.ensures (ap₂ ◌*◌ c.used_engines.ensures.0 c.field_size-2.ensures)
