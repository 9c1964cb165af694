-- What an inner function of the writer asks.
use Rattle.std.specs.Prelude.{◌≤◌, ◌≡◌, Option, Some}
use Rattle.system.specs.declared.Kind.{Kind}
use Rattle.system.specs.Limits.{engine_limit}

-- the number of a second kind's engines, where there is one, fits its byte
abbrev pub SecondFits : Option Kind → Type 0
SecondFits second = (k : Kind) → second ≡ Some k → k.number ≤ engine_limit
