-- Request 2026-13: a card with two kinds of engine as two systems of one kind each. All that is known of one kind then holds of both.
use Rattle.std.specs.Prelude.{ℕ, map, ◌≡◌, None, Option, Some}
use Rattle.system.specs.declared.Costs.{Costs}
use Rattle.system.specs.declared.Kind.{Kind}
use Rattle.system.specs.declared.TaskType.{TaskType}
use Rattle.system.specs.declared.System.{System}
use Rattle.system.specs.Layout.{Reading, opened, unread}

-- a type as the engines of the first kind see it, and as those of the second do: there it has u and s of its own, and the same n, d and q. Only a card of one
-- kind has runs (request 2026-14)
abbrev pub task_here : TaskType → TaskType
task_here t = record { time = t.time; memory = t.memory; ceiling = t.ceiling; «data» = t.data; most = t.most; pace = None; there = None }

abbrev pub task_costing : Option Costs → TaskType → TaskType
task_costing None t = record { time = 0; memory = 0; ceiling = t.ceiling; «data» = t.data; most = t.most; pace = None; there = None }
task_costing (Some c) t = record { time = c.time; memory = c.memory; ceiling = t.ceiling; «data» = t.data; most = t.most; pace = None; there = None }

abbrev pub task_there : TaskType → TaskType
task_there t = task_costing t.there t

abbrev pub first_of : System → System
first_of y =
    record {
      engines = y.engines;
      rule = y.rule;
      timecap = y.timecap;
      memorycap = y.memorycap;
      typecount = y.typecount;
      types = map task_here y.types;
      second = None;
    }

abbrev pub second_of : System → Kind → System
second_of y k =
    record {
      engines = k.number;
      rule = y.rule;
      timecap = k.timecap;
      memorycap = k.memorycap;
      typecount = y.typecount;
      types = map task_there y.types;
      second = None;
    }

-- what a file that was read is: of one kind of engine, or not read; or a card of two kinds
pub data Card : Type 0 where
  plain : Reading → Card
  mixed : System → Kind → Card

abbrev pub kinds_of : System → Option Kind → Card
kinds_of y None = plain (opened y)
kinds_of y (Some k) = mixed y k

unfoldable pub card_of : Reading → Card
card_of (opened y) = kinds_of y y.second
card_of (unread n) = plain (unread n)

-- which it is, in plain words: every statement that asks for a card of one kind, or of two, asks just this
pub record CardIs : Type 0 where
  pub not_read : (x : Reading) (n : ℕ) → x ≡ unread n → card_of x ≡ plain (unread n)
  pub one_kind : (x : Reading) (y : System) → x ≡ opened y → y.second ≡ None → card_of x ≡ plain (opened y)
  pub two_kinds : (x : Reading) (y : System) (k : Kind) → x ≡ opened y → y.second ≡ Some k → card_of x ≡ mixed y k
