-- What the functions that draw ask and promise. Inner contracts cite this.
use Rattle.std.specs.Prelude.{ℕ, ◌≤◌, ◌<◌, ◌≡◌}
use Rattle.making.specs.declared.Recipe.{Recipe}
use Rattle.making.specs.declared.Draw.{Draw}
use Rattle.making.specs.Generator.{step}
use Rattle.making.specs.Making.{drawn_from}

-- no division by 0, each n has 16 bits, and the types have their places
pub record Drawable (w : Recipe) : Type 0 where
  pub time : 1 ≤ w.timecap
  pub memory : 1 ≤ w.memorycap
  pub top : w.top < 4096
  pub few : w.typecount ≤ 6

-- a type drawn where the generator stands at x, and the value after three steps
pub record Draws (w : Recipe) (x : ℕ) (d : Draw) : Type 0 where
  pub task : d.task ≡ drawn_from w x
  pub value : d.value ≡ step (step (step x))
