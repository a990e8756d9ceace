-- How questions are shared out.
use Rattle.std.specs.Prelude.{ℕ, ◌+◌, ◌-◌, ◌*◌, ◌<◌, ◌≤◌}

-- Of so many questions for so many workers these stand before the last worker's: as much of the questions as the others are of the workers, in whole questions.
pub record IsBeforeLast (count workers before : ℕ) : Type 0 where
  pub within : before ≤ count
  pub no_more : before * workers ≤ count * (workers - 1)
  pub no_fewer : count * (workers - 1) < before * workers + workers
