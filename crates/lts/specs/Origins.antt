-- Where the steps of a source come from.
use Rattle.std.specs.Prelude.{◌≡◌, ℕ, ◌<◌, List, length}
use Rattle.std.specs.List.{AllByRecursion}
use Rattle.lts.specs.declared.steps.Side.{Side}
use Rattle.lts.specs.declared.steps.Side.TheVariants.{Left, Right}
use Rattle.lts.specs.declared.steps.Origin.{Origin}
use Rattle.lts.specs.Processes.{Process}

abbrev pub side_number : Side → ℕ
side_number Left = 0
side_number Right = 1

abbrev pub origin : Side → ℕ → Origin
origin s k = record { side = s; place = k }

-- each listed step has an origin, with a place below 512
pub record OriginLimits (M : Process) (origins : ℕ → List Origin) : Type 0 where
  pub each : (p : ℕ) → length (origins p) ≡ length (M.from p)
  pub near : (p : ℕ) → AllByRecursion (λ (o : Origin). o.place < 512) (origins p)
