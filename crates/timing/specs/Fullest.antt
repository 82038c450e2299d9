-- What the fullest source lists.
use Rattle.std.specs.Prelude.{ℕ, ◌+◌, ◌/◌, ◌%◌, cond, List, map, ◌==◌, nat_lt}
use Rattle.std.specs.List.{range_with_len}
use Rattle.lts.specs.declared.steps.Step.{Step}
use Rattle.lts.specs.declared.steps.Origin.{Origin}
use Rattle.lts.specs.declared.steps.Side.TheVariants.{Left}
use Rattle.lts.specs.Systems.{step}
use Rattle.lts.specs.Origins.{origin}
use Rattle.lts.specs.Processes.{Process}

-- the step at place k of state p
abbrev pub full_step : ℕ → ℕ → Step
full_step p k = step (cond (p == 0) 0 (k % 7)) (k / 7 % (p / 2 + 1))

abbrev pub full_origin : ℕ → Origin
full_origin k = origin Left (k % 512)

-- what f has at each of n places
unfoldable pub listed : {X : Type 0} → ℕ → (ℕ → X) → List X
listed n f = map f (range_with_len 0 n)

-- 4,096 places at each of 96 states, and none at others
abbrev pub full_count : ℕ → ℕ
full_count p = cond (nat_lt p 96) 4096 0

abbrev pub full : {X : Type 0} → (ℕ → ℕ → X) → ℕ → List X
full f p = listed (full_count p) (f p)

abbrev pub fullest : Process
fullest = record { states = 96; signals = 5; from = full full_step }

abbrev pub fullest_origins : ℕ → List Origin
fullest_origins = full (λ p. full_origin)
