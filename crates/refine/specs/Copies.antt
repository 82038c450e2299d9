-- What a copy of a source means, and that it is within the limits of a source.
use Rattle.std.specs.Prelude.{ℕ, suc, ◌<◌, List, [], ◌∷◌, map, length, slice_index_or}
use Rattle.std.specs.List.{AllByRecursion}
use Rattle.std.proofs.Common.{suc-le-suc, zero-le, arith}
use Rattle.std.proofs.lemmas.List.{length-map}
use Rattle.lts.specs.declared.steps.Step.{Step}
use Rattle.lts.specs.declared.steps.Origin.{Origin}
use Rattle.lts.specs.declared.steps.Side.TheVariants.{Left}
use Rattle.lts.specs.Processes.{Process, ProcessLimits}
use Rattle.lts.specs.Origins.{origin, OriginLimits}
use Rattle.refine.specs.declared.tables.copies.Copied.{Copied}
use Rattle.refine.specs.Tables.{table_process}

abbrev pub copied_process : Copied → Process
copied_process c = table_process c.table c.signals

-- A copy is judged and not shown, so it keeps no origins: each step is said to come from the same place
abbrev pub copied_origins : Copied → ℕ → List Origin
copied_origins c p = map (λ (s : Step). origin Left 0) ((copied_process c).from p)

-- what holds at each place of a list holds of all of it
all_each : {X : Type 0} (P : X → Type 0) (d : X) (xs : List X) → ((k : ℕ) → k < length xs → P (slice_index_or xs k d)) → AllByRecursion P xs
all_each P d [] h = tt
all_each P d (x ∷ xs) h = (h 0 (suc-le-suc zero-le), all_each P d xs (λ k l. h (suc k) (suc-le-suc l)))

pub copied_limits : (c : Copied) → ProcessLimits (copied_process c)
copied_limits c = c.limits

all_near : (xs : List Step) → AllByRecursion (λ (o : Origin). o.place < 512) (map (λ (s : Step). origin Left 0) xs)
all_near [] = tt
all_near (x ∷ xs) = (omega arith, all_near xs)

pub copied_originated : (c : Copied) → OriginLimits (copied_process c) (copied_origins c)
copied_originated c = record {
  each = λ p. length-map ((copied_process c).from p) (λ (s : Step). origin Left 0);
  near = λ p. all_near ((copied_process c).from p);
}
