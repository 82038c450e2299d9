-- That a bisimulation may be asked for as a Boolean relation.
use Rattle.std.specs.Prelude.{ℕ, ◌<◌}
use Rattle.lts.specs.Systems.{System, SystemLimits}
use Rattle.lts.specs.Rounds.{Same}
use Rattle.lts.specs.Bisimulations.{Bisimulation, Bisimilar}
use Rattle.lts.specs.Processes.{Process, ProcessLimits}
use Rattle.lts.specs.Reactive.{ReactiveBisimulation, ReactivelyBisimilar}

-- what a strong bisimulation relates
pub record RelationBisimilar (R : ℕ → ℕ → Type 0) : Type 0 where
  pub together : (S : System) → Bisimulation S R → (n p q : ℕ) → R p q → Same S n p q
  pub bisimilar : (S : System) → SystemLimits S → Bisimulation S R → (p q : ℕ) → p < S.states → q < S.states → R p q → Bisimilar S p q

-- what a reactive bisimulation holds plainly
abbrev pub RelationReactive : (ℕ → ℕ → Type 0) → (ℕ → ℕ → ℕ → Type 0) → Type 0
RelationReactive plainly under =
    (M : Process) → ProcessLimits M → ReactiveBisimulation M plainly under → (p q : ℕ) → p < M.states → q < M.states → plainly p q →
    ReactivelyBisimilar M p q
