-- What a comparison answers.
use Rattle.std.specs.Prelude.{◌≡◌, ℕ, ◌<◌, ◌≤◌, ◌⊎◌, ◌↔◌, Ok, Err, Result}
use Rattle.lts.specs.declared.environments.Position.TheVariants.{Plain}
use Rattle.lts.specs.Systems.{System}
use Rattle.lts.specs.Rounds.{FirstApart}
use Rattle.lts.specs.Bisimulations.{Bisimilar}
use Rattle.lts.specs.Processes.{Process}
use Rattle.lts.specs.Environments.{bare, number, surrounded}
use Rattle.lts.specs.Reactive.{ReactivelyBisimilar}
use Rattle.sheets.specs.declared.refusals.Refusal.{Refusal}
use Rattle.sheets.specs.declared.refusals.Refusal.TheVariants.{AbsentState}
use Rattle.refine.specs.declared.verdicts.Verdict.{Verdict}
use Rattle.refine.specs.declared.verdicts.Verdict.TheVariants.{Alike, Apart}

-- The answer for the states p and q out of `states`, where `alike` says that they are to be called alike, and `apart r` that they are apart
-- with the round r
pub record Answered (states : ℕ) (alike : Type 0) (apart : ℕ → Type 0) (p q : ℕ) (answer : Result Verdict Refusal) : Type 0 where
  pub refused : (answer ≡ Err AbsentState) ↔ ((states ≤ p) ⊎ (states ≤ q))
  pub called_alike : (answer ≡ Ok Alike) ↔ ((p < states) × (q < states) × alike)
  pub called_apart : (r : ℕ) → (answer ≡ Ok (Apart r)) ↔ ((p < states) × (q < states) × apart r)

-- two states of a plain system: alike if they are strongly bisimilar, otherwise apart with the first round that separates them
abbrev pub Compared : System → ℕ → ℕ → Result Verdict Refusal → Type 0
Compared S p q = Answered S.states (Bisimilar S p q) (λ r. FirstApart S r p q) p q

-- strict: the same of the bare system
abbrev pub StrictlyJudged : Process → ℕ → ℕ → Result Verdict Refusal → Type 0
StrictlyJudged M = Compared (bare M)

-- judge: alike if they are reactively bisimilar, otherwise apart with the first round that separates their plain positions in the
-- surrounded system
abbrev pub Judged : Process → ℕ → ℕ → Result Verdict Refusal → Type 0
Judged M p q = Answered M.states (ReactivelyBisimilar M p q) (λ r. FirstApart (surrounded M) r (number M (Plain p)) (number M (Plain q))) p q
