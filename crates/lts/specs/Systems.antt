-- Labelled transition systems: states and labels are numbers, and the steps that leave a state are listed in order.
use Rattle.std.specs.Prelude.{◌≡◌, ℕ, ◌+◌, ◌-◌, ◌^◌, ◌<◌, ◌≤◌, ◌↔◌, List, [], length, min, slice_index_or}
use Rattle.std.specs.List.{AllByRecursion}
use Rattle.lts.specs.declared.steps.Step.{Step}

abbrev pub step : ℕ → ℕ → Step
step a p' = record { label = a; target = p' }

-- a step whose target is numbered behind n other states
abbrev pub moved : ℕ → Step → Step
moved n s = step s.label (n + s.target)

-- the same where targets have a bound: a number that would be past the largest of 64 bits is that one
abbrev pub moved_within : ℕ → Step → Step
moved_within n s = step s.label (min (n + s.target) (2 ^ 64 - 1))

-- the steps that leave each state, in order
abbrev pub Listing : Type 0
Listing = ℕ → List Step

pub record System : Type 0 where
  pub states : ℕ
  pub labels : ℕ
  pub from : Listing

-- from p a step labelled a leads to p': it stands at a place of p's list
pub record Leads (from : Listing) (p a p' : ℕ) : Type 0 where
  pub place : ℕ
  pub inside : place < length (from p)
  pub is : slice_index_or (from p) place (step 0 0) ≡ step a p'

-- two listings have the same steps, in whatever order and however often they list one
abbrev pub SameSteps : Listing → Listing → Type 0
SameSteps f g = (p a p' : ℕ) → Leads f p a p' ↔ Leads g p a p'

-- the label and the target of the step at a place
abbrev pub label_at : Listing → ℕ → ℕ → ℕ
label_at from p k = (slice_index_or (from p) k (step 0 0)).label

abbrev pub target_at : Listing → ℕ → ℕ → ℕ
target_at from p k = (slice_index_or (from p) k (step 0 0)).target

-- a step to a state below `states`, labelled below `labels`
abbrev pub InRange : ℕ → ℕ → Step → Type 0
InRange labels states s = (s.label < labels) × (s.target < states)

-- what every plain system keeps
pub record SystemLimits (S : System) : Type 0 where
  pub some_state : 1 ≤ S.states
  pub few_states : S.states ≤ 3168
  pub some_label : 1 ≤ S.labels
  pub few_labels : S.labels ≤ 40
  pub few_steps : (p : ℕ) → length (S.from p) ≤ 4128
  pub fits : (p : ℕ) → AllByRecursion (InRange S.labels S.states) (S.from p)
  pub no_state : (p : ℕ) → S.states ≤ p → S.from p ≡ []
