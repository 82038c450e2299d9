-- The steps that leave a state, without their places.
use Rattle.std.proofs.Common.{◌≡◌, ℕ, ◌+◌, true, false, cond, ◌==◌, Bool, List, [], ◌∷◌, map, filter, refl, ap}
use Rattle.lts.specs.declared.steps.Step.{Step}
use Rattle.lts.specs.Systems.{step}
use Rattle.sheets.specs.declared.transitions.Transition.{Transition}
use Rattle.sheets.specs.Listings.{listed, listed_from, leaves, step_of}

abbrev pub is_from : ℕ → Transition → Bool
is_from p x = x.from == p

abbrev pub to_step : Transition → Step
to_step x = step x.label x.to

pub steps_leaving : (j p : ℕ) (xs : List Transition) →
    map to_step (filter (is_from p) xs) ≡ map step_of (filter (leaves p) (listed_from j xs))
steps_leaving j p [] = refl
steps_leaving j p (x ∷ xs) =
    let kept = filter (is_from p) xs in
    let all = filter (leaves p) (listed_from (j + 1) xs) in
    let rest = steps_leaving (j + 1) p xs in
    elim (is_from p x) as (λ b. map to_step (cond b (x ∷ kept) kept) ≡ map step_of (cond b (listed j x ∷ all) all)) [
      | true ↦ ap (λ ss. to_step x ∷ ss) rest
      | false ↦ rest
    ]
