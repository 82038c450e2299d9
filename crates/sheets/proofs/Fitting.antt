-- Lists of transitions that all fit a sheet's sizes.
use Rattle.std.proofs.Common.{◌≡◌, ℕ, true, false, List, [], ◌∷◌, ◌++◌, refl, subst, ⊎_elim}
use Rattle.std.proofs.lemmas.Bool.{both_ways, or_cases, and_parts, and_from, cond_both}
use Rattle.sheets.specs.declared.transitions.Transition.{Transition}
use Rattle.sheets.specs.Transitions.{same_transition, has_transition, fits, all_fit, without}
use Rattle.sheets.proofs.Places.{same_is}

pub fit_push : (n k : ℕ) (xs : List Transition) (x : Transition) → all_fit n k xs ≡ true → fits n k x ≡ true →
    all_fit n k (xs ++ x ∷ []) ≡ true
fit_push n k [] x h t = and_from (fits n k x) true t refl
fit_push n k (y ∷ ys) x h t =
    let both = and_parts (fits n k y) (all_fit n k ys) h in
    and_from (fits n k y) (all_fit n k (ys ++ x ∷ [])) both.0 (fit_push n k ys x both.1 t)

pub fit_without : (n k : ℕ) (xs : List Transition) (x : Transition) → all_fit n k xs ≡ true → all_fit n k (without xs x) ≡ true
fit_without n k [] x h = refl
fit_without n k (z ∷ zs) x h =
    let both = and_parts (fits n k z) (all_fit n k zs) h in
    cond_both (same_transition z x) zs (z ∷ without zs x) (λ l. all_fit n k l ≡ true) (λ _. both.1)
    (λ _. and_from (fits n k z) (all_fit n k (without zs x)) both.0 (fit_without n k zs x both.1))

pub fits_if_there : (n k : ℕ) (xs : List Transition) (x : Transition) → all_fit n k xs ≡ true → has_transition xs x ≡ true →
    fits n k x ≡ true
fits_if_there n k [] x h t = absurd (both_ways false refl t)
fits_if_there n k (y ∷ ys) x h t =
    let both = and_parts (fits n k y) (all_fit n k ys) h in
    ⊎_elim (λ e. subst (λ z. fits n k z ≡ true) (same_is y x e) both.0) (λ e. fits_if_there n k ys x both.1 e)
    (or_cases (same_transition y x) (has_transition ys x) t)
