-- Lists in which no transition stands twice.
use Rattle.std.proofs.Common.{◌≡◌, true, false, not, List, [], ◌∷◌, ◌++◌, sym, refl, ap, ◌∙◌}
use Rattle.std.proofs.lemmas.Bool.{or_parts, or_from, and_parts, and_from, cond_both, not-true, not_from_false}
use Rattle.sheets.specs.declared.transitions.Transition.{Transition}
use Rattle.sheets.specs.Transitions.{same_transition, has_transition, all_once, without}
use Rattle.sheets.proofs.Places.{same_sym, same_is, has_push}
use Rattle.sheets.proofs.Without.{has_without}
use Rattle.std.proofs.lemmas.Bool.Decides.{nat_tests}
use Rattle.sheets.proofs.Fitting.{fit_push, fit_without}

pub once_push : (xs : List Transition) (x : Transition) → all_once xs ≡ true → has_transition xs x ≡ false →
    all_once (xs ++ x ∷ []) ≡ true
once_push [] x h n = refl
once_push (y ∷ ys) x h n =
    let both = and_parts (not (has_transition ys y)) (all_once ys) h in
    let none = or_parts (same_transition y x) (has_transition ys x) n in
    let still = has_push ys x y (not-true (has_transition ys y) both.0) (same_sym x y ∙ none.0) in
    and_from (not (has_transition (ys ++ x ∷ []) y)) (all_once (ys ++ x ∷ []))
    (not_from_false (has_transition (ys ++ x ∷ []) y) still) (once_push ys x both.1 none.1)

pub once_without : (xs : List Transition) (x : Transition) → all_once xs ≡ true → all_once (without xs x) ≡ true
once_without [] x h = refl
once_without (z ∷ zs) x h =
    let both = and_parts (not (has_transition zs z)) (all_once zs) h in
    let still = has_without zs x z (not-true (has_transition zs z) both.0) in
    cond_both (same_transition z x) zs (z ∷ without zs x) (λ l. all_once l ≡ true) (λ _. both.1)
    (λ _. and_from (not (has_transition (without zs x) z)) (all_once (without zs x))
    (not_from_false (has_transition (without zs x) z) still) (once_without zs x both.1))

-- so what is taken out is gone
pub gone : (xs : List Transition) (x : Transition) → all_once xs ≡ true → has_transition (without xs x) x ≡ false
gone [] x h = refl
gone (z ∷ zs) x h =
    let both = and_parts (not (has_transition zs z)) (all_once zs) h in
    cond_both (same_transition z x) zs (z ∷ without zs x) (λ l. has_transition l x ≡ false)
    (λ e. ap (has_transition zs) (sym (same_is z x e)) ∙ not-true (has_transition zs z) both.0)
    (λ e. or_from (same_transition z x) (has_transition (without zs x) x) e (gone zs x both.1))

-- what keeps a sheet's facts when a step is noted, and when one is struck
pub ruleset with_one_more = (fit_push, once_push, nat_tests)

pub ruleset with_one_fewer = (fit_without, once_without)
