-- The codes of steps, one step more.
use Rattle.std.proofs.Common.{◌≡◌, ℕ, ◌+◌, ◌<◌, true, false, ◌||◌, eqb, List, length, get_or, take, sym, refl, ap, ◌∙◌, inl, inr}
use Rattle.std.proofs.Math.Bool.{or-false, or-true}
use Rattle.std.proofs.lemmas.List.Folds.{list_any_more}
use Rattle.std.proofs.lemmas.Bool.{cases_eq, eq-eqb, ne_eqb}
use Rattle.lts.specs.declared.steps.Step.{Step}
use Rattle.lts.specs.Systems.{step}
use Rattle.refine.specs.Codes.{code, coded}

module _ (class : List ℕ) (xs : List Step) (k : ℕ) (l : k < length xs) where
  coded_more : (c : ℕ) → coded class (take (k + 1) xs) c ≡ (coded class (take k xs) c || eqb (code class (get_or xs k (step 0 0))) c)
  unfolding coded
  coded_more c = list_any_more (λ (s : Step). eqb (code class s) c) xs k (step 0 0) l

  pub coded_here : coded class (take (k + 1) xs) (code class (get_or xs k (step 0 0))) ≡ true
  coded_here =
      let c : ℕ = code class (get_or xs k (step 0 0)) in
      coded_more c ∙ ap (λ b. coded class (take k xs) c || b) (eq-eqb c c refl) ∙ or-true (coded class (take k xs) c)

  pub coded_other : (c : ℕ) → (c ≡ code class (get_or xs k (step 0 0)) → ⊥) → coded class (take (k + 1) xs) c ≡ coded class (take k xs) c
  coded_other c h =
      coded_more c ∙ ap (λ b. coded class (take k xs) c || b) (ne_eqb (code class (get_or xs k (step 0 0))) c (λ e. h (sym e))) ∙ or-false (coded class (take k xs) c)

  -- a code that is there already adds none
  pub coded_again : coded class (take k xs) (code class (get_or xs k (step 0 0))) ≡ true → (c : ℕ) → coded class (take (k + 1) xs) c ≡ coded class (take k xs) c
  coded_again t c = elim (cases_eq c (code class (get_or xs k (step 0 0)))) [
    | inl e ↦ ap (coded class (take (k + 1) xs)) e ∙ coded_here ∙ sym (ap (coded class (take k xs)) e ∙ t)
    | inr h ↦ coded_other c h
  ]

pub coded_none : (class : List ℕ) (xs : List Step) (c : ℕ) → coded class (take 0 xs) c ≡ false
unfolding coded
coded_none class xs c = refl
