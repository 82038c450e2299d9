-- One step more is marked.
use Rattle.std.proofs.Common.{◌≡◌, ℕ, ◌+◌, ◌<◌, ◌≤◌, true, false, eqb, ◌≢◌, List, length, get_or, take, set, sym, ap, ◌∙◌, inl, inr, arith}
use Rattle.std.proofs.lemmas.List.{get_or-set_same, get_or-set_other, set_past}
use Rattle.std.proofs.lemmas.Bool.{cases_eq, cases_lt, eq-eqb, ne_eqb}
use Rattle.lts.specs.declared.steps.Step.{Step}
use Rattle.lts.specs.Systems.{step}
use Rattle.refine.specs.Codes.{code, coded, weigh, weight}
use Rattle.refine.proofs.Weights.{weigh_same, weigh_more}
use Rattle.refine.proofs.Coded.{coded_here, coded_other, coded_again, coded_none}

module _ (class : List ℕ) (xs : List Step) (stamp : ℕ) where
  abbrev pub Marked : ℕ → List ℕ → ℕ → Type 0
  Marked size marks k = (c : ℕ) → c < size → eqb (get_or marks c 0) stamp ≡ coded class (take k xs) c

  pub marked_none : (size : ℕ) (marks : List ℕ) → ((c : ℕ) → get_or marks c 0 < stamp) → Marked size marks 0
  marked_none size marks fresh c l = ne_eqb _ _ (λ e. omega (arith, fresh c)) ∙ sym (coded_none class xs c)

  module _ (size : ℕ) (marks : List ℕ) (k at : ℕ) (inside : k < length xs) (is : at ≡ code class (get_or xs k (step 0 0))) (long : length marks ≡ size) (here : at < size) (m : Marked size marks k) where
    pub marked_more : Marked size (set marks at stamp) (k + 1)
    marked_more c l = elim (cases_eq c at) [
      | inl e ↦
          let a : get_or (set marks at stamp) c 0 ≡ stamp = ap (λ i. get_or (set marks at stamp) i 0) e ∙ get_or-set_same marks at stamp 0 (omega arith) in
          eq-eqb _ _ a ∙ sym (ap (coded class (take (k + 1) xs)) (e ∙ is) ∙ coded_here class xs k inside)
      | inr h ↦
          let ne : c ≢ at = h in
          ap (λ v. eqb v stamp) (get_or-set_other marks at c stamp 0 ne) ∙ m c l ∙ sym (coded_other class xs k inside c (λ e. h (e ∙ sym is)))
    ]

    -- the code was not there
    pub weighed_more : eqb (get_or marks at 0) stamp ≡ false → weigh (coded class (take (k + 1) xs)) size ≡ weight at + weigh (coded class (take k xs)) size
    weighed_more e =
        weigh_more (coded class (take k xs)) (coded class (take (k + 1) xs)) size at here (sym (m at here) ∙ e)
        (ap (coded class (take (k + 1) xs)) is ∙ coded_here class xs k inside)
        (λ c h. sym (coded_other class xs k inside c (λ e. h (e ∙ sym is))))

    -- the code was there already
    again : eqb (get_or marks at 0) stamp ≡ true → (c : ℕ) → coded class (take (k + 1) xs) c ≡ coded class (take k xs) c
    again e = coded_again class xs k inside (ap (coded class (take k xs)) (sym is) ∙ sym (m at here) ∙ e)

    pub marked_again : eqb (get_or marks at 0) stamp ≡ true → Marked size marks (k + 1)
    marked_again e c l = m c l ∙ sym (again e c)

    pub weighed_again : eqb (get_or marks at 0) stamp ≡ true → weigh (coded class (take (k + 1) xs)) size ≡ weigh (coded class (take k xs)) size
    weighed_again e = weigh_same _ _ size (λ c l. again e c)

pub bound_more : (marks : List ℕ) (at stamp : ℕ) → ((c : ℕ) → get_or marks c 0 ≤ stamp) → (c : ℕ) → get_or (set marks at stamp) c 0 ≤ stamp
bound_more marks at stamp h c = elim (cases_eq c at) [
  | inl e ↦ elim (cases_lt at (length marks)) [
    | inl l ↦ let a : get_or (set marks at stamp) c 0 ≡ stamp = ap (λ i. get_or (set marks at stamp) i 0) e ∙ get_or-set_same marks at stamp 0 l in omega arith
    | inr l ↦ let a : get_or (set marks at stamp) c 0 ≡ get_or marks c 0 = ap (λ ms. get_or ms c 0) (set_past marks at stamp l) in omega (arith, h c)
  ]
  | inr n ↦ let ne : c ≢ at = n in omega (arith, get_or-set_other marks at c stamp 0 ne, h c)
]
