-- Some round below the number of states is stable, so states are bisimilar or separated, and a Boolean relation is enough.
use Rattle.std.proofs.Common.{ℕ, zero, suc, ◌<◌, ◌≤◌, ◌⊎◌, inl, inr, arith}
use Rattle.std.proofs.lemmas.Bool.{cases_Bool, cases_eq}
use Rattle.lts.specs.Systems.{System, SystemLimits}
use Rattle.lts.specs.Rounds.{same, Stable, FirstApart}
use Rattle.lts.specs.Bisimulations.{Bisimulation, Bisimilar, classmates}
use Rattle.lts.proofs.Rounds.{decides_same, not_same, first_apart, related_same, stable_bisimulation, classmates_from}
use Rattle.lts.specs.Classes.{classes}
use Rattle.lts.proofs.Classes.{classes_stable, classes_grow, classes_most, classes_some}

rising : (S : System) → 1 ≤ S.states → (n : ℕ) → ((m : ℕ) × (m < n) × Stable S m) ⊎ (n < classes S n)
rising S h zero = inr (classes_some S 0 h)
rising S h (suc n) = elim (rising S h n) [
  | inl r ↦ inl (r.0, omega arith, r.2)
  | inr l ↦ elim (cases_eq (classes S (suc n)) (classes S n)) [
    | inl e ↦ inl (n, omega arith, classes_stable S n e)
    | inr e ↦ inr (omega (arith, classes_grow S n))
  ]
]

pub stable_round : (S : System) → 1 ≤ S.states → (n : ℕ) × (n < S.states) × Stable S n
stable_round S h =
    elim (rising S h S.states) [ inl r ↦ r | inr l ↦ absurd (omega (arith, classes_most S S.states)) ]

pub bisimilar_or_apart : (S : System) → SystemLimits S → (p q : ℕ) → p < S.states → q < S.states →
    Bisimilar S p q ⊎ ((r : ℕ) × (r < S.states) × FirstApart S r p q)
bisimilar_or_apart S w p q lp lq =
    let t = stable_round S w.some_state in
    let n : ℕ = t.0 in
    elim (cases_Bool (same S n p q)) [
      | inl e ↦ inl (classmates S n, stable_bisimulation S w n t.2, classmates_from S n p q lp lq ((decides_same S n p q).0 e))
      | inr e ↦ let r = first_apart S n p q (not_same S n p q e) in inr (r.0, omega arith, r.2)
    ]

-- what any bisimulation relates, in whatever type, a Boolean one relates
pub relation_bisimilar : (S : System) → SystemLimits S → (R : ℕ → ℕ → Type 0) → Bisimulation S R →
    (p q : ℕ) → p < S.states → q < S.states → R p q → Bisimilar S p q
relation_bisimilar S w R b p q lp lq h =
    let t = stable_round S w.some_state in
    (classmates S t.0, stable_bisimulation S w t.0 t.2, classmates_from S t.0 p q lp lq (related_same S R b t.0 p q h))
