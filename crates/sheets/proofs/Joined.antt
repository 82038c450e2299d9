-- A join has exactly the steps of both sheets.
use Rattle.std.proofs.Common.{◌≡◌, ℕ, ◌+◌, ◌-◌, ◌<◌, ◌≤◌, true, false, ltb, ◌⊎◌, List, [], ◌∷◌, map, filter, sym, refl, ap, ◌∙◌, subst, inl, inr, ⊎_elim, arith}
use Rattle.std.proofs.lemmas.Bool.{both_ways, or_cases, or_left, or_right, and_parts, ltb-true, lt-ltb, eqb-true, eq-eqb, cases_lt, cond-true}
use Rattle.lts.specs.declared.steps.Step.{Step}
use Rattle.lts.specs.Systems.{Leads, step, moved}
use Rattle.lts.specs.Processes.{Process}
use Rattle.lts.proofs.Lists.{In, step_in, in_step, in_map, map_in, in_kept, kept_in}
use Rattle.sheets.specs.declared.transitions.Transition.{Transition}
use Rattle.sheets.specs.Transitions.{transition, same_transition, has_transition, all_fit}
use Rattle.sheets.specs.Contents.{Contents}
use Rattle.sheets.specs.Listings.{leaving, step_of, process_of}
use Rattle.sheets.specs.Joins.{joined_process}
use Rattle.sheets.specs.JoinLimits.{joined_right}
use Rattle.sheets.specs.JoinLaw.{MovedStep, JoinLaw}
use Rattle.sheets.proofs.Places.{same_refl, same_is}
use Rattle.sheets.proofs.Leaving.{is_from, to_step, steps_leaving}
use Rattle.sheets.proofs.Fitting.{fits_if_there}

-- ---- membership, by the test

has_in : (xs : List Transition) (x : Transition) → has_transition xs x ≡ true → In x xs
has_in [] x t = both_ways false refl t
has_in (y ∷ ys) x t =
    ⊎_elim (λ e. inl (same_is y x e)) (λ e. inr (has_in ys x e)) (or_cases (same_transition y x) (has_transition ys x) t)

in_has : (xs : List Transition) (x : Transition) → In x xs → has_transition xs x ≡ true
in_has [] x i = absurd i
in_has (y ∷ ys) x (inl e) = or_left (same_transition y x) (has_transition ys x) (ap (λ z. same_transition z x) e ∙ same_refl x)
in_has (y ∷ ys) x (inr i) = or_right (same_transition y x) (has_transition ys x) (in_has ys x i)

-- ---- the steps that a sheet lists are those on it

listed_has : (xs : List Transition) (p a q : ℕ) → In (step a q) (map step_of (leaving xs p)) → has_transition xs (transition p a q) ≡ true
listed_has xs p a q i =
    let m = map_in to_step (step a q) (filter (is_from p) xs) (subst (In (step a q)) (sym (steps_leaving 0 p xs)) i) in
    let x : Transition = m.0 in
    let k = kept_in (is_from p) x xs m.1 in
    let same : x ≡ transition p a q =
    ap (λ (o : ℕ). transition o x.label x.to) (eqb-true x.from p k.1) ∙ ap (λ (s : Step). transition p s.label s.target) m.2 in
    subst (λ (y : Transition). has_transition xs y ≡ true) same (in_has xs x k.0)

has_listed : (xs : List Transition) (p a q : ℕ) → has_transition xs (transition p a q) ≡ true → In (step a q) (map step_of (leaving xs p))
has_listed xs p a q t =
    let x = transition p a q in
    subst (In (step a q)) (steps_leaving 0 p xs)
    (in_map to_step x (filter (is_from p) xs) (in_kept (is_from p) x xs (has_in xs x t) (eq-eqb p p refl)))

-- ---- both sides

module _ (l r : Contents) (fit : all_fit l.states l.signals l.steps ≡ true) where
  abbrev L : Process
  L = process_of l

  abbrev R : Process
  R = process_of r

  abbrev both : ℕ → List Step
  both = (joined_process L R).from

  at_left : (u : ℕ) → u < l.states → both u ≡ L.from u
  at_left u h = cond-true (ltb u l.states) (L.from u) (map (moved l.states) (R.from (u - l.states))) (lt-ltb u l.states h)

  at_right : (u : ℕ) → l.states ≤ u → both u ≡ map (moved l.states) (R.from (u - l.states))
  at_right u h = joined_right L R u l.states refl h

  there : (u a v : ℕ) → Leads both u a v → (has_transition l.steps (transition u a v) ≡ true) ⊎ MovedStep r l.states u a v
  there u a v s =
      let i = step_in both u a v s in
      elim (cases_lt u l.states) [
        | inl h ↦ inl (listed_has l.steps u a v (subst (In (step a v)) (at_left u h) i))
        | inr h ↦
            let p : ℕ = u - l.states in
            let m = map_in (moved l.states) (step a v) (R.from p) (subst (In (step a v)) (at_right u h) i) in
            let t : Step = m.0 in
            let label : t.label ≡ a = ap (λ (x : Step). x.label) m.2 in
            inr (record {
              from = p;
              to = t.target;
              noted = subst (λ (b : ℕ). has_transition r.steps (transition p b t.target) ≡ true) label (listed_has r.steps p t.label t.target m.1);
              leaves = omega arith;
              leads = sym (ap (λ (x : Step). x.target) m.2);
            })
      ]

  present : (u a v : ℕ) → has_transition l.steps (transition u a v) ≡ true → u < l.states
  present u a v t =
      let x = transition u a v in
      ltb-true u l.states (and_parts (ltb u l.states) _ (fits_if_there l.states l.signals l.steps x fit t)).0

  back_left : (u a v : ℕ) → has_transition l.steps (transition u a v) ≡ true → Leads both u a v
  back_left u a v t = in_step both u a v (subst (In (step a v)) (sym (at_left u (present u a v t))) (has_listed l.steps u a v t))

  back_right : (u a v : ℕ) → MovedStep r l.states u a v → Leads both u a v
  back_right u a v m =
      let n : ℕ = l.states in
      let p : ℕ = m.from in
      let behind : u - n ≡ p = omega (arith, m.leaves) in
      let low : n ≤ u = omega (arith, m.leaves) in
      let i : In (step a (n + m.to)) (map (moved n) (R.from p)) = in_map (moved n) (step a m.to) (R.from p) (has_listed r.steps p a m.to m.noted) in
      let j : In (step a v) (map (moved n) (R.from p)) = subst (λ (w : ℕ). In (step a w) (map (moved n) (R.from p))) (sym m.leads) i in
      in_step both u a v (subst (In (step a v)) (sym (at_right u low ∙ ap (λ (q : ℕ). map (moved n) (R.from q)) behind)) j)

  pub join_law : JoinLaw l r
  join_law u a v = (there u a v, ⊎_elim (back_left u a v) (back_right u a v))
