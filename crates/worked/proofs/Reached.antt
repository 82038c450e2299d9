-- The pairs that play can reach: if each step is met within them, they are a bisimulation.
use Rattle.std.proofs.Common.{◌≡◌, ℕ, zero, suc, Bool, true, cond, ◌&&◌, eqb, List, [], ◌∷◌, ◌++◌, map, filter, ap, subst, subst₂, inl, inr}
use Rattle.std.proofs.lemmas.Bool.{and_parts, or_cases, eqb-true, false≢true}
use Rattle.lts.specs.declared.steps.Step.{Step}
use Rattle.std.specs.List.{list_any as any, list_all as all}
use Rattle.lts.specs.Systems.{Listing, System, step}
use Rattle.lts.specs.Rounds.{Met}
use Rattle.lts.specs.Bisimulations.{Bisimulation, Holds}
use Rattle.lts.proofs.Lists.{In, any_true, all_true, step_in, in_step}
use Rattle.worked.proofs.Rounds.{met_by, all_met}

-- pairs of states
abbrev pub Pair : Type 0
Pair = ℕ × ℕ

abbrev is_pair : ℕ → ℕ → Pair → Bool
is_pair p q x = eqb x.0 p && eqb x.1 q

unfoldable pub has_pair : List Pair → ℕ → ℕ → Bool
has_pair xs p q = any (is_pair p q) xs

-- where equally labelled steps of two lists lead
unfoldable pub led_to : List Step → List Step → List Pair
led_to [] ts = []
led_to (s ∷ ss) ts = map (λ (t : Step). (s.target, t.target)) (filter (λ (t : Step). eqb t.label s.label) ts) ++ led_to ss ts

-- the pairs found, with those that are reached from the ones to visit, in at most k visits
unfoldable pub reached : Listing → ℕ → List Pair → List Pair → List Pair
reached from zero visit found = found
reached from (suc k) [] found = found
reached from (suc k) (x ∷ visit) found =
    let past = reached from k visit found in
    let more = reached from k (led_to (from x.0) (from x.1) ++ visit) (x ∷ found) in
    cond (has_pair found x.0 x.1) past more

-- the steps of both states of a pair meet each other's, within the pairs
unfoldable pub closed_at : Listing → List Pair → Pair → Bool
closed_at from xs x =
    let back = all_met (λ q p. has_pair xs p q) (from x.1) (from x.0) in
    all_met (has_pair xs) (from x.0) (from x.1) && back

unfoldable pub closed : Listing → List Pair → Bool
closed from xs = all (closed_at from xs) xs

-- ---- closed pairs are a bisimulation

module _ (r : ℕ → ℕ → Bool) where
  met_by_true : (a p' : ℕ) (ts : List Step) → met_by r a p' ts ≡ true → (q' : ℕ) × In (step a q') ts × (r p' q' ≡ true)
  unfolding met_by
  met_by_true a p' [] e = absurd (false≢true e)
  met_by_true a p' (t ∷ ts) e = elim (or_cases (eqb t.label a && r p' t.target) (met_by r a p' ts) e) [
    | inl h ↦
        let k = and_parts (eqb t.label a) (r p' t.target) h in
        (t.target, inl (ap (λ (b : ℕ). step b t.target) (eqb-true t.label a k.0)), k.1)
    | inr h ↦ let x = met_by_true a p' ts h in (x.0, inr x.1, x.2)
  ]

  all_met_true : (s : Step) (ss ts : List Step) → all_met r ss ts ≡ true → In s ss → met_by r s.label s.target ts ≡ true
  unfolding all_met
  all_met_true s [] ts e i = absurd i
  all_met_true s (x ∷ ss) ts e (inl d) =
      subst (λ (y : Step). met_by r y.label y.target ts ≡ true) d (and_parts (met_by r x.label x.target ts) (all_met r ss ts) e).0
  all_met_true s (x ∷ ss) ts e (inr i) = all_met_true s ss ts (and_parts (met_by r x.label x.target ts) (all_met r ss ts) e).1 i

  all_met_holds : (from : Listing) (p q : ℕ) → all_met r (from p) (from q) ≡ true → Met from (Holds r) p q
  all_met_holds from p q e a p' s =
      let x = met_by_true a p' (from q) (all_met_true (step a p') (from p) (from q) e (step_in from p a p' s)) in
      (x.0, in_step from q a x.0 x.1, x.2)

module _ (S : System) (xs : List Pair) (e : closed S.from xs ≡ true) where
  closed_pair : (p q : ℕ) → has_pair xs p q ≡ true → closed_at S.from xs (p, q) ≡ true
  unfolding has_pair closed
  closed_pair p q h =
      let x = any_true (is_pair p q) xs h in
      let k = and_parts (eqb x.0.0 p) (eqb x.0.1 q) x.2 in
      subst₂ (λ (m n : ℕ). closed_at S.from xs (m, n) ≡ true) (eqb-true x.0.0 p k.0) (eqb-true x.0.1 q k.1)
      (all_true (closed_at S.from xs) x.0 xs e x.1)

  pub closed_bisimulation : Bisimulation S (Holds (has_pair xs))
  unfolding closed_at
  closed_bisimulation =
      let parts = λ (p q : ℕ) (h : has_pair xs p q ≡ true).
      and_parts (all_met (has_pair xs) (S.from p) (S.from q)) (all_met (λ q p. has_pair xs p q) (S.from q) (S.from p)) (closed_pair p q h) in
      record {
        forth = λ p q h. all_met_holds (has_pair xs) S.from p q (parts p q h).0;
        back = λ p q h. all_met_holds (λ q p. has_pair xs p q) S.from q p (parts p q h).1;
      }
