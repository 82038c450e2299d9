-- The test of a round, computed no further than its answer needs: what a `let` binds waits until it is read.
use Rattle.std.proofs.Common.{◌≡◌, ℕ, zero, suc, Bool, true, false, ◌&&◌, ◌||◌, eqb, List, [], ◌∷◌, refl, ap, ◌∙◌, ap₂}
use mathlib.Core.Path.{fun_ext}
use Rattle.lts.specs.declared.steps.Step.{Step}
use Rattle.std.specs.List.{list_any as any, list_all as all}
use Rattle.lts.specs.Systems.{Listing, System}
use Rattle.lts.specs.Rounds.{met, same}

module _ (r : ℕ → ℕ → Bool) where
  -- a step labelled a to p' is met by one of a list
  unfoldable pub met_by : ℕ → ℕ → List Step → Bool
  met_by a p' [] = false
  met_by a p' (t ∷ ts) =
      let here = r p' t.target in
      let later = met_by a p' ts in
      (eqb t.label a && here) || later

  -- each step of a list is
  unfoldable pub all_met : List Step → List Step → Bool
  all_met [] ts = true
  all_met (s ∷ ss) ts =
      let later = all_met ss ts in
      met_by s.label s.target ts && later

  -- a step t meets the step s
  abbrev meets : Step → Step → Bool
  meets s t = eqb t.label s.label && r s.target t.target

  met_by_any : (s : Step) (ts : List Step) → met_by s.label s.target ts ≡ any (meets s) ts
  unfolding met_by
  met_by_any s [] = refl
  met_by_any s (t ∷ ts) = ap (λ (b : Bool). meets s t || b) (met_by_any s ts)

  all_met_all : (ss ts : List Step) → all_met ss ts ≡ all (λ (s : Step). any (meets s) ts) ss
  unfolding all_met
  all_met_all [] ts = refl
  all_met_all (s ∷ ss) ts = ap₂ (λ (x y : Bool). x && y) (met_by_any s ts) (all_met_all ss ts)

  all_met_is : (from : Listing) (p q : ℕ) → all_met (from p) (from q) ≡ met from r p q
  unfolding met
  all_met_is from p q = all_met_all (from p) (from q)

-- p and q are together at round n: `same`, by these tests
unfoldable pub together : System → ℕ → ℕ → ℕ → Bool
together S zero p q = true
together S (suc n) p q =
    let ps = S.from p in
    let qs = S.from q in
    let forth = all_met (together S n) ps qs in
    let back = all_met (together S n) qs ps in
    (together S n p q && forth) && back

pub together_same : (S : System) (n : ℕ) → together S n ≡ same S n
unfolding together same
together_same S zero = fun_ext (λ p. fun_ext (λ q. refl))
together_same S (suc n) =
    let r : ℕ → ℕ → Bool = same S n in
    fun_ext (λ p. fun_ext (λ q.
    ap (λ (r : ℕ → ℕ → Bool). (r p q && all_met r (S.from p) (S.from q)) && all_met r (S.from q) (S.from p)) (together_same S n)
    ∙ ap₂ (λ (x y : Bool). (r p q && x) && y) (all_met_is r S.from p q) (all_met_is r S.from q p)))
