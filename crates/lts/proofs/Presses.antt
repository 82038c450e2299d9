-- Of a pair that a round is the first to separate, one step is the first that presses.
use Rattle.std.proofs.Common.{◌≡◌, ℕ, suc, ◌<◌, Bool, true, false, not, ◌&&◌, eqb, List, length, refl, ap, subst, inl, inr, arith}
use Rattle.std.proofs.lemmas.Bool.{and_parts, and_from, eqb-true, eq-eqb, cases_lt, cases_order, not-true, not-false, both_ways}
use Rattle.lts.specs.declared.steps.Step.{Step}
use Rattle.lts.specs.declared.steps.Side.{Side}
use Rattle.lts.specs.declared.steps.Side.TheVariants.{Left, Right}
use Rattle.lts.specs.Systems.{System, Leads, label_at, target_at, step}
use Rattle.std.specs.List.{list_any as any}
use Rattle.lts.specs.Rounds.{Met, Same, same, FirstApart}
use Rattle.lts.specs.Attacks.{own, across, Presses, FirstPress}
use Rattle.lts.proofs.Lists.{In, any_true, any_from, step_in, in_step}
use Rattle.lts.proofs.Rounds.{decides_same, same_sym}
use Rattle.lts.specs.Classes.{seek}
use Rattle.lts.proofs.Search.{seek_before, seek_here}

-- ---- the test for a step that presses

module _ (S : System) (n p q : ℕ) (side : Side) (k : ℕ) where
  abbrev label : ℕ
  label = label_at S.from (own side p q) k

  abbrev target : ℕ
  target = target_at S.from (own side p q) k

  -- a step across is a reply that leaves the pair together
  abbrev good_reply : Step → Bool
  good_reply t = eqb t.label label && same S n (own side target t.target) (across side target t.target)

  -- no reply does
  pub unanswered : Bool
  unanswered = not (any good_reply (S.from (across side p q)))

  abbrev Together : ℕ → Type 0
  Together r = Same S n (own side target r) (across side target r)

  pub unanswered_true : unanswered ≡ true → (r : ℕ) → Leads S.from (across side p q) label r → Together r → ⊥
  unfolding unanswered
  unanswered_true e r s h =
      let xs : List Step = S.from (across side p q) in
      both_ways (any good_reply xs) (not-true (any good_reply xs) e)
      (any_from good_reply (step label r) xs (step_in S.from (across side p q) label r s)
      (and_from (eqb label label) (same S n (own side target r) (across side target r)) (eq-eqb label label refl)
      ((decides_same S n (own side target r) (across side target r)).1 h)))

  pub unanswered_false : unanswered ≡ false → (r : ℕ) × Leads S.from (across side p q) label r × Together r
  unfolding unanswered
  unanswered_false e =
      let xs : List Step = S.from (across side p q) in
      let x = any_true good_reply xs (not-false (any good_reply xs) e) in
      let t : Step = x.0 in
      let r : ℕ = t.target in
      let h = and_parts (eqb t.label label) (same S n (own side target r) (across side target r)) x.2 in (
        r,
        in_step S.from (across side p q) label r (subst (λ (b : ℕ). In (step b r) xs) (eqb-true t.label label h.0) x.1),
        (decides_same S n (own side target r) (across side target r)).0 h.1,
      )

  presses_not : unanswered ≡ false → Presses S n p q side k → ⊥
  presses_not e h = let r = unanswered_false e in h.parts r.0 r.1 r.2

-- ---- where no step of a side presses, its steps are met

same_side : (S : System) (n : ℕ) (side : Side) (m r : ℕ) → Same S n (own side m r) (across side m r) → Same S n m r
same_side S n Left m r h = h
same_side S n Right m r h = same_sym S n r m h

met_side : (S : System) (n p q : ℕ) (side : Side) → ((k : ℕ) → k < length (S.from (own side p q)) → unanswered S n p q side k ≡ false) →
    Met S.from (Same S n) (own side p q) (across side p q)
met_side S n p q side h a m s =
    let t = unanswered_false S n p q side s.place (h s.place s.inside) in
    let x : ℕ = target_at S.from (own side p q) s.place in
    let u : Same S n x t.0 = same_side S n side x t.0 t.2 in (
      t.0,
      subst (λ (b : ℕ). Leads S.from (across side p q) b t.0) (ap (λ (e : Step). e.label) s.is) t.1,
      subst (λ (y : ℕ). Same S n y t.0) (ap (λ (e : Step). e.target) s.is) u,
    )

-- ---- the first step that presses

left_right : Left ≡ Right → ⊥
left_right e = let z : ◌≡◌ {A = ℕ} 0 1 = cc in omega arith

pub first_press : (S : System) (n p q : ℕ) → FirstApart S (suc n) p q → (side : Side) × (k : ℕ) × FirstPress S n p q side k
first_press S n p q h =
    let test : Side → ℕ → Bool = unanswered S n p q in
    let l : ℕ = length (S.from p) in
    let i : ℕ = seek (test Left) 0 l in
    let m : ℕ = length (S.from q) in
    let j : ℕ = seek (test Right) 0 m in
    elim (cases_lt i l) [
      | inl low ↦ (
        Left,
        i,
        record {
          presses = record { inside = low; parts = unanswered_true S n p q Left i (seek_here (test Left) 0 l (omega arith)) };
          none_before = λ k b. presses_not S n p q Left k (seek_before (test Left) 0 l k (omega arith) b);
          none_left = λ r. absurd (left_right r);
        },
      )
      | inr up ↦
          let lefts : (k : ℕ) → k < l → test Left k ≡ false = λ k b. seek_before (test Left) 0 l k (omega arith) (omega arith) in
          let low : j < m = elim (cases_lt j m) [
            | inl b ↦ b
            | inr b ↦ absurd (h.apart (
              h.before n (omega arith),
              met_side S n p q Left lefts,
              met_side S n p q Right (λ k c. seek_before (test Right) 0 m k (omega arith) (omega arith)),
            ))
          ] in (
            Right,
            j,
            record {
              presses = record { inside = low; parts = unanswered_true S n p q Right j (seek_here (test Right) 0 m (omega arith)) };
              none_before = λ k b. presses_not S n p q Right k (seek_before (test Right) 0 m k (omega arith) b);
              none_left = λ _ k b. presses_not S n p q Left k (lefts k b.inside) b;
            },
          )
    ]

-- ---- there is only one

same_place : (S : System) (n p q : ℕ) (side : Side) (k k' : ℕ) → FirstPress S n p q side k → FirstPress S n p q side k' → k ≡ k'
same_place S n p q side k k' f g = elim (cases_order k k') [
  | inl e ↦ e
  | inr o ↦ elim o [ inl l ↦ absurd (g.none_before k l f.presses) | inr l ↦ absurd (f.none_before k' l g.presses) ]
]

pub first_press_one : (S : System) (n p q : ℕ) (side side' : Side) (k k' : ℕ) →
    FirstPress S n p q side k → FirstPress S n p q side' k' → (side ≡ side') × (k ≡ k')
first_press_one S n p q Left Left k k' f g = (refl, same_place S n p q Left k k' f g)
first_press_one S n p q Left Right k k' f g = absurd (g.none_left refl k f.presses)
first_press_one S n p q Right Left k k' f g = absurd (f.none_left refl k' g.presses)
first_press_one S n p q Right Right k k' f g = (refl, same_place S n p q Right k k' f g)
