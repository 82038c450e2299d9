-- The rounds are decided, they shrink, and they are equivalences; a bisimulation stays together, and a stable round is one.
use Rattle.std.proofs.Common.{◌≡◌, ℕ, zero, suc, ◌<◌, ◌≤◌, Bool, true, false, ◌&&◌, eqb, ltb, Decides, refl, subst, inl, inr, le_refl, arith}
use native.Mathlib.Decide.{le_ind}
use Rattle.std.proofs.lemmas.Bool.{and_parts, and_from, eqb-true, eq-eqb, ltb-true, lt-ltb, cases_Bool, cases_order, both_ways}
use Rattle.std.proofs.lemmas.Bool.Decides.{Decides-and}
use Rattle.lts.specs.declared.steps.Step.{Step}
use Rattle.lts.specs.Systems.{Listing, System, Leads, SystemLimits, step}
use Rattle.std.specs.List.{list_any as any}
use Rattle.lts.specs.Rounds.{met, Met, Same, same, Stable, FirstApart}
use Rattle.lts.specs.Bisimulations.{Bisimulation, Holds, classmates}
use Rattle.lts.proofs.Lists.{In, any_true, any_from, all_true, all_from, step_in, in_step, led_fits}

-- ---- the test decides

module _ (from : Listing) (r : ℕ → ℕ → Bool) (R : ℕ → ℕ → Type 0) (each : (x y : ℕ) → Decides (r x y) (R x y)) where
  -- a step t meets the step s
  abbrev meets : Step → Step → Bool
  meets s t = eqb t.label s.label && r s.target t.target

  met_true : (p q : ℕ) → met from r p q ≡ true → Met from R p q
  unfolding met
  met_true p q e a p' s =
      let x = any_true (meets (step a p')) (from q) (all_true (λ (s : Step). any (meets s) (from q)) (step a p') (from p) e (step_in from p a p' s)) in
      let t : Step = x.0 in
      let h = and_parts (eqb t.label a) (r p' t.target) x.2 in
      (t.target, in_step from q a t.target (subst (λ (b : ℕ). In (step b t.target) (from q)) (eqb-true t.label a h.0) x.1), (each p' t.target).0 h.1)

  met_from : (p q : ℕ) → Met from R p q → met from r p q ≡ true
  unfolding met
  met_from p q m =
      all_from (λ (s : Step). any (meets s) (from q)) (from p) (λ s i.
      let t = m s.label s.target (in_step from p s.label s.target i) in
      any_from (meets s) (step s.label t.0) (from q) (step_in from q s.label t.0 t.1)
      (and_from (eqb s.label s.label) (r s.target t.0) (eq-eqb s.label s.label refl) ((each s.target t.0).1 t.2)))

  decides_met : (p q : ℕ) → Decides (met from r p q) (Met from R p q)
  decides_met p q = (met_true p q, met_from p q)

pub decides_same : (S : System) (n p q : ℕ) → Decides (same S n p q) (Same S n p q)
unfolding same
decides_same S zero p q = ((λ _. tt), (λ _. refl))
decides_same S (suc n) p q =
    let m = decides_met S.from (same S n) (Same S n) (decides_same S n) in
    let d = Decides-and _ _ (Decides-and _ _ (decides_same S n p q) (m p q)) (m q p) in
    ((λ e. let h = d.0 e in (h.0.0, h.0.1, h.1)), (λ h. d.1 ((h.0, h.1), h.2)))

-- ---- the rounds shrink, and are equivalences

pub same_down : (S : System) (p q : ℕ) (n m : ℕ) → n ≤ m → Same S m p q → Same S n p q
same_down S p q n m l = le_ind (λ k. Same S k p q → Same S n p q) (λ h. h) (λ k _ ih h. ih h.0) m l

pub same_sym : (S : System) (n p q : ℕ) → Same S n p q → Same S n q p
same_sym S zero p q h = tt
same_sym S (suc n) p q h = (same_sym S n p q h.0, h.2, h.1)

pub same_refl : (S : System) (n p : ℕ) → Same S n p p
same_refl S zero p = tt
same_refl S (suc n) p =
    let m : Met S.from (Same S n) p p = λ a p' s. (p', s, same_refl S n p') in
    (same_refl S n p, m, m)

met_trans : (from : Listing) (R : ℕ → ℕ → Type 0) → ((x y z : ℕ) → R x y → R y z → R x z) → (x y z : ℕ) →
    Met from R x y → Met from R y z → Met from R x z
met_trans from R t x y z f g a x' s =
    let u = f a x' s in
    let v = g a u.0 u.1 in
    (v.0, v.1, t x' u.0 v.0 u.2 v.2)

pub same_trans : (S : System) (n x y z : ℕ) → Same S n x y → Same S n y z → Same S n x z
same_trans S zero x y z h k = tt
same_trans S (suc n) x y z h k =
    let t = met_trans S.from (Same S n) (same_trans S n) in
    (same_trans S n x y z h.0 k.0, t x y z h.1 k.1, t z y x k.2 h.2)

-- ---- a pair that some round separates has one first such round

pub not_same : (S : System) (n p q : ℕ) → same S n p q ≡ false → Same S n p q → ⊥
not_same S n p q e s = both_ways (same S n p q) e ((decides_same S n p q).1 s)

pub first_apart_at : (S : System) (n p q : ℕ) → same S n p q ≡ true → (Same S (suc n) p q → ⊥) → FirstApart S (suc n) p q
first_apart_at S n p q e h =
    record { apart = h; before = λ m l. same_down S p q m n (omega arith) ((decides_same S n p q).0 e) }

pub first_apart : (S : System) (n p q : ℕ) → (Same S n p q → ⊥) → (r : ℕ) × (r ≤ n) × FirstApart S r p q
first_apart S zero p q h = absurd (h tt)
first_apart S (suc n) p q h = elim (cases_Bool (same S n p q)) [
  | inl e ↦ (suc n, le_refl (suc n), first_apart_at S n p q e h)
  | inr e ↦ let r = first_apart S n p q (not_same S n p q e) in (r.0, omega arith, r.2)
]

pub first_apart_one : (S : System) (r s p q : ℕ) → FirstApart S r p q → FirstApart S s p q → r ≡ s
first_apart_one S r s p q f g = elim (cases_order r s) [
  | inl e ↦ e
  | inr o ↦ elim o [ inl l ↦ absurd (f.apart (g.before r l)) | inr l ↦ absurd (g.apart (f.before s l)) ]
]

-- ---- what a bisimulation relates is together at every round

pub related_same : (S : System) (R : ℕ → ℕ → Type 0) → Bisimulation S R → (n p q : ℕ) → R p q → Same S n p q
related_same S R b zero p q h = tt
related_same S R b (suc n) p q h = (
  related_same S R b n p q h,
  (λ a p' s. let t = b.forth p q h a p' s in (t.0, t.1, related_same S R b n p' t.0 t.2)),
  (λ a q' s. let t = b.back p q h a q' s in (t.0, t.1, same_sym S n t.0 q' (related_same S R b n t.0 q' t.2))),
)

-- ---- a stable round is a bisimulation

classmates_true : (S : System) (n p q : ℕ) → classmates S n p q ≡ true → (p < S.states) × (q < S.states) × Same S n p q
unfolding classmates
classmates_true S n p q e =
    let h = and_parts (ltb p S.states && ltb q S.states) (same S n p q) e in
    let k = and_parts (ltb p S.states) (ltb q S.states) h.0 in
    (ltb-true p S.states k.0, ltb-true q S.states k.1, (decides_same S n p q).0 h.1)

pub classmates_from : (S : System) (n p q : ℕ) → p < S.states → q < S.states → Same S n p q → classmates S n p q ≡ true
unfolding classmates
classmates_from S n p q l m h =
    and_from (ltb p S.states && ltb q S.states) (same S n p q)
    (and_from (ltb p S.states) (ltb q S.states) (lt-ltb p S.states l) (lt-ltb q S.states m))
    ((decides_same S n p q).1 h)

pub led_below : (S : System) → SystemLimits S → (p a p' : ℕ) → Leads S.from p a p' → p' < S.states
led_below S w p a p' s = (led_fits S.from S.labels S.states w.fits p a p' s).1

pub stable_bisimulation : (S : System) → SystemLimits S → (n : ℕ) → Stable S n → Bisimulation S (Holds (classmates S n))
stable_bisimulation S w n st = record {
  forth = λ p q e a p' s.
      let c = classmates_true S n p q e in
      let t = (st p q c.0 c.1 c.2).1 a p' s in
      (t.0, t.1, classmates_from S n p' t.0 (led_below S w p a p' s) (led_below S w q a t.0 t.1) t.2);
  back = λ p q e a q' s.
      let c = classmates_true S n p q e in
      let t = (st p q c.0 c.1 c.2).2 a q' s in
      (t.0, t.1, classmates_from S n t.0 q' (led_below S w p a t.0 t.1) (led_below S w q a q' s) (same_sym S n q' t.0 t.2));
}
