-- How many presses an attack takes: never fewer than the first round that separates the pair, and just as many if it always presses
-- the first suitable step.
use Rattle.std.proofs.Common.{◌≡◌, ℕ, zero, suc, ◌≤◌, List, [], ◌∷◌, sym, refl, ap, subst, inl, inr, le_refl, le_of_suc-le-suc, arith}
use Rattle.std.proofs.lemmas.Bool.{cases_Bool, cases_eq, cases_lt}
use Rattle.lts.specs.declared.steps.Step.{Step}
use Rattle.lts.specs.declared.steps.Side.{Side}
use Rattle.lts.specs.declared.steps.Side.TheVariants.{Left, Right}
use Rattle.lts.specs.Systems.{System, label_at, target_at, step}
use Rattle.lts.specs.Rounds.{Same, same, FirstApart}
use Rattle.lts.specs.Attacks.{own, across, Attack, press, Replies, none, reply, skip, presses_of, most_of, AlwaysFirst, EachFirst}
use Rattle.lts.proofs.Lists.{In, step_in, in_step}
use Rattle.lts.proofs.Rounds.{same_sym, not_same, first_apart_at}
use Rattle.lts.proofs.Presses.{first_press}

-- ---- what an attack presses, as many rounds as it takes presses separate

mutual
  pub attack_parts : (S : System) {p q : ℕ} (w : Attack S p q) (n : ℕ) → presses_of w ≤ n → Same S n p q → ⊥
  attack_parts S (press side k h rs) zero l s = omega arith
  attack_parts S (press {p = p} {q = q} Left k h rs) (suc n) l s =
      let a : ℕ = label_at S.from p k in
      let t = s.1 a (target_at S.from p k) (record { place = k; inside = h; is = refl }) in
      replies_part S rs n (le_of_suc-le-suc l) t.0 (step_in S.from q a t.0 t.1) t.2
  attack_parts S (press {p = p} {q = q} Right k h rs) (suc n) l s =
      let a : ℕ = label_at S.from q k in
      let m : ℕ = target_at S.from q k in
      let t = s.2 a m (record { place = k; inside = h; is = refl }) in
      replies_part S rs n (le_of_suc-le-suc l) t.0 (step_in S.from p a t.0 t.1) (same_sym S n m t.0 t.2)

  replies_part : (S : System) {side : Side} {a m : ℕ} {xs : List Step} (rs : Replies S side a m xs) (n : ℕ) → most_of rs ≤ n →
      (r : ℕ) → In (step a r) xs → Same S n (own side m r) (across side m r) → ⊥
  replies_part S none n l r i s = i
  replies_part S (reply {side = side} {m = m} e w rs) n l r (inl f) s =
      attack_parts S w n (omega arith) (subst (λ (x : ℕ). Same S n (own side m x) (across side m x)) (sym (ap (λ (t : Step). t.target) f)) s)
  replies_part S (reply e w rs) n l r (inr i) s = replies_part S rs n (omega arith) r i s
  replies_part S (skip e rs) n l r (inl f) s = e (ap (λ (t : Step). t.label) f)
  replies_part S (skip e rs) n l r (inr i) s = replies_part S rs n l r i s

pub attack_long : (S : System) (r p q : ℕ) → FirstApart S r p q → (w : Attack S p q) → r ≤ presses_of w
attack_long S r p q f w = elim (cases_lt (presses_of w) r) [
  | inl l ↦ absurd (attack_parts S w (presses_of w) (le_refl (presses_of w)) (f.before (presses_of w) l))
  | inr l ↦ l
]

-- ---- an attack that always presses the first suitable step

abbrev FirstAttack : System → ℕ → ℕ → Type 0
FirstAttack S p q = (w : Attack S p q) × AlwaysFirst w

first_replies : (S : System) (n : ℕ) → ((p q : ℕ) → (Same S n p q → ⊥) → FirstAttack S p q) → (side : Side) (a m : ℕ) (xs : List Step) →
    ((r : ℕ) → In (step a r) xs → Same S n (own side m r) (across side m r) → ⊥) → (rs : Replies S side a m xs) × EachFirst rs
first_replies S n attacks side a m [] h = (none, tt)
first_replies S n attacks side a m (x ∷ xs) h =
    let rest = first_replies S n attacks side a m xs (λ r i. h r (inr i)) in
    elim (cases_eq x.label a) [
      | inl e ↦
          let w = attacks (own side m x.target) (across side m x.target) (h x.target (inl (ap (λ (b : ℕ). step b x.target) e))) in
          (reply e w.0 rest.0, (w.1, rest.1))
      | inr e ↦ (skip e rest.0, rest.1)
    ]

pub first_attack : (S : System) (n p q : ℕ) → (Same S n p q → ⊥) → FirstAttack S p q
first_attack S zero p q h = absurd (h tt)
first_attack S (suc n) p q h = elim (cases_Bool (same S n p q)) [
  | inl e ↦
      let f : FirstApart S (suc n) p q = first_apart_at S n p q e h in
      let g = first_press S n p q f in
      let side : Side = g.0 in
      let k : ℕ = g.1 in
      let a : ℕ = label_at S.from (own side p q) k in
      let m : ℕ = target_at S.from (own side p q) k in
      let parts = g.2.presses in
      let rs = first_replies S n (first_attack S n) side a m (S.from (across side p q)) (λ r i. parts.parts r (in_step S.from (across side p q) a r i)) in
      (press side k parts.inside rs.0, ((n, f, g.2), rs.1))
  | inr e ↦ first_attack S n p q (not_same S n p q e)
]

-- ---- it takes no more presses than rounds

mutual
  first_short : (S : System) {p q : ℕ} (w : Attack S p q) → AlwaysFirst w → (n : ℕ) → (Same S n p q → ⊥) → presses_of w ≤ n
  first_short S (press {p = p} {q = q} side k h rs) ((m, f, g), each) n s =
      let short : most_of rs ≤ m = replies_short S rs each m (λ r i. g.presses.parts r (in_step S.from (across side p q) (label_at S.from (own side p q) k) r i)) in
      let low : suc m ≤ n = elim (cases_lt m n) [ inl l ↦ l | inr l ↦ absurd (s (f.before n (omega arith))) ] in
      omega arith

  replies_short : (S : System) {side : Side} {a m : ℕ} {xs : List Step} (rs : Replies S side a m xs) → EachFirst rs → (n : ℕ) →
      ((r : ℕ) → In (step a r) xs → Same S n (own side m r) (across side m r) → ⊥) → most_of rs ≤ n
  replies_short S none each n h = omega arith
  replies_short S (reply {s = x} e w rs) each n h =
      let here : presses_of w ≤ n = first_short S w each.0 n (h x.target (inl (ap (λ (b : ℕ). step b x.target) e))) in
      let rest : most_of rs ≤ n = replies_short S rs each.1 n (λ r i. h r (inr i)) in
      omega arith
  replies_short S (skip e rs) each n h = replies_short S rs each n (λ r i. h r (inr i))

pub first_exact : (S : System) (r p q : ℕ) → FirstApart S r p q → (w : Attack S p q) → AlwaysFirst w → presses_of w ≡ r
first_exact S r p q f w a = omega (arith, first_short S w a r f.apart, attack_long S r p q f w)
