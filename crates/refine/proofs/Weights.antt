-- The weight of a set of codes: a set that has more weighs more.
use Rattle.std.proofs.Common.{◌≡◌, ℕ, zero, suc, ◌+◌, ◌*◌, ◌/◌, ◌%◌, ◌^◌, ◌<◌, ◌≤◌, Bool, true, false, cond, sym, refl, ap, ◌∙◌, inl, inr, arith}
use Rattle.std.proofs.lemmas.Bool.{cases_eq}
use Rattle.std.proofs.lemmas.Nat.{shr_below, mod_below}
use Rattle.lts.proofs.Sums.{sum_most, sum_whole}
use Rattle.refine.specs.Codes.{weight, weigh}

low : (z : ℕ) → z % 2 ^ 64 / 2 ^ 24 + 1 ≤ 2 ^ 40
low z = omega (arith, shr_below (z % 2 ^ 64) 40 24 (mod_below z (2 ^ 64) (omega arith)))

pub weight_most : (c : ℕ) → weight c ≤ 2 ^ 40
unfolding weight
weight_most c = low _

pub weight_some : (c : ℕ) → 1 ≤ weight c
unfolding weight
weight_some c = omega arith

pub weigh_most : (f : ℕ → Bool) (n : ℕ) → weigh f n ≤ n * 2 ^ 40
unfolding weigh
weigh_most = sum_most weight weigh (λ f. refl) (λ f n. refl) (2 ^ 40) weight_most

pub weigh_same : (f g : ℕ → Bool) (n : ℕ) → ((c : ℕ) → c < n → f c ≡ g c) → weigh f n ≡ weigh g n
unfolding weigh
weigh_same f g zero h = refl
weigh_same f g (suc n) h =
    let ih = weigh_same f g n (λ c l. h c (omega arith)) in
    rw (h n (omega arith)) (ap (λ m. cond (g n) (weight n) 0 + m) ih)

-- one code more
pub weigh_more : (f g : ℕ → Bool) (n k : ℕ) → k < n → f k ≡ false → g k ≡ true → ((c : ℕ) → (c ≡ k → ⊥) → f c ≡ g c) → weigh g n ≡ weight k + weigh f n
unfolding weigh
weigh_more f g zero k l e t h = absurd (omega arith)
weigh_more f g (suc n) k l e t h = elim (cases_eq k n) [
  | inl s ↦
      let m : weigh f n ≡ weigh g n = weigh_same f g n (λ c u. h c (λ z. omega arith)) in
      let a : f n ≡ false = ap f (sym s) ∙ e in
      let b : g n ≡ true = ap g (sym s) ∙ t in
      let w : weight k ≡ weight n = ap weight s in
      rw (a, b) (omega arith)
  | inr s ↦
      let ih = weigh_more f g n k (omega arith) e t h in
      let a : f n ≡ g n = h n (λ z. s (sym z)) in
      rw a (omega arith)
]

-- where a part weighs as much as the whole it is the whole
pub weigh_whole : (f g : ℕ → Bool) (n : ℕ) → ((c : ℕ) → c < n → f c ≡ true → g c ≡ true) → weigh f n ≡ weigh g n →
    (c : ℕ) → c < n → g c ≡ true → f c ≡ true
unfolding weigh
weigh_whole f g = sum_whole weight weigh (λ f. refl) (λ f n. refl) f g weight_some

pub weigh_none : (f : ℕ → Bool) (n : ℕ) → ((c : ℕ) → f c ≡ false) → 0 ≡ weigh f n
unfolding weigh
weigh_none f zero h = refl
weigh_none f (suc n) h = let ih = weigh_none f n h in rw (h n) (omega arith)
