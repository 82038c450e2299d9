-- The first place that passes a test.
use Rattle.std.proofs.Common.{◌≡◌, ℕ, zero, suc, ◌+◌, ◌<◌, ◌≤◌, Bool, true, false, ap, ◌∙◌, inl, inr, arith}
use Rattle.std.proofs.lemmas.Bool.{cases_Bool, cases_eq}
use Rattle.lts.specs.Classes.{seek}

pub seek_before : (test : ℕ → Bool) (k n j : ℕ) → k ≤ j → j < seek test k n → test j ≡ false
unfolding seek
seek_before test k zero j l h = absurd (omega arith)
seek_before test k (suc n) j l h = elim (cases_Bool (test k)) [
  | inl e ↦ absurd (omega (arith, rw e at h))
  | inr e ↦ elim (cases_eq j k) [
    | inl s ↦ ap test s ∙ e
    | inr s ↦ seek_before test (suc k) n j (omega arith) (rw e at h)
  ]
]

pub seek_here : (test : ℕ → Bool) (k n : ℕ) → seek test k n < k + n → test (seek test k n) ≡ true
unfolding seek
seek_here test k zero h = absurd (omega arith)
seek_here test k (suc n) h = elim (cases_Bool (test k)) [
  | inl e ↦ rw e e
  | inr e ↦ rw e (seek_here test (suc k) n (omega (arith, rw e at h)))
]

pub seek_most : (test : ℕ → Bool) (k n : ℕ) → seek test k n ≤ k + n
unfolding seek
seek_most test k zero = omega arith
seek_most test k (suc n) = elim (cases_Bool (test k)) [
  | inl e ↦ rw e (omega arith)
  | inr e ↦ rw e (omega (arith, seek_most test (suc k) n))
]
