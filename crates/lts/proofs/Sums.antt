-- What rises at each step; and a sum over the numbers below a bound that pass a test, each with a weight of its own.
use Rattle.std.proofs.Common.{◌≡◌, ℕ, zero, suc, ◌+◌, ◌*◌, ◌<◌, ◌≤◌, Bool, true, cond, sym, ap, ◌∙◌, inl, inr, arith}
use Rattle.std.proofs.lemmas.Bool.{cases_Bool, cases_eq, both_ways}

pub rising : (f : ℕ → ℕ) → ((n : ℕ) → f n ≤ f (suc n)) → (p n : ℕ) → p ≤ n → f p ≤ f n
rising f up p zero l = let e : p ≡ 0 = omega arith in rw e (omega arith)
rising f up p (suc n) l = elim (cases_eq p (suc n)) [
  | inl e ↦ rw e (omega arith)
  | inr d ↦ omega (arith, up n, rising f up p n (omega arith))
]

module _ (weight : ℕ → ℕ) (sum : (ℕ → Bool) → ℕ → ℕ) (none : (f : ℕ → Bool) → sum f 0 ≡ 0)
    (one_more : (f : ℕ → Bool) (n : ℕ) → sum f (suc n) ≡ cond (f n) (weight n) 0 + sum f n) where
  pub sum_most : (most : ℕ) → ((c : ℕ) → weight c ≤ most) → (f : ℕ → Bool) (n : ℕ) → sum f n ≤ n * most
  sum_most most h f zero = omega (arith, none f)
  sum_most most h f (suc n) =
      let ih = sum_most most h f n in
      let w = h n in
      let s = one_more f n in
      elim (cases_Bool (f n)) [ inl e ↦ omega (arith, rw e at s) | inr e ↦ omega (arith, rw e at s) ]

  module _ (f g : ℕ → Bool) where
    pub sum_mono : (n : ℕ) → ((c : ℕ) → c < n → f c ≡ true → g c ≡ true) → sum f n ≤ sum g n
    sum_mono zero more = omega (arith, none f)
    sum_mono (suc n) more =
        let ih = sum_mono n (λ c l. more c (omega arith)) in
        let s = one_more f n in
        let t = one_more g n in
        elim (cases_Bool (f n)) [
          | inl e ↦ let r = more n (omega arith) e in omega (arith, rw e at s, rw r at t)
          | inr e ↦ omega (arith, rw e at s, t)
        ]

    -- where a part has the sum of the whole it is the whole
    pub sum_whole : ((c : ℕ) → 1 ≤ weight c) → (n : ℕ) → ((c : ℕ) → c < n → f c ≡ true → g c ≡ true) → sum f n ≡ sum g n →
        (c : ℕ) → c < n → g c ≡ true → f c ≡ true
    sum_whole some zero more e c l t = absurd (omega arith)
    sum_whole some (suc n) more e c l t =
        let less : (c : ℕ) → c < n → f c ≡ true → g c ≡ true = λ c l. more c (omega arith) in
        let m = sum_mono n less in
        let p = some n in
        let q = one_more f n in
        let r = one_more g n in
        elim (cases_Bool (f n)) [
          | inl h ↦ elim (cases_eq c n) [
            | inl s ↦ ap f s ∙ h
            | inr s ↦ let gn = more n (omega arith) h in sum_whole some n less (omega (arith, e, rw h at q, rw gn at r)) c (omega arith) t
          ]
          | inr h ↦ elim (cases_Bool (g n)) [
            | inl j ↦ absurd (omega (arith, e, rw h at q, rw j at r))
            | inr j ↦ elim (cases_eq c n) [
              | inl s ↦ absurd (both_ways (g n) j (ap g (sym s) ∙ t))
              | inr s ↦ sum_whole some n less (omega (arith, e, rw h at q, rw j at r)) c (omega arith) t
            ]
          ]
        ]
