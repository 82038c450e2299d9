-- Where the elements that a test keeps stood, and where they stand.
use Rattle.std.proofs.Common.{◌≡◌, ℕ, zero, suc, ◌<◌, Bool, true, List, [], ◌∷◌, Some, filter, ap, ◌∙◌, subst, arith}
use Rattle.std.specs.List.{slice_get}
use Rattle.std.proofs.iter.runs.Lists.{none-some, same_Some}
use Rattle.std.proofs.lemmas.Bool.{cond-true, cond_both}

module _ {X : Type 0} where
  -- y stands before z
  abbrev pub InOrder : List X → X → X → Type 0
  InOrder xs y z = (k : ℕ) × (m : ℕ) × (k < m) × (slice_get xs k ≡ Some y) × (slice_get xs m ≡ Some z)

  pub in_order_later : (x : X) (xs : List X) (y z : X) → InOrder xs y z → InOrder (x ∷ xs) y z
  in_order_later x xs y z s = (suc s.0, suc s.1, omega (arith, s.2), s.3, s.4)

module _ {X : Type 0} (test : X → Bool) where
  abbrev Stood : List X → X → Type 0
  Stood xs y = (k : ℕ) × (slice_get xs k ≡ Some y) × (test y ≡ true)

  stood_later : (x : X) (xs : List X) (y : X) → Stood xs y → Stood (x ∷ xs) y
  stood_later x xs y s = (suc s.0, s.1, s.2)

  pub kept_stood : (xs : List X) (i : ℕ) (y : X) → slice_get (filter test xs) i ≡ Some y → Stood xs y
  kept_stood [] i y e = absurd (none-some y e)
  kept_stood (x ∷ xs) zero y e =
      cond_both (test x) (x ∷ filter test xs) (filter test xs) (λ ys. slice_get ys 0 ≡ Some y → Stood (x ∷ xs) y)
      (λ t f. (0, f, subst (λ z. test z ≡ true) (same_Some x y f) t)) (λ _ f. stood_later x xs y (kept_stood xs 0 y f)) e
  kept_stood (x ∷ xs) (suc i) y e =
      cond_both (test x) (x ∷ filter test xs) (filter test xs) (λ ys. slice_get ys (suc i) ≡ Some y → Stood (x ∷ xs) y)
      (λ _ f. stood_later x xs y (kept_stood xs i y f)) (λ _ f. stood_later x xs y (kept_stood xs (suc i) y f)) e

  pub stays_kept : (xs : List X) (k : ℕ) (y : X) → slice_get xs k ≡ Some y → test y ≡ true → (i : ℕ) × (slice_get (filter test xs) i ≡ Some y)
  stays_kept [] k y e t = absurd (none-some y e)
  stays_kept (x ∷ xs) zero y e t =
      (0, ap (λ ys. slice_get ys 0) (cond-true (test x) (x ∷ filter test xs) (filter test xs) (ap test (same_Some x y e) ∙ t)) ∙ e)
  stays_kept (x ∷ xs) (suc k) y e t =
      let rest = stays_kept xs k y e t in
      cond_both (test x) (x ∷ filter test xs) (filter test xs) (λ ys. (i : ℕ) × (slice_get ys i ≡ Some y))
      (λ _. (suc rest.0, rest.1)) (λ _. rest)

  pub kept_in_order : (xs : List X) (i j : ℕ) (y z : X) → i < j →
      slice_get (filter test xs) i ≡ Some y → slice_get (filter test xs) j ≡ Some z → InOrder xs y z
  kept_in_order [] i j y z l e f = absurd (none-some y e)
  kept_in_order (x ∷ xs) i zero y z l e f = absurd (omega arith)
  kept_in_order (x ∷ xs) zero (suc j) y z l e f =
      cond_both (test x) (x ∷ filter test xs) (filter test xs)
      (λ ys. slice_get ys 0 ≡ Some y → slice_get ys (suc j) ≡ Some z → InOrder (x ∷ xs) y z)
      (λ _ g h. let s = kept_stood xs j z h in (0, suc s.0, omega arith, g, s.1))
      (λ _ g h. in_order_later x xs y z (kept_in_order xs 0 (suc j) y z l g h))
      e f
  kept_in_order (x ∷ xs) (suc i) (suc j) y z l e f =
      cond_both (test x) (x ∷ filter test xs) (filter test xs)
      (λ ys. slice_get ys (suc i) ≡ Some y → slice_get ys (suc j) ≡ Some z → InOrder (x ∷ xs) y z)
      (λ _ g h. in_order_later x xs y z (kept_in_order xs i j y z (omega arith) g h))
      (λ _ g h. in_order_later x xs y z (kept_in_order xs (suc i) (suc j) y z l g h))
      e f
