-- Lists that grow at their end.
use Rattle.std.proofs.Common.{◌≡◌, ℕ, zero, suc, ◌<◌, ◌⊎◌, List, [], ◌∷◌, ◌++◌, length, Some, sym, refl, ap, ◌∙◌, subst, inl, inr, ⊎_elim, arith}
use Rattle.std.specs.List.{slice_get}
use Rattle.std.proofs.iter.runs.Lists.{none-some, same_Some, slice_get_within, nth_left}
use Rattle.std.proofs.lemmas.List.{append-nil, append_assoc}

module _ {X : Type 0} where
  -- an induction from the end
  pub by_push : (P : List X → Type 0) → P [] → ((xs : List X) (y : X) → P xs → P (xs ++ y ∷ [])) → (xs : List X) → P xs
  by_push P none more xs = from [] xs none
    where
      from : (xs ys : List X) → P xs → P (xs ++ ys)
      from xs [] h = subst P (sym (append-nil xs)) h
      from xs (y ∷ ys) h = subst P (append_assoc xs (y ∷ []) ys) (from (xs ++ y ∷ []) ys (more xs y h))

  pub nth_push_cases : (xs : List X) (y : X) (i : ℕ) (z : X) → slice_get (xs ++ y ∷ []) i ≡ Some z →
      ((i < length xs) × (slice_get xs i ≡ Some z)) ⊎ ((i ≡ length xs) × (y ≡ z))
  nth_push_cases [] y zero z e = inr (refl, same_Some y z e)
  nth_push_cases [] y (suc i) z e = absurd (none-some z e)
  nth_push_cases (x ∷ xs) y zero z e = inl (omega arith, e)
  nth_push_cases (x ∷ xs) y (suc i) z e =
      ⊎_elim (λ h. inl (omega (arith, h.0), h.1)) (λ h. inr (ap suc h.0, h.1)) (nth_push_cases xs y i z e)

  pub nth_keeps : (xs ys : List X) (i : ℕ) (z : X) → slice_get xs i ≡ Some z → slice_get (xs ++ ys) i ≡ Some z
  nth_keeps xs ys i z e = nth_left xs ys i (slice_get_within xs i z e) ∙ e
