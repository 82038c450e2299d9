-- What is left of a list from a place on, where that place was asked for its element.
use Rattle.std.proofs.Common.{◌≡◌, ℕ, zero, suc, ◌+◌, List, [], ◌∷◌, length, ◌<◌, drop, Some, None, Option, arith, sym, refl, ap, ◌∙◌}
use Rattle.std.specs.List.{slice_get, filter_map, cons_option, range_with_len}
use Rattle.std.proofs.iter.runs.Lists.{none-some}
use Rattle.std.proofs.lemmas.List.{drop_more}
use Rattle.std.proofs.lemmas.Option.{slice_get_within, get_or_from_slice_get}

module _ {X : Type 0} where
  pub drop_none : (xs : List X) (i : ℕ) → slice_get xs i ≡ None → drop i xs ≡ []
  drop_none [] zero e = refl
  drop_none [] (suc i) e = refl
  drop_none (x ∷ xs) zero e = absurd (none-some x (sym e))
  drop_none (x ∷ xs) (suc i) e = drop_none xs i e

  pub drop_some : (xs : List X) (i : ℕ) (x : X) → slice_get xs i ≡ Some x → drop i xs ≡ x ∷ drop (i + 1) xs
  drop_some xs i x e =
      drop_more xs i x (slice_get_within xs i x e) ∙ ap (λ (y : X). y ∷ drop (i + 1) xs) (get_or_from_slice_get xs i x x e)

  -- a list that is read place by place
  pub filter_map_places : (f : ℕ → Option X) (xs : List X) (a n : ℕ) → n ≡ length xs → ((k : ℕ) → k < n → f (a + k) ≡ slice_get xs k) →
      filter_map f (range_with_len a n) ≡ xs
  filter_map_places f [] a zero e h = refl
  filter_map_places f [] a (suc n) e h = absurd (omega (arith, e))
  filter_map_places f (x ∷ xs) a zero e h = absurd (omega (arith, e))
  filter_map_places f (x ∷ xs) a (suc n) e h =
      let here : f a ≡ Some x = ap f (omega arith) ∙ h 0 (omega arith) in
      ap (λ (o : Option X). cons_option o (filter_map f (range_with_len (a + 1) n))) here
      ∙ ap (λ (ys : List X). x ∷ ys)
      (filter_map_places f xs (a + 1) n (omega (arith, e)) (λ k l. ap f (omega arith) ∙ h (suc k) (omega arith)))

pub ruleset rests = (drop_none, drop_some)
