-- Whether and where a transition stands in a list.
use Rattle.std.proofs.Common.{◌≡◌, ℕ, zero, suc, ◌+◌, ◌<◌, ◌≤◌, Bool, true, false, not, ◌&&◌, ◌||◌, eqb, ltb, ◌⊎◌, List, [], ◌∷◌, ◌++◌, length, get_or, take, Some, None, sym, refl, ap, ◌∙◌, subst, inl, inr, ⊎_elim, arith}
use Rattle.std.specs.List.{slice_get, position, position_or_len}
use Rattle.std.proofs.iter.runs.Lists.{none-some, same_Some}
use Rattle.std.proofs.lemmas.Bool.{both_ways, or_cases, or_left, or_right, or_parts, or_from, and_parts, cond_both, cond-true, cond-false, not-true, not-false, eqb-true, ltb-true, ltb-false}
use Rattle.std.proofs.Math.Bool.{or_assoc}
use Rattle.std.proofs.lemmas.Bool.Decides.{nat_tests}
use Rattle.sheets.specs.declared.transitions.Transition.{Transition}
use Rattle.sheets.specs.Transitions.{transition, same_transition, has_transition, without, StandsAt, IsPlaceOf}

pub same_refl : (x : Transition) → same_transition x x ≡ true
same_refl x = grind (arith, nat_tests)

pub same_is : (x y : Transition) → same_transition x y ≡ true → x ≡ y
same_is x y h =
    let a = and_parts (eqb x.from y.from) (eqb x.label y.label && eqb x.to y.to) h in
    let b = and_parts (eqb x.label y.label) (eqb x.to y.to) a.1 in
    let from = eqb-true x.from y.from a.0 in
    let label = eqb-true x.label y.label b.0 in
    let to = eqb-true x.to y.to b.1 in
    ap (λ p. transition p x.label x.to) from
    ∙ ap (λ a. transition y.from a x.to) label ∙ ap (transition y.from y.label) to

pub same_sym : (x y : Transition) → same_transition x y ≡ same_transition y x
same_sym x y = grind (arith, nat_tests)

pub has_append : (xs ys : List Transition) (x : Transition) → has_transition (xs ++ ys) x ≡ (has_transition xs x || has_transition ys x)
has_append [] ys x = refl
has_append (z ∷ zs) ys x =
    ap (λ b. same_transition z x || b) (has_append zs ys x)
    ∙ sym (or_assoc (same_transition z x) (has_transition zs x) (has_transition ys x))

module _ (xs : List Transition) (y x : Transition) where
  pub has_push : has_transition xs x ≡ false → same_transition y x ≡ false → has_transition (xs ++ y ∷ []) x ≡ false
  has_push none other =
      has_append xs (y ∷ []) x
      ∙ or_from (has_transition xs x) (same_transition y x || false) none (or_from (same_transition y x) false other refl)

  pub has_push_cases : has_transition (xs ++ y ∷ []) x ≡ true → (has_transition xs x ≡ true) ⊎ (y ≡ x)
  has_push_cases h =
      ⊎_elim inl
      (λ e. ⊎_elim (λ t. inr (same_is y x t)) (λ f. absurd (both_ways false refl f)) (or_cases (same_transition y x) false e))
      (or_cases (has_transition xs x) (same_transition y x || false) (sym (has_append xs (y ∷ []) x) ∙ h))

pub has_last : (xs : List Transition) (x : Transition) → has_transition (xs ++ x ∷ []) x ≡ true
has_last xs x =
    has_append xs (x ∷ []) x
    ∙ or_right (has_transition xs x) (same_transition x x || false) (or_left (same_transition x x) false (same_refl x))

pub has_at : (xs : List Transition) (i : ℕ) (x : Transition) → slice_get xs i ≡ Some x → has_transition xs x ≡ true
has_at [] i x e = absurd (none-some x e)
has_at (y ∷ ys) zero x e =
    or_left (same_transition y x) (has_transition ys x) (ap (same_transition y) (sym (same_Some y x e)) ∙ same_refl y)
has_at (y ∷ ys) (suc i) x e = or_right (same_transition y x) (has_transition ys x) (has_at ys i x e)

-- a search from the front
module _ (x : Transition) where
  abbrev is_x : Transition → Bool
  is_x y = same_transition y x

  first_stands : (xs : List Transition) → position_or_len is_x xs < length xs → StandsAt xs x (position_or_len is_x xs)
  first_stands [] h = absurd (omega arith)
  first_stands (y ∷ ys) h =
      cond_both (not (is_x y)) (1 + position_or_len is_x ys) 0 (λ i. i < length (y ∷ ys) → StandsAt (y ∷ ys) x i)
      (λ t inside.
      let later = first_stands ys (omega arith) in
      let next : suc (position_or_len is_x ys) ≡ 1 + position_or_len is_x ys = omega arith in
      subst (StandsAt (y ∷ ys) x) next (record {
        inside = omega arith;
        present = or_right (is_x y) (has_transition ys x) later.present;
        rest = ap (λ zs. y ∷ zs) later.rest ∙ sym (cond-false (is_x y) ys (y ∷ without ys x) (not-true (is_x y) t));
      }))
      (λ f inside. record {
        inside = inside;
        present = or_left (is_x y) (has_transition ys x) (not-false (is_x y) f);
        rest = sym (cond-true (is_x y) ys (y ∷ without ys x) (not-false (is_x y) f));
      })
      h

  not_found : (xs : List Transition) → length xs ≤ position_or_len is_x xs → has_transition xs x ≡ false
  not_found [] h = refl
  not_found (y ∷ ys) h =
      cond_both (not (is_x y)) (1 + position_or_len is_x ys) 0 (λ i. length (y ∷ ys) ≤ i → has_transition (y ∷ ys) x ≡ false)
      (λ t past. or_from (is_x y) (has_transition ys x) (not-true (is_x y) t) (not_found ys (omega arith)))
      (λ _ past. absurd (omega arith)) h

  pub stands_at_position : (xs : List Transition) → IsPlaceOf xs x (position is_x xs)
  stands_at_position xs =
      let i = position_or_len is_x xs in
      cond_both (ltb i (length xs)) (Some i) None (IsPlaceOf xs x)
      (λ t. first_stands xs (ltb-true i (length xs) t)) (λ f. not_found xs (ltb-false i (length xs) f))

-- the same at any place, none of those before which has x
pub found : (xs : List Transition) (i : ℕ) (x d : Transition) → i < length xs →
    has_transition (take i xs) x ≡ false → same_transition (get_or xs i d) x ≡ true → StandsAt xs x i
found [] i x d h n s = absurd (omega arith)
found (y ∷ ys) zero x d h n s = record {
  inside = h;
  present = or_left (same_transition y x) (has_transition ys x) s;
  rest = sym (cond-true (same_transition y x) ys (y ∷ without ys x) s);
}
found (y ∷ ys) (suc i) x d h n s =
    let none = or_parts (same_transition y x) (has_transition (take i ys) x) n in
    let later = found ys i x d (omega arith) none.1 s in
    record {
      inside = h;
      present = or_right (same_transition y x) (has_transition ys x) later.present;
      rest = ap (λ zs. y ∷ zs) later.rest ∙ sym (cond-false (same_transition y x) ys (y ∷ without ys x) none.0);
    }
