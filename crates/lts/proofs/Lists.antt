-- Membership of a list by cases, and what it says of steps, tests and lists made from lists.
use Rattle.std.proofs.Common.{◌≡◌, ℕ, zero, suc, ◌+◌, ◌<◌, ◌≤◌, Bool, true, false, cond, ◌⊎◌, List, [], ◌∷◌, ◌++◌, map, length, get_or, filter, sym, refl, ap, ◌∙◌, subst, inl, inr, suc-le-suc, zero-le, le_of_suc-le-suc, not-suc-le-zero, arith}
use Rattle.std.specs.List.{AllByRecursion, range_with_len}
use Rattle.std.proofs.ByRecursion.{All-get_or}
use Rattle.std.proofs.lemmas.Bool.{and_parts, and_from, or_cases, or_left, or_right, false≢true, cases_eq}
use Rattle.lts.specs.Systems.{Listing, Leads, InRange, step}
use Rattle.std.specs.List.{list_any as any, list_all as all}

module _ {X : Type 0} where
  abbrev pub In : X → List X → Type 0
  In x [] = ⊥
  In x (y ∷ ys) = (y ≡ x) ⊎ In x ys

  pub place_in : (d x : X) (xs : List X) (k : ℕ) → k < length xs → get_or xs k d ≡ x → In x xs
  place_in d x [] k h e = absurd (not-suc-le-zero h)
  place_in d x (y ∷ ys) zero h e = inl e
  place_in d x (y ∷ ys) (suc k) h e = inr (place_in d x ys k (le_of_suc-le-suc h) e)

  pub in_place : (d x : X) (xs : List X) → In x xs → (k : ℕ) × (k < length xs) × (get_or xs k d ≡ x)
  in_place d x [] i = absurd i
  in_place d x (y ∷ ys) (inl e) = (0, suc-le-suc zero-le, e)
  in_place d x (y ∷ ys) (inr i) = let r = in_place d x ys i in (suc r.0, suc-le-suc r.1, r.2)

  pub any_true : (f : X → Bool) (xs : List X) → any f xs ≡ true → (x : X) × In x xs × (f x ≡ true)
  any_true f [] e = absurd (false≢true e)
  any_true f (x ∷ xs) e = elim (or_cases (f x) (any f xs) e) [
    | inl h ↦ (x, inl refl, h)
    | inr h ↦ let r = any_true f xs h in (r.0, inr r.1, r.2)
  ]

  pub any_from : (f : X → Bool) (x : X) (xs : List X) → In x xs → f x ≡ true → any f xs ≡ true
  any_from f x [] i e = absurd i
  any_from f x (y ∷ ys) (inl p) e = or_left (f y) (any f ys) (ap f p ∙ e)
  any_from f x (y ∷ ys) (inr i) e = or_right (f y) (any f ys) (any_from f x ys i e)

  pub all_true : (f : X → Bool) (x : X) (xs : List X) → all f xs ≡ true → In x xs → f x ≡ true
  all_true f x [] e i = absurd i
  all_true f x (y ∷ ys) e (inl p) = ap f (sym p) ∙ (and_parts (f y) (all f ys) e).0
  all_true f x (y ∷ ys) e (inr i) = all_true f x ys (and_parts (f y) (all f ys) e).1 i

  pub all_from : (f : X → Bool) (xs : List X) → ((x : X) → In x xs → f x ≡ true) → all f xs ≡ true
  all_from f [] h = refl
  all_from f (x ∷ xs) h = and_from (f x) (all f xs) (h x (inl refl)) (all_from f xs (λ y i. h y (inr i)))

pub step_in : (from : Listing) (p a p' : ℕ) → Leads from p a p' → In (step a p') (from p)
step_in from p a p' s = place_in (step 0 0) (step a p') (from p) s.place s.inside s.is

pub in_step : (from : Listing) (p a p' : ℕ) → In (step a p') (from p) → Leads from p a p'
in_step from p a p' i =
    let r = in_place (step 0 0) (step a p') (from p) i in
    record { place = r.0; inside = r.1; is = r.2 }

-- what fits at every place fits where a step leads
pub led_fits : (from : Listing) (labels states : ℕ) → ((p : ℕ) → AllByRecursion (InRange labels states) (from p)) →
    (p a p' : ℕ) → Leads from p a p' → (a < labels) × (p' < states)
led_fits from labels states fits p a p' s =
    subst (InRange labels states) s.is (All-get_or (InRange labels states) (from p) s.place (step 0 0) s.inside (fits p))

-- ---- lists made from lists

module _ {X : Type 0} where
  pub in_left : (x : X) (xs ys : List X) → In x xs → In x (xs ++ ys)
  in_left x [] ys i = absurd i
  in_left x (y ∷ xs) ys (inl e) = inl e
  in_left x (y ∷ xs) ys (inr i) = inr (in_left x xs ys i)

  pub in_right : (x : X) (xs ys : List X) → In x ys → In x (xs ++ ys)
  in_right x [] ys i = i
  in_right x (y ∷ xs) ys i = inr (in_right x xs ys i)

  pub in_append : (x : X) (xs ys : List X) → In x (xs ++ ys) → In x xs ⊎ In x ys
  in_append x [] ys i = inr i
  in_append x (y ∷ xs) ys (inl e) = inl (inl e)
  in_append x (y ∷ xs) ys (inr i) = elim (in_append x xs ys i) [ inl j ↦ inl (inr j) | inr j ↦ inr j ]

module _ {X Y : Type 0} (f : X → Y) where
  pub in_map : (x : X) (xs : List X) → In x xs → In (f x) (map f xs)
  in_map x [] i = absurd i
  in_map x (y ∷ xs) (inl e) = inl (ap f e)
  in_map x (y ∷ xs) (inr i) = inr (in_map x xs i)

  pub map_in : (y : Y) (xs : List X) → In y (map f xs) → (x : X) × In x xs × (f x ≡ y)
  map_in y [] i = absurd i
  map_in y (x ∷ xs) (inl e) = (x, inl refl, e)
  map_in y (x ∷ xs) (inr i) = let r = map_in y xs i in (r.0, inr r.1, r.2)

module _ {X : Type 0} (f : X → Bool) where
  pub in_kept : (x : X) (xs : List X) → In x xs → f x ≡ true → In x (filter f xs)
  in_kept x [] i t = absurd i
  in_kept x (y ∷ xs) (inl e) t = rw (ap f e ∙ t) (inl e)
  in_kept x (y ∷ xs) (inr i) t =
      elim (f y) as (λ b. In x (cond b (y ∷ filter f xs) (filter f xs))) [ true ↦ inr (in_kept x xs i t) | false ↦ in_kept x xs i t ]

  kept_here : (y x : X) (xs : List X) (b : Bool) → f y ≡ b → (In x (filter f xs) → In x xs × (f x ≡ true)) →
      In x (cond b (y ∷ filter f xs) (filter f xs)) → In x (y ∷ xs) × (f x ≡ true)
  kept_here y x xs true e ih (inl p) = (inl p, ap f (sym p) ∙ e)
  kept_here y x xs true e ih (inr i) = let r = ih i in (inr r.0, r.1)
  kept_here y x xs false e ih i = let r = ih i in (inr r.0, r.1)

  pub kept_in : (x : X) (xs : List X) → In x (filter f xs) → In x xs × (f x ≡ true)
  kept_in x [] i = absurd i
  kept_in x (y ∷ xs) i = kept_here y x xs (f y) refl (kept_in x xs) i

pub in_counting : (a n k : ℕ) → a ≤ k → k < a + n → In k (range_with_len a n)
in_counting a zero k l h = absurd (omega arith)
in_counting a (suc n) k l h = elim (cases_eq a k) [
  | inl e ↦ inl e
  | inr e ↦ inr (in_counting (a + 1) n k (omega arith) (omega arith))
]

pub counting_in : (a n k : ℕ) → In k (range_with_len a n) → (a ≤ k) × (k < a + n)
counting_in a zero k i = absurd i
counting_in a (suc n) k (inl e) = (omega arith, omega arith)
counting_in a (suc n) k (inr i) = let r = counting_in (a + 1) n k i in (omega arith, omega arith)
