-- Lists that are filled as far as their room goes.
use Rattle.std.proofs.Common.{◌≡◌, ℕ, zero, suc, ◌<◌, ◌≤◌, List, [], ◌∷◌, ◌++◌, length, take, vec_items, vec_capacity, Vec, Option, sym, refl, ap, subst, ◌∙◌, arith}
use Rattle.std.specs.Iterator.{Drains}
use Rattle.std.proofs.lemmas.Iterator.{YieldsList, items_from_drains}
use Rattle.std.proofs.lemmas.List.{map-id, append_assoc, length_push, take_all, take-append-le}
use Rattle.lts.specs.Lists.{filled, IsFilled}

module _ {X : Type 0} where
  take_behind : (c : ℕ) (xs ys : List X) → take c (take c xs ++ ys) ≡ take c (xs ++ ys)
  take_behind zero xs ys = refl
  take_behind (suc c) [] ys = refl
  take_behind (suc c) (x ∷ xs) ys = ap (λ (zs : List X). x ∷ zs) (take_behind c xs ys)

  -- filled by one list and then by another
  pub filled_twice : (c : ℕ) (old xs ys : List X) → filled c (filled c old xs) ys ≡ filled c old (xs ++ ys)
  filled_twice c old xs ys = take_behind c (old ++ xs) ys ∙ ap (take c) (append_assoc old xs ys)

  pub filled_push : (c : ℕ) (old : List X) (x : X) → length old < c → filled c old (x ∷ []) ≡ old ++ x ∷ []
  filled_push c old x h = take_all c (old ++ x ∷ []) (omega (arith, length_push old x))

  pub filled_full : (c : ℕ) (old more : List X) → length old ≤ c → c ≤ length old → filled c old more ≡ old
  filled_full c old more h k = take-append-le c old more k ∙ take_all c old h

module _ {X Z : Type 0} where
  -- one list was put, and then another
  pub is_filled_on : (u v w : Vec X Z) (xs ys : List X) → IsFilled u v xs → IsFilled v w ys → IsFilled u w (xs ++ ys)
  is_filled_on u v w xs ys h k = record {
    items = k.items
        ∙ ap (λ (c : ℕ). filled c (vec_items v) ys) h.room
        ∙ ap (λ (zs : List X). filled (vec_capacity u) zs ys) h.items
        ∙ filled_twice (vec_capacity u) (vec_items u) xs ys;
    room = k.room ∙ h.room;
  }

pub ruleset puts = (filled_push, filled_full)

-- what an iterator put, where it is known to yield a list
pub is_filled_by : {S X Z : Type 0} {steps : S → Option X → S → Type 0} {s : S} {all : List X} (u v : Vec X Z) →
    ((xs : List X) × Drains steps s xs × IsFilled u v xs) → YieldsList steps (λ x. x) s all → IsFilled u v all
is_filled_by u v put yields =
    subst (IsFilled u v) (sym (map-id put.0) ∙ items_from_drains put.0 (put.1.1.0, put.1.1.1, λ _. (put.1.0, put.1.1.2)) yields) put.2
