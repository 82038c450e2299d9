-- What stands in a list from which a transition was taken.
use Rattle.std.proofs.Common.{◌≡◌, ℕ, zero, suc, ◌<◌, false, ◌||◌, List, [], ◌∷◌, Some, sym, refl, ap, ◌∙◌, arith}
use Rattle.std.specs.List.{slice_get}
use Rattle.std.proofs.iter.runs.Lists.{none-some}
use Rattle.std.proofs.lemmas.Bool.{or_parts, or_from, cond_both}
use Rattle.sheets.specs.declared.transitions.Transition.{Transition}
use Rattle.sheets.specs.Transitions.{same_transition, has_transition, without}
use Rattle.sheets.proofs.Kept.{InOrder, in_order_later}
use Rattle.sheets.proofs.Places.{same_is}

pub has_without : (xs : List Transition) (x y : Transition) → has_transition xs y ≡ false → has_transition (without xs x) y ≡ false
has_without [] x y n = refl
has_without (z ∷ zs) x y n =
    let none = or_parts (same_transition z y) (has_transition zs y) n in
    cond_both (same_transition z x) zs (z ∷ without zs x) (λ l. has_transition l y ≡ false) (λ _. none.1)
    (λ _. or_from (same_transition z y) (has_transition (without zs x) y) none.0 (has_without zs x y none.1))

pub has_without_other : (xs : List Transition) (x y : Transition) → same_transition x y ≡ false →
    has_transition (without xs x) y ≡ has_transition xs y
has_without_other [] x y other = refl
has_without_other (z ∷ zs) x y other =
    cond_both (same_transition z x) zs (z ∷ without zs x) (λ l. has_transition l y ≡ has_transition (z ∷ zs) y)
    (λ e. sym (ap (λ b. b || has_transition zs y) (ap (λ w. same_transition w y) (same_is z x e) ∙ other)))
    (λ _. ap (λ b. same_transition z y || b) (has_without_other zs x y other))

without_stood : (xs : List Transition) (x : Transition) (i : ℕ) (y : Transition) → slice_get (without xs x) i ≡ Some y →
    (k : ℕ) × (slice_get xs k ≡ Some y)
without_stood [] x i y e = absurd (none-some y e)
without_stood (z ∷ zs) x zero y e =
    cond_both (same_transition z x) zs (z ∷ without zs x) (λ l. slice_get l 0 ≡ Some y → (k : ℕ) × (slice_get (z ∷ zs) k ≡ Some y))
    (λ _ f. (1, f)) (λ _ f. (0, f)) e
without_stood (z ∷ zs) x (suc i) y e =
    cond_both (same_transition z x) zs (z ∷ without zs x) (λ l. slice_get l (suc i) ≡ Some y → (k : ℕ) × (slice_get (z ∷ zs) k ≡ Some y))
    (λ _ f. (suc (suc i), f)) (λ _ f. let s = without_stood zs x i y f in (suc s.0, s.1)) e

-- what is left stands in the order in which it stood
pub without_in_order : (xs : List Transition) (x : Transition) (i j : ℕ) (y z : Transition) → i < j →
    slice_get (without xs x) i ≡ Some y → slice_get (without xs x) j ≡ Some z → InOrder xs y z
without_in_order [] x i j y z l e f = absurd (none-some y e)
without_in_order (w ∷ ws) x i zero y z l e f = absurd (omega arith)
without_in_order (w ∷ ws) x zero (suc j) y z l e f =
    cond_both (same_transition w x) ws (w ∷ without ws x)
    (λ v. slice_get v 0 ≡ Some y → slice_get v (suc j) ≡ Some z → InOrder (w ∷ ws) y z)
    (λ _ g h. (1, suc (suc j), omega arith, g, h))
    (λ _ g h. let s = without_stood ws x j z h in (0, suc s.0, omega arith, g, s.1)) e f
without_in_order (w ∷ ws) x (suc i) (suc j) y z l e f =
    cond_both (same_transition w x) ws (w ∷ without ws x)
    (λ v. slice_get v (suc i) ≡ Some y → slice_get v (suc j) ≡ Some z → InOrder (w ∷ ws) y z)
    (λ _ g h. (suc (suc i), suc (suc j), omega arith, g, h))
    (λ _ g h. in_order_later w ws y z (without_in_order ws x i j y z (omega arith) g h)) e f
