-- The law of a tally: its steps stand in the order of the calls that noted them.
use Rattle.std.proofs.Common.{◌≡◌, ℕ, ◌<◌, true, false, ◌⊎◌, List, [], ◌∷◌, ◌++◌, is_ok, Some, Ok, sym, refl, ap, ◌∙◌, inl, inr, ⊎_elim, arith, length-append}
use Rattle.std.specs.List.{slice_get}
use Rattle.std.proofs.iter.runs.Lists.{none-some, slice_get_within}
use Rattle.std.proofs.lemmas.List.Sums.{fold_push}
use Rattle.std.proofs.lemmas.Bool.{both_ways, cond_both}
use Rattle.sheets.specs.declared.transitions.Transition.{Transition}
use Rattle.sheets.specs.declared.replays.Call.{Call}
use Rattle.sheets.specs.declared.replays.Call.TheVariants.{Note, Strike}
use Rattle.sheets.specs.Transitions.{has_transition}
use Rattle.sheets.specs.Contents.{Contents, contents_of, note_answer, strike_answer}
use Rattle.sheets.specs.Tallies.{call_answer, after_call, tally, Stands, TallyLaw}
use Rattle.sheets.proofs.Places.{has_at}
use Rattle.sheets.proofs.Without.{without_in_order}
use Rattle.sheets.proofs.Kept.{InOrder}
use Rattle.sheets.proofs.Pushes.{by_push, nth_push_cases}
use Rattle.sheets.proofs.Calls.{noted, struck, note_fresh, once_calls}
use Rattle.sheets.proofs.Standing.{standing, stands_before}

-- x stood before y, or x stood and y did not
abbrev Came : Contents → Transition → Transition → Type 0
Came c x y = InOrder c.steps x y ⊎ ((has_transition c.steps x ≡ true) × (has_transition c.steps y ≡ false))

module _ (c : Contents) (i j : ℕ) (x y : Transition) (l : i < j) where
  abbrev In : Contents → Type 0
  In d = slice_get d.steps i ≡ Some x → slice_get d.steps j ≡ Some y → Came c x y

  came_noted : (z : Transition) → is_ok (note_answer c z) ≡ true → In (noted c z)
  came_noted z ok e f =
      ⊎_elim
      (λ a. ⊎_elim (λ b. inl (i, j, l, a.1, b.1))
      (λ b. inr (has_at c.steps i x a.1, ap (has_transition c.steps) (sym b.1) ∙ note_fresh c z ok))
      (nth_push_cases c.steps z j y f))
      (λ a. absurd (omega (arith, a.0, slice_get_within (c.steps ++ z ∷ []) j y f, length-append c.steps (z ∷ []))))
      (nth_push_cases c.steps z i x e)

  came : (z : Call) → In (after_call c z)
  came (Note z) = cond_both (is_ok (note_answer c z)) (noted c z) c In (came_noted z) (λ _ e f. inl (i, j, l, e, f))
  came (Strike z) =
      cond_both (is_ok (strike_answer c z)) (struck c z) c In (λ _ e f. inl (without_in_order c.steps z i j x y l e f))
      (λ _ e f. inl (i, j, l, e, f))

  x_was_there : Came c x y → has_transition c.steps x ≡ true
  x_was_there = ⊎_elim (λ a. has_at c.steps a.0 x a.3) (λ a. a.0)

abbrev Ordered : ℕ → ℕ → List Call → Type 0
Ordered n k calls = (i j : ℕ) (x y : Transition) → i < j →
    slice_get (tally n k calls).steps i ≡ Some x → slice_get (tally n k calls).steps j ≡ Some y →
    (s : Stands n k calls x) (t : Stands n k calls y) → s.place < t.place

module _ (n k : ℕ) (calls : List Call) (z : Call) (so_far : Ordered n k calls) where
  abbrev c : Contents
  c = tally n k calls

  fresh : (x : Transition) → z ≡ Note x → call_answer c z ≡ Ok tt → has_transition c.steps x ≡ false
  fresh x e ok = note_fresh c x (ap is_ok (sym (ap (call_answer c) e) ∙ ok))

  still : (x y : Transition) → Came c x y → (s : Stands n k calls x) (t : Stands n k calls y) → s.place < t.place
  still x y (inl a) s t = so_far a.0 a.1 x y a.2 a.3 a.4 s t
  still x y (inr a) s t = absurd (both_ways (has_transition c.steps y) a.1 ((standing n k calls y).1 t))

  order_push : Ordered n k (calls ++ z ∷ [])
  order_push i j x y l e f s t =
      let is : (m : ℕ) → slice_get (after_call c z).steps m ≡ slice_get (tally n k (calls ++ z ∷ [])).steps m =
      λ m. sym (ap (λ (d : Contents). slice_get d.steps m) (fold_push after_call (contents_of n k []) calls z)) in
      let how = came c i j x y l z (is i ∙ e) (is j ∙ f) in
      ⊎_elim (λ a. absurd (both_ways (has_transition c.steps x) (fresh x a.1 a.2) (x_was_there c i j x y l how)))
      (λ a. ⊎_elim (λ b. omega (arith, a.1, b.0, slice_get_within calls a.0.place (Note x) a.0.noted))
      (λ b. omega (arith, a.1, b.1, still x y how a.0 b.0))
      (stands_before n k calls z y t))
      (stands_before n k calls z x s)

pub law : (n k : ℕ) (calls : List Call) → TallyLaw n k calls (tally n k calls).steps
law n k calls = record {
  standing = standing n k calls;
  once = once_calls (contents_of n k []) calls refl;
  in_order = by_push (Ordered n k) (λ i j x y l e f s t. absurd (none-some x e)) (λ xs z h. order_push n k xs z h) calls;
}
