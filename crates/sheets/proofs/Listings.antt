-- A sheet lists for each state exactly the steps on it that leave that state, in order and with their places.
use Rattle.std.proofs.Common.{◌≡◌, ℕ, zero, suc, ◌+◌, ◌<◌, List, [], ◌∷◌, Some, None, Option, sym, refl, ap, ◌∙◌, arith}
use Rattle.std.specs.Option.{option_map}
use Rattle.std.specs.List.{slice_get}
use Rattle.std.proofs.iter.runs.Lists.{none-some, same_Some, slice_get-map}
use Rattle.std.proofs.lemmas.Bool.{eqb-true, eq-eqb}
use Rattle.lts.specs.declared.steps.Step.{Step}
use Rattle.lts.specs.declared.steps.Origin.{Origin}
use Rattle.lts.specs.declared.steps.Side.TheVariants.{Left}
use Rattle.lts.specs.Systems.{step}
use Rattle.lts.specs.Origins.{origin}
use Rattle.sheets.specs.declared.transitions.Transition.{Transition}
use Rattle.sheets.specs.declared.transitions.Listed.{Listed}
use Rattle.sheets.specs.Transitions.{transition}
use Rattle.sheets.specs.Contents.{Contents}
use Rattle.sheets.specs.Listings.{listed, listed_from, leaves, leaving, step_of, origin_of, process_of, origins_of, ListingsStand}
use Rattle.lts.proofs.Nth.{nth_of_map}
use Rattle.sheets.proofs.Kept.{kept_stood, stays_kept, kept_in_order}

nth_listed : (j : ℕ) (xs : List Transition) (k : ℕ) → slice_get (listed_from j xs) k ≡ option_map (listed (j + k)) (slice_get xs k)
nth_listed j [] k = refl
nth_listed j (x ∷ xs) zero = let e : j ≡ j + 0 = omega arith in ap (λ i. Some (listed i x)) e
nth_listed j (x ∷ xs) (suc k) =
    let e : (j + 1) + k ≡ j + suc k = omega arith in
    nth_listed (j + 1) xs k ∙ ap (λ i. option_map (listed i) (slice_get xs k)) e

from_mapped : {X Y : Type 0} (f : X → Y) (o : Option X) (y : Y) → option_map f o ≡ Some y → (x : X) × (o ≡ Some x) × (f x ≡ y)
from_mapped f None y e = absurd (none-some y e)
from_mapped f (Some x) y e = (x, refl, same_Some (f x) y e)

-- what stands in the listing of all transitions is at its place
in_place : (xs : List Transition) (k : ℕ) (l : Listed) → slice_get (listed_from 0 xs) k ≡ Some l →
    (l.place ≡ k) × (slice_get xs k ≡ Some l.transition)
in_place xs k l e =
    let m = from_mapped (listed (0 + k)) (slice_get xs k) l (sym (nth_listed 0 xs k) ∙ e) in
    let z : 0 + k ≡ k = omega arith in
    (sym (ap (λ (y : Listed). y.place) m.2) ∙ z, m.1 ∙ ap (λ (y : Listed). Some y.transition) m.2)

module _ (c : Contents) (p : ℕ) where
  abbrev all : List Listed
  all = listed_from 0 c.steps

  abbrev mine : List Listed
  mine = leaving c.steps p

  on_the_sheet : (i : ℕ) (s : Step) (o : Origin) → slice_get ((process_of c).from p) i ≡ Some s → slice_get (origins_of c p) i ≡ Some o →
      (o.side ≡ Left) × (slice_get c.steps o.place ≡ Some (transition p s.label s.target))
  on_the_sheet i s o e f =
      let m = from_mapped step_of (slice_get mine i) s (sym (slice_get-map step_of mine i) ∙ e) in
      let l = m.0 in
      let o_is : origin_of l ≡ o = same_Some (origin_of l) o (nth_of_map origin_of mine i (Some l) (sym m.1) ∙ f) in
      let stood = kept_stood (leaves p) all i l m.1 in
      let at = in_place c.steps stood.0 l stood.1 in (
        sym (ap (λ (y : Origin). y.side) o_is),
        ap (slice_get c.steps) (sym (ap (λ (y : Origin). y.place) o_is) ∙ at.0) ∙ at.1
            ∙ ap (λ q. Some (transition q l.transition.label l.transition.to)) (eqb-true l.transition.from p stood.2)
            ∙ ap (λ (y : Step). Some (transition p y.label y.target)) m.2,
      )

  complete : (k a q : ℕ) → slice_get c.steps k ≡ Some (transition p a q) →
      (i : ℕ) × (slice_get ((process_of c).from p) i ≡ Some (step a q)) × (slice_get (origins_of c p) i ≡ Some (origin Left k))
  complete k a q e =
      let z : 0 + k ≡ k = omega arith in
      let l = listed k (transition p a q) in
      let there = nth_listed 0 c.steps k ∙ ap (λ j. option_map (listed j) (slice_get c.steps k)) z ∙ ap (option_map (listed k)) e in
      let kept = stays_kept (leaves p) all k l there (eq-eqb p p refl) in (
        kept.0,
        sym (nth_of_map step_of mine kept.0 (Some l) (sym kept.1)),
        sym (nth_of_map origin_of mine kept.0 (Some l) (sym kept.1)),
      )

  in_order : (i j : ℕ) (o o' : Origin) → i < j → slice_get (origins_of c p) i ≡ Some o → slice_get (origins_of c p) j ≡ Some o' → o.place < o'.place
  in_order i j o o' h e f =
      let m = from_mapped origin_of (slice_get mine i) o (sym (slice_get-map origin_of mine i) ∙ e) in
      let m' = from_mapped origin_of (slice_get mine j) o' (sym (slice_get-map origin_of mine j) ∙ f) in
      let apart = kept_in_order (leaves p) all i j m.0 m'.0 h m.1 m'.1 in
      let at = in_place c.steps apart.0 m.0 apart.3 in
      let at' = in_place c.steps apart.1 m'.0 apart.4 in
      omega (arith, ap (λ (y : Origin). y.place) m.2, ap (λ (y : Origin). y.place) m'.2)

pub listings : ListingsStand
listings c p = record { on_the_sheet = on_the_sheet c p; complete = complete c p; in_order = in_order c p }
