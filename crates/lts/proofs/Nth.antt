-- Reading a list by place.
use Rattle.std.proofs.Common.{◌≡◌, ℕ, zero, suc, ◌-◌, ◌<◌, List, ◌∷◌, map, Option, sym, ap, ◌∙◌, arith}
use Rattle.std.specs.List.{slice_get}
use Rattle.std.specs.Option.{option_map}
use Rattle.std.proofs.iter.runs.Lists.{slice_get-map}

module _ {X : Type 0} where
  pub nth_later : (x : X) (xs : List X) (i : ℕ) → 0 < i → slice_get (x ∷ xs) i ≡ slice_get xs (i - 1)
  nth_later x xs zero h = absurd (omega arith)
  nth_later x xs (suc i) h = let e : i ≡ suc i - 1 = omega arith in ap (slice_get xs) e

pub nth_of_map : {X Y : Type 0} (f : X → Y) (xs : List X) (i : ℕ) (o : Option X) → o ≡ slice_get xs i → option_map f o ≡ slice_get (map f xs) i
nth_of_map f xs i o e = ap (option_map f) e ∙ sym (slice_get-map f xs i)
