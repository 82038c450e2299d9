-- Reading a list at a place.
use Rattle.std.proofs.Common.{◌≡◌, ℕ, ◌<◌, ◌≤◌, List, length, Some, None, Option, sym, ap, ◌∙◌, Bor}
use Rattle.std.specs.List.{slice_get, HoldsAt}
use Rattle.std.specs.Option.{MatchOption, option_copied}
use Rattle.std.proofs.iter.runs.Lists.{nth_read}
use Rattle.std.proofs.lemmas.Option.{slice_get_past}

-- what `get` gives
pub got : {X : Type 0} (xs : List X) (k : ℕ) (r : Option (Bor X)) →
    MatchOption r (length xs ≤ k) (λ x. (k < length xs) × HoldsAt (λ y. x.now ≡ y) xs k) → option_copied r ≡ slice_get xs k
got xs k None h = sym (slice_get_past xs k h)
got xs k (Some x) h = ap Some (h.1 x.now) ∙ sym (nth_read xs k x.now h.0)
