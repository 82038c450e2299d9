-- What stands at a place of a list that is given by a formula.
use Rattle.std.proofs.Common.{◌≡◌, ℕ, nat_lt, map, Option, Some, None, is_some, IfSome, ap, sym, ◌∙◌, arith}
use Rattle.std.specs.List.{range_with_len, slice_get}
use Rattle.std.proofs.lemmas.Bool.{ltb-true, ltb-false}
use Rattle.std.proofs.lemmas.List.FromFn.{length-map-range_with_len, get_or-map-range_with_len}
use Rattle.std.proofs.lemmas.Option.{slice_get-get_or, slice_get_past}
use Rattle.timing.specs.Fullest.{listed}

-- an answer that is there just where the list has the place, and is then what the formula gives
pub nth_listed : {X : Type 0} (f : ℕ → X) (n k : ℕ) (r : Option X)
    → is_some r ≡ nat_lt k n → IfSome r (λ x. x ≡ f k) → r ≡ slice_get (listed n f) k
unfolding listed
nth_listed f n k (Some x) there e =
    let below = ltb-true k n (sym there) in
    ap Some e
    ∙ sym (slice_get-get_or (map f (range_with_len 0 n)) k (f k) (omega (arith, below, length-map-range_with_len f 0 n))
    ∙ ap Some (get_or-map-range_with_len f 0 n k k (f k) below (omega arith)))
nth_listed f n k None absent e =
    let past = ltb-false k n (sym absent) in
    sym (slice_get_past (map f (range_with_len 0 n)) k (omega (arith, past, length-map-range_with_len f 0 n)))
