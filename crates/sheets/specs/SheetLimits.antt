-- A sheet is within the limits of a source: what its implementation of `Source` owes.
use Rattle.std.specs.Prelude.{◌≡◌, ℕ, ◌+◌, ◌<◌, ◌≤◌, Bool, true, false, ◌&&◌, List, [], ◌∷◌, map, length, filter, nat_lt, refl}
use Rattle.std.proofs.Common.{arith, ap, ◌∙◌}
use Rattle.std.specs.List.{AllByRecursion, enumerate_from}
use Rattle.std.proofs.lemmas.List.{length-map}
use Rattle.std.proofs.ByRecursion.{All-map, all_kept_by, All-weaker}
use Rattle.std.proofs.lemmas.List.FromFn.{length-enumerate_from}
use Rattle.std.proofs.lemmas.List.Sums.{length-filter, count_by-le-length}
use Rattle.std.proofs.lemmas.Bool.{and_parts, cond-false, ltb-true, ne_eqb}
use Rattle.lts.specs.declared.steps.Origin.{Origin}
use Rattle.lts.specs.Systems.{InRange}
use Rattle.lts.specs.Processes.{ProcessLimits}
use Rattle.lts.specs.Origins.{OriginLimits}
use Rattle.sheets.specs.declared.transitions.Transition.{Transition}
use Rattle.sheets.specs.declared.transitions.Listed.{Listed}
use Rattle.sheets.specs.declared.store.Sheet.{Sheet}
use Rattle.sheets.specs.Transitions.{fits, all_fit}
use Rattle.sheets.specs.Contents.{Contents}
use Rattle.sheets.specs.Held.{held}
use Rattle.sheets.specs.Listings.{listed, listed_from, leaves, leaving, step_of, origin_of, process_of, origins_of}

-- a listed transition within the sizes
abbrev Within : ℕ → ℕ → Listed → Type 0
Within n k l = (l.transition.from < n) × (l.transition.label < k + 2) × (l.transition.to < n)

all_within : (n k j : ℕ) (xs : List Transition) → all_fit n k xs ≡ true → AllByRecursion (Within n k) (listed_from j xs)
all_within n k j [] h = tt
all_within n k j (x ∷ xs) h =
    let both = and_parts (fits n k x) (all_fit n k xs) h in
    let from = and_parts (nat_lt x.from n) (nat_lt x.label (k + 2) && nat_lt x.to n) both.0 in
    let label = and_parts (nat_lt x.label (k + 2)) (nat_lt x.to n) from.1 in
    let here : Within n k (listed j x) =
    (ltb-true x.from n from.0, ltb-true x.label (k + 2) label.0, ltb-true x.to n label.1) in
    (here, all_within n k (j + 1) xs both.1)

all_near : (m j : ℕ) (xs : List Transition) → j + length xs ≤ m → AllByRecursion (λ (l : Listed). l.place < m) (listed_from j xs)
all_near m j [] h = tt
all_near m j (x ∷ xs) h = (omega arith, all_near m (j + 1) xs (omega arith))

length_listed : (j : ℕ) (xs : List Transition) → length (listed_from j xs) ≡ length xs
length_listed j xs = length-map (enumerate_from j xs) (λ (x : ℕ × Transition). listed x.0 x.1) ∙ length-enumerate_from j xs

kept_by_none : {X : Type 0} (test : X → Bool) (xs : List X) → AllByRecursion (λ x. test x ≡ false) xs → filter test xs ≡ []
kept_by_none test [] h = refl
kept_by_none test (x ∷ xs) h = cond-false (test x) (x ∷ filter test xs) (filter test xs) h.0 ∙ kept_by_none test xs h.1

module _ (xs : List Transition) (p : ℕ) where
  few_leaving : length (leaving xs p) ≤ length xs
  few_leaving =
      let all = listed_from 0 xs in
      omega (arith, length-filter (leaves p) all, count_by-le-length (leaves p) all, length_listed 0 xs)

  near_leaving : length xs ≤ 512 → AllByRecursion (λ (o : Origin). o.place < 512) (map origin_of (leaving xs p))
  near_leaving h =
      All-map (λ (o : Origin). o.place < 512) origin_of (leaving xs p)
      (all_kept_by (leaves p) (λ (l : Listed). l.place < 512) (listed_from 0 xs) (all_near 512 0 xs (omega arith)))

  module _ (n k : ℕ) (h : all_fit n k xs ≡ true) where
    fits_leaving : AllByRecursion (InRange (k + 2) n) (map step_of (leaving xs p))
    fits_leaving =
        All-map (InRange (k + 2) n) step_of (leaving xs p)
        (All-weaker (Within n k) (λ l. InRange (k + 2) n (step_of l)) (λ l w. (w.1, w.2)) (leaving xs p)
        (all_kept_by (leaves p) (Within n k) (listed_from 0 xs) (all_within n k 0 xs h)))

    none_leaving : n ≤ p → leaving xs p ≡ []
    none_leaving le =
        kept_by_none (leaves p) (listed_from 0 xs)
        (All-weaker (Within n k) (λ l. leaves p l ≡ false) (λ l w. ne_eqb l.transition.from p (λ e. omega arith))
        (listed_from 0 xs) (all_within n k 0 xs h))

-- contents within a sheet's sizes
pub contents_limits : (c : Contents) → 1 ≤ c.states → c.states ≤ 48 → c.signals ≤ 5 → length c.steps ≤ 512 →
    all_fit c.states c.signals c.steps ≡ true → ProcessLimits (process_of c)
contents_limits c some few few_signals few_steps fit =
    let xs = c.steps in
    record {
      some_state = some;
      few_states = omega arith;
      few_signals = few_signals;
      few_steps = λ p. omega (arith, length-map (leaving xs p) step_of, few_leaving xs p);
      fits = λ p. fits_leaving xs p c.states c.signals fit;
      no_state = λ p le. ap (map step_of) (none_leaving xs p c.states c.signals fit le);
    }

pub sheet_limits : (s : Sheet) → ProcessLimits (process_of (held s))
sheet_limits s = contents_limits (held s) (omega arith) (omega arith) (omega arith) (omega arith) s.fit

pub sheet_originated : (s : Sheet) → OriginLimits (process_of (held s)) (origins_of (held s))
sheet_originated s =
    let xs = (held s).steps in
    record {
      each = λ p. omega (arith, length-map (leaving xs p) origin_of, length-map (leaving xs p) step_of);
      near = λ p. near_leaving xs p (omega arith);
    }
