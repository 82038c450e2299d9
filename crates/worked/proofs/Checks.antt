-- The test of a comparison, that a row which passes it stands, and the table put to it.
use Rattle.std.proofs.Common.{◌≡◌, ℕ, zero, suc, ◌<◌, ◌≤◌, Bool, true, false, not, ◌&&◌, leb, List, [], ◌∷◌, length, Some, None, Option, sym, refl, ap, ◌∙◌, arith}
use Rattle.std.specs.List.{AllByRecursion}
use Rattle.std.proofs.lemmas.Bool.{and_parts, leb-true, not-true, false≢true}
use Rattle.std.specs.List.{list_all as all}
use Rattle.lts.specs.Systems.{System}
use Rattle.lts.specs.Rounds.{same}
use Rattle.lts.specs.Processes.{Process, ProcessLimits, has, allowed, idle}
use Rattle.lts.specs.Environments.{from_plain, from_under, surrounded}
use Rattle.lts.proofs.Rounds.{first_apart_at, not_same}
use Rattle.lts.proofs.Reduction.{plain_reactive}
use Rattle.sheets.specs.Transitions.{all_fit}
use Rattle.sheets.specs.Contents.{Contents}
use Rattle.sheets.specs.Listings.{process_of}
use Rattle.sheets.specs.SheetLimits.{contents_limits}
use Rattle.sheets.specs.JoinLimits.{joined_limits}
use Rattle.worked.specs.Comparisons.{Comparison, both, Ends, Stands, comparisons, ComparisonsStand}
use Rattle.worked.proofs.Rounds.{met_by, all_met, together, together_same}
use Rattle.worked.proofs.Reached.{Pair, has_pair, led_to, reached, closed_at, closed, closed_bisimulation}

-- ---- the limits

fits_sheet : Contents → Bool
fits_sheet c =
    leb 1 c.states && (leb c.states 48 && (leb c.signals 5 && (leb (length c.steps) 512 && all_fit c.states c.signals c.steps)))

fits : Comparison → Bool
fits c = fits_sheet c.old && fits_sheet c.new

sheet_fits : (c : Contents) → fits_sheet c ≡ true → ProcessLimits (process_of c) × (c.states ≤ 48)
unfolding fits_sheet
sheet_fits c e =
    let some = and_parts (leb 1 c.states) _ e in
    let few = and_parts (leb c.states 48) _ some.1 in
    let signals = and_parts (leb c.signals 5) _ few.1 in
    let steps = and_parts (leb (length c.steps) 512) _ signals.1 in
    let most = leb-true c.states 48 few.0 in (
      contents_limits c (leb-true 1 c.states some.0) most (leb-true c.signals 5 signals.0) (leb-true (length c.steps) 512 steps.0) steps.1,
      most,
    )

-- ---- the test

-- the pairs that play reaches from state 0 and q, in at most 200 visits; that they suffice is left to the test of closure
reached_from : Process → ℕ → List Pair
reached_from M q = reached (surrounded M).from 200 ((0, q) ∷ []) []

-- alike where those pairs are closed; apart at a round where together at the one before, and not at it
ends : Process → ℕ → Option ℕ → Bool
ends M q None = has_pair (reached_from M q) 0 q && closed (surrounded M).from (reached_from M q)
ends M q (Some zero) = false
ends M q (Some (suc n)) = together (surrounded M) n 0 q && not (together (surrounded M) (suc n) 0 q)

checks : Comparison → Bool
checks c = ends (both c) c.old.states c.separated

ends_stand : (M : Process) → ProcessLimits M → (q : ℕ) → q < M.states → (v : Option ℕ) → ends M q v ≡ true → Ends M q v
unfolding ends
ends_stand M f q l None e =
    let xs : List Pair = reached_from M q in
    let h = and_parts (has_pair xs 0 q) (closed (surrounded M).from xs) e in
    plain_reactive M f (has_pair xs) (closed_bisimulation (surrounded M) xs h.1) 0 q f.some_state l h.0
ends_stand M f q l (Some zero) e = absurd (false≢true e)
ends_stand M f q l (Some (suc n)) e =
    let S : System = surrounded M in
    let h = and_parts (together S n 0 q) (not (together S (suc n) 0 q)) e in
    let is : (m : ℕ) → same S m 0 q ≡ together S m 0 q = λ m. ap (λ (r : ℕ → ℕ → Bool). r 0 q) (sym (together_same S m)) in
    first_apart_at S n 0 q (is n ∙ h.0) (not_same S (suc n) 0 q (is (suc n) ∙ not-true (together S (suc n) 0 q) h.1))

-- a row that is within the limits and passes the test stands
checked_stands : (c : Comparison) → fits c ≡ true → checks c ≡ true → Stands c
unfolding fits checks
checked_stands c f e =
    let h = and_parts (fits_sheet c.old) (fits_sheet c.new) f in
    let old = sheet_fits c.old h.0 in
    let new = sheet_fits c.new h.1 in
    let limits = joined_limits (process_of c.old) (process_of c.new) old.0 new.0 (omega (arith, old.1, new.1)) in
    ends_stand (both c) limits c.old.states (omega (arith, new.0.some_state)) c.separated e

-- ---- the table

passes : Comparison → Bool
passes c = fits c && checks c

all_stand : (cs : List Comparison) → all passes cs ≡ true → AllByRecursion Stands cs
unfolding passes
all_stand [] e = tt
all_stand (c ∷ cs) e =
    let h = and_parts (passes c) (all passes cs) e in
    let k = and_parts (fits c) (checks c) h.0 in
    (checked_stands c k.0 k.1, all_stand cs h.1)

all_pass : all passes comparisons ≡ true
unfolding passes fits fits_sheet checks ends reached_from reached led_to has_pair closed closed_at together met_by all_met from_plain from_under idle allowed has
all_pass = refl

pub comparisons_stand : ComparisonsStand
comparisons_stand = all_stand comparisons all_pass
