-- A join of two sheets is within the limits of a source: what its implementation of `Source` owes.
use Rattle.std.specs.Prelude.{◌≡◌, ℕ, ◌+◌, ◌-◌, ◌<◌, ◌≤◌, Bool, true, false, cond, List, map, length, nat_lt, refl}
use Rattle.std.proofs.Common.{arith, ap, sym, ◌∙◌}
use Rattle.std.specs.List.{AllByRecursion}
use Rattle.std.proofs.lemmas.List.{length-map}
use Rattle.std.proofs.ByRecursion.{All-map, All-weaker}
use Rattle.std.proofs.lemmas.Bool.{cond_both, cond-false, le-ltb}
use Rattle.lts.specs.declared.steps.Step.{Step}
use Rattle.lts.specs.declared.steps.Origin.{Origin}
use Rattle.lts.specs.Systems.{InRange, moved}
use Rattle.lts.specs.Processes.{Process, ProcessLimits}
use Rattle.lts.specs.Origins.{OriginLimits}
use Rattle.sheets.specs.declared.store.Sheet.{Sheet}
use Rattle.sheets.specs.Held.{held}
use Rattle.sheets.specs.Listings.{process_of, origins_of}
use Rattle.sheets.specs.SheetLimits.{sheet_limits, sheet_originated}
use Rattle.sheets.specs.Joins.{joined_process, on_the_right, joined_origins}

-- the steps and the origins at a state of the right process, with n for the number of the left states
pub joined_right : (l r : Process) (p n : ℕ) → n ≡ l.states → n ≤ p →
    (joined_process l r).from p ≡ map (moved n) (r.from (p - n))
joined_right l r p n e h =
    cond-false (nat_lt p l.states) (l.from p) (map (moved l.states) (r.from (p - l.states))) (le-ltb p l.states (omega arith))
    ∙ ap (λ k. map (moved k) (r.from (p - k))) (sym e)

pub joined_right_origins : (m : ℕ) (l r : ℕ → List Origin) (p n : ℕ) → n ≡ m → n ≤ p →
    joined_origins m l r p ≡ map on_the_right (r (p - n))
joined_right_origins m l r p n e h =
    cond-false (nat_lt p m) (l p) (map on_the_right (r (p - m))) (le-ltb p m (omega arith))
    ∙ ap (λ k. map on_the_right (r (p - k))) (sym e)

length_cond : {X Y : Type 0} (b : Bool) (xs ys : List X) (us vs : List Y) → length xs ≡ length us → length ys ≡ length vs →
    length (cond b xs ys) ≡ length (cond b us vs)
length_cond true xs ys us vs h k = h
length_cond false xs ys us vs h k = k

module _ (l r : Process) where
  abbrev both : Process
  both = joined_process l r

  -- the steps of the right process at p
  abbrev right_at : ℕ → List Step
  right_at p = map (moved l.states) (r.from (p - l.states))

  module _ (a : ProcessLimits l) (b : ProcessLimits r) where
    few_joined : (p : ℕ) → length (both.from p) ≤ 4096
    few_joined p =
        cond_both (nat_lt p l.states) (l.from p) (right_at p) (λ xs. length xs ≤ 4096) (λ _. a.few_steps p)
        (λ _. omega (arith, length-map (r.from (p - l.states)) (moved l.states), b.few_steps (p - l.states)))

    fits_joined : (p : ℕ) → AllByRecursion (InRange (both.signals + 2) both.states) (both.from p)
    fits_joined p =
        let In : Step → Type 0 = InRange (both.signals + 2) both.states in
        let q = p - l.states in
        cond_both (nat_lt p l.states) (l.from p) (right_at p) (AllByRecursion In)
        (λ _. All-weaker (InRange (l.signals + 2) l.states) In (λ s h. (omega arith, omega arith)) (l.from p) (a.fits p))
        (λ _. All-map In (moved l.states) (r.from q)
        (All-weaker (InRange (r.signals + 2) r.states) (λ s. In (moved l.states s)) (λ s h. (omega arith, omega arith)) (r.from q)
        (b.fits q)))

    pub joined_limits : l.states + r.states ≤ 96 → ProcessLimits both
    joined_limits few = record {
      some_state = omega (arith, a.some_state);
      few_states = few;
      few_signals = omega (arith, a.few_signals, b.few_signals);
      few_steps = few_joined;
      fits = fits_joined;
      no_state = λ p le.
          joined_right l r p l.states refl (omega arith) ∙ ap (map (moved l.states)) (b.no_state (p - l.states) (omega arith));
    }

  module _ (o o' : ℕ → List Origin) (a : OriginLimits l o) (b : OriginLimits r o') where
    joined_originated : OriginLimits both (joined_origins l.states o o')
    joined_originated = record {
      each = λ p.
          let q = p - l.states in
          length_cond (nat_lt p l.states) (o p) (map on_the_right (o' q)) (l.from p) (right_at p) (a.each p)
          (omega (arith, length-map (o' q) on_the_right, b.each q, length-map (r.from q) (moved l.states)));
      near = λ p.
          let q = p - l.states in
          cond_both (nat_lt p l.states) (o p) (map on_the_right (o' q)) (AllByRecursion (λ (x : Origin). x.place < 512)) (λ _. a.near p)
          (λ _. All-map (λ (x : Origin). x.place < 512) on_the_right (o' q) (b.near q));
    }

pub join_limits : (l r : Sheet) → ProcessLimits (joined_process (process_of (held l)) (process_of (held r)))
join_limits l r = joined_limits (process_of (held l)) (process_of (held r)) (sheet_limits l) (sheet_limits r) (omega arith)

pub join_originated : (l r : Sheet) →
    OriginLimits (joined_process (process_of (held l)) (process_of (held r)))
    (joined_origins (held l).states (origins_of (held l)) (origins_of (held r)))
join_originated l r =
    joined_originated (process_of (held l)) (process_of (held r)) (origins_of (held l)) (origins_of (held r)) (sheet_originated l)
    (sheet_originated r)
