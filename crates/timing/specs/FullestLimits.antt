-- The fullest source is within the limits of a source: what its implementation of `Source` owes.
use Rattle.std.specs.Prelude.{◌≡◌, ℕ, ◌+◌, ◌/◌, ◌%◌, ◌<◌, ◌≤◌, List, [], ◌∷◌, map, length, ◌==◌, nat_lt, refl}
use Rattle.std.proofs.Common.{arith, mod-lt, sym, ap, subst, ◌∙◌}
use Rattle.std.specs.List.{range_with_len, AllByRecursion}
use Rattle.std.proofs.lemmas.List.FromFn.{length-map-range_with_len}
use Rattle.std.proofs.ByRecursion.{All-map}
use Rattle.std.proofs.lemmas.Bool.{cond_both, cond-false, le-ltb, ltb-true}
use Rattle.lts.specs.declared.steps.Origin.{Origin}
use Rattle.lts.specs.Systems.{InRange}
use Rattle.lts.specs.Processes.{ProcessLimits}
use Rattle.lts.specs.Origins.{OriginLimits}
use Rattle.timing.specs.Fullest.{full_step, full_origin, listed, full_count, fullest, fullest_origins}

pub length_listed : {X : Type 0} (n : ℕ) (f : ℕ → X) → length (listed n f) ≡ n
unfolding listed
length_listed n f = length-map-range_with_len f 0 n

all_any : {X : Type 0} (P : X → Type 0) → ((x : X) → P x) → (xs : List X) → AllByRecursion P xs
all_any P h [] = tt
all_any P h (x ∷ xs) = (h x, all_any P h xs)

all_listed : {X : Type 0} (P : X → Type 0) (n : ℕ) (f : ℕ → X) → ((k : ℕ) → P (f k)) → AllByRecursion P (listed n f)
unfolding listed
all_listed P n f h = All-map P f (range_with_len 0 n) (all_any (λ k. P (f k)) h (range_with_len 0 n))

none_listed : {X : Type 0} (n : ℕ) (f : ℕ → X) → n ≡ 0 → listed n f ≡ []
unfolding listed
none_listed n f e = ap (λ m. map f (range_with_len 0 m)) e

few : (p : ℕ) → full_count p ≤ 4096
few p = cond_both (nat_lt p 96) 4096 0 (λ n. n ≤ 4096) (λ _. omega arith) (λ _. omega arith)

fits_full : (p k : ℕ) → p < 96 → InRange 7 96 (full_step p k)
fits_full p k h =
    (cond_both (p == 0) 0 (k % 7) (λ a. a < 7) (λ _. omega arith) (λ _. omega arith), omega (arith, mod-lt (k / 7) {m = p / 2 + 1} (omega arith)))

pub fullest_limits : ProcessLimits fullest
fullest_limits = record {
  some_state = omega arith;
  few_states = omega arith;
  few_signals = omega arith;
  few_steps = λ p. omega (arith, length_listed (full_count p) (full_step p), few p);
  fits = λ p. cond_both (nat_lt p 96) 4096 0 (λ n. AllByRecursion (InRange 7 96) (listed n (full_step p)))
      (λ t. all_listed (InRange 7 96) 4096 (full_step p) (λ k. fits_full p k (ltb-true p 96 t)))
      (λ _. subst (AllByRecursion (InRange 7 96)) (sym (none_listed 0 (full_step p) refl)) tt);
  no_state = λ p le. none_listed (full_count p) (full_step p) (cond-false (nat_lt p 96) 4096 0 (le-ltb p 96 le));
}

pub fullest_originated : OriginLimits fullest fullest_origins
fullest_originated = record {
  each = λ p. length_listed (full_count p) full_origin ∙ sym (length_listed (full_count p) (full_step p));
  near = λ p. all_listed (λ (o : Origin). o.place < 512) (full_count p) full_origin (λ k. omega arith);
}
