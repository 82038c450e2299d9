-- Steps that are moved behind other states, where none comes near the largest number.
use Rattle.std.proofs.Common.{◌≡◌, ℕ, ◌+◌, ◌-◌, ◌^◌, ◌≤◌, map, min, ap, ◌∙◌, arith}
use Rattle.std.proofs.lemmas.List.{map-id}
use Rattle.lts.specs.declared.steps.Step.{Step}
use Rattle.lts.specs.Systems.{step, InRange, moved, moved_within}
use Rattle.lts.specs.Processes.{Process, ProcessLimits}
use Rattle.lts.proofs.Moved.{map_where}

module _ (M : Process) (f : ProcessLimits M) (p : ℕ) where
  abbrev Own : Step → Type 0
  Own = InRange (M.signals + 2) M.states

  pub unmoved : map (moved 0) (M.from p) ≡ M.from p
  unmoved =
      map_where Own (moved 0) (λ s. s) (λ s _. let e : 0 + s.target ≡ s.target = omega arith in ap (step s.label) e) (M.from p) (f.fits p)
      ∙ map-id (M.from p)

  pub never_far : (n : ℕ) → n ≤ 96 → map (moved_within n) (M.from p) ≡ map (moved n) (M.from p)
  never_far n few =
      map_where Own (moved_within n) (moved n)
      (λ s h. let e : min (n + s.target) (2 ^ 64 - 1) ≡ n + s.target = omega (arith, f.few_states) in ap (step s.label) e)
      (M.from p) (f.fits p)
