-- Strong reactive bisimulation (van Glabbeek): pairs held plainly, and pairs held under each set of signals that an environment allows.
use Rattle.std.specs.Prelude.{◌≡◌, ℕ, ◌^◌, ◌<◌, Bool, true}
use Rattle.lts.specs.Systems.{Leads}
use Rattle.lts.specs.Processes.{Process, inner, time_out, allowed, Idle}
use Rattle.lts.specs.Bisimulations.{Holds}

pub record ReactiveBisimulation (M : Process) (plainly : ℕ → ℕ → Type 0) (under : ℕ → ℕ → ℕ → Type 0) : Type 0 where
  pub plainly_sym : (p q : ℕ) → plainly p q → plainly q p
  pub under_sym : (X p q : ℕ) → under X p q → under X q p
  -- p and q are held plainly
  pub inner_plain : (p q : ℕ) → plainly p q →
      (p' : ℕ) → Leads M.from p inner p' → (q' : ℕ) × Leads M.from q inner q' × plainly p' q'
  pub settles : (p q : ℕ) → plainly p q → (X : ℕ) → X < 2 ^ M.signals → under X p q
  -- p and q are held under X
  pub signals : (X p q : ℕ) → under X p q →
      (a p' : ℕ) → allowed X a ≡ true → Leads M.from p a p' → (q' : ℕ) × Leads M.from q a q' × plainly p' q'
  pub inner_under : (X p q : ℕ) → under X p q →
      (p' : ℕ) → Leads M.from p inner p' → (q' : ℕ) × Leads M.from q inner q' × under X p' q'
  pub changes : (X p q : ℕ) → under X p q → Idle M X p → plainly p q
  pub times_out : (X p q : ℕ) → under X p q → Idle M X p →
      (p' : ℕ) → Leads M.from p time_out p' → (q' : ℕ) × Leads M.from q time_out q' × under X p' q'

-- Some reactive bisimulation holds p and q plainly. It is asked for as two Boolean relations, and for the states of a process within the
-- limits that is no less: `relations_reactive` in src/relations.rt
abbrev pub ReactivelyBisimilar : Process → ℕ → ℕ → Type 0
ReactivelyBisimilar M p q =
    (plainly : ℕ → ℕ → Bool) × (under : ℕ → ℕ → ℕ → Bool)
    × ReactiveBisimulation M (Holds plainly) (λ X. Holds (under X)) × (plainly p q ≡ true)
