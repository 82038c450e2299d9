-- What a source means: a process whose steps are inner steps, time-outs and signals; and when it is idle in an environment.
use Rattle.std.specs.Prelude.{◌≡◌, ℕ, zero, suc, ◌+◌, ◌-◌, ◌/◌, ◌%◌, ◌^◌, ◌≤◌, Bool, true, cond, not, ◌&&◌, ◌||◌, [], length, Some, None, Option, ◌==◌, nat_lt}
use Rattle.std.specs.List.{AllByRecursion, list_any}
use Rattle.lts.specs.declared.steps.Step.{Step}
use Rattle.lts.specs.Systems.{Listing, Leads, InRange}

pub record Process : Type 0 where
  pub states : ℕ
  pub signals : ℕ
  pub from : Listing

-- the labels: an inner step (written tau), a time-out (written t), and the signal i (written as a letter)
abbrev pub inner : ℕ
inner = 0

abbrev pub time_out : ℕ
time_out = 1

abbrev pub signal : ℕ → ℕ
signal i = i + 2

-- signals 0 to 4 are written a to e, by the code of the character
abbrev pub letter : ℕ → Option ℕ
letter i = cond (nat_lt i 5) (Some (97 + i)) None

-- what the meaning of every source keeps
pub record ProcessLimits (M : Process) : Type 0 where
  pub some_state : 1 ≤ M.states
  pub few_states : M.states ≤ 96
  pub few_signals : M.signals ≤ 5
  pub few_steps : (p : ℕ) → length (M.from p) ≤ 4096
  pub fits : (p : ℕ) → AllByRecursion (InRange (M.signals + 2) M.states) (M.from p)
  pub no_state : (p : ℕ) → M.states ≤ p → M.from p ≡ []

-- An environment is the set of signals that it allows, numbered as the sum of 2 ^ i over its signals i. It has the signal i if its
-- binary digit i is 1
unfoldable pub has : ℕ → ℕ → Bool
has X i = X / 2 ^ i % 2 == 1

-- the sum of 2 ^ i over the i below n that pass
unfoldable pub numbered : (ℕ → Bool) → ℕ → ℕ
numbered b zero = 0
numbered b (suc n) = cond (b n) (2 ^ n) 0 + numbered b n

-- the label a is that of a signal of X
unfoldable pub allowed : ℕ → ℕ → Bool
allowed X a = nat_lt 1 a && has X (a - 2)

-- no inner step and no signal of X leaves p
pub record Idle (M : Process) (X p : ℕ) : Type 0 where
  pub no_inner : (p' : ℕ) → Leads M.from p inner p' → ⊥
  pub no_signal : (a p' : ℕ) → allowed X a ≡ true → Leads M.from p a p' → ⊥

-- the same as a test: a label of an inner step or of a signal of X keeps a state busy
abbrev pub busy : ℕ → ℕ → Bool
busy X a = a == inner || allowed X a

abbrev pub busy_step : ℕ → Step → Bool
busy_step X s = busy X s.label

unfoldable pub idle : Process → ℕ → ℕ → Bool
idle M X p = not (list_any (busy_step X) (M.from p))
