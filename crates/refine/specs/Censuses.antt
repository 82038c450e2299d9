-- What a census writes and answers.
use Rattle.std.specs.Prelude.{◌≡◌, ℕ, ◌<◌, ◌≤◌, ◌↔◌, List, length, Ok, Err, Result, slice_index}
use Rattle.lts.specs.Processes.{Process}
use Rattle.lts.specs.Reactive.{ReactivelyBisimilar}
use Rattle.refine.specs.declared.verdicts.CensusRefusal.{CensusRefusal}
use Rattle.refine.specs.declared.verdicts.CensusRefusal.TheVariants.{BufferTooShort}

-- numbers given from 0 as they are first met: each number below that of p stands at an earlier place
abbrev pub AsMet : ℕ → List ℕ → Type 0
AsMet n xs = (p c : ℕ) → p < n → c < slice_index xs p → (q : ℕ) × (q < p) × (slice_index xs q ≡ c)

-- the numbers that stand in the first n places are those below the count
abbrev pub Counted : ℕ → List ℕ → ℕ → Type 0
Counted n xs count = (c : ℕ) → (c < count) ↔ ((p : ℕ) × (p < n) × (slice_index xs p ≡ c))

-- the list `after` has `front` at its front, and is otherwise as it was before
pub record Fronted (front before after : List ℕ) : Type 0 where
  pub long : length after ≡ length before
  pub written : (k : ℕ) → k < length front → slice_index after k ≡ slice_index front k
  pub beyond : (k : ℕ) → length front ≤ k → slice_index after k ≡ slice_index before k

-- the list `after` has the number of each state's class, numbered as the classes are first met by rising state, `count` in all
pub record Census (M : Process) (before after : List ℕ) (count : ℕ) : Type 0 where
  pub tells : (p q : ℕ) → p < M.states → q < M.states → (slice_index after p ≡ slice_index after q) ↔ ReactivelyBisimilar M p q
  pub as_met : AsMet M.states after
  pub counted : Counted M.states after count
  pub long : length after ≡ length before
  pub beyond : (k : ℕ) → M.states ≤ k → slice_index after k ≡ slice_index before k

-- a list that is shorter than the states is refused and stays as it was
abbrev pub Censused : Process → List ℕ → List ℕ → Result ℕ CensusRefusal → Type 0
Censused M before after (Err r) = (r ≡ BufferTooShort) × (length before < M.states) × (after ≡ before)
Censused M before after (Ok count) = (M.states ≤ length before) × Census M before after count
