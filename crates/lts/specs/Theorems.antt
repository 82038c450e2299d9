-- The theorems on which a comparison stands.
use Rattle.std.specs.Prelude.{◌≡◌, ℕ, suc, ◌^◌, ◌<◌, ◌≤◌, Bool, true, ◌⊎◌, ◌↔◌, Some}
use Rattle.lts.specs.declared.steps.Side.{Side}
use Rattle.lts.specs.declared.environments.Position.{Position}
use Rattle.lts.specs.declared.environments.Position.TheVariants.{Plain}
use Rattle.lts.specs.Systems.{System, Leads, SystemLimits, SameSteps}
use Rattle.lts.specs.Rounds.{Same, same, Stable, FirstApart}
use Rattle.lts.specs.Bisimulations.{Bisimulation, Holds, Bisimilar, classmates}
use Rattle.lts.specs.Classes.{classes, rank}
use Rattle.lts.specs.Processes.{Process, ProcessLimits, has, numbered, signal, allowed}
use Rattle.lts.specs.Environments.{number, number_at, position_at, Move, surrounded}
use Rattle.lts.specs.Reactive.{ReactivelyBisimilar}
use Rattle.lts.specs.Attacks.{FirstPress, Attack, presses_of, AlwaysFirst}

-- A round is decided by its test
abbrev pub RoundsDecided : Type 0
RoundsDecided = (S : System) (n p q : ℕ) → (same S n p q ≡ true) ↔ Same S n p q

-- A round is an equivalence, so it has classes, and each round splits those of the one before
pub record RoundsEquivalences : Type 0 where
  pub reflexive : (S : System) (n p : ℕ) → Same S n p p
  pub symmetric : (S : System) (n p q : ℕ) → Same S n p q → Same S n q p
  pub transitive : (S : System) (n p q r : ℕ) → Same S n p q → Same S n q r → Same S n p r
  pub finer : (S : System) (n m p q : ℕ) → n ≤ m → Same S m p q → Same S n p q

-- What a strong bisimulation relates is together at every round
abbrev pub RoundsSound : Type 0
RoundsSound = (S : System) (p q : ℕ) → Bisimilar S p q → (n : ℕ) → Same S n p q

-- A stable round is a bisimulation of the system's states
abbrev pub StableRoundBisimulates : Type 0
StableRoundBisimulates = (S : System) → SystemLimits S → (n : ℕ) → Stable S n → Bisimulation S (Holds (classmates S n))

-- and there is one below the number of states
abbrev pub StableRoundExists : Type 0
StableRoundExists = (S : System) → SystemLimits S → (n : ℕ) × (n < S.states) × Stable S n

-- The classes of a round are numbered from 0 as they are first met by rising state: the numbers tell the classes, each number below a
-- state's own is that of an earlier state, and those of the states are the numbers below the count of classes. Where the next round has as
-- many classes, the round is stable
pub record ClassesNumbered : Type 0 where
  pub tell : (S : System) (n p q : ℕ) → (rank S n p ≡ rank S n q) ↔ Same S n p q
  pub as_met : (S : System) (n p c : ℕ) → c < rank S n p → (q : ℕ) × (q < p) × (rank S n q ≡ c)
  pub counted : (S : System) (n c : ℕ) → (c < classes S n) ↔ ((p : ℕ) × (p < S.states) × (rank S n p ≡ c))
  pub stop : (S : System) (n : ℕ) → classes S (suc n) ≡ classes S n → Stable S n

-- So two states are bisimilar, or a round below the number of states is the first to separate them; and not both
pub record BisimilarOrApart : Type 0 where
  pub one : (S : System) → SystemLimits S → (p q : ℕ) → p < S.states → q < S.states →
      Bisimilar S p q ⊎ ((r : ℕ) × (r < S.states) × FirstApart S r p q)
  pub not_both : (S : System) (r p q : ℕ) → FirstApart S r p q → Bisimilar S p q → ⊥
  pub one_round : (S : System) (r r' p q : ℕ) → FirstApart S r p q → FirstApart S r' p q → r ≡ r'

-- The numbers below 2 ^ A are those of the sets of the signals below A, and the labels that a set allows are those of its signals
pub record SetsNumbered : Type 0 where
  pub number_of_set : (A X : ℕ) → X < 2 ^ A → numbered (has X) A ≡ X
  pub set_below : (b : ℕ → Bool) (A : ℕ) → numbered b A < 2 ^ A
  pub set_of_number : (b : ℕ → Bool) (A i : ℕ) → i < A → has (numbered b A) i ≡ b i
  pub signal_allowed : (X i : ℕ) → has X i ≡ true → allowed X (signal i) ≡ true
  pub allowed_signal : (X a : ℕ) → allowed X a ≡ true → (i : ℕ) × (a ≡ signal i) × (has X i ≡ true)

-- The states of a surrounded system are the numbers of positions, and number and position belong to each other
pub record PositionsNumbered (M : Process) : Type 0 where
  pub inverse : (x : Position) (u : ℕ) → (number_at M x ≡ Some u) ↔ (position_at M u ≡ Some x)
  pub all : (u : ℕ) → (u < (surrounded M).states) ↔ ((x : Position) × (number_at M x ≡ Some u))

-- The listed steps of a surrounded process are exactly those that the six rules give
abbrev pub SixRules : Process → Type 0
SixRules M =
    (u a v : ℕ) →
    Leads (surrounded M).from u a v
    ↔ ((x : Position) × (y : Position) × Move M x a y × (number_at M x ≡ Some u) × (number_at M y ≡ Some v))

-- Two states are reactively bisimilar just if their plain positions are strongly bisimilar in the surrounded system
abbrev pub Reduction : Process → Type 0
Reduction M =
    (p q : ℕ) → p < M.states → q < M.states →
    ReactivelyBisimilar M p q ↔ Bisimilar (surrounded M) (number M (Plain p)) (number M (Plain q))

-- What is true of every process within a source's limits, and its surrounded system
pub record Reduced (M : Process) : Type 0 where
  pub limits : SystemLimits (surrounded M)
  pub positions_numbered : PositionsNumbered M
  pub six_rules : SixRules M
  pub reduction : Reduction M

abbrev pub EveryProcessReduced : Type 0
EveryProcessReduced = (M : Process) → ProcessLimits M → Reduced M

-- Rounds, their classes and the first that separates depend only on which steps there are, and so do the steps of a surrounded system: not on their order, nor on how often one is listed
pub record StepsDecide : Type 0 where
  pub rounds : (S T : System) → SameSteps S.from T.from → (n p q : ℕ) → Same S n p q → Same T n p q
  pub ranks : (S T : System) → SameSteps S.from T.from → (n p : ℕ) → rank S n p ≡ rank T n p
  pub stable : (S T : System) → SameSteps S.from T.from → S.states ≡ T.states → (n : ℕ) → Stable S n → Stable T n
  pub first_apart : (S T : System) → SameSteps S.from T.from → (r p q : ℕ) → FirstApart S r p q → FirstApart T r p q
  pub surroundings : (M N : Process) → M.states ≡ N.states → M.signals ≡ N.signals → SameSteps M.from N.from →
      ProcessLimits M → ProcessLimits N → SameSteps (surrounded M).from (surrounded N).from

-- Of a pair that round n + 1 is the first to separate, one step is the first that presses at round n
pub record OneFirstPress : Type 0 where
  pub exists : (S : System) (n p q : ℕ) → FirstApart S (suc n) p q → (side : Side) × (k : ℕ) × FirstPress S n p q side k
  pub unique : (S : System) (n p q : ℕ) (side side' : Side) (k k' : ℕ) → FirstPress S n p q side k → FirstPress S n p q side' k' →
      (side ≡ side') × (k ≡ k')

-- No attack takes fewer presses than the first round that separates the pair
abbrev pub AttacksNoShorter : Type 0
AttacksNoShorter = (S : System) (r p q : ℕ) → FirstApart S r p q → (w : Attack S p q) → r ≤ presses_of w

-- An attack that always presses the first suitable step exists for such a pair, and takes exactly that many
pub record AlwaysFirstShortest : Type 0 where
  pub exists : (S : System) (r p q : ℕ) → FirstApart S r p q → (w : Attack S p q) × AlwaysFirst w
  pub exact : (S : System) (r p q : ℕ) → FirstApart S r p q → (w : Attack S p q) → AlwaysFirst w → presses_of w ≡ r

-- If an attack takes n presses, round n separates the pair
abbrev pub AttacksSound : Type 0
AttacksSound = (S : System) (p q : ℕ) (w : Attack S p q) → Same S (presses_of w) p q → ⊥
