-- Strong bisimulation.
use Rattle.std.specs.Prelude.{◌≡◌, ℕ, Bool, true, ◌&&◌, nat_lt}
use Rattle.lts.specs.Systems.{System}
use Rattle.lts.specs.Rounds.{Met, same}

-- R and its converse are simulations
pub record Bisimulation (S : System) (R : ℕ → ℕ → Type 0) : Type 0 where
  pub forth : (p q : ℕ) → R p q → Met S.from R p q
  pub back : (p q : ℕ) → R p q → Met S.from (λ q' p'. R p' q') q p

-- the pairs that a Boolean relation holds
abbrev pub Holds : (ℕ → ℕ → Bool) → ℕ → ℕ → Type 0
Holds r p q = r p q ≡ true

-- Some bisimulation relates p and q. It is asked for as a Boolean relation, since a fact of a contract cannot quantify over relations in
-- types. For the states of a system within the limits that is no less: `relations_bisimilar` in src/relations.rt
abbrev pub Bisimilar : System → ℕ → ℕ → Type 0
Bisimilar S p q = (r : ℕ → ℕ → Bool) × Bisimulation S (Holds r) × (r p q ≡ true)

-- the states of the system that share a class at round n
unfoldable pub classmates : System → ℕ → ℕ → ℕ → Bool
classmates S n p q = (nat_lt p S.states && nat_lt q S.states) && same S n p q
