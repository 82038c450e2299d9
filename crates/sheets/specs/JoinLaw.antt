-- The law of a join, in the users' words.
use Rattle.std.specs.Prelude.{◌≡◌, ℕ, ◌+◌, true, ◌⊎◌, ◌↔◌}
use Rattle.lts.specs.Systems.{Leads}
use Rattle.sheets.specs.Transitions.{transition, has_transition}
use Rattle.sheets.specs.Contents.{Contents}
use Rattle.sheets.specs.Listings.{process_of}
use Rattle.sheets.specs.Joins.{joined_process}

-- a step of the sheet, between states that are moved behind n others
pub record MovedStep (c : Contents) (n u a v : ℕ) : Type 0 where
  pub from : ℕ
  pub to : ℕ
  pub noted : has_transition c.steps (transition from a to) ≡ true
  pub leaves : u ≡ n + from
  pub leads : v ≡ n + to

-- A join has exactly the steps of the left sheet as they are, and those of the right sheet moved behind the left one's states
abbrev pub JoinLaw : Contents → Contents → Type 0
JoinLaw l r =
    (u a v : ℕ) →
    Leads (joined_process (process_of l) (process_of r)).from u a v
    ↔ ((has_transition l.steps (transition u a v) ≡ true) ⊎ MovedStep r l.states u a v)
