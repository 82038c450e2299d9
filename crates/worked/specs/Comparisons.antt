-- Worked comparisons: pairs of sheets whose states 0 are compared, and how each comparison must end.
use Rattle.std.specs.Prelude.{ℕ, List, [], ◌∷◌, Some, None, Option}
use Rattle.std.specs.List.{AllByRecursion}
use Rattle.lts.specs.declared.environments.Position.TheVariants.{Plain}
use Rattle.lts.specs.Rounds.{FirstApart}
use Rattle.lts.specs.Processes.{Process, inner, time_out, signal}
use Rattle.lts.specs.Environments.{number, surrounded}
use Rattle.lts.specs.Reactive.{ReactivelyBisimilar}
use Rattle.sheets.specs.Transitions.{transition}
use Rattle.sheets.specs.Contents.{Contents, contents_of}
use Rattle.sheets.specs.Listings.{process_of}
use Rattle.sheets.specs.Joins.{joined_process}

-- an old and a new sheet, and the round that separates their states 0 in their environments: none if they are alike
pub record Comparison : Type 0 where
  pub old : Contents
  pub new : Contents
  pub separated : Option ℕ

abbrev pub comparison : Contents → Contents → Option ℕ → Comparison
comparison old new separated = record { old = old; new = new; separated = separated }

-- both sheets side by side; the states of the new one come after those of the old one
abbrev pub both : Comparison → Process
both c = joined_process (process_of c.old) (process_of c.new)

-- the state q, beside state 0, under a verdict
abbrev pub Ends : Process → ℕ → Option ℕ → Type 0
Ends M q None = ReactivelyBisimilar M 0 q
Ends M q (Some r) = FirstApart (surrounded M) r (number M (Plain 0)) (number M (Plain q))

-- state 0 of the old sheet and state 0 of the new one are as the row says
abbrev pub Stands : Comparison → Type 0
Stands c = Ends (both c) c.old.states c.separated

-- the labels, as they are written
abbrev tau : ℕ
tau = inner

abbrev t : ℕ
t = time_out

abbrev a : ℕ
a = signal 0

abbrev b : ℕ
b = signal 1

abbrev c : ℕ
c = signal 2

abbrev pub comparisons : List Comparison
comparisons =
    -- the allowed set stays after a time-out: state 2 is entered only while a is held back, so that its step on a never goes
    comparison (contents_of 4 1 (transition 0 a 1 ∷ transition 0 t 2 ∷ transition 2 tau 3 ∷ transition 2 a 3 ∷ []))
    (contents_of 4 1 (transition 0 a 1 ∷ transition 0 t 2 ∷ transition 2 tau 3 ∷ []))
    None
    -- a signal that the new sheet does not hear
    ∷ comparison (contents_of 2 1 (transition 0 a 1 ∷ [])) (contents_of 1 1 []) (Some 2)
    -- the same, one signal later: each signal takes two rounds, since the environment settles first
    ∷ comparison (contents_of 3 1 (transition 0 a 1 ∷ transition 1 a 2 ∷ [])) (contents_of 2 1 (transition 0 a 1 ∷ [])) (Some 4)
    -- the environment may change at every idle position, not only where a time-out leaves: so a can come at state 1 after all
    ∷ comparison (contents_of 3 1 (transition 0 a 2 ∷ transition 0 t 1 ∷ transition 1 a 2 ∷ []))
    (contents_of 3 1 (transition 0 a 2 ∷ transition 0 t 1 ∷ []))
    (Some 5)
    -- no time-out expires while an inner step can go
    ∷ comparison (contents_of 3 0 (transition 0 tau 1 ∷ transition 0 t 2 ∷ [])) (contents_of 2 0 (transition 0 tau 1 ∷ [])) None
    -- a time-out is seen, even one that changes nothing
    ∷ comparison (contents_of 2 0 (transition 0 t 1 ∷ [])) (contents_of 1 0 []) (Some 2)
    -- it matters when a choice is made: with the first signal, or after it
    ∷ comparison (contents_of 5 3 (transition 0 a 1 ∷ transition 0 a 2 ∷ transition 1 b 3 ∷ transition 2 c 4 ∷ []))
    (contents_of 4 3 (transition 0 a 1 ∷ transition 1 b 2 ∷ transition 1 c 3 ∷ []))
    (Some 4)
    -- a choice between states that do the same, and a loop unrolled, change nothing
    ∷ comparison (contents_of 3 2 (transition 0 a 1 ∷ transition 0 a 2 ∷ transition 1 b 0 ∷ transition 2 b 0 ∷ []))
    (contents_of 3 2 (transition 0 a 1 ∷ transition 1 b 2 ∷ transition 2 a 1 ∷ []))
    None
    ∷ []

-- every row stands
abbrev pub ComparisonsStand : Type 0
ComparisonsStand = AllByRecursion Stands comparisons
