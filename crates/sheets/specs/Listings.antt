-- The steps of a sheet as a source lists them.
use Rattle.std.specs.Prelude.{◌≡◌, ℕ, ◌<◌, Bool, List, map, Some, filter, ◌==◌}
use Rattle.std.specs.List.{slice_get, enumerate_from}
use Rattle.lts.specs.declared.steps.Step.{Step}
use Rattle.lts.specs.declared.steps.Origin.{Origin}
use Rattle.lts.specs.declared.steps.Side.TheVariants.{Left}
use Rattle.lts.specs.Systems.{step, moved}
use Rattle.lts.specs.Origins.{origin}
use Rattle.lts.specs.Processes.{Process}
use Rattle.sheets.specs.declared.transitions.Transition.{Transition}
use Rattle.sheets.specs.declared.transitions.Listed.{Listed}
use Rattle.sheets.specs.Transitions.{transition}
use Rattle.sheets.specs.Contents.{Contents}

abbrev pub listed : ℕ → Transition → Listed
listed k x = record { place = k; transition = x }

-- each transition with its place, the first at k
abbrev pub listed_from : ℕ → List Transition → List Listed
listed_from k xs = map (λ (x : ℕ × Transition). listed x.0 x.1) (enumerate_from k xs)

abbrev pub leaves : ℕ → Listed → Bool
leaves p l = l.transition.from == p

-- those that leave a state, in noting order
abbrev pub leaving : List Transition → ℕ → List Listed
leaving xs p = filter (leaves p) (listed_from 0 xs)

abbrev pub step_of : Listed → Step
step_of l = step l.transition.label l.transition.to

abbrev pub origin_of : Listed → Origin
origin_of l = origin Left l.place

abbrev pub process_of : Contents → Process
process_of c = record { states = c.states; signals = c.signals; from = λ p. map step_of (leaving c.steps p) }

abbrev pub origins_of : Contents → ℕ → List Origin
origins_of c p = map origin_of (leaving c.steps p)

-- the steps that leave p, with their targets numbered behind n other states
abbrev pub all_behind : ℕ → Contents → ℕ → List Step
all_behind n c p = map (moved n) ((process_of c).from p)

-- The listing in the users' words: what is listed for a state is on the sheet at its origin's place and leaves that state; whatever
-- leaves it is listed; and the places rise
pub record ListingStands (c : Contents) (p : ℕ) : Type 0 where
  pub on_the_sheet : (i : ℕ) (s : Step) (o : Origin) → slice_get ((process_of c).from p) i ≡ Some s → slice_get (origins_of c p) i ≡ Some o →
      (o.side ≡ Left) × (slice_get c.steps o.place ≡ Some (transition p s.label s.target))
  pub complete : (k a q : ℕ) → slice_get c.steps k ≡ Some (transition p a q) →
      (i : ℕ) × (slice_get ((process_of c).from p) i ≡ Some (step a q)) × (slice_get (origins_of c p) i ≡ Some (origin Left k))
  pub in_order : (i j : ℕ) (o o' : Origin) → i < j → slice_get (origins_of c p) i ≡ Some o → slice_get (origins_of c p) j ≡ Some o' →
      o.place < o'.place

abbrev pub ListingsStand : Type 0
ListingsStand = (c : Contents) (p : ℕ) → ListingStands c p
