-- Lists that grow as far as their room goes, and functions of places that read a list.
use Rattle.std.specs.Prelude.{ℕ, ◌≡◌, List, ◌++◌, length, take, Option, Vec, vec_capacity}
use Rattle.std.specs.List.{slice_get}

module _ {X : Type 0} where
  -- what a list holds after more was put behind it, as far as its reserved room goes
  abbrev pub filled : ℕ → List X → List X → List X
  filled room old more = take room (old ++ more)

-- the vector has more behind what it held, as far as its reserved room goes, and has that room still
pub record IsFilled {X Z : Type 0} (old new : Vec X Z) (more : List X) : Type 0 where
  pub items : new.items ≡ filled (vec_capacity old) old.items more
  pub room : vec_capacity new ≡ vec_capacity old

-- what a function of places answers, by the relation of place and answer: what the list has there, for as many places as the list has
pub record ReadsList {X : Type 0} (answers : ℕ → Option X → Type 0) (count : ℕ) (xs : List X) : Type 0 where
  pub long : count ≡ length xs
  pub each : (k : ℕ) (o : Option X) → answers k o → o ≡ slice_get xs k
