-- Lists of transitions: what a sheet may hold.
use Rattle.std.specs.Prelude.{◌≡◌, ℕ, ◌+◌, ◌<◌, Bool, true, false, cond, not, ◌&&◌, ◌||◌, List, [], ◌∷◌, length, Option, MatchOption, ◌==◌, nat_lt}
use Rattle.std.specs.List.{remove}
use Rattle.sheets.specs.declared.transitions.Transition.{Transition}

abbrev pub transition : ℕ → ℕ → ℕ → Transition
transition p a q = record { from = p; label = a; to = q }

abbrev pub same_transition : Transition → Transition → Bool
same_transition x y = x.from == y.from && (x.label == y.label && x.to == y.to)

-- x stands in the list
abbrev pub has_transition : List Transition → Transition → Bool
has_transition [] x = false
has_transition (y ∷ ys) x = same_transition y x || has_transition ys x

-- a sheet of n states and k signals has the states and the label of x
abbrev pub fits : ℕ → ℕ → Transition → Bool
fits n k x = nat_lt x.from n && (nat_lt x.label (k + 2) && nat_lt x.to n)

abbrev pub all_fit : ℕ → ℕ → List Transition → Bool
all_fit n k [] = true
all_fit n k (x ∷ xs) = fits n k x && all_fit n k xs

-- none stands twice
abbrev pub all_once : List Transition → Bool
all_once [] = true
all_once (x ∷ xs) = not (has_transition xs x) && all_once xs

-- the list without the first x
abbrev pub without : List Transition → Transition → List Transition
without [] x = []
without (y ∷ ys) x = cond (same_transition y x) ys (y ∷ without ys x)

-- x stands in the list, and without its place i the list is what it is without the first x
pub record StandsAt (xs : List Transition) (x : Transition) (i : ℕ) : Type 0 where
  pub inside : i < length xs
  pub present : has_transition xs x ≡ true
  pub rest : remove xs i ≡ without xs x

-- where x stands in the list, or that it does not
abbrev pub IsPlaceOf : List Transition → Transition → Option ℕ → Type 0
IsPlaceOf xs x place = MatchOption place (has_transition xs x ≡ false) (StandsAt xs x)
