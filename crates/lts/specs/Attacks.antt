-- The attacker's side of the bisimulation game: which steps press a pair of states, and attacks as finite trees.
use Rattle.std.specs.Prelude.{◌≡◌, ℕ, suc, ◌<◌, max, List, [], ◌∷◌, length, ◌≢◌}
use Rattle.lts.specs.declared.steps.Step.{Step}
use Rattle.lts.specs.declared.steps.Side.{Side}
use Rattle.lts.specs.declared.steps.Side.TheVariants.{Left, Right}
use Rattle.lts.specs.Systems.{System, Leads, label_at, target_at}
use Rattle.lts.specs.Rounds.{Same, FirstApart}

-- of two states, the one on a side and the one across
abbrev pub own : Side → ℕ → ℕ → ℕ
own Left p q = p
own Right p q = q

abbrev pub across : Side → ℕ → ℕ → ℕ
across Left p q = q
across Right p q = p

-- the left and the right state after a step on a side to m and a reply to r
abbrev pub left_after : Side → ℕ → ℕ → ℕ
left_after side m r = own side m r

abbrev pub right_after : Side → ℕ → ℕ → ℕ
right_after side m r = across side m r

-- The step at the place k on a side presses p and q at round n: each reply, a step across with the same label, leads to a pair that
-- round n separates. At round 0, which separates none, there is no reply
pub record Presses (S : System) (n p q : ℕ) (side : Side) (k : ℕ) : Type 0 where
  pub inside : k < length (S.from (own side p q))
  pub parts : (r : ℕ) → Leads S.from (across side p q) (label_at S.from (own side p q) k) r →
      Same S n (left_after side (target_at S.from (own side p q) k) r) (right_after side (target_at S.from (own side p q) k) r) → ⊥

-- the first step that presses, left before right and places rising
pub record FirstPress (S : System) (n p q : ℕ) (side : Side) (k : ℕ) : Type 0 where
  pub presses : Presses S n p q side k
  pub none_before : (j : ℕ) → j < k → Presses S n p q side j → ⊥
  pub none_left : side ≡ Right → (j : ℕ) → Presses S n p q Left j → ⊥

mutual
  -- An attack on p and q (the users' way of pressing): a step of one of them and, for each step across with its label, an attack on
  -- the pair reached
  pub data Attack (S : System) : ℕ → ℕ → Type 0 where
    press : {p q : ℕ} (side : Side) (k : ℕ) → k < length (S.from (own side p q)) →
        Replies S side (label_at S.from (own side p q) k) (target_at S.from (own side p q) k) (S.from (across side p q)) →
        Attack S p q

  -- for each step of a list with the label a, as a reply to a step on a side to m, an attack on the pair reached
  pub data Replies (S : System) : Side → ℕ → ℕ → List Step → Type 0 where
    none : {side : Side} {a m : ℕ} → Replies S side a m []
    reply : {side : Side} {a m : ℕ} {s : Step} {rest : List Step} →
        s.label ≡ a → Attack S (left_after side m s.target) (right_after side m s.target) → Replies S side a m rest →
        Replies S side a m (s ∷ rest)
    skip : {side : Side} {a m : ℕ} {s : Step} {rest : List Step} →
        (s.label ≢ a) → Replies S side a m rest → Replies S side a m (s ∷ rest)

-- how many presses an attack takes: one more than the most that any reply leaves, and 1 if there is no reply
abbrev mutual
  pub presses_of : {S : System} {p q : ℕ} → Attack S p q → ℕ
  presses_of (press side k h rs) = suc (most_of rs)

  pub most_of : {S : System} {side : Side} {a m : ℕ} {xs : List Step} → Replies S side a m xs → ℕ
  most_of none = 0
  most_of (reply e w rs) = max (presses_of w) (most_of rs)
  most_of (skip e rs) = most_of rs

-- An attack that at every pair presses the first suitable step: with suc n the first round that separates the pair, the first that
-- presses at round n
abbrev mutual
  pub AlwaysFirst : {S : System} {p q : ℕ} → Attack S p q → Type 0
  AlwaysFirst {S = S} (press {p = p} {q = q} side k h rs) =
      ((n : ℕ) × FirstApart S (suc n) p q × FirstPress S n p q side k) × EachFirst rs

  pub EachFirst : {S : System} {side : Side} {a m : ℕ} {xs : List Step} → Replies S side a m xs → Type 0
  EachFirst none = Unit {0}
  EachFirst (reply e w rs) = AlwaysFirst w × EachFirst rs
  EachFirst (skip e rs) = EachFirst rs
