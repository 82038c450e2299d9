-- Rounds depend only on which steps there are, not on their order or repetition; and so do the six rules.
use Rattle.std.proofs.Common.{◌≡◌, ℕ, zero, suc, ◌<◌, Bool, not, sym, ap, subst}
use mathlib.Core.Path.{fun_ext}
use Rattle.std.specs.Cmp.{both_ways}
use Rattle.lts.specs.declared.environments.Position.{Position}
use Rattle.lts.specs.Systems.{Listing, System, Leads, SameSteps}
use Rattle.lts.specs.Rounds.{Met, Same, same, Stable, FirstApart}
use Rattle.lts.specs.Classes.{some_below, count_below, seek, leader, least, rank}
use Rattle.lts.specs.Processes.{Process, ProcessLimits, inner, time_out, Idle}
use Rattle.lts.specs.Environments.{Move, inner_plain, settles, signals, inner_under, changes, times_out, surrounded}
use Rattle.lts.specs.Theorems.{StepsDecide}
use Rattle.lts.proofs.Rounds.{decides_same}
use Rattle.lts.proofs.SixRules.{six_rules}

pub same_steps_sym : (f g : Listing) → SameSteps f g → SameSteps g f
same_steps_sym f g h p a p' = ((h p a p').1, (h p a p').0)

-- ---- rounds

met_too : (f g : Listing) → SameSteps f g → (R Q : ℕ → ℕ → Type 0) → ((x y : ℕ) → R x y → Q x y) → (p q : ℕ) → Met f R p q → Met g Q p q
met_too f g h R Q k p q m a p' s =
    let t = m a p' ((h p a p').1 s) in
    (t.0, (h q a t.0).0 t.1, k p' t.0 t.2)

pub same_rounds : (S T : System) → SameSteps S.from T.from → (n p q : ℕ) → Same S n p q → Same T n p q
same_rounds S T h zero p q s = tt
same_rounds S T h (suc n) p q s =
    let m = met_too S.from T.from h (Same S n) (Same T n) (same_rounds S T h n) in
    (same_rounds S T h n p q s.0, m p q s.1, m q p s.2)

-- and back
same_rounds_back : (S T : System) → SameSteps S.from T.from → (n p q : ℕ) → Same T n p q → Same S n p q
same_rounds_back S T h = same_rounds T S (same_steps_sym S.from T.from h)

pub same_tests : (S T : System) → SameSteps S.from T.from → (n : ℕ) → same S n ≡ same T n
same_tests S T h n =
    fun_ext (λ p. fun_ext (λ q.
    let s = decides_same S n p q in
    let t = decides_same T n p q in
    both_ways (same S n p q) (same T n p q)
    (λ e. t.1 (same_rounds S T h n p q (s.0 e)))
    (λ e. s.1 (same_rounds_back S T h n p q (t.0 e)))))

pub same_ranks : (S T : System) → SameSteps S.from T.from → (n p : ℕ) → rank S n p ≡ rank T n p
unfolding rank leader least
same_ranks S T h n p =
    ap (λ (r : ℕ → ℕ → Bool). count_below (λ x. not (some_below (λ q. r q x) x)) (seek (λ q. r q p) 0 p)) (same_tests S T h n)

pub same_stable : (S T : System) → SameSteps S.from T.from → S.states ≡ T.states → (n : ℕ) → Stable S n → Stable T n
same_stable S T h e n st =
    subst (λ (k : ℕ). (p q : ℕ) → p < k → q < k → Same T n p q → Same T (suc n) p q) e
    (λ p q l m s. same_rounds S T h (suc n) p q (st p q l m (same_rounds_back S T h n p q s)))

pub same_first_apart : (S T : System) → SameSteps S.from T.from → (r p q : ℕ) → FirstApart S r p q → FirstApart T r p q
same_first_apart S T h r p q f = record {
  apart = λ s. f.apart (same_rounds_back S T h r p q s);
  before = λ n l. same_rounds S T h n p q (f.before n l);
}

-- ---- the surrounded system

-- a process of k states and n signals, by its steps
abbrev listed : ℕ → ℕ → Listing → Process
listed k n f = record { states = k; signals = n; from = f }

module _ (k n : ℕ) (f g : Listing) (h : SameSteps f g) where
  idle_too : {X p : ℕ} → Idle (listed k n f) X p → Idle (listed k n g) X p
  idle_too {p = p} i = record {
    no_inner = λ p' s. i.no_inner p' ((h p inner p').1 s);
    no_signal = λ a p' al s. i.no_signal a p' al ((h p a p').1 s);
  }

  move_too : {x y : Position} {a : ℕ} → Move (listed k n f) x a y → Move (listed k n g) x a y
  move_too (inner_plain {p = p} {p' = p'} s) = inner_plain ((h p inner p').0 s)
  move_too (settles l) = settles l
  move_too (signals {p = p} {a = a} {p' = p'} al s) = signals al ((h p a p').0 s)
  move_too (inner_under {p = p} {p' = p'} s) = inner_under ((h p inner p').0 s)
  move_too (changes i) = changes (idle_too i)
  move_too (times_out {p = p} {p' = p'} i s) = times_out (idle_too i) ((h p time_out p').0 s)

  step_too : ProcessLimits (listed k n f) → ProcessLimits (listed k n g) → (u a v : ℕ) →
      Leads (surrounded (listed k n f)).from u a v → Leads (surrounded (listed k n g)).from u a v
  step_too v w u a x s =
      let r = (six_rules (listed k n f) v u a x).0 s in
      (six_rules (listed k n g) w u a x).1 (r.0, r.1, move_too r.2, r.3, r.4)

pub surrounded_steps : (M N : Process) → M.states ≡ N.states → M.signals ≡ N.signals → SameSteps M.from N.from →
    ProcessLimits M → ProcessLimits N → SameSteps (surrounded M).from (surrounded N).from
surrounded_steps M N e d h v w =
    let k : ℕ = M.states in
    let n : ℕ = M.signals in
    let f : Listing = M.from in
    let g : Listing = N.from in
    let at : listed k n g ≡ N = λ i. record { states = e i; signals = d i; from = g } in
    let w' : ProcessLimits (listed k n g) = subst ProcessLimits (sym at) w in
    subst (λ (K : Process). SameSteps (surrounded M).from (surrounded K).from) at
    (λ u a x. (step_too k n f g h v w' u a x, step_too k n g f (same_steps_sym f g h) w' v u a x))

pub steps_decide : StepsDecide
steps_decide = record {
  rounds = same_rounds;
  ranks = same_ranks;
  stable = same_stable;
  first_apart = same_first_apart;
  surroundings = surrounded_steps;
}
