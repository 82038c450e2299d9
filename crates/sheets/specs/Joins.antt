-- Two processes side by side.
use Rattle.std.specs.Prelude.{◌≡◌, ℕ, ◌+◌, ◌-◌, ◌<◌, max, cond, List, map, nat_lt}
use Rattle.lts.specs.declared.steps.Origin.{Origin}
use Rattle.lts.specs.declared.steps.Side.TheVariants.{Right}
use Rattle.lts.specs.Systems.{moved}
use Rattle.lts.specs.Origins.{origin}
use Rattle.lts.specs.Processes.{Process}
use Rattle.sheets.specs.declared.joins.Sided.{Sided}
use Rattle.sheets.specs.declared.joins.Sided.TheVariants as sided

-- the states of the right process come after those of the left one
abbrev pub joined_process : Process → Process → Process
joined_process l r = record {
  states = l.states + r.states;
  signals = max l.signals r.signals;
  from = λ p. cond (nat_lt p l.states) (l.from p) (map (moved l.states) (r.from (p - l.states)));
}

abbrev pub on_the_right : Origin → Origin
on_the_right o = origin Right o.place

abbrev pub joined_origins : ℕ → (ℕ → List Origin) → (ℕ → List Origin) → ℕ → List Origin
joined_origins n l r p = cond (nat_lt p n) (l p) (map on_the_right (r (p - n)))

-- the state p of a join, where the left process has n states
abbrev pub IsSided : ℕ → ℕ → Sided → Type 0
IsSided n p (sided.Left q) = (q ≡ p) × (p < n)
IsSided n p (sided.Right q) = n + q ≡ p
