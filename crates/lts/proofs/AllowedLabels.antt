-- What a set allows, by what a label stands for.
use Rattle.std.proofs.Common.{◌≡◌, ℕ, zero, suc, Bool, false, refl, ap, arith}
use Rattle.std.proofs.lemmas.Bool.{lt-ltb}
use Rattle.lts.specs.declared.labels.Label.{Label}
use Rattle.lts.specs.declared.labels.Label.TheVariants.{Inner, TimeOut, Signal}
use Rattle.lts.specs.Labels.{label_of}
use Rattle.lts.specs.Processes.{has, allowed}

abbrev allowed_one : ℕ → Label → Bool
allowed_one X Inner = false
allowed_one X TimeOut = false
allowed_one X (Signal i) = has X i

pub allowed_label : (X a : ℕ) (l : Label) → l ≡ label_of a → allowed X a ≡ allowed_one X l
unfolding allowed
allowed_label X zero l e = rw e refl
allowed_label X (suc zero) l e = rw e refl
allowed_label X (suc (suc i)) l e = rw (e, lt-ltb 1 (suc (suc i)) (omega arith)) (ap (has X) (omega arith))

pub allowed_other : (X a : ℕ) (l : Label) → l ≡ label_of a → ((i : ℕ) → l ≡ Signal i → ⊥) → allowed X a ≡ false
allowed_other X a Inner e n = allowed_label X a Inner e
allowed_other X a TimeOut e n = allowed_label X a TimeOut e
allowed_other X a (Signal i) e n = absurd (n i refl)

pub ruleset by_label = (allowed_label, allowed_other)
