-- The theorems, proved.
use Rattle.std.proofs.Common.{le_refl}
use Rattle.lts.specs.Bisimulations.{Holds}
use Rattle.lts.specs.Limits.{surrounded_limits}
use Rattle.lts.specs.Theorems.{RoundsDecided, RoundsEquivalences, RoundsSound, StableRoundBisimulates, StableRoundExists, BisimilarOrApart, SetsNumbered, Reduction, EveryProcessReduced, OneFirstPress, AttacksSound, AttacksNoShorter, AlwaysFirstShortest}
use Rattle.lts.specs.Processes.{Process, ProcessLimits}
use Rattle.lts.proofs.Rounds.{decides_same, same_down, same_sym, same_refl, same_trans, related_same, stable_bisimulation, first_apart_one}
use Rattle.lts.proofs.Stable.{stable_round, bisimilar_or_apart}
use Rattle.lts.proofs.Sets.{numbered_has, numbered_below, has_numbered, signal_allowed, allowed_signal}
use Rattle.lts.proofs.SixRules.{positions_numbered, six_rules}
use Rattle.lts.proofs.Reduction.{reactive_plain, plain_reactive}
use Rattle.lts.proofs.Presses.{first_press, first_press_one}
use Rattle.lts.proofs.Attacks.{attack_parts, attack_long, first_attack, first_exact}

pub rounds_decided : RoundsDecided
rounds_decided = decides_same

pub rounds_equivalences : RoundsEquivalences
rounds_equivalences = record {
  reflexive = same_refl;
  symmetric = same_sym;
  transitive = same_trans;
  finer = λ S n m p q l h. same_down S p q n m l h;
}

pub rounds_sound : RoundsSound
rounds_sound S p q b n = related_same S (Holds b.0) b.1 n p q b.2

pub stable_round_bisimulates : StableRoundBisimulates
stable_round_bisimulates = stable_bisimulation

pub stable_round_exists : StableRoundExists
stable_round_exists S w = stable_round S w.some_state

pub bisimilar_or_apart_stands : BisimilarOrApart
bisimilar_or_apart_stands = record {
  one = bisimilar_or_apart;
  not_both = λ S r p q f b. f.apart (rounds_sound S p q b r);
  one_round = first_apart_one;
}

pub sets_numbered : SetsNumbered
sets_numbered = record {
  number_of_set = numbered_has;
  set_below = numbered_below;
  set_of_number = has_numbered;
  signal_allowed = signal_allowed;
  allowed_signal = allowed_signal;
}

reduction : (M : Process) → ProcessLimits M → Reduction M
reduction M f p q h k = (
  (λ r. reactive_plain M f (Holds r.0) (λ X. Holds (r.1 X)) r.2 p q h k r.3),
  (λ r. plain_reactive M f r.0 r.1 p q h k r.2),
)

pub every_process_reduced : EveryProcessReduced
every_process_reduced M f = record {
  limits = surrounded_limits M f;
  positions_numbered = positions_numbered M f.some_state;
  six_rules = six_rules M f;
  reduction = reduction M f;
}

pub one_first_press : OneFirstPress
one_first_press = record { exists = first_press; unique = first_press_one }

pub attacks_sound : AttacksSound
attacks_sound S p q w = attack_parts S w _ (le_refl _)

pub attacks_no_shorter : AttacksNoShorter
attacks_no_shorter = attack_long

pub always_first_shortest : AlwaysFirstShortest
always_first_shortest = record { exists = λ S r p q f. first_attack S r p q f.apart; exact = first_exact }
