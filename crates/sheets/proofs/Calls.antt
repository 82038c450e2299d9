-- What calls make of a sheet's contents: no step stands on it twice.
use Rattle.std.proofs.Common.{◌≡◌, true, false, List, [], ◌∷◌, ◌++◌, is_ok, fold, arith}
use Rattle.std.proofs.lemmas.Bool.{cond_both}
use Rattle.std.proofs.lemmas.Bool.Decides.{nat_tests}
use Rattle.sheets.specs.declared.transitions.Transition.{Transition}
use Rattle.sheets.specs.declared.replays.Call.{Call}
use Rattle.sheets.specs.declared.replays.Call.TheVariants.{Note, Strike}
use Rattle.sheets.specs.Transitions.{has_transition, all_once, without}
use Rattle.sheets.specs.Contents.{Contents, contents_of, note_answer, strike_answer}
use Rattle.sheets.specs.Tallies.{after_call}
use Rattle.sheets.proofs.Once.{once_push, once_without}

-- the contents after a call that is carried out
abbrev pub noted : Contents → Transition → Contents
noted c x = contents_of c.states c.signals (c.steps ++ x ∷ [])

abbrev pub struck : Contents → Transition → Contents
struck c x = contents_of c.states c.signals (without c.steps x)

pub note_fresh : (c : Contents) (x : Transition) → is_ok (note_answer c x) ≡ true → has_transition c.steps x ≡ false
note_fresh c x h = grind (arith, nat_tests)

once_call : (c : Contents) (y : Call) → all_once c.steps ≡ true → all_once (after_call c y).steps ≡ true
once_call c (Note x) h =
    cond_both (is_ok (note_answer c x)) (noted c x) c (λ d. all_once d.steps ≡ true)
    (λ ok. once_push c.steps x h (note_fresh c x ok)) (λ _. h)
once_call c (Strike x) h =
    cond_both (is_ok (strike_answer c x)) (struck c x) c (λ d. all_once d.steps ≡ true) (λ _. once_without c.steps x h) (λ _. h)

pub once_calls : (c : Contents) (ys : List Call) → all_once c.steps ≡ true → all_once (fold after_call c ys).steps ≡ true
once_calls c [] h = h
once_calls c (y ∷ ys) h = once_calls (after_call c y) ys (once_call c y h)
