-- Which steps are on the sheet after a call.
use Rattle.std.proofs.Common.{◌≡◌, ℕ, true, false, ◌||◌, ◌⊎◌, ◌↔◌, [], ◌∷◌, ◌++◌, is_ok as isOk, Ok, Err, sym, refl, ap, ◌∙◌, inl, inr, ⊎_elim, arith}
use Rattle.std.proofs.lemmas.Bool.{both_ways, or_left, cond-true, cond_both, cases_Bool}
use Rattle.sheets.specs.declared.transitions.Transition.{Transition}
use Rattle.sheets.specs.declared.replays.Call.{Call}
use Rattle.sheets.specs.declared.replays.Call.TheVariants.{Note, Strike}
use Rattle.sheets.specs.Transitions.{same_transition, has_transition, all_once, without}
use Rattle.sheets.specs.Contents.{Contents, Answer, note_answer, strike_answer}
use Rattle.sheets.specs.Tallies.{call_answer, after_call}
use Rattle.sheets.proofs.Places.{same_refl, same_is, has_push_cases, has_append, has_last}
use Rattle.sheets.proofs.Without.{has_without_other}
use Rattle.sheets.proofs.Once.{gone}
use Rattle.sheets.proofs.Calls.{noted, struck}

is_ok : (a : Answer) → isOk a ≡ true → a ≡ Ok tt
is_ok (Ok u) h = refl
is_ok (Err e) h = absurd (both_ways false refl h)

note_not_strike : (x z : Transition) → Note z ≡ Strike x → ⊥
note_not_strike x z e = let bad : ◌≡◌ {A = ℕ} 0 1 = cc in omega arith

strike_other : (x z : Transition) → same_transition z x ≡ false → Strike z ≡ Strike x → ⊥
strike_other x z f e =
    let same : z ≡ x = cc in
    both_ways (same_transition z x) f (ap (same_transition z) (sym same) ∙ same_refl z)

-- x was noted by the call, or was there before and the call did not strike it
abbrev pub Stays : Contents → Call → Transition → Type 0
Stays c y x =
    ((y ≡ Note x) × (call_answer c y ≡ Ok tt)) ⊎ ((has_transition c.steps x ≡ true) × (y ≡ Strike x → call_answer c y ≡ Ok tt → ⊥))

module _ (c : Contents) (z x : Transition) (once : all_once c.steps ≡ true) where
  after_strike_there : has_transition (without c.steps z) x ≡ true → Stays c (Strike z) x
  after_strike_there h =
      ⊎_elim
      (λ t. absurd
      (both_ways (has_transition (without c.steps z) x)
      (ap (has_transition (without c.steps z)) (sym (same_is z x t)) ∙ gone c.steps z once) h))
      (λ f. inr (sym (has_without_other c.steps z x f) ∙ h, λ e _. strike_other x z f e))
      (cases_Bool (same_transition z x))

stays_if_there : (c : Contents) (y : Call) (x : Transition) → all_once c.steps ≡ true →
    has_transition (after_call c y).steps x ≡ true → Stays c y x
stays_if_there c (Note z) x s =
    cond_both (isOk (note_answer c z)) (noted c z) c (λ d. has_transition d.steps x ≡ true → Stays c (Note z) x)
    (λ ok h. ⊎_elim (λ old. inr (old, λ e _. note_not_strike x z e)) (λ e. inl (ap Note e, is_ok (note_answer c z) ok))
    (has_push_cases c.steps z x h))
    (λ _ h. inr (h, λ e _. note_not_strike x z e))
stays_if_there c (Strike z) x s =
    cond_both (isOk (strike_answer c z)) (struck c z) c (λ d. has_transition d.steps x ≡ true → Stays c (Strike z) x)
    (λ _ h. after_strike_there c z x s h) (λ refused h. inr (h, λ _ ok. both_ways (isOk (strike_answer c z)) refused (ap isOk ok)))

there_if_stays : (c : Contents) (y : Call) (x : Transition) → Stays c y x → has_transition (after_call c y).steps x ≡ true
there_if_stays c (Note z) x (inl (e, ok)) =
    let same : z ≡ x = cc in
    ap (λ d. has_transition d.steps x) (cond-true (isOk (note_answer c z)) (noted c z) c (ap isOk ok))
    ∙ ap (λ w. has_transition (c.steps ++ w ∷ []) x) same ∙ has_last c.steps x
there_if_stays c (Note z) x (inr (h, ne)) =
    cond_both (isOk (note_answer c z)) (noted c z) c (λ d. has_transition d.steps x ≡ true)
    (λ _. has_append c.steps (z ∷ []) x ∙ or_left (has_transition c.steps x) (same_transition z x || false) h) (λ _. h)
there_if_stays c (Strike z) x (inl (e, ok)) = absurd (note_not_strike z x (sym e))
there_if_stays c (Strike z) x (inr (h, ne)) =
    cond_both (isOk (strike_answer c z)) (struck c z) c (λ d. has_transition d.steps x ≡ true)
    (λ ok. ⊎_elim (λ t. absurd (ne (ap Strike (same_is z x t)) (is_ok (strike_answer c z) ok)))
    (λ f. has_without_other c.steps z x f ∙ h)
    (cases_Bool (same_transition z x)))
    (λ _. h)

pub call_stays : (c : Contents) (y : Call) (x : Transition) → all_once c.steps ≡ true →
    (has_transition (after_call c y).steps x ≡ true) ↔ Stays c y x
call_stays c y x s = (stays_if_there c y x s, there_if_stays c y x)
