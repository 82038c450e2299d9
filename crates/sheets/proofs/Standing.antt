-- A step is on the sheet just if the last call about it that was carried out noted it.
use Rattle.std.proofs.Common.{◌≡◌, ℕ, ◌<◌, true, false, ◌⊎◌, ◌↔◌, List, [], ◌∷◌, ◌++◌, length, Some, Ok, fold, sym, refl, ap, ◌∙◌, inl, inr, ⊎_elim, arith}
use Rattle.std.specs.List.{slice_get}
use Rattle.std.proofs.iter.runs.Lists.{none-some, nth_seam}
use Rattle.std.proofs.lemmas.List.Sums.{fold_push}
use Rattle.std.proofs.lemmas.Bool.{both_ways}
use Rattle.sheets.specs.declared.transitions.Transition.{Transition}
use Rattle.sheets.specs.declared.replays.Call.{Call}
use Rattle.sheets.specs.declared.replays.Call.TheVariants.{Note, Strike}
use Rattle.sheets.specs.Transitions.{has_transition}
use Rattle.sheets.specs.Contents.{Contents, contents_of, Answer}
use Rattle.sheets.specs.Tallies.{call_answer, after_call, tally, answers, Stands}
use Rattle.sheets.proofs.Calls.{once_calls}
use Rattle.sheets.proofs.Stays.{call_stays}
use Rattle.sheets.proofs.Pushes.{by_push, nth_push_cases, nth_keeps}

answers_push : (c : Contents) (xs : List Call) (y : Call) →
    answers c (xs ++ y ∷ []) ≡ answers c xs ++ call_answer (fold after_call c xs) y ∷ []
answers_push c [] y = refl
answers_push c (x ∷ xs) y = ap (λ l. call_answer c x ∷ l) (answers_push (after_call c x) xs y)

length_answers : (c : Contents) (xs : List Call) → length (answers c xs) ≡ length xs
length_answers c [] = refl
length_answers c (x ∷ xs) = omega (arith, length_answers (after_call c x) xs)

module _ (n k : ℕ) (xs : List Call) (y : Call) where
  abbrev start : Contents
  start = contents_of n k []

  abbrev before : List Answer
  before = answers start xs

  abbrev answer : Answer
  answer = call_answer (tally n k xs) y

  said : (i : ℕ) (a : Answer) → slice_get before i ≡ Some a → slice_get (answers start (xs ++ y ∷ [])) i ≡ Some a
  said i a e = ap (λ l. slice_get l i) (answers_push start xs y) ∙ nth_keeps before (answer ∷ []) i a e

  said_last : slice_get (answers start (xs ++ y ∷ [])) (length xs) ≡ Some answer
  said_last =
      ap (λ l. slice_get l (length xs)) (answers_push start xs y) ∙ ap (slice_get (before ++ answer ∷ [])) (sym (length_answers start xs))
      ∙ nth_seam before answer

  -- a call z that was answered a is one of those before, or the last
  call_cases : (i : ℕ) (z : Call) (a : Answer) → slice_get (xs ++ y ∷ []) i ≡ Some z → slice_get (answers start (xs ++ y ∷ [])) i ≡ Some a →
      ((i < length xs) × (slice_get xs i ≡ Some z) × (slice_get before i ≡ Some a)) ⊎ ((i ≡ length xs) × (y ≡ z) × (answer ≡ a))
  call_cases i z a e f =
      let heard = nth_push_cases before answer i a (ap (λ l. slice_get l i) (sym (answers_push start xs y)) ∙ f) in
      let long = length_answers start xs in
      ⊎_elim (λ h. ⊎_elim (λ g. inl (h.0, h.1, g.1)) (λ g. absurd (omega (arith, h.0, g.0))) heard)
      (λ h. ⊎_elim (λ g. absurd (omega (arith, h.0, g.0))) (λ g. inr (h.0, h.1, g.1)) heard)
      (nth_push_cases xs y i z e)

  module _ (x : Transition) where
    -- as `Stays`, with `Stands` for what was there before
    abbrev StillStands : Type 0
    StillStands = ((y ≡ Note x) × (answer ≡ Ok tt)) ⊎ (Stands n k xs x × (y ≡ Strike x → answer ≡ Ok tt → ⊥))

    stands_after : StillStands → Stands n k (xs ++ y ∷ []) x
    stands_after (inl (e, ok)) = record {
      place = length xs;
      noted = nth_seam xs y ∙ ap Some e;
      carried_out = said_last ∙ ap Some ok;
      kept = λ later l e f. ⊎_elim (λ h. omega (arith, h.0)) (λ h. omega (arith, h.0)) (call_cases later (Strike x) (Ok tt) e f);
    }
    stands_after (inr (s, ne)) = record {
      place = s.place;
      noted = nth_keeps xs (y ∷ []) s.place (Note x) s.noted;
      carried_out = said s.place (Ok tt) s.carried_out;
      kept = λ later l e f.
          ⊎_elim (λ h. s.kept later l h.1 h.2) (λ h. ne h.1 h.2) (call_cases later (Strike x) (Ok tt) e f);
    }

    -- it was noted last, or stood before, with the same place
    pub stands_before : (s : Stands n k (xs ++ y ∷ []) x) →
        ((s.place ≡ length xs) × (y ≡ Note x) × (answer ≡ Ok tt))
        ⊎ ((t : Stands n k xs x) × (t.place ≡ s.place) × (y ≡ Strike x → answer ≡ Ok tt → ⊥))
    stands_before s =
        ⊎_elim
        (λ h. inr (
          record {
            place = s.place;
            noted = h.1;
            carried_out = h.2;
            kept = λ later l e f. s.kept later l (nth_keeps xs (y ∷ []) later (Strike x) e) (said later (Ok tt) f);
          },
          refl,
          λ e ok. s.kept (length xs) h.0 (nth_seam xs y ∙ ap Some e) (said_last ∙ ap Some ok),
        ))
        inl (call_cases s.place (Note x) (Ok tt) s.noted s.carried_out)

    stands_push : ((has_transition (tally n k xs).steps x ≡ true) ↔ Stands n k xs x) →
        (has_transition (tally n k (xs ++ y ∷ [])).steps x ≡ true) ↔ Stands n k (xs ++ y ∷ []) x
    stands_push so_far =
        let now = call_stays (tally n k xs) y x (once_calls start xs refl) in
        let is = ap (λ (c : Contents). has_transition c.steps x) (fold_push after_call start xs y) in (
          λ h. stands_after (⊎_elim inl (λ e. inr (so_far.0 e.0, e.1)) (now.0 (sym is ∙ h))),
          λ s. is ∙ now.1 (⊎_elim (λ e. inl (e.1, e.2)) (λ e. inr (so_far.1 e.0, e.2)) (stands_before s)),
        )

pub standing : (n k : ℕ) (calls : List Call) (x : Transition) → (has_transition (tally n k calls).steps x ≡ true) ↔ Stands n k calls x
standing n k calls x =
    by_push (λ l. (has_transition (tally n k l).steps x ≡ true) ↔ Stands n k l x)
    ((λ h. absurd (both_ways false refl h)), (λ s. absurd (none-some (Note x) s.noted)))
    (λ xs y h. stands_push n k xs y x h) calls
