-- The tally of a list of calls: what a sheet should hold, by the sizes and the calls' arguments alone.
use Rattle.std.specs.Prelude.{◌≡◌, ℕ, ◌<◌, true, cond, ◌↔◌, List, [], ◌∷◌, map, is_ok, Some, Ok, fold, ◌≢◌}
use Rattle.std.specs.List.{slice_get}
use Rattle.sheets.specs.declared.transitions.Transition.{Transition}
use Rattle.sheets.specs.declared.replays.Call.{Call}
use Rattle.sheets.specs.declared.replays.Call.TheVariants.{Note, Strike}
use Rattle.sheets.specs.declared.replays.Entry.{Entry}
use Rattle.sheets.specs.Transitions.{has_transition, all_once}
use Rattle.sheets.specs.Contents.{Contents, contents_of, Answer, new_sheet_answer, note_answer, after_note, strike_answer, after_strike}

abbrev pub call_answer : Contents → Call → Answer
call_answer c (Note x) = note_answer c x
call_answer c (Strike x) = strike_answer c x

abbrev pub after_call : Contents → Call → Contents
after_call c (Note x) = after_note c x
after_call c (Strike x) = after_strike c x

-- from a new sheet of n states and k signals on
abbrev pub tally : ℕ → ℕ → List Call → Contents
tally n k calls = fold after_call (contents_of n k []) calls

-- what each call of a list is answered, from contents c on
abbrev pub answers : Contents → List Call → List Answer
answers c [] = []
answers c (x ∷ xs) = call_answer c x ∷ answers (after_call c x) xs

-- a script with its answers entered
abbrev pub answered : Contents → List Entry → List Entry
answered c [] = []
answered c (e ∷ es) = record { call = e.call; answer = Some (call_answer c e.call) } ∷ answered (after_call c e.call) es

abbrev pub calls_of : List Entry → List Call
calls_of es = map (λ (e : Entry). e.call) es

-- what a replay leaves of sheet and script; sizes out of limits leave both as they were
abbrev pub after_replay : Contents → ℕ → ℕ → List Entry → Contents
after_replay c n k es = cond (is_ok (new_sheet_answer n k)) (tally n k (calls_of es)) c

abbrev pub script_after : ℕ → ℕ → List Entry → List Entry
script_after n k es = cond (is_ok (new_sheet_answer n k)) (answered (contents_of n k []) es) es

-- A call of the list noted x and was carried out, and no later one that was carried out struck it
pub record Stands (n k : ℕ) (calls : List Call) (x : Transition) : Type 0 where
  pub place : ℕ
  pub noted : slice_get calls place ≡ Some (Note x)
  pub carried_out : slice_get (answers (contents_of n k []) calls) place ≡ Some (Ok tt)
  pub kept : (later : ℕ) → place < later → slice_get calls later ≡ Some (Strike x) →
      slice_get (answers (contents_of n k []) calls) later ≢ Some (Ok tt)

-- The law of a tally, in the users' words: a step is there just if the last call about it that was carried out noted it, none is there
-- twice, and they stand in the order of those notes
pub record TallyLaw (n k : ℕ) (calls : List Call) (steps : List Transition) : Type 0 where
  pub standing : (x : Transition) → (has_transition steps x ≡ true) ↔ Stands n k calls x
  pub once : all_once steps ≡ true
  pub in_order : (i j : ℕ) (x y : Transition) → i < j → slice_get steps i ≡ Some x → slice_get steps j ≡ Some y →
      (s : Stands n k calls x) (t : Stands n k calls y) → s.place < t.place
