-- A script of which the calls before an index are answered.
use Rattle.std.proofs.Common.{◌≡◌, ℕ, ◌+◌, ◌<◌, ◌≤◌, cond, List, [], ◌∷◌, ◌++◌, length, get_or, take, drop, set, is_ok, Some, Ok, fold, sym, ap, ◌∙◌, arith}
use Rattle.std.proofs.lemmas.List.{append-nil, append_assoc, take_all, take_more_set, drop-set-lt, at_drop_more, at_drop_all}
use Rattle.std.proofs.lemmas.Bool.{cond-true}
use Rattle.sheets.specs.declared.replays.Call.{Call}
use Rattle.sheets.specs.declared.replays.Entry.{Entry}
use Rattle.sheets.specs.Contents.{Contents, Answer}
use Rattle.sheets.specs.Tallies.{call_answer, after_call, answered, calls_of}

abbrev pub entry : Call → Answer → Entry
entry x r = record { call = x; answer = Some r }

-- the script as it comes out, and the contents, from contents c before the call at i
abbrev pub script_from : Contents → ℕ → List Entry → List Entry
script_from c i es = take i es ++ answered c (drop i es)

abbrev pub contents_from : Contents → ℕ → List Entry → Contents
contents_from c i es = fold after_call c (calls_of (drop i es))

module _ (c c' : Contents) (i : ℕ) (es : List Entry) (d : Entry) (r : Answer) (within : i < length es) where
  abbrev here : Call
  here = (get_or es i d).call

  abbrev next : List Entry
  next = set es i (entry here r)

  rest : drop (i + 1) next ≡ drop (i + 1) es
  rest = drop-set-lt (i + 1) es i (entry here r) (omega arith)

  pub script_more : r ≡ call_answer c here → c' ≡ after_call c here → script_from c' (i + 1) next ≡ script_from c i es
  script_more answer after =
      ap (λ l. l ++ answered c' (drop (i + 1) next)) (take_more_set es i (entry here r) within)
      ∙ append_assoc (take i es) (entry here r ∷ []) (answered c' (drop (i + 1) next))
      ∙ ap (λ l. take i es ++ entry here r ∷ answered c' l) rest
      ∙ ap (λ a. take i es ++ entry here a ∷ answered c' (drop (i + 1) es)) answer
      ∙ ap (λ b. take i es ++ entry here (call_answer c here) ∷ answered b (drop (i + 1) es)) after
      ∙ sym (ap (λ l. take i es ++ l) (at_drop_more (answered c) es i d within))

  pub contents_more : c' ≡ after_call c here → contents_from c' (i + 1) next ≡ contents_from c i es
  contents_more after =
      ap (λ l. fold after_call c' (calls_of l)) rest
      ∙ ap (λ b. fold after_call b (calls_of (drop (i + 1) es))) after
      ∙ sym (at_drop_more (λ l. fold after_call c (calls_of l)) es i d within)

module _ (c : Contents) (i : ℕ) (es : List Entry) (past : length es ≤ i) where
  pub script_end : script_from c i es ≡ es
  script_end =
      ap (λ l. take i es ++ l) (at_drop_all (answered c) es i past) ∙ append-nil (take i es) ∙ take_all i es past

  pub contents_end : contents_from c i es ≡ c
  contents_end = at_drop_all (λ l. fold after_call c (calls_of l)) es i past

-- what a replay leaves, where its sizes are accepted
pub where_made : {X : Type 0} (a : Answer) (x y z : X) → Ok tt ≡ a → z ≡ x → z ≡ cond (is_ok a) x y
where_made a x y z ok e = e ∙ sym (cond-true (is_ok a) x y (sym (ap is_ok ok)))
