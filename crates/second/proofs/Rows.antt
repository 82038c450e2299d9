-- Rows of flags, one of which is taken down.
use Rattle.std.proofs.Common.{◌≡◌, ℕ, zero, suc, ◌<◌, ◌≤◌, Bool, true, false, not, ◌&&◌, eqb, ltb, List, [], ◌∷◌, length, get_or, set, replicate, All, Vec, Some, Option, sym, refl, ap, ◌∙◌, inl, inr, arith}
use Rattle.std.specs.List.{slice_get}
use Rattle.std.specs.Option.{option_map, unwrap_or}
use Rattle.std.proofs.lemmas.List.{length-set, length-replicate, get_or-replicate, get_or-set_other, get_or_past}
use Rattle.std.proofs.lemmas.Bool.{cases_eq, cases_lt, eq-eqb, ne_eqb, lt-ltb, le-ltb}
use Rattle.std.proofs.lemmas.List.Elements.{All-head, All-tail}
use Rattle.std.proofs.lemmas.Option.{slice_get-get_or, slice_get_past}
use Rattle.std.proofs.lemmas.Grind.{get_or-set_at}
use Rattle.second.specs.Pairs.{flag}

and_true : (b : Bool) → b ≡ (b && true)
and_true true = refl
and_true false = refl

module _ {Z : Type 0} where
  abbrev at_rows : List (Vec Bool Z) → ℕ → ℕ → Bool
  at_rows rows a b = unwrap_or (option_map (λ row. flag row b) (slice_get rows a)) false

  abbrev read : Option (Vec Bool Z) → ℕ → Bool
  read o b = unwrap_or (option_map (λ row. flag row b) o) false

  pub past_rows : (rows : List (Vec Bool Z)) (a b : ℕ) → length rows ≤ a → at_rows rows a b ≡ false
  past_rows rows a b h = ap (λ o. read o b) (slice_get_past rows a h)

  -- a pair that no row has is taken out
  pub none_taken : (rows : List (Vec Bool Z)) (l r : ℕ) → length rows ≤ l → (a b : ℕ) → at_rows rows a b ≡ (at_rows rows a b && not (eqb a l && eqb b r))
  none_taken rows l r h a b = elim (cases_eq a l) [
    | inl e ↦ let out = past_rows rows a b (omega (arith, e)) in out ∙ ap (λ t. t && not (eqb a l && eqb b r)) (sym out)
    | inr d ↦ and_true (at_rows rows a b) ∙ ap (λ t. at_rows rows a b && not (t && eqb b r)) (sym (ne_eqb a l d))
  ]

  -- a flag of the row l is taken down
  module _ (rows : List (Vec Bool Z)) (l r : ℕ) (d new : Vec Bool Z) (within : l < length rows)
      (down : (q : ℕ) → flag new q ≡ (flag (get_or rows l d) q && not (eqb q r))) where
    pub one_taken : (a b : ℕ) → at_rows (set rows l new) a b ≡ (at_rows rows a b && not (eqb a l && eqb b r))
    one_taken a b = elim (cases_eq a l) [
      | inl e ↦
          let here = slice_get-get_or (set rows l new) a d (omega (arith, e, length-set rows l new)) in
          let was = slice_get-get_or rows a d (omega (arith, e)) in
          ap (λ o. read o b) here
          ∙ ap (λ row. flag row b) (get_or-set_at rows l a new d e within)
          ∙ down b
          ∙ ap (λ k. flag (get_or rows k d) b && not (eqb b r)) (sym e)
          ∙ ap (λ t. flag (get_or rows a d) b && not (t && eqb b r)) (sym (eq-eqb a l e))
          ∙ ap (λ o. read o b && not (eqb a l && eqb b r)) (sym was)
      | inr n ↦
          elim (cases_lt a (length rows)) [
            | inl h ↦
                let here = slice_get-get_or (set rows l new) a d (omega (arith, h, length-set rows l new)) in
                let was = slice_get-get_or rows a d h in
                ap (λ o. read o b) (here ∙ ap Some (get_or-set_other rows l a new d n) ∙ sym was)
            | inr h ↦ ap (λ o. read o b) (slice_get_past (set rows l new) a (omega (arith, h, length-set rows l new)) ∙ sym (slice_get_past rows a h))
          ]
          ∙ and_true (at_rows rows a b)
          ∙ ap (λ t. at_rows rows a b && not (t && eqb b r)) (sym (ne_eqb a l n))
    ]

  -- rows whose flags are all up
  pub all_up : (n : ℕ) (rows : List (Vec Bool Z)) → All (λ row. row.items ≡ replicate n true) rows → (a b : ℕ) → a < length rows →
      at_rows rows a b ≡ ltb b n
  all_up n [] h a b l = absurd (omega arith)
  all_up n (x ∷ xs) h zero b l =
      ap (λ ls. get_or ls b false) (All-head (λ row. row.items ≡ replicate n true) x xs h)
      ∙ elim (cases_lt b n) [
        | inl k ↦ get_or-replicate n b true false k ∙ sym (lt-ltb b n k)
        | inr k ↦ get_or_past (replicate n true) b false (omega (arith, k, length-replicate n true)) ∙ sym (le-ltb b n k)
      ]
  all_up n (x ∷ xs) h (suc a) b l = all_up n xs (All-tail (λ row. row.items ≡ replicate n true) x xs h) a b (omega arith)
