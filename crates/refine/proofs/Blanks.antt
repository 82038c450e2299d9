-- Lists of one value, and memory that was lent whole.
use Rattle.std.proofs.Common.{◌≡◌, ℕ, List, ◌++◌, length, get_or, take, replicate, ap, ◌∙◌, inl, inr, arith}
use Rattle.std.proofs.lemmas.List.{get_or_past, get_or-replicate, length-replicate, take-append-le, take_all}
use Rattle.std.proofs.lemmas.Bool.{cases_lt}

pub all_same : {X : Type 0} (x : X) (n : ℕ) (xs : List X) → xs ≡ replicate n x → (k : ℕ) → get_or xs k x ≡ x
all_same {X} x n xs e k =
    ap (λ (ys : List X). get_or ys k x) e
    ∙ elim (cases_lt k n) [
      | inl l ↦ get_or-replicate n k x x l
      | inr l ↦ get_or_past (replicate n x) k x (omega (arith, length-replicate {A = X} n x))
    ]

-- memory that was lent whole
pub lent_whole : {X : Type 0} (len : ℕ) (xs ys : List X) → length xs ≡ len → take len (xs ++ ys) ≡ xs
lent_whole len xs ys e = take-append-le len xs ys (omega arith) ∙ take_all len xs (omega arith)
