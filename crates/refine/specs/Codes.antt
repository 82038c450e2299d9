-- A step's code, by which the steps with one label to one class go together; and the weight of a set of codes.
use Rattle.std.specs.Prelude.{ℕ, zero, suc, ◌+◌, ◌*◌, ◌/◌, ◌%◌, ◌^◌, ◌<◌, Bool, cond, List, length, get_or, bit_xor, nat_eq, slice_index, slice_index_or}
use Rattle.std.specs.List.{list_all, list_any}
use Rattle.lts.specs.declared.steps.Step.{Step}
use Rattle.lts.specs.Systems.{step}

-- the code of a step: its label, counted from where the codes of its target's class begin
abbrev pub code : List ℕ → Step → ℕ
code begins s = slice_index begins s.target + s.label

-- c is the code of one of the steps
unfoldable pub coded : List ℕ → List Step → ℕ → Bool
coded begins xs c = list_any (λ (s : Step). nat_eq (code begins s) c) xs

-- each step's code is marked with the stamp
unfoldable pub marked : List ℕ → List ℕ → ℕ → List Step → Bool
marked begins marks stamp xs = list_all (λ (s : Step). nat_eq (slice_index marks (code begins s)) stamp) xs

-- each step leads to a state that has a class, and its code is below a bound
abbrev pub Placed : List ℕ → ℕ → List Step → Type 0
Placed begins size xs =
    (k : ℕ) → k < length xs → ((get_or xs k (step 0 0)).target < length begins) × (code begins (slice_index_or xs k (step 0 0)) < size)

-- the weight of a code: positive, and scattered
unfoldable pub weight : ℕ → ℕ
weight c = let x : ℕ = c * 0x9E37_79B9_7F4A_7C15 % 2 ^ 64 in (bit_xor x (x / 2 ^ 32) * 0xD6E8_FEB8_6659_FD93 % 2 ^ 64) / 2 ^ 24 + 1

-- the weight of the codes below a bound that pass
unfoldable pub weigh : (ℕ → Bool) → ℕ → ℕ
weigh f zero = 0
weigh f (suc n) = cond (f n) (weight n) 0 + weigh f n
