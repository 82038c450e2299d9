-- The classes that a round has made so far, chained by the bucket of their hash. A link is 0 at the end, else one more than a class.
use Rattle.std.specs.Prelude.{◌≡◌, ℕ, suc, ◌%◌, ◌<◌, ◌≤◌, true, List, length, slice_index, slice_index_or}
use Rattle.lts.specs.Systems.{System}
use Rattle.lts.specs.Classes.{count_below, leader}
use Rattle.refine.specs.declared.classes.Class.{Class}
use Rattle.refine.specs.Codes.{coded, marked, weigh}

abbrev pub bucket : ℕ → ℕ
bucket hash = hash % 4096

abbrev pub class : ℕ → ℕ → ℕ → Class
class hash first next = record { hash = hash; first = first; next = next }

-- the hash, the first state and the link of the class c
abbrev pub hash_at : List Class → ℕ → ℕ
hash_at made c = (slice_index_or made c (class 0 0 0)).hash

abbrev pub first_at : List Class → ℕ → ℕ
first_at made c = (slice_index_or made c (class 0 0 0)).first

abbrev pub next_at : List Class → ℕ → ℕ
next_at made c = (slice_index_or made c (class 0 0 0)).next

-- What the classes are after the states below i, for the codes of the classes `old`: those of round n that have a state below i, in the order
-- in which they were met, each with its first state and the weight of that state's codes
pub record SoFar (S : System) (n : ℕ) (old : List ℕ) (i : ℕ) (made : List Class) : Type 0 where
  pub counted : length made ≡ count_below (leader S n) i
  pub before : (c : ℕ) → c < length made → first_at made c < i
  pub leading : (c : ℕ) → c < length made → leader S n (first_at made c) ≡ true
  pub number : (c : ℕ) → c < length made → count_below (leader S n) (first_at made c) ≡ c
  pub hashed : (c : ℕ) → c < length made → hash_at made c ≡ weigh (coded old (S.from (first_at made c))) 126720

-- each class stands in the chain of its bucket, and each chain goes down
pub record Chained (heads : List ℕ) (made : List Class) : Type 0 where
  pub head_low : (b : ℕ) → slice_index heads b ≤ length made
  pub head_own : (b c : ℕ) → b < 4096 → slice_index heads b ≡ suc c → bucket (hash_at made c) ≡ b
  pub head_all : (c : ℕ) → c < length made → c < slice_index heads (bucket (hash_at made c))
  pub next_low : (c : ℕ) → c < length made → next_at made c ≤ c
  pub next_own : (c e : ℕ) → c < length made → next_at made c ≡ suc e → bucket (hash_at made e) ≡ bucket (hash_at made c)
  pub next_all : (c e : ℕ) → c < length made → e < c → bucket (hash_at made e) ≡ bucket (hash_at made c) → e < next_at made c

-- the class c has the hash, and the steps of its first state are marked
pub record Fit (S : System) (class marks : List ℕ) (stamp hash : ℕ) (made : List Class) (c : ℕ) : Type 0 where
  pub there : c < length made
  pub same_hash : hash_at made c ≡ hash
  pub covers : marked class marks stamp (S.from (first_at made c)) ≡ true
