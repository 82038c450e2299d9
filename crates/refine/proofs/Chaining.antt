-- Chains: none, one class more, and a walk down one.
use Rattle.std.proofs.Common.{◌≡◌, ℕ, suc, ◌+◌, ◌<◌, ◌≤◌, List, [], ◌∷◌, ◌++◌, length, get_or, set, sym, refl, ap, ◌∙◌, subst, inl, inr, arith}
use Rattle.std.proofs.lemmas.List.{get_or-set_same, get_or-set_other, get_or_append_left, get_or_push, get_or_read_under, length_push}
use Rattle.std.proofs.lemmas.Bool.{cases_eq, cases_lt}
use Rattle.lts.specs.Systems.{System}
use Rattle.refine.specs.declared.classes.Class.{Class}
use Rattle.refine.specs.Chains.{bucket, class, hash_at, next_at, Chained, Fit}

pub unlinked : (heads : List ℕ) (made : List Class) → made ≡ [] → ((b : ℕ) → get_or heads b 0 ≡ 0) → Chained heads made
unlinked heads made e z =
    let none : length made ≡ 0 = ap length e in record {
      head_low = λ b. omega (arith, z b);
      head_own = λ b c l h. absurd (omega (arith, z b, h));
      head_all = λ c l. absurd (omega (arith, l, none));
      next_low = λ c l. absurd (omega (arith, l, none));
      next_own = λ c e l. absurd (omega (arith, l, none));
      next_all = λ c e l. absurd (omega (arith, l, none));
    }

-- what a read of the list of classes gives
pub read_class : (made : List Class) (k : ℕ) (x : Class) → x ≡ get_or made k x → k < length made → x ≡ get_or made k (class 0 0 0)
read_class made k x e l = get_or_read_under made k (length made) x (class 0 0 0) e l refl

-- a class more, at the front of the chain of its bucket
module _ (heads : List ℕ) (made : List Class) (hash first : ℕ) (lb : bucket hash < length heads) (ch : Chained heads made) where
  abbrev heads' : List ℕ
  heads' = set heads (bucket hash) (length made + 1)

  abbrev made' : List Class
  made' = made ++ class hash first (get_or heads (bucket hash) 0) ∷ []

  long : length made' ≡ length made + 1
  long = length_push made (class hash first (get_or heads (bucket hash) 0))

  head_same : (x : ℕ) → x ≡ bucket hash → get_or heads' x 0 ≡ length made + 1
  head_same x e = ap (λ i. get_or heads' i 0) e ∙ get_or-set_same heads (bucket hash) (length made + 1) 0 lb

  head_other : (x : ℕ) → (x ≡ bucket hash → ⊥) → get_or heads' x 0 ≡ get_or heads x 0
  head_other x h = get_or-set_other heads (bucket hash) x (length made + 1) 0 h

  class_same : (c : ℕ) → c ≡ length made → get_or made' c (class 0 0 0) ≡ class hash first (get_or heads (bucket hash) 0)
  class_same c e = get_or_push made (class hash first (get_or heads (bucket hash) 0)) (class 0 0 0) c (sym e)

  class_other : (c : ℕ) → c < length made → get_or made' c (class 0 0 0) ≡ get_or made c (class 0 0 0)
  class_other c l = get_or_append_left made (class hash first (get_or heads (bucket hash) 0) ∷ []) (class 0 0 0) c l

  hash_same : (c : ℕ) → c ≡ length made → bucket (hash_at made' c) ≡ bucket hash
  hash_same c e = ap (λ (k : Class). bucket k.hash) (class_same c e)

  hash_other : (c : ℕ) → c < length made → bucket (hash_at made' c) ≡ bucket (hash_at made c)
  hash_other c l = ap (λ (k : Class). bucket k.hash) (class_other c l)

  next_same : (c : ℕ) → c ≡ length made → next_at made' c ≡ get_or heads (bucket hash) 0
  next_same c e = ap (λ (k : Class). k.next) (class_same c e)

  next_other : (c : ℕ) → c < length made → next_at made' c ≡ next_at made c
  next_other c l = ap (λ (k : Class). k.next) (class_other c l)

  low : (x : ℕ) → get_or heads' x 0 ≤ length made'
  low x = elim (cases_eq x (bucket hash)) [
    | inl e ↦ omega (arith, head_same x e, long)
    | inr n ↦ omega (arith, head_other x n, ch.head_low x, long)
  ]

  own : (x c : ℕ) → x < 4096 → get_or heads' x 0 ≡ suc c → bucket (hash_at made' c) ≡ x
  own x c l e = elim (cases_eq x (bucket hash)) [
    | inl s ↦ hash_same c (omega (arith, e, head_same x s)) ∙ sym s
    | inr n ↦
        let f : get_or heads x 0 ≡ suc c = sym (head_other x n) ∙ e in
        hash_other c (omega (arith, f, ch.head_low x)) ∙ ch.head_own x c l f
  ]

  all : (c : ℕ) → c < length made' → c < get_or heads' (bucket (hash_at made' c)) 0
  all c l = elim (cases_eq c (length made)) [
    | inl s ↦ omega (arith, head_same (bucket (hash_at made' c)) (hash_same c s), s)
    | inr n ↦
        let m : c < length made = omega (arith, l, long, n) in
        let t = hash_other c m in
        elim (cases_eq (bucket (hash_at made c)) (bucket hash)) [
          | inl s ↦ omega (arith, head_same (bucket (hash_at made' c)) (t ∙ s), m)
          | inr d ↦
              omega (arith, head_other (bucket (hash_at made' c)) (λ z. d (sym t ∙ z)), ap (λ i. get_or heads i 0) t, ch.head_all c m)
        ]
  ]

  nlow : (c : ℕ) → c < length made' → next_at made' c ≤ c
  nlow c l = elim (cases_eq c (length made)) [
    | inl s ↦ omega (arith, next_same c s, ch.head_low (bucket hash), s)
    | inr n ↦ let m : c < length made = omega (arith, l, long, n) in omega (arith, next_other c m, ch.next_low c m)
  ]

  nown : bucket hash < 4096 → (c e : ℕ) → c < length made' → next_at made' c ≡ suc e → bucket (hash_at made' e) ≡ bucket (hash_at made' c)
  nown small c e l q = elim (cases_eq c (length made)) [
    | inl s ↦
        let f : get_or heads (bucket hash) 0 ≡ suc e = sym (next_same c s) ∙ q in
        hash_other e (omega (arith, f, ch.head_low (bucket hash))) ∙ ch.head_own (bucket hash) e small f ∙ sym (hash_same c s)
    | inr n ↦
        let m : c < length made = omega (arith, l, long, n) in
        let f : next_at made c ≡ suc e = sym (next_other c m) ∙ q in
        hash_other e (omega (arith, f, ch.next_low c m, m)) ∙ ch.next_own c e m f ∙ sym (hash_other c m)
  ]

  nall : (c e : ℕ) → c < length made' → e < c → bucket (hash_at made' e) ≡ bucket (hash_at made' c) → e < next_at made' c
  nall c e l d q = elim (cases_eq c (length made)) [
    | inl s ↦
        let m : e < length made = omega (arith, d, s) in
        let f : bucket (hash_at made e) ≡ bucket hash = sym (hash_other e m) ∙ q ∙ hash_same c s in
        omega (arith, next_same c s, ap (λ i. get_or heads i 0) f, ch.head_all e m)
    | inr n ↦
        let m : c < length made = omega (arith, l, long, n) in
        let k : e < length made = omega (arith, m, d) in
        omega (arith, next_other c m, ch.next_all c e m d (sym (hash_other e k) ∙ q ∙ hash_other c m))
  ]

  pub linked : bucket hash < 4096 → Chained heads' made'
  linked small = record { head_low = low; head_own = own; head_all = all; next_low = nlow; next_own = nown small; next_all = nall }

-- ---- a walk

-- no class from the link on has the hash and fits
abbrev pub LeftOut : System → List ℕ → List ℕ → ℕ → ℕ → List Class → ℕ → Type 0
LeftOut S class marks stamp hash made link = (c : ℕ) → link ≤ c → Fit S class marks stamp hash made c → ⊥

module _ (S : System) (class marks : List ℕ) (stamp hash : ℕ) (heads : List ℕ) (made : List Class) (ch : Chained heads made) where
  pub walk_more : (c link : ℕ) → c < length made → link ≡ next_at made c → bucket (hash_at made c) ≡ bucket hash →
      (Fit S class marks stamp hash made c → ⊥) → LeftOut S class marks stamp hash made (c + 1) → LeftOut S class marks stamp hash made link
  walk_more c link lc e mine unfit rest x l f = elim (cases_eq x c) [
    | inl s ↦ unfit (subst (λ (y : ℕ). Fit S class marks stamp hash made y) s f)
    | inr n ↦ elim (cases_lt x c) [
      | inl m ↦ omega (arith, ch.next_all c x lc m (ap bucket f.same_hash ∙ sym mine))
      | inr m ↦ rest x (omega arith) f
    ]
  ]
