-- The class stands at the front of its chain.
use Rattle.std.proofs.Common.{◌≡◌, ℕ, ◌+◌, ◌<◌, List, [], ◌∷◌, ◌++◌, length, get_or, set, vec_items, sym, refl, ap, ◌∙◌, subst₂, arith}
use Rattle.std.proofs.lemmas.List.{get_or_read_under}
use Rattle.refine.specs.declared.classes.Class.{Class}
use Rattle.refine.specs.Chains.{bucket, class, Chained}
use Rattle.refine.proofs.Chaining.{linked}
use Rattle.refine.proofs.chains.Chains.add.Goals as goal

pub invariant_of-self : goal.invariant_of-self
invariant_of-self c =
    let t = c.args.self.now in
    let heads : List ℕ = vec_items t.heads in
    let made : List Class = vec_items t.made in
    let hash : ℕ = c.args.hash in
    let first : ℕ = c.args.first in
    let b : c.bucket-b.result ≡ bucket hash = c.bucket-b.ensures.value in
    let count : c.len-number.result ≡ length made = omega (arith, c.len-number.ensures, t.made.ok.0) in
    let next : c.index-next.result.now ≡ get_or heads (bucket hash) 0 =
    get_or_read_under heads c.bucket-b.result (length heads) c.index-next.result.now 0 c.index-next.ensures (omega (arith, c.bucket-b.ensures.small, t.buckets, t.heads.ok.0)) refl ∙ ap (λ (i : ℕ). get_or heads i 0) b in
    let more : vec_items c.push_reserved.new.self ≡ made ++ class hash first (get_or heads (bucket hash) 0) ∷ [] =
    c.push_reserved.ensures.items ∙ ap (λ (n : ℕ). made ++ class hash first n ∷ []) next in
    let inside : bucket hash < length heads = omega (arith, c.bucket-b.ensures.small, b, t.buckets, t.heads.ok.0) in record {
      buckets = t.buckets;
      room = omega (arith, t.room, c.push_reserved.ensures.capacity);
      chained = subst₂ (λ (hs : List ℕ) (ms : List Class). Chained hs ms)
          (sym (ap (λ (i : ℕ). set heads i (c.len-number.result + 1)) b ∙ ap (λ (k : ℕ). set heads (bucket hash) (k + 1)) count))
          (sym more)
          (linked heads made hash first inside t.chained (omega (arith, c.bucket-b.ensures.small, b)));
    }
