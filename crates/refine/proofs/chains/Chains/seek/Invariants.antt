-- What the walk keeps from link to link.
use Rattle.std.proofs.Common.{◌≡◌, ℕ, suc, ◌≤◌, length, vec_items}
use Rattle.refine.specs.Rankings.{ranked_system}
use Rattle.refine.specs.Chains.{bucket, hash_at}
use Rattle.refine.proofs.Chaining.{LeftOut}
use Rattle.refine.proofs.chains.Chains.seek.Given as goal

-- the link is in the hash's chain, and no class from it on fits
abbrev pub invariant-loop-link : goal.invariant-loop-link
invariant-loop-link l =
    (l.link ≤ length (vec_items l.self.made))
    × ((c : ℕ) → l.link ≡ suc c → bucket (hash_at (vec_items l.self.made) c) ≡ bucket l.hash)
    × LeftOut (ranked_system l.ranking) l.ranking.begins.now (vec_items l.marks.stamps) l.marks.last l.hash (vec_items l.self.made) l.link

abbrev pub decreases-loop-link : goal.decreases-loop-link
decreases-loop-link l = l.link
