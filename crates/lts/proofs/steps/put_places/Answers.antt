-- The proof of `put_places`.
use Rattle.std.proofs.Common.{ap, subst, arith, rules}
use Rattle.std.specs.List.{slice_get}
use Rattle.std.proofs.lemmas.Iterator.{YieldsList-from_range}
use Rattle.std.proofs.lemmas.Iterator.Consumers.{YieldsList-from_filter_map}
use Rattle.lts.specs.Lists.{IsFilled}
use Rattle.lts.proofs.Filled.{is_filled_by}
use Rattle.lts.proofs.Rest.{filter_map_places}
use Rattle.lts.proofs.steps.put_places.Goals as goal

pub returns : goal.returns
returns g c = λ xs h.
    let whole = filter_map_places (slice_get xs) xs 0 c.args.count h.long (λ k l. ap (slice_get xs) (omega arith)) in
    subst (IsFilled c.args.into.now c.put_all.new.into) whole
    (is_filled_by c.args.into.now c.put_all.new.into c.put_all.ensures
    (YieldsList-from_filter_map _ (slice_get xs) (YieldsList-from_range 0 c.args.count c.args.count c.filter_map.ensures.source (omega arith)) c.filter_map.ensures.closure (λ x r q k. (search rules, h.each x r (search rules)))))
