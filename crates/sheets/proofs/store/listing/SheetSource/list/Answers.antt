-- Steps behind no other states are as they are.
use Rattle.std.proofs.Common.{subst}
use Rattle.lts.specs.Lists.{IsFilled}
use Rattle.sheets.specs.Held.{held}
use Rattle.sheets.specs.Listings.{process_of}
use Rattle.sheets.specs.SheetLimits.{sheet_limits}
use Rattle.sheets.proofs.Sides.{unmoved}
use Rattle.sheets.proofs.store.listing.SheetSource.list.Goals as goal

pub returns : goal.returns
returns c =
    let s = c.args.self.now in
    subst (IsFilled c.args.into.now c.list_behind.new.into) (unmoved (process_of (held s)) (sheet_limits s) c.args.state) c.list_behind.ensures
