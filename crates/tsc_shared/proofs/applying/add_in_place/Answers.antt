-- Proves the contract of `add_in_place`. Adds to the standby copy in place, if the Adds that it
-- lacks brought no new page, nor does this one, and nobody else has a handle on it.
use Rattle.std.proofs.Common.{subst}
use Rattle.std.specs.Arc.{arc_value}
use Rattle.tsc_cache.specs.CacheView.{CacheView}
use Rattle.tsc_shared.specs.Applying.{IfMade, HasTaken}
use Rattle.tsc_shared.proofs.InPlace.{caught_none}
use Rattle.tsc_shared.proofs.applying.add_in_place.Goals as goal

pub returns-then-rotations-clause-left : goal.returns-then-rotations-clause-left
returns-then-rotations-clause-left c =
    caught_none c.args.lagging.now (arc_value c.args.standby.now)

pub returns-in-None-clause-left : goal.returns-in-None-clause-left
returns-in-None-clause-left c =
    caught_none c.args.lagging.now (arc_value c.args.standby.now)

pub returns-in-Some-clause-made : goal.returns-in-Some-clause-made
returns-in-Some-clause-made c =
    subst (λ (v : CacheView). IfMade c.add_to.result (HasTaken c.args.lagging.now v
    c.add_to.new.cache c.args.add.now c.add_to.new.lagging)) c.in-Some.ensures.value
    c.add_to.ensures.made
