-- Proves the contract of `add_under_all`. Adds a batch under the locks of all stripes on which it
-- lies.
use Rattle.std.proofs.Common.{ap, arith, List, length}
use Rattle.tsc_cache.specs.CacheView.{CacheView}
use Rattle.tsc_striped.proofs.Batches.{can_add, all_if_added, same_if_stopped}
use Rattle.tsc_striped.proofs.wide_adds.add_under_all.Goals as goal

pub add_from-requires-clause-can : goal.add_from-requires-clause-can
add_from-requires-clause-can g c = (
  can_add c.args.who.now.me c.args.batch.now c.requires.rest.1 c.requires.can.0,
  omega (arith, ap (λ (xs : List CacheView). length xs) c.in-Ok.ensures.0, c.in-Ok.ensures.1),
  c.requires.can.1,
)

pub returns-clause-added : goal.returns-clause-added
returns-clause-added g c =
    all_if_added c.args.who.now.me c.add_from.new.who.me c.args.batch.now c.add_from.result _
    c.requires.rest.1 c.requires.can.0.cut c.add_from.ensures.added

pub returns-clause-stopped : goal.returns-clause-stopped
returns-clause-stopped g c =
    same_if_stopped c.args.who.now.me c.add_from.new.who.me c.add_from.result _
    c.requires.rest.1 c.add_from.ensures.stopped
