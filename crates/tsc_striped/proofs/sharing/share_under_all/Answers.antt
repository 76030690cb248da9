-- Proves the contract of `share_under_all`. Copies the caches of some stripes.
use Rattle.std.proofs.Common.{ap, arith, List, length}
use Rattle.tsc_cache.specs.CacheView.{CacheView}
use Rattle.tsc_striped.proofs.Batches.{stays_at_rest}
use Rattle.tsc_striped.proofs.Copied.{can_share, all_shared}
use Rattle.tsc_striped.proofs.sharing.share_under_all.Goals as goal

pub share_from-requires-clause-can : goal.share_from-requires-clause-can
share_from-requires-clause-can c = (
  can_share c.args.who.now.me c.args.first c.args.last c.requires.rest.1 c.requires.onward.0
      c.requires.onward.1,
  omega (arith, ap (λ (xs : List CacheView). length xs) c.in-Ok.ensures.0, c.in-Ok.ensures.1),
)

pub returns-in-Ok-share_from-clause-shared : goal.returns-in-Ok-share_from-clause-shared
returns-in-Ok-share_from-clause-shared c =
    all_shared c.args.who.now.me c.share_from.new.who.me c.args.first c.args.last
    c.in-Ok.copies.items c.share_from.new.copies.items c.requires.rest.1 c.in-Ok.ensures.0
    c.in-Ok-share_from.ensures.shared

pub returns-in-Err-clause-stopped : goal.returns-in-Err-clause-stopped
returns-in-Err-clause-stopped c =
    stays_at_rest c.args.who.now.me c.share_from.new.who.me c.requires.rest.1
    c.in-Err.ensures.stopped
