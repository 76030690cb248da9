-- As many pages stand for those of the state.
use Rattle.std.proofs.Common.{◌∙◌, ap, length}
use Rattle.tsc_cache.specs.CacheView.{CacheView}
use Rattle.tsc_cache.proofs.StatesSeen.{as_many}
use Rattle.tsc_cache.proofs.plain_cache.PlainCacheTimestampCache.pages.Goals as goal

pub returns-clause-stands : goal.returns-clause-stands
returns-clause-stands c config s stands =
    c.len.ensures ∙ ap (λ (v : CacheView). length v.pages) c.self.view_is ∙
    as_many c.args.self.now.pages s.pages stands.pages
