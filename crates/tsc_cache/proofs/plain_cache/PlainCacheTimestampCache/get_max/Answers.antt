-- The pages answer together, and then the floor.
use Rattle.std.proofs.Common.{◌∙◌, ap, [], ◌∷◌}
use Rattle.tsc_time.specs.ValueView.{ValueView}
use Rattle.tsc_time.specs.Joint.{joint}
use Rattle.tsc_cache.specs.CacheView.{cache_answer}
use Rattle.tsc_cache.specs.CacheParts.{plain_pages_of}
use Rattle.tsc_cache.specs.Stacks.{pages_answer}
use Rattle.tsc_cache.proofs.StatesSeen.{answers_look, floor_last}
use Rattle.tsc_cache.proofs.plain_cache.PlainCacheTimestampCache.get_max.Goals as goal

pub returns-clause-value : goal.returns-clause-value
returns-clause-value c =
    c.ratchet.ensures.joint
    ∙ ap (λ (v : ValueView). joint v (c.unowned.result ∷ [])) c.lookup.ensures
    ∙ ap (λ (v : ValueView). joint
    (pages_answer (plain_pages_of c.self.inside.pages) c.args.span.now) (v ∷ []))
    c.unowned.ensures
    ∙ floor_last c.self.inside.floor c.args.span.now (plain_pages_of c.self.inside.pages)
    ∙ ap (λ v. cache_answer v c.args.span.now) c.self.view_is

pub returns-clause-stands : goal.returns-clause-stands
returns-clause-stands c config s stands = returns-clause-value c ∙
    answers_look c.args.self.now config s c.args.span.now stands
