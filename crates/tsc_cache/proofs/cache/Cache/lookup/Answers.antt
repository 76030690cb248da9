-- The pages answer together, and then the floor.
use Rattle.std.proofs.Common.{◌∙◌, ap, subst, [], ◌∷◌}
use Rattle.tsc_time.specs.ValueView.{ValueView}
use Rattle.tsc_time.specs.Joint.{joint}
use Rattle.tsc_cache.specs.CacheView.{CacheView, cache_answer, LooksIntoViews}
use Rattle.tsc_cache.specs.CacheParts.{pages_of}
use Rattle.tsc_cache.specs.Stacks.{pages_answer}
use Rattle.tsc_cache.proofs.StatesSeen.{answers_look, floor_last, looks_into_pages}
use Rattle.tsc_cache.proofs.cache.Cache.lookup.Goals as goal

pub returns-clause-value : goal.returns-clause-value
returns-clause-value c =
    c.ratchet.ensures.joint
    ∙ ap (λ (v : ValueView). joint v (c.unowned.result ∷ [])) c.lookup-best.ensures.value
    ∙ ap (λ (v : ValueView). joint (pages_answer (pages_of c.self.inside.pages) c.args.span.now)
    (v ∷ [])) c.unowned.ensures
    ∙ floor_last c.self.inside.floor c.args.span.now (pages_of c.self.inside.pages)
    ∙ ap (λ v. cache_answer v c.args.span.now) c.self.view_is

pub returns-clause-stands : goal.returns-clause-stands
returns-clause-stands c config s stands = returns-clause-value c ∙
    answers_look c.args.self.now config s c.args.span.now stands

pub returns-clause-looked_into : goal.returns-clause-looked_into
returns-clause-looked_into c config s stands =
    looks_into_pages c.args.span.now c.args.self.now.pages s.pages c.lookup-best.result.1
    stands.pages
    (subst (λ (v : CacheView). LooksIntoViews c.args.span.now v.pages c.lookup-best.result.1)
    c.self.view_is c.lookup-best.ensures.looked)
