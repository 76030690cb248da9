-- Where the prefixes differ they tell how the cuts stand.
use Rattle.std.proofs.Common.{sym, subst, ◌∙◌}
use Rattle.std.specs.declared.cmp.Ordering.TheVariants.{Less, Greater}
use Rattle.std.specs.Cmp.{ranked}
use Rattle.tsc_span.specs.Span.{before}
use Rattle.tsc_span.specs.Prefixes.{IsPrefixOf, IsCutPrefix}
use Rattle.tsc_span.proofs.Prefixes.{below_reported, not_below_reported}
use Rattle.tsc_span.proofs.prefixed.PrefixedCut.is_above_before.Goals as goal

pub returns-in-Less : goal.returns-in-Less
returns-in-Less c = not_below_reported c.key.inside.prefix c.self.inside.prefix
    (before c.args.key.now) c.args.self.now
    (subst (IsPrefixOf c.key.inside.prefix) c.key.view_is c.key.invariant)
    (subst (IsCutPrefix c.self.inside.prefix) c.self.view_is c.self.invariant)
    (ranked _ _ Less (sym c.in-Less.is ∙ c.compare.ensures))

pub returns-in-Greater : goal.returns-in-Greater
returns-in-Greater c = below_reported c.key.inside.prefix c.self.inside.prefix
    (before c.args.key.now) c.args.self.now
    (subst (IsPrefixOf c.key.inside.prefix) c.key.view_is c.key.invariant)
    (subst (IsCutPrefix c.self.inside.prefix) c.self.view_is c.self.invariant)
    (ranked _ _ Greater (sym c.in-Greater.is ∙ c.compare.ensures))
