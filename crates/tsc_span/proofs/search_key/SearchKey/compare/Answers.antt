-- Where the prefixes differ they tell how the keys stand, and else their bytes do.
use Rattle.std.proofs.Common.{rules, subst}
use Rattle.tsc_span.specs.Prefixes.{IsPrefixOf, IsCutPrefix}
use Rattle.tsc_span.proofs.Prefixes.{comparison_reported}
use Rattle.tsc_span.proofs.search_key.SearchKey.compare.Goals as goal

pub returns-in_default : goal.returns-in_default
returns-in_default c =
    let at = subst (IsCutPrefix c.prefix.result.now) c.self.invariant c.prefix.ensures in
    comparison_reported c.key.inside.prefix c.prefix.result.now c.args.key.now c.args.self.now
    c.compare.result (subst (IsPrefixOf c.key.inside.prefix) c.key.view_is c.key.invariant)
    (subst (IsPrefixOf c.prefix.result.now) c.self.view_is at) c.compare.ensures
    c.in_default.not-Equal

pub returns-in-Equal : goal.returns-in-Equal
returns-in-Equal c = search rules
