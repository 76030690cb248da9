-- Where the prefixes differ they tell how the cuts stand.
use Rattle.std.proofs.Common.{inl, inr, sym, subst, ◌∙◌}
use Rattle.std.specs.declared.cmp.Ordering.TheVariants.{Less, Equal, Greater}
use Rattle.std.specs.Cmp.{ranked}
use Rattle.tsc_span.specs.Prefixes.{IsCutPrefix}
use Rattle.tsc_span.proofs.Prefixes.{below_reported, not_below_reported, not_its_prefix}
use Rattle.tsc_span.proofs.prefixed.PrefixedCut.is_above_prefix.Goals as goal

pub returns-in-Less : goal.returns-in-Less
returns-in-Less c =
    let own = subst (IsCutPrefix c.self.inside.prefix) c.self.view_is c.self.invariant in
    let less = ranked _ _ Less (sym c.in-Less.is ∙ c.compare.ensures) in (
      not_its_prefix c.self.inside.prefix c.args.prefix.now c.args.self.now own (inl less),
      λ d is. not_below_reported c.args.prefix.now c.self.inside.prefix d c.args.self.now is own
          less,
    )

pub returns-in-Equal : goal.returns-in-Equal
returns-in-Equal c =
    let own = subst (IsCutPrefix c.self.inside.prefix) c.self.view_is c.self.invariant in
    subst (λ n. IsCutPrefix n c.args.self.now)
    (ranked _ _ Equal (sym c.in-Equal.is ∙ c.compare.ensures)) own

pub returns-in-Greater : goal.returns-in-Greater
returns-in-Greater c =
    let own = subst (IsCutPrefix c.self.inside.prefix) c.self.view_is c.self.invariant in
    let greater = ranked _ _ Greater (sym c.in-Greater.is ∙ c.compare.ensures) in (
      not_its_prefix c.self.inside.prefix c.args.prefix.now c.args.self.now own (inr greater),
      λ d is. below_reported c.args.prefix.now c.self.inside.prefix d c.args.self.now is own
          greater,
    )
