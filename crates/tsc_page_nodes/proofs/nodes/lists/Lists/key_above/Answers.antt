-- A key that stands at a place is one of the list.
use Rattle.std.proofs.Common.{subst, arith}
use Rattle.tsc_span.specs.Span.{after}
use Rattle.tsc_span.specs.Cuts.{cut_of}
use Rattle.tsc_page_nodes.specs.Nodes.{IsCutAt, StandsAt}
use Rattle.tsc_page_nodes.proofs.Apart.{long_as}
use Rattle.tsc_page_nodes.proofs.nodes.lists.Lists.key_above.Goals as goal

pub prove-unreachable-requires : goal.prove-unreachable-requires
prove-unreachable-requires c =
    let long = long_as c.self.inside.keys.now c.self.inside.values.now c.args.self.now
    c.self.invariant.same c.self.view_is in
    let lies : IsCutAt c.args.self.now (after c.in-Ok-After.field-0-1.now) c.args.index =
    subst (λ x. IsCutAt c.args.self.now (cut_of x) c.args.index) c.in-Ok-After.is-1
    c.requires in
    let stands : StandsAt c.args.self.now c.in-Ok-After.field-0-1.now c.in-Ok-After.at =
    subst (IsCutAt c.args.self.now (after c.in-Ok-After.field-0-1.now)) c.in-Ok-After.is-0
    lies in
    omega (arith, long, stands.bound, c.if-prove.true)
