-- The last cut lies behind all keys, which are as many as the nodes.
use Rattle.std.proofs.Common.{sym, subst}
use Rattle.tsc_span.specs.Prefixes.{IsKeyAt}
use Rattle.tsc_page_nodes.proofs.Apart.{long_as}
use Rattle.tsc_page_nodes.proofs.Searches.{lies_at_key, lies_behind}
use Rattle.tsc_page_nodes.proofs.nodes.lists.Lists.find_cut.Goals as goal

pub returns-in_default : goal.returns-in_default
returns-in_default c =
    let keys = c.self.inside.keys.now in
    let long = long_as keys c.self.inside.values.now c.args.self.now c.self.invariant.same
    c.self.view_is in
    lies_behind c.args.self.now c.args.cut.now _
    (subst (IsKeyAt c.args.cut.now) c.in_default.is c.key.ensures) (sym long)

pub returns-in-Some-hint : goal.returns-in-Some-hint
returns-in-Some-hint c = lies_at_key c.args.self.now c.args.cut.now c.in-Some.key _
    c.in-Some.ensures (c.stands_at.ensures.0 c.if-stands_at.true)

pub returns-in_default-hint : goal.returns-in_default-hint
returns-in_default-hint c = lies_at_key c.args.self.now c.args.cut.now c.in-Some.key c.find.result
    c.in-Some.ensures c.find.ensures
