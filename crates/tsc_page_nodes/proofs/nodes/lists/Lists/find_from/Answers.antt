-- The keys looked at are below, so the first other one is the key, or stands above it.
use Rattle.std.proofs.Common.{◌≡◌, ◌∙◌, ℕ, sym, ap, subst, List, length, arith}
use Rattle.tsc_span.specs.Span.{KeyBytes, key_cmp}
use Rattle.tsc_page_nodes.specs.Nodes.{Node, FallsAt, IsSorted}
use Rattle.tsc_page_nodes.proofs.Indices.{some_node, falls_last}
use Rattle.tsc_page_nodes.proofs.Searches.{stands_here, smaller_here, greater_here}
use Rattle.tsc_page_nodes.proofs.Apart.{key_at, long_as}
use Rattle.tsc_page_nodes.proofs.nodes.lists.Lists.find_from.Goals as goal

pub returns-in-Equal : goal.returns-in-Equal
returns-in-Equal c =
    let nodes : List Node = c.args.self.now in
    let k : KeyBytes = c.args.key.now in
    let i : ℕ = c.loop-i.i in
    let is = key_at c.self.inside.keys.now c.self.inside.values.now nodes c.self.invariant.same
    c.self.view_is i some_node c.index-self-i.result c.loop-i-test.true in
    let long = long_as c.self.inside.keys.now c.self.inside.values.now nodes c.self.invariant.same
    c.self.view_is in
    stands_here nodes k i some_node (omega (arith, long, c.loop-i-test.true))
    (ap (λ (m : KeyBytes). key_cmp m k) is ∙ sym c.compare.ensures ∙ c.in-Equal.is)

pub returns-in-Greater : goal.returns-in-Greater
returns-in-Greater c =
    let nodes : List Node = c.args.self.now in
    let k : KeyBytes = c.args.key.now in
    let i : ℕ = c.loop-i.i in
    let is = key_at c.self.inside.keys.now c.self.inside.values.now nodes c.self.invariant.same
    c.self.view_is i some_node c.index-self-i.result c.loop-i-test.true in
    let long = long_as c.self.inside.keys.now c.self.inside.values.now nodes c.self.invariant.same
    c.self.view_is in
    greater_here nodes (subst IsSorted c.self.view_is c.self.invariant.sorted) k i some_node c.loop-i.invariant
    (omega (arith, long, c.loop-i-test.true))
    (ap (λ (m : KeyBytes). key_cmp m k) is ∙ sym c.compare.ensures ∙ c.in-Greater.is)

pub loop-i-preserved : goal.loop-i-preserved
loop-i-preserved c =
    let nodes : List Node = c.args.self.now in
    let k : KeyBytes = c.args.key.now in
    let i : ℕ = c.loop-i.i in
    let is = key_at c.self.inside.keys.now c.self.inside.values.now nodes c.self.invariant.same
    c.self.view_is i some_node c.index-self-i.result c.loop-i-test.true in
    let long = long_as c.self.inside.keys.now c.self.inside.values.now nodes c.self.invariant.same
    c.self.view_is in
    smaller_here nodes (subst IsSorted c.self.view_is c.self.invariant.sorted) k i some_node (omega (arith, long, c.loop-i-test.true))
    (ap (λ (m : KeyBytes). key_cmp m k) is ∙ sym c.compare.ensures ∙ c.in-Less.is)

pub returns : goal.returns
returns c =
    let nodes : List Node = c.args.self.now in
    let long = long_as c.self.inside.keys.now c.self.inside.values.now nodes c.self.invariant.same
    c.self.view_is in
    let end : c.loop-i.i ≡ length c.self.inside.keys.now =
    omega (arith, long, c.loop-i-test.false, c.loop-i.invariant.bound) in
    subst (FallsAt nodes c.args.key.now) end
    (falls_last nodes (subst IsSorted c.self.view_is c.self.invariant.sorted) c.args.key.now c.loop-i.i c.loop-i.invariant
    (omega (arith, long, c.loop-i-test.false)))
