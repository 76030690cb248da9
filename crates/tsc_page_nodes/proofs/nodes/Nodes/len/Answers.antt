-- There are as many nodes as values.
use Rattle.std.proofs.Common.{arith}
use Rattle.std.specs.Arc.{arc_value}
use Rattle.tsc_page_nodes.proofs.Apart.{long_as}
use Rattle.tsc_page_nodes.proofs.nodes.Nodes.len.Goals as goal

pub returns : goal.returns
returns c =
    let long = long_as (arc_value c.self.inside.keys).items c.self.inside.values.items
    c.args.self.now c.self.invariant.same c.self.view_is in
    omega (arith, long, c.self.invariant.same, c.len.ensures, c.self.inside.values.ok.0)
