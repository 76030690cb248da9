-- What is found among the lists is found among the nodes.
use Rattle.std.proofs.Common.{subst, List}
use Rattle.tsc_span.specs.Span.{KeyBytes}
use Rattle.tsc_page_nodes.specs.Nodes.{Node, IsFoundAt}
use Rattle.tsc_page_nodes.proofs.nodes.Nodes.find.Goals as goal

pub returns : goal.returns
returns c =
    let found = subst (λ (ns : List Node). IsFoundAt ns c.search.result.now c.find.result)
    c.lists.ensures c.find.ensures in
    subst (λ (k : KeyBytes). IsFoundAt c.args.self.now k c.find.result) c.search.ensures found
