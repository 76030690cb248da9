-- The lazy value is raised in all subtrees.
use Rattle.std.proofs.Common.{◌∙◌, sym, ap, map}
use Rattle.std.specs.Prelude.{Option}
use Rattle.tsc_time.specs.ValueView.{ValueView}
use Rattle.tsc_page_tree.specs.Leaves.{nodes_of}
use Rattle.tsc_page_tree.specs.Lazy.{with_lazy}
use Rattle.tsc_page_tree.proofs.branch.push_down.Goals as goal

pub returns-in-Some-clause-nodes : goal.returns-in-Some-clause-nodes
returns-in-Some-clause-nodes g c = c.raise_all.ensures.raised ∙
    ap (λ (o : Option ValueView). with_lazy o (nodes_of (map g.P.Subtree.nodes
    c.args.subtrees.now)))
    (sym c.in-Some.is)
