-- The root answers it.
use Rattle.std.proofs.Common.{◌≡◌, ◌∙◌, ap, rules}
use Rattle.tsc_span.specs.Span.{between}
use Rattle.tsc_span.specs.Cuts.{cut_of}
use Rattle.tsc_page_nodes.specs.Nodes.{answer_of}
use Rattle.tsc_page_tree.specs.Roots.{TreeView, root_nodes}
use Rattle.tsc_page_tree.proofs.TreeLists.{counted_root}
use Rattle.tsc_page_tree.proofs.tree.Tree.join_between.Goals as goal

pub join_between-requires-clause-root : goal.join_between-requires-clause-root
join_between-requires-clause-root c = counted_root _ _ _ c.self.invariant

pub returns : goal.returns
returns c =
    let here : c.join_between.result ≡ answer_of (root_nodes c.self.inside.root)
    (between (cut_of c.args.from) (cut_of c.args.to)) = search rules in
    here ∙ ap (λ (t : TreeView). answer_of t.nodes
    (between (cut_of c.args.from) (cut_of c.args.to))) c.self.view_is
