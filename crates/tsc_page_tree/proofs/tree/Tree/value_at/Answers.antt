-- The root answers it.
use Rattle.std.proofs.Common.{◌≡◌, ◌∙◌, ap, rules}
use Rattle.tsc_span.specs.Span.{point}
use Rattle.tsc_page_nodes.specs.Nodes.{answer_of}
use Rattle.tsc_page_tree.specs.Roots.{TreeView, root_nodes}
use Rattle.tsc_page_tree.proofs.TreeLists.{counted_root}
use Rattle.tsc_page_tree.proofs.tree.Tree.value_at.Goals as goal

pub value_at-requires : goal.value_at-requires
value_at-requires c = record { root = counted_root _ _ _ c.self.invariant }

pub returns : goal.returns
returns c =
    let here : c.value_at.result ≡ answer_of (root_nodes c.self.inside.root) (point c.args.key.now)
    = search rules in
    here ∙ ap (λ (t : TreeView). answer_of t.nodes (point c.args.key.now)) c.self.view_is
