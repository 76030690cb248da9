-- The root tells it.
use Rattle.std.proofs.Common.{◌≡◌, ◌∙◌, ap, rules}
use Rattle.std.specs.Prelude.{option_map}
use Rattle.tsc_span.specs.Cuts.{cut_of}
use Rattle.tsc_page_model.specs.KeysAbove.{first_above}
use Rattle.tsc_page_nodes.specs.Nodes.{node_keys}
use Rattle.tsc_page_tree.specs.Roots.{TreeView, root_nodes}
use Rattle.tsc_page_tree.proofs.TreeLists.{counted_root}
use Rattle.tsc_page_tree.proofs.tree.Tree.key_above.Goals as goal

pub key_above-requires : goal.key_above-requires
key_above-requires c = record { root = counted_root _ _ _ c.self.invariant }

pub returns : goal.returns
returns c =
    let here : option_map (λ k. k.now) c.key_above.result ≡ first_above (cut_of c.args.cut)
    (node_keys (root_nodes c.self.inside.root)) = search rules in
    here ∙ ap (λ (t : TreeView). first_above (cut_of c.args.cut) (node_keys t.nodes)) c.self.view_is
