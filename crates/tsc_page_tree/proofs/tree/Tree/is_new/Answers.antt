-- The root tells it of a key.
use Rattle.std.proofs.Common.{◌∙◌, sym, ap}
use Rattle.std.specs.Prelude.{not, option_map}
use Rattle.tsc_page_model.specs.PageView.{is_in, is_new_among}
use Rattle.tsc_page_nodes.specs.Nodes.{node_keys}
use Rattle.tsc_page_tree.specs.Roots.{TreeView}
use Rattle.tsc_page_tree.proofs.TreeLists.{counted_root}
use Rattle.tsc_page_tree.proofs.tree.Tree.is_new.Goals as goal

pub is_new-requires : goal.is_new-requires
is_new-requires c = record { root = counted_root _ _ _ c.self.invariant }

pub returns-in-Some : goal.returns-in-Some
returns-in-Some c =
    c.is_new.ensures ∙ ap (λ (t : TreeView). not (is_in c.in-Some.key.now (node_keys t.nodes)))
    c.self.view_is
    ∙ ap (λ o. is_new_among (node_keys c.args.self.now.nodes) (option_map (λ k. k.now) o))
    (sym c.in-Some.is)
