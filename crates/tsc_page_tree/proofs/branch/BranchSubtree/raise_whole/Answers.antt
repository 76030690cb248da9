-- The value is held back with the lazy value.
use Rattle.std.proofs.Common.{◌∙◌, ap, map, List}
use Rattle.std.specs.Prelude.{Option}
use Rattle.std.specs.Arc.{arc_value}
use Rattle.tsc_time.specs.ValueView.{ValueView}
use Rattle.tsc_page_nodes.specs.Nodes.{Node}
use Rattle.tsc_page_tree.specs.Leaves.{nodes_of}
use Rattle.tsc_page_tree.specs.Lazy.{with_lazy}
use Rattle.tsc_page_tree.proofs.Lazy.{raise_merged}
use Rattle.tsc_page_tree.proofs.Reported.{reported_raised}
use Rattle.tsc_page_tree.proofs.Wholes.{branch_whole, reported_as}
use Rattle.tsc_page_tree.proofs.branch.BranchSubtree.raise_whole.Goals as goal

pub returns-clause-raised : goal.returns-clause-raised
returns-clause-raised g c =
    let ns : List Node = nodes_of (map g.P.Subtree.nodes
    (arc_value c.args.self.now.subtrees).items) in
    ap (λ (p : Option ValueView). with_lazy p ns) c.raise.ensures.lazy ∙
    raise_merged c.args.self.now.aggregate.lazy c.args.value ns

pub returns-clause-whole : goal.returns-clause-whole
returns-clause-whole g c =
    let items = (arc_value c.args.self.now.subtrees).items in
    let ns : List Node = nodes_of (map g.P.Subtree.nodes items) in
    let s = c.args.self.now.aggregate in
    branch_whole g.P.Subtree.nodes g.P.Subtree.sizes g.P.Subtree.IsWhole c.raise.new.self items
    g.met.P.Subtree.counted c.requires.subtree.whole.subtrees
    (reported_as s.start c.raise.new.self.start _ c.raise.new.self.joint _ c.raise.new.self.lazy ns
    c.raise.ensures.start c.raise.ensures.joint c.raise.ensures.lazy
    (reported_raised s.start s.joint c.args.value s.lazy ns c.requires.subtree.sorted
    c.requires.subtree.whole.reported))
