-- The value is held back with the lazy value.
use Rattle.std.proofs.Common.{◌∙◌, ap, List}
use Rattle.std.specs.Prelude.{Option}
use Rattle.std.specs.Arc.{arc_value}
use Rattle.tsc_time.specs.ValueView.{ValueView}
use Rattle.tsc_page_nodes.specs.Nodes.{Node}
use Rattle.tsc_page_tree.specs.Lazy.{with_lazy}
use Rattle.tsc_page_tree.proofs.Lazy.{raise_merged}
use Rattle.tsc_page_tree.proofs.Reported.{reported_raised}
use Rattle.tsc_page_tree.proofs.Wholes.{leaf_whole, reported_as}
use Rattle.tsc_page_tree.proofs.leaf.LeafSubtree.raise_whole.Goals as goal

pub returns-clause-raised : goal.returns-clause-raised
returns-clause-raised c =
    let ns : List Node = arc_value c.args.self.now.nodes in
    ap (λ (p : Option ValueView). with_lazy p ns) c.raise.ensures.lazy ∙
    raise_merged c.args.self.now.aggregate.lazy c.args.value ns

pub returns-clause-whole : goal.returns-clause-whole
returns-clause-whole c =
    let ns : List Node = arc_value c.args.self.now.nodes in
    let s = c.args.self.now.aggregate in
    leaf_whole c.raise.new.self ns c.requires.subtree.whole.leaf
    (reported_as s.start c.raise.new.self.start _ c.raise.new.self.joint _ c.raise.new.self.lazy ns
    c.raise.ensures.start c.raise.ensures.joint c.raise.ensures.lazy
    (reported_raised s.start s.joint c.args.value s.lazy ns c.requires.subtree.sorted
    c.requires.subtree.whole.reported))
