-- The leaves are raised where both keys have nodes, and else these come in.
use Rattle.std.proofs.Common.{sym, subst, List}
use Rattle.tsc_page_nodes.specs.Nodes.{Node, IsSorted}
use Rattle.tsc_span.proofs.CutOrder.{Lt}
use Rattle.tsc_page_tree.specs.Leaves.{start_of}
use Rattle.tsc_page_tree.specs.Trees.{leaf_nodes}
use Rattle.tsc_page_tree.specs.Across.{IsAcrossReported}
use Rattle.tsc_page_tree.proofs.EndLeaves.{known_across}
use Rattle.tsc_page_tree.proofs.leaf.LeafSubtree.add_across.Goals as goal

pub returns-then-raise_known-clause-reported : goal.returns-then-raise_known-clause-reported
returns-then-raise_known-clause-reported c =
    known_across (leaf_nodes c.args.low.now) (leaf_nodes c.raise_known.new.low)
    (leaf_nodes c.args.high.now) (leaf_nodes c.raise_known.new.high) c.args.add.now c.args.room
    c.if-raise_known.ensures.reported

pub insert_ends-requires-clause-low : goal.insert_ends-requires-clause-low
insert_ends-requires-clause-low c = record {
  whole = c.raise_known.ensures.low.whole;
  sorted = subst IsSorted (sym c.if-raise_known.ensures.reported.0) c.requires.low.sorted;
}

pub insert_ends-requires-clause-high : goal.insert_ends-requires-clause-high
insert_ends-requires-clause-high c = record {
  whole = c.raise_known.ensures.high.whole;
  sorted = subst IsSorted (sym c.if-raise_known.ensures.reported.1) c.requires.high.sorted;
}

pub insert_ends-requires-clause-reaches : goal.insert_ends-requires-clause-reaches
insert_ends-requires-clause-reaches c =
    subst (λ (ns : List Node). Lt (start_of ns) c.args.add.now.to)
    (sym c.if-raise_known.ensures.reported.1) c.requires.reaches

pub returns-else-raise_known-clause-reported : goal.returns-else-raise_known-clause-reported
returns-else-raise_known-clause-reported c =
    let nl = leaf_nodes c.insert_ends.new.low in
    let nh = leaf_nodes c.insert_ends.new.high in
    subst (λ (ns : List Node). IsAcrossReported ns nl (leaf_nodes c.args.high.now) nh c.args.add.now
    c.args.room c.insert_ends.result) c.if-raise_known.ensures.reported.0
    (subst (λ (ns : List Node). IsAcrossReported (leaf_nodes c.raise_known.new.low) nl ns nh
    c.args.add.now c.args.room c.insert_ends.result) c.if-raise_known.ensures.reported.1
    c.insert_ends.ensures.reported)
