-- What is in order together is in order in each branch.
use Rattle.std.proofs.Common.{map, rules}
use Rattle.tsc_page_tree.specs.Leaves.{nodes_of}
use Rattle.tsc_page_tree.proofs.Joins.{sorted_left, sorted_right}
use Rattle.tsc_page_tree.proofs.branch.Branch.pair.Goals as goal

pub new-requires : goal.new-requires
new-requires g c = record {
  subtrees = record {
    few = c.requires.lower;
    sorted = sorted_left (nodes_of (map g.P.Subtree.nodes c.args.lower.items))
        (nodes_of (map g.P.Subtree.nodes c.args.upper.items)) c.requires.sorted;
  };
}

pub new-requires-2 : goal.new-requires-2
new-requires-2 g c = record {
  subtrees = record {
    few = c.requires.upper;
    sorted = sorted_right (nodes_of (map g.P.Subtree.nodes c.args.lower.items))
        (nodes_of (map g.P.Subtree.nodes c.args.upper.items)) c.requires.sorted;
  };
}

pub returns-clause-nodes : goal.returns-clause-nodes
returns-clause-nodes g c = search rules
