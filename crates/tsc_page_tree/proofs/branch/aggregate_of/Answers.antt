-- What is told of the subtrees.
use Rattle.tsc_page_tree.proofs.Wholes.{some_in}
use Rattle.tsc_page_tree.proofs.branch.aggregate_of.Goals as goal

pub returns-clause-reported : goal.returns-clause-reported
returns-clause-reported g c = record {
  some = some_in g.P.Subtree.nodes g.P.Subtree.IsWhole c.args.subtrees.now g.met.P.Subtree.some
      c.requires.subtrees.few;
  start = c.start_prefix.ensures;
  joint = c.joint.ensures;
}
