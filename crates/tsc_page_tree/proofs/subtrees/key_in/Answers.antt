-- A subtree of sorted ones is sorted.
use Rattle.std.proofs.Common.{arith}
use Rattle.tsc_page_tree.proofs.LeafLists.{read_subtree}
use Rattle.tsc_page_tree.proofs.subtrees.key_in.Goals as goal

pub key_above-requires : goal.key_above-requires
key_above-requires g c =
    record {
      subtree = read_subtree g.P.Subtree.nodes g.P.Subtree.IsWhole c.args.subtrees.now c.args.index
          c.in-Some.subtree.now
          (omega (arith, c.in-Some.ensures.lookup.3.0)) c.in-Some.ensures.lookup.1
          c.requires.subtrees;
    }
