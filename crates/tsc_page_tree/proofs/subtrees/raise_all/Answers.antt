-- One subtree after another is raised.
use Rattle.std.proofs.Common.{◌∙◌, ◌<◌, length, arith}
use Rattle.tsc_page_tree.proofs.LeafLists.{all_set}
use Rattle.tsc_page_tree.proofs.SubtreeLoops.{next_sorted, one_raised, all_raised, same_by}
use Rattle.tsc_page_tree.proofs.subtrees.raise_all.Goals as goal

pub raise_whole-requires : goal.raise_whole-requires
raise_whole-requires g c =
    let so_far = c.loop-index.invariant.0 in
    let items = c.loop-index.subtrees in
    let i = c.loop-index.index in
    let inside : i < length items = omega (arith, c.loop-index-test.true, so_far.as_long) in
    record {
      subtree = record {
        whole = c.loop-index.invariant.1 i c.index-subtrees-index.result inside;
        sorted = next_sorted g.P.Subtree.nodes c.args.value c.args.subtrees.now items i
            c.index-subtrees-index.result c.requires.subtrees.sorted inside so_far;
      };
    }

pub loop-index-preserved : goal.loop-index-preserved
loop-index-preserved g c =
    let so_far = c.loop-index.invariant.0 in
    let items = c.loop-index.subtrees in
    let i = c.loop-index.index in
    let d = c.index-subtrees-index.result in
    let y = c.raise_whole.new.self in
    let inside : i < length items = omega (arith, c.loop-index-test.true, so_far.as_long) in (
      one_raised g.P.Subtree.nodes c.args.value c.args.subtrees.now items i d y inside
          c.raise_whole.ensures.raised so_far,
      all_set g.P.Subtree.IsWhole items i y c.loop-index.invariant.1 c.raise_whole.ensures.whole,
      same_by g.P.Subtree.sizes items i d y inside c.raise_whole.ensures.sizes ∙
          c.loop-index.invariant.2,
    )

pub returns-clause-raised : goal.returns-clause-raised
returns-clause-raised g c = all_raised g.P.Subtree.nodes c.args.value c.args.subtrees.now
    c.loop-index.subtrees c.loop-index.index c.requires.subtrees.sorted
    (omega (arith, c.loop-index-test.false)) c.loop-index.invariant.0
