-- What is told of the subtrees is told of the branch.
use Rattle.std.proofs.Common.{sym, subst, map, List}
use Rattle.tsc_page_tree.specs.Leaves.{nodes_of}
use Rattle.tsc_page_tree.specs.Trees.{IsReported, IsBranchOf}
use Rattle.tsc_page_tree.proofs.Wholes.{branch_whole}
use Rattle.tsc_page_tree.proofs.branch.Branch.new.Goals as goal

pub returns-clause-whole : goal.returns-clause-whole
returns-clause-whole g c =
    let read = g.P.Subtree.nodes in
    let reported = subst (λ (xs : List g.row.P.Denot). IsReported c.aggregate_of.result
    (nodes_of (map read xs))) c.deref.ensures.value c.aggregate_of.ensures.reported in
    subst (λ v. IsBranchOf read g.P.Subtree.sizes g.P.Subtree.IsWhole c.aggregate_of.result v.items)
    (sym c.in_ok-new.ensures.ok)
    (branch_whole read g.P.Subtree.sizes g.P.Subtree.IsWhole c.aggregate_of.result
    c.args.subtrees.items
    g.met.P.Subtree.counted c.requires.subtrees.few reported)
