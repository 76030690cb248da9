-- Of 65 subtrees the first 32 stay, and 33 come off.
use Rattle.std.proofs.Common.{◌∙◌, ap, sym, subst, List, ◌++◌, map, take, arith}
use Rattle.std.proofs.lemmas.List.{length-take-le, length-drop}
use Rattle.tsc_span.specs.Span.{KeyBytes}
use Rattle.tsc_page_nodes.specs.Nodes.{Node}
use Rattle.tsc_page_tree.specs.Leaves.{nodes_of, HasNode}
use Rattle.tsc_page_tree.specs.Trees.{AreFewSubtrees}
use Rattle.tsc_page_tree.proofs.SubtreeLists.{nodes_cut, all_take, all_drop}
use Rattle.tsc_page_tree.proofs.branch.grow.Goals as goal

pub returns-in_ok-cut-clause-made : goal.returns-in_ok-cut-clause-made
returns-in_ok-cut-clause-made g c =
    let read = g.P.Subtree.nodes in
    let k : KeyBytes = c.args.key.now in
    let old : List Node = nodes_of (map read c.args.subtrees.now.items) in
    let new = c.make_node.new.subtrees.items in
    let subtrees =
    ap (λ (xs : List g.row.P.Denot). nodes_of (map read xs) ++
    nodes_of (map read c.in_ok-cut.field-0.items)) c.in_ok-cut.ensures.kept
    ∙ ap (λ (xs : List g.row.P.Denot). nodes_of (map read (take 32 new)) ++ nodes_of (map read xs))
    c.in_ok-cut.ensures.rest ∙ sym (nodes_cut read 32 new) in
    subst (λ (ns : List Node). HasNode old ns k) (sym subtrees) c.in_ok-make_node.ensures.made

pub returns-in_ok-cut-clause-few : goal.returns-in_ok-cut-clause-few
returns-in_ok-cut-clause-few g c =
    let new = c.make_node.new.subtrees.items in
    let many = c.if-len-gt-BRANCH_SUBTREES.true in
    let long = length-take-le 32 new
    (omega (arith, many, c.len.ensures, c.make_node.new.subtrees.ok.0)) in
    subst (AreFewSubtrees g.P.Subtree.IsWhole) (sym c.in_ok-cut.ensures.kept)
    (record {
      each = all_take g.P.Subtree.IsWhole 32 new c.in_ok-make_node.ensures.whole;
      some = omega (arith, long);
      few = omega (arith, long);
    })

pub returns-in_ok-cut-clause-upper : goal.returns-in_ok-cut-clause-upper
returns-in_ok-cut-clause-upper g c =
    let new = c.make_node.new.subtrees.items in
    let many = c.if-len-gt-BRANCH_SUBTREES.true in
    let few = c.in_ok-make_node.ensures.few.1 in
    let rest = length-drop 32 new in
    subst (AreFewSubtrees g.P.Subtree.IsWhole) (sym c.in_ok-cut.ensures.rest) (record {
      each = all_drop g.P.Subtree.IsWhole 32 new c.in_ok-make_node.ensures.whole;
      some = omega (arith, rest, many, c.len.ensures, c.make_node.new.subtrees.ok.0);
      few = omega (arith, rest, few, c.requires.subtrees.few.few);
    })
