-- Of 65 nodes the first 32 stay, and 33 come off.
use Rattle.std.proofs.Common.{◌≡◌, ◌∙◌, ◌-◌, ap, sym, subst, List, ◌++◌, length, take, arith}
use Rattle.std.proofs.lemmas.List.{length-take-le, length-drop, take-append-drop}
use Rattle.tsc_span.specs.Span.{KeyBytes}
use Rattle.tsc_page_nodes.specs.Nodes.{Node}
use Rattle.tsc_page_tree.specs.Leaves.{HasNode, IsLeaf}
use Rattle.tsc_page_tree.proofs.LeafKeys.{has_one, has_node-length}
use Rattle.tsc_page_tree.proofs.leaf.grow.Goals as goal

pub returns-in_ok-cut-clause-made : goal.returns-in_ok-cut-clause-made
returns-in_ok-cut-clause-made c =
    let k : KeyBytes = c.args.key.now in
    let old : List Node = c.args.nodes.now in
    let new : List Node = c.make_node.new.self in
    let makes = c.in_ok-make_node.ensures in
    let made = has_one old new k makes.lower makes.upper makes.has_lower makes.has_upper
    makes.nodes in
    let subtrees = ap (λ (ns : List Node). ns ++ c.in_ok-cut.field-0) c.in_ok-cut.ensures.kept ∙
    ap (λ (ns : List Node). take 32 new ++ ns) c.in_ok-cut.ensures.rest ∙
    take-append-drop 32 new in
    subst (λ (ns : List Node). HasNode old ns k) (sym subtrees) made

pub returns-in_ok-cut-clause-leaf : goal.returns-in_ok-cut-clause-leaf
returns-in_ok-cut-clause-leaf c =
    let new : List Node = c.make_node.new.self in
    let many = c.if-len-gt-LEAF_NODES.true in
    let first = ap length c.in_ok-cut.ensures.kept ∙
    length-take-le 32 new (omega (arith, many, c.len.ensures)) in
    (omega (arith, first), omega (arith, first))

pub returns-in_ok-cut-clause-upper : goal.returns-in_ok-cut-clause-upper
returns-in_ok-cut-clause-upper c =
    let k : KeyBytes = c.args.key.now in
    let old : List Node = c.args.nodes.now in
    let new : List Node = c.make_node.new.self in
    let makes = c.in_ok-make_node.ensures in
    let made = has_one old new k makes.lower makes.upper makes.has_lower makes.has_upper
    makes.nodes in
    let long = has_node-length old new k made in
    let many = c.if-len-gt-LEAF_NODES.true in
    let rest : length c.in_ok-cut.field-0 ≡ length new - 32 = ap length c.in_ok-cut.ensures.rest ∙
    length-drop 32 new in
    let few : IsLeaf old = c.requires.leaf in
    (omega (arith, rest, many, c.len.ensures), omega (arith, rest, long.1, few.1))

pub returns-else-len-gt-LEAF_NODES-clause-leaf : goal.returns-else-len-gt-LEAF_NODES-clause-leaf
returns-else-len-gt-LEAF_NODES-clause-leaf c =
    let k : KeyBytes = c.args.key.now in
    let old : List Node = c.args.nodes.now in
    let new : List Node = c.make_node.new.self in
    let makes = c.in_ok-make_node.ensures in
    let long = has_node-length old new k
    (has_one old new k makes.lower makes.upper makes.has_lower makes.has_upper makes.nodes) in
    let few : IsLeaf old = c.requires.leaf in
    (omega (arith, long.0, few.0), omega (arith, c.if-len-gt-LEAF_NODES.false, c.len.ensures))
