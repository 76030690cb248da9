-- A span that leaves nothing out answers as all.
use Rattle.std.proofs.Common.{◌∙◌, sym}
use Rattle.std.proofs.lemmas.Bool.{or_parts}
use Rattle.tsc_span.specs.Span.{Cut, last, is_below}
use Rattle.tsc_page_tree.specs.Leaves.{start_of}
use Rattle.tsc_page_tree.proofs.AllJoint.{answer_of_all}
use Rattle.tsc_page_tree.proofs.subtrees.joints.seen_of.Goals as goal

pub returns-else-leaves_out : goal.returns-else-leaves_out
returns-else-leaves_out g c =
    let ns = g.P.Subtree.nodes c.args.subtree.now in
    let from : Cut = c.args.from.now in
    let to : Cut = c.args.to.now in
    let outside = or_parts (is_below to last) (is_below (start_of ns) from)
    (sym c.leaves_out.ensures ∙ c.if-leaves_out.false) in
    c.joint.ensures ∙ sym (answer_of_all from to ns c.requires.subtree.sorted outside.1 outside.0)
