-- Where the joint value of all changes nothing, no subtree of it does.
use Rattle.std.proofs.Common.{◌∙◌, ap, sym, [], ◌∷◌}
use Rattle.tsc_time.specs.ValueView.{ValueView}
use Rattle.tsc_time.specs.Joint.{joint}
use Rattle.tsc_span.specs.Span.{between}
use Rattle.tsc_page_nodes.specs.Nodes.{answer_of}
use Rattle.tsc_page_tree.specs.Lazy.{all_joint}
use Rattle.tsc_page_tree.proofs.AllJoint.{answer_below_all}
use Rattle.tsc_page_tree.proofs.Skips.{nothing_more}
use Rattle.tsc_page_tree.proofs.subtrees.joints.joined.Goals as goal

pub returns-else-changes : goal.returns-else-changes
returns-else-changes g c =
    let ns = g.P.Subtree.nodes c.args.subtree.now in
    let best : ValueView = c.args.best in
    let s = between c.args.from.now c.args.to.now in
    let whole = sym (ap (λ (w : ValueView). joint best (w ∷ [])) c.joint.ensures) ∙
    c.changes.ensures c.if-changes.false in
    sym (nothing_more best (all_joint ns) (answer_of ns s) whole
    (answer_below_all s ns c.requires.subtree.sorted))
