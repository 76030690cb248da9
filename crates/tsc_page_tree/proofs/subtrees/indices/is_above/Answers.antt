-- A subtree that begins above the cut ends the one before it.
use Rattle.std.proofs.Common.{◌∙◌, ℕ, ◌<◌, sym, ap, length}
use Rattle.tsc_span.specs.Span.{is_below}
use Rattle.tsc_page_tree.specs.Leaves.{start_of}
use Rattle.tsc_page_tree.proofs.SubtreeLoops.{falls_before_next}
use Rattle.tsc_page_tree.proofs.subtrees.indices.is_above.Goals as goal

pub returns-in-Some : goal.returns-in-Some
returns-in-Some g c =
    let index : ℕ = c.args.index in
    let lookup = c.in-Some.ensures.lookup in
    let inside : index < length c.args.subtrees.now = lookup.3.0 in
    let is = ap (λ (x : g.row.P.Denot). is_below c.args.cut.now (start_of (g.P.Subtree.nodes x)))
    (sym lookup.1) in
    λ reported low. falls_before_next g.P.Subtree.nodes c.args.subtrees.now c.args.cut.now index
    c.in-Some.subtree.now c.requires.some inside (is ∙ sym c.starts_above.ensures ∙ reported) low
