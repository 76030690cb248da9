-- The subtree of the cut, or the one before it where that begins at the cut.
use Rattle.std.proofs.Common.{◌≡◌, ◌∙◌, ◌<◌, ◌≤◌, sym, ap, ℕ, List, [], map, length, get_or, true, arith}
use Rattle.std.proofs.lemmas.List.{length-map}
use Rattle.tsc_span.specs.Span.{Cut, is_below}
use Rattle.tsc_page_nodes.specs.Nodes.{Node}
use Rattle.tsc_page_tree.specs.Leaves.{start_of}
use Rattle.tsc_page_tree.proofs.LeafLists.{read_leaf, all_some}
use Rattle.tsc_page_tree.proofs.SubtreeAcross.{reached_here}
use Rattle.tsc_page_tree.proofs.OverSubtrees.{last_before}
use Rattle.tsc_page_tree.proofs.across.last_reached.Goals as goal
use Rattle.tsc_page_tree.proofs.across.last_reached.Goals.{else-index-gt0-via-then-index-gt0+else-not-starts_below, else-index-gt0-via-else-index-gt0}

pub returns-then-not-starts_below : goal.returns-then-not-starts_below
returns-then-not-starts_below g c =
    let read = g.P.Subtree.nodes in
    let items = c.args.subtrees.now in
    let ls : List (List Node) = map read items in
    let to : Cut = c.args.to.now in
    let p : ℕ = c.subtree_at-index.result in
    let here : p < length items = omega
    (arith, c.subtree_at-index.ensures.bound, length-map items read, c.requires.some) in
    let is = read_leaf read items p c.index-subtrees-index.result here c.index-subtrees-index.is in
    last_before ls to p (all_some read g.P.Subtree.IsWhole items g.met.P.Subtree.some
    c.requires.subtrees.whole) c.requires.subtrees.sorted (omega (arith, c.if-index-gt0.true))
    (omega (arith, here, length-map items read)) c.subtree_at-index.ensures
    (ap (λ (ns : List Node). is_below (start_of ns) to) (sym is) ∙ sym c.starts_below.ensures ∙
    c.if-not-starts_below.true)

pub returns-else-index-gt0 : goal.returns-else-index-gt0
returns-else-index-gt0 g c =
    let read = g.P.Subtree.nodes in
    let items = c.args.subtrees.now in
    let ls : List (List Node) = map read items in
    let to : Cut = c.args.to.now in
    let p : ℕ = c.subtree_at-index.result in
    let here : p < length items = omega
    (arith, c.subtree_at-index.ensures.bound, length-map items read, c.requires.some) in
    let reaches : 1 ≤ p → is_below (start_of (get_or ls p [])) to ≡ true =
    elim c.else-index-gt0.branch [
      | else-index-gt0-via-then-index-gt0+else-not-starts_below w ↦ λ h. ap
          (λ (ns : List Node). is_below (start_of ns) to)
          (sym (read_leaf read items p w.index-subtrees-index.result here
          w.index-subtrees-index.is)) ∙
          sym w.starts_below.ensures ∙ w.if-not-starts_below.false
      | else-index-gt0-via-else-index-gt0 w ↦ λ h. absurd (omega (arith, h, w.if-index-gt0.false))
    ] in
    reached_here ls to p (all_some read g.P.Subtree.IsWhole items g.met.P.Subtree.some
    c.requires.subtrees.whole) c.subtree_at-index.ensures reaches
