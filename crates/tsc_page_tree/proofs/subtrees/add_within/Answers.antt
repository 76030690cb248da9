-- The span lies in one subtree, to which the Add is handed.
use Rattle.std.proofs.Common.{◌≡◌, ◌∙◌, ◌<◌, sym, ap, subst, true, false, ℕ, suc, List, map, drop, get_or, length, arith}
use Rattle.tsc_span.specs.Span.{Cut, is_below}
use Rattle.tsc_page_nodes.specs.Nodes.{Node}
use Rattle.tsc_page_nodes.specs.Insertions.{InsertionView}
use Rattle.tsc_page_tree.specs.Leaves.{nodes_of, start_of, IsLeafAt}
use Rattle.tsc_page_tree.specs.Lazy.{IsAddReported, sizes_of}
use Rattle.tsc_time.specs.declared.memory.NoMemory.{NoMemory}
use Rattle.tsc_page_tree.proofs.EndLeaves.{over_reported}
use Rattle.tsc_span.proofs.CutOrder.{Le}
use Rattle.tsc_page_tree.proofs.LeafLists.{all_some, is_subtree}
use Rattle.tsc_page_nodes.specs.Insertions.{IsInsertionView}
use Rattle.tsc_page_tree.proofs.SubtreeAdds.{not_true, not_false, reported_in_subtree, reported_before_next}
use Rattle.tsc_page_tree.proofs.subtrees.add_within.Goals as goal

pub add_within-requires : goal.add_within-requires
add_within-requires g c =
    record {
      subtree = is_subtree g.P.Subtree.nodes g.P.Subtree.IsWhole c.args.subtrees.now
          c.subtree_at-index.result c.index-subtrees-index.result
          (omega (arith, c.if-index-subtrees.false)) c.requires.subtrees;
    }

pub add_within-requires-else-stops_at_next : goal.add_within-requires-else-stops_at_next
add_within-requires-else-stops_at_next g c =
    record {
      subtree = is_subtree g.P.Subtree.nodes g.P.Subtree.IsWhole c.args.subtrees.now
          c.subtree_at-index.result
          c.index-subtrees-index-else-stops_at_next.result
          (omega (arith, c.if-index-subtrees.false))
          c.requires.subtrees;
    }

pub raise_over-requires-clause-goes : goal.raise_over-requires-clause-goes
raise_over-requires-clause-goes g c =
    let ls : List (List Node) = map g.P.Subtree.nodes c.args.subtrees.now in
    let p : ℕ = c.subtree_at-index.result in
    let next : Cut = start_of (nodes_of (drop (suc p) ls)) in
    let from : c.add.inside.from.now ≡ c.args.add.now.from =
    ap (λ (v : InsertionView). v.from) c.add.view_is in
    let to : c.add.inside.to.now ≡ c.args.add.now.to = ap (λ (v : InsertionView). v.to)
    c.add.view_is in
    record {
      bound = omega (arith, c.if-index-subtrees.false);
      first = subst (λ (x : Cut). IsLeafAt ls x p) from c.subtree_at-index.ensures;
      beyond = subst (λ (x : Cut). is_below next x ≡ true) to
          (sym c.goes_on.ensures ∙ c.if-goes_on.true);
    }

pub returns-then-goes_on-clause-reported : goal.returns-then-goes_on-clause-reported
returns-then-goes_on-clause-reported g c =
    let read = g.P.Subtree.nodes in
    let sizes = g.P.Subtree.sizes in
    over_reported NoMemory c.raise_over.result (nodes_of (map read c.args.subtrees.now))
    (nodes_of (map read c.raise_over.new.subtrees)) (sizes_of (map sizes c.args.subtrees.now))
    (sizes_of (map sizes c.raise_over.new.subtrees)) c.args.add.now c.args.room
    c.raise_over.ensures.reported (λ h. ap sizes_of (c.raise_over.ensures.kept.sizes h))

pub returns-then-stops_at_next-clause-reported : goal.returns-then-stops_at_next-clause-reported
returns-then-stops_at_next-clause-reported g c =
    let read = g.P.Subtree.nodes in
    let sizes = g.P.Subtree.sizes in
    let items = c.args.subtrees.now in
    let ls : List (List Node) = map read items in
    let p : ℕ = c.subtree_at-index.result in
    let d = c.index-subtrees-index.result in
    let y = c.add_within.new.self in
    let a : InsertionView = c.args.add.now in
    let next : Cut = start_of (nodes_of (drop (suc p) ls)) in
    let here : p < length items = omega (arith, c.if-index-subtrees.false) in
    let fits : IsInsertionView a = subst IsInsertionView c.add.view_is c.add.invariant in
    let from : c.add.inside.from.now ≡ a.from = ap (λ (v : InsertionView). v.from) c.add.view_is in
    let to : c.add.inside.to.now ≡ a.to = ap (λ (v : InsertionView). v.to) c.add.view_is in
    let at = subst (λ (x : Cut). IsLeafAt ls x p) from c.subtree_at-index.ensures in
    let high = subst (λ (x : Cut). Le x next) to (sym c.goes_on.ensures ∙ c.if-goes_on.false) in
    let below = subst (λ (x : Cut). is_below x next ≡ false) to
    (not_true (is_below c.add.inside.to.now next)
    (sym c.stops_at_next.ensures ∙ c.if-stops_at_next.true)) in
    let reported = subst (λ (b : InsertionView). IsAddReported (read (get_or items p d)) (read y)
    (sizes (get_or items p d)) (sizes y) b c.args.room c.add_within.result)
    c.before_second.ensures c.add_within.ensures.reported in
    reported_before_next read items p d y a
    (all_some read g.P.Subtree.IsWhole items g.met.P.Subtree.some c.requires.subtrees.whole)
    c.requires.subtrees.sorted here at fits.0 fits.1 fits.2 fits.3 high sizes c.add_within.result
    c.args.room below reported

pub returns-else-stops_at_next-clause-reported : goal.returns-else-stops_at_next-clause-reported
returns-else-stops_at_next-clause-reported g c =
    let read = g.P.Subtree.nodes in
    let sizes = g.P.Subtree.sizes in
    let items = c.args.subtrees.now in
    let ls : List (List Node) = map read items in
    let p : ℕ = c.subtree_at-index.result in
    let d = c.index-subtrees-index-else-stops_at_next.result in
    let y = c.add_within-else-stops_at_next.new.self in
    let a : InsertionView = c.args.add.now in
    let next : Cut = start_of (nodes_of (drop (suc p) ls)) in
    let here : p < length items = omega (arith, c.if-index-subtrees.false) in
    let fits : IsInsertionView a = subst IsInsertionView c.add.view_is c.add.invariant in
    let from : c.add.inside.from.now ≡ a.from = ap (λ (v : InsertionView). v.from) c.add.view_is in
    let to : c.add.inside.to.now ≡ a.to = ap (λ (v : InsertionView). v.to) c.add.view_is in
    let at = subst (λ (x : Cut). IsLeafAt ls x p) from c.subtree_at-index.ensures in
    let high = subst (λ (x : Cut). Le x next) to (sym c.goes_on.ensures ∙ c.if-goes_on.false) in
    let below = subst (λ (x : Cut). is_below x next ≡ true) to
    (not_false (is_below c.add.inside.to.now next)
    (sym c.stops_at_next.ensures ∙ c.if-stops_at_next.false)) in
    reported_in_subtree read items p d y a
    (all_some read g.P.Subtree.IsWhole items g.met.P.Subtree.some c.requires.subtrees.whole)
    c.requires.subtrees.sorted here at fits.0 fits.1 fits.2 fits.3 high sizes
    c.add_within-else-stops_at_next.result c.args.room below
    c.add_within-else-stops_at_next.ensures.reported
