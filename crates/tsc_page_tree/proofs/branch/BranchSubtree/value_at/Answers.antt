-- The lazy value is seen where the key isn't below the branch.
use Rattle.std.proofs.Common.{◌≡◌, ◌∙◌, sym, ap, subst, map, Bool, List}
use Rattle.std.specs.Prelude.{Option}
use Rattle.std.specs.Arc.{arc_value}
use Rattle.tsc_time.specs.ValueView.{ValueView}
use Rattle.tsc_span.specs.Span.{KeyBytes, Cut, before, after, point, is_below}
use Rattle.tsc_page_nodes.specs.Nodes.{Node, answer_of}
use Rattle.tsc_span.proofs.CutOrder.{before-after}
use Rattle.tsc_page_tree.specs.Leaves.{nodes_of, start_of, AreSubtrees}
use Rattle.tsc_page_tree.specs.Lazy.{with_lazy, seen_with}
use Rattle.tsc_page_tree.proofs.Lazy.{sorted_without, lazy-start, lazy_answer}
use Rattle.tsc_page_tree.proofs.Wholes.{branch_subtrees}
use Rattle.tsc_page_tree.proofs.branch.BranchSubtree.value_at.Goals as goal

pub value_at-below-requires : goal.value_at-below-requires
value_at-below-requires g c =
    let is = c.deref-2.ensures.value ∙ ap (λ v. v.items) c.deref.ensures in
    record {
      subtrees = subst (AreSubtrees g.P.Subtree.nodes g.P.Subtree.IsWhole) (sym is)
          (branch_subtrees g.P.Subtree.nodes g.P.Subtree.sizes g.P.Subtree.IsWhole
          c.args.self.now.aggregate
          (arc_value c.args.self.now.subtrees).items c.requires.subtree.whole
          c.requires.subtree.sorted);
    }

pub returns-in-None : goal.returns-in-None
returns-in-None g c =
    let read = g.P.Subtree.nodes in
    let is = c.deref-2.ensures.value ∙ ap (λ v. v.items) c.deref.ensures in
    let ns : List Node = nodes_of (map read (arc_value c.args.self.now.subtrees).items) in
    let k : KeyBytes = c.args.key.now in
    c.value_at-below.ensures ∙ ap (λ (xs : List g.row.P.Denot). answer_of (nodes_of (map read xs))
    (point k)) is ∙ ap (λ (o : Option ValueView). answer_of (with_lazy o ns) (point k))
    (sym c.in-None.is)

pub returns-in-Some : goal.returns-in-Some
returns-in-Some g c =
    let read = g.P.Subtree.nodes in
    let is = c.deref-2.ensures.value ∙ ap (λ v. v.items) c.deref.ensures in
    let ns : List Node = nodes_of (map read (arc_value c.args.self.now.subtrees).items) in
    let p = c.args.self.now.aggregate.lazy in
    let k : KeyBytes = c.args.key.now in
    let below : c.value_at-below.result ≡ answer_of ns (point k) = c.value_at-below.ensures ∙
    ap (λ (xs : List g.row.P.Denot). answer_of (nodes_of (map read xs)) (point k)) is in
    let reached : c.starts_below.result ≡ is_below (start_of ns) (after k) =
    c.starts_below.ensures ∙ ap (λ (x : Cut). is_below x c.past.result) (lazy-start p ns) ∙
    ap (is_below (start_of ns)) c.past.ensures in
    c.seen.ensures ∙ ap (λ (w : ValueView). seen_with p c.starts_below.result w) below ∙
    ap (λ (b : Bool). seen_with p b (answer_of ns (point k))) reached
    ∙ sym (lazy_answer p (before k) (after k) ns (sorted_without p ns c.requires.subtree.sorted)
    (before-after k))
