-- The lazy value is seen where the span reaches where the branch begins.
use Rattle.std.proofs.Common.{◌≡◌, ◌∙◌, sym, ap, subst, map, Bool, List}
use Rattle.std.specs.Arc.{arc_value}
use Rattle.tsc_time.specs.ValueView.{ValueView}
use Rattle.tsc_span.specs.Span.{Cut, between, is_below}
use Rattle.tsc_page_nodes.specs.Nodes.{Node, answer_of}
use Rattle.tsc_page_tree.specs.Leaves.{nodes_of, start_of, AreSubtrees}
use Rattle.tsc_page_tree.specs.Lazy.{seen_with}
use Rattle.tsc_page_tree.proofs.Lazy.{sorted_without, lazy-start, lazy_answer}
use Rattle.tsc_page_tree.proofs.Wholes.{branch_subtrees}
use Rattle.tsc_page_tree.proofs.branch.BranchSubtree.join_between.Goals as goal

pub join_between-below-requires-clause-subtrees : goal.join_between-below-requires-clause-subtrees
join_between-below-requires-clause-subtrees g c =
    let is = c.deref-2.ensures.value ∙ ap (λ v. v.items) c.deref.ensures in
    subst (AreSubtrees g.P.Subtree.nodes g.P.Subtree.IsWhole) (sym is)
    (branch_subtrees g.P.Subtree.nodes g.P.Subtree.sizes g.P.Subtree.IsWhole
    c.args.self.now.aggregate
    (arc_value c.args.self.now.subtrees).items c.requires.subtree.whole c.requires.subtree.sorted)

pub returns : goal.returns
returns g c =
    let read = g.P.Subtree.nodes in
    let is = c.deref-2.ensures.value ∙ ap (λ v. v.items) c.deref.ensures in
    let ns : List Node = nodes_of (map read (arc_value c.args.self.now.subtrees).items) in
    let p = c.args.self.now.aggregate.lazy in
    let f : Cut = c.args.from.now in
    let t : Cut = c.args.to.now in
    let below : c.join_between-below.result ≡ answer_of ns (between f t) =
    c.join_between-below.ensures ∙
    ap (λ (xs : List g.row.P.Denot). answer_of (nodes_of (map read xs)) (between f t)) is in
    let reached : c.starts_below.result ≡ is_below (start_of ns) t = c.starts_below.ensures ∙
    ap (λ (x : Cut). is_below x t) (lazy-start p ns) in
    c.seen.ensures ∙ ap (λ (w : ValueView). seen_with p c.starts_below.result w) below ∙
    ap (λ (b : Bool). seen_with p b (answer_of ns (between f t))) reached
    ∙ sym (lazy_answer p f t ns (sorted_without p ns c.requires.subtree.sorted) c.requires.order)
