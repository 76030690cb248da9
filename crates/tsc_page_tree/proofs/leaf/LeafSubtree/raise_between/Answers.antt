-- A raise commutes with the lazy value.
use Rattle.std.proofs.Common.{◌≡◌, ◌∙◌, inl, inr, sym, ap, subst, List, arith, rules}
use Rattle.std.specs.Prelude.{Option}
use Rattle.std.specs.Arc.{arc_value}
use Rattle.tsc_time.specs.ValueView.{ValueView}
use Rattle.tsc_span.specs.Cuts.{cut_of}
use Rattle.tsc_span.specs.Span.{Cut, between, is_below}
use Rattle.tsc_page_nodes.specs.Nodes.{Node, raise_nodes}
use Rattle.tsc_page_nodes.proofs.Edits.{raise_nodes-length}
use Rattle.tsc_page_tree.specs.Leaves.{start_of}
use Rattle.tsc_page_tree.specs.Lazy.{with_lazy}
use Rattle.tsc_page_tree.specs.Trees.{IsLeafOf}
use Rattle.tsc_page_tree.proofs.Lazy.{raise_lazy}
use Rattle.tsc_page_tree.proofs.TreeAcross.{reported_raised_below}
use Rattle.tsc_page_tree.proofs.Wholes.{leaf_whole, reported_as}
use Rattle.tsc_page_tree.proofs.leaf.LeafSubtree.raise_between.Goals as goal

pub returns-clause-raised : goal.returns-clause-raised
returns-clause-raised c =
    let ns : List Node = arc_value c.args.self.now.nodes in
    let p = c.args.self.now.aggregate.lazy in
    let f : Cut = cut_of c.args.from in
    let t : Cut = cut_of c.args.to in
    let same : c.in_ok-nodes.nodes.now ≡ ns =
    elim c.in_ok-nodes.ensures.value [ inl h ↦ h | inr h ↦ h ] in
    let w : List Node = c.raise_between.new.self in
    let kept = c.make_mut.follows.holds w (search rules) in
    let raised : w ≡ raise_nodes (between f t) c.args.value ns =
    c.raise_between.ensures ∙ ap (λ (x : Cut). raise_nodes (between x c.new-to.result) c.args.value
    c.in_ok-nodes.nodes.now) c.new-from.ensures ∙
    ap (λ (x : Cut). raise_nodes (between f x) c.args.value c.in_ok-nodes.nodes.now)
    c.new-to.ensures ∙ ap (raise_nodes (between f t) c.args.value) same in
    ap (λ (o : Option ValueView). with_lazy o (arc_value (c.make_mut.follows.lender w)))
    c.reach.ensures.lazy ∙ ap (with_lazy p) (kept ∙ raised) ∙
    raise_lazy p (between f t) c.args.value ns

pub returns-clause-whole : goal.returns-clause-whole
returns-clause-whole c =
    let ns : List Node = arc_value c.args.self.now.nodes in
    let s = c.args.self.now.aggregate in
    let p = s.lazy in
    let f : Cut = cut_of c.args.from in
    let t : Cut = cut_of c.args.to in
    let same : c.in_ok-nodes.nodes.now ≡ ns =
    elim c.in_ok-nodes.ensures.value [ inl h ↦ h | inr h ↦ h ] in
    let w : List Node = c.raise_between.new.self in
    let kept = c.make_mut.follows.holds w (search rules) in
    let raised : w ≡ raise_nodes (between f t) c.args.value ns =
    c.raise_between.ensures ∙ ap (λ (x : Cut). raise_nodes (between x c.new-to.result) c.args.value
    c.in_ok-nodes.nodes.now) c.new-from.ensures ∙
    ap (λ (x : Cut). raise_nodes (between f x) c.args.value c.in_ok-nodes.nodes.now)
    c.new-to.ensures ∙ ap (raise_nodes (between f t) c.args.value) same in
    let reached : c.starts_below.result ≡
    is_below (start_of (raise_nodes (between f t) c.args.value ns)) t =
    c.starts_below.ensures ∙ ap (λ (x : Cut). is_below (start_of w) x) c.new-to.ensures ∙
    ap (λ (ms : List Node). is_below (start_of ms) t) raised in
    let long = raise_nodes-length (between f t) c.args.value ns in
    let reported = reported_as s.start c.reach.new.self.start _ c.reach.new.self.joint _
    c.reach.new.self.lazy (raise_nodes (between f t) c.args.value ns) c.reach.ensures.start
    c.reach.ensures.joint c.reach.ensures.lazy
    (reported_raised_below s.start s.joint c.args.value p f t ns c.starts_below.result
    c.requires.subtree.sorted
    c.requires.order reached c.requires.subtree.whole.reported) in
    subst (λ (ms : List Node). IsLeafOf c.reach.new.self ms) (sym (kept ∙ raised))
    (leaf_whole c.reach.new.self (raise_nodes (between f t) c.args.value ns) (
      omega (arith, long, c.requires.subtree.whole.leaf.0),
      omega (arith, long, c.requires.subtree.whole.leaf.1),
    ) reported)
