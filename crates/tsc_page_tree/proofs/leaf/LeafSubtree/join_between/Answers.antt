-- The lazy value is seen where the span reaches where the leaf begins.
use Rattle.std.proofs.Common.{◌≡◌, ◌∙◌, sym, ap, Bool, List}
use Rattle.std.specs.Arc.{arc_value}
use Rattle.tsc_time.specs.ValueView.{ValueView}
use Rattle.tsc_span.specs.Span.{Cut, between, is_below}
use Rattle.tsc_page_nodes.specs.Nodes.{Node, answer_of}
use Rattle.tsc_page_tree.specs.Leaves.{start_of}
use Rattle.tsc_page_tree.specs.Lazy.{seen_with}
use Rattle.tsc_page_tree.proofs.Lazy.{sorted_without, lazy-start, lazy_answer}
use Rattle.tsc_page_tree.proofs.leaf.LeafSubtree.join_between.Goals as goal

pub returns : goal.returns
returns c =
    let ns : List Node = arc_value c.args.self.now.nodes in
    let p = c.args.self.now.aggregate.lazy in
    let f : Cut = c.args.from.now in
    let t : Cut = c.args.to.now in
    let below : c.join_between-below.result ≡ answer_of ns (between f t) =
    c.join_between-below.ensures ∙
    ap (λ (ms : List Node). answer_of ms (between f t)) c.deref.ensures in
    let reached : c.starts_below.result ≡ is_below (start_of ns) t = c.starts_below.ensures ∙
    ap (λ (x : Cut). is_below x t) (lazy-start p ns) in
    c.seen.ensures ∙ ap (λ (w : ValueView). seen_with p c.starts_below.result w) below ∙
    ap (λ (b : Bool). seen_with p b (answer_of ns (between f t))) reached
    ∙ sym (lazy_answer p f t ns (sorted_without p ns c.requires.subtree.sorted) c.requires.order)
