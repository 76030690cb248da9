-- The lower leaf is raised by its nodes or by the lazy value, the upper one below that.
use Rattle.std.proofs.Common.{◌≡◌, ◌∙◌, ◌∷◌, [], sym, ap, subst, List, length, arith}
use Rattle.std.specs.Prelude.{Option, option_map}
use Rattle.std.specs.Arc.{arc_value}
use Rattle.tsc_time.specs.ValueView.{ValueView}
use Rattle.tsc_time.specs.Joint.{joint}
use Rattle.tsc_span.specs.Span.{KeyBytes, Cut, before, last, between}
use Rattle.tsc_page_nodes.specs.Nodes.{Node, IsSorted, raise_nodes}
use Rattle.tsc_page_nodes.specs.Insertions.{InsertionView}
use Rattle.tsc_page_tree.specs.Lazy.{with_lazy, IsReportedOf}
use Rattle.tsc_page_tree.specs.Trees.{IsReported}
use Rattle.tsc_page_tree.specs.Across.{HasKey, AreRaisedKnown}
use Rattle.tsc_span.proofs.CutOrder.{Lt, Le_Lt-chain}
use Rattle.tsc_page_nodes.proofs.Cuts.{lowest}
use Rattle.tsc_page_nodes.proofs.Edits.{raise_nodes-length}
use Rattle.tsc_page_tree.proofs.Joins.{up_to_last}
use Rattle.tsc_page_tree.proofs.Lazy.{raise_lazy}
use Rattle.tsc_page_tree.proofs.SubtreeAcross.{reported_reached}
use Rattle.tsc_page_tree.proofs.TreeAcross.{has_lazy}
use Rattle.tsc_page_tree.proofs.Wholes.{leaf_whole, reported_as}
use Rattle.tsc_page_tree.proofs.leaf.raise_known.Goals as goal
use Rattle.tsc_page_tree.proofs.leaf.raise_known.Goals.{After-raise_hinted}

pub raise_above-requires-clause-reported : goal.raise_above-requires-clause-reported
raise_above-requires-clause-reported c =
    subst (IsReported c.args.low.now.aggregate) (sym c.in-Some.ensures.value)
    c.requires.low.whole.reported

pub raise_above-requires-clause-sorted : goal.raise_above-requires-clause-sorted
raise_above-requires-clause-sorted c =
    subst (λ (ns : List Node). IsSorted (with_lazy c.args.low.now.aggregate.lazy ns))
    (sym c.in-Some.ensures.value) c.requires.low.sorted

pub raise_above-requires-clause-order : goal.raise_above-requires-clause-order
raise_above-requires-clause-order c =
    up_to_last c.add.inside.from.now c.add.inside.to.now c.add.invariant.0

pub raise_hinted-requires : goal.raise_hinted-requires
raise_hinted-requires c = record {
  order = subst (λ (z : Cut). Lt z c.add.inside.to.now) (sym c.new.ensures)
      (Le_Lt-chain (before []) c.add.inside.from.now c.add.inside.to.now
      (lowest c.add.inside.from.now) c.add.invariant.0);
}

-- what the nodes of the upper leaf become
raised_high : (c : After-raise_hinted) →
    c.raise_hinted.new.self ≡ raise_nodes (between (before []) c.args.add.now.to)
    c.args.add.now.value
    (arc_value c.args.high.now.nodes)
raised_high c =
    let ms : List Node = arc_value c.args.high.now.nodes in
    let t : Cut = c.add.inside.to.now in
    let v : ValueView = c.add.inside.value in
    subst (λ (b : InsertionView). c.raise_hinted.new.self ≡ raise_nodes (between (before [])
    b.to) b.value
    ms) c.add.view_is
    (c.raise_hinted.ensures ∙ ap (λ (z : Cut). raise_nodes (between z t) v
    c.in-Some-get_mut.above.now) c.new.ensures ∙
    ap (raise_nodes (between (before []) t) v) c.in-Some-get_mut.ensures.value)

-- both leaves are raised within the span
across : (c : After-raise_hinted)
    → AreRaisedKnown (with_lazy c.args.low.now.aggregate.lazy (arc_value c.args.low.now.nodes))
    (with_lazy c.raise_above.new.aggregate.lazy c.raise_above.new.nodes)
    (with_lazy c.args.high.now.aggregate.lazy (arc_value c.args.high.now.nodes))
    (with_lazy c.args.high.now.aggregate.lazy c.raise_hinted.new.self) c.args.add.now
across c =
    let ns : List Node = arc_value c.args.low.now.nodes in
    let ms : List Node = arc_value c.args.high.now.nodes in
    let p = c.args.low.now.aggregate.lazy in
    let q = c.args.high.now.aggregate.lazy in
    let o : Option KeyBytes = option_map (λ k. k.now) c.add.inside.first in
    let r : Option KeyBytes = option_map (λ k. k.now) c.add.inside.second in
    let f : Cut = c.add.inside.from.now in
    let t : Cut = c.add.inside.to.now in
    let v : ValueView = c.add.inside.value in
    let high = raised_high c in
    subst (λ (b : InsertionView). AreRaisedKnown (with_lazy p ns)
    (with_lazy c.raise_above.new.aggregate.lazy c.raise_above.new.nodes) (with_lazy q ms)
    (with_lazy q c.raise_hinted.new.self) b) c.add.view_is (record {
      first = has_lazy o p ns (subst (λ (xs : List Node). HasKey o xs) c.in-Some.ensures.value
          c.in-Some-known_index.ensures);
      second = has_lazy r q ms (subst (λ (xs : List Node). HasKey r xs)
          c.in-Some-get_mut.ensures.value c.in-Some-known_index-2.ensures);
      raised_low = c.raise_above.ensures.raised ∙
          ap (λ (xs : List Node). raise_nodes (between f last) v (with_lazy p xs))
          c.in-Some.ensures.value;
      raised_high = ap (with_lazy q)
          (subst (λ (b : InsertionView). c.raise_hinted.new.self ≡ raise_nodes
          (between (before []) b.to)
          b.value ms) (sym c.add.view_is) high) ∙ raise_lazy q (between (before []) t) v ms;
    })

pub returns-clause-reported : goal.returns-clause-reported
returns-clause-reported c =
    let reported = across (goal.at.returns-clause-reported c).After-raise_hinted in
    let ns : List Node = arc_value c.args.low.now.nodes in
    let ms : List Node = arc_value c.args.high.now.nodes in
    let p = c.args.low.now.aggregate.lazy in
    let q = c.args.high.now.aggregate.lazy in
    subst (λ (o : Option ValueView). AreRaisedKnown (with_lazy p ns)
    (with_lazy c.raise_above.new.aggregate.lazy c.raise_above.new.nodes) (with_lazy q ms)
    (with_lazy o c.raise_hinted.new.self) c.args.add.now) (sym c.reach.ensures.lazy) reported

pub returns-clause-low : goal.returns-clause-low
returns-clause-low c =
    let long = c.raise_above.ensures.len ∙ ap length c.in-Some.ensures.value in
    record {
      sizes = λ h. ap (λ n. n ∷ []) long;
      whole = leaf_whole c.raise_above.new.aggregate c.raise_above.new.nodes (
        omega (arith, long, c.requires.low.whole.leaf.0),
        omega (arith, long, c.requires.low.whole.leaf.1),
      ) c.raise_above.ensures.reported;
    }

pub returns-clause-high : goal.returns-clause-high
returns-clause-high c =
    let ms : List Node = arc_value c.args.high.now.nodes in
    let a : InsertionView = c.args.add.now in
    let s = c.args.high.now.aggregate in
    let nh : List Node = c.raise_hinted.new.self in
    let is = raised_high (goal.at.returns-clause-high c).After-raise_hinted in
    let up : Lt a.from a.to = subst (λ (v : InsertionView). Lt v.from v.to) c.add.view_is
    c.add.invariant.0 in
    let long = ap length is ∙ raise_nodes-length (between (before []) a.to) a.value ms in
    let reached = reported_reached s.start s.joint a.value s.lazy (before []) a.to ms
    c.requires.high.sorted (Le_Lt-chain (before []) a.from a.to (lowest a.from) up)
    c.requires.reaches c.requires.high.whole.reported in
    record {
      sizes = λ h. ap (λ n. n ∷ []) long;
      whole = leaf_whole c.reach.new.self nh (
        omega (arith, long, c.requires.high.whole.leaf.0),
        omega (arith, long, c.requires.high.whole.leaf.1),
      )
          (reported_as s.start c.reach.new.self.start _ c.reach.new.self.joint _
          c.reach.new.self.lazy nh c.reach.ensures.start (c.reach.ensures.joint ∙
          ap (λ (v : InsertionView). joint s.joint (v.value ∷ [])) c.add.view_is)
          c.reach.ensures.lazy
          (subst (λ (ns : List Node). IsReportedOf s.start (joint s.joint (a.value ∷ [])) s.lazy ns)
          (sym is) reached));
    }
