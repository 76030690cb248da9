-- Each key and each gap between the cuts is met once.
use Rattle.std.proofs.Common.{◌≡◌, ◌∙◌, refl, ◌<◌, ◌+◌, ◌⊎◌, sym, ap, subst, ℕ, List, [], ◌∷◌, length, get_or, arith}
use Rattle.std.specs.Arc.{arc_value}
use Rattle.tsc_time.specs.ValueView.{ValueView}
use Rattle.tsc_time.specs.Joint.{joint}
use Rattle.tsc_span.specs.Span.{KeyBytes, SpanView, between}
use Rattle.tsc_page_nodes.specs.declared.nodes.Values.{Values}
use Rattle.tsc_page_nodes.specs.Nodes.{Node, HoldsKeysOn, HoldsGapsOn}
use Rattle.tsc_page_nodes.proofs.Indices.{some_node}
use Rattle.tsc_page_nodes.proofs.Seen.{IsJointOf, KeySeen, KeyMet, GapSeen, key_seen, gap_seen, keys_met, all_seen}
use Rattle.tsc_page_nodes.proofs.Apart.{long_as, value_at, gap_at}
use Rattle.tsc_page_nodes.proofs.nodes.Nodes.join_between.Goals as goal

pub index-requires : goal.index-requires
index-requires c =
    let long = long_as (arc_value c.self.inside.keys).items c.self.inside.values.items
    c.args.self.now c.self.invariant.same c.self.view_is in
    omega (
      arith,
      long,
      c.self.invariant.same,
      c.self.inside.values.ok.0,
      c.in-Some.ensures.steps,
      c.loop-index.invariant.0.bound,
    )

pub index-requires-in-loop-index-2 : goal.index-requires-in-loop-index-2
index-requires-in-loop-index-2 c =
    let long = long_as (arc_value c.self.inside.keys).items c.self.inside.values.items
    c.args.self.now c.self.invariant.same c.self.view_is in
    omega (
      arith,
      long,
      c.self.invariant.same,
      c.self.inside.values.ok.0,
      c.in-Some-index.ensures.steps,
      c.loop-index-2.invariant.0.bound,
    )

pub loop-index-preserved : goal.loop-index-preserved
loop-index-preserved c =
    let nodes : List Node = c.args.self.now in
    let keys : List KeyBytes = (arc_value c.self.inside.keys).items in
    let values : List Values = c.self.inside.values.items in
    let first : ℕ = c.into_iter-index-iterator.result.start in
    let i : ℕ = c.loop-index.index-iterator.start in
    let steps = c.in-Some.ensures.steps in
    let so_far = c.loop-index.invariant in
    let d : Values = c.index.result.now in
    let within : i < length nodes = omega (arith, steps, so_far.0.bound) in
    let inside : i < length values =
    omega (
      arith,
      within,
      c.self.invariant.same,
      long_as keys values nodes c.self.invariant.same c.self.view_is,
    ) in
    let value : d.value ≡ (get_or nodes i some_node).value =
    ap (λ (v : Values). v.value) (c.index.ensures ∙ ap (λ (j : ℕ). get_or values j d) steps.1.1)
    ∙ sym (value_at keys values nodes c.self.invariant.same c.self.view_is i some_node d inside) in
    let best = c.raise.ensures.joint ∙
    ap (λ (w : ValueView). joint c.loop-index.best (w ∷ [])) value in (
      record {
        low = omega (arith, steps, so_far.0.low);
        order = omega (arith, steps);
        bound = omega (arith, steps, so_far.0.bound);
      },
      steps.0 ∙ so_far.1,
      subst (λ (j : ℕ). IsJointOf (KeySeen nodes first j) c.raise.new.self) (sym steps.1.2)
          (subst (IsJointOf (KeySeen nodes first (i + 1))) (sym best)
          (key_seen nodes first i some_node c.loop-index.best so_far.0.low within so_far.2)),
    )

pub loop-index-2-init : goal.loop-index-2-init
loop-index-2-init c =
    let nodes : List Node = c.args.self.now in
    let span : SpanView = between c.args.from.now c.args.to.now in
    let steps = c.in-None.ensures.steps in
    let so_far = c.loop-index.invariant in
    let of_gaps = subst (λ (ns : List Node). HoldsGapsOn ns span c.indices_between.result.1.start
    c.indices_between.result.1.end) c.lists.ensures c.indices_between.ensures.gaps in
    let of_keys = subst (λ (ns : List Node). HoldsKeysOn ns span c.indices_between.result.0.start
    c.indices_between.result.0.end) c.lists.ensures c.indices_between.ensures.keys in
    let gaps = subst (λ r. HoldsGapsOn nodes span r.start r.end)
    (sym c.into_iter-index-iterator-2.ensures.into_iter_gives) of_gaps in
    let keys = subst (λ r. HoldsKeysOn nodes span r.start r.end)
    (sym c.into_iter-index-iterator.ensures.into_iter_gives) of_keys in
    let done : c.loop-index.index-iterator.start ≡ c.into_iter-index-iterator.result.end =
    omega (arith, steps, so_far.0.order, so_far.1) in
    let all = subst (λ (j : ℕ). IsJointOf (KeySeen nodes c.into_iter-index-iterator.result.start j)
    c.loop-index.best) done so_far.2 in (
      record { low = omega arith; order = gaps.order; bound = gaps.bound },
      refl,
      keys_met nodes span c.into_iter-index-iterator.result.start
          c.into_iter-index-iterator.result.end c.into_iter-index-iterator-2.result.start
          c.loop-index.best keys all,
    )

pub loop-index-2-preserved : goal.loop-index-2-preserved
loop-index-2-preserved c =
    let nodes : List Node = c.args.self.now in
    let keys : List KeyBytes = (arc_value c.self.inside.keys).items in
    let values : List Values = c.self.inside.values.items in
    let span : SpanView = between c.args.from.now c.args.to.now in
    let first : ℕ = c.into_iter-index-iterator-2.result.start in
    let i : ℕ = c.loop-index-2.index-iterator.start in
    let steps = c.in-Some-index.ensures.steps in
    let so_far = c.loop-index-2.invariant in
    let d : Values = c.index-in-loop-index-2.result.now in
    let within : i < length nodes = omega (arith, steps, so_far.0.bound) in
    let inside : i < length values =
    omega (
      arith,
      within,
      c.self.invariant.same,
      long_as keys values nodes c.self.invariant.same c.self.view_is,
    ) in
    let value : d.gap ≡ (get_or nodes i some_node).gap =
    ap (λ (v : Values). v.gap)
    (c.index-in-loop-index-2.ensures ∙ ap (λ (j : ℕ). get_or values j d) steps.1.1) ∙
    sym (gap_at keys values nodes c.self.invariant.same c.self.view_is i some_node d inside) in
    let best = c.raise-in-loop-index-2.ensures.joint ∙
    ap (λ (w : ValueView). joint c.loop-index-2.best (w ∷ [])) value in (
      record {
        low = omega (arith, steps, so_far.0.low);
        order = omega (arith, steps);
        bound = omega (arith, steps, so_far.0.bound);
      },
      steps.0 ∙ so_far.1,
      subst (λ (j : ℕ). IsJointOf (λ w. KeyMet nodes span w ⊎ GapSeen nodes first j w)
          c.raise-in-loop-index-2.new.self) (sym steps.1.2)
          (subst (IsJointOf (λ w. KeyMet nodes span w ⊎ GapSeen nodes first (i + 1) w)) (sym best)
          (gap_seen nodes (KeyMet nodes span) first i some_node c.loop-index-2.best so_far.0.low
          within so_far.2)),
    )

pub returns : goal.returns
returns c =
    let nodes : List Node = c.args.self.now in
    let span : SpanView = between c.args.from.now c.args.to.now in
    let steps = c.in-None-index.ensures.steps in
    let so_far = c.loop-index-2.invariant in
    let of_gaps = subst (λ (ns : List Node). HoldsGapsOn ns span c.indices_between.result.1.start
    c.indices_between.result.1.end) c.lists.ensures c.indices_between.ensures.gaps in
    let gaps = subst (λ r. HoldsGapsOn nodes span r.start r.end)
    (sym c.into_iter-index-iterator-2.ensures.into_iter_gives) of_gaps in
    let done : c.loop-index-2.index-iterator.start ≡ c.into_iter-index-iterator-2.result.end =
    omega (arith, steps, so_far.0.order, so_far.1) in
    let all = subst (λ (j : ℕ). IsJointOf
    (λ w. KeyMet nodes span w ⊎ GapSeen nodes c.into_iter-index-iterator-2.result.start j w)
    c.loop-index-2.best) done so_far.2 in
    all_seen nodes span c.into_iter-index-iterator-2.result.start
    c.into_iter-index-iterator-2.result.end c.loop-index-2.best gaps all
