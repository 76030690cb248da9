-- Keys with nodes have no places, so there is nothing to make.
use Rattle.std.proofs.Common.{refl, subst, ◌-◌, ◌^◌, ◌<◌, List, length, arith}
use Rattle.std.specs.Prelude.{Option, option_map, is_some}
use Rattle.std.specs.Arc.{arc_value}
use Rattle.tsc_span.specs.Span.{KeyBytes}
use Rattle.tsc_page_nodes.specs.Nodes.{Node, IsNewKey, IsIndexReported, IsSorted}
use Rattle.tsc_page_nodes.proofs.Apart.{long_as}
use Rattle.tsc_page_nodes.proofs.NewKeys.{known_not_new}
use Rattle.tsc_page_nodes.proofs.ReportedIndices.{moved_within, first_stands, second_stands}
use Rattle.tsc_page_nodes.proofs.nodes.Nodes.new_keys.Goals as goal

pub returns-clause-known : goal.returns-clause-known
returns-clause-known c known =
    let nodes : List Node = c.args.self.now in
    let first : Option KeyBytes = option_map (λ k. k.now) c.args.first in
    let second : Option KeyBytes = option_map (λ k. k.now) c.args.second in
    let one = known_not_new nodes first c.in_ok-low.first (subst IsSorted c.self.view_is c.self.invariant.sorted)
    (subst (λ (ns : List Node). IsNewKey ns first c.in_ok-low.first) c.lists-lists.ensures
    c.in_ok-low.ensures.value) known.0 in
    let two = known_not_new nodes second c.in_ok-high.second (subst IsSorted c.self.view_is c.self.invariant.sorted)
    (subst (λ (ns : List Node). IsNewKey ns second c.in_ok-high.second) c.lists-lists.ensures
    c.in_ok-high.ensures.value) known.1 in
    rw (one, two) refl

pub returns-clause-hint : goal.returns-clause-hint
returns-clause-hint c order =
    let nodes : List Node = c.args.self.now in
    let first : Option KeyBytes = option_map (λ k. k.now) c.args.first in
    let second : Option KeyBytes = option_map (λ k. k.now) c.args.second in
    let f = c.in_ok-low.first in
    let g = c.in_ok-high.second in
    let new = subst (λ (ns : List Node). IsNewKey ns first f) c.lists-lists.ensures
    c.in_ok-low.ensures.value in
    let other = subst (λ (ns : List Node). IsNewKey ns second g) c.lists-lists.ensures
    c.in_ok-high.ensures.value in
    let low = subst (λ (ns : List Node). IsIndexReported ns first f c.in_ok-low.low)
    c.lists-lists.ensures c.in_ok-low.ensures.index in
    let high = subst (λ (ns : List Node). IsIndexReported ns second g c.in_ok-high.high)
    c.lists-lists.ensures c.in_ok-high.ensures.index in
    let long = long_as (arc_value c.self.inside.keys).items c.self.inside.values.items nodes
    c.self.invariant.same c.self.view_is in
    let few : length nodes < 2 ^ 64 - 1 =
    omega (arith, long, c.self.invariant.same, c.self.inside.values.ok.0) in (
      first_stands nodes (subst IsSorted c.self.view_is c.self.invariant.sorted) first second f g c.in_ok-low.low order new other low,
      second_stands nodes (subst IsSorted c.self.view_is c.self.invariant.sorted) first second f g c.in_ok-high.high c.moved.result order
          new other high c.moved.ensures.none
          (moved_within (length nodes) c.in_ok-high.high c.moved.result c.is_some.result (is_some f)
          few c.is_some.ensures c.moved.ensures.moved),
    )
