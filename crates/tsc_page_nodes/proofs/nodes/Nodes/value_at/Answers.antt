-- The key stands at one place, or falls in one gap.
use Rattle.std.proofs.Common.{◌≡◌, ◌∙◌, ◌≤◌, ◌<◌, ◌-◌, sym, ap, subst, ℕ, List, [], ◌∷◌, length, get_or, arith}
use Rattle.std.specs.Arc.{arc_value}
use Rattle.tsc_time.specs.Time.{zero_time}
use Rattle.tsc_time.specs.ValueView.{ValueView, unowned}
use Rattle.tsc_time.specs.Joint.{joint}
use Rattle.tsc_span.specs.Span.{KeyBytes}
use Rattle.tsc_page_nodes.specs.declared.nodes.Values.{Values}
use Rattle.tsc_page_nodes.specs.Nodes.{Node, StandsAt, FallsAt, IsSorted}
use Rattle.tsc_page_nodes.proofs.Indices.{some_node}
use Rattle.tsc_page_nodes.proofs.Apart.{long_as, value_at, gap_at}
use Rattle.tsc_page_nodes.proofs.KeyLookups.{value_there, value_between, value_below}
use Rattle.tsc_page_nodes.proofs.nodes.Nodes.value_at.Goals as goal

pub index-requires : goal.index-requires
index-requires c =
    let long = long_as (arc_value c.self.inside.keys).items c.self.inside.values.items
    c.args.self.now c.self.invariant.same c.self.view_is in
    omega (
      arith,
      long,
      c.self.invariant.same,
      c.self.inside.values.ok.0,
      c.in-Ok.ensures.bound,
      ap length c.lists.ensures,
    )

pub index-requires-in-Err : goal.index-requires-in-Err
index-requires-in-Err c =
    let long = long_as (arc_value c.self.inside.keys).items c.self.inside.values.items
    c.args.self.now c.self.invariant.same c.self.view_is in
    omega (
      arith,
      long,
      c.self.invariant.same,
      c.self.inside.values.ok.0,
      c.in-Err.ensures.low.bound,
      ap length c.lists.ensures,
    )

pub returns-in-Ok : goal.returns-in-Ok
returns-in-Ok c =
    let ns : List Node = c.args.self.now in
    let k : KeyBytes = c.args.key.now in
    let i : ℕ = c.in-Ok.index in
    let ks : List KeyBytes = (arc_value c.self.inside.keys).items in
    let vs : List Values = c.self.inside.values.items in
    let stands : StandsAt ns k i =
    subst (λ (ms : List Node). StandsAt ms k i) c.lists.ensures c.in-Ok.ensures in
    let within : i < length vs = omega
    (arith, stands.bound, c.self.invariant.same, long_as ks vs ns c.self.invariant.same c.self.view_is) in
    let d : Values = c.index.result.now in
    let value : d.value ≡ (get_or ns i some_node).value =
    ap (λ (v : Values). v.value) c.index.ensures ∙
    sym (value_at ks vs ns c.self.invariant.same c.self.view_is i some_node d within) in
    c.raise.ensures.joint ∙ ap (λ (w : ValueView). joint w (d.value ∷ [])) c.unowned-best.ensures ∙
    ap (λ (w : ValueView). joint (unowned zero_time) (w ∷ [])) value
    ∙ value_there ns k i some_node (subst IsSorted c.self.view_is c.self.invariant.sorted) stands

pub returns-in-Err-eq0 : goal.returns-in-Err-eq0
returns-in-Err-eq0 c =
    let ns : List Node = c.args.self.now in
    let k : KeyBytes = c.args.key.now in
    let i : ℕ = c.in-Err-eq0.field-0 in
    let falls : FallsAt ns k i =
    subst (λ (ms : List Node). FallsAt ms k i) c.lists.ensures c.in-Err-eq0.ensures in
    c.unowned-best.ensures ∙ value_below ns k i (subst IsSorted c.self.view_is c.self.invariant.sorted) c.in-Err-eq0.field-0-test falls

pub returns-in-Err : goal.returns-in-Err
returns-in-Err c =
    let ns : List Node = c.args.self.now in
    let k : KeyBytes = c.args.key.now in
    let i : ℕ = c.in-Err.index in
    let ks : List KeyBytes = (arc_value c.self.inside.keys).items in
    let vs : List Values = c.self.inside.values.items in
    let falls : FallsAt ns k i =
    subst (λ (ms : List Node). FallsAt ms k i) c.lists.ensures c.in-Err.ensures in
    let some : 1 ≤ i = omega (arith, c.in-Err.index-test) in
    let within : i - 1 < length vs =
    omega (
      arith,
      some,
      falls.low.bound,
      c.self.invariant.same,
      long_as ks vs ns c.self.invariant.same c.self.view_is,
    ) in
    let d : Values = c.index-in-Err.result.now in
    let gap : d.gap ≡ (get_or ns (i - 1) some_node).gap =
    ap (λ (v : Values). v.gap) c.index-in-Err.ensures ∙
    sym (gap_at ks vs ns c.self.invariant.same c.self.view_is (i - 1) some_node d within) in
    c.raise-in-Err.ensures.joint ∙
    ap (λ (w : ValueView). joint w (d.gap ∷ [])) c.unowned-best.ensures ∙
    ap (λ (w : ValueView). joint (unowned zero_time) (w ∷ [])) gap
    ∙ value_between ns k i some_node (subst IsSorted c.self.view_is c.self.invariant.sorted) some falls
