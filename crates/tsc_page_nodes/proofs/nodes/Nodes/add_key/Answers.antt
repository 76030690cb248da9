-- A key that has a node is raised where it stands.
use Rattle.std.proofs.Common.{◌≡◌, ◌∙◌, ◌<◌, sym, ap, subst, ℕ, List, [], ◌∷◌, length, get_or, arith}
use Rattle.std.specs.Arc.{arc_value}
use Rattle.tsc_time.specs.ValueView.{ValueView}
use Rattle.tsc_time.specs.Joint.{joint}
use Rattle.tsc_span.specs.Span.{KeyBytes, point}
use Rattle.tsc_page_nodes.specs.declared.nodes.Values.{Values}
use Rattle.tsc_page_nodes.specs.KeyAdds.{KeyInsertionView}
use Rattle.tsc_page_nodes.specs.Nodes.{Node, paired, IsSorted, StandsAt, raise_nodes}
use Rattle.tsc_page_nodes.proofs.Apart.{paired-length}
use Rattle.tsc_page_nodes.proofs.RaisedNodes.{with_both}
use Rattle.tsc_page_nodes.proofs.KeyAdds.{raised_there, known_added}
use Rattle.tsc_page_nodes.proofs.PairedOrder.{paired_raised}
use Rattle.std.proofs.lemmas.List.{length-set}
use Rattle.tsc_page_nodes.proofs.nodes.Nodes.add_key.Goals as goal

pub index_mut-requires : goal.index_mut-requires
index_mut-requires c =
    let ks : List KeyBytes = (arc_value c.self.inside.keys).items in
    let vs : List Values = c.self.inside.values.items in
    omega (
      arith,
      c.in-Ok.ensures.bound,
      ap length c.lists.ensures,
      ap length c.self.view_is,
      paired-length ks vs c.self.invariant.same,
      c.self.inside.values.ok.0,
    )

pub returns-in-Ok : goal.returns-in-Ok
returns-in-Ok c =
    let k : KeyBytes = c.args.add.now.key in
    let v : ValueView = c.args.add.now.value in
    let i : ℕ = c.in-Ok.index in
    let ns : List Node = c.args.self.now in
    let ks : List KeyBytes = (arc_value c.self.inside.keys).items in
    let vs : List Values = c.self.inside.values.items in
    let stands : StandsAt ns k i =
    subst (λ (q : KeyBytes). StandsAt ns q i) c.search.ensures
    (subst (λ (ms : List Node). StandsAt ms c.search.result.now i) c.lists.ensures
    c.in-Ok.ensures) in
    let here : StandsAt (paired ks vs) k i =
    subst (λ (ms : List Node). StandsAt ms k i) (sym c.self.view_is) stands in
    let sorted : IsSorted (paired ks vs) = subst IsSorted (sym c.self.view_is) (subst IsSorted c.self.view_is c.self.invariant.sorted) in
    let within : i < length vs = omega (arith, here.bound, paired-length ks vs c.self.invariant.same) in
    let d : Values = c.index_mut.result.now in
    let written : d ≡ get_or vs i d = c.index_mut.ensures.value in
    let value : c.raise.new.self ≡ joint (get_or vs i d).value (v ∷ []) = c.raise.ensures.joint ∙
    ap (λ (w : ValueView). joint d.value (w ∷ [])) (ap (λ (a : KeyInsertionView). a.value) c.add.view_is) ∙
    ap (λ (w : Values). joint w.value (v ∷ [])) written in
    let is = with_both (λ (w : Values) (u : ValueView). record { value = u; gap = w.gap }) written
    value in
    let raised = raised_there ks vs k i v _ d c.self.invariant.same sorted here within is ∙
    ap (raise_nodes (point k) v) c.self.view_is in
    record { reported = known_added ns _ k v i c.args.room (subst IsSorted c.self.view_is c.self.invariant.sorted) stands raised }

pub invariant_of-self : goal.invariant_of-self
invariant_of-self c =
    let k : KeyBytes = c.args.add.now.key in
    let v : ValueView = c.args.add.now.value in
    let i : ℕ = c.in-Ok.index in
    let ns : List Node = c.args.self.now in
    let ks : List KeyBytes = (arc_value c.self.inside.keys).items in
    let vs : List Values = c.self.inside.values.items in
    let stands : StandsAt ns k i =
    subst (λ (q : KeyBytes). StandsAt ns q i) c.search.ensures
    (subst (λ (ms : List Node). StandsAt ms c.search.result.now i) c.lists.ensures
    c.in-Ok.ensures) in
    let here : StandsAt (paired ks vs) k i =
    subst (λ (ms : List Node). StandsAt ms k i) (sym c.self.view_is) stands in
    let within : i < length vs =
    omega (arith, here.bound, paired-length ks vs c.self.invariant.same) in
    let d : Values = c.index_mut.result.now in
    let written : d ≡ get_or vs i d = c.index_mut.ensures.value in
    let value : c.raise.new.self ≡ joint (get_or vs i d).value (v ∷ []) = c.raise.ensures.joint ∙
    ap (λ (w : ValueView). joint d.value (w ∷ [])) (ap (λ (a : KeyInsertionView). a.value) c.add.view_is) ∙
    ap (λ (w : Values). joint w.value (v ∷ [])) written in
    let is = with_both (λ (w : Values) (u : ValueView). record { value = u; gap = w.gap }) written
    value in
    paired_raised ks _ (point k) v (paired ks vs)
    (c.self.invariant.same ∙
    sym (length-set vs i (record { value = c.raise.new.self; gap = d.gap })))
    (raised_there ks vs k i v _ d c.self.invariant.same c.self.invariant.sorted here within is)
    c.self.invariant.sorted
