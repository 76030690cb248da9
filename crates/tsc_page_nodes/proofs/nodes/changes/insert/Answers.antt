-- The node of the new key comes in, and then its value alone is raised.
use Rattle.std.proofs.Common.{◌≡◌, ◌∙◌, ◌<◌, refl, sym, ap, subst, ℕ, List, [], ◌∷◌, length, get_or, arith}
use Rattle.std.specs.Prelude.{Some}
use Rattle.tsc_time.specs.ValueView.{ValueView}
use Rattle.tsc_time.specs.Joint.{joint}
use Rattle.tsc_span.specs.Span.{KeyBytes, point}
use Rattle.tsc_page_nodes.specs.declared.nodes.Values.{Values}
use Rattle.tsc_page_nodes.specs.KeyAdds.{KeyInsertionView}
use Rattle.tsc_page_nodes.specs.Nodes.{Node, paired, IsSorted, StandsAt, FitsIn, with_new, raise_nodes}
use Rattle.tsc_page_nodes.proofs.Apart.{kept_pair, paired-length}
use Rattle.tsc_page_nodes.proofs.NewKeys.{new_fits, with_new_splits}
use Rattle.tsc_page_nodes.proofs.RaisedNodes.{with_both}
use Rattle.tsc_page_nodes.proofs.Searches.{new_at}
use Rattle.tsc_page_nodes.proofs.ReportedIndices.{stands_new}
use Rattle.tsc_page_nodes.proofs.KeyAdds.{raised_there}
use Rattle.tsc_page_nodes.proofs.nodes.changes.insert.Goals as goal

pub split-requires-clause-fits : goal.split-requires-clause-fits
split-requires-clause-fits c =
    let old : List Node = paired c.args.keys.now.items c.args.values.now.items in
    let kept = kept_pair _ c.reserve.new.self.items _ c.reserve-2.new.self.items old
    c.in_ok-reserve.ensures.items c.in_ok-reserve-2.ensures.items refl in
    let fresh = new_at old c.args.add.now.key c.args.index c.in_ok-copy.copy c.in_ok-copy.ensures
    c.requires.falls in
    subst (λ (ns : List Node). FitsIn ns (Some (c.args.index, c.in_ok-copy.copy))) (sym kept)
    (new_fits old (Some c.args.add.now.key) (Some (c.args.index, c.in_ok-copy.copy)) fresh)

pub split-requires-clause-room : goal.split-requires-clause-room
split-requires-clause-room c = record {
  key_room =
      omega (arith, c.in_ok-reserve.ensures.capacity, c.in_ok-reserve.ensures);
  value_room =
      omega (arith, c.in_ok-reserve-2.ensures);
}

pub index_mut-requires : goal.index_mut-requires
index_mut-requires c =
    let k : KeyBytes = c.args.add.now.key in
    let i : ℕ = c.args.index in
    let old : List Node = paired c.args.keys.now.items c.args.values.now.items in
    let kept = kept_pair _ c.reserve.new.self.items _ c.reserve-2.new.self.items old
    c.in_ok-reserve.ensures.items c.in_ok-reserve-2.ensures.items refl in
    let fresh = new_at old k i k refl c.requires.falls in
    let ks : List KeyBytes = c.split.new.keys.items in
    let vs : List Values = c.split.new.values.items in
    let mid : paired ks vs ≡ with_new old (Some (i, k)) = c.split.ensures.inserted ∙
    ap (λ (q : KeyBytes). with_new (paired c.reserve.new.self.items c.reserve-2.new.self.items)
    (Some (i, q))) c.in_ok-copy.ensures ∙
    ap (λ (ns : List Node). with_new ns (Some (i, k))) kept in
    let stands : StandsAt (paired ks vs) k i =
    subst (λ (ns : List Node). StandsAt ns k i) (sym mid) (stands_new old k (i, k) fresh) in
    omega (arith, stands.bound, paired-length ks vs c.split.ensures.same, c.split.new.values.ok.0)

pub returns-clause-added : goal.returns-clause-added
returns-clause-added c =
    let k : KeyBytes = c.args.add.now.key in
    let v : ValueView = c.args.add.now.value in
    let i : ℕ = c.args.index in
    let old : List Node = paired c.args.keys.now.items c.args.values.now.items in
    let kept = kept_pair _ c.reserve.new.self.items _ c.reserve-2.new.self.items old
    c.in_ok-reserve.ensures.items c.in_ok-reserve-2.ensures.items refl in
    let fresh = new_at old k i k refl c.requires.falls in
    let ks : List KeyBytes = c.split.new.keys.items in
    let vs : List Values = c.split.new.values.items in
    let mid : paired ks vs ≡ with_new old (Some (i, k)) = c.split.ensures.inserted ∙
    ap (λ (q : KeyBytes). with_new (paired c.reserve.new.self.items c.reserve-2.new.self.items)
    (Some (i, q))) c.in_ok-copy.ensures ∙
    ap (λ (ns : List Node). with_new ns (Some (i, k))) kept in
    let sorted : IsSorted (paired ks vs) =
    subst IsSorted (sym mid) (with_new_splits old (Some k) (Some (i, k)) c.requires.sorted
    fresh).sorted in
    let stands : StandsAt (paired ks vs) k i =
    subst (λ (ns : List Node). StandsAt ns k i) (sym mid) (stands_new old k (i, k) fresh) in
    let within : i < length vs = omega
    (arith, stands.bound, paired-length ks vs c.split.ensures.same) in
    let d : Values = c.index_mut.result.now in
    let written : d ≡ get_or vs i d = c.index_mut.ensures.value in
    let value : c.raise.new.self ≡ joint (get_or vs i d).value (v ∷ []) = c.raise.ensures.joint ∙
    ap (λ (w : ValueView). joint d.value (w ∷ [])) (ap (λ (a : KeyInsertionView). a.value) c.add.view_is) ∙
    ap (λ (w : Values). joint w.value (v ∷ [])) written in
    let is = with_both (λ (w : Values) (u : ValueView). record { value = u; gap = w.gap }) written
    value in
    raised_there ks vs k i v _ d c.split.ensures.same sorted stands within is ∙
    ap (raise_nodes (point k) v) mid
