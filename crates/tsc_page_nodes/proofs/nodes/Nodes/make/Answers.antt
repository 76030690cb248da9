-- The keys stay as they are until nodes are made of the new ones, of the greater one first.
use Rattle.std.proofs.Common.{◌≡◌, ◌∙◌, inl, inr, sym, ap, subst, List, length, arith, rules, refl}
use Rattle.std.specs.Arc.{arc_value}
use Rattle.tsc_span.specs.Span.{KeyBytes}
use Rattle.tsc_page_nodes.specs.Nodes.{Node, paired, FitsIn, with_new, IsSorted}
use Rattle.tsc_page_nodes.proofs.Apart.{cloned_keys, kept_pair}
use Rattle.tsc_page_nodes.proofs.PairedOrder.{paired_as, paired_by, with_new-sorted, on_err}
use Rattle.tsc_page_nodes.proofs.nodes.Nodes.make.Goals as goal

pub split-requires-clause-fits : goal.split-requires-clause-fits
split-requires-clause-fits c =
    let same : c.in_ok-keys.keys.now.items ≡ (arc_value c.own_keys.new.keys).items =
    elim c.in_ok-keys.ensures.value
    [ inl h ↦ ap (λ v. v.items) h | inr h ↦ cloned_keys _ _ h.0 ] in
    let kept = kept_pair _ c.reserve.new.keys.items _ c.reserve.new.values.items c.args.self.now
    (c.in_ok-reserve.ensures.keys ∙ same ∙ c.own_keys.ensures) c.in_ok-reserve.ensures.values
    c.self.view_is in
    subst (λ (ns : List Node). FitsIn ns c.args.new.second) (sym kept) c.requires.second

pub split-requires-2-clause-fits : goal.split-requires-2-clause-fits
split-requires-2-clause-fits c =
    let same : c.in_ok-keys.keys.now.items ≡ (arc_value c.own_keys.new.keys).items =
    elim c.in_ok-keys.ensures.value
    [ inl h ↦ ap (λ v. v.items) h | inr h ↦ cloned_keys _ _ h.0 ] in
    let kept = kept_pair _ c.reserve.new.keys.items _ c.reserve.new.values.items c.args.self.now
    (c.in_ok-reserve.ensures.keys ∙ same ∙ c.own_keys.ensures) c.in_ok-reserve.ensures.values
    c.self.view_is in
    subst (λ (ns : List Node). FitsIn ns c.args.new.first)
    (sym (c.split.ensures.inserted ∙
    ap (λ (ns : List Node). with_new ns c.args.new.second) kept)) c.requires.first

pub invariant_of-self : goal.invariant_of-self
invariant_of-self c = paired_as _ (arc_value c.self.inside.keys).items _
    c.self.inside.values.items c.own_keys.ensures refl c.self.invariant

pub invariant_of-self-in_err-keys : goal.invariant_of-self-in_err-keys
invariant_of-self-in_err-keys c =
    let left = on_err c.make_mut.result _ _ c.in_err-keys.was c.make_mut.follows.holds-at-none in
    let same : (arc_value c.make_mut.follows.lender-at-none).items ≡
    (arc_value c.own_keys.new.keys).items =
    elim left [ inl h ↦ ap (λ v. v.items) h | inr h ↦ cloned_keys _ _ h.0 ] in
    paired_as _ (arc_value c.self.inside.keys).items _ c.self.inside.values.items
    (same ∙ c.own_keys.ensures) refl c.self.invariant

pub invariant_of-self-in_err-reserve : goal.invariant_of-self-in_err-reserve
invariant_of-self-in_err-reserve c =
    let same : c.in_ok-keys.keys.now.items ≡ (arc_value c.own_keys.new.keys).items =
    elim c.in_ok-keys.ensures.value
    [ inl h ↦ ap (λ v. v.items) h | inr h ↦ cloned_keys _ _ h.0 ] in
    let held = ap (λ v. v.items)
    (c.make_mut.follows.holds c.reserve.new.keys (search rules)) in
    paired_as _ (arc_value c.self.inside.keys).items _ c.self.inside.values.items
    (held ∙ c.reserve.ensures.keys ∙ same ∙ c.own_keys.ensures) c.reserve.ensures.values
    c.self.invariant

pub invariant_of-self-2 : goal.invariant_of-self-2
invariant_of-self-2 c =
    let same : c.in_ok-keys.keys.now.items ≡ (arc_value c.own_keys.new.keys).items =
    elim c.in_ok-keys.ensures.value
    [ inl h ↦ ap (λ v. v.items) h | inr h ↦ cloned_keys _ _ h.0 ] in
    let ns : List Node = c.args.self.now in
    let kept = kept_pair _ c.reserve.new.keys.items _ c.reserve.new.values.items ns
    (c.in_ok-reserve.ensures.keys ∙ same ∙ c.own_keys.ensures) c.in_ok-reserve.ensures.values
    c.self.view_is in
    let w = c.split-2.new.keys in
    let held : (c.make_mut.follows.lender w).value.items ≡ w.items =
    ap (λ v. v.items) (c.make_mut.follows.holds w (search rules)) in
    let once = with_new-sorted ns c.args.new.second
    (subst IsSorted c.self.view_is c.self.invariant.sorted) c.requires.second in
    paired_by _ _ (with_new (with_new ns c.args.new.second) c.args.new.first)
    (ap length held ∙ c.split-2.ensures.same)
    (ap (λ (ks : List KeyBytes). paired ks c.split-2.new.values.items) held ∙
    c.split-2.ensures.inserted
    ∙ ap (λ (ns : List Node). with_new ns c.args.new.first)
    (c.split.ensures.inserted ∙ ap (λ (ns : List Node). with_new ns c.args.new.second) kept))
    (with_new-sorted (with_new ns c.args.new.second) c.args.new.first once c.requires.first)

pub returns : goal.returns
returns c =
    let same : c.in_ok-keys.keys.now.items ≡ (arc_value c.own_keys.new.keys).items =
    elim c.in_ok-keys.ensures.value
    [ inl h ↦ ap (λ v. v.items) h | inr h ↦ cloned_keys _ _ h.0 ] in
    let kept = kept_pair _ c.reserve.new.keys.items _ c.reserve.new.values.items c.args.self.now
    (c.in_ok-reserve.ensures.keys ∙ same ∙ c.own_keys.ensures) c.in_ok-reserve.ensures.values
    c.self.view_is in
    let w = c.split-2.new.keys in
    let held : (c.make_mut.follows.lender w).value.items ≡ w.items =
    ap (λ v. v.items) (c.make_mut.follows.holds w (search rules)) in
    ap (λ (ks : List KeyBytes). paired ks c.split-2.new.values.items) held ∙
    c.split-2.ensures.inserted
    ∙ ap (λ (ns : List Node). with_new ns c.args.new.first)
    (c.split.ensures.inserted ∙ ap (λ (ns : List Node). with_new ns c.args.new.second) kept)

pub split-requires-clause-room : goal.split-requires-clause-room
split-requires-clause-room c = record {
  key_room = omega (arith, c.in_ok-reserve.ensures.key_room);
  value_room = omega (arith, c.in_ok-reserve.ensures.value_room);
}

pub split-requires-2-clause-room : goal.split-requires-2-clause-room
split-requires-2-clause-room c = c.split.ensures.room _
    (record {
      key_room = omega (arith, c.in_ok-reserve.ensures.key_room);
      value_room = omega (arith, c.in_ok-reserve.ensures.value_room);
    })
