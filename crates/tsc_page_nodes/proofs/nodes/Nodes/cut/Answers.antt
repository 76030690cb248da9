-- Of both lists the first 32 stay, and the others come off.
use Rattle.std.proofs.Common.{◌≡◌, ◌∙◌, inl, inr, ap, List, length, take, drop, arith, rules, refl}
use Rattle.std.specs.Arc.{arc_value}
use Rattle.tsc_span.specs.Span.{KeyBytes}
use Rattle.tsc_page_nodes.specs.declared.nodes.Values.{Values}
use Rattle.tsc_page_nodes.specs.Nodes.{Node, paired}
use Rattle.tsc_page_nodes.proofs.Apart.{long_as, paired-take, paired-drop, cloned_keys}
use Rattle.tsc_page_nodes.proofs.PairedOrder.{paired_as, paired_take, paired_drop, on_err}
use Rattle.tsc_page_nodes.proofs.nodes.Nodes.cut.Goals as goal

pub split_at-requires : goal.split_at-requires
split_at-requires c =
    let long = long_as (arc_value c.self.inside.keys).items c.self.inside.values.items
    c.args.self.now c.self.invariant.same c.self.view_is in
    omega (arith, long, c.self.invariant.same, c.requires.long, ap length c.as_slice.ensures.value)

pub split_off-requires : goal.split_off-requires
split_off-requires c =
    let long = long_as (arc_value c.self.inside.keys).items c.self.inside.values.items
    c.args.self.now c.self.invariant.same c.self.view_is in
    let same : c.in_ok-make_mut.field-0.now.items ≡ (arc_value c.self.inside.keys).items =
    elim c.in_ok-make_mut.ensures.value
    [ inl h ↦ ap (λ v. v.items) h | inr h ↦ cloned_keys _ _ h.0 ] in
    omega (arith, long, c.requires.long, ap length same, c.in_ok-make_mut.field-0.now.ok.0)

pub returns-clause-kept : goal.returns-clause-kept
returns-clause-kept c =
    let keys : List KeyBytes = (arc_value c.self.inside.keys).items in
    let values : List Values = c.self.inside.values.items in
    let same : c.in_ok-make_mut.field-0.now.items ≡ keys =
    elim c.in_ok-make_mut.ensures.value
    [ inl h ↦ ap (λ v. v.items) h | inr h ↦ cloned_keys _ _ h.0 ] in
    let w = c.split_off.new.self in
    let kept : (c.make_mut.follows.lender w).value.items ≡ take 32 keys =
    ap (λ v. v.items) (c.make_mut.follows.holds w (search rules)) ∙ c.in_ok-keys.ensures.items ∙
    ap (λ (ks : List KeyBytes). take 32 ks) same in
    ap (λ (ks : List KeyBytes). paired ks c.truncate.new.self.items) kept ∙
    ap (λ (vs : List Values). paired (take 32 keys) vs) c.truncate.ensures.items ∙
    paired-take 32 keys values ∙ ap (λ (ns : List Node). take 32 ns) c.self.view_is

pub returns-clause-rest : goal.returns-clause-rest
returns-clause-rest c =
    let keys : List KeyBytes = (arc_value c.self.inside.keys).items in
    let values : List Values = c.self.inside.values.items in
    let same : c.in_ok-make_mut.field-0.now.items ≡ keys =
    elim c.in_ok-make_mut.ensures.value
    [ inl h ↦ ap (λ v. v.items) h | inr h ↦ cloned_keys _ _ h.0 ] in
    let rest : c.in_ok-new.field-0.value.items ≡ drop 32 keys =
    ap (λ v. v.items) c.in_ok-new.ensures.ok ∙ c.in_ok-keys.ensures.tail ∙
    ap (λ (ks : List KeyBytes). drop 32 ks) same in
    let others : c.in_ok-values.values.items ≡ drop 32 values = c.in_ok-values.ensures.items ∙
    c.split_at.ensures.back ∙ ap (λ (vs : List Values). drop 32 vs) c.as_slice.ensures.value in
    ap (λ (ks : List KeyBytes). paired ks c.in_ok-values.values.items) rest ∙
    ap (λ (vs : List Values). paired (drop 32 keys) vs) others ∙
    paired-drop 32 keys values c.self.invariant.same ∙
    ap (λ (ns : List Node). drop 32 ns) c.self.view_is

pub invariant_of-self : goal.invariant_of-self
invariant_of-self c =
    let left = on_err c.make_mut.result _ _ c.in_err-make_mut.was
    c.make_mut.follows.holds-at-none in
    let same : (arc_value c.make_mut.follows.lender-at-none).items ≡
    (arc_value c.self.inside.keys).items =
    elim left [ inl h ↦ ap (λ v. v.items) h | inr h ↦ cloned_keys _ _ h.0 ] in
    paired_as _ (arc_value c.self.inside.keys).items _ c.self.inside.values.items same refl
    c.self.invariant

pub invariant_of-self-in_err-keys : goal.invariant_of-self-in_err-keys
invariant_of-self-in_err-keys c =
    let keys : List KeyBytes = (arc_value c.self.inside.keys).items in
    let same : c.in_ok-make_mut.field-0.now.items ≡ keys =
    elim c.in_ok-make_mut.ensures.value
    [ inl h ↦ ap (λ v. v.items) h | inr h ↦ cloned_keys _ _ h.0 ] in
    let w = c.split_off.new.self in
    let held : (c.make_mut.follows.lender w).value.items ≡ keys =
    ap (λ v. v.items) (c.make_mut.follows.holds w (search rules)) ∙
    ap (λ v. v.items) c.in_err-keys.ensures.err ∙ same in
    paired_as _ keys _ c.self.inside.values.items held refl c.self.invariant

pub invariant_of-self-in_err-new : goal.invariant_of-self-in_err-new
invariant_of-self-in_err-new c =
    let keys : List KeyBytes = (arc_value c.self.inside.keys).items in
    let values : List Values = c.self.inside.values.items in
    let same : c.in_ok-make_mut.field-0.now.items ≡ keys =
    elim c.in_ok-make_mut.ensures.value
    [ inl h ↦ ap (λ v. v.items) h | inr h ↦ cloned_keys _ _ h.0 ] in
    let w = c.split_off.new.self in
    let kept : (c.make_mut.follows.lender w).value.items ≡ take 32 keys =
    ap (λ v. v.items) (c.make_mut.follows.holds w (search rules)) ∙ c.in_ok-keys.ensures.items ∙
    ap (λ (ks : List KeyBytes). take 32 ks) same in
    paired_as _ (take 32 keys) _ (take 32 values) kept c.truncate.ensures.items
    (paired_take 32 keys values c.self.invariant)

pub invariant_of-self-2 : goal.invariant_of-self-2
invariant_of-self-2 c =
    let keys : List KeyBytes = (arc_value c.self.inside.keys).items in
    let values : List Values = c.self.inside.values.items in
    let same : c.in_ok-make_mut.field-0.now.items ≡ keys =
    elim c.in_ok-make_mut.ensures.value
    [ inl h ↦ ap (λ v. v.items) h | inr h ↦ cloned_keys _ _ h.0 ] in
    let w = c.split_off.new.self in
    let kept : (c.make_mut.follows.lender w).value.items ≡ take 32 keys =
    ap (λ v. v.items) (c.make_mut.follows.holds w (search rules)) ∙ c.in_ok-keys.ensures.items ∙
    ap (λ (ks : List KeyBytes). take 32 ks) same in
    paired_as _ (take 32 keys) _ (take 32 values) kept c.truncate.ensures.items
    (paired_take 32 keys values c.self.invariant)

pub invariant_of-result : goal.invariant_of-result
invariant_of-result c =
    let keys : List KeyBytes = (arc_value c.self.inside.keys).items in
    let values : List Values = c.self.inside.values.items in
    let same : c.in_ok-make_mut.field-0.now.items ≡ keys =
    elim c.in_ok-make_mut.ensures.value
    [ inl h ↦ ap (λ v. v.items) h | inr h ↦ cloned_keys _ _ h.0 ] in
    let rest : c.in_ok-new.field-0.value.items ≡ drop 32 keys =
    ap (λ v. v.items) c.in_ok-new.ensures.ok ∙ c.in_ok-keys.ensures.tail ∙
    ap (λ (ks : List KeyBytes). drop 32 ks) same in
    let others : c.in_ok-values.values.items ≡ drop 32 values = c.in_ok-values.ensures.items ∙
    c.split_at.ensures.back ∙ ap (λ (vs : List Values). drop 32 vs) c.as_slice.ensures.value in
    paired_as _ (drop 32 keys) _ (drop 32 values) rest others
    (paired_drop 32 keys values c.self.invariant)
