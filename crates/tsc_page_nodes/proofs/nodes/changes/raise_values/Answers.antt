-- The keys and then the gaps between the cuts are raised, each once.
use Rattle.std.proofs.Common.{◌≡◌, ◌∙◌, ◌<◌, ◌+◌, refl, sym, ap, subst, ℕ, List, [], ◌∷◌, length, get_or, set, arith}
use Rattle.std.proofs.lemmas.List.{length-set}
use Rattle.tsc_time.specs.ValueView.{ValueView}
use Rattle.tsc_time.specs.Joint.{joint}
use Rattle.tsc_span.specs.Span.{KeyBytes, SpanView, between}
use Rattle.tsc_page_nodes.specs.declared.nodes.Values.{Values}
use Rattle.tsc_page_nodes.specs.Nodes.{Node, paired, HoldsKeysOn, HoldsGapsOn}
use Rattle.tsc_page_nodes.proofs.RaisedNodes.{ChangesIndices, key_raised, gap_raised, none_changed, with_both, both_changed}
use Rattle.tsc_page_nodes.proofs.Apart.{paired-length, key_changed, gap_changed}
use Rattle.tsc_page_nodes.proofs.PairedOrder.{paired_as}
use Rattle.tsc_page_nodes.proofs.nodes.changes.raise_values.Goals as goal

pub loop-index-init : goal.loop-index-init
loop-index-init c =
    let keys : List KeyBytes = c.args.keys.now in
    let values : List Values = c.args.values.now.items in
    let span : SpanView = between c.args.from.now c.args.to.now in
    let found = subst (λ (vs : List Values). HoldsKeysOn (paired keys vs) span
    c.indices_between.result.0.start c.indices_between.result.0.end) c.as_slice.ensures.value
    c.indices_between.ensures.keys in
    let on = subst (λ r. HoldsKeysOn (paired keys values) span r.start r.end)
    (sym c.into_iter-index-iterator.ensures.into_iter_gives) found in (
      record {
        low = omega arith;
        order = on.order;
        bound = omega (arith, on.bound, paired-length keys values c.requires.same);
      },
      refl,
      c.requires.same,
      none_changed (key_raised c.args.value) (paired keys values)
          c.into_iter-index-iterator.result.start,
    )

pub loop-index-preserved : goal.loop-index-preserved
loop-index-preserved c =
    let keys : List KeyBytes = c.args.keys.now in
    let old : List Node = paired keys c.args.values.now.items in
    let now : List Values = c.loop-index.values.items in
    let first : ℕ = c.into_iter-index-iterator.result.start in
    let i : ℕ = c.loop-index.index-iterator.start in
    let index : ℕ = c.in-Some.index in
    let steps = c.in-Some.ensures.steps in
    let so_far = c.loop-index.invariant in
    let d : Values = c.index_mut.result.now in
    let within : i < length now = omega (arith, steps, so_far.0.bound) in
    let written : d ≡ get_or now i d = c.index_mut.ensures.value ∙
    ap (λ (j : ℕ). get_or now j d) steps.1.1 in
    let value : c.raise.new.self ≡ joint (get_or now i d).value (c.args.value ∷ []) =
    c.raise.ensures.joint ∙ ap (λ (v : Values). joint v.value (c.args.value ∷ [])) written in
    let n : Values = record { value = c.raise.new.self; gap = d.gap } in
    let is = with_both (λ (v : Values) (w : ValueView). record { value = w; gap = v.gap }) written
    value in
    let changed = key_changed c.args.value old keys now first i n d so_far.2 so_far.0.low within is
    so_far.3 in (
      record {
        low = omega (arith, steps, so_far.0.low);
        order = omega (arith, steps);
        bound = omega (arith, steps, so_far.0.bound, length-set now index n);
      },
      steps.0 ∙ so_far.1,
      so_far.2 ∙ sym (length-set now index n),
      subst (λ (j : ℕ). ChangesIndices (key_raised c.args.value) old (paired keys (set now index n))
          first j) (sym steps.1.2)
          (subst (λ (j : ℕ). ChangesIndices (key_raised c.args.value) old
          (paired keys (set now j n)) first (i + 1)) (sym steps.1.1) changed),
    )

pub loop-index-2-init : goal.loop-index-2-init
loop-index-2-init c =
    let keys : List KeyBytes = c.args.keys.now in
    let values : List Values = c.args.values.now.items in
    let mid : List Values = c.loop-index.values.items in
    let so_far = c.loop-index.invariant in
    let span : SpanView = between c.args.from.now c.args.to.now in
    let found = subst (λ (vs : List Values). HoldsGapsOn (paired keys vs) span
    c.indices_between.result.1.start c.indices_between.result.1.end) c.as_slice.ensures.value
    c.indices_between.ensures.gaps in
    let on = subst (λ r. HoldsGapsOn (paired keys values) span r.start r.end)
    (sym c.into_iter-index-iterator-2.ensures.into_iter_gives) found in (
      record {
        low = omega arith;
        order = on.order;
        bound = omega (
          arith,
          on.bound,
          paired-length keys values c.requires.same,
          c.requires.same,
          so_far.2,
        );
      },
      refl,
      so_far.2,
      none_changed (gap_raised c.args.value) (paired keys mid)
          c.into_iter-index-iterator-2.result.start,
    )

pub loop-index-2-preserved : goal.loop-index-2-preserved
loop-index-2-preserved c =
    let keys : List KeyBytes = c.args.keys.now in
    let old : List Node = paired keys c.loop-index.values.items in
    let now : List Values = c.loop-index-2.values.items in
    let first : ℕ = c.into_iter-index-iterator-2.result.start in
    let i : ℕ = c.loop-index-2.index-iterator.start in
    let index : ℕ = c.in-Some-index.index in
    let steps = c.in-Some-index.ensures.steps in
    let so_far = c.loop-index-2.invariant in
    let d : Values = c.index_mut-in-loop-index-2.result.now in
    let within : i < length now = omega (arith, steps, so_far.0.bound) in
    let written : d ≡ get_or now i d = c.index_mut-in-loop-index-2.ensures.value ∙
    ap (λ (j : ℕ). get_or now j d) steps.1.1 in
    let value : c.raise-in-loop-index-2.new.self ≡ joint (get_or now i d).gap (c.args.value ∷ []) =
    c.raise-in-loop-index-2.ensures.joint ∙
    ap (λ (v : Values). joint v.gap (c.args.value ∷ [])) written in
    let n : Values = record { value = d.value; gap = c.raise-in-loop-index-2.new.self } in
    let is = with_both (λ (v : Values) (w : ValueView). record { value = v.value; gap = w }) written
    value in
    let changed = gap_changed c.args.value old keys now first i n d so_far.2 so_far.0.low within is
    so_far.3 in (
      record {
        low = omega (arith, steps, so_far.0.low);
        order = omega (arith, steps);
        bound = omega (arith, steps, so_far.0.bound, length-set now index n);
      },
      steps.0 ∙ so_far.1,
      so_far.2 ∙ sym (length-set now index n),
      subst (λ (j : ℕ). ChangesIndices (gap_raised c.args.value) old (paired keys (set now index n))
          first j) (sym steps.1.2)
          (subst (λ (j : ℕ). ChangesIndices (gap_raised c.args.value) old
          (paired keys (set now j n)) first (i + 1)) (sym steps.1.1) changed),
    )

pub returns-clause-raised : goal.returns-clause-raised
returns-clause-raised c =
    let keys : List KeyBytes = c.args.keys.now in
    let values : List Values = c.args.values.now.items in
    let old : List Node = paired keys values in
    let mid : List Node = paired keys c.loop-index.values.items in
    let new : List Node = paired keys c.loop-index-2.values.items in
    let span : SpanView = between c.args.from.now c.args.to.now in
    let found_keys = subst (λ (vs : List Values). HoldsKeysOn (paired keys vs) span
    c.indices_between.result.0.start c.indices_between.result.0.end) c.as_slice.ensures.value
    c.indices_between.ensures.keys in
    let found_gaps = subst (λ (vs : List Values). HoldsGapsOn (paired keys vs) span
    c.indices_between.result.1.start c.indices_between.result.1.end) c.as_slice.ensures.value
    c.indices_between.ensures.gaps in
    let on_keys = subst (λ r. HoldsKeysOn old span r.start r.end)
    (sym c.into_iter-index-iterator.ensures.into_iter_gives) found_keys in
    let on_gaps = subst (λ r. HoldsGapsOn old span r.start r.end)
    (sym c.into_iter-index-iterator-2.ensures.into_iter_gives) found_gaps in
    let first = c.loop-index.invariant in
    let then = c.loop-index-2.invariant in
    let keys_done : c.loop-index.index-iterator.start ≡ c.into_iter-index-iterator.result.end =
    omega (arith, c.in-None.ensures.steps, first.0.order, first.1) in
    let gaps_done : c.loop-index-2.index-iterator.start ≡ c.into_iter-index-iterator-2.result.end =
    omega (arith, c.in-None-index.ensures.steps, then.0.order, then.1) in
    both_changed span c.args.value old mid new
    c.into_iter-index-iterator.result.start c.into_iter-index-iterator.result.end
    c.into_iter-index-iterator-2.result.start c.into_iter-index-iterator-2.result.end on_keys
    on_gaps
    (subst (ChangesIndices (key_raised c.args.value) old mid
    c.into_iter-index-iterator.result.start) keys_done first.3)
    (subst (ChangesIndices (gap_raised c.args.value) mid new
    c.into_iter-index-iterator-2.result.start) gaps_done then.3)

pub invariant_of-lists : goal.invariant_of-lists
invariant_of-lists c = paired_as _ c.args.keys.now _ c.args.values.now.items refl
    c.as_slice.ensures.value (record { same = c.requires.same; sorted = c.requires.sorted })
