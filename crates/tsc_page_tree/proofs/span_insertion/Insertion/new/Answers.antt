-- The keys of a span lie at its cuts.
use Rattle.std.proofs.Common.{◌∙◌, sym, ap, subst, refl}
use Rattle.std.specs.Prelude.{Option, slice_get}
use Rattle.tsc_span.specs.Span.{KeyBytes, Cut, SpanView, end_keys, is_empty_span}
use Rattle.tsc_span.specs.Cuts.{cut_of}
use Rattle.tsc_page_nodes.specs.Insertions.{LiesAt}
use Rattle.tsc_page_tree.proofs.LeafAdds.{ends_lie}
use Rattle.tsc_page_tree.proofs.span_insertion.Insertion.new.Goals as goal

pub invariant_of-result : goal.invariant_of-result
invariant_of-result c =
    let f : Cut = cut_of c.in-Some.from in
    let t : Cut = cut_of c.in-Some.to in
    let lie = ends_lie f t c.in-Some.ensures.order in
    record {
      order = c.in-Some.ensures.order;
      first = subst (λ (o : Option KeyBytes). LiesAt o f)
          (sym (c.end_keys.ensures.start ∙
          ap (λ (s : SpanView). slice_get (end_keys s) 0) (sym c.in-Some.ensures.value))) lie.0;
      second = subst (λ (o : Option KeyBytes). LiesAt o t)
          (sym (c.end_keys.ensures.end ∙
          ap (λ (s : SpanView). slice_get (end_keys s) 1) (sym c.in-Some.ensures.value))) lie.1;
      keys = c.end_keys.ensures.keys ∙ ap end_keys (sym c.in-Some.ensures.value);
    }

pub returns-in-Some : goal.returns-in-Some
returns-in-Some c = (c.in-Some.ensures.value, refl)

pub returns-in-None : goal.returns-in-None
returns-in-None c = sym (ap is_empty_span c.in-None.ensures.value)
