-- The two keys of a range differ.
use Rattle.std.proofs.Common.{sym, ap, subst}
use Rattle.std.specs.Prelude.{slice_get}
use Rattle.tsc_span.specs.Shape.{IsShape}
use Rattle.tsc_span.specs.declared.span.Shape.TheVariants.{Range}
use Rattle.tsc_span.proofs.Ranges.{end_keys_of_range}
use Rattle.tsc_span.proofs.span.Span.end_keys.Goals as goal

pub returns-in-Range : goal.returns-in-Range
returns-in-Range c =
    let from = c.in-Range.from in
    let to = c.in-Range.to in
    let ends = c.in-Range.field-2 in
    let shape : IsShape (Range from to ends) = subst IsShape c.in-Range.is c.self.invariant in
    let keys = sym (end_keys_of_range from to ends.exclude_from ends.exclude_to shape) in
    rw (← c.self.view_is, c.in-Range.is)
    (record {
      keys = keys;
      start = ap (λ ks. slice_get ks 0) keys;
      end = ap (λ ks. slice_get ks 1) keys;
    })
