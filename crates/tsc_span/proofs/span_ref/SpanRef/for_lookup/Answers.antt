-- Each arm by the order of the two keys.
use Rattle.std.proofs.Common.{◌≡◌, sym, ap}
use Rattle.std.specs.Prelude.{unwrap_or}
use Rattle.std.specs.declared.cmp.Ordering.TheVariants.{Less, Equal, Greater}
use Rattle.tsc_span.specs.Span.{key_cmp, nothing}
use Rattle.tsc_span.proofs.Ranges.{range_of_greater, range_of_equal, range_of_less}
use Rattle.tsc_span.proofs.span_ref.SpanRef.for_lookup.Goals as goal
use Rattle.tsc_span.proofs.span_ref.SpanRef.for_lookup.Goals.{then-ends+else-ends-2, else-ends}

pub returns-in-Greater : goal.returns-in-Greater
returns-in-Greater c =
    let order : key_cmp c.args.from.now c.args.to.now ≡ Greater = cc in
    sym (ap (λ r. unwrap_or r nothing)
    (range_of_greater c.args.from.now c.args.to.now c.args.ends.exclude_from
    c.args.ends.exclude_to order))

pub returns-in-Equal : goal.returns-in-Equal
returns-in-Equal c =
    let order : key_cmp c.args.from.now c.args.to.now ≡ Equal = cc in
    sym (rw (
      range_of_equal c.args.from.now c.args.to.now c.args.ends.exclude_from
          c.args.ends.exclude_to order,
      c.if-ends.true,
      c.if-ends-2.true,
    ))

pub returns-in-Equal-2 : goal.returns-in-Equal-2
returns-in-Equal-2 c =
    let order : key_cmp c.args.from.now c.args.to.now ≡ Equal = cc in
    elim c.if-ends.branch [
      | then-ends+else-ends-2 w ↦ sym
          (rw (
            range_of_equal c.args.from.now c.args.to.now c.args.ends.exclude_from
                c.args.ends.exclude_to order,
            w.if-ends.true,
            w.if-ends-2.false,
            c.point.ensures,
          ))
      | else-ends w ↦ sym (rw (
        range_of_equal c.args.from.now c.args.to.now c.args.ends.exclude_from
            c.args.ends.exclude_to order,
        w.if-ends.false,
        c.point.ensures,
      ))
    ]

pub returns-in-Less : goal.returns-in-Less
returns-in-Less c =
    let order : key_cmp c.args.from.now c.args.to.now ≡ Less = cc in
    sym (rw (
      range_of_less c.args.from.now c.args.to.now c.args.ends.exclude_from
          c.args.ends.exclude_to order,
      c.start_cut.ensures,
      c.end_cut.ensures,
    ))
