-- Each arm by the order of the two keys.
use Rattle.std.proofs.Common.{◌≡◌, sym}
use Rattle.std.specs.declared.cmp.Ordering.TheVariants.{Less, Equal, Greater}
use Rattle.tsc_span.specs.Span.{key_cmp}
use Rattle.tsc_span.proofs.Ranges.{range_of_greater, range_of_equal, range_of_less}
use Rattle.tsc_span.proofs.add_span.AddSpan.range.Goals as goal
use Rattle.tsc_span.proofs.add_span.AddSpan.range.Goals.{then-ends+else-ends-2, else-ends}

pub returns-in-Greater-clause-value : goal.returns-in-Greater-clause-value
returns-in-Greater-clause-value c =
    let order : key_cmp c.args.from c.args.to ≡ Greater = cc in
    sym (range_of_greater c.args.from c.args.to c.args.ends.exclude_from
    c.args.ends.exclude_to order)

pub returns-in-Equal-clause-value : goal.returns-in-Equal-clause-value
returns-in-Equal-clause-value c =
    let order : key_cmp c.args.from c.args.to ≡ Equal = cc in
    sym (rw (
      range_of_equal c.args.from c.args.to c.args.ends.exclude_from c.args.ends.exclude_to
          order,
      c.if-ends.true,
      c.if-ends-2.true,
    ))

pub returns-in-Equal-2-clause-value : goal.returns-in-Equal-2-clause-value
returns-in-Equal-2-clause-value c =
    let order : key_cmp c.args.from c.args.to ≡ Equal = cc in
    elim c.if-ends.branch [
      | then-ends+else-ends-2 w ↦ sym
          (rw (
            range_of_equal c.args.from c.args.to c.args.ends.exclude_from c.args.ends.exclude_to
                order,
            w.if-ends.true,
            w.if-ends-2.false,
            c.point.ensures,
          ))
      | else-ends w ↦ sym (rw (
        range_of_equal c.args.from c.args.to c.args.ends.exclude_from
            c.args.ends.exclude_to order,
        w.if-ends.false,
        c.point.ensures,
      ))
    ]

pub returns-in-Less-clause-value : goal.returns-in-Less-clause-value
returns-in-Less-clause-value c =
    let order : key_cmp c.args.from c.args.to ≡ Less = cc in
    sym (range_of_less c.args.from c.args.to c.args.ends.exclude_from c.args.ends.exclude_to order)
