-- Where memory is refused, the form and the key that were read name a span.
use Rattle.std.proofs.Common.{◌≡◌, ◌∙◌, ap, inr, rules}
use Rattle.std.specs.Prelude.{Some, Err}
use Rattle.tsc_span.specs.Span.{point, onward}
use Rattle.tsc_ffi_store.specs.Decode.{asked_span}
use Rattle.tsc_ffi_store.proofs.NamedSpans.{names_point, names_onward}
use Rattle.tsc_ffi_store.proofs.decode.copied_span.Goals as goal

pub returns-in_err-copy_of-in-Point-clause-refused :
    goal.returns-in_err-copy_of-in-Point-clause-refused
returns-in_err-copy_of-in-Point-clause-refused c =
    let same : c.from_residual-in_err-copy_of-in-Point.result ≡
    Err c.in_err-copy_of-in-Point.field-0.0 = search rules in
    rw same (inr (record {
      span = point c.in_ok-key-in-Point.field-0;
      names = names_point (asked_span c.args.args.now) c.in_ok-key-in-Point.field-0
          (c.in_ok-form_meant_by.ensures.value ∙ ap Some c.in-Point.is)
          c.in_ok-key-in-Point.ensures.value c.in_ok-key-in-Point.ensures.short;
      reported = c.in_err-copy_of-in-Point.ensures.refused;
    }))

pub returns-in_err-copy_of-in-Onward-clause-refused :
    goal.returns-in_err-copy_of-in-Onward-clause-refused
returns-in_err-copy_of-in-Onward-clause-refused c =
    let same : c.from_residual-in_err-copy_of-in-Onward.result ≡
    Err c.in_err-copy_of-in-Onward.field-0.0 = search rules in
    rw same (inr (record {
      span = onward c.in_ok-key-in-Onward.field-0 c.in-Onward.excluded;
      names = names_onward (asked_span c.args.args.now) c.in_ok-key-in-Onward.field-0
          c.in-Onward.excluded (c.in_ok-form_meant_by.ensures.value ∙ ap Some c.in-Onward.is)
          c.in_ok-key-in-Onward.ensures.value c.in_ok-key-in-Onward.ensures.short;
      reported = c.in_err-copy_of-in-Onward.ensures.refused;
    }))
