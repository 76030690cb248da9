-- Proves the contract of `integer`. The unsigned integer that the text of a number is.
use Rattle.std.proofs.Common.{◌≡◌, ◌==◌, false, ap, ◌∙◌, ne_eqb}
use Rattle.std.specs.Prelude.{slice_index}
use Rattle.fast_float.specs.Text.{scan}
use Rattle.tsc_trace_fast.proofs.Values.{integer_read}
use Rattle.tsc_trace_fast.proofs.quick.token.integer.Goals as goal

pub returns : goal.returns
returns c =
    let same : c.as_bytes-digits.result.now ≡ c.args.text.now = c.as_bytes-digits.ensures.value in
    let plus : (slice_index c.args.text.now 0 == 45) ≡ false =
    rw (← same) (ne_eqb (slice_index c.as_bytes-digits.result.now 0) 45
    c.if-digits-eq45.false) in
    integer_read c.args.text.now c.scan.result _ (c.scan.ensures.parts ∙ ap scan same) plus
    c.to_u64.ensures
