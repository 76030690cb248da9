-- Proves the contract of `write_bytes`. Writes the bytes of pairs of digits, and tells whether they
-- are digits.
use Rattle.std.proofs.Common.{◌∙◌, sym, arith}
use Rattle.std.specs.Prelude.{slice_index, ◌*◌, ◌+◌}
use Rattle.hex.proofs.Pairs.{decode_step, decode_done, decode_start}
use Rattle.tsc_trace_fast.proofs.Digits.{three, pair_is}
use Rattle.tsc_trace_fast.proofs.quick.digits.write_bytes.Goals as goal

pub bytes-init : goal.bytes-init
bytes-init c good = decode_start c.args.digits.now c.args.bytes.now

pub bytes-preserved : goal.bytes-preserved
bytes-preserved c good =
    let all = three c.bytes.good c.is_digit.result c.is_digit-in-bytes.result good in
    let high = c.digit.ensures.value (sym c.is_digit.ensures ∙ all.1) in
    let low = c.digit-in-bytes.ensures.value (sym c.is_digit-in-bytes.ensures ∙ all.2) in
    decode_step c.args.digits.now c.bytes.bytes c.bytes.i _ (omega arith) (omega arith)
    (pair_is (slice_index c.args.digits.now (2 * c.bytes.i))
    (slice_index c.args.digits.now (2 * c.bytes.i + 1)) (2 * c.bytes.i) c.digit.result
    c.digit-in-bytes.result high low) (c.bytes.invariant all.0)

pub returns : goal.returns
returns c good = decode_done c.args.digits.now c.bytes.bytes c.bytes.i (omega arith) (omega arith)
    (c.bytes.invariant good)
