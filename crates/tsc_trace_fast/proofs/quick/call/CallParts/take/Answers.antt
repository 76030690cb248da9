-- Proves the contract of `CallParts::take`. Reads the member of this name.
use Rattle.std.proofs.Common.{arith}
use Rattle.serde_json.specs.Data.{string}
use Rattle.tsc_trace_fast.proofs.TokenLemmas.{deeper}
use Rattle.tsc_trace_fast.proofs.Values.{text_is}
use Rattle.tsc_trace_fast.proofs.CallMembers.{call_op, call_span, call_time, call_owner, call_marks, call_now}
use Rattle.tsc_trace_fast.proofs.quick.call.CallParts.take.Goals as goal

pub returns-in_ok-text-in-op : goal.returns-in_ok-text-in-op
returns-in_ok-text-in-op c =
    let t = c.in_ok-text-in-op.field-0 in (
      string t.now,
      deeper 0 3 _ _ _ (omega arith) c.in_ok-text-in-op.ensures,
      λ found h. rw c.in-op.is (call_op found c.args.self.now (string t.now) h t (text_is t.now)),
    )

pub returns-in_ok-span_form-in-span : goal.returns-in_ok-span_form-in-span
returns-in_ok-span_form-in-span c = let got =
    c.in_ok-span_form-in-span.ensures
    in (
      got.0,
      deeper 1 3 _ _ _ (omega arith) got.1,
      λ found h. rw c.in-span.is (call_span found c.args.self.now got.0 h
          c.in_ok-span_form-in-span.field-0 got.2),
    )

pub returns-in_ok-time-in-time : goal.returns-in_ok-time-in-time
returns-in_ok-time-in-time c = let got =
    c.in_ok-time-in-time.ensures in (
      got.0,
      deeper 1 3 _ _ _ (omega arith) got.1,
      λ found h. rw c.in-time.is (call_time found c.args.self.now got.0 h c.in_ok-time-in-time.field-0
          got.2),
    )

pub returns-in_ok-owner-in-owner : goal.returns-in_ok-owner-in-owner
returns-in_ok-owner-in-owner c = let got =
    c.in_ok-owner-in-owner.ensures
    in (
      got.0,
      deeper 0 3 _ _ _ (omega arith) got.1,
      λ found h. rw c.in-owner.is (call_owner found c.args.self.now got.0 h
          c.in_ok-owner-in-owner.field-0 got.2),
    )

pub returns-in_ok-marks-in-marks : goal.returns-in_ok-marks-in-marks
returns-in_ok-marks-in-marks c = let got =
    c.in_ok-marks-in-marks.ensures
    in (
      got.0,
      got.1,
      λ found h. rw c.in-marks.is
          (call_marks found c.args.self.now got.0 h c.in_ok-marks-in-marks.field-0 got.2),
    )

pub returns-in_ok-time-in-now : goal.returns-in_ok-time-in-now
returns-in_ok-time-in-now c = let got =
    c.in_ok-time-in-now.ensures in (
      got.0,
      deeper 1 3 _ _ _ (omega arith) got.1,
      λ found h. rw c.in-now.is (call_now found c.args.self.now got.0 h c.in_ok-time-in-now.field-0
          got.2),
    )
