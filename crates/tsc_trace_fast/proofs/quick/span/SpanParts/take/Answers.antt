-- Proves the contract of `SpanParts::take`. Reads the member of this name.
use Rattle.tsc_trace_fast.proofs.SpanMembers.{span_start, span_end, span_ends, span_onward}
use Rattle.tsc_trace_fast.proofs.quick.span.SpanParts.take.Goals as goal

pub returns-in_ok-key-in-start : goal.returns-in_ok-key-in-start
returns-in_ok-key-in-start c = let got =
    c.in_ok-key-in-start.ensures in (
      got.0,
      got.1,
      λ found h. rw c.in-start.is
          (span_start found c.args.self.now got.0 h c.in_ok-key-in-start.field-0 got.2),
    )

pub returns-in_ok-key-in-end : goal.returns-in_ok-key-in-end
returns-in_ok-key-in-end c = let got =
    c.in_ok-key-in-end.ensures in (
      got.0,
      got.1,
      λ found h. rw c.in-end.is (span_end found c.args.self.now got.0 h c.in_ok-key-in-end.field-0
          got.2),
    )

pub returns-in_ok-ends-in-ends : goal.returns-in_ok-ends-in-ends
returns-in_ok-ends-in-ends c = let got =
    c.in_ok-ends-in-ends.ensures in (
      got.0,
      got.1,
      λ found h. rw c.in-ends.is
          (span_ends found c.args.self.now got.0 h c.in_ok-ends-in-ends.field-0 got.2),
    )

pub returns-in_ok-excluded-in-onward : goal.returns-in_ok-excluded-in-onward
returns-in_ok-excluded-in-onward c = let got =
    c.in_ok-excluded-in-onward.ensures
    in (
      got.0,
      got.1,
      λ found h. rw c.in-onward.is
          (span_onward found c.args.self.now got.0 h c.in_ok-excluded-in-onward.field-0 got.2),
    )
