-- Proves the contract of `MarkParts::take`. Reads the member of this name.
use Rattle.std.proofs.Common.{arith}
use Rattle.tsc_trace_fast.proofs.TokenLemmas.{deeper}
use Rattle.tsc_trace_fast.proofs.MarkMembers.{mark_span, mark_time, mark_owner}
use Rattle.tsc_trace_fast.proofs.quick.mark.MarkParts.take.Goals as goal

pub returns-in_ok-added_span-in-span : goal.returns-in_ok-added_span-in-span
returns-in_ok-added_span-in-span c = let got =
    c.in_ok-added_span-in-span.ensures
    in (
      got.0,
      got.1,
      λ found h. rw c.in-span.is
          (mark_span found c.args.self.now got.0 h c.in_ok-added_span-in-span.field-0 got.2),
    )

pub returns-in_ok-time-in-time : goal.returns-in_ok-time-in-time
returns-in_ok-time-in-time c = let got =
    c.in_ok-time-in-time.ensures in (
      got.0,
      got.1,
      λ found h. rw c.in-time.is
          (mark_time found c.args.self.now got.0 h c.in_ok-time-in-time.field-0 got.2),
    )

pub returns-in_ok-owner-in-owner : goal.returns-in_ok-owner-in-owner
returns-in_ok-owner-in-owner c = let got =
    c.in_ok-owner-in-owner.ensures
    in (
      got.0,
      deeper 0 1 _ _ _ (omega arith) got.1,
      λ found h. rw c.in-owner.is (mark_owner found c.args.self.now got.0 h
          c.in_ok-owner-in-owner.field-0 got.2),
    )
