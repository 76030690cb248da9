-- The number tells what was done to what the handle names, or that it names nothing.
use Rattle.std.proofs.Common.{rules}
use Rattle.std.specs.Prelude.{Err, Some}
use Rattle.tsc_ffi_store.specs.declared.refusal.Refusal.TheVariants as refusal
use Rattle.tsc_ffi_store.specs.Counts.{CountsNothing}
use Rattle.tsc_ffi_store.specs.Decode.{span_asked}
use Rattle.tsc_ffi_store.specs.Summaries.{summary_asked, AnswersSeatSummary}
use Rattle.tsc_ffi_store.specs.Kinds.{ByKind}
use Rattle.tsc_ffi_store.specs.StripedCalls.{AnswersStripedSummary}
use Rattle.tsc_ffi_store.proofs.AtHandle.{when_some}
use Rattle.tsc_c.proofs.Held.{no_seat, works_at, works_at_none}
use Rattle.tsc_c.proofs.summary_calls.tsc_seat_summary.Goals as goal

pub returns-in-Some-seat_mut : goal.returns-in-Some-seat_mut
returns-in-Some-seat_mut c = record {
  did = c.put_at.ensures.did;
  answers = works_at (CountsNothing (ByKind (AnswersSeatSummary (summary_asked (span_asked c.args.from.now
      c.args.to.now c.args.ends) c.args.most) c.put_at.new.seen)
      (AnswersStripedSummary (summary_asked (span_asked c.args.from.now
      c.args.to.now c.args.ends) c.args.most) c.put_at.new.seen)))
      c.args.store.now.owned (Some (c.seat_mut.follows.lender c.put_at.new.held))
      c.in-Some.held.now (c.seat_mut.follows.lender c.put_at.new.held) c.args.handle
      c.in-Some-seat_mut.seat.now c.put_at.new.held c.put_at.ensures.did (search rules) (search
      rules) (search rules) (when_some c.seat_mut.result c.in-Some-seat_mut.seat
      c.in-Some-seat_mut.is (c.seat_mut.follows.holds c.put_at.new.held))
      c.put_at.ensures.answers;
  put = c.put_at.ensures.put;
  kept = c.put_at.ensures.kept;
}

pub returns-in-None-seat_mut : goal.returns-in-None-seat_mut
returns-in-None-seat_mut c = record {
  did = Err refusal.Closed;
  answers = works_at_none (CountsNothing (ByKind (AnswersSeatSummary (summary_asked (span_asked c.args.from.now
      c.args.to.now c.args.ends) c.args.most) c.args.seen.now)
      (AnswersStripedSummary (summary_asked (span_asked c.args.from.now
      c.args.to.now c.args.ends) c.args.most) c.args.seen.now)))
      c.args.store.now.owned (Some c.seat_mut.follows.lender-at-none) c.in-Some.held.now
      c.seat_mut.follows.lender-at-none c.args.handle (search rules) (search rules) (search
      rules) (c.seat_mut.follows.holds-at-none);
  put = search rules;
  kept = search rules;
}

pub returns-in-None : goal.returns-in-None
returns-in-None c = record {
  did = Err refusal.Closed;
  answers = no_seat (CountsNothing (ByKind (AnswersSeatSummary (summary_asked (span_asked c.args.from.now
      c.args.to.now c.args.ends) c.args.most) c.args.seen.now)
      (AnswersStripedSummary (summary_asked (span_asked c.args.from.now
      c.args.to.now c.args.ends) c.args.most) c.args.seen.now)))
      c.args.store.now.owned c.args.store.now.owned c.args.handle (search rules) (search rules);
  put = search rules;
  kept = search rules;
}
