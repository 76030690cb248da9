-- One span more.
use Rattle.std.proofs.Common.{◌≡◌, ◌∙◌, sym, subst, rules, List, drop}
use Rattle.std.specs.Prelude.{Result, Ok, Err, Option}
use Rattle.tsc_time.specs.Time.{Time}
use Rattle.tsc_time.specs.ValueView.{Owner}
use Rattle.tsc_ffi_store.specs.declared.refusal.Refusal.{Refusal}
use Rattle.tsc_ffi_store.specs.Kinds.{ByKind}
use Rattle.tsc_ffi_store.specs.Writes.{asked_write}
use Rattle.tsc_ffi_store.specs.WriteSteps.{AsksLater, AsksLaterStriped}
use Rattle.tsc_ffi_store.specs.WriteSteps.{AsksOfWrite, AsksOfWriteStriped}
use Rattle.tsc_ffi_store.proofs.SpansAsked.{none_refused}
use Rattle.tsc_ffi_store.proofs.WritesReported.{asked_more_any, asked_busy_any, asked_all_any}
use Rattle.tsc_ffi_store.proofs.write_requests.earliest_at.Goals as goal

pub loop-words-preserved : goal.loop-words-preserved
loop-words-preserved c =
    let asked = asked_write c.args.args.now in (
      asked_more_any c.args.seat.now.seat c.loop-words.seat.seat c.later_at.new.seat.seat
          asked.keys asked.spans c.loop-words.words-index _ c.in-Ok.span asked.by asked.time
          c.loop-words.time c.in_ok-time.time c.loop-words-test.true c.in-Ok.ensures.value
          (subst (λ (by : Owner). ByKind (AsksLater c.in-Ok.span by c.loop-words.time)
          (AsksLaterStriped c.in-Ok.span by c.loop-words.time) c.loop-words.seat.seat
          c.later_at.new.seat.seat (Ok c.in_ok-time.time))
          c.from_bytes-by.ensures c.in_ok-time.ensures.reported)
          c.loop-words.invariant.0,
      c.later_at.ensures.same ∙ c.loop-words.invariant.1,
    )

pub returns-clause-answers : goal.returns-clause-answers
returns-clause-answers c =
    asked_all_any c.args.seat.now.seat c.loop-words.seat.seat (asked_write c.args.args.now)
    c.loop-words.words-index c.loop-words.time c.seen-seen.ensures.seat c.loop-words-test.false
    c.loop-words.invariant.0

pub unreachable-requires : goal.unreachable-requires
unreachable-requires c =
    none_refused c.in_default.field-0 c.args.args.now.keys.now c.args.args.now.spans.now
    c.loop-words.words-index _ c.in_ok-check_spans.ensures.reported c.loop-words-test.true
    c.in_default.ensures.refused
