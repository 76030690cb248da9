-- The bytes tell what the seat summed up of the span that is named.
use Rattle.std.proofs.Common.{◌≡◌, refl, rules}
use Rattle.std.specs.Prelude.{Err}
use Rattle.tsc_ffi_store.specs.Summaries.{asked_summary}
use Rattle.tsc_ffi_store.proofs.SummariesReported.{bytes_reported, no_bytes}
use Rattle.tsc_ffi_store.proofs.summary_requests.bytes_at.Goals as goal

pub returns-in_err-reported-clause-answers : goal.returns-in_err-reported-clause-answers
returns-in_err-reported-clause-answers c =
    let is : c.from_residual-in_err-reported.result ≡ Err c.in_err-reported.field-0.0 = search rules
    in
    rw is (no_bytes (asked_summary c.args.args.now) c.in_ok-span.span c.in_err-reported.field-0.0
    c.args.seat.now.seat c.summary.new.self.seat c.in_ok-span.ensures.names
    c.in_err-reported.ensures.reported)

pub returns-in-Ok-clause-answers : goal.returns-in-Ok-clause-answers
returns-in-Ok-clause-answers c =
    bytes_reported (asked_summary c.args.args.now) c.in_ok-span.span c.in_ok-reported.reported
    (record { bytes = c.in-Ok.bytes; front = c.in_ok-reported.reported.front }) c.args.seat.now.seat
    c.summary.new.self.seat c.in_ok-span.ensures.names refl c.in-Ok.ensures.written
    c.in-Ok.ensures.read_back c.in_ok-reported.ensures.reported
