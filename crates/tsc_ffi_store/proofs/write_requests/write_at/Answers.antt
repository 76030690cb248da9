-- Where the seat is not told from when on a write is clear, that is what the call answers.
use Rattle.std.proofs.Common.{◌≡◌, refl, rules}
use Rattle.std.specs.Prelude.{Err}
use Rattle.tsc_ffi_store.specs.Decode.{time_of}
use Rattle.tsc_ffi_store.specs.Writes.{asked_write}
use Rattle.tsc_ffi_store.proofs.WritesRefused.{write_refused}
use Rattle.tsc_ffi_store.proofs.write_requests.write_at.Goals as goal

pub returns-in_err-time-clause-answers : goal.returns-in_err-time-clause-answers
returns-in_err-time-clause-answers c =
    let is : c.from_residual.result ≡ Err c.in_err-time.field-0.0 = search rules in
    rw is (record {
      works = write_refused (asked_write c.args.args.now) c.args.seen.now (time_of c.args.out.now)
          c.in_err-time.field-0.0 c.args.held.now.seat.seat c.earliest_at.new.seat.seat
          c.in_err-time.ensures.answers;
      stays = record { returns = c.in_err-time.ensures.same; opened = refl };
      counted = refl;
    })
