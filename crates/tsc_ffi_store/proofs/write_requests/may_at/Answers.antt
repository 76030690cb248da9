-- Where the seat is not told from when on a write is clear, it is not told whether it may be made.
use Rattle.std.proofs.Common.{◌≡◌, refl, rules}
use Rattle.std.specs.Prelude.{Err}
use Rattle.tsc_ffi_store.specs.Writes.{asked_write}
use Rattle.tsc_ffi_store.proofs.WritesRefused.{may_refused}
use Rattle.tsc_ffi_store.proofs.write_requests.may_at.Goals as goal

pub returns-in_err-earliest-clause-answers : goal.returns-in_err-earliest-clause-answers
returns-in_err-earliest-clause-answers c =
    let is : c.from_residual-in_err-earliest.result ≡ Err c.in_err-earliest.field-0.0 =
    search rules in
    rw is (record {
      works = may_refused (asked_write c.args.args.now) c.args.seen.now c.args.out.now
          c.in_err-earliest.field-0.0 c.args.held.now.seat.seat c.earliest_at.new.seat.seat
          c.in_err-earliest.ensures.answers;
      stays = record { returns = c.in_err-earliest.ensures.same; opened = refl };
      counted = refl;
    })
