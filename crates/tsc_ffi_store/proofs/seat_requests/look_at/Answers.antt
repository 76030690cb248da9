-- What is written is what the cache of the seat answered.
use Rattle.std.proofs.Common.{refl}
use Rattle.tsc_ffi_store.specs.Decode.{asked_span, value_of}
use Rattle.tsc_ffi_store.proofs.AskedAtSeat.{looked_at}
use Rattle.tsc_ffi_store.proofs.seat_requests.look_at.Goals as goal

pub returns-clause-answers : goal.returns-clause-answers
returns-clause-answers c = record {
  works = looked_at (asked_span c.args.span.now) c.in_ok-span.span c.in_ok-answer.answer
      (value_of c.words_of.result) c.args.held.now.seat.seat c.get_max_ref.new.self.seat
      c.in_ok-span.ensures.value c.words_of.ensures c.in_ok-answer.ensures.looked;
  stays = record { returns = c.get_max_ref.ensures.same; opened = refl };
  counted = c.answer.ensures;
}
