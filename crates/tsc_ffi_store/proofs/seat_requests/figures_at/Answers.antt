-- What is written is what the cache of the seat counted.
use Rattle.std.proofs.Common.{refl}
use Rattle.tsc_ffi_store.proofs.SeatFigures.{counted_at}
use Rattle.tsc_ffi_store.proofs.seat_requests.figures_at.Goals as goal

pub returns-clause-answers : goal.returns-clause-answers
returns-clause-answers c = record {
  works = counted_at c.args.held.now.counts c.in_ok-answer.answer c.words_of_figures.result
      c.args.held.now.seat.seat c.figures.new.self.seat c.words_of_figures.ensures
      c.in_ok-answer.ensures.figures;
  stays = record { returns = c.figures.ensures.same; opened = refl };
  same = refl;
}
