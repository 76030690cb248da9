-- Proves the contract of `apply_by`. Acquires the lock and applies an operation by a copy of what
-- is asked for.
use Rattle.std.proofs.Common.{◌∙◌, sym, true≢false}
use Rattle.tsc_left_right.proofs.Seating.{seat_acquired}
use Rattle.tsc_left_right.proofs.Outcomes.{new_writer, since_outcome}
use Rattle.tsc_left_right.proofs.round.apply_by.Goals as goal

pub apply_locked-requires-clause-writer : goal.apply_locked-requires-clause-writer
apply_locked-requires-clause-writer g c = (
  seat_acquired c.args.context.now.shared.now.table_id c.args.context.now.setup.now
      c.args.context.now.number c.args.who.now c.acquire.new.who g.P.Replicated
      c.in-Some.state.value c.requires.seat.0 c.acquire.ensures.table c.in-Some.ensures.acquired,
  new_writer g.P.Replicated c.args.who.now.me c.acquire.new.who.me c.in-Some.state.value
      c.requires.seat.1 c.in-Some.ensures.acquired,
)

pub returns-in-Some-clause-outcome : goal.returns-in-Some-clause-outcome
returns-in-Some-clause-outcome g c =
    let o = c.apply_locked.ensures.outcome in record {
      is = since_outcome g.P.Replicated g.P.Replicate.answer
          (g.W.WaitPolicy.tries c.args.policy.now) (g.Q.Ask.is c.args.asked.now)
          c.args.who.now.me c.acquire.new.who.me c.apply_locked.new.who.me
          c.in-Some.state.value c.apply_locked.result c.in-Some.ensures.acquired
          c.apply_locked.ensures.answers o.is;
      reported_is = o.reported_is;
      gate = o.gate;
    }

pub returns-in-None-clause-outcome : goal.returns-in-None-clause-outcome
returns-in-None-clause-outcome g c = record {
  is = (c.in-None.ensures.busy.0 ∙ c.requires.seat.1, c.in-None.ensures.busy.1);
  reported_is = c.requires.unreported;
  gate = λ added. absurd (true≢false (sym added));
}
