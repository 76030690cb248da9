-- Proves the contract of `apply_locked`. Applies an operation of the seat that has just acquired
-- the
-- lock, and releases it.
use Rattle.std.proofs.Common.{ap, sym, true≢false}
use Rattle.tsc_left_right.proofs.Outcomes.{is_applied_then, is_not_applied}
use Rattle.tsc_left_right.proofs.round.apply_locked.Goals as goal

pub returns-in-Ok-clause-outcome : goal.returns-in-Ok-clause-outcome
returns-in-Ok-clause-outcome g c =
    let me = c.args.who.now.me in
    let k = c.in-Ok.ensures.made in record {
      is = (
        k.0,
        k.1,
        is_applied_then g.P.Replicated g.P.Replicate.answer me c.prepare_copy.new.who.me
            c.publish.new.who.me c.args.state.value c.in-Ok.prepared.state.value k.0
            c.in-Ok.prepared.answer
            c.deref.result.now.length c.args.context.now.number c.requires.writer.1
            c.requires.writer.0.number_is (ap (λ s. s.length) c.deref.ensures) k.2
            c.publish.ensures.published,
      );
      reported_is = c.give.ensures.reported;
      gate = λ _. c.give.ensures.gate;
    }

pub returns-in-Err-clause-outcome : goal.returns-in-Err-clause-outcome
returns-in-Err-clause-outcome g c =
    let me = c.args.who.now.me in record {
      is = is_not_applied g.P.Replicated (g.W.WaitPolicy.tries c.args.policy.now) me
          c.prepare_copy.new.who.me c.release-seen.new.who.me c.args.state.value
          c.in-Err.aborted c.release-seen.result c.requires.writer.1 c.in-Err.ensures.left
          c.release-seen.ensures.released c.release-seen.ensures.length;
      reported_is = c.requires.unreported;
      gate = λ added. absurd (true≢false (sym added));
    }
