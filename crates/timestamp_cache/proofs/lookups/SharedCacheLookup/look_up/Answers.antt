-- What a lookup of a shared cache answers is what one of its kind does.
use Rattle.std.proofs.Common.{subst}
use Rattle.tsc_span.specs.Span.{SpanView}
use Rattle.tsc_shared.specs.Answers.{AnswersLookup}
use Rattle.timestamp_cache.proofs.Asking.{shared_looks}
use Rattle.timestamp_cache.proofs.lookups.SharedCacheLookup.look_up.Goals as goal

pub returns-clause-looked : goal.returns-clause-looked
returns-clause-looked c = shared_looks c.args.seat.now c.get_max_ref-answer.new.seat c.args.span.now
    c.get_max_ref-answer.result (subst (λ (s : SpanView). AnswersLookup c.args.seat.now
    c.get_max_ref-answer.new.seat s c.get_max_ref-answer.result) c.borrowed.ensures
    c.get_max_ref-answer.ensures.looked)
