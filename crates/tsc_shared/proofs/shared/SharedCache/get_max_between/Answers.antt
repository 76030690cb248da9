-- The span that is handed on is the one that was named.
use Rattle.std.proofs.Common.{subst}
use Rattle.tsc_span.specs.Span.{SpanView}
use Rattle.tsc_shared.specs.Answers.{ReportsNoPart}
use Rattle.tsc_shared.proofs.shared.SharedCache.get_max_between.Goals as goal

pub returns-clause-whole : goal.returns-clause-whole
returns-clause-whole c = subst (λ (s : SpanView).
    ReportsNoPart c.get_max_ref.new.seat s c.get_max_ref.result.value) c.between.ensures
    c.get_max_ref.ensures.whole
