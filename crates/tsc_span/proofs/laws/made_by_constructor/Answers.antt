-- The spans that can be made are those that `Span::range` and `Span::onward` give for some keys.
use Rattle.tsc_span.proofs.MadeSpans.{made_by_constructor}
use Rattle.tsc_span.proofs.laws.made_by_constructor.Goals as goal

pub returns : goal.returns
returns c = made_by_constructor
