-- The round bracket at the end excludes the end alone.
use Rattle.std.proofs.Common.{◌≡◌, rules, refl}
use Rattle.std.specs.Prelude.{codes}
use Rattle.tsc_trace_format.specs.TraceText.{ends_in}
use Rattle.tsc_trace_format.proofs.read.span.SpanForm.ends.Goals as goal

pub returns-in-text-2 : goal.returns-in-text-2
unfolding ends_in
returns-in-text-2 c = let is : c.args.brackets.now ≡ codes "[)" = search rules in rw is refl
