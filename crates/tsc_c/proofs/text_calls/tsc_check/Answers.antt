-- What is said is what was put into the buffer.
use Rattle.std.proofs.Common.{rules}
use Rattle.tsc_c.proofs.text_calls.tsc_check.Goals as goal

pub returns-clause-said : goal.returns-clause-said
returns-clause-said c = λ done. let put = c.report.ensures.put done in (put.0, search rules, put.2)
