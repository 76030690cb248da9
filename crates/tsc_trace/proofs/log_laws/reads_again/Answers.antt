-- The text of lines that a log can hold reads as just these, or as too many.
use Rattle.std.proofs.Common.{◌∙◌, subst}
use Rattle.tsc_trace.specs.LogReading.{ReadsAs}
use Rattle.tsc_trace.proofs.OneReading.{reads_again}
use Rattle.tsc_trace.proofs.log_laws.reads_again.Goals as goal

pub returns-in-Ok : goal.returns-in-Ok
returns-in-Ok c =
    let reported = c.in-Ok.ensures in
    let read = subst (λ bytes. ReadsAs bytes c.read_log.result)
    (c.as_slice.ensures.value ∙ reported.value) c.read_log.ensures in
    reads_again c.args.log.now.lines c.read_log.result reported.writable read
