-- Proves the contract of `check_of`. The check of a trace and a log, with what clap found for them.
use Rattle.std.proofs.Common.{◌∙◌, sym, ap, subst, codes, string_bytes, Option, Some}
use Rattle.std.specs.Prelude.{option_map}
use Rattle.clap.specs.Words.{Text, first_value, found_of}
use Rattle.tsc_commands.specs.Commands.{both}
use Rattle.tsc_commands.specs.Words.{Answers, Request, asks}
use Rattle.tsc_commands.proofs.FoundLemmas.{asks_check, checked, explains_first, explains_second, refused_alike}
use Rattle.tsc_commands.proofs.cli.check_of.Goals as goal

pub returns-in_err-trace : goal.returns-in_err-trace
returns-in_err-trace c =
    let log : Option Text = first_value (found_of c.args.found.now) (codes "log") in
    let reported = explains_first checked _ _ log c.in_err-trace.ensures in
    subst (λ (o : Option Request). Answers asks o c.from_residual.result)
    (sym (asks_check c.args.found.now))
    (refused_alike c.from_residual.result _ _ c.from_residual.ensures.1 reported)

pub returns-in_err-log : goal.returns-in_err-log
returns-in_err-log c =
    let trace : Option Text = first_value (found_of c.args.found.now) (codes "trace") in
    let reported = explains_second checked _ trace _ c.in_err-log.ensures in
    subst (λ (o : Option Request). Answers asks o c.from_residual-in_err-log.result)
    (sym (asks_check c.args.found.now))
    (refused_alike c.from_residual-in_err-log.result _ _ c.from_residual-in_err-log.ensures.1
    reported)

pub returns : goal.returns
returns c =
    let log : Option Text = first_value (found_of c.args.found.now) (codes "log") in
    asks_check c.args.found.now ∙ ap (λ (o : Option Text). option_map checked (both o log))
    c.in_ok-trace.ensures
    ∙ ap (λ (o : Option Text). option_map checked
    (both (Some (string_bytes c.in_ok-trace.trace)) o)) c.in_ok-log.ensures
