-- Proves the contract of `request_for`. What the subcommand of a name asks for, with what clap
-- found for it.
use Rattle.std.proofs.Common.{◌∙◌, sym, ap, refl, subst, Option}
use Rattle.std.specs.Prelude.{option_map}
use Rattle.tsc_commands.specs.Words.{Answers, Request, asks, replay, run}
use Rattle.tsc_commands.proofs.FoundLemmas.{asks_file, explains_found, refused_alike}
use Rattle.tsc_commands.proofs.cli.request_for.Goals as goal

pub returns-in_err-file-in-replay : goal.returns-in_err-file-in-replay
returns-in_err-file-in-replay c =
    let reported = explains_found replay _ _ c.in_err-file-in-replay.ensures in
    subst (λ (o : Option Request). Answers asks o c.from_residual.result)
    (sym (asks_file _ replay (λ _. refl) c.args.name.now c.args.found.now c.in-replay.is))
    (refused_alike c.from_residual.result _ _ c.from_residual.ensures.1 reported)

pub returns-in_err-file-in-run : goal.returns-in_err-file-in-run
returns-in_err-file-in-run c =
    let reported = explains_found run _ _ c.in_err-file-in-run.ensures in
    subst (λ (o : Option Request). Answers asks o c.from_residual-in_err-file-in-run.result)
    (sym (asks_file _ run (λ _. refl) c.args.name.now c.args.found.now c.in-run.is))
    (refused_alike c.from_residual-in_err-file-in-run.result _ _
    c.from_residual-in_err-file-in-run.ensures.1 reported)

pub returns-in_ok-file-in-replay : goal.returns-in_ok-file-in-replay
returns-in_ok-file-in-replay c = asks_file _ replay (λ _. refl) c.args.name.now c.args.found.now
    c.in-replay.is ∙ ap (option_map replay) c.in_ok-file-in-replay.ensures

pub returns-in_ok-file-in-run : goal.returns-in_ok-file-in-run
returns-in_ok-file-in-run c = asks_file _ run (λ _. refl) c.args.name.now c.args.found.now
    c.in-run.is ∙ ap (option_map run) c.in_ok-file-in-run.ensures
