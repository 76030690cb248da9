-- Proves the contract of `request`. What the program's words ask for, of which the first is its own
-- name.
use Rattle.std.proofs.Common.{◌≡◌, ◌∙◌, sym, ap, subst, inl, inr, map, string_bytes, List, Option}
use Rattle.clap.specs.Words.{subcommand_rows_of}
use Rattle.tsc_commands.specs.Words.{Answers, Explains, Request, Word, asks, request_in}
use Rattle.tsc_commands.specs.Commands.{request_found}
use Rattle.tsc_commands.proofs.WordLemmas.{found_is_asked, fault_asks_nothing}
use Rattle.tsc_commands.proofs.FoundLemmas.{nothing_explains}
use Rattle.tsc_commands.proofs.cli.request.Goals as goal

abbrev texts_of : goal.Joined-matches → List Word
texts_of c = map string_bytes c.args.words.now

asked : (c : goal.Joined-matches) →
    request_found (subcommand_rows_of c.in-Ok.matches) ≡ request_in (texts_of c)
asked c = ap request_found c.in-Ok.ensures.found ∙
    found_is_asked (texts_of c) c.in-Ok.ensures.faults

pub returns-in-Ok : goal.returns-in-Ok
returns-in-Ok c = subst (λ (o : Option Request). Answers asks o c.request_of.result) (asked c)
    c.request_of.ensures

pub returns-in-Err : goal.returns-in-Err
returns-in-Err c = elim c.in-Err.ensures.faults [
  | inl memory ↦ subst (Explains (request_in (map string_bytes c.args.words.now)))
      (sym (c.fault_of.ensures.1 (c.kind.ensures ∙ memory))) tt
  | inr among ↦ nothing_explains c.fault_of.result _
      (fault_asks_nothing (map string_bytes c.args.words.now) _ among)
]
