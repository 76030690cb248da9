-- What clap found for a subcommand, by its name.
use Rattle.std.proofs.Common.{◌≡◌, ◌∙◌, sym, ap, List, Option, Some, None, codes, IsNone, Result, Ok, Err, true≢false, refl, subst}
use Rattle.std.specs.Result.{IsErrAnd}
use Rattle.std.specs.Prelude.{option_map}
use Rattle.clap.specs.Walk.{first_of}
use Rattle.clap.specs.Words.{Row, Text, first_value, found_of, rows_of}
use Rattle.clap.specs.declared.ArgMatches.{ArgMatches}
use Rattle.clap.proofs.WalkLemmas.{first_value-rows}
use Rattle.tsc_commands.specs.Words.{Answers, Explains, Request, asks, check}
use Rattle.tsc_commands.specs.declared.cli.Asked.{Asked}
use Rattle.tsc_commands.specs.declared.cli.WordsFault.{WordsFault}
use Rattle.tsc_commands.specs.declared.cli.WordsFault.TheVariants.{Wrong, NoMemory}
use Rattle.tsc_commands.specs.Commands.{both, check_found, request_for}

-- what a subcommand of one file asks, by the value of its argument
pub asks_file : (own : Text) (request : Text → Request) →
    ((rows : List Row) → request_for own rows ≡ option_map request (first_of (codes "file") rows))
    → (name : Text) (found : ArgMatches) → name ≡ own →
    request_for name (rows_of (found_of found)) ≡ option_map request
    (first_value (found_of found) (codes "file"))
asks_file own request by name found is =
    ap (λ (n : Text). request_for n (rows_of (found_of found))) is ∙ by (rows_of (found_of found)) ∙
    ap (option_map request) (sym (first_value-rows (found_of found) (codes "file")))

-- a reason why there is no value is one why it asks for nothing
pub explains_found : (request : Text → Request) (fault : WordsFault) (value : Option Text) →
    Explains value fault → Explains (option_map request value) fault
explains_found request Wrong None h = h
explains_found request Wrong (Some text) h = h
explains_found request NoMemory value h = h

-- what a trace and a log ask
abbrev pub checked : Text × Text → Request
checked files = check files.0 files.1

-- what a check asks, by the values of its arguments
pub asks_check : (found : ArgMatches) → check_found (rows_of (found_of found))
    ≡ option_map checked (both (first_value (found_of found) (codes "trace"))
    (first_value (found_of found) (codes "log")))
asks_check found = rw (
  first_value-rows (found_of found) (codes "trace"),
  first_value-rows (found_of found) (codes "log"),
) refl

-- a reason why one of two values is not there is one why they ask for nothing
pub explains_first : (request : Text × Text → Request) (fault : WordsFault)
    (first second : Option Text) → Explains first fault →
    Explains (option_map request (both first second)) fault
explains_first request Wrong None second h = h
explains_first request Wrong (Some text) second h = absurd (true≢false h)
explains_first request NoMemory first second h = h

pub explains_second : (request : Text × Text → Request) (fault : WordsFault)
    (first second : Option Text) → Explains second fault →
    Explains (option_map request (both first second)) fault
explains_second request Wrong None second h = refl
explains_second request Wrong (Some text) None h = h
explains_second request Wrong (Some text) (Some other) h = h
explains_second request NoMemory first second h = h

-- where nothing is asked for, each reason is one
pub nothing_explains : (fault : WordsFault) (wanted : Option Request) → IsNone wanted →
    Explains wanted fault
nothing_explains Wrong wanted none = none
nothing_explains NoMemory wanted none = tt

-- a reason handed on stays one
pub refused_alike : (r : Result Asked WordsFault) (fault : WordsFault) (wanted : Option Request) →
    IsErrAnd r (λ e. e ≡ fault) → Explains wanted fault → Answers asks wanted r
refused_alike (Ok answer) fault wanted same reported = absurd same
refused_alike (Err e) fault wanted same reported = subst (Explains wanted) (sym same) reported
