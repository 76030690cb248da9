-- What clap reads of the program's commands.
use Rattle.std.specs.Prelude.{List, [], Option, None, Some, true, codes, option_map, if◌then◌else◌}
use Rattle.std.specs.Str.{bytes_eq}
use Rattle.clap.specs.Walk.{Row, Rule, first_of}
use Rattle.clap.specs.Simple.{App, Shape, new_app, new_rule, new_shape, with_rule, with_subcommand}
use Rattle.tsc_commands.specs.Words.{Request, Word, check, replay, run}

-- an argument that names a file
abbrev pub file_rule : Word → Rule
file_rule id = record (new_rule id) { required = true }

-- a subcommand that takes one file
abbrev pub one_file_shape : Word → Shape
one_file_shape name = (with_rule (new_app name) (file_rule (codes "file"))).top

-- a subcommand that takes a trace and a log
abbrev pub trace_and_log_shape : Word → Shape
trace_and_log_shape name = (with_rule (with_rule (new_app name) (file_rule (codes "trace")))
    (file_rule (codes "log"))).top

-- the program, without its subcommands
abbrev pub bare_shape : Shape
bare_shape = record (new_shape (codes "tscache")) {
  subcommand_required = true;
  disable_help_flag = true;
  disable_help_subcommand = true;
}

-- the program's words, as what clap walks over
abbrev pub bare_app : App
bare_app = record { top = bare_shape; subs = [] }

-- with the first of its subcommands
abbrev pub app_of_replay : App
app_of_replay = with_subcommand bare_app (one_file_shape (codes "replay"))

-- with the two that take one file
abbrev pub app_of_files : App
app_of_files = with_subcommand app_of_replay (one_file_shape (codes "run"))

-- the program with its subcommands
abbrev pub program_app : App
program_app = with_subcommand app_of_files (trace_and_log_shape (codes "check"))

-- two values, where both are there
abbrev pub both : Option Word → Option Word → Option (Word × Word)
both (Some first) (Some second) = Some (first, second)
both _ _ = None

-- the trace and the log, with what clap found for these arguments
abbrev pub trace_and_log : List Row → Option (Word × Word)
trace_and_log rows = both (first_of (codes "trace") rows) (first_of (codes "log") rows)

-- what is asked with them
abbrev pub check_found : List Row → Option Request
check_found rows = option_map (λ files. check files.0 files.1) (trace_and_log rows)

-- what the subcommand of a name asks, with what clap found for its arguments
abbrev pub request_for : Word → List Row → Option Request
request_for name rows =
    if bytes_eq name (codes "replay") then option_map replay (first_of (codes "file") rows)
    else (if bytes_eq name (codes "run") then option_map run (first_of (codes "file") rows)
    else (if bytes_eq name (codes "check") then check_found rows else None))

-- what is asked, by the subcommand that clap found
abbrev pub request_found : Option (Word × List Row) → Option Request
request_found None = None
request_found (Some found) = request_for found.0 found.1
