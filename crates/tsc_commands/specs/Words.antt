-- What the program's words ask for. The first word is the program's own name.
use Rattle.std.specs.Prelude.{◌≡◌, ◌==◌, ◌&&◌, ℕ, Bool, false, List, [], ◌∷◌, drop, codes, slice_get}
use Rattle.std.specs.Prelude.{Option, Some, None, IsNone, is_some, option_map, Result, Ok, Err, if◌then◌else◌, string_bytes}
use Rattle.std.specs.Str.{bytes_eq, chars}
use Rattle.tsc_commands.specs.declared.cli.Asked.{Asked}
use Rattle.tsc_commands.specs.declared.cli.Asked.TheVariants.{Replay, Run, Check}
use Rattle.tsc_commands.specs.declared.cli.WordsFault.{WordsFault}
use Rattle.tsc_commands.specs.declared.cli.WordsFault.TheVariants.{Wrong, NoMemory}

-- a word, as its bytes
abbrev pub Word : Type 0
Word = List ℕ

-- what may be asked, with the names of the files
pub data Request : Type 0 where
  replay : Word → Request
  run : Word → Request
  -- of a trace and a log
  check : Word → Word → Request

-- what the code's answer asks for
abbrev pub asks : Asked → Request
asks (Replay file) = replay (string_bytes file)
asks (Run file) = run (string_bytes file)
asks (Check trace log) = check (string_bytes trace) (string_bytes log)

-- what the code's answer asks for, or why for nothing
abbrev pub asked_as : Result Asked WordsFault → Result Request WordsFault
asked_as (Ok asked) = Ok (asks asked)
asked_as (Err fault) = Err fault

-- a hyphen (45), with a character after it
abbrev pub is_flag : Word → Bool
is_flag [] = false
is_flag (b ∷ rest) = b == 45 && is_some (slice_get (chars rest) 0)

-- the word `--`, after which no word is a flag
abbrev pub ends_flags : Word → Bool
ends_flags word = bytes_eq word (45 ∷ 45 ∷ [])

-- the words without the first `--`, where no flag stands before it
abbrev pub operands : List Word → Option (List Word)
operands [] = Some []
operands (word ∷ rest) = if ends_flags word then Some rest
    else (if is_flag word then None else option_map (λ more. word ∷ more) (operands rest))

-- the operand, where there is one
abbrev pub lone : Option (List Word) → Option Word
lone (Some (word ∷ [])) = Some word
lone _ = None

-- the operands, where there are two
abbrev pub pair : Option (List Word) → Option (Word × Word)
pair (Some (first ∷ second ∷ [])) = Some (first, second)
pair _ = None

-- a subcommand: its name, and what it asks with the words after it
pub record Subcommand : Type 0 where
  pub name : Word
  pub asked : List Word → Option Request

-- a subcommand that takes one file
abbrev pub with_file : Word → (Word → Request) → Subcommand
with_file name request = record {
  name = name;
  asked = λ rest. option_map request (lone (operands rest));
}

-- a subcommand that takes two files
abbrev pub with_two_files : Word → (Word → Word → Request) → Subcommand
with_two_files name request =
    record {
      name = name;
      asked = λ rest. option_map (λ files. request files.0 files.1)
          (pair (operands rest));
    }

-- the program's subcommands
abbrev pub subcommands : List Subcommand
subcommands = with_file (codes "replay") replay ∷ with_file (codes "run") run ∷
    with_two_files (codes "check") check ∷ []

-- what the subcommand of this name asks, with the words after it
abbrev pub request_by : List Subcommand → Word → List Word → Option Request
request_by [] name rest = None
request_by (first ∷ others) name rest =
    if bytes_eq first.name name then first.asked rest else request_by others name rest

-- what the words after the program's name ask for, by the first of them
abbrev pub request_after : List Word → Option Request
request_after [] = None
request_after (name ∷ rest) = request_by subcommands name rest

-- what all the words ask for
abbrev pub request_in : List Word → Option Request
request_in words = request_after (drop 1 words)

-- why there is nothing to answer: nothing was asked for, or memory was wanting, whatever was asked
-- for
abbrev pub Explains : {A : Type 0} → Option A → WordsFault → Type 0
Explains wanted Wrong = IsNone wanted
Explains wanted NoMemory = Unit {0}

-- what is asked for, as the code has it, or why there is nothing to answer
abbrev pub Answers : {A B : Type 0} → (A → B) → Option B → Result A WordsFault → Type 0
Answers view wanted (Ok answer) = wanted ≡ Some (view answer)
Answers view wanted (Err fault) = Explains wanted fault

-- the exit status where the program is asked to do nothing
abbrev pub refusal_status : WordsFault → ℕ
refusal_status Wrong = 2
refusal_status NoMemory = 5

-- what tells why the program is asked to do nothing
abbrev pub refusal_text : WordsFault → List ℕ
refusal_text Wrong = codes "usage: tscache replay FILE, run FILE or check FILE LOG"
refusal_text NoMemory = codes "out of memory"
