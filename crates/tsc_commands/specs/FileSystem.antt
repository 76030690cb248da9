-- What opening a file comes to.
use Rattle.std.specs.Prelude.{◌≡◌, ℕ, List, Option, Result, Ok, Err}
use Rattle.tsc_stream.specs.Stream.{KnownReader, Troubles, fresh_reader}
use Rattle.tsc_commands.specs.declared.file_system.OpenFault.{OpenFault}

-- What is known of a file: its bytes, where they are known, and with which troubles a read may end.
pub record KnownFile : Type 0 where
  pub bytes : Option (List ℕ)
  pub troubles : Troubles

-- what is known of a file, or why it was not opened
abbrev pub Opening : Type 0
Opening = Result KnownFile OpenFault

-- the reader of a file that was not called yet
abbrev pub fresh_file : KnownFile → KnownReader
fresh_file file = fresh_reader file.bytes file.troubles

-- what is known of the file of such a reader
abbrev pub file_of : KnownReader → KnownFile
file_of reader = record { bytes = reader.bytes; troubles = reader.troubles }

-- Opening a file came to what it may come to, and a reader that it gave was not called yet.
abbrev pub IsOpening : {F : Type 0} → (F → KnownReader) → (Opening → Type 0) →
    Result F OpenFault → Type 0
IsOpening known may_be (Ok file) = may_be (Ok (file_of (known file))) ×
    (known file ≡ fresh_file (file_of (known file)))
IsOpening known may_be (Err fault) = may_be (Err fault)

-- nothing is known of what an opening comes to
abbrev pub says_nothing : {P : Type 0} → P → List ℕ → Opening → Type 0
says_nothing files name opening = Unit {0}
