-- Proves the contract of `SystemFilesFileSystem::open`. Opens the file of a name, to be read from
-- its first byte on.
use Rattle.std.proofs.Common.{◌∙◌, sym, ap}
use Rattle.tsc_stream.specs.Stream.{any_trouble}
use Rattle.tsc_commands.specs.FileSystem.{file_of, fresh_file}
use Rattle.tsc_commands.proofs.system.SystemFilesFileSystem.open.Goals as goal

pub returns-in-Ok : goal.returns-in-Ok
returns-in-Ok g c = let fresh = c.new.ensures.reader (g.R.File.Read.remaining c.new.result.inner.0)
    any_trouble in (tt, fresh ∙ ap (λ known. fresh_file (file_of known)) (sym fresh))
