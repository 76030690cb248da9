-- What follows of readers that never fail.
use Rattle.std.specs.Prelude.{◌≡◌, ◌≢◌, ◌<◌, false}
use Rattle.tsc_stream.specs.Limits.{longest_input}
use Rattle.tsc_stream.specs.Stream.{KnownReader, CouldNotRead}
use Rattle.tsc_stream.specs.declared.stream.StreamFault.{StreamFault}
use Rattle.tsc_stream.specs.declared.stream.Phase.TheVariants as phase

-- A reader that has not failed, of which no read meets any trouble, and that may be called more
-- often than an input has bytes. So are bytes in memory.
pub record IsReliable (reader : KnownReader) : Type 0 where
  pub unfailed : reader.phase ≢ phase.Failed
  pub calm : (trouble : StreamFault) → reader.troubles trouble ≡ false
  pub calls : longest_input < reader.turns

-- No reading of such a reader is told as failed.
abbrev pub ReliableReadsDoNotFail : Type 0
ReliableReadsDoNotFail = (old new : KnownReader) → IsReliable old → CouldNotRead old new → ⊥
