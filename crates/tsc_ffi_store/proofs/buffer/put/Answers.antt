-- A text that is longer than the buffer leaves it as it was.
use Rattle.std.proofs.Common.{rules}
use Rattle.tsc_ffi_store.proofs.buffer.put.Goals as goal

pub returns-then-text-out : goal.returns-then-text-out
returns-then-text-out c = search rules
