-- A time is made within its range.
use Rattle.std.proofs.Common.{rules}
use Rattle.tsc_time.proofs.timestamp.Timestamp.new.Goals as goal

pub returns-else-wall : goal.returns-else-wall
returns-else-wall c = search rules
