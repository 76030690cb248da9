-- What a call makes of what lies under the lock. (For private contracts.)
use Rattle.std.specs.Prelude.{◌≡◌, ◌++◌}
use Rattle.mvcc_shared.specs.declared.served.Served.{Served}
use Rattle.mvcc_shared.specs.History.{Makes, entries_of}
use Rattle.mvcc_shared.specs.Pending.{call_of}

-- The pending call was made of the range, and the log has what it adds.
pub record HasMade (old new : Served) : Type 0 where
  pub made : Makes old.range (call_of new.pending) new.range
  pub log : new.log.items ≡ old.log.items ++ entries_of (call_of new.pending)
