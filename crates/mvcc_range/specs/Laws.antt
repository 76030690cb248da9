-- What follows from any execution.
use Rattle.std.specs.Prelude.{◌≡◌, List, true, false}
use Rattle.std.specs.List.{All, AllByRecursion, Contains}
use Rattle.tsc_span.specs.Span.{covers}
use Rattle.timestamp_cache.specs.Words.{Time, is_before, Owner, KeyBytes}
use Rattle.mvcc_versions.specs.Versions.{Chains, chain_of, latest, as_of, Matches}
use Rattle.mvcc_range.specs.Serial.{Transaction, empty, executed_all, IsSerial, serial_order}
use Rattle.mvcc_range.specs.Steps.{RangeView, Answered, Execution, IsFree, MayCommit}

-- Transactions are serializable in the order of their times: executed in that order, each reads
-- just what it was answered, and in the end each key has just what its newest version says.
pub record IsSerializable (committed : List Transaction) (chains : Chains) : Type 0 where
  pub serial : IsSerial empty (serial_order committed)
  pub final : (k : KeyBytes) → latest chains k ≡ executed_all empty (serial_order committed) k

-- Whatever calls were made of a range, the transactions that committed are serializable.
abbrev pub Serializable : Type 0
Serializable = (range : RangeView) (answered : List Answered) (committed : List Transaction)
    → Execution range answered committed → IsSerializable committed range.chains

-- A transaction has written nothing at a time.
abbrev pub HasNotWritten : Owner → Time → Chains → Type 0
HasNotWritten by at chains = (k : KeyBytes) → AllByRecursion (λ v. v.at ≡ at → v.by ≡ by
    → ⊥) (chain_of chains k)

-- Whatever calls were made of a range, each read that was ever answered is just what is there as of
-- its time, as long as the range answers reads of that time, and unless its own transaction wrote
-- then.
abbrev pub Repeatable : Type 0
Repeatable = (range : RangeView) (answered : List Answered) (committed : List Transaction)
    → Execution range answered committed
    → AllByRecursion (λ a. is_before a.at range.threshold ≡ false
    → HasNotWritten a.by a.at range.chains → Matches a.read (as_of a.at range.chains)) answered

-- A transaction all of whose reads were answered as of its time, which is not before the threshold,
-- and that has written nothing then, may commit at that time where it is free for its writes. So
-- who isn't pushed need not restart.
abbrev pub Unpushed : Type 0
Unpushed = (range : RangeView) (answered : List Answered) (committed : List Transaction)
    (t : Transaction) → Execution range answered committed
    → AllByRecursion (λ r. Contains answered (record { by = t.by; at = t.at; read = r })) t.reads
    → HasNotWritten t.by t.at range.chains
    → is_before t.at range.threshold ≡ false → All (λ w. covers range.span w.key ≡ true) t.writes
    → IsFree range.cache range.chains t.by t.writes t.at → MayCommit range t
