-- What follows of the calls on a range, for those who share it.
use Rattle.std.specs.Prelude.{◌≡◌, ◌≢◌, List, [], ◌∷◌, ◌++◌, true, false, not, filter, reverse, None}
use Rattle.std.specs.List.{AllByRecursion, Contains}
use Rattle.tsc_span.specs.Span.{covers}
use Rattle.timestamp_cache.specs.Words.{Time, is_before, SpanView, KeyBytes}
use Rattle.mvcc_versions.specs.Versions.{
  Contents,
  Row,
  Read,
  as_of,
  Matches,
  row_of,
  is_written,
  after_writes,
}
use Rattle.mvcc_range.specs.declared.range.Outcome.TheVariants.{Committed}
use Rattle.mvcc_range.specs.Serial.{
  Transaction,
  empty,
  executed,
  executed_all,
  moved,
  IsSerial,
  serial_order,
}
use Rattle.mvcc_range.specs.Steps.{RangeView, Answered, Execution}
use Rattle.mvcc_range.specs.Calls.{Reads, SeesOwn}
use Rattle.mvcc_shared.specs.History.{
  Event,
  History,
  Terms,
  has_ended,
  BeginsWith,
  IsLegal,
  range_after,
  log_of,
}

-- the transactions of a serial order up to a time
abbrev pub up_to : Time → List Transaction → List Transaction
up_to at ts = filter (λ t. not (is_before at t.at)) ts

-- What a range has as of a time, as long as it answers reads of that time, is what the transactions
-- that committed up to then leave, executed in the serial order. So who reads at a time not before
-- that of a commit, its own or another's, sees what was written.
abbrev pub SeesCommits : Type 0
SeesCommits = (range : RangeView) (answered : List Answered) (committed : List Transaction)
    (at : Time) (k : KeyBytes) → Execution range answered committed
    → is_before at range.threshold ≡ false
    → as_of at range.chains k ≡ executed_all empty (up_to at (serial_order committed)) k

-- one transaction stands before another in an order
abbrev pub Precedes : List Transaction → Transaction → Transaction → Type 0
Precedes order t u = (before between after : List Transaction)
    × (order ≡ before ++ t ∷ between ++ u ∷ after)

-- Of two transactions, the one that commits later, at a time not before that of the other, comes
-- after it in the serial order. So who begins once another's commit has returned, at a time not
-- before it, is in that order with it. Those that committed are given with the last one first.
abbrev pub StrictByTimes : Type 0
StrictByTimes = (t u : Transaction) (later between earlier : List Transaction)
    → is_before u.at t.at ≡ false
    → Precedes (serial_order (later ++ u ∷ between ++ t ∷ earlier)) t u

-- What a client was told, with the transaction's own writes put over it, is what the transaction
-- reads in every store where its read is just so. By serializability that is the store at its turn
-- in the serial order.
abbrev pub ReadsOwnWrites : Type 0
ReadsOwnWrites = (from to : RangeView) (before after : Transaction) (span : SpanView) (now : Time)
    (rows : List Row) (there : Contents) → (reads : Reads from to before after span now)
    → SeesOwn from before span rows → Matches reads.read there
    → Matches (record { span = span; rows = rows }) (executed there before)

-- An execution of calls led to a range, and the transactions that committed in it are those of a
-- log, in that order.
pub record IsExecution (range : RangeView) (log : List Transaction) : Type 0 where
  pub answered : List Answered
  pub run : Execution range answered (reverse log)

-- What the calls of a legal history do is an execution of calls on one range, in which the
-- transactions of its log committed. So the laws of a range hold of all that clients see.
abbrev pub HistoriesRun : Type 0
HistoriesRun = (terms : Terms) (h : History) → IsLegal terms h
    → IsExecution (range_after terms.opened h) (log_of h)

-- Who commits when the client has seen another's commit, at a time not before that one, comes after
-- it in the serial order. The client may have made that commit itself, or have learned it. The
-- commits are calls of one history, each behind all that its client had seen.
abbrev pub StrictForThoseWhoMeet : Type 0
StrictForThoseWhoMeet = (first before whole : History) (c d : Event) (t u : Transaction)
    (now at now' at' : Time) → c.call ≡ has_ended t now (Committed at)
    → d.call ≡ has_ended u now' (Committed at')
    → BeginsWith before (first ++ c ∷ []) → BeginsWith whole (before ++ d ∷ [])
    → is_before at' at ≡ false
    → Precedes (serial_order (reverse (log_of whole))) (moved t at) (moved u at')

-- a transaction has read a key of a span, and saw there what another one's writes do not leave
pub record Misses (reader writer : Transaction) : Type 0 where
  pub read : Read
  pub among : Contains reader.reads read
  pub key : KeyBytes
  pub in_span : covers read.span key ≡ true
  pub written : is_written key writer.writes ≡ true
  pub other : row_of key read.rows ≢ after_writes key None writer.writes

-- None of some transactions writes what one of two wrote and the other missed.
abbrev pub LeavesAlone : KeyBytes → List Transaction → Type 0
LeavesAlone key ts = AllByRecursion (λ t. is_written key t.writes ≡ false) ts

-- There is no write skew. Two transactions of a serial order cannot both have missed what the other
-- one wrote, unless a third one stands between them and writes there again. So of two clients that
-- scan one span, and each write a key of it that the other saw as it was, never both commit.
abbrev pub NoWriteSkew : Type 0
NoWriteSkew = (before between after : List Transaction) (t u : Transaction)
    → IsSerial empty (before ++ t ∷ between ++ u ∷ after) → (m : Misses u t)
    → LeavesAlone m.key between → ⊥
