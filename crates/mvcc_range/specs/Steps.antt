-- What calls make of a range.
use Rattle.std.specs.Prelude.{◌≡◌, List, [], ◌∷◌, map, Bool, true, false, ◌&&◌}
use Rattle.std.specs.List.{All, AllByRecursion}
use Rattle.tsc_time.specs.Time.{later}
use Rattle.tsc_span.specs.Span.{covers}
use Rattle.tsc_cache.specs.ConfigView.{fits}
use Rattle.tsc_cache.specs.State.{opening}
use Rattle.tsc_cache.specs.CacheView.{StandsAfter, StandsAfterAll}
use Rattle.timestamp_cache.specs.Words.{
  Time,
  zero_time,
  is_before,
  Owner,
  owner_of,
  IsAtMost,
  KeyBytes,
  SpanView,
  point,
  Mark,
  ConfigView,
  CacheView,
  RepresentsState,
  CacheState,
  look,
  History,
  state_of,
  cache_answer,
}
use Rattle.timestamp_cache.specs.Clear.{IsClearOf}
use Rattle.mvcc_versions.specs.Versions.{
  Write,
  Read,
  Chains,
  chain_of,
  as_of,
  stored,
  kept_from,
  newest_time,
  IsAfter,
  Matches,
}
use Rattle.mvcc_range.specs.Serial.{Transaction}

-- a range: the keys that it is of, the cache of its reads, the time before which it refuses, and
-- the versions of each key
pub record RangeView : Type 0 where
  pub span : SpanView
  pub cache : CacheView
  pub threshold : Time
  pub chains : Chains

-- what the cache remembers of a read, at a time by a transaction
abbrev pub mark_of : Time → Owner → Read → Mark
mark_of at by read = record { span = read.span; value = record { time = at; owner = owner_of by } }

-- whether the cache has room for each of some reads
abbrev pub reads_fit : ConfigView → List Read → Bool
reads_fit config [] = true
reads_fit config (r ∷ rs) = fits config r.span && reads_fit config rs

-- A range was opened with these settings: no key has a version, and its cache has no reads.
pub record IsOpened (config : ConfigView) (range : RangeView) : Type 0 where
  pub threshold : range.threshold ≡ zero_time
  pub chains : range.chains ≡ []
  pub cache : RepresentsState range.cache config (opening config)

-- A range is as before: its span, its cache, its threshold, and the versions of each key.
pub record IsSame (old new : RangeView) : Type 0 where
  pub span : new.span ≡ old.span
  pub cache : new.cache ≡ old.cache
  pub threshold : new.threshold ≡ old.threshold
  pub chains : (k : KeyBytes) → chain_of new.chains k ≡ chain_of old.chains k

-- A read at a time is answered: that is not before the threshold, its rows are what is there as of
-- then, and it is remembered.
pub record Answers (old new : RangeView) (by : Owner) (at now : Time) (read : Read) : Type 0 where
  pub in_time : is_before at old.threshold ≡ false
  pub matches : Matches read (as_of at old.chains)
  pub span : new.span ≡ old.span
  pub threshold : new.threshold ≡ old.threshold
  pub chains : new.chains ≡ old.chains
  pub remembered : StandsAfter old.cache new.cache (mark_of at by read) now

-- A time is later than the last write of each key that is written.
abbrev pub IsAfterWrites : Chains → List Write → Time → Type 0
IsAfterWrites chains writes t =
    AllByRecursion (λ w. IsAfter (newest_time (chain_of chains w.key)) t) writes

-- A time is free of a key that is written: it is later than the key's last write, and clear of each
-- read of it that the cache remembers.
abbrev pub IsFreeOf : CacheView → Chains → Owner → Write → Time → Type 0
IsFreeOf cache chains by w t = IsAfter (newest_time (chain_of chains w.key)) t
    × IsClearOf (cache_answer cache (point w.key)) by t

-- A time is free for a transaction's writes: it is later than the last write of each of their keys,
-- and clear of each read of them that the cache remembers.
pub record IsFree (cache : CacheView) (chains : Chains) (by : Owner) (writes : List Write)
    (at : Time) : Type 0 where
  pub after : IsAfterWrites chains writes at
  pub clear : All (λ w. IsClearOf (cache_answer cache (point w.key)) by at) writes

-- A transaction may commit at a time: that is not before the threshold, the keys that it writes are
-- the range's, each of its reads is just what is there as of then, and the time is free for its
-- writes.
pub record MayCommit (range : RangeView) (t : Transaction) : Type 0 where
  pub in_time : is_before t.at range.threshold ≡ false
  pub within : All (λ w. covers range.span w.key ≡ true) t.writes
  pub refreshed : All (λ r. Matches r (as_of t.at range.chains)) t.reads
  pub free : IsFree range.cache range.chains t.by t.writes t.at

-- The reads of a transaction are remembered at its time, and its writes become versions of that
-- time.
pub record StoresVersions (old new : RangeView) (t : Transaction) (now : Time) : Type 0 where
  pub span : new.span ≡ old.span
  pub threshold : new.threshold ≡ old.threshold
  pub remembered : StandsAfterAll old.cache new.cache (map (mark_of t.at t.by) t.reads) now
  pub chains : (k : KeyBytes) → chain_of new.chains k ≡ stored k t.at t.by t.writes
      (chain_of old.chains k)

-- A transaction may commit, and does.
pub record Commits (old new : RangeView) (t : Transaction) (now : Time) : Type 0 where
  pub may : MayCommit old t
  pub does : StoresVersions old new t now

-- A cache with these settings takes over from another: it has the reads of some history, and to
-- each key of a span it answers no less than whatever state the other one stands for.
pub record TakesOver (config : ConfigView) (span : SpanView) (old new : CacheView) : Type 0 where
  pub history : History
  pub cache : RepresentsState new config (state_of config history)
  pub no_less : (others : ConfigView) (s : CacheState) (k : KeyBytes) → covers span k ≡ true
      → RepresentsState old others s → IsAtMost (look s (point k)) (cache_answer new (point k))

-- A range is handed on to a new lease: its versions stay, and its new cache, with these settings,
-- takes over from the old one.
pub record HandsOn (config : ConfigView) (old new : RangeView) : Type 0 where
  pub span : new.span ≡ old.span
  pub threshold : new.threshold ≡ old.threshold
  pub chains : new.chains ≡ old.chains
  pub takes_over : TakesOver config old.span old.cache new.cache

-- Old versions are dropped: from then on the range refuses what is before a time, and of each key
-- stay the versions that are of use from then on.
pub record Collects (old new : RangeView) (before : Time) : Type 0 where
  pub span : new.span ≡ old.span
  pub cache : new.cache ≡ old.cache
  pub threshold : new.threshold ≡ later old.threshold before
  pub chains : (k : KeyBytes) → chain_of new.chains k ≡ kept_from new.threshold
      (chain_of old.chains k)

-- a read that was answered: to which transaction, and as of which time
pub record Answered : Type 0 where
  pub by : Owner
  pub at : Time
  pub read : Read

-- An execution of calls on a range since it was opened: the range that it led to, all reads that
-- were answered, and the transactions that committed, the last of each first. Calls that were
-- refused, and those that told a transaction to restart, leave the range as it was, and add nothing
-- to these.
pub data Execution : RangeView → List Answered → List Transaction → Type 0 where
  opened : (config : ConfigView) (range : RangeView) → IsOpened config range
      → Execution range [] []
  answers : (old new : RangeView) (answered : List Answered) (committed : List Transaction)
      (by : Owner) (at now : Time) (read : Read)
      → Execution old answered committed → Answers old new by at now read
      → Execution new ((record { by = by; at = at; read = read }) ∷ answered) committed
  commits : (old new : RangeView) (answered : List Answered) (committed : List Transaction)
      (t : Transaction) (now : Time)
      → Execution old answered committed → Commits old new t now
      → Execution new answered (t ∷ committed)
  stays : (old new : RangeView) (answered : List Answered) (committed : List Transaction)
      → Execution old answered committed → IsSame old new → Execution new answered committed
  hands_on : (config : ConfigView) (old new : RangeView) (answered : List Answered)
      (committed : List Transaction) → Execution old answered committed → HandsOn config old new
      → Execution new answered committed
  collects : (old new : RangeView) (answered : List Answered) (committed : List Transaction)
      (before : Time) → Execution old answered committed → Collects old new before
      → Execution new answered committed
