-- Transactions that are executed one after another.
use Rattle.std.specs.Prelude.{List, [], ◌∷◌, None, if◌then◌else◌}
use Rattle.std.specs.List.{AllByRecursion}
use Rattle.timestamp_cache.specs.Words.{Time, is_before, Owner}
use Rattle.mvcc_versions.specs.Versions.{Contents, Write, Read, after_writes, Matches}

-- a transaction: its time, at which it reads or commits, who it is, what it read, and what it
-- writes
pub record Transaction : Type 0 where
  pub at : Time
  pub by : Owner
  pub reads : List Read
  pub writes : List Write

-- a transaction at another time
abbrev pub moved : Transaction → Time → Transaction
moved t at = record t { at = at }

-- before any transaction no key has anything
abbrev pub empty : Contents
empty k = None

-- what each key has once a transaction is executed
abbrev pub executed : Contents → Transaction → Contents
executed there t k = after_writes k (there k) t.writes

-- what is there once several transactions are executed, one after another
abbrev pub executed_all : Contents → List Transaction → Contents
executed_all there [] = there
executed_all there (t ∷ ts) = executed_all (executed there t) ts

-- Executed one after another, each transaction reads just what it was answered.
abbrev pub IsSerial : Contents → List Transaction → Type 0
IsSerial there [] = Unit {0}
IsSerial there (t ∷ ts) = AllByRecursion (λ r. Matches r there) t.reads
    × IsSerial (executed there t) ts

-- a transaction's place in the serial order: behind all that are no later
abbrev pub placed : Transaction → List Transaction → List Transaction
placed t [] = t ∷ []
placed t (u ∷ us) = if is_before t.at u.at then t ∷ u ∷ us else u ∷ placed t us

-- The serial order: transactions in the order of their times, and those of one time in the order in
-- which they committed. They are given with the last to commit first.
abbrev pub serial_order : List Transaction → List Transaction
serial_order [] = []
serial_order (t ∷ ts) = placed t (serial_order ts)
