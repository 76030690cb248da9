-- The reads of a store.
use Rattle.std.specs.Prelude.{◌≡◌, true, List, All, length, drop}
use Rattle.std.specs.List.{Contains}
use Rattle.timestamp_cache.specs.Words.{Time, Owner, ValueView, owner_of, SpanView, overlaps, Mark, History, Entry}
use Rattle.timestamp_cache.specs.Clear.{IsClearOf, IsClearOfReads}

-- a read at a time, by a transaction
abbrev pub read_of : Time → Owner → ValueView
read_of at by = record { time = at; owner = owner_of by }

-- an Add of a history that adds a read of a span
pub record Adds (span : SpanView) (h : History) (read : ValueView) : Type 0 where
  pub entry : Entry
  pub mark : Mark
  pub there : Contains h entry
  pub own : Contains entry.marks mark
  pub over : overlaps mark.span span ≡ true
  pub value : mark.value ≡ read

-- A history has a read of a span: some Add of it adds that.
abbrev pub HasRead : SpanView → History → ValueView → Type 0
HasRead span h read = ∥ Adds span h read ∥₁

-- what a history has beyond another that it begins with
abbrev pub since : History → History → History
since start h = drop (length start) h

-- A transaction's write of a key is clear at a time: of each of the reads that were answered, and
-- of each read of a history on the key.
pub record IsClearFor (reads : List ValueView) (h : History) (span : SpanView) (by : Owner)
    (at : Time) : Type 0 where
  pub answered : All (λ read. IsClearOf read by at) reads
  pub seen : IsClearOfReads h span by at
