-- What a table of reads leaves in a cache, and what the writes of another owe it.
use Rattle.std.specs.Prelude.{◌≡◌, List, [], ◌∷◌, Some, true, false}
use Rattle.std.specs.List.{Contains}
use Rattle.timestamp_cache.specs.Words.{Time, is_before, SpanView, point, overlaps, CacheView, ConfigView}
use Rattle.timestamp_cache.specs.Clear.{IsClearOf}
use Rattle.timestamp_cache.specs.HandOver.{IsWithin}
use Rattle.example_hand_over.specs.declared.Read.{Read}
use Rattle.example_hand_over.specs.declared.Write.{Write}
use Rattle.example_hand_over.specs.FormerReads.{read_of, HasReads, AnswersOneMore, IsClearOfFormerReads}
use Rattle.example_hand_over.specs.Tables.{time_at, id_of, span_of}

-- A read of the table is answered: whatever reads the cache had, it has those and this one.
pub record AnswersRead (read : Read) (old new : CacheView) : Type 0 where
  pub span : SpanView
  pub own : span_of read.from.now read.to.now ≡ Some span
  pub more : AnswersOneMore old new span (read_of (time_at read.wall) (id_of read.name))
      (time_at read.wall)

-- All reads of the table are answered, one after another.
pub data AnswersAll : CacheView → List Read → CacheView → Type 0 where
  all_answered : (cache : CacheView) → AnswersAll cache [] cache
  one_answered : (old next new : CacheView) (read : Read) (others : List Read) →
      AnswersRead read old next → AnswersAll next others new → AnswersAll old (read ∷ others) new

-- A new cache has answered all reads of the table.
pub record HasAll (cache : CacheView) (reads : List Read) : Type 0 where
  pub config : ConfigView
  pub first : CacheView
  pub new : HasReads first config []
  pub answers : AnswersAll first reads cache

-- A write was pushed above what the former holder answered: it may be laid down at a time, not
-- before the one that it wants, at which it is clear of each read there.
pub record IsPushed (former : CacheView) (range : SpanView) (write : Write) (at : Time) : Type
    0 where
  pub from_on : is_before at (time_at write.wall) ≡ false
  pub clear : IsClearOfFormerReads former range (point write.key.now) (id_of write.name) at

-- A write may be laid down at a time, not before the one that it wants, at which it is clear of
-- each read of the table on its key, where that is within the range.
pub record IsClear (reads : List Read) (range : SpanView) (write : Write) (at : Time) : Type 0 where
  pub from_on : is_before at (time_at write.wall) ≡ false
  pub clear : IsWithin (point write.key.now) range → (read : Read) (span : SpanView) →
      Contains reads read → span_of read.from.now read.to.now ≡ Some span
      → overlaps span (point write.key.now) ≡ true →
      IsClearOf (read_of (time_at read.wall) (id_of read.name)) (id_of write.name) at
