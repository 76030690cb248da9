-- What the calls on a range answer.
use Rattle.std.specs.Prelude.{◌≡◌, ◌↔◌, ℕ, List, ◌∷◌, [], ◌++◌, None, false}
use Rattle.timestamp_cache.specs.Words.{Time, SpanView, ConfigView, CacheView, RepresentsState}
use Rattle.tsc_cache.specs.State.{opening, step_all}
use Rattle.timestamp_cache.specs.Earliest.{IsEarliest, ReportsEarliest}
use Rattle.timestamp_cache.specs.HandOver.{Summary, Summarizes, marks_reported}
use Rattle.tsc_cache.specs.Batch.{all_fit}
use Rattle.mvcc_range.specs.declared.range.Outcome.{Outcome}
use Rattle.mvcc_range.specs.declared.range.Outcome.TheVariants.{Committed, Restart}
use Rattle.mvcc_range.specs.declared.range.Reason.TheVariants.{Changed, NoTime}
use Rattle.mvcc_versions.specs.Versions.{Read, Row, as_of, Matches}
use Rattle.mvcc_range.specs.Serial.{Transaction, executed, moved}
use Rattle.mvcc_range.specs.Steps.{RangeView, Answers, IsFree, MayCommit, Commits, HandsOn}

-- A transaction reads a span: that is answered as of its time, and is the last of its reads then.
pub record Reads (old new : RangeView) (before after : Transaction) (span : SpanView)
    (now : Time) : Type 0 where
  pub read : Read
  pub of : read.span ≡ span
  pub answers : Answers old new before.by before.at now read
  pub has : after ≡ record before { reads = before.reads ++ read ∷ [] }

-- The rows of a span that a transaction sees: what is there as of its time, and after its own
-- writes.
abbrev pub SeesOwn : RangeView → Transaction → SpanView → List Row → Type 0
SeesOwn range t span rows = Matches (record { span = span; rows = rows })
    (executed (as_of t.at range.chains) t)

-- What a cache is to take over of a span was summarized, in at most `most` marks. That the summary
-- is too large is told exactly where some mark fits no page of a cache of these settings.
pub record ReportsTooLarge (cache : CacheView) (span : SpanView) (config : ConfigView) (most : ℕ)
    (reported : Type 0) : Type 0 where
  pub summary : Summary
  pub summarizes : Summarizes cache span most summary
  pub exact : reported ↔ (all_fit config (marks_reported summary) ≡ false)

-- A new cache has taken over what a summary of another one tells of a span, in at most `most`
-- marks: its state is that of its opening, to which the summary's marks were added at a moment.
pub record AddsSummary (config : ConfigView) (most : ℕ) (now : Time) (span : SpanView)
    (old new : CacheView) : Type 0 where
  pub summary : Summary
  pub summarizes : Summarizes old span most summary
  pub stands : RepresentsState new config
      (step_all config (opening config) (marks_reported summary) now).state

-- A range is handed on to a new lease, whose cache has taken over what a summary of the old one
-- tells of the range's span.
pub record HandsOnBy (config : ConfigView) (most : ℕ) (now : Time) (old new : RangeView)
    : Type 0 where
  pub hands_on : HandsOn config old new
  pub summed : AddsSummary config most now old.span old.cache new.cache

-- A transaction is to commit at the earliest time, from the one on at which it reads, that is free
-- for its writes. It commits then, or where it may not, nothing changes.
abbrev pub Ends : RangeView → RangeView → Transaction → Time → Outcome → Type 0
Ends old new t now (Committed at) = IsEarliest (IsFree old.cache old.chains t.by t.writes) t.at at
    × Commits old new (moved t at) now
Ends old new t now (Restart (Changed at)) =
    IsEarliest (IsFree old.cache old.chains t.by t.writes) t.at at × (MayCommit old (moved t at)
    → ⊥) × (new ≡ old)
Ends old new t now (Restart NoTime) =
    ReportsEarliest (IsFree old.cache old.chains t.by t.writes) t.at None × (new ≡ old)
