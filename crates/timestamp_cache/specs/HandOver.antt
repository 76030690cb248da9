-- Summaries of the reads of a span, for whoever takes its lease over: the read summaries of
-- CockroachDB's pkg/kv/kvserver/readsummary.
use Rattle.std.specs.Prelude.{◌≡◌, ◌↔◌, ◌⊎◌, ℕ, ◌≤◌, List, [], ◌∷◌, length, true, false, Result, IsOk, IsErrOf}
use Rattle.std.specs.List.{Contains}
use Rattle.tsc_time.specs.Time.{Time, is_before}
use Rattle.tsc_time.specs.ValueView.{ValueView, unowned}
use Rattle.tsc_time.specs.Joint.{joint, joint_above, IsAtMost}
use Rattle.tsc_span.specs.Span.{SpanView, nothing, between, is_below}
use Rattle.tsc_page_model.specs.Page.{Mark, values_on}
use Rattle.tsc_cache.specs.ConfigView.{ConfigView}
use Rattle.tsc_cache.specs.State.{CacheState, look}
use Rattle.tsc_cache.specs.CacheView.{CacheView, RepresentsState}
use Rattle.tsc_cache.specs.Batch.{all_fit, is_any_kept}
use Rattle.tsc_cache.specs.declared.added.Added.{Added}
use Rattle.tsc_cache.specs.declared.fault.CacheFault.{CacheFault}
use Rattle.tsc_cache.specs.declared.fault.CacheFault.TheVariants.{TooLarge}

-- a span, a floor for all of it, and marks above that
pub record Summary : Type 0 where
  pub span : SpanView
  pub floor : Time
  pub marks : List Mark

-- what a summary tells of a span: what its floor and its marks on that come to together
abbrev pub summary_answer : Summary → SpanView → ValueView
summary_answer reported span = joint_above reported.floor (values_on span reported.marks)

-- A span with something in it lies within another: it begins no lower and stops no higher.
abbrev pub IsWithin : SpanView → SpanView → Type 0
IsWithin nothing outer = ⊥
IsWithin (between first end) nothing = ⊥
IsWithin (between first end) (between from to) = (is_below first end ≡ true) ×
    (is_below first from ≡ false) × (is_below to end ≡ false)

-- A summary tells of a state: of each span within its own it tells the state's answer, raised to
-- the summary's floor. The summary thus tells no less than the state answers. It tells just the
-- state's answer where the floors are equal, and wherever that answer is above the summary's floor.
abbrev pub ReportsOf : CacheState → Summary → Type 0
ReportsOf s reported = (inner : SpanView) → IsWithin inner reported.span →
    summary_answer reported inner ≡ joint_above reported.floor (look s inner ∷ [])

-- A summary of a cache on a span, with at most `most` marks.
pub record Summarizes (cache : CacheView) (of : SpanView) (most : ℕ) (reported : Summary) : Type 0
  where
    -- the summary is of that span
    pub span : reported.span ≡ of
    -- the summary's floor is no lower than the cache's
    pub floor : is_before reported.floor cache.floor ≡ false
    pub few : length reported.marks ≤ most
    -- the floor is raised only where there is no room for one mark more
    pub left_out : (reported.floor ≡ cache.floor) ⊎ (length reported.marks ≡ most)
    -- each mark lies within the span, and above the cache's floor
    pub marks : (m : Mark) → Contains reported.marks m → IsWithin m.span of ×
        (is_before cache.floor m.value.time ≡ true)
    -- the summary tells of whatever state the cache stands for
    pub answers : (config : ConfigView) (s : CacheState) → RepresentsState cache config s →
        ReportsOf s reported

-- what is added where a summary is applied: its whole span at its floor, without an owner, and then
-- its marks
abbrev pub marks_reported : Summary → List Mark
marks_reported reported = record { span = reported.span; value = unowned reported.floor } ∷
    reported.marks

-- One state takes over from another what a summary tells: each answer within the summary's span is
-- no less than what the summary tells, no answer sinks, and where an answer is above the floor it
-- is what the old answer and the summary come to together.
pub record TakesOver (old new : CacheState) (reported : Summary) : Type 0 where
  pub learned : (inner : SpanView) → IsWithin inner reported.span →
      IsAtMost (summary_answer reported inner) (look new inner)
  pub kept : (inner : SpanView) → IsAtMost (look old inner) (look new inner)
  pub exact : (inner : SpanView) → IsWithin inner reported.span →
      is_before new.floor (look new inner).time ≡ true →
      look new inner ≡ joint (look old inner) (summary_answer reported inner ∷ [])

-- A cache refuses a summary as too large if one of its spans is, and else only for want of memory.
-- It never wants memory where none of the marks would be kept.
pub record RefusesOnlyFor (cache : CacheView) (reported : Summary) (did : Result Added CacheFault) :
    Type 0 where
  pub too_large : IsErrOf did TooLarge ↔ (all_fit cache.config (marks_reported reported) ≡ false)
  pub memory : all_fit cache.config (marks_reported reported) ≡ true →
      is_any_kept cache.floor (marks_reported reported) ≡ false → IsOk did
