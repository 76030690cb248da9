-- From call to call: what one cache told as bytes, and another one was given.
use Rattle.tsc_time.specs.Time.{Time}
use Rattle.tsc_time.specs.ValueView.{Owner}
use Rattle.tsc_span.specs.Span.{SpanView}
use Rattle.tsc_cache.specs.declared.added.Added.{Added}
use Rattle.tsc_cache.specs.ConfigView.{ConfigView}
use Rattle.tsc_cache.specs.State.{CacheState, step_all}
use Rattle.tsc_cache.specs.History.{History, state_of, state_from}
use Rattle.tsc_cache.specs.CacheView.{CacheView, RepresentsState, cache_answer}
use Rattle.timestamp_cache.specs.Clear.{IsClearOf, IsClearOfReads}
use Rattle.timestamp_cache.specs.HandOver.{IsWithin, marks_reported}
use Rattle.tsc_ffi_store.specs.Summaries.{AskedSummary, AskedApply, ReportsSummary, AppliesIn}

-- The former holder's cache, which stands for what a history left, tells bytes of a span, and they
-- are applied to the next holder's, which goes on with whatever Adds. A write that is clear of what
-- that one answers then, within the span, is clear of each read of the history there.
abbrev pub LeasesGoOn : Type 0
LeasesGoOn =
    (former next after last : CacheView) (config others : ConfigView) (h later : History)
    (s : CacheState) (asked : AskedSummary) (applied : AskedApply) (added : Added)
    (inner : SpanView) (by : Owner) (at : Time)
    → RepresentsState former config (state_of config h)
    → (reported : ReportsSummary former asked applied.bytes)
    → (took : AppliesIn next after applied added)
    → RepresentsState last others
    (state_from others (step_all others s (marks_reported took.reported) applied.moment).state
    later)
    → IsWithin inner reported.span → IsClearOf (cache_answer last inner) by at
    → IsClearOfReads h inner by at
