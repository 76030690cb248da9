-- What a seat is told of the reads of a span.
use Rattle.std.proofs.Common.{◌≡◌, ◌∙◌, sym, subst, ℕ}
use Rattle.std.specs.Arc.{arc_value}
use Rattle.tsc_time.proofs.RatchetOrder.{IsAtMost-transitive}
use Rattle.tsc_span.specs.Span.{SpanView}
use Rattle.tsc_cache.specs.ConfigView.{ConfigView}
use Rattle.tsc_cache.specs.State.{look}
use Rattle.tsc_cache.specs.CacheView.{CacheView, RepresentsState}
use Rattle.tsc_cache.specs.History.{History, state_of}
use Rattle.tsc_cache.proofs.Histories.{kept_up}
use Rattle.tsc_shared.specs.declared.answers.Snapshot.{Snapshot}
use Rattle.tsc_shared.specs.Seats.{SeatView}
use Rattle.tsc_shared.specs.Answers.{TakesSnapshot}
use Rattle.timestamp_cache.specs.declared.hand_over.SeatSummary.{SeatSummary}
use Rattle.timestamp_cache.specs.HandOver.{Summary, Summarizes, ReportsOf, summary_answer}
use Rattle.timestamp_cache.specs.SeatSummaries.{SummarizesAt, ReportsReads}
use Rattle.timestamp_cache.proofs.Rising.{summaries_report_no_less}

-- a summary of what a history left tells no less than each of its reads
pub reports_reads : (config : ConfigView) (h : History) (reported : Summary) →
    ReportsOf (state_of config h) reported → ReportsReads h reported
reports_reads config h reported reports inner e m within added own over =
    IsAtMost-transitive m.value (look (state_of config h) inner) (summary_answer reported inner)
    (kept_up config h e m inner added own over)
    (summaries_report_no_less.no_less (state_of config h) reported inner reports within)

-- so does one of a snapshot
pub summarizes_at : (old new : SeatView) (snapshot : Snapshot) (cache : CacheView) (of : SpanView)
    (most : ℕ) (reported : SeatSummary) → TakesSnapshot old new snapshot →
    cache ≡ arc_value snapshot.cache → Summarizes cache of most reported.summary →
    reported.front ≡ snapshot.front → SummarizesAt old new of most reported
summarizes_at old new snapshot cache of most reported taken same summarizes front =
    let config : ConfigView = old.cache.config in
    let stands : RepresentsState cache config (state_of config new.seen) =
    subst (λ (v : CacheView). RepresentsState v config (state_of config new.seen)) (sym same)
    taken.stands in record {
      goes_on = taken.goes_on;
      count = taken.count;
      front = front ∙ taken.front;
      cache = cache;
      stands = stands;
      summarizes = summarizes;
      reads = reports_reads config new.seen reported.summary
          (summarizes.answers config (state_of config new.seen) stands);
    }
