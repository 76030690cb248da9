-- A write may be made at its time just where that is the earliest one.
use Rattle.std.proofs.Common.{◌≡◌, ap, subst, true, Bool, IsTrue, Option, Some, None}
use Rattle.std.specs.Prelude.{◌↔◌}
use Rattle.tsc_time.specs.Time.{Time, is_in_range}
use Rattle.tsc_time.proofs.TimeOrder.{is_before-itself, same_from_neither_before}
use Rattle.tsc_cache.specs.ConfigView.{ConfigView}
use Rattle.tsc_cache.specs.History.{History, state_of}
use Rattle.tsc_cache.specs.CacheView.{CacheView, RepresentsState}
use Rattle.timestamp_cache.specs.Clear.{IsClearOfAnswers, IsClearOfAllReads}
use Rattle.timestamp_cache.specs.Earliest.{ReportsEarliest}
use Rattle.tsc_ffi_store.specs.Writes.{AskedWrite, ReportsWrite, ReportsMayWrite}

-- what is told is the time from which was asked only where it holds there
holds_at : (P : Time → Type 0) (from : Time) (reported : Option Time) →
    ReportsEarliest P from reported
    → reported ≡ Some from → P from
holds_at P from None reports is = absurd (let never : None ≡ Some from = is in cc)
holds_at P from (Some at) reports is =
    let same : at ≡ from = (let e : Some at ≡ Some from = is in cc) in
    subst P same reports.holds

-- and it is so wherever it holds there
reported_at : (P : Time → Type 0) (from : Time) (reported : Option Time) → is_in_range from ≡ true
    → ReportsEarliest P from reported → P from → reported ≡ Some from
reported_at P from None range reports holds = absurd
    (reports from range (is_before-itself from) holds)
reported_at P from (Some at) range reports holds =
    ap Some (same_from_neither_before at from reports.from_on
    (reports.least from range (is_before-itself from) holds))

reads_at : (cache : CacheView) (asked : AskedWrite) (reported : Option Time)
    → (reports : ReportsWrite cache asked reported) → reported ≡ Some asked.time
    → (config : ConfigView) (h : History) → RepresentsState cache config (state_of config h)
    → IsClearOfAllReads h reports.spans asked.by asked.time
reads_at cache asked None reports is = absurd (let never : None ≡ Some asked.time = is in cc)
reads_at cache asked (Some at) reports is =
    let same : at ≡ asked.time = (let e : Some at ≡ Some asked.time = is in cc) in
    λ config h stands.
    subst (λ (t : Time). IsClearOfAllReads h reports.spans asked.by t) same
    (reports.reads config h stands)

pub may_write : (cache : CacheView) (asked : AskedWrite) (reported : Option Time) (may : Bool)
    → is_in_range asked.time ≡ true → ReportsWrite cache asked reported
    → (IsTrue may ↔ (reported ≡ Some asked.time)) → ReportsMayWrite cache asked may
may_write cache asked reported may range reports is =
    let P : Time → Type 0 = λ t. IsClearOfAnswers cache reports.spans asked.by t in
    record {
      spans = reports.spans;
      asked_for = reports.asked_for;
      value = (
        λ yes. holds_at P asked.time reported reports.earliest (is.0 yes),
        λ clear. is.1 (reported_at P asked.time reported range reports.earliest clear),
      );
      reads = λ yes. reads_at cache asked reported reports (is.0 yes);
    }
