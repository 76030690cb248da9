-- What one cache told as bytes, and another one was given.
use Rattle.std.proofs.Common.{◌≡◌, ◌∙◌, sym, subst}
use Rattle.std.specs.Prelude.{Ok}
use Rattle.tsc_time.specs.ValueView.{ValueView}
use Rattle.tsc_span.specs.Span.{SpanView}
use Rattle.tsc_cache.specs.State.{CacheState, step_all}
use Rattle.tsc_cache.specs.History.{state_of, state_from}
use Rattle.tsc_cache.proofs.StatesSeen.{answers_look}
use Rattle.timestamp_cache.specs.Clear.{IsClearOf}
use Rattle.timestamp_cache.specs.HandOver.{Summary, IsWithin, ReportsOf, marks_reported}
use Rattle.timestamp_cache.specs.SummaryReading.{Read}
use Rattle.timestamp_cache.proofs.TakingOver.{reads_are_handed_on}
use Rattle.tsc_ffi_store.specs.Laws.{LeasesGoOn}

the_same : {a b : Summary} {r : Read Summary} → r ≡ Ok a → r ≡ Ok b → a ≡ b
the_same {a} {b} {r} first second = let same : Ok a ≡ Ok b = sym first ∙ second in cc

pub leases_go_on : LeasesGoOn
leases_go_on former next after last config others h later s asked applied added inner by at
    was reported
    took is within clear =
    let same : reported.reported ≡ took.reported = the_same reported.read_back took.names.read in
    let reports : ReportsOf (state_of config h) took.reported =
    subst (λ (t : Summary). ReportsOf (state_of config h) t) same
    (reported.summarizes.answers config (state_of config h) was) in
    let of_that : IsWithin inner took.reported.span =
    subst (λ (t : Summary). IsWithin inner t.span) same
    (subst (λ (i : SpanView). IsWithin inner i) (sym reported.summarizes.span) within) in
    let end : CacheState = state_from others
    (step_all others s (marks_reported took.reported) applied.moment).state later in
    reads_are_handed_on config others h later s took.reported applied.moment inner by at reports
    of_that
    (subst (λ (v : ValueView). IsClearOf v by at) (answers_look last others end inner is) clear)
