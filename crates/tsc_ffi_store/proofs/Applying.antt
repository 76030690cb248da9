-- What a cache did with a summary, in what a call wrote of it.
use Rattle.std.proofs.Common.{◌≡◌, subst, true}
use Rattle.tsc_time.specs.Time.{Time}
use Rattle.tsc_cache.specs.declared.added.Added.{Added}
use Rattle.tsc_cache.specs.ConfigView.{ConfigView}
use Rattle.tsc_cache.specs.State.{CacheState, step_all}
use Rattle.tsc_cache.specs.CacheView.{CacheView, RepresentsState}
use Rattle.tsc_cache.specs.Batch.{AddsAll, all_fit}
use Rattle.timestamp_cache.specs.HandOver.{Summary, marks_reported, TakesOver}
use Rattle.tsc_ffi_store.specs.Summaries.{AskedApply, NamesSummary, AppliesIn}

-- what the cache says of each state that it stands for
abbrev pub Does : CacheView → CacheView → Summary → Time → Type 0
Does cache after reported now = (config : ConfigView) (s : CacheState) →
    RepresentsState cache config s
    → RepresentsState after config (step_all config s (marks_reported reported) now).state

abbrev pub Says : CacheView → Summary → Time → Added → Type 0
Says cache reported now added = (config : ConfigView) (s : CacheState) →
    RepresentsState cache config s
    → added ≡ (step_all config s (marks_reported reported) now).added

abbrev pub Takes : CacheView → Summary → Time → Type 0
Takes cache reported now = (config : ConfigView) (s : CacheState) → RepresentsState cache config s
    → TakesOver s (step_all config s (marks_reported reported) now).state reported

pub applies_in : (cache after : CacheView) (asked : AskedApply) (reported : Summary) (now : Time)
    (added words : Added) → NamesSummary asked reported
    → all_fit cache.config (marks_reported reported) ≡ true → now ≡ asked.moment → added ≡ words
    → AddsAll cache after (marks_reported reported) now added → Does cache after reported now
    → Says cache reported now added → Takes cache reported now → AppliesIn cache after asked words
applies_in cache after asked reported now added words names fit moment reports adds does says takes = record {
  reported = reported;
  names = names;
  fit = fit;
  adds = subst (λ (a : Added). AddsAll cache after (marks_reported reported) asked.moment a) reports
      (subst (λ (t : Time). AddsAll cache after (marks_reported reported) t added) moment adds);
  stands = subst (Does cache after reported) moment does;
  reports = subst (Says cache reported asked.moment) reports
      (subst (λ (t : Time). Says cache reported t added) moment says);
  takes_over = subst (Takes cache reported) moment takes;
}
