-- What a call makes of the cache that it names, and why it is refused.
use Rattle.std.specs.Prelude.{◌≡◌, ◌⊎◌, ◌+◌, ◌-◌, ◌^◌, ◌≤◌, ℕ, List, length, true, false, Option, Some, None, Result, IfOk, IfErr, IsOk, OnErr}
use Rattle.tsc_time.specs.Time.{Time}
use Rattle.tsc_time.specs.ValueView.{ValueView}
use Rattle.tsc_span.specs.Span.{SpanView}
use Rattle.tsc_page_model.specs.Page.{Mark}
use Rattle.tsc_cache.specs.declared.added.Added.{Added}
use Rattle.tsc_cache.specs.ConfigView.{ConfigView, fits}
use Rattle.tsc_cache.specs.State.{CacheState, opening, step, step_all, look}
use Rattle.tsc_cache.specs.CacheView.{CacheView, RepresentsState, Adds, cache_answer}
use Rattle.tsc_cache.specs.Counts.{figures_of, figures_seen}
use Rattle.tsc_cache.specs.Batch.{AddsAll, all_fit}
use Rattle.tsc_ffi_store.specs.declared.counts.CountedCache.{CountedCache}
use Rattle.tsc_ffi_store.specs.declared.ctypes.TscFigures.{TscFigures}
use Rattle.tsc_ffi_store.specs.declared.refusal.Refusal.{Refusal}
use Rattle.tsc_ffi_store.specs.declared.refusal.Refusal.TheVariants as refusal
use Rattle.tsc_ffi_store.specs.declared.store.Slot.{Slot}
use Rattle.tsc_ffi_store.specs.Decode.{AskedSpan, AskedAdd, AskedBatch, AskedConfig, lookup_span, figures_reported, NamesAdd, NamesConfig, RefusesEnds, RefusesNamed, RefusesConfig}
use Rattle.tsc_ffi_store.specs.Marks.{NamesAddAll, RefusesBatch}
use Rattle.tsc_ffi_store.specs.Counts.{no_counts}
use Rattle.tsc_ffi_store.specs.Store.{cache_at, GivesNext, RefusesHandles}

-- Where there was none, a cache without Adds is held, of which nothing was asked.
pub record Opens (old new : Option CountedCache) (config : ConfigView) : Type 0 where
  pub cache : CacheView
  pub none : old ≡ None
  pub holds : new ≡ Some (record { cache = cache; counts = no_counts })
  pub stands : RepresentsState cache config (opening config)

-- There are so many handles more, but no memory for what they are to name.
abbrev pub LacksMemoryForHandles : Refusal → List Slot → ℕ → Type 0
LacksMemoryForHandles why slots more =
    (why ≡ refusal.NoMemory) × (length slots + more ≤ 2 ^ 64 - 1)

-- All that a call says of a cache is right, and there is a handle for it, but no memory.
pub record LacksMemoryToOpen (why : Refusal) (asked : AskedConfig) (slots : List Slot) : Type
    0 where
  pub config : ConfigView
  pub names : NamesConfig asked config
  pub lacks : LacksMemoryForHandles why slots 1

-- Why no cache was opened.
abbrev pub RefusesOpen : Refusal → AskedConfig → List Slot → Type 0
RefusesOpen why asked slots = RefusesConfig why asked ⊎ RefusesHandles why slots 1 ⊎
    LacksMemoryToOpen why asked slots

-- What a call does that opens a cache, at the next handle.
pub record AnswersOpen {A : Type 0} (asked : AskedConfig) (handle : ℕ) (old new : List Slot)
    (did : Result A Refusal) : Type 0 where
  pub opened : IfOk did (λ _. (config : ConfigView) × NamesConfig asked config ×
      Opens (cache_at old handle) (cache_at new handle) config)
  pub given : IfOk did (λ _. GivesNext old new handle)
  pub refused : IfErr did (λ why. RefusesOpen why asked old)
  pub unchanged : OnErr did (new ≡ old)

-- What a cache answers to the span that a call names.
pub record LooksIn (cache : CacheView) (asked : AskedSpan) (v : ValueView) : Type 0 where
  pub span : SpanView
  pub asked_for : lookup_span asked ≡ Some span
  pub value : v ≡ cache_answer cache span
  pub stands : (config : ConfigView) (s : CacheState) → RepresentsState cache config s →
      v ≡ look s span

-- What a lookup in a cache answers.
pub record AnswersLookup {A : Type 0} (asked : AskedSpan) (v : ValueView) (cache : CacheView)
    (did : Result A Refusal) : Type 0 where
  pub looked : IfOk did (λ _. LooksIn cache asked v)
  pub refused : IfErr did (λ why. RefusesEnds why asked.ends)

-- Where the floor of a cache stands.
pub record StandsAt (cache : CacheView) (floor : Time) : Type 0 where
  pub value : floor ≡ cache.floor
  pub stands : (config : ConfigView) (s : CacheState) → RepresentsState cache config s →
      floor ≡ s.floor

-- The figures of a cache, and what was asked of it. Of the memory nothing is said.
pub record ReportsFigures (held : CountedCache) (figures : TscFigures) : Type 0 where
  pub value : figures ≡ figures_reported (figures_seen held.cache) figures.memory held.counts
  pub stands : (config : ConfigView) (s : CacheState) → RepresentsState held.cache config s →
      figures ≡ figures_reported (figures_of s) figures.memory held.counts

-- What a call answers that no cache refuses.
pub record AnswersAlways {A : Type 0} (Reported : CountedCache → Type 0) (held : CountedCache)
    (did : Result A Refusal) : Type 0 where
  pub reported : Reported held
  pub done : IsOk did

-- What an Add of the span that a call names makes of a cache, where the span fits a page.
pub record AddsIn (cache after : CacheView) (asked : AskedAdd) (added : Added) : Type 0 where
  pub span : SpanView
  pub names : NamesAdd asked span
  pub fit : fits cache.config span ≡ true
  pub adds : Adds cache after (record { span = span; value = asked.value }) asked.moment added
  pub stands : (config : ConfigView) (s : CacheState) → RepresentsState cache config s
      → RepresentsState after config
      (step config s (record { span = span; value = asked.value }) asked.moment).state
  pub reports : (config : ConfigView) (s : CacheState) → RepresentsState cache config s
      → added ≡ (step config s (record { span = span; value = asked.value }) asked.moment).added

-- All that a call says of an Add is right, but its span costs more than the largest page may have.
pub record IsTooLarge (why : Refusal) (config : ConfigView) (asked : AskedAdd) : Type 0 where
  pub span : SpanView
  pub names : NamesAdd asked span
  pub too_large : fits config span ≡ false
  pub reported : why ≡ refusal.TooLarge

-- All that a call says of an Add is right, and its span fits a page, but memory was refused.
pub record LacksMemoryFor (why : Refusal) (config : ConfigView) (asked : AskedAdd) : Type 0 where
  pub span : SpanView
  pub names : NamesAdd asked span
  pub fit : fits config span ≡ true
  pub reported : why ≡ refusal.NoMemory

-- Why a cache refused an Add.
abbrev pub RefusesAdd : Refusal → CacheView → AskedAdd → Type 0
RefusesAdd why cache asked = RefusesNamed why asked ⊎ IsTooLarge why cache.config asked ⊎
    LacksMemoryFor why cache.config asked

-- What an Add to a cache does.
pub record AnswersAdd {A : Type 0} (asked : AskedAdd) (reported : Added) (cache after : CacheView)
    (did : Result A Refusal) : Type 0 where
  pub added : IfOk did (λ _. AddsIn cache after asked reported)
  pub refused : IfErr did (λ why. RefusesAdd why cache asked)
  pub unchanged : OnErr did (after ≡ cache)

-- What an Add of the marks that a call names makes of a cache, where the span of each fits a page.
pub record AddsAllIn (cache after : CacheView) (asked : AskedBatch) (added : Added) : Type 0 where
  pub marks : List Mark
  pub names : NamesAddAll asked marks
  pub fit : all_fit cache.config marks ≡ true
  pub adds : AddsAll cache after marks asked.moment added
  pub stands : (config : ConfigView) (s : CacheState) → RepresentsState cache config s →
      RepresentsState after config (step_all config s marks asked.moment).state
  pub reports : (config : ConfigView) (s : CacheState) → RepresentsState cache config s →
      added ≡ (step_all config s marks asked.moment).added

-- All that a call says of several marks is right, but the span of one costs more than the largest
-- page may have.
pub record AreTooLarge (why : Refusal) (config : ConfigView) (asked : AskedBatch) : Type 0 where
  pub marks : List Mark
  pub names : NamesAddAll asked marks
  pub too_large : all_fit config marks ≡ false
  pub reported : why ≡ refusal.TooLarge

-- All that a call says of several marks is right, and the span of each fits a page, but memory was
-- refused.
pub record LackMemoryFor (why : Refusal) (config : ConfigView) (asked : AskedBatch) : Type 0 where
  pub marks : List Mark
  pub names : NamesAddAll asked marks
  pub fit : all_fit config marks ≡ true
  pub reported : why ≡ refusal.NoMemory

-- Why a cache refused an Add of several marks.
abbrev pub RefusesAddAll : Refusal → CacheView → AskedBatch → Type 0
RefusesAddAll why cache asked = RefusesBatch why asked ⊎ AreTooLarge why cache.config asked ⊎
    LackMemoryFor why cache.config asked

-- What an Add of several marks to a cache does.
pub record AnswersAddAll {A : Type 0} (asked : AskedBatch) (reported : Added)
    (cache after : CacheView) (did : Result A Refusal) : Type 0 where
  pub added : IfOk did (λ _. AddsAllIn cache after asked reported)
  pub refused : IfErr did (λ why. RefusesAddAll why cache asked)
  pub unchanged : OnErr did (after ≡ cache)
