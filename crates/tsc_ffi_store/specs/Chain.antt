-- From call to call: what was opened, added and looked up at a handle goes together into one
-- history.
use Rattle.std.specs.Prelude.{◌≡◌, ℕ, List, [], ◌∷◌, ◌++◌, length, Option, Some, None, Ok}
use Rattle.tsc_time.specs.Time.{Time}
use Rattle.tsc_time.specs.ValueView.{ValueView}
use Rattle.tsc_span.specs.Span.{SpanView}
use Rattle.tsc_page_model.specs.Page.{Mark}
use Rattle.tsc_cache.specs.declared.added.Added.{Added}
use Rattle.tsc_cache.specs.ConfigView.{ConfigView}
use Rattle.tsc_cache.specs.State.{look}
use Rattle.tsc_cache.specs.declared.history.Entry.{Entry}
use Rattle.tsc_cache.specs.History.{History, state_of}
use Rattle.tsc_cache.specs.CacheView.{CacheView, RepresentsState}
use Rattle.tsc_ffi_store.specs.declared.store.Slot.{Slot}
use Rattle.tsc_ffi_store.specs.Decode.{AskedSpan, AskedAdd, AskedBatch, lookup_span}
use Rattle.tsc_ffi_store.specs.declared.counts.CountedCache.{CountedCache}
use Rattle.tsc_ffi_store.specs.CacheCalls.{Opens, AnswersLookup, AnswersAdd, AnswersAddAll}
use Rattle.tsc_ffi_store.specs.Counts.{CountsAdd, CountsLookup}
use Rattle.tsc_ffi_store.specs.Store.{cache_at, WorksOnCache}

-- the next entry of a history, all of which is one caller's
abbrev pub next_entry : History → List Mark → Time → Entry
next_entry h marks now = record { seat = 0; number = length h; marks = marks; now = now }

-- the cache that is held, without what was asked of it
abbrev pub bare : Option CountedCache → Option CacheView
bare None = None
bare (Some held) = Some held.cache

-- What a handle names becomes what it names later by Adds, whose history this is: none at first,
-- then one Add or one of several marks after another. A call that leaves the cache as it is adds no
-- entry.
pub data AddsUp (handle : ℕ) : List Slot → List Slot → History → Type 0 where
  nothing_yet : (slots : List Slot) → AddsUp handle slots slots []
  one_more : (opened old new : List Slot) (h : History) (asked : AskedAdd) (reported : Added)
      → AddsUp handle opened old h →
      (w : WorksOnCache (CountsAdd (AnswersAdd asked reported) reported.evicted) old new handle
      (Ok (tt {0})))
      → AddsUp handle opened new (h ++
      next_entry h (record { span = w.works.works.added.span; value = asked.value } ∷ [])
      asked.moment ∷ [])
  several_more : (opened old new : List Slot) (h : History) (asked : AskedBatch) (reported : Added)
      → AddsUp handle opened old h →
      (w : WorksOnCache (CountsAdd (AnswersAddAll asked reported) reported.evicted) old new handle
      (Ok (tt {0})))
      → AddsUp handle opened new (h ++ next_entry h w.works.works.added.marks asked.moment ∷ [])
  left : (opened old new : List Slot) (h : History) → AddsUp handle opened old h →
      bare (cache_at new handle) ≡ bare (cache_at old handle) → AddsUp handle opened new h

-- What is held stands for the state that a history leaves.
pub record HoldsHistory (held : Option CountedCache) (config : ConfigView) (h : History) : Type
    0 where
  pub cache : CacheView
  pub holds : bare held ≡ Some cache
  pub stands : RepresentsState cache config (state_of config h)

-- A lookup in what was opened and added to answers what the state of all that was added does.
abbrev pub AnswersAllAdded : Type 0
AnswersAllAdded =
    (handle : ℕ) (before opened slots after : List Slot) (config : ConfigView) (h : History)
    (asked : AskedSpan) (v : ValueView)
    → Opens (cache_at before handle) (cache_at opened handle) config →
    AddsUp handle opened slots h →
    WorksOnCache (CountsLookup (AnswersLookup asked v)) slots after handle (Ok (tt {0}))
    → (span : SpanView) × (lookup_span asked ≡ Some span) × (v ≡ look (state_of config h) span)
