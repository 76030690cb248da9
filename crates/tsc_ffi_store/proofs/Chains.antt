-- From call to call: what was opened, added and looked up at a handle goes together into one
-- history.
use Rattle.std.proofs.Common.{◌≡◌, sym, ap, ◌∙◌, subst, ℕ, List, [], ◌∷◌, ◌++◌, Option, Some, None}
use Rattle.tsc_page_model.specs.Page.{Mark}
use Rattle.tsc_time.specs.Time.{Time}
use Rattle.tsc_cache.specs.ConfigView.{ConfigView}
use Rattle.tsc_cache.specs.State.{step_all}
use Rattle.tsc_cache.specs.History.{History, state_of}
use Rattle.tsc_cache.specs.CacheView.{CacheView, RepresentsState}
use Rattle.tsc_cache.proofs.Histories.{state_of-push}
use Rattle.tsc_ffi_store.specs.declared.store.Slot.{Slot}
use Rattle.tsc_ffi_store.specs.CacheCalls.{Opens}
use Rattle.tsc_ffi_store.specs.Store.{cache_at}
use Rattle.tsc_ffi_store.specs.declared.counts.CountedCache.{CountedCache}
use Rattle.tsc_ffi_store.specs.Chain.{AddsUp, nothing_yet, one_more, several_more, left, bare, HoldsHistory, AnswersAllAdded, next_entry}
use Rattle.tsc_ffi_store.proofs.AtHandle.{cache_left}

or_else : {X : Type 0} → X → Option X → X
or_else x None = x
or_else x (Some y) = y

the_same : {X : Type 0} {a b : X} {o : Option X} → o ≡ Some a → o ≡ Some b → a ≡ b
unfolding or_else
the_same {X} {a} {b} e f = ap (or_else a) (sym e ∙ f)

-- what is held once more stands for the state that is a step further
pushed : (old new : Option CountedCache) (cache after : CountedCache) (config : ConfigView)
    (h : History) (marks : List Mark) (now : Time)
    → HoldsHistory old config h → old ≡ Some cache → new ≡ Some after
    → (RepresentsState cache.cache config (state_of config h) →
    RepresentsState after.cache config (step_all config (state_of config h) marks now).state)
    → HoldsHistory new config (h ++ next_entry h marks now ∷ [])
pushed old new cache after config h marks now k was is stands =
    record {
      cache = after.cache;
      holds = ap bare is;
      stands = subst (RepresentsState after.cache config)
          (sym (state_of-push config h (next_entry h marks now)))
          (stands (subst (λ (c : CacheView). RepresentsState c config (state_of config h))
          (the_same k.holds (ap bare was)) k.stands));
    }

holds : (handle : ℕ) (opened slots : List Slot) (config : ConfigView) (h : History) →
    AddsUp handle opened slots h → (before : Option CountedCache) →
    Opens before (cache_at opened handle) config
    → HoldsHistory (cache_at slots handle) config h
holds handle opened slots config h (nothing_yet same) before o =
    record { cache = o.cache; holds = ap bare o.holds; stands = o.stands }
holds handle opened slots config h (one_more first old new g asked reported up w) before o =
    pushed (cache_at old handle) (cache_at new handle) w.cache w.after config g
    (record { span = w.works.works.added.span; value = asked.value } ∷ []) asked.moment
    (holds handle first old config g up before o) w.holds
    (cache_left old new handle w.cache w.after w.holds w.leaves)
    (w.works.works.added.stands config (state_of config g))
holds handle opened slots config h (several_more first old new g asked reported up w) before o =
    pushed (cache_at old handle) (cache_at new handle) w.cache w.after config g
    w.works.works.added.marks asked.moment (holds handle first old config g up before o) w.holds
    (cache_left old new handle w.cache w.after w.holds w.leaves)
    (w.works.works.added.stands config (state_of config g))
holds handle opened slots config h (left first old new g up e) before o =
    (let k = holds handle first old config g up before o in
    record { cache = k.cache; holds = e ∙ k.holds; stands = k.stands })

pub answers_all_added : AnswersAllAdded
answers_all_added handle before opened slots after config h asked v o up l =
    let k = holds handle opened slots config h up (cache_at before handle) o in let looked =
    l.works.reads.looked in (
      looked.span,
      looked.asked_for,
      looked.stands config (state_of config h)
          (subst (λ (c : CacheView). RepresentsState c config (state_of config h))
          (the_same k.holds (ap bare l.holds)) k.stands),
    )
