-- What a look at a copy of the cache finds. (For private contracts.)
use Rattle.tsc_cache.specs.ConfigView.{ConfigView}
use Rattle.tsc_cache.specs.State.{CacheState}
use Rattle.tsc_cache.specs.CacheView.{CacheView, RepresentsState}

-- something holds of each state that a cache stands for
abbrev pub InEachState : CacheView → (CacheState → Type 0) → Type 0
InEachState cache P = (config : ConfigView) (s : CacheState) →
    RepresentsState cache config s → P s
