-- What an Add needs to fit before it is made, and which standby copy takes it in place. (For
-- private contracts.)
use Rattle.std.specs.Prelude.{◌≡◌, ℕ, take, Bool, true, ◌==◌, List}
use Rattle.std.specs.Prelude.{false, Option, Some, None, IsSome, IfSome}
use Rattle.std.specs.Arc.{arc_value}
use Rattle.std.specs.declared.sync.Arc.{Arc}
use Rattle.std.specs.declared.alloc.Global.{Global}
use Rattle.tsc_time.specs.Time.{Time}
use Rattle.tsc_page_model.specs.Page.{Mark}
use Rattle.tsc_cache.specs.declared.added.Added.{Added}
use Rattle.tsc_cache.specs.Batch.{all_fit, AddsAll}
use Rattle.tsc_cache.specs.State.{step_all}
use Rattle.tsc_cache.specs.History.{History, state_of}
use Rattle.tsc_cache.specs.CacheView.{CacheView, RepresentsState}
use Rattle.tsc_shared.specs.declared.adds.MarkList.{MarkList}
use Rattle.tsc_shared.specs.declared.adds.MarkList.TheVariants.{One, Many}
use Rattle.tsc_shared.specs.declared.adds.UnappliedAdd.{UnappliedAdd}
use Rattle.tsc_cache.specs.ConfigView.{ConfigView}
use Rattle.tsc_left_right.specs.Copies.{LagsBy, Stand}
use Rattle.tsc_shared.specs.Caches.{Copies, caches, marks_in}
use Rattle.tsc_shared.specs.declared.applying.InPlace.{InPlace}
use Rattle.tsc_shared.specs.declared.applying.InPlace.TheVariants.{Made, Untouched, Spoiled}

-- The Add that a cache has not had yet, if there is one, fits a page of it.
abbrev pub LateFits : CacheView → Option UnappliedAdd → Type 0
LateFits cache None = Unit {0}
LateFits cache (Some p) = all_fit cache.config (marks_in p.marks) ≡ true

-- A cache can have the Add that it lacks, and then another.
abbrev pub CanTake : CacheView → Option UnappliedAdd → UnappliedAdd → Type 0
CanTake cache late add =
    (all_fit cache.config (marks_in add.marks) ≡ true) × LateFits cache late

-- The copy behind a handle, if there is one, can have the Add that it lacks, and then another.
abbrev pub HandleFits : Option (Arc CacheView Global) → Option UnappliedAdd → UnappliedAdd → Type 0
HandleFits None late add = Unit {0}
HandleFits (Some handle) late add = CanTake (arc_value handle) late add

-- An Add fits a page of either copy, and the Add that the standby copy has not had yet fits one of
-- its pages.
pub record AllFit (copies : Copies) (add : UnappliedAdd) : Type 0 where
  pub active : all_fit (arc_value copies.active).config (marks_in add.marks) ≡ true
  pub standby : HandleFits copies.standby copies.lagging add

-- A cache that lagged stands for all that was added so far, and for this Add behind it.
abbrev pub StandsAfterAdd : Option UnappliedAdd → CacheView → CacheView → UnappliedAdd → Type 0
StandsAfterAdd late old new add =
    (config : ConfigView) (h : History) → LagsBy caches config h late old
    → RepresentsState new config
    (step_all config (state_of config h) (marks_in add.marks) add.moment).state

-- what this Add did
abbrev pub ReportsAdd : Option UnappliedAdd → CacheView → UnappliedAdd → Added → Type 0
ReportsAdd late old add added =
    (config : ConfigView) (h : History) → LagsBy caches config h late old
    → added ≡ (step_all config (state_of config h) (marks_in add.marks) add.moment).added

-- a cache stands for what it stood for, and what it lacks then is said
abbrev pub StillLags : Option UnappliedAdd → Option UnappliedAdd → CacheView → CacheView → Type 0
StillLags late later old new = (config : ConfigView) (h : History)
    → LagsBy caches config h late old →
    LagsBy caches config h later new

-- A cache that lagged has had all that it lacked and then this Add, which brought no new page.
pub record HasTaken (late : Option UnappliedAdd) (old new : CacheView) (add : UnappliedAdd)
    (lagging : Option UnappliedAdd) (added : Added) : Type 0 where
  pub stands : StandsAfterAdd late old new add
  pub reports : ReportsAdd late old add added
  pub no_page : added.rotated ≡ false
  pub caught_up : lagging ≡ None

-- A cache is the next one after an Add, whatever history the copies stood for.
pub record IsNext (copies : Copies) (add : UnappliedAdd) (next : CacheView) (added : Added)
    : Type 0 where
  pub stands : (config : ConfigView) (h : History) → Stand caches config h copies
      → RepresentsState next config
      (step_all config (state_of config h) (marks_in add.marks) add.moment).state
  pub reports : (config : ConfigView) (h : History) → Stand caches config h copies
      → added ≡ (step_all config (state_of config h) (marks_in add.marks) add.moment).added

-- Whether the Add that the standby copy has not had yet brought no new page, since it has rotated
-- as often as the active one.
abbrev pub keeps_pages : CacheView → CacheView → Bool
keeps_pages active standby = standby.rotations == active.rotations

-- A cache has had some marks of an Add, from the first on: none, a part of them, or all.
abbrev pub HasHadSome : CacheView → CacheView → List Mark → Time → Type 0
HasHadSome old new ms now =
    (count : ℕ) × (added : Added) × AddsAll old new (take count ms) now added

-- A copy has had some marks of the Add that it lacked, if it lacked one, and nothing else.
abbrev pub CatchesUp : Option UnappliedAdd → CacheView → CacheView → Type 0
CatchesUp None old new = new ≡ old
CatchesUp (Some p) old new = HasHadSome old new (marks_in p.marks) p.moment

-- The standby copy, if there is one, is there still, and no more has become of it.
abbrev pub HandleCatchesUp : Option UnappliedAdd → Option (Arc CacheView Global)
    → Option (Arc CacheView Global) → Type 0
HandleCatchesUp late None new = new ≡ None
HandleCatchesUp late (Some old) None = ⊥
HandleCatchesUp late (Some old) (Some new) = CatchesUp late (arc_value old) (arc_value new)

-- What holds of what an Add in place answered, if it was made
abbrev pub IfMade : InPlace → (Added → Type 0) → Type 0
IfMade (Made added) P = P added
IfMade Untouched P = Unit {0}
IfMade Spoiled P = Unit {0}

-- nothing of the Add is in the standby copy
abbrev pub IsUntouched : InPlace → Type 0
IsUntouched (Made added) = ⊥
IsUntouched Untouched = Unit {0}
IsUntouched Spoiled = ⊥

-- If an Add was not made in the standby copy, no more became of that than by what it lacked: unless
-- several marks spoiled it.
abbrev pub HasNoPart : Option UnappliedAdd → MarkList → InPlace → CacheView → CacheView → Type 0
HasNoPart late marks (Made added) old new = Unit {0}
HasNoPart late marks Untouched old new = CatchesUp late old new
HasNoPart late (One m) Spoiled old new = CatchesUp late old new
HasNoPart late (Many ms) Spoiled old new = Unit {0}

-- Of an Add of one mark nothing is in the cache that is no longer needed, if there is one.
abbrev pub RetiresWithout : Option UnappliedAdd → MarkList → CacheView
    → Option (Arc CacheView Global) → Type 0
RetiresWithout late (One m) standby retired =
    IfSome retired (λ handle. CatchesUp late standby (arc_value handle))
RetiresWithout late (Many ms) standby retired = Unit {0}

-- What is no longer needed after an Add, if there was a standby copy: that, as it was, if the Add
-- that it lacked brought a new page; and what became of it if this one brings one. An Add of one
-- mark is not in it.
abbrev pub HandsOut : Copies → UnappliedAdd → Added → Option (Arc CacheView Global) → Type 0
HandsOut copies add added retired =
    (standby : Arc CacheView Global) → copies.standby ≡ Some standby
    → (keeps_pages (arc_value copies.active) (arc_value standby) ≡ false → retired ≡ Some standby)
    × (added.rotated ≡ true → IsSome retired)
    × RetiresWithout copies.lagging add.marks (arc_value standby) retired
