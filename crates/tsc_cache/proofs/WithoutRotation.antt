-- What follows where an Add that never rotates was made.
use Rattle.std.proofs.Common.{◌≡◌, subst}
use Rattle.std.specs.Prelude.{Option, Some}
use Rattle.tsc_time.specs.Time.{Time}
use Rattle.tsc_page_model.specs.Page.{Mark}
use Rattle.tsc_cache.specs.declared.added.Added.{Added}
use Rattle.tsc_cache.specs.CacheView.{CacheView, Adds, AddsWithoutRotation}

-- it was made in place, at whatever moment
pub made_in_place : (old new : CacheView) (m : Mark) (made : Option Added) (added : Added) →
    made ≡ Some added → AddsWithoutRotation old new m made → (now : Time) → Adds old new m now added
made_in_place old new m made added is seen =
    let reported : AddsWithoutRotation old new m (Some added) =
    subst (AddsWithoutRotation old new m) is seen in
    reported.1
