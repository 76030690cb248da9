-- What an Add makes of all that can be seen of a cache, and what it then is of the states.
use Rattle.std.proofs.Common.{◌≡◌, true, false}
use Rattle.std.specs.Prelude.{Result, Ok, Err, IfOk, OnOk, List}
use Rattle.tsc_time.specs.Time.{Time}
use Rattle.tsc_page_model.specs.Page.{Mark}
use Rattle.tsc_cache.specs.Rotation.{RotatesWith}
use Rattle.tsc_cache.specs.declared.added.Added.{Added}
use Rattle.tsc_cache.specs.State.{kept_after_rotation, is_kept}
use Rattle.tsc_cache.specs.CacheView.{CacheView, StandsAfter, StandsAfterAll, ReportsAdded, ReportsAddedAll, Adds, front_has_room_for}
use Rattle.tsc_cache.specs.Batch.{AddsAll}
use Rattle.tsc_cache.specs.Laws.{AddsAreSteps}
use Rattle.tsc_cache.proofs.StatesSeen.{adds_stands, rotates_adds}
use Rattle.tsc_cache.proofs.Batches.{adds_all_stands}

-- an Add that rotates the pages
pub rotated_seen : {E : Type 0} (r : Result Added E) (old new : CacheView) (m : Mark) (now : Time) →
    is_kept old.floor m ≡ true → front_has_room_for old.pages m.span ≡ false →
    new.config ≡ old.config
    → IfOk r (λ a. RotatesWith old new m now a.evicted × (a ≡ kept_after_rotation a.evicted)) →
    IfOk r (λ a. Adds old new m now a)
rotated_seen (Ok a) old new m now kept room same turned =
    rotates_adds old new m now a kept room same turned
rotated_seen (Err e) old new m now kept room same turned = tt

-- Whatever state the cache stood for, it stands for the next one, and the answer is that of the
-- step.
pub adds_are_steps : AddsAreSteps
adds_are_steps = record {
  stands = λ old new m now added adds config s stands.
      (adds_stands old new m now added adds config s stands).0;
  answers = λ old new m now added adds config s stands.
      (adds_stands old new m now added adds config s stands).1;
  all_stand = λ old new ms now added adds config s stands.
      (adds_all_stands old new ms now added adds config s stands).0;
  all_answer = λ old new ms now added adds config s stands.
      (adds_all_stands old new ms now added adds config s stands).1;
}

-- So it is with the result of a call.
module _ {E : Type 0} (old new : CacheView) (now : Time) where
  pub seen_stands : (m : Mark) (r : Result Added E) → IfOk r (λ a. Adds old new m now a) →
      OnOk r (StandsAfter old new m now)
  seen_stands m (Ok a) adds = adds_are_steps.stands old new m now a adds
  seen_stands m (Err e) adds = tt

  pub seen_added : (m : Mark) (r : Result Added E) → IfOk r (λ a. Adds old new m now a) →
      IfOk r (ReportsAdded old m now)
  seen_added m (Ok a) adds = adds_are_steps.answers old new m now a adds
  seen_added m (Err e) adds = tt

  pub all_stand : (ms : List Mark) (r : Result Added E) → IfOk r (λ a. AddsAll old new ms now a) →
      OnOk r (StandsAfterAll old new ms now)
  all_stand ms (Ok a) adds = adds_are_steps.all_stand old new ms now a adds
  all_stand ms (Err e) adds = tt

  pub all_added : (ms : List Mark) (r : Result Added E) → IfOk r (λ a. AddsAll old new ms now a) →
      IfOk r (ReportsAddedAll old ms now)
  all_added ms (Ok a) adds = adds_are_steps.all_answer old new ms now a adds
  all_added ms (Err e) adds = tt
