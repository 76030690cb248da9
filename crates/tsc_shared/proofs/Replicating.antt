-- A shared cache is what left-right asks for.
use Rattle.std.proofs.Common.{sym}
use Rattle.std.specs.Prelude.{List}
use Rattle.tsc_time.specs.Time.{Time}
use Rattle.tsc_page_model.specs.Page.{Mark}
use Rattle.tsc_cache.specs.History.{CanAllBeAdded}
use Rattle.tsc_left_right.specs.Copies.{CanBe}
use Rattle.tsc_shared.specs.declared.adds.UnappliedAdd.{UnappliedAdd}
use Rattle.tsc_shared.specs.Caches.{Setup, caches}
use Rattle.tsc_shared.specs.Copying.{IsCopyOf}

-- A copy of marks that can be added may come next behind any history.
pub can_copy : (setup : Setup) (ms : List Mark) (moment : Time)
    → CanAllBeAdded setup.config ms moment
    → (add : UnappliedAdd) → IsCopyOf ms moment add → CanBe caches setup add
can_copy setup ms moment can add is before number count low own = record {
  seat = low;
  number = sym own;
  made = rw (is.0, is.1) (can number count);
}
