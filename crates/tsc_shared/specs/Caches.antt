-- What the seats of a shared cache replicate. (For private contracts.)
use Rattle.std.specs.Prelude.{refl, ℕ, List, [], ◌∷◌}
use Rattle.tsc_time.specs.Time.{zero_time}
use Rattle.tsc_page_model.specs.Page.{Mark}
use Rattle.tsc_cache.specs.ConfigView.{ConfigView}
use Rattle.tsc_cache.specs.State.{step_all}
use Rattle.tsc_cache.specs.CacheView.{CacheView, RepresentsState}
use Rattle.tsc_cache.specs.declared.added.Added.{Added}
use Rattle.tsc_cache.specs.declared.history.Entry.{Entry}
use Rattle.tsc_cache.specs.History.{History, state_of, IsNext}
use Rattle.tsc_left_right.specs.declared.replicated.Replicated.{Ghosts}
use Rattle.tsc_left_right.specs.declared.table.Setup.{Setup as SetupOf}
use Rattle.tsc_left_right.specs.declared.table.Copies.{Copies as CopiesOf}
use Rattle.tsc_left_right.specs.declared.table.WriterState.{WriterState as WriterStateOf}
use Rattle.tsc_left_right.specs.declared.table.SeatState.{SeatState as SeatStateOf}
use Rattle.tsc_left_right.specs.declared.table.Knowledge.{Knowledge as KnowledgeOf}
use Rattle.tsc_left_right.specs.Steps.{At as AtOf}
use Rattle.tsc_left_right.specs.Participating.{Participant as ParticipantOf}
use Rattle.tsc_shared.specs.declared.adds.MarkList.{MarkList}
use Rattle.tsc_shared.specs.declared.adds.MarkList.TheVariants.{One, Many}
use Rattle.tsc_shared.specs.declared.adds.UnappliedAdd.{UnappliedAdd}
use Rattle.tsc_shared.specs.declared.caches.Caches.{Caches}

-- the types of left-right, over copies of a cache
abbrev pub Setup : Type 0
Setup = SetupOf ConfigView

abbrev pub Copies : Type 0
Copies = CopiesOf CacheView UnappliedAdd

abbrev pub WriterState : Type 0
WriterState = WriterStateOf CacheView UnappliedAdd

abbrev pub SeatState : Type 0
SeatState = SeatStateOf Entry

abbrev pub Knowledge : Type 0
Knowledge = KnowledgeOf ConfigView Entry

abbrev pub At : Type 0
At = AtOf CacheView UnappliedAdd ConfigView Entry

abbrev pub Participant : Type 0
Participant = ParticipantOf CacheView UnappliedAdd ConfigView Entry

-- the marks of an Add as a list
abbrev pub marks_in : MarkList → List Mark
marks_in (One m) = m ∷ []
marks_in (Many ms) = ms.items

-- the entry of an Add of a seat
abbrev pub entry_of : ℕ → ℕ → UnappliedAdd → Entry
entry_of number count add =
    record { seat = number; number = count; marks = marks_in add.marks; now = add.moment }

-- what an Add did
abbrev pub answer_of : ConfigView → History → UnappliedAdd → Added
answer_of config h add =
    (step_all config (state_of config h) (marks_in add.marks) add.moment).added

-- A copy stands for the state of a history.
abbrev pub caches : Ghosts Caches CacheView UnappliedAdd ConfigView Entry
caches = record {
  stands = λ config h cache. RepresentsState cache config (state_of config h);
  is_next = IsNext;
  seat_of = λ e. e.seat;
  entry_of = entry_of;
  seat_kept = λ number count add. refl;
  unsettled = record {
    page_first = 0;
    page_max = 0;
    min_pages = 0;
    retention = 0;
    low_water = zero_time;
  };
}
