-- What a cache has had of an Add, where it was made in place or left out.
use Rattle.std.proofs.Common.{◌≡◌, ◌∙◌, inl, inr, refl, sym, ap, subst, Bool, true, false, List}
use Rattle.std.proofs.Common.{[], ◌∷◌, length, take, not, ◌&&◌, arith}
use Rattle.std.specs.Prelude.{Option, Some, None, Result, Ok, Err, OnOk, IfOk, OnErr}
use Rattle.std.specs.Result.{is_err}
use Rattle.std.proofs.lemmas.Bool.{cases_Bool}
use Rattle.std.proofs.lemmas.List.{take_all}
use Rattle.tsc_time.specs.Time.{Time}
use Rattle.tsc_page_model.specs.Page.{Mark}
use Rattle.tsc_cache.specs.declared.added.Added.{Added}
use Rattle.tsc_cache.specs.State.{is_kept, not_kept}
use Rattle.tsc_cache.specs.CacheView.{CacheView, ReportsAddedAll, Adds, AddsWithoutRotation, front_has_room_for}
use Rattle.tsc_cache.specs.Batch.{AddsAll, AddsSome}
use Rattle.tsc_cache.proofs.Batches.{config_stays}
use Rattle.tsc_cache.proofs.Steps.{answer_alone}
use Rattle.tsc_cache.proofs.AddsSeen.{adds_are_steps}
use Rattle.tsc_shared.specs.declared.adds.UnappliedAdd.{UnappliedAdd}
use Rattle.tsc_shared.specs.declared.adds.MarkList.{MarkList}
use Rattle.tsc_shared.specs.declared.adds.MarkList.TheVariants.{One, Many}
use Rattle.tsc_shared.specs.Caches.{marks_in}
use Rattle.tsc_shared.specs.declared.applying.InPlace.{InPlace}
use Rattle.tsc_shared.specs.declared.applying.InPlace.TheVariants.{Made, Untouched, Spoiled}
use Rattle.tsc_shared.specs.Applying.{HasHadSome, CatchesUp, IfMade, HasNoPart, IsUntouched}
use Rattle.tsc_shared.specs.Applying.{StillLags}

-- all of them
pub had_all : (old new : CacheView) (ms : List Mark) (now : Time) (added : Added) →
    AddsAll old new ms now added → HasHadSome old new ms now
had_all old new ms now added all = (
  length ms,
  added,
  subst (λ (ns : List Mark). AddsAll old new ns now added)
      (sym (take_all (length ms) ms (omega arith))) all,
)

-- none of them
pub had_none : (v : CacheView) (ms : List Mark) (now : Time) → HasHadSome v v ms now
had_none v ms now = (0, not_kept, (refl, refl))

-- all of them, or those before the one that was refused
pub had_some : {E : Type 0} (old new : CacheView) (ms : List Mark) (now : Time)
    (r : Result Added E) → IfOk r (λ added. AddsAll old new ms now added) →
    OnErr r (AddsSome old new ms now) → HasHadSome old new ms now
had_some old new ms now (Ok added) all some = had_all old new ms now added all
had_some old new ms now (Err e) all some = (some.0, some.1, some.3)

-- what an Add of the one mark tells
pub reported_one : (old new : CacheView) (m : Mark) (now : Time) (added : Added) →
    Adds old new m now added → ReportsAddedAll old (m ∷ []) now added
reported_one old new m now added adds = adds_are_steps.all_answer old new (m ∷ []) now added (
  new,
  added,
  not_kept,
  adds,
  (refl, refl),
  sym (answer_alone added),
)

-- who catches up stays set up as it is
pub caught_up_config : (late : Option UnappliedAdd) (old new : CacheView)
    → CatchesUp late old new → new.config ≡ old.config
caught_up_config None old new some = ap (λ (v : CacheView). v.config) some
caught_up_config (Some p) old new some =
    config_stays old new (take some.0 (marks_in p.marks)) p.moment some.1 some.2

-- who has had nothing of what it lacked
pub caught_none : (late : Option UnappliedAdd) (v : CacheView) → CatchesUp late v v
caught_none None v = refl
caught_none (Some p) v = had_none v (marks_in p.marks) p.moment

-- An Add in place that was not made leaves no part of itself in what has caught up before.
pub no_part_then : (late : Option UnappliedAdd) (marks : MarkList) (tried : InPlace)
    (old between new : CacheView) → CatchesUp late old between
    → HasNoPart None marks tried between new → HasNoPart late marks tried old new
no_part_then late marks (Made added) old between new first left = tt
no_part_then late marks Untouched old between new first left =
    subst (λ (v : CacheView). CatchesUp late old v) (sym left) first
no_part_then late (One m) Spoiled old between new first left =
    subst (λ (v : CacheView). CatchesUp late old v) (sym left) first
no_part_then late (Many ms) Spoiled old between new first left = tt

-- an Add that never rotates tells of no rotation
pub reported_no_rotation : (old new : CacheView) (m : Mark) (made : Option Added) (added : Added)
    (now : Time) → made ≡ Some added → AddsWithoutRotation old new m made → added.rotated ≡ false
reported_no_rotation old new m made added now is seen =
    by_cases (subst (AddsWithoutRotation old new m) is seen)
  where
    by_cases : AddsWithoutRotation old new m (Some added) → added.rotated ≡ false
    by_cases reported = elim (cases_Bool (is_kept old.floor m)) [
      | inr lost ↦ ap (λ (a : Added). a.rotated) ((reported.1 now).not_kept lost).1
      | inl kept ↦ elim (cases_Bool (front_has_room_for old.pages m.span)) [
        | inl room ↦ ap (λ (a : Added). a.rotated) ((reported.1 now).in_place kept room).3
        | inr full ↦ absurd (let both : true ≡ false =
            sym (ap (λ (b : Bool). b && not (front_has_room_for old.pages m.span)) kept ∙
            ap (λ (b : Bool). not b) full) ∙ reported.0 in cc)
      ]
    ]

-- what follows where an Add was made
pub if_made : (tried : InPlace) (P Q : Added → Type 0) → IfMade tried P →
    ((added : Added) → P added → Q added) → IfMade tried Q
if_made (Made added) P Q p f = f added p
if_made Untouched P Q p f = tt
if_made Spoiled P Q p f = tt

-- what holds where a call succeeds holds where it was not refused
pub not_refused : {T E : Type 0} (r : Result T E) (P : Type 0) → is_err r ≡ false → OnOk r P → P
not_refused (Ok x) P is p = p
not_refused (Err e) P is p = absurd (let both : true ≡ false = is in cc)

-- What lacked nothing before an Add in place that left it as it was lacks nothing.
pub untouched_lags : (late later : Option UnappliedAdd) (marks : MarkList) (tried : InPlace)
    (old between new : CacheView) → StillLags late None old between → later ≡ None
    → HasNoPart None marks tried between new → IsUntouched tried → StillLags late later old new
untouched_lags late later marks (Made added) old between new up none left untouched =
    absurd untouched
untouched_lags late later marks Untouched old between new up none left untouched =
    subst (λ (o : Option UnappliedAdd). StillLags late o old new) (sym none)
    (subst (λ (v : CacheView). StillLags late None old v) (sym left) up)
untouched_lags late later marks Spoiled old between new up none left untouched = absurd untouched
