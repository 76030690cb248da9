-- What an Add makes of a state, by cases, and where it leaves the floor.
use Rattle.std.proofs.Common.{◌≡◌, ◌⊎◌, ◌∙◌, inl, inr, refl, ap, ℕ, ◌+◌, ◌||◌, Bool, List, [], ◌∷◌, length, map, reverse, true, false, arith}
use Rattle.std.proofs.lemmas.Bool.{cases_Bool}
use Rattle.std.proofs.lemmas.List.Elements.{All-contains}
use Rattle.tsc_time.specs.Time.{Time, is_before}
use Rattle.tsc_time.proofs.TimeOrder.{is_before-itself, no_earlier-transitive}
use Rattle.tsc_span.specs.Span.{SpanView}
use Rattle.tsc_page_model.specs.Page.{Mark, PageMarks, top}
use Rattle.tsc_cache.specs.Rotation.{evict, highest, is_past_retention, new_front, rotate, saturating_inc}
use Rattle.tsc_cache.specs.declared.added.Added.{Added}
use Rattle.tsc_cache.specs.ConfigView.{ConfigView}
use Rattle.tsc_cache.specs.State.{CacheState, is_kept, front_has_room, marked, added_with, not_kept, step, step_all}
use Rattle.tsc_cache.specs.Laws.{PartsPages, OneMarkIsAStep}
use Rattle.tsc_cache.proofs.Evictions.{evicts_the, dropped_past}
use Rattle.tsc_cache.proofs.Floors.{highest-floor, highest-reached}

-- The state after an Add: as it was where the Add is not kept; with one more mark on the front page
-- that there was; or that after a rotation.
pub step-reports : (config : ConfigView) (s : CacheState) (m : Mark) (now : Time)
    → ((is_kept s.floor m ≡ false) × ((step config s m now).state ≡ s))
    ⊎ (((front : PageMarks) × (older : List PageMarks) × (s.pages ≡ front ∷ older) ×
    ((step config s m now).state ≡ marked s m))
    ⊎ ((step config s m now).state ≡ marked (rotate config s m.span now).state m))
step-reports config s m now = elim (cases_Bool (is_kept s.floor m)) [
  | inr h ↦ inl (h, rw h refl)
  | inl h ↦ elim (cases_Bool (front_has_room s m.span)) [
    | inl r ↦ let f = front s.pages r in inr (inl (f.0, f.1, f.2, rw (h, r) refl))
    | inr r ↦ inr (inr (rw (h, r) refl))
  ]
]
  where
    front : (pages : List PageMarks) →
        front_has_room (record { floor = s.floor; pages = pages; rotations = s.rotations }) m.span ≡
        true → (p : PageMarks) × (ps : List PageMarks) × (pages ≡ p ∷ ps)
    front [] r = let none : false ≡ true = r in cc
    front (p ∷ ps) r = (p, ps, refl)

-- a rotation by the pages that stay and those that it drops
pub rotate-is : (config : ConfigView) (s : CacheState) (span : SpanView) (now : Time)
    (v : PartsPages config now s.floor s.pages)
    → (rotate config s span now).state ≡
    record {
      floor = highest s.floor (map top v.dropped);
      pages = new_front config s.pages span ∷ v.stay;
      rotations = saturating_inc s.rotations;
    }
rotate-is config s span now v =
    let made : Time → List PageMarks → CacheState =
    λ floor older. record {
      floor = floor;
      pages = new_front config s.pages span ∷ older;
      rotations = saturating_inc s.rotations;
    } in
    ap (λ floor. made floor (reverse (evict config now s.floor (reverse s.pages)).pages)) v.raised
    ∙ ap (made (highest s.floor (map top v.dropped))) v.kept

-- a step leaves the floor where it was, or is a rotation's
floor_reports : (config : ConfigView) (s : CacheState) (m : Mark) (now : Time)
    → ((step config s m now).state.floor ≡ s.floor) ⊎
    ((v : PartsPages config now s.floor s.pages) ×
    ((step config s m now).state.floor ≡ highest s.floor (map top v.dropped)))
floor_reports config s m now = elim (step-reports config s m now) [
  | inl h ↦ inl (ap (λ (t : CacheState). t.floor) h.1)
  | inr (inl h) ↦ inl (ap (λ (t : CacheState). t.floor) h.3)
  | inr (inr h) ↦ let v = evicts_the config now s.floor s.pages in inr
      (v, ap (λ (t : CacheState). t.floor) h ∙ v.raised)
]

-- no step lowers the floor
pub step-floor : (config : ConfigView) (s : CacheState) (m : Mark) (now : Time) →
    is_before (step config s m now).state.floor s.floor ≡ false
step-floor config s m now = elim (floor_reports config s m now) [
  | inl h ↦ rw h (is_before-itself s.floor)
  | inr h ↦ rw h.1 (highest-floor s.floor (map top h.0.dropped))
]

-- and where it lifts it, then to a top that is past its retention
pub step-lifts : (config : ConfigView) (s : CacheState) (m : Mark) (now : Time) →
    ((step config s m now).state.floor ≡ s.floor) ⊎
    (is_past_retention config.retention now (step config s m now).state.floor ≡ true)
step-lifts config s m now = elim (floor_reports config s m now) [
  | inl h ↦ inl h
  | inr h ↦ elim (highest-reached s.floor (map top h.0.dropped)) [
    | inl e ↦ inl (h.1 ∙ e)
    | inr c ↦ inr (rw h.1 (All-contains (λ t. is_past_retention config.retention now t ≡ true)
        (map top h.0.dropped) (highest s.floor (map top h.0.dropped))
        (dropped_past config now (length (map top h.0.stay)) (map top h.0.dropped)
        h.0.evicts.gone) c))
  ]
]

-- and so for some marks, one after another: none lowers the floor
pub step_all-floor : (config : ConfigView) (s : CacheState) (ms : List Mark) (now : Time) →
    is_before (step_all config s ms now).state.floor s.floor ≡ false
step_all-floor config s [] now = is_before-itself s.floor
step_all-floor config s (m ∷ ms) now =
    let t : CacheState = (step config s m now).state in
    no_earlier-transitive s.floor t.floor (step_all config t ms now).state.floor
    (step-floor config s m now) (step_all-floor config t ms now)

-- and where they lift it, then to a top that is past its retention
pub step_all-lifts : (config : ConfigView) (s : CacheState) (ms : List Mark) (now : Time)
    → ((step_all config s ms now).state.floor ≡ s.floor) ⊎
    (is_past_retention config.retention now (step_all config s ms now).state.floor ≡ true)
step_all-lifts config s [] now = inl refl
step_all-lifts config s (m ∷ ms) now =
    elim (step_all-lifts config (step config s m now).state ms now) [
      | inr past ↦ inr past
      | inl same ↦ elim (step-lifts config s m now) [
        | inl first ↦ inl (same ∙ first)
        | inr past ↦ inr (ap (is_past_retention config.retention now) same ∙ past)
      ]
    ]

-- what one Add answers alone
pub answer_alone : (a : Added) → added_with a not_kept ≡ a
answer_alone a =
    ap (λ b. reported b (a.rotated || false) (a.evicted + 0)) (or_false a.kept)
    ∙ ap (λ b. reported a.kept b (a.evicted + 0)) (or_false a.rotated)
    ∙ ap (reported a.kept a.rotated) (omega arith)
  where
    or_false : (b : Bool) → (b || false) ≡ b
    or_false true = refl
    or_false false = refl

    reported : Bool → Bool → ℕ → Added
    reported kept rotated evicted = record { kept = kept; rotated = rotated; evicted = evicted }

-- An Add of a list of one mark is the Add of that mark.
pub one_mark_is_a_step : OneMarkIsAStep
one_mark_is_a_step config s m now =
    ap (λ (a : Added). record { state = (step config s m now).state; added = a })
    (answer_alone (step config s m now).added)
