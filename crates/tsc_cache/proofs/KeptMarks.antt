-- Of all marks that were added, a state keeps those above its floor.
use Rattle.std.proofs.Common.{◌≡◌, ◌⊎◌, ◌∙◌, inl, inr, refl, ap, subst, List, [], ◌∷◌, ◌++◌, map, true, false, not, append_assoc, append-nil}
use Rattle.std.specs.List.{Contains}
use Rattle.std.proofs.lemmas.Grind.{flat_map-append}
use Rattle.std.proofs.lemmas.Bool.{cases_Bool, both_ways, and_parts, and_from}
use Rattle.std.proofs.lemmas.List.Elements.{Contains-append_left, Contains-append_right, Contains-append_cases, Contains-push, Contains-push_cases}
use Rattle.tsc_time.specs.Time.{Time, is_before}
use Rattle.tsc_time.specs.ValueView.{ValueView, unowned}
use Rattle.tsc_time.specs.Joint.{joint_above, IsAtMost}
use Rattle.tsc_time.proofs.TimeOrder.{no_earlier-transitive}
use Rattle.tsc_time.proofs.RatchetOrder.{IsAtMost-antisymmetric, IsAtMost-transitive}
use Rattle.tsc_span.specs.Span.{SpanView, nothing, between, overlaps, is_empty_span}
use Rattle.tsc_page_model.specs.Page.{Mark, PageMarks, top, values_on}
use Rattle.tsc_cache.specs.Rotation.{highest, rotate}
use Rattle.tsc_cache.specs.ConfigView.{ConfigView}
use Rattle.tsc_cache.specs.State.{CacheState, opening, is_kept, marked, step, step_all, look}
use Rattle.tsc_cache.proofs.Evictions.{evicts_the}
use Rattle.tsc_cache.proofs.FloorJoints.{above_floor, above_each, least_above, at_most_unowned}
use Rattle.tsc_cache.proofs.MarkLists.{all_marks, look-is, values_on-has, values_on-from}
use Rattle.tsc_cache.proofs.Floors.{highest-floor, highest-each}
use Rattle.tsc_cache.proofs.Steps.{step-reports, rotate-is}

-- Its pages have some of the marks that were added, and each that would be kept above its floor.
pub record KeepsMarks (ms : List Mark) (s : CacheState) : Type 0 where
  pub some : (m : Mark) → Contains (all_marks s.pages) m → Contains ms m
  pub each : (m : Mark) → Contains ms m → is_kept s.floor m ≡ true → Contains (all_marks s.pages) m

-- nothing was added yet
pub keeps_none : (config : ConfigView) → KeepsMarks [] (opening config)
keeps_none config = record { some = λ m c. c; each = λ m c k. c }

-- one more mark that is not kept
not_kept_more : (ms : List Mark) (s : CacheState) (m : Mark) → is_kept s.floor m ≡ false →
    KeepsMarks ms s → KeepsMarks (ms ++ m ∷ []) s
not_kept_more ms s m lost h = record {
  some = λ x c. Contains-append_left ms (m ∷ []) x (h.some x c);
  each = λ x c k. elim (Contains-push_cases ms m x c) [
    | inl d ↦ h.each x d k
    | inr e ↦ absurd (both_ways (is_kept s.floor m) lost (ap (is_kept s.floor) e ∙ k))
  ];
}

-- one more mark on the front page
marked_more : (ms : List Mark) (s : CacheState) (m : Mark) (front : PageMarks)
    (older : List PageMarks) → s.pages ≡ front ∷ older → KeepsMarks ms s →
    KeepsMarks (ms ++ m ∷ []) (marked s m)
marked_more ms s m front older e h = rw e (record {
  some = λ x c. elim (Contains-append_cases (front.marks ++ m ∷ []) (all_marks older) x c) [
    | inl f ↦ elim (Contains-push_cases front.marks m x f) [
      | inl d ↦ Contains-append_left ms (m ∷ []) x
          (had x (Contains-append_left front.marks (all_marks older) x d))
      | inr new ↦ rw (← new) (Contains-push ms m)
    ]
    | inr d ↦ Contains-append_left ms (m ∷ []) x
        (had x (Contains-append_right front.marks (all_marks older) x d))
  ];
  each = λ x c k. elim (Contains-push_cases ms m x c) [
    | inl d ↦ elim (Contains-append_cases front.marks (all_marks older) x (has x d k)) [
      | inl i ↦ Contains-append_left (front.marks ++ m ∷ []) (all_marks older) x
          (Contains-append_left front.marks (m ∷ []) x i)
      | inr i ↦ Contains-append_right (front.marks ++ m ∷ []) (all_marks older) x i
    ]
    | inr new ↦ Contains-append_left (front.marks ++ m ∷ []) (all_marks older) x
        (rw (← new) (Contains-push front.marks m))
  ];
})
  where
    had : (x : Mark) → Contains (front.marks ++ all_marks older) x → Contains ms x
    had x c = h.some x (rw e c)

    has : (x : Mark) → Contains ms x → is_kept s.floor x ≡ true →
        Contains (front.marks ++ all_marks older) x
    has x c k = rw e at (h.each x c k)

-- what is kept above a floor is kept above a lower one
kept_above_lower : (low high : Time) (m : Mark) → is_before high low ≡ false →
    is_kept high m ≡ true → is_kept low m ≡ true
kept_above_lower low high m rises k =
    let parts = and_parts (not (is_empty_span m.span)) (is_before high m.value.time) k in
    and_from (not (is_empty_span m.span)) (is_before low m.value.time) parts.0
    (elim (cases_Bool (is_before low m.value.time)) [
      | inl h ↦ h
      | inr h ↦ absurd (both_ways (is_before high m.value.time)
          (no_earlier-transitive m.value.time low high h rises) parts.1)
    ])

-- pages may go where the floor rises to the highest of their tops
dropped_go : (ms : List Mark) (s t : CacheState) (stay dropped : List PageMarks) →
    s.pages ≡ stay ++ dropped → all_marks t.pages ≡ all_marks stay →
    t.floor ≡ highest s.floor (map top dropped) → KeepsMarks ms s → KeepsMarks ms t
dropped_go ms s t stay dropped parts left lifted h = record {
  some = λ x c. h.some x (rw all (Contains-append_left (all_marks stay) (all_marks dropped) x
      (rw left at c)));
  each = λ x c k. rw left (elim (Contains-append_cases (all_marks stay) (all_marks dropped) x
      (rw all at (h.each x c (lower x k)))) [
        | inl d ↦ d
        | inr d ↦ absurd (both_ways (is_before (highest s.floor (map top dropped)) x.value.time)
            (highest-each s.floor dropped x d) (above x k))
      ]);
}
  where
    all : all_marks s.pages ≡ all_marks stay ++ all_marks dropped
    all = ap all_marks parts ∙ flat_map-append (λ (p : PageMarks). p.marks) stay dropped

    lower : (x : Mark) → is_kept t.floor x ≡ true → is_kept s.floor x ≡ true
    lower x k = kept_above_lower s.floor t.floor x
        (rw lifted (highest-floor s.floor (map top dropped))) k

    above : (x : Mark) → is_kept t.floor x ≡ true →
        is_before (highest s.floor (map top dropped)) x.value.time ≡ true
    above x k = (and_parts (not (is_empty_span x.span))
        (is_before (highest s.floor (map top dropped)) x.value.time) (rw lifted at k)).1

-- so a rotation keeps what it has to
rotated_keeps : (ms : List Mark) (config : ConfigView) (s : CacheState) (span : SpanView)
    (now : Time) → KeepsMarks ms s → KeepsMarks ms (rotate config s span now).state
rotated_keeps ms config s span now h =
    let v = evicts_the config now s.floor s.pages in
    let is = rotate-is config s span now v in
    dropped_go ms s (rotate config s span now).state v.stay v.dropped v.parts
    (ap (λ (t : CacheState). all_marks t.pages) is) (ap (λ (t : CacheState). t.floor) is) h

-- one Add more, whatever becomes of it
pub keeps_one_more : (ms : List Mark) (config : ConfigView) (s : CacheState) (m : Mark) (now : Time)
    → KeepsMarks ms s → KeepsMarks (ms ++ m ∷ []) (step config s m now).state
keeps_one_more ms config s m now h = elim (step-reports config s m now) [
  | inl t ↦ rw t.1 (not_kept_more ms s m t.0 h)
  | inr (inl t) ↦ rw t.3 (marked_more ms s m t.0 t.1 t.2 h)
  | inr (inr t) ↦ rw t (marked_more ms (rotate config s m.span now).state m _ _ refl
      (rotated_keeps ms config s m.span now h))
]

-- an Add of several marks more
pub keeps_all_more : (ms : List Mark) (config : ConfigView) (s : CacheState) (ns : List Mark)
    (now : Time) → KeepsMarks ms s → KeepsMarks (ms ++ ns) (step_all config s ns now).state
keeps_all_more ms config s [] now h = rw (append-nil ms) h
keeps_all_more ms config s (n ∷ ns) now h =
    subst (λ (all : List Mark). KeepsMarks all (step_all config s (n ∷ ns) now).state)
    (append_assoc ms (n ∷ []) ns)
    (keeps_all_more (ms ++ n ∷ []) config (step config s n now).state ns now
    (keeps_one_more ms config s n now h))

-- a mark on a span that is not above the floor is at most that
at_floor_or_kept : (floor : Time) (m : Mark) (span : SpanView) → overlaps m.span span ≡ true →
    (is_kept floor m ≡ true) ⊎ IsAtMost m.value (unowned floor)
at_floor_or_kept floor m span over = elim (cases_Bool (is_before floor m.value.time)) [
  | inl h ↦ inl (and_from (not (is_empty_span m.span)) (is_before floor m.value.time)
      (some_span m.span span over) h)
  | inr h ↦ inr (at_most_unowned floor m.value h)
]
  where
    some_span : (s t : SpanView) → overlaps s t ≡ true → not (is_empty_span s) ≡ true
    some_span nothing t over = let none : false ≡ true = over in cc
    some_span (between f e) t over = refl

-- Where some marks are among others as far as they would be kept above a floor, their values come
-- to no more than those of the others above it.
among_others : (floor : Time) (ms others : List Mark) (span : SpanView) →
    ((m : Mark) → Contains ms m → is_kept floor m ≡ true → Contains others m)
    → IsAtMost (joint_above floor (values_on span ms)) (joint_above floor (values_on span others))
among_others floor ms others span among =
    let most : ValueView = joint_above floor (values_on span others) in
    let low : IsAtMost (unowned floor) most = above_floor floor (values_on span others) in
    least_above floor (values_on span ms) most low (λ v c.
    let m = values_on-from span ms v c in
    rw (← m.3) (elim (at_floor_or_kept floor m.0 span m.2) [
      | inl k ↦ above_each floor (values_on span others) m.0.value
          (values_on-has span others m.0 (among m.0 m.1 k) m.2)
      | inr k ↦ IsAtMost-transitive m.0.value (unowned floor) most k low
    ]))

-- Such a state answers as all of the marks do above its floor.
pub keeps_answers : (ms : List Mark) (s : CacheState) (span : SpanView) → KeepsMarks ms s →
    look s span ≡ joint_above s.floor (values_on span ms)
keeps_answers ms s span h =
    look-is s span
    ∙ IsAtMost-antisymmetric (joint_above s.floor (values_on span (all_marks s.pages)))
    (joint_above s.floor (values_on span ms))
    (among_others s.floor (all_marks s.pages) ms span (λ m c k. h.some m c))
    (among_others s.floor ms (all_marks s.pages) span h.each)
