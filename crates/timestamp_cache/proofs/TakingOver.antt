-- A cache takes over what a summary tells.
use Rattle.std.proofs.Common.{◌≡◌, inl, inr, refl, sym, subst, List, [], ◌∷◌, ◌++◌, true}
use Rattle.std.specs.Prelude.{Result, Ok, Err, OnOk}
use Rattle.std.proofs.lemmas.Bool.{both_ways}
use Rattle.std.proofs.lemmas.List.Elements.{Contains-append_left, Contains-append_right, Contains-append_cases}
use Rattle.tsc_time.specs.Time.{Time, is_before}
use Rattle.tsc_time.specs.ValueView.{ValueView, unowned}
use Rattle.tsc_time.specs.Joint.{joint, joint_above, IsAtMost}
use Rattle.tsc_time.proofs.TimeOrder.{is_before-itself, is_before-transitive}
use Rattle.tsc_time.proofs.Members.{IsIn-from_Contains, Contains-from_IsIn}
use Rattle.tsc_time.proofs.RatchetOrder.{IsAtMost-itself, IsAtMost-antisymmetric, IsAtMost-transitive}
use Rattle.tsc_time.proofs.JointLemmas.{latest-reached, joint-above, joint-least}
use Rattle.tsc_span.specs.Span.{SpanView}
use Rattle.tsc_page_model.specs.Page.{Mark, values_on}
use Rattle.tsc_cache.specs.ConfigView.{ConfigView}
use Rattle.tsc_cache.specs.State.{CacheState, look, step_all}
use Rattle.tsc_cache.proofs.FloorJoints.{above_floor, above_each}
use Rattle.tsc_cache.proofs.MarkLists.{all_marks, look-is, values_on-from}
use Rattle.tsc_cache.proofs.Steps.{step_all-floor}
use Rattle.tsc_cache.specs.History.{History, state_from, state_of}
use Rattle.tsc_cache.proofs.Histories.{kept_up, clear_below}
use Rattle.tsc_cache.proofs.KeptMarks.{keeps_all_more, keeps_answers}
use Rattle.timestamp_cache.specs.HandOver.{Summary, summary_answer, IsWithin, ReportsOf, marks_reported, TakesOver}
use Rattle.timestamp_cache.specs.Laws.{ReadsAreHandedOn}
use Rattle.timestamp_cache.proofs.Within.{within_overlaps}
use Rattle.timestamp_cache.proofs.Reporting.{IsBound, bound_from, joint_below, above_lower}

-- what a state answers after some marks more
more_answers : (config : ConfigView) (s : CacheState) (ms : List Mark) (now : Time)
    (inner : SpanView)
    → look (step_all config s ms now).state inner ≡
    joint_above (step_all config s ms now).state.floor
    (values_on inner (all_marks s.pages ++ ms))
more_answers config s ms now inner =
    keeps_answers (all_marks s.pages ++ ms) (step_all config s ms now).state inner
    (keeps_all_more (all_marks s.pages) config s ms now
    (record { some = λ m c. c; each = λ m c k. c }))

-- it bounds the marks that there were and those that were added
more_bounds : (config : ConfigView) (s : CacheState) (ms : List Mark) (now : Time)
    (inner : SpanView) → IsBound inner (all_marks s.pages ++ ms)
    (look (step_all config s ms now).state inner)
more_bounds config s ms now inner =
    let answer : ValueView = look (step_all config s ms now).state inner in
    bound_from inner (all_marks s.pages ++ ms) (step_all config s ms now).state.floor answer
    (subst (λ (v : ValueView). IsAtMost v answer) (more_answers config s ms now inner)
    (IsAtMost-itself answer))

-- what a state answers bounds its marks
own_bounds : (s : CacheState) (inner : SpanView) → IsBound inner (all_marks s.pages) (look s inner)
own_bounds s inner = bound_from inner (all_marks s.pages) s.floor (look s inner)
    (subst (λ (v : ValueView). IsAtMost v (look s inner)) (look-is s inner)
    (IsAtMost-itself (look s inner)))

-- so no answer sinks where some marks are added
pub adding_rises : (config : ConfigView) (s : CacheState) (ms : List Mark) (now : Time)
    (inner : SpanView) → IsAtMost (look s inner) (look (step_all config s ms now).state inner)
adding_rises config s ms now inner =
    let old : List Mark = all_marks s.pages in
    let next : CacheState = (step_all config s ms now).state in
    let answer : ValueView = look next inner in
    let low : IsAtMost (unowned next.floor) answer =
    subst (IsAtMost (unowned next.floor)) (sym (more_answers config s ms now inner))
    (above_floor next.floor (values_on inner (old ++ ms))) in
    subst (λ (v : ValueView). IsAtMost v answer) (sym (look-is s inner))
    (joint_below inner old s.floor answer
    (above_lower s.floor next.floor answer (step_all-floor config s ms now) low)
    (λ m c over. more_bounds config s ms now inner m (Contains-append_left old ms m c) over))

-- the mark of a summary's floor
abbrev floor_mark : Summary → Mark
floor_mark reported = record { span = reported.span; value = unowned reported.floor }

-- what bounds all that a summary adds is no lower than what it tells
pub reported_below : (reported : Summary) (inner : SpanView) (u : ValueView) →
    IsWithin inner reported.span →
    IsBound inner (marks_reported reported) u → IsAtMost (summary_answer reported inner) u
reported_below reported inner u w bound =
    joint_below inner reported.marks reported.floor u
    (bound (floor_mark reported) (Contains-from_IsIn (marks_reported reported) (floor_mark reported)
    (inl refl)) (within_overlaps inner reported.span w))
    (λ m c over. bound m (Contains-from_IsIn (marks_reported reported) m
    (inr (IsIn-from_Contains reported.marks m c))) over)

-- and what it tells bounds them
reported_bounds : (reported : Summary) (inner : SpanView) →
    IsBound inner (marks_reported reported) (summary_answer reported inner)
reported_bounds reported inner m c over = elim (IsIn-from_Contains (marks_reported reported) m c) [
  | inl e ↦ subst (λ (n : Mark). IsAtMost n.value (summary_answer reported inner)) e
      (above_floor reported.floor (values_on inner reported.marks))
  | inr i ↦ bound_from inner reported.marks reported.floor (summary_answer reported inner)
      (IsAtMost-itself (summary_answer reported inner)) m (Contains-from_IsIn reported.marks m i)
      over
]

-- what is at most one that a value is above
above_through : (t : Time) (x u : ValueView) → is_before t x.time ≡ true → IsAtMost x u →
    is_before t u.time ≡ true
above_through t x u before (inl later) = is_before-transitive t x.time u.time before later
above_through t x u before (inr same) = subst (λ (v : Time). is_before t v ≡ true) same.0 before

-- a joint value above its floor is at most what bounds all of its list
above_its_floor : (inner : SpanView) (ms : List Mark) (floor : Time) (u : ValueView) →
    is_before floor (joint_above floor (values_on inner ms)).time ≡ true → IsBound inner ms u →
    IsAtMost (joint_above floor (values_on inner ms)) u
above_its_floor inner ms floor u above bound =
    joint_below inner ms floor u (inl (elim (latest-reached floor (values_on inner ms)) [
      | inl e ↦ absurd (both_ways (is_before floor floor) (is_before-itself floor)
          (subst (λ (t : Time). is_before floor t ≡ true) e above))
      | inr r ↦
          let m = values_on-from inner ms r.0 (Contains-from_IsIn (values_on inner ms) r.0 r.1) in
          let below : IsAtMost r.0 u =
          subst (λ (v : ValueView). IsAtMost v u) m.3 (bound m.0 m.1 m.2) in
          above_through floor r.0 u (subst (λ (t : Time). is_before floor t ≡ true) (sym r.2)
          above) below
    ])) bound

-- all of it
pub takes_over : (config : ConfigView) (s : CacheState) (reported : Summary) (now : Time) →
    TakesOver s (step_all config s (marks_reported reported) now).state reported
takes_over config s reported now = record {
  learned = learned;
  kept = adding_rises config s (marks_reported reported) now;
  exact = λ inner w above.
      let ms : List Mark = marks_reported reported in
      let answer : ValueView = look s inner in
      let reports : ValueView = summary_answer reported inner in
      let both : ValueView = joint answer (reports ∷ []) in
      let first : IsAtMost answer both =
      joint-above answer (reports ∷ []) answer
      (Contains-from_IsIn (answer ∷ reports ∷ []) answer (inl refl)) in
      let second : IsAtMost reports both =
      joint-above answer (reports ∷ []) reports
      (Contains-from_IsIn (answer ∷ reports ∷ []) reports (inr (inl refl))) in
      let is = more_answers config s ms now inner in
      IsAtMost-antisymmetric (look next inner) both
      (subst (λ (v : ValueView). IsAtMost v both) (sym is)
      (above_its_floor inner (all_marks s.pages ++ ms) next.floor both
      (subst (λ (v : ValueView). is_before next.floor v.time ≡ true) is above)
      (λ m c over. elim (Contains-append_cases (all_marks s.pages) ms m c) [
        | inl d ↦ IsAtMost-transitive m.value answer both (own_bounds s inner m d over) first
        | inr d ↦ IsAtMost-transitive m.value reports both (reported_bounds reported inner m d over)
            second
      ])))
      (joint-least answer (reports ∷ []) (look next inner)
      (λ x c. elim (IsIn-from_Contains (answer ∷ reports ∷ []) x c) [
        | inl e ↦ subst (λ (v : ValueView). IsAtMost v (look next inner)) e
            (adding_rises config s ms now inner)
        | inr (inl e) ↦ subst (λ (v : ValueView). IsAtMost v (look next inner)) e (learned inner w)
        | inr (inr i) ↦ absurd i
      ]));
}
  where
    next : CacheState
    next = (step_all config s (marks_reported reported) now).state

    learned : (inner : SpanView) → IsWithin inner reported.span →
        IsAtMost (summary_answer reported inner)
        (look (step_all config s (marks_reported reported) now).state inner)
    learned inner w = reported_below reported inner
        (look (step_all config s (marks_reported reported) now).state inner) w
        (λ m c over. more_bounds config s (marks_reported reported) now inner m
        (Contains-append_right (all_marks s.pages) (marks_reported reported) m c) over)

-- what holds anyway holds where a call succeeds
pub where_ok : {T E : Type 0} (r : Result T E) (P : Type 0) → P → OnOk r P
where_ok (Ok x) P p = p
where_ok (Err e) P p = tt

-- ---- reads that were handed on

-- no answer sinks as entries follow
entries_rise : (config : ConfigView) (s : CacheState) (h : History) (inner : SpanView) →
    IsAtMost (look s inner) (look (state_from config s h) inner)
entries_rise config s [] inner = IsAtMost-itself (look s inner)
entries_rise config s (e ∷ h) inner =
    let next : CacheState = (step_all config s e.marks e.now).state in
    IsAtMost-transitive (look s inner) (look next inner) (look (state_from config next h) inner)
    (adding_rises config s e.marks e.now inner) (entries_rise config next h inner)

-- what a state answers is at most what a summary of it tells
reported_above : (s : CacheState) (reported : Summary) (inner : SpanView) → ReportsOf s reported →
    IsWithin inner reported.span → IsAtMost (look s inner) (summary_answer reported inner)
reported_above s reported inner reports w =
    let answer : ValueView = look s inner in
    subst (IsAtMost answer) (sym (reports inner w))
    (above_each reported.floor (answer ∷ []) answer
    (Contains-from_IsIn (answer ∷ []) answer (inl refl)))

-- so a write that is clear of what a cache answers, to which a summary was applied, is clear of
-- each read that the summary was made of
pub reads_are_handed_on : ReadsAreHandedOn
reads_are_handed_on config others h later s reported now inner by at reports w clear e m c own over
    =
    let next : CacheState = (step_all others s (marks_reported reported) now).state in
    let last : ValueView = look (state_from others next later) inner in
    let old : ValueView = look (state_of config h) inner in
    let rises : IsAtMost old last =
    IsAtMost-transitive old (summary_answer reported inner) last
    (reported_above (state_of config h) reported inner reports w)
    (IsAtMost-transitive (summary_answer reported inner) (look next inner) last
    ((takes_over others s reported now).learned inner w) (entries_rise others next later inner)) in
    clear_below m.value last by at
    (IsAtMost-transitive m.value old last (kept_up config h e m inner c own over) rises) clear
