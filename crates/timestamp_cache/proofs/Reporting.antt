-- What a summary tells, one stretch after another.
use Rattle.std.proofs.Common.{◌≡◌, ◌⊎◌, ◌∙◌, inl, inr, refl, sym, subst, ℕ, ◌≤◌, List, [], ◌∷◌, ◌++◌, length, nat_lt, true, false, arith}
use Rattle.std.specs.List.{Contains}
use Rattle.std.proofs.lemmas.Bool.{cases_Bool, both_ways}
use Rattle.std.proofs.lemmas.Bool.Decides.{nat_tests}
use Rattle.std.proofs.lemmas.List.{length_push}
use Rattle.std.proofs.lemmas.List.Elements.{Contains-push, Contains-push_cases, Contains-append_left}
use Rattle.tsc_time.specs.Time.{Time, is_before}
use Rattle.tsc_time.specs.ValueView.{ValueView, unowned}
use Rattle.tsc_time.specs.Joint.{joint_above, IsAtMost}
use Rattle.tsc_time.proofs.TimeOrder.{is_before-itself, is_before-opposite, no_earlier-transitive}
use Rattle.tsc_time.proofs.Members.{IsIn-from_Contains, Contains-from_IsIn}
use Rattle.tsc_time.proofs.RatchetOrder.{IsAtMost-itself, IsAtMost-antisymmetric, IsAtMost-transitive}
use Rattle.tsc_span.specs.Span.{Cut, is_below, SpanView, nothing, between, overlaps}
use Rattle.tsc_span.proofs.Overlaps.{is_below-opposite, no_lower-transitive}
use Rattle.tsc_page_model.specs.Page.{Mark, values_on}
use Rattle.tsc_cache.specs.State.{CacheState, look}
use Rattle.tsc_cache.proofs.FloorJoints.{above_floor, above_each, least_above, at_most_unowned}
use Rattle.tsc_cache.proofs.MarkLists.{all_marks, look-is, values_on-has, values_on-from}
use Rattle.timestamp_cache.specs.HandOver.{Summary, summary_answer, IsWithin, ReportsOf}
use Rattle.timestamp_cache.specs.Stretches.{reported_more}
use Rattle.timestamp_cache.proofs.Within.{is_below-itself, below_upto, upto_below, overlaps_from, overlaps_wider, apart, apart_above, either_part, AreBeside, overlaps_whole}

-- each of some marks that overlaps a span is at most a value
abbrev pub IsBound : SpanView → List Mark → ValueView → Type 0
IsBound span ms u = (m : Mark) → Contains ms m → overlaps m.span span ≡ true → IsAtMost m.value u

-- so it is where their joint value is, and the other way round
pub bound_from : (span : SpanView) (ms : List Mark) (floor : Time) (u : ValueView) →
    IsAtMost (joint_above floor (values_on span ms)) u → IsBound span ms u
bound_from span ms floor u below m c over =
    IsAtMost-transitive m.value (joint_above floor (values_on span ms)) u
    (above_each floor (values_on span ms) m.value (values_on-has span ms m c over)) below

pub joint_below : (span : SpanView) (ms : List Mark) (floor : Time) (u : ValueView) →
    IsAtMost (unowned floor) u → IsBound span ms u →
    IsAtMost (joint_above floor (values_on span ms)) u
joint_below span ms floor u low bound =
    least_above floor (values_on span ms) u low
    (λ v c. let m = values_on-from span ms v c in subst (λ (w : ValueView). IsAtMost w u) m.3
    (bound m.0 m.1 m.2))

-- a value that is no lower than an unowned time is no lower than an earlier one
pub above_lower : (low high : Time) (u : ValueView) → is_before high low ≡ false →
    IsAtMost (unowned high) u → IsAtMost (unowned low) u
above_lower low high u rises h = IsAtMost-transitive (unowned low) (unowned high) u
    (at_most_unowned high (unowned low) rises) h

-- what bounds both parts of a span bounds all of it
both_bound : (ms : List Mark) (first at stop : Cut) (u : ValueView) → is_below first at ≡ true →
    is_below at stop ≡ true → IsBound (between first at) ms u → IsBound (between at stop) ms u →
    IsBound (between first stop) ms u
both_bound ms first at stop u low high left right m c over =
    elim (either_part m.span first at stop low high over)
    [ inl h ↦ left m c h | inr h ↦ right m c h ]

-- and what bounds a span bounds each span within it
inner_bound : (ms : List Mark) (inner outer : SpanView) (u : ValueView) → IsWithin inner outer →
    IsBound outer ms u → IsBound inner ms u
inner_bound ms inner outer u w bound m c over = bound m c (overlaps_wider m.span inner outer w over)

-- above a floor the same values bound the marks of a summary on a span as bound those of a state
pub record SameBounds (old : List Mark) (reported : Summary) (span : SpanView) : Type 0 where
  pub reports : (u : ValueView) → IsAtMost (unowned reported.floor) u →
      IsBound span reported.marks u → IsBound span old u
  pub real : (u : ValueView) → IsAtMost (unowned reported.floor) u → IsBound span old u →
      IsBound span reported.marks u

-- What a summary tells so far of the marks of a state, from one cut up to another.
pub record Reports (old : List Mark) (from at : Cut) (reported : Summary) : Type 0 where
  pub same : (first stop : Cut) → IsWithin (between first stop) (between from at) →
      SameBounds old reported (between first stop)
  pub within : (m : Mark) → Contains reported.marks m → IsWithin m.span (between from at)

-- of nothing so far
pub reports_none : (old : List Mark) (from : Cut) (reported : Summary) → reported.marks ≡ [] →
    Reports old from from reported
reports_none old from reported none = record {
  same = λ first stop w. absurd (both_ways (is_below from from) (is_below-itself from)
      (upto_below from first from w.1 (below_upto first stop from w.0 w.2)));
  within = λ m c. absurd (IsIn-from_Contains [] m
      (subst (λ (ms : List Mark). Contains ms m) none c));
}

-- With what is told of the stretch after it, where what was told before stays told.
further : (old : List Mark) (from at end : Cut) (reported : Summary) → is_below at from ≡ false →
    is_below at end ≡ true
    → ((first stop : Cut) → IsWithin (between first stop) (between from at) →
    SameBounds old reported (between first stop))
    → ((first stop : Cut) → IsWithin (between first stop) (between at end) →
    SameBounds old reported (between first stop))
    → (first stop : Cut) → IsWithin (between first stop) (between from end) →
    SameBounds old reported (between first stop)
further old from at end reported past rises before after first stop w =
    elim (cases_Bool (is_below at stop)) [
      | inr low ↦ before first stop (w.0, w.1, low)
      | inl high ↦ elim (cases_Bool (is_below first at)) [
        | inr begun ↦ after first stop (w.0, begun, w.2)
        | inl under ↦
            let left = before first at (under, w.1, is_below-itself at) in
            let right = after at stop (high, is_below-itself at, w.2) in
            let into_left : IsWithin (between first at) (between first stop) =
            (under, is_below-itself first, is_below-opposite at stop high) in
            let into_right : IsWithin (between at stop) (between first stop) =
            (high, is_below-opposite first at under, is_below-itself stop) in
            record {
              reports = λ u low bound. both_bound old first at stop u under high
                  (left.reports u low (inner_bound reported.marks (between first at) (between first stop) u
                  into_left bound)) (right.reports u low
                  (inner_bound reported.marks (between at stop) (between first stop) u into_right bound));
              real = λ u low bound. both_bound reported.marks first at stop u under high
                  (left.real u low (inner_bound old (between first at) (between first stop) u into_left
                  bound)) (right.real u low
                  (inner_bound old (between at stop) (between first stop) u into_right bound));
            }
      ]
    ]

-- ---- one stretch more

-- a stretch that no cut of a state's marks parts, and the state's answer to it
record Asked (old : List Mark) (low : Time) (at end : Cut) (v : ValueView) : Type 0 where
  rises : is_below at end ≡ true
  beside : (m : Mark) → Contains old m → AreBeside at end m.span
  answer : v ≡ joint_above low (values_on (between at end) old)

-- what bounds the answer bounds the marks on each span within, and the other way round
bound_by_answer : (old : List Mark) (low : Time) (at end first stop : Cut) (v u : ValueView) →
    Asked old low at end v → IsWithin (between first stop) (between at end) → IsAtMost v u →
    IsBound (between first stop) old u
bound_by_answer old low at end first stop v u asked w below =
    inner_bound old (between first stop) (between at end) u w
    (bound_from (between at end) old low u
    (subst (λ (x : ValueView). IsAtMost x u) asked.answer below))

answer_by_bound : (old : List Mark) (low : Time) (at end first stop : Cut) (v u : ValueView) →
    Asked old low at end v → IsWithin (between first stop) (between at end) →
    IsAtMost (unowned low) u → IsBound (between first stop) old u → IsAtMost v u
answer_by_bound old low at end first stop v u asked w under bound =
    subst (λ (x : ValueView). IsAtMost x u) (sym asked.answer)
    (joint_below (between at end) old low u under
    (λ m c over. bound m c (overlaps_whole m.span at end first stop (asked.beside m c) asked.rises
    w.1 w.2 over w.0)))

-- marks that end before a stretch bound nothing on it
none_there : (ms : List Mark) (from at first stop : Cut) (u : ValueView) →
    is_below first at ≡ false → ((m : Mark) → Contains ms m → IsWithin m.span (between from at)) →
    IsBound (between first stop) ms u
none_there ms from at first stop u begun within m c over = absurd (off m.span (within m c) over)
  where
    off : (s : SpanView) → IsWithin s (between from at) → overlaps s (between first stop) ≡ true → ⊥
    off nothing w over = w
    off (between a b) w over = apart a b first stop (no_lower-transitive b at first w.2 begun) over

-- where the floor is no lower than the answer, nothing is told of the stretch
reports_low : (old : List Mark) (low : Time) (from at end : Cut) (reported next : Summary)
    (v : ValueView)
    → is_below at from ≡ false → Asked old low at end v
    → next.marks ≡ reported.marks → is_before next.floor reported.floor ≡ false →
    is_before next.floor v.time ≡ false → Reports old from at reported → Reports old from end next
reports_low old low from at end reported next v past asked same_marks rises covered so_far = record {
  same = further old from at end next past asked.rises
      (λ first stop w. let b = so_far.same first stop w in record {
        reports = λ u high bound. b.reports u (above_lower reported.floor next.floor u rises high)
            (subst (λ (ms : List Mark). IsBound (between first stop) ms u) same_marks bound);
        real = λ u high bound. subst (λ (ms : List Mark). IsBound (between first stop) ms u)
            (sym same_marks) (b.real u (above_lower reported.floor next.floor u rises high) bound);
      })
      (λ first stop w. record {
        reports = λ u high bound. bound_by_answer old low at end first stop v u asked w
            (IsAtMost-transitive v (unowned next.floor) u
            (at_most_unowned next.floor v covered) high);
        real = λ u high bound. subst (λ (ms : List Mark). IsBound (between first stop) ms u)
            (sym same_marks) (none_there reported.marks from at first stop u w.1 so_far.within);
      });
  within = λ m c. widened m.span (so_far.within m
      (subst (λ (ms : List Mark). Contains ms m) same_marks c));
}
  where
    widened : (s : SpanView) → IsWithin s (between from at) → IsWithin s (between from end)
    widened nothing w = w
    widened (between a b) w = (
      w.0,
      w.1,
      no_lower-transitive b at end w.2 (is_below-opposite at end asked.rises),
    )

-- the mark of a stretch
abbrev mark_of : Cut → Cut → ValueView → Mark
mark_of at end v = record { span = between at end; value = v }

-- else a mark tells of it
reports_mark : (old : List Mark) (low : Time) (from at end : Cut) (reported next : Summary)
    (v : ValueView) → is_below at from ≡ false → Asked old low at end v →
    is_before reported.floor low ≡ false
    → next.floor ≡ reported.floor → next.marks ≡ reported.marks ++ mark_of at end v ∷ [] →
    Reports old from at reported → Reports old from end next
reports_mark old low from at end reported next v past asked rises same_floor more so_far = record {
  same = further old from at end next past asked.rises
      (λ first stop w. let b = so_far.same first stop w in record {
        reports = λ u high bound. b.reports u (lowered u high) (λ m c over. bound m (had m c) over);
        real = λ u high bound. λ m c over.
            elim (Contains-push_cases reported.marks (mark_of at end v) m
            (subst (λ (ms : List Mark). Contains ms m) more c)) [
              | inl d ↦ b.real u (lowered u high) bound m d over
              | inr e ↦ absurd (apart_above at end first stop w.2
                  (subst (λ (n : Mark). overlaps n.span (between first stop) ≡ true) (sym e) over))
            ];
      })
      (λ first stop w. record {
        reports = λ u high bound. bound_by_answer old low at end first stop v u asked w
            (bound (mark_of at end v) has
            (overlaps_from at end first stop asked.rises (upto_below at first stop w.1 w.0)
            (below_upto first stop end w.0 w.2) w.0));
        real = λ u high bound. λ m c over.
            elim (Contains-push_cases reported.marks (mark_of at end v) m
            (subst (λ (ms : List Mark). Contains ms m) more c)) [
              | inl d ↦ none_there reported.marks from at first stop u w.1 so_far.within m d over
              | inr e ↦ subst (λ (n : Mark). IsAtMost n.value u) e
                  (answer_by_bound old low at end first stop v u asked w
                  (above_lower low reported.floor u rises (lowered u high)) bound)
            ];
      });
  within = λ m c. elim (Contains-push_cases reported.marks (mark_of at end v) m
      (subst (λ (ms : List Mark). Contains ms m) more c)) [
        | inl d ↦ widened m.span (so_far.within m d)
        | inr e ↦ subst (λ (n : Mark). IsWithin n.span (between from end)) e
            (asked.rises, past, is_below-itself end)
      ];
}
  where
    lowered : (u : ValueView) → IsAtMost (unowned next.floor) u →
        IsAtMost (unowned reported.floor) u
    lowered u high = subst (λ (t : Time). IsAtMost (unowned t) u) same_floor high

    had : (m : Mark) → Contains reported.marks m → Contains next.marks m
    had m c = subst (λ (ms : List Mark). Contains ms m) (sym more)
        (Contains-append_left reported.marks ((mark_of at end v) ∷ []) m c)

    has : Contains next.marks (mark_of at end v)
    has = subst (λ (ms : List Mark). Contains ms (mark_of at end v)) (sym more)
        (Contains-push reported.marks (mark_of at end v))

    widened : (s : SpanView) → IsWithin s (between from at) → IsWithin s (between from end)
    widened nothing w = w
    widened (between a b) w = (
      w.0,
      w.1,
      no_lower-transitive b at end w.2 (is_below-opposite at end asked.rises),
    )

-- so it is with one stretch more
pub reports_more : (old : List Mark) (low : Time) (from at end : Cut) (most : ℕ)
    (reported : Summary) (v : ValueView) → is_below at from ≡ false → is_below at end ≡ true
    → ((m : Mark) → Contains old m → AreBeside at end m.span) →
    v ≡ joint_above low (values_on (between at end) old) → is_before reported.floor low ≡ false
    → Reports old from at reported → Reports old from end
    (reported_more most reported (between at end) v)
reports_more old low from at end most reported v past rises beside answer high so_far =
    let asked : Asked old low at end v =
    record { rises = rises; beside = beside; answer = answer } in
    elim (cases_Bool (is_before reported.floor v.time)) [
      | inr h ↦ rw h (reports_low old low from at end reported reported v past asked refl
          (is_before-itself reported.floor) h so_far)
      | inl h ↦ elim (cases_Bool (nat_lt (length reported.marks) most)) [
        | inl g ↦ rw (h, g) (reports_mark old low from at end reported _ v past asked high refl refl
            so_far)
        | inr g ↦ rw (h, g) (reports_low old low from at end reported _ v past asked refl
            (is_before-opposite reported.floor v.time h) (is_before-itself v.time) so_far)
      ]
    ]

-- ---- how much is told

-- A summary so far has no more than so many marks, all above a floor, and its own is no lower, and
-- raised only where there is no room for a mark more.
pub record IsBrief (low : Time) (most : ℕ) (reported : Summary) : Type 0 where
  pub floor : is_before reported.floor low ≡ false
  pub few : length reported.marks ≤ most
  pub left_out : (reported.floor ≡ low) ⊎ (length reported.marks ≡ most)
  pub above : (m : Mark) → Contains reported.marks m → is_before low m.value.time ≡ true

pub brief_none : (low : Time) (most : ℕ) (reported : Summary) → reported.floor ≡ low →
    reported.marks ≡ [] → IsBrief low most reported
brief_none low most reported same none = record {
  floor = subst (λ (t : Time). is_before t low ≡ false) (sym same) (is_before-itself low);
  few = rw none (omega arith);
  left_out = inl same;
  above = λ m c. absurd (IsIn-from_Contains [] m
      (subst (λ (ms : List Mark). Contains ms m) none c));
}

pub brief_more : (low : Time) (most : ℕ) (reported : Summary) (span : SpanView) (v : ValueView) →
    IsBrief low most reported → IsBrief low most (reported_more most reported span v)
brief_more low most reported span v so_far = elim (cases_Bool (is_before reported.floor v.time)) [
  | inr h ↦ rw h so_far
  | inl h ↦ elim (cases_Bool (nat_lt (length reported.marks) most)) [
    | inl g ↦ rw (h, g) (record {
      floor = so_far.floor;
      few = long g;
      left_out = elim so_far.left_out [ inl e ↦ inl e | inr e ↦ absurd (full g e) ];
      above = λ m c. elim (Contains-push_cases reported.marks (record { span = span; value = v }) m
          c) [
            | inl d ↦ so_far.above m d
            | inr e ↦ subst (λ (n : Mark). is_before low n.value.time ≡ true) e (later_than h)
          ];
    })
    | inr g ↦ rw (h, g) (record {
      floor = no_earlier-transitive low reported.floor v.time so_far.floor
          (is_before-opposite reported.floor v.time h);
      few = so_far.few;
      left_out = inr (no_room g);
      above = so_far.above;
    })
  ]
]
  where
    long : nat_lt (length reported.marks) most ≡ true →
        length (reported.marks ++ record { span = span; value = v } ∷ []) ≤ most
    long g = let more = length_push reported.marks (record { span = span; value = v }) in grind
        (arith, nat_tests)

    full : nat_lt (length reported.marks) most ≡ true → length reported.marks ≡ most → ⊥
    full g e = grind (arith, nat_tests)

    no_room : nat_lt (length reported.marks) most ≡ false → length reported.marks ≡ most
    no_room g = let few = so_far.few in grind (arith, nat_tests)

    later_than : is_before reported.floor v.time ≡ true → is_before low v.time ≡ true
    later_than h = elim (cases_Bool (is_before low v.time)) [
      | inl g ↦ g
      | inr g ↦ absurd (both_ways (is_before reported.floor v.time)
          (no_earlier-transitive v.time low reported.floor g so_far.floor) h)
    ]

-- ---- all is told

-- what is told of the marks of a state, up to a cut that is no lower than where a span stops, is
-- told of the state
pub reported_of : (s : CacheState) (from to at : Cut) (reported : Summary) →
    reported.span ≡ between from to →
    is_below at to ≡ false → is_before reported.floor s.floor ≡ false →
    Reports (all_marks s.pages) from at reported → ReportsOf s reported
reported_of s from to at reported is past high so_far inner w = by_cuts inner
    (subst (IsWithin inner) is w)
  where
    by_bounds : (span : SpanView) → SameBounds (all_marks s.pages) reported span →
        summary_answer reported span ≡ joint_above reported.floor (look s span ∷ [])
    by_bounds span same =
        let old : List Mark = all_marks s.pages in
        let answer : ValueView = look s span in
        let left : ValueView = summary_answer reported span in
        let right : ValueView = joint_above reported.floor (answer ∷ []) in
        let low : IsAtMost (unowned reported.floor) left =
        above_floor reported.floor (values_on span reported.marks) in
        let there : IsAtMost answer right =
        above_each reported.floor (answer ∷ []) answer
        (Contains-from_IsIn (answer ∷ []) answer (inl refl)) in
        IsAtMost-antisymmetric left right
        (joint_below span reported.marks reported.floor right
        (above_floor reported.floor (answer ∷ []))
        (same.real right (above_floor reported.floor (answer ∷ []))
        (bound_from span old s.floor right
        (subst (λ (x : ValueView). IsAtMost x right) (look-is s span) there))))
        (least_above reported.floor (answer ∷ []) left low
        (λ v c. elim (IsIn-from_Contains (answer ∷ []) v c) [
          | inl e ↦ subst (λ (x : ValueView). IsAtMost x left) (sym (look-is s span) ∙ e)
              (joint_below span old s.floor left (above_lower s.floor reported.floor left high low)
              (same.reports left low
              (bound_from span reported.marks reported.floor left (IsAtMost-itself left))))
          | inr i ↦ absurd i
        ]))

    by_cuts : (span : SpanView) → IsWithin span (between from to) →
        summary_answer reported span ≡ joint_above reported.floor (look s span ∷ [])
    by_cuts nothing w = absurd w
    by_cuts (between first stop) w =
        by_bounds (between first stop)
        (so_far.same first stop (w.0, w.1, no_lower-transitive stop to at w.2 past))
