-- A summary under way, and what it comes to.
use Rattle.std.proofs.Common.{◌≡◌, ◌∙◌, inl, inr, refl, sym, subst, ℕ, List, [], length, nat_lt, true, false}
use Rattle.std.specs.List.{Contains}
use Rattle.std.proofs.lemmas.Bool.{cases_Bool}
use Rattle.std.proofs.lemmas.List.Elements.{Contains-push_cases}
use Rattle.tsc_time.specs.Time.{Time, is_before}
use Rattle.tsc_time.proofs.Members.{IsIn-from_Contains}
use Rattle.tsc_time.specs.ValueView.{ValueView}
use Rattle.tsc_span.specs.Span.{Cut, is_below, SpanView, nothing, between}
use Rattle.tsc_span.proofs.Overlaps.{is_below-opposite, no_lower-transitive}
use Rattle.tsc_page_model.specs.Page.{Mark}
use Rattle.tsc_cache.specs.ConfigView.{ConfigView}
use Rattle.tsc_cache.specs.State.{CacheState, look}
use Rattle.tsc_cache.specs.CacheView.{CacheView, RepresentsState}
use Rattle.tsc_cache.specs.Keys.{keys_seen}
use Rattle.tsc_cache.proofs.MarkLists.{all_marks, look-is}
use Rattle.timestamp_cache.specs.HandOver.{Summary, IsWithin, Summarizes}
use Rattle.timestamp_cache.specs.Stretches.{IsStretch, reported_more}
use Rattle.timestamp_cache.proofs.Within.{is_below-itself}
use Rattle.timestamp_cache.proofs.Reporting.{Reports, reports_none, reports_more, IsBrief, brief_none, brief_more, reported_of}
use Rattle.timestamp_cache.proofs.Walking.{marks_beside}

-- A summary of a cache on a span between two cuts, up to a third.
pub record IsUnderWay (cache : CacheView) (of : SpanView) (from to at : Cut) (most : ℕ)
    (reported : Summary) : Type 0 where
  pub span : reported.span ≡ of
  pub is : of ≡ between from to
  pub begun : is_below at from ≡ false
  pub upto : is_below to at ≡ false
  pub brief : IsBrief cache.floor most reported
  pub within : (m : Mark) → Contains reported.marks m → IsWithin m.span (between from at)
  pub reports : (config : ConfigView) (s : CacheState) → RepresentsState cache config s →
      Reports (all_marks s.pages) from at reported

-- nothing is told yet
pub under_way_first : (cache : CacheView) (from to : Cut) (most : ℕ) (reported : Summary) →
    reported.span ≡ between from to → is_below from to ≡ true → reported.floor ≡ cache.floor →
    reported.marks ≡ [] → IsUnderWay cache reported.span from to from most reported
under_way_first cache from to most reported is order same none = record {
  span = refl;
  is = is;
  begun = is_below-itself from;
  upto = is_below-opposite from to order;
  brief = brief_none cache.floor most reported same none;
  within = λ m c. absurd (IsIn-from_Contains [] m
      (subst (λ (ms : List Mark). Contains ms m) none c));
  reports = λ config s stands. reports_none (all_marks s.pages) from reported none;
}

-- the span of what is told stays
span_stays : (most : ℕ) (reported : Summary) (span : SpanView) (v : ValueView) →
    (reported_more most reported span v).span ≡ reported.span
span_stays most reported span v = elim (cases_Bool (is_before reported.floor v.time)) [
  | inr h ↦ rw h refl
  | inl h ↦ elim (cases_Bool (nat_lt (length reported.marks) most))
      [ inl g ↦ rw (h, g) refl | inr g ↦ rw (h, g) refl ]
]

-- what lies within a span lies within one that goes on
up_to : (from at end : Cut) (s : SpanView) → is_below end at ≡ false →
    IsWithin s (between from at) → IsWithin s (between from end)
up_to from at end nothing high w = w
up_to from at end (between a b) high w = (w.0, w.1, no_lower-transitive b at end w.2 high)

-- so the marks with one stretch more lie within what was gone over
within_more : (most : ℕ) (reported : Summary) (from at end : Cut) (v : ValueView) →
    is_below at end ≡ true → is_below at from ≡ false →
    ((m : Mark) → Contains reported.marks m → IsWithin m.span (between from at))
    → (m : Mark) → Contains (reported_more most reported (between at end) v).marks m →
    IsWithin m.span (between from end)
within_more most reported from at end v rises begun so_far =
    elim (cases_Bool (is_before reported.floor v.time)) [
      | inr h ↦ rw h as_before
      | inl h ↦ elim (cases_Bool (nat_lt (length reported.marks) most)) [
        | inr g ↦ rw (h, g) as_before
        | inl g ↦ rw (h, g) (λ m c. elim
            (Contains-push_cases reported.marks (record { span = between at end; value = v }) m c) [
              | inl d ↦ as_before m d
              | inr e ↦ subst (λ (n : Mark). IsWithin n.span (between from end)) e
                  (rises, begun, is_below-itself end)
            ])
      ]
    ]
  where
    as_before : (m : Mark) → Contains reported.marks m → IsWithin m.span (between from end)
    as_before m c = up_to from at end m.span (is_below-opposite at end rises) (so_far m c)

-- one stretch more
pub under_way_more : (cache : CacheView) (of : SpanView) (from to at end : Cut) (most : ℕ)
    (reported next : Summary) (v : ValueView) → IsUnderWay cache of from to at most reported →
    IsStretch (keys_seen cache.pages) at to end
    → ((config : ConfigView) (s : CacheState) → RepresentsState cache config s →
    v ≡ look s (between at end)) → next ≡ reported_more most reported (between at end) v
    → IsUnderWay cache of from to end most next
under_way_more cache of from to at end most reported next v so_far stretch answer is =
    subst (λ (x : Summary). IsUnderWay cache of from to end most x) (sym is) (record {
      span = span_stays most reported (between at end) v ∙ so_far.span;
      is = so_far.is;
      begun = no_lower-transitive from at end so_far.begun (is_below-opposite at end stretch.rises);
      upto = stretch.stops;
      brief = brief_more cache.floor most reported (between at end) v so_far.brief;
      within = within_more most reported from at end v stretch.rises so_far.begun so_far.within;
      reports = λ config s stands. reports_more (all_marks s.pages) s.floor from at end most
          reported v so_far.begun stretch.rises
          (marks_beside cache.pages s.pages at to end stands.pages stretch)
          (answer config s stands ∙ look-is s (between at end))
          (subst (λ (t : Time). is_before reported.floor t ≡ false) stands.floor so_far.brief.floor)
          (so_far.reports config s stands);
    })

-- all of it
pub under_way_last : (cache : CacheView) (of : SpanView) (from to at : Cut) (most : ℕ)
    (reported : Summary) → IsUnderWay cache of from to at most reported → is_below at to ≡ false →
    Summarizes cache of most reported
under_way_last cache of from to at most reported so_far past = record {
  span = so_far.span;
  floor = so_far.brief.floor;
  few = so_far.brief.few;
  left_out = so_far.brief.left_out;
  marks = λ m c. (
    subst (IsWithin m.span) (sym so_far.is)
        (up_to from at to m.span so_far.upto (so_far.within m c)),
    so_far.brief.above m c,
  );
  answers = λ config s stands. reported_of s from to at reported (so_far.span ∙ so_far.is) past
      (subst (λ (t : Time). is_before reported.floor t ≡ false) stands.floor so_far.brief.floor)
      (so_far.reports config s stands);
}
