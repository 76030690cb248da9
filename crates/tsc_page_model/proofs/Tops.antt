-- No answer of a plain page is later than its top.
use Rattle.std.proofs.Common.{◌≡◌, subst, Bool, true, false, cond, List, [], ◌∷◌, map, arith}
use Rattle.std.specs.Prelude.{filter}
use Rattle.tsc_time.specs.Time.{Time, zero_time, is_before, later}
use Rattle.tsc_time.specs.Joint.{joint_above, latest}
use Rattle.tsc_time.proofs.TimeOrder.{is_before-reports, later-reports}
use Rattle.tsc_span.specs.Span.{SpanView, overlaps}
use Rattle.tsc_page_model.specs.Page.{Mark, PageMarks, values_on}
use Rattle.tsc_page_model.specs.PageView.{PageView, NoAnswerAboveTop, view_of}

-- no time is below time zero
pub none_below_zero : (t : Time) → is_before t zero_time ≡ false
none_below_zero t = grind (arith, is_before-reports)

-- where a time is no earlier than another, it stays so with a third on both sides
both_later : (a b v : Time) → is_before a b ≡ false → is_before (later v a) (later v b) ≡ false
both_later a b v h = grind (arith, is_before-reports, later-reports)

one_later : (a b v : Time) → is_before a b ≡ false → is_before (later v a) b ≡ false
one_later a b v h = grind (arith, is_before-reports, later-reports)

-- the top of a list of marks
pub top_covers : (base : Time) (marks : List Mark) (s : SpanView) →
    is_before (latest base (map (λ (m : Mark). m.value) marks))
    (joint_above zero_time (values_on s marks)).time ≡ false
top_covers base [] s = none_below_zero base
top_covers base (m ∷ ms) s = by (overlaps m.span s) (top_covers base ms s)
  where
    by : (b : Bool) → is_before (latest base (map (λ (n : Mark). n.value) ms))
        (joint_above zero_time (values_on s ms)).time ≡ false →
        is_before (later m.value.time (latest base (map (λ (n : Mark). n.value) ms)))
        (joint_above zero_time (map (λ (n : Mark). n.value)
        (cond b (m ∷ filter (λ (n : Mark). overlaps n.span s) ms)
        (filter (λ (n : Mark). overlaps n.span s) ms)))).time ≡ false
    by true rest = both_later (latest base (map (λ (n : Mark). n.value) ms))
        (joint_above zero_time (values_on s ms)).time m.value.time rest
    by false rest = one_later (latest base (map (λ (n : Mark). n.value) ms))
        (joint_above zero_time (values_on s ms)).time m.value.time rest

-- and so that of a page that keeps it
pub plain_covers : (v : PageView) (p : PageMarks) → view_of p ≡ v → NoAnswerAboveTop v
plain_covers v p is = subst NoAnswerAboveTop is (λ s. top_covers p.base p.marks s)
