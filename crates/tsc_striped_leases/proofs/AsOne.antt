-- Summaries that are told as one.
use Rattle.std.proofs.Common.{◌≡◌, inl, inr, refl, sym, subst, true, Bool, List, [], ◌∷◌, ◌++◌}
use Rattle.std.specs.Prelude.{if◌then◌else◌}
use Rattle.std.specs.List.{Contains}
use Rattle.std.proofs.lemmas.Bool.{cases_Bool}
use Rattle.std.proofs.lemmas.List.Elements.{Contains-append_left, Contains-append_right}
use Rattle.tsc_time.specs.Time.{Time, is_before}
use Rattle.tsc_time.specs.ValueView.{ValueView, unowned}
use Rattle.tsc_time.proofs.Members.{IsIn, IsIn-from_Contains, Contains-from_IsIn}
use Rattle.tsc_time.proofs.RatchetOrder.{IsAtMost-itself}
use Rattle.tsc_span.specs.Span.{SpanView}
use Rattle.tsc_page_model.specs.Page.{Mark, values_on}
use Rattle.tsc_cache.proofs.FloorJoints.{above_floor}
use Rattle.timestamp_cache.specs.HandOver.{Summary, summary_answer}
use Rattle.timestamp_cache.proofs.Reporting.{IsBound, bound_from, joint_below, above_lower}
use Rattle.timestamp_cache.proofs.Within.{within_overlaps, overlaps_wider}
use Rattle.tsc_striped_leases.specs.Merging.{floor_mark, marks_over}
use Rattle.tsc_striped_leases.specs.Merging.{merged, ReportsNoLess}

-- the mark of a whole summary, at its floor
abbrev whole_at_floor : Summary → Mark
whole_at_floor one = record { span = one.span; value = unowned one.floor }

-- the marks of each summary are among those of all
marks_there : (least : Time) (parts : List Summary) (one : Summary) (m : Mark) → IsIn parts one
    → Contains one.marks m → Contains (marks_over least parts) m
marks_there least [] one m there its = absurd there
marks_there least (first ∷ others) one m (inl same) its =
    Contains-append_right (floor_mark least first) (first.marks ++ marks_over least others) m
    (Contains-append_left first.marks (marks_over least others) m
    (subst (λ (s : Summary). Contains s.marks m) (sym same) its))
marks_there least (first ∷ others) one m (inr there) its =
    Contains-append_right (floor_mark least first) (first.marks ++ marks_over least others) m
    (Contains-append_right first.marks (marks_over least others) m
    (marks_there least others one m there its))

-- and so is the mark of a floor that is later than that of all
floor_there : (least : Time) (parts : List Summary) (one : Summary) → IsIn parts one
    → is_before least one.floor ≡ true → Contains (marks_over least parts) (whole_at_floor one)
floor_there least [] one there later = absurd there
floor_there least (first ∷ others) one (inl same) later =
    Contains-append_left (floor_mark least first) (first.marks ++ marks_over least others)
    (whole_at_floor one)
    (subst (λ (s : Summary). Contains (floor_mark least s) (whole_at_floor one)) (sym same)
    (subst (λ (b : Bool). Contains (if b then whole_at_floor one ∷ [] else []) (whole_at_floor one))
    (sym later) (Contains-from_IsIn (whole_at_floor one ∷ []) (whole_at_floor one) (inl refl))))
floor_there least (first ∷ others) one (inr there) later =
    Contains-append_right (floor_mark least first) (first.marks ++ marks_over least others)
    (whole_at_floor one)
    (Contains-append_right first.marks (marks_over least others) (whole_at_floor one)
    (floor_there least others one there later))

pub merged_no_less : (of : SpanView) (parts : List Summary) → ReportsNoLess (merged of parts) parts
merged_no_less of parts one part inner there within wider =
    let reported = merged of parts in
    let u : ValueView = summary_answer reported inner in
    let is_in = IsIn-from_Contains parts one there in
    let bound : IsBound inner reported.marks u =
    bound_from inner reported.marks reported.floor u (IsAtMost-itself u) in
    joint_below part one.marks one.floor u
    (elim (cases_Bool (is_before reported.floor one.floor)) [
      | inl later ↦ bound (whole_at_floor one) (floor_there reported.floor parts one is_in later)
          (overlaps_wider one.span part inner wider (within_overlaps part one.span within))
      | inr other ↦ above_lower one.floor reported.floor u other
          (above_floor reported.floor (values_on inner reported.marks))
    ])
    (λ m its over. bound m (marks_there reported.floor parts one m is_in its)
    (overlaps_wider m.span part inner wider over))
