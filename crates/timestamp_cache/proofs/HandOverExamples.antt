-- What is told of a span whose lease is handed on, and what another cache makes of it.
use Rattle.std.proofs.Common.{◌≡◌, refl, true≢false, [], ◌∷◌, codes, Some, None}
use Rattle.tsc_time.specs.ValueView.{unowned}
use Rattle.tsc_time.specs.Joint.{joint_above}
use Rattle.tsc_span.specs.Span.{before, after, last, nothing, between, point}
use Rattle.tsc_cache.specs.Rotation.{next_size}
use Rattle.tsc_cache.specs.State.{CacheState, look, step_all}
use Rattle.tsc_cache.proofs.ExampleConfig.{at, of_first, of_second, usual, twenty, without_end, without_ends, mark, add, state_after}
use Rattle.timestamp_cache.specs.HandOver.{Summary, summary_answer, IsWithin, marks_reported}
use Rattle.timestamp_cache.specs.Stretches.{stretch_end, reported_more}

-- ---- a cache with a read of a key and one of a range, and what is told of it

abbrev two_reads : CacheState
two_reads = state_after usual (add (point (codes "b")) (of_first twenty) twenty ∷
    add (without_end (codes "d") (codes "f")) (of_second (at 22 7)) (at 22 7) ∷ [])

-- nothing yet
abbrev begun : Summary
begun = record { span = without_end (codes "a") (codes "z"); floor = at 5 0; marks = [] }

-- all of it
abbrev all_reported : Summary
all_reported = record begun {
  marks = mark (point (codes "b")) (of_first twenty) ∷
      mark (point (codes "d")) (of_second (at 22 7)) ∷
      mark (without_ends (codes "d") (codes "f")) (of_second (at 22 7)) ∷ [];
}

-- with room for one mark
abbrev one_reported : Summary
one_reported = record begun {
  floor = at 22 7;
  marks = mark (point (codes "b")) (of_first twenty) ∷
      [];
}

-- ---- which spans lie within

pub a_key_lies_within : IsWithin (point (codes "b")) begun.span
a_key_lies_within = (refl, refl, refl)

pub the_span_itself_lies_within : IsWithin begun.span begun.span
the_span_itself_lies_within = (refl, refl, refl)

pub the_key_at_its_end_does_not : IsWithin (point (codes "z")) begun.span → ⊥
the_key_at_its_end_does_not w = true≢false w.2

pub a_span_without_anything_does_not : IsWithin nothing begun.span → ⊥
a_span_without_anything_does_not w = w

-- ---- where stretches stop

pub at_a_key_it_goes_up_to_behind_it : stretch_end (before (codes "b")) (Some (codes "b")) ≡
    after (codes "b")
at_a_key_it_goes_up_to_behind_it = refl

pub behind_a_key_it_goes_up_to_the_next : stretch_end (after (codes "b")) (Some (codes "d")) ≡
    before (codes "d")
behind_a_key_it_goes_up_to_the_next = refl

pub without_a_key_it_goes_on : stretch_end (after (codes "f")) None ≡ last
without_a_key_it_goes_on = refl

-- ---- one stretch more

pub a_stretch_at_the_floor_is_not_reported : reported_more 1 begun
    (between (before (codes "a")) (before (codes "b"))) (unowned (at 5 0)) ≡ begun
a_stretch_at_the_floor_is_not_reported = refl

pub a_stretch_above_it_is_a_mark : reported_more 1 begun (point (codes "b")) (of_first twenty) ≡
    record begun { marks = mark (point (codes "b")) (of_first twenty) ∷ [] }
a_stretch_above_it_is_a_mark = refl

pub without_room_the_floor_is_raised : reported_more 1
    (reported_more 1 begun (point (codes "b")) (of_first twenty)) (point (codes "d"))
    (of_second (at 22 7)) ≡ one_reported
without_room_the_floor_is_raised = refl

-- ---- what is told is what the cache answers, raised to the floor

pub a_key_is_reported_with_its_owner : summary_answer all_reported (point (codes "b")) ≡ of_first
    twenty
a_key_is_reported_with_its_owner = refl

pub a_key_inside_a_range_is_reported : summary_answer all_reported (point (codes "e")) ≡
    look two_reads (point (codes "e"))
unfolding next_size
a_key_inside_a_range_is_reported = refl

pub the_end_of_a_range_is_not : summary_answer all_reported (point (codes "f")) ≡
    look two_reads (point (codes "f"))
unfolding next_size
the_end_of_a_range_is_not = refl

pub a_range_over_several_stretches_is : summary_answer all_reported
    (without_end (codes "c") (codes "e")) ≡ look two_reads (without_end (codes "c") (codes "e"))
unfolding next_size
a_range_over_several_stretches_is = refl

pub what_was_left_out_is_at_the_floor : summary_answer one_reported (point (codes "e")) ≡
    joint_above (at 22 7) (look two_reads (point (codes "e")) ∷ [])
unfolding next_size
what_was_left_out_is_at_the_floor = refl

pub and_nobody_owns_it : summary_answer one_reported (point (codes "e")) ≡ unowned (at 22 7)
and_nobody_owns_it = refl

-- ---- another cache takes it over

abbrev other : CacheState
other = state_after (record usual { low_water = at 3 0 })
    (add (point (codes "b")) (of_second twenty) twenty ∷ [])

pub what_is_added : marks_reported one_reported ≡ mark begun.span (unowned (at 22 7)) ∷
    mark (point (codes "b")) (of_first twenty) ∷ []
what_is_added = refl

pub two_readers_at_one_time_leave_no_owner : look
    (step_all usual other (marks_reported all_reported) (at 23 0)).state (point (codes "b")) ≡
    unowned twenty
unfolding next_size
two_readers_at_one_time_leave_no_owner = refl

pub elsewhere_in_the_span_its_floor_holds : look
    (step_all usual other (marks_reported all_reported) (at 23 0)).state (point (codes "c")) ≡
    unowned (at 5 0)
unfolding next_size
elsewhere_in_the_span_its_floor_holds = refl

pub outside_nothing_changes : look (step_all usual other (marks_reported all_reported)
    (at 23 0)).state (point (codes "z")) ≡ unowned (at 3 0)
unfolding next_size
outside_nothing_changes = refl
