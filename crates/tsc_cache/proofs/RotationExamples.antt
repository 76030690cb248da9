-- How pages rotate: when a page is full, which pages are dropped, and where the floor then stands.
use Rattle.std.specs.Prelude.{◌≡◌, ℕ, ◌-◌, ◌^◌, List, [], ◌∷◌, ◌++◌, length, true, false, codes, refl}
use Rattle.tsc_time.specs.Time.{zero_time}
use Rattle.tsc_time.specs.ValueView.{unowned}
use Rattle.tsc_span.specs.Span.{point}
use Rattle.tsc_cache.specs.Rotation.{next_size, rotate}
use Rattle.tsc_cache.specs.State.{CacheState, look}
use Rattle.tsc_cache.proofs.ExampleConfig.{at, of_first, usual, tight, twenty, without_end, marks_at, page, small_page, Addition, add_points, state_after, answers, added}

-- ---- a fifth key on a page of four

abbrev pub five_points : List Addition
five_points = add_points (codes "abcde") (of_first twenty) twenty

pub a_full_page_rotates :
    state_after usual five_points
    ≡ record {
      floor = at 5 0;
      pages = page twenty (marks_at (codes "e") (of_first twenty))
          ∷ page zero_time (marks_at (codes "abcd") (of_first twenty))
          ∷ [];
      rotations = 1;
    }
unfolding next_size
a_full_page_rotates = refl

pub the_fifth_point_rotates :
    answers usual five_points
    ≡ added true false 0 ∷ added true false 0 ∷ added true false 0 ∷ added true false 0 ∷
    added true true 0 ∷ []
unfolding next_size
the_fifth_point_rotates = refl

pub below_min_pages_nothing_is_dropped : length (state_after usual five_points).pages ≡ 2
unfolding next_size
below_min_pages_nothing_is_dropped = refl

pub an_older_page_still_answers : look (state_after usual five_points) (point (codes "a")) ≡
    of_first twenty
unfolding next_size
an_older_page_still_answers = refl

-- ---- the oldest page expires

-- four more points, of which the last rotates
abbrev pub nine_points : List Addition
nine_points = five_points ++ add_points (codes "fghi") (of_first (at 41 0)) (at 40 0)

pub an_expired_page_is_dropped :
    state_after usual nine_points
    ≡ record {
      floor = twenty;
      pages = page (at 41 0) (marks_at (codes "i") (of_first (at 41 0)))
          ∷ page twenty (marks_at (codes "e") (of_first twenty) ++
          marks_at (codes "fgh") (of_first (at 41 0)))
          ∷ [];
      rotations = 2;
    }
unfolding next_size
an_expired_page_is_dropped = refl

pub the_ninth_point_drops_a_page :
    answers usual nine_points
    ≡ added true false 0 ∷ added true false 0 ∷ added true false 0 ∷ added true false 0 ∷
    added true true 0
    ∷ added true false 0 ∷ added true false 0 ∷ added true false 0 ∷ added true true 1 ∷ []
unfolding next_size
the_ninth_point_drops_a_page = refl

pub two_pages_stay_after_a_drop : length (state_after usual nine_points).pages ≡ 2
unfolding next_size
two_pages_stay_after_a_drop = refl

pub a_dropped_mark_answers_the_floor : look (state_after usual nine_points) (point (codes "a")) ≡
    unowned twenty
unfolding next_size
a_dropped_mark_answers_the_floor = refl

pub a_mark_at_the_floor_has_no_owner : look (state_after usual nine_points) (point (codes "e")) ≡
    unowned twenty
unfolding next_size
a_mark_at_the_floor_has_no_owner = refl

pub a_mark_above_the_floor_has_its_owner : look (state_after usual nine_points) (point (codes "f"))
    ≡ of_first (at 41 0)
unfolding next_size
a_mark_above_the_floor_has_its_owner = refl

-- ---- a top that equals the limit

-- eight points, of which the first five lie at the limit that the next moment sets
abbrev pub points_at_the_limit : List Addition
points_at_the_limit =
    add_points (codes "abcde") (of_first (at 30 0)) twenty ++
    add_points (codes "fgh") (of_first (at 41 0)) (at 40 0)

abbrev pub rotated_at_the_limit : List Addition
rotated_at_the_limit = points_at_the_limit ++ add_points (codes "i") (of_first (at 41 0)) (at 40 0)

pub a_top_at_the_limit_is_kept :
    state_after usual rotated_at_the_limit
    ≡ record {
      floor = at 5 0;
      pages = page (at 41 0) (marks_at (codes "i") (of_first (at 41 0)))
          ∷ page (at 30 0) (marks_at (codes "e") (of_first (at 30 0)) ++
          marks_at (codes "fgh") (of_first (at 41 0)))
          ∷ page zero_time (marks_at (codes "abcd") (of_first (at 30 0)))
          ∷ [];
      rotations = 2;
    }
unfolding next_size
a_top_at_the_limit_is_kept = refl

pub a_rotation_at_the_limit_drops_nothing :
    answers usual rotated_at_the_limit
    ≡ added true false 0 ∷ added true false 0 ∷ added true false 0 ∷ added true false 0 ∷
    added true true 0
    ∷ added true false 0 ∷ added true false 0 ∷ added true false 0 ∷ added true true 0 ∷ []
unfolding next_size
a_rotation_at_the_limit_drops_nothing = refl

pub three_pages_stay_at_the_limit : length (state_after usual rotated_at_the_limit).pages ≡ 3
unfolding next_size
three_pages_stay_at_the_limit = refl

pub a_page_at_the_limit_still_answers : look (state_after usual rotated_at_the_limit)
    (point (codes "a")) ≡ of_first (at 30 0)
unfolding next_size
a_page_at_the_limit_still_answers = refl

-- ---- a top one logical count below the limit

abbrev pub rotated_above_the_limit : List Addition
rotated_above_the_limit = points_at_the_limit ++
    add_points (codes "i") (of_first (at 41 0)) (at 40 1)

pub a_top_one_logical_count_below_the_limit_is_dropped :
    state_after usual rotated_above_the_limit
    ≡ record {
      floor = at 30 0;
      pages = page (at 41 0) (marks_at (codes "i") (of_first (at 41 0)))
          ∷ page (at 30 0) (marks_at (codes "e") (of_first (at 30 0)) ++
          marks_at (codes "fgh") (of_first (at 41 0)))
          ∷ [];
      rotations = 2;
    }
unfolding next_size
a_top_one_logical_count_below_the_limit_is_dropped = refl

pub a_logical_count_of_the_moment_counts :
    answers usual rotated_above_the_limit
    ≡ added true false 0 ∷ added true false 0 ∷ added true false 0 ∷ added true false 0 ∷
    added true true 0
    ∷ added true false 0 ∷ added true false 0 ∷ added true false 0 ∷ added true true 1 ∷ []
unfolding next_size
a_logical_count_of_the_moment_counts = refl

pub two_pages_stay_above_the_limit : length (state_after usual rotated_above_the_limit).pages ≡ 2
unfolding next_size
two_pages_stay_above_the_limit = refl

pub what_was_at_the_limit_is_the_floor : look (state_after usual rotated_above_the_limit)
    (point (codes "a")) ≡ unowned (at 30 0)
unfolding next_size
what_was_at_the_limit_is_the_floor = refl

-- ---- a moment before the retention has passed

abbrev pub rotated_at_an_early_moment : List Addition
rotated_at_an_early_moment = add_points (codes "abcdefgh") (of_first twenty) twenty ++
    add_points (codes "i") (of_first twenty) (at 9 0)

pub before_the_retention_has_passed_no_page_expires :
    state_after usual rotated_at_an_early_moment
    ≡ record {
      floor = at 5 0;
      pages = page twenty (marks_at (codes "i") (of_first twenty))
          ∷ page twenty (marks_at (codes "efgh") (of_first twenty))
          ∷ page zero_time (marks_at (codes "abcd") (of_first twenty))
          ∷ [];
      rotations = 2;
    }
unfolding next_size
before_the_retention_has_passed_no_page_expires = refl

pub a_rotation_at_an_early_moment_drops_nothing :
    answers usual rotated_at_an_early_moment
    ≡ added true false 0 ∷ added true false 0 ∷ added true false 0 ∷ added true false 0 ∷
    added true true 0
    ∷ added true false 0 ∷ added true false 0 ∷ added true false 0 ∷ added true true 0 ∷ []
unfolding next_size
a_rotation_at_an_early_moment_drops_nothing = refl

pub three_pages_stay_at_an_early_moment : length
    (state_after usual rotated_at_an_early_moment).pages ≡ 3
unfolding next_size
three_pages_stay_at_an_early_moment = refl

-- ---- a moment that goes back, and a page whose base is its top

-- a page of late marks, and above it a page of early ones
abbrev pub early_marks_over_late_ones : List Addition
early_marks_over_late_ones = add_points (codes "abcd") (of_first (at 50 0)) twenty ++
    add_points (codes "efgh") (of_first twenty) twenty

pub a_new_page_has_the_top_of_the_old_one_as_base :
    state_after usual early_marks_over_late_ones
    ≡ record {
      floor = at 5 0;
      pages = page (at 50 0) (marks_at (codes "efgh") (of_first twenty))
          ∷ page zero_time (marks_at (codes "abcd") (of_first (at 50 0)))
          ∷ [];
      rotations = 1;
    }
unfolding next_size
a_new_page_has_the_top_of_the_old_one_as_base = refl

pub an_earlier_mark_rotates_too :
    answers usual early_marks_over_late_ones
    ≡ added true false 0 ∷ added true false 0 ∷ added true false 0 ∷ added true false 0 ∷
    added true true 0
    ∷ added true false 0 ∷ added true false 0 ∷ added true false 0 ∷ []
unfolding next_size
an_earlier_mark_rotates_too = refl

pub two_pages_of_late_and_early_marks : length
    (state_after usual early_marks_over_late_ones).pages ≡ 2
unfolding next_size
two_pages_of_late_and_early_marks = refl

-- a point at a moment so late that the oldest page goes
abbrev pub late_page_dropped : List Addition
late_page_dropped = early_marks_over_late_ones ++
    add_points (codes "i") (of_first (at 60 0)) (at 80 0)

pub the_floor_rises_to_the_dropped_top :
    state_after usual late_page_dropped
    ≡ record {
      floor = at 50 0;
      pages = page (at 50 0) (marks_at (codes "i") (of_first (at 60 0)))
          ∷ page (at 50 0) (marks_at (codes "efgh") (of_first twenty))
          ∷ [];
      rotations = 2;
    }
unfolding next_size
the_floor_rises_to_the_dropped_top = refl

pub a_late_moment_drops_a_page :
    answers usual late_page_dropped
    ≡ added true false 0 ∷ added true false 0 ∷ added true false 0 ∷ added true false 0 ∷
    added true true 0
    ∷ added true false 0 ∷ added true false 0 ∷ added true false 0 ∷ added true true 1 ∷ []
unfolding next_size
a_late_moment_drops_a_page = refl

pub two_pages_stay_at_a_late_moment : length (state_after usual late_page_dropped).pages ≡ 2
unfolding next_size
two_pages_stay_at_a_late_moment = refl

-- the front page filled, and then a point at an earlier moment
abbrev pub moment_gone_back : List Addition
moment_gone_back =
    late_page_dropped ++ add_points (codes "jkl") (of_first (at 60 0)) (at 80 0) ++
    add_points (codes "m") (of_first (at 60 0)) (at 40 0)

pub a_page_is_kept_for_its_base :
    state_after usual moment_gone_back
    ≡ record {
      floor = at 50 0;
      pages = page (at 60 0) (marks_at (codes "m") (of_first (at 60 0)))
          ∷ page (at 50 0) (marks_at (codes "ijkl") (of_first (at 60 0)))
          ∷ page (at 50 0) (marks_at (codes "efgh") (of_first twenty))
          ∷ [];
      rotations = 3;
    }
unfolding next_size
a_page_is_kept_for_its_base = refl

pub a_moment_that_goes_back_drops_nothing :
    answers usual moment_gone_back
    ≡ added true false 0 ∷ added true false 0 ∷ added true false 0 ∷ added true false 0 ∷
    added true true 0
    ∷ added true false 0 ∷ added true false 0 ∷ added true false 0 ∷ added true true 1
    ∷ added true false 0 ∷ added true false 0 ∷ added true false 0 ∷ added true true 0 ∷ []
unfolding next_size
a_moment_that_goes_back_drops_nothing = refl

pub three_pages_stay_when_the_moment_goes_back : length
    (state_after usual moment_gone_back).pages ≡ 3
unfolding next_size
three_pages_stay_when_the_moment_goes_back = refl

pub a_mark_below_the_floor_answers_the_floor : look (state_after usual moment_gone_back)
    (point (codes "e")) ≡ unowned (at 50 0)
unfolding next_size
a_mark_below_the_floor_answers_the_floor = refl

-- ---- marks of several pages in one answer

abbrev pub marks_on_three_pages : List Addition
marks_on_three_pages = early_marks_over_late_ones ++
    add_points (codes "i") (of_first (at 30 0)) twenty

pub a_page_with_a_late_top_is_kept :
    state_after usual marks_on_three_pages
    ≡ record {
      floor = at 5 0;
      pages = page (at 50 0) (marks_at (codes "i") (of_first (at 30 0)))
          ∷ page (at 50 0) (marks_at (codes "efgh") (of_first twenty))
          ∷ page zero_time (marks_at (codes "abcd") (of_first (at 50 0)))
          ∷ [];
      rotations = 2;
    }
unfolding next_size
a_page_with_a_late_top_is_kept = refl

pub a_late_top_drops_nothing :
    answers usual marks_on_three_pages
    ≡ added true false 0 ∷ added true false 0 ∷ added true false 0 ∷ added true false 0 ∷
    added true true 0
    ∷ added true false 0 ∷ added true false 0 ∷ added true false 0 ∷ added true true 0 ∷ []
unfolding next_size
a_late_top_drops_nothing = refl

pub three_pages_stay_with_a_late_top : length (state_after usual marks_on_three_pages).pages ≡ 3
unfolding next_size
three_pages_stay_with_a_late_top = refl

pub the_oldest_page_can_hold_the_greatest_time :
    look (state_after usual marks_on_three_pages) (without_end (codes "a") (codes "z")) ≡
    of_first (at 50 0)
unfolding next_size
the_oldest_page_can_hold_the_greatest_time = refl

pub a_base_is_not_an_answer : look (state_after usual marks_on_three_pages)
    (without_end (codes "e") (codes "z")) ≡ of_first (at 30 0)
unfolding next_size
a_base_is_not_an_answer = refl

-- ---- the front page itself is dropped

abbrev pub only_page_dropped : List Addition
only_page_dropped = add_points (codes "ab") (of_first twenty) twenty ++
    add_points (codes "c") (of_first (at 40 0)) (at 40 0)

pub the_only_page_can_be_dropped :
    state_after tight only_page_dropped
    ≡ record {
      floor = twenty;
      pages = small_page twenty (marks_at (codes "c") (of_first (at 40 0)))
          ∷ [];
      rotations = 1;
    }
unfolding next_size
the_only_page_can_be_dropped = refl

pub the_third_point_drops_the_only_page :
    answers tight only_page_dropped ≡ added true false 0 ∷ added true false 0 ∷
    added true true 1 ∷ []
unfolding next_size
the_third_point_drops_the_only_page = refl

pub one_page_stays_of_one : length (state_after tight only_page_dropped).pages ≡ 1
unfolding next_size
one_page_stays_of_one = refl

pub a_mark_of_the_dropped_page_answers_the_floor : look (state_after tight only_page_dropped)
    (point (codes "a")) ≡ unowned twenty
unfolding next_size
a_mark_of_the_dropped_page_answers_the_floor = refl

pub the_mark_that_rotated_is_answered : look (state_after tight only_page_dropped)
    (point (codes "c")) ≡ of_first (at 40 0)
unfolding next_size
the_mark_that_rotated_is_answered = refl

-- ---- a mark that the rotation leaves below the floor

abbrev pub overtaken_by_the_floor : List Addition
overtaken_by_the_floor = add_points (codes "ab") (of_first twenty) twenty ++
    add_points (codes "c") (of_first (at 15 0)) (at 40 0)

pub the_floor_is_not_compared_again :
    state_after tight overtaken_by_the_floor
    ≡ record {
      floor = twenty;
      pages = small_page twenty (marks_at (codes "c") (of_first (at 15 0)))
          ∷ [];
      rotations = 1;
    }
unfolding next_size
the_floor_is_not_compared_again = refl

pub a_mark_overtaken_by_the_floor_is_kept :
    answers tight overtaken_by_the_floor ≡ added true false 0 ∷ added true false 0 ∷
    added true true 1 ∷ []
unfolding next_size
a_mark_overtaken_by_the_floor_is_kept = refl

pub one_page_stays_with_an_overtaken_mark : length
    (state_after tight overtaken_by_the_floor).pages ≡ 1
unfolding next_size
one_page_stays_with_an_overtaken_mark = refl

pub an_overtaken_mark_answers_the_floor : look (state_after tight overtaken_by_the_floor)
    (point (codes "c")) ≡ unowned twenty
unfolding next_size
an_overtaken_mark_answers_the_floor = refl

-- ---- the count of rotations

-- a full page, after so many rotations
abbrev pub full_after : ℕ → CacheState
full_after rotations = record {
  floor = at 5 0;
  pages = page zero_time (marks_at (codes "abcd") (of_first twenty)) ∷ [];
  rotations = rotations;
}

pub a_rotation_is_counted : (rotate usual (full_after (2 ^ 64 - 2)) (point (codes "e"))
    twenty).state.rotations ≡ 2 ^ 64 - 1
unfolding next_size
a_rotation_is_counted = refl

pub the_count_of_rotations_stays_at_its_end :
    (rotate usual (full_after (2 ^ 64 - 1)) (point (codes "e")) twenty).state.rotations ≡ 2 ^ 64 - 1
unfolding next_size
the_count_of_rotations_stays_at_its_end = refl
