-- How values come together in one cache: the later time wins, and two owners at one time leave
-- none.
use Rattle.std.specs.Prelude.{◌≡◌, List, [], ◌∷◌, length, true, false, codes, refl}
use Rattle.tsc_time.specs.Time.{zero_time}
use Rattle.tsc_time.specs.ValueView.{unowned}
use Rattle.tsc_span.specs.Span.{point}
use Rattle.tsc_cache.specs.State.{look}
use Rattle.tsc_cache.proofs.ExampleConfig.{at, of_first, of_second, usual, twenty, without_end, mark, page, Addition, add, state_after, answers, added}

-- ---- a new cache

pub a_new_cache_has_one_empty_page :
    state_after usual [] ≡ record { floor = at 5 0; pages = page zero_time [] ∷ []; rotations = 0 }
a_new_cache_has_one_empty_page = refl

pub a_new_cache_counts_one_page : length (state_after usual []).pages ≡ 1
a_new_cache_counts_one_page = refl

pub a_new_cache_answers_its_floor : look (state_after usual []) (point (codes "a")) ≡
    unowned (at 5 0)
a_new_cache_answers_its_floor = refl

-- ---- one range

abbrev pub one_range : List Addition
one_range = add (without_end (codes "a") (codes "c")) (of_first twenty) twenty ∷ []

pub one_range_is_one_mark :
    state_after usual one_range
    ≡ record {
      floor = at 5 0;
      pages =
          page zero_time (mark (without_end (codes "a") (codes "c")) (of_first twenty) ∷ []) ∷ [];
      rotations = 0;
    }
one_range_is_one_mark = refl

pub one_range_is_kept : answers usual one_range ≡ added true false 0 ∷ []
one_range_is_kept = refl

pub one_range_leaves_one_page : length (state_after usual one_range).pages ≡ 1
one_range_leaves_one_page = refl

pub an_included_start_is_covered : look (state_after usual one_range) (point (codes "a")) ≡
    of_first twenty
an_included_start_is_covered = refl

pub a_key_inside_is_covered : look (state_after usual one_range) (point (codes "b")) ≡
    of_first twenty
a_key_inside_is_covered = refl

pub an_excluded_end_is_not_covered : look (state_after usual one_range) (point (codes "c")) ≡
    unowned (at 5 0)
an_excluded_end_is_not_covered = refl

-- ---- two transactions at one key and one time

abbrev pub two_owners : List Addition
two_owners = add (point (codes "a")) (of_first twenty) twenty ∷
    add (point (codes "a")) (of_second twenty) twenty ∷ []

pub two_owners_are_two_marks :
    state_after usual two_owners
    ≡ record {
      floor = at 5 0;
      pages = page zero_time (mark (point (codes "a")) (of_first twenty) ∷
          mark (point (codes "a")) (of_second twenty) ∷ []) ∷ [];
      rotations = 0;
    }
two_owners_are_two_marks = refl

pub two_owners_are_kept : answers usual two_owners ≡ added true false 0 ∷ added true false 0 ∷ []
two_owners_are_kept = refl

pub two_owners_leave_one_page : length (state_after usual two_owners).pages ≡ 1
two_owners_leave_one_page = refl

pub two_owners_at_one_time_leave_none : look (state_after usual two_owners) (point (codes "a")) ≡
    unowned twenty
two_owners_at_one_time_leave_none = refl

-- ---- one transaction twice

abbrev pub same_owner_twice : List Addition
same_owner_twice = add (point (codes "a")) (of_first twenty) twenty ∷
    add (point (codes "a")) (of_first twenty) twenty ∷ []

pub same_owner_twice_is_two_marks :
    state_after usual same_owner_twice
    ≡ record {
      floor = at 5 0;
      pages = page zero_time (mark (point (codes "a")) (of_first twenty) ∷
          mark (point (codes "a")) (of_first twenty) ∷ []) ∷ [];
      rotations = 0;
    }
same_owner_twice_is_two_marks = refl

pub same_owner_twice_is_kept : answers usual same_owner_twice ≡ added true false 0 ∷
    added true false 0 ∷ []
same_owner_twice_is_kept = refl

pub same_owner_twice_leaves_one_page : length (state_after usual same_owner_twice).pages ≡ 1
same_owner_twice_leaves_one_page = refl

pub the_same_owner_twice_stays : look (state_after usual same_owner_twice) (point (codes "a")) ≡
    of_first twenty
the_same_owner_twice_stays = refl

-- ---- two ranges that share a key

abbrev pub ranges_that_meet : List Addition
ranges_that_meet =
    add (without_end (codes "a") (codes "c")) (of_first twenty) twenty
    ∷ add (without_end (codes "b") (codes "d")) (of_second twenty) twenty
    ∷ []

pub ranges_that_meet_are_two_marks :
    state_after usual ranges_that_meet
    ≡ record {
      floor = at 5 0;
      pages = page zero_time
          (mark (without_end (codes "a") (codes "c")) (of_first twenty) ∷
          mark (without_end (codes "b") (codes "d")) (of_second twenty) ∷ [])
          ∷ [];
      rotations = 0;
    }
ranges_that_meet_are_two_marks = refl

pub ranges_that_meet_are_kept : answers usual ranges_that_meet ≡ added true false 0 ∷
    added true false 0 ∷ []
ranges_that_meet_are_kept = refl

pub ranges_that_meet_leave_one_page : length (state_after usual ranges_that_meet).pages ≡ 1
ranges_that_meet_leave_one_page = refl

pub a_key_of_the_first_range_has_its_owner : look (state_after usual ranges_that_meet)
    (point (codes "a")) ≡ of_first twenty
a_key_of_the_first_range_has_its_owner = refl

pub a_key_of_both_ranges_has_no_owner : look (state_after usual ranges_that_meet)
    (point (codes "b")) ≡ unowned twenty
a_key_of_both_ranges_has_no_owner = refl

pub a_key_of_the_second_range_has_its_owner : look (state_after usual ranges_that_meet)
    (point (codes "c")) ≡ of_second twenty
a_key_of_the_second_range_has_its_owner = refl

pub a_span_over_both_ranges_has_no_owner :
    look (state_after usual ranges_that_meet) (without_end (codes "a") (codes "d")) ≡ unowned twenty
a_span_over_both_ranges_has_no_owner = refl

-- ---- a value without owner

abbrev pub unowned_then_owned : List Addition
unowned_then_owned = add (point (codes "a")) (unowned twenty) twenty ∷
    add (point (codes "a")) (of_first twenty) twenty ∷ []

pub unowned_then_owned_are_two_marks :
    state_after usual unowned_then_owned
    ≡ record {
      floor = at 5 0;
      pages = page zero_time (mark (point (codes "a")) (unowned twenty) ∷
          mark (point (codes "a")) (of_first twenty) ∷ []) ∷ [];
      rotations = 0;
    }
unowned_then_owned_are_two_marks = refl

pub unowned_then_owned_are_kept : answers usual unowned_then_owned ≡ added true false 0 ∷
    added true false 0 ∷ []
unowned_then_owned_are_kept = refl

pub unowned_then_owned_leave_one_page : length (state_after usual unowned_then_owned).pages ≡ 1
unowned_then_owned_leave_one_page = refl

pub an_owner_beside_none_leaves_none : look (state_after usual unowned_then_owned)
    (point (codes "a")) ≡ unowned twenty
an_owner_beside_none_leaves_none = refl

-- ---- at the floor, and one logical count above it

abbrev pub around_the_floor : List Addition
around_the_floor = add (point (codes "a")) (of_first (at 5 0)) twenty ∷
    add (point (codes "a")) (of_first (at 5 1)) twenty ∷ []

pub only_what_is_above_the_floor_is_a_mark :
    state_after usual around_the_floor
    ≡ record {
      floor = at 5 0;
      pages =
          page zero_time (mark (point (codes "a")) (of_first (at 5 1)) ∷ []) ∷ [];
      rotations = 0;
    }
only_what_is_above_the_floor_is_a_mark = refl

pub an_add_at_the_floor_is_not_kept : answers usual around_the_floor ≡ added false false 0 ∷
    added true false 0 ∷ []
an_add_at_the_floor_is_not_kept = refl

pub around_the_floor_leaves_one_page : length (state_after usual around_the_floor).pages ≡ 1
around_the_floor_leaves_one_page = refl

pub a_logical_count_above_the_floor_is_answered : look (state_after usual around_the_floor)
    (point (codes "a")) ≡ of_first (at 5 1)
a_logical_count_above_the_floor_is_answered = refl
