-- Marks that are added together: what they answer, and what they leave.
use Rattle.std.specs.Prelude.{◌≡◌, List, [], ◌∷◌, ◌++◌, length, true, false, codes, replicate, refl}
use Rattle.tsc_time.specs.ValueView.{unowned}
use Rattle.tsc_span.specs.Span.{point}
use Rattle.tsc_page_model.specs.Page.{Mark}
use Rattle.tsc_cache.specs.Rotation.{next_size}
use Rattle.tsc_cache.specs.ConfigView.{ConfigView}
use Rattle.tsc_cache.specs.State.{Stepped, opening, step_all, look}
use Rattle.tsc_cache.specs.Batch.{all_fit, is_any_kept}
use Rattle.tsc_cache.proofs.ExampleConfig.{at, of_first, of_second, usual, tight, twenty, without_end, without_ends, mark, marks_at, small_page, added}

-- what marks make of a new cache
abbrev pub made_of : ConfigView → List Mark → Stepped
made_of config ms = step_all config (opening config) ms twenty

-- ---- on one page

-- two points with an owner each, and a range over both
abbrev pub three_marks : List Mark
three_marks =
    mark (point (codes "a")) (of_first twenty)
    ∷ mark (point (codes "b")) (of_second twenty)
    ∷ mark (without_end (codes "a") (codes "c")) (of_second twenty)
    ∷ []

pub three_marks_are_kept : (made_of usual three_marks).added ≡ added true false 0
three_marks_are_kept = refl

pub two_owners_at_one_time_are_none : look (made_of usual three_marks).state (point (codes "a")) ≡
    unowned twenty
two_owners_at_one_time_are_none = refl

pub the_same_owner_stays : look (made_of usual three_marks).state (point (codes "b")) ≡
    of_second twenty
the_same_owner_stays = refl

pub where_the_range_ends_nothing_was_added : look (made_of usual three_marks).state
    (point (codes "c")) ≡ unowned (at 5 0)
where_the_range_ends_nothing_was_added = refl

-- ---- a fifth key on a page of four

pub one_rotation_is_reported : (made_of usual (marks_at (codes "abcde") (of_first twenty))).added ≡
    added true true 0
unfolding next_size
one_rotation_is_reported = refl

pub they_stand_on_two_pages : length
    (made_of usual (marks_at (codes "abcde") (of_first twenty))).state.pages ≡ 2
unfolding next_size
they_stand_on_two_pages = refl

-- ---- none kept

pub no_marks_change_nothing : made_of usual [] ≡
    record { state = opening usual; added = added false false 0 }
no_marks_change_nothing = refl

-- one at the floor, and one of no span
abbrev pub none_kept : List Mark
none_kept = mark (point (codes "a")) (of_first (at 5 0)) ∷
    mark (without_ends (codes "a") (codes "a")) (of_first twenty) ∷ []

pub the_floor_keeps_none : is_any_kept (at 5 0) none_kept ≡ false
the_floor_keeps_none = refl

pub none_kept_change_nothing : made_of usual none_kept ≡
    record { state = opening usual; added = added false false 0 }
none_kept_change_nothing = refl

-- ---- a page that the marks themselves filled is dropped

-- the third comes late, and finds the page of the other two past its retention
abbrev pub late_third : List Mark
late_third = marks_at (codes "ab") (of_first twenty) ++ marks_at (codes "c") (of_first (at 40 0))

pub the_filled_page_is_dropped :
    step_all tight (opening tight) late_third (at 40 0)
    ≡ record {
      state = record {
        floor = twenty;
        pages = small_page twenty (marks_at (codes "c") (of_first (at 40 0))) ∷ [];
        rotations = 1;
      };
      added = added true true 1;
    }
unfolding next_size
the_filled_page_is_dropped = refl

pub its_marks_answer_the_floor : look (step_all tight (opening tight) late_third (at 40 0)).state
    (point (codes "a")) ≡ unowned twenty
unfolding next_size
its_marks_answer_the_floor = refl

pub the_third_mark_answers : look (step_all tight (opening tight) late_third (at 40 0)).state
    (point (codes "c")) ≡ of_first (at 40 0)
unfolding next_size
the_third_mark_answers = refl

-- each rotation of a list counts: of five marks two and two share a page, and both of those are
-- dropped
pub two_pages_are_dropped :
    (step_all tight (opening tight)
    (marks_at (codes "ab") (of_first twenty) ++ marks_at (codes "cd") (of_first (at 25 0)) ++
    marks_at (codes "e") (of_first (at 40 0))) (at 40 0)).added
    ≡ added true true 2
unfolding next_size
two_pages_are_dropped = refl

-- ---- one that is too large

pub one_too_large_fits_not : all_fit usual
    (mark (point (codes "a")) (of_first twenty) ∷
    mark (point (replicate 101 97)) (of_first twenty) ∷ []) ≡ false
one_too_large_fits_not = refl

pub one_byte_less_fits : all_fit usual
    (mark (point (codes "a")) (of_first twenty) ∷
    mark (point (replicate 100 97)) (of_first twenty) ∷ []) ≡ true
one_byte_less_fits = refl
