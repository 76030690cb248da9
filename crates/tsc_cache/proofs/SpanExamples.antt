-- Which spans a mark covers: excluded ends, equal ends, and spans without an end.
use Rattle.std.specs.Prelude.{◌≡◌, List, [], ◌∷◌, length, Bool, true, false, Some, None, codes, refl}
use Rattle.tsc_time.specs.Time.{zero_time}
use Rattle.tsc_time.specs.ValueView.{unowned}
use Rattle.tsc_span.specs.Span.{KeyBytes, nothing, between, before, after, last, point, onward, range, range_for_lookup, start_to_end}
use Rattle.tsc_cache.specs.State.{look}
use Rattle.tsc_cache.proofs.ExampleConfig.{at, of_first, usual, twenty, without_end, without_ends, with_ends, mark, page, Addition, add, state_after, answers, added}

-- ---- both ends excluded

abbrev pub inner_range : List Addition
inner_range = add (without_ends (codes "a") (codes "c")) (of_first twenty) twenty ∷ []

pub an_inner_range_runs_from_after_its_start_to_before_its_end :
    state_after usual inner_range
    ≡ record {
      floor = at 5 0;
      pages = page zero_time (mark (between (after (codes "a")) (before (codes "c")))
          (of_first twenty) ∷ []) ∷ [];
      rotations = 0;
    }
an_inner_range_runs_from_after_its_start_to_before_its_end = refl

pub an_inner_range_is_kept : answers usual inner_range ≡ added true false 0 ∷ []
an_inner_range_is_kept = refl

pub an_inner_range_leaves_one_page : length (state_after usual inner_range).pages ≡ 1
an_inner_range_leaves_one_page = refl

pub an_excluded_start_is_not_covered : look (state_after usual inner_range) (point (codes "a")) ≡
    unowned (at 5 0)
an_excluded_start_is_not_covered = refl

pub a_key_between_excluded_ends_is_covered : look (state_after usual inner_range)
    (point (codes "b")) ≡ of_first twenty
a_key_between_excluded_ends_is_covered = refl

pub both_ends_excluded_do_not_cover_the_end : look (state_after usual inner_range)
    (point (codes "c")) ≡ unowned (at 5 0)
both_ends_excluded_do_not_cover_the_end = refl

-- ---- a span that holds no key, and is not empty

-- `a` with a zero byte behind it, the next key after `a`
abbrev pub next_after_a : KeyBytes
next_after_a = 97 ∷ 0 ∷ []

abbrev pub gap_without_keys : List Addition
gap_without_keys = add (without_ends (codes "a") next_after_a) (of_first twenty) twenty ∷ []

pub a_gap_without_keys_is_one_mark :
    state_after usual gap_without_keys
    ≡ record {
      floor = at 5 0;
      pages = page zero_time (mark (between (after (codes "a")) (before next_after_a))
          (of_first twenty) ∷ []) ∷ [];
      rotations = 0;
    }
a_gap_without_keys_is_one_mark = refl

pub a_gap_without_keys_is_kept : answers usual gap_without_keys ≡ added true false 0 ∷ []
a_gap_without_keys_is_kept = refl

pub a_gap_without_keys_leaves_one_page : length (state_after usual gap_without_keys).pages ≡ 1
a_gap_without_keys_leaves_one_page = refl

pub a_gap_without_keys_overlaps_itself : look (state_after usual gap_without_keys)
    (without_ends (codes "a") next_after_a) ≡ of_first twenty
a_gap_without_keys_overlaps_itself = refl

pub a_gap_does_not_cover_the_key_below_it : look (state_after usual gap_without_keys)
    (point (codes "a")) ≡ unowned (at 5 0)
a_gap_does_not_cover_the_key_below_it = refl

pub a_gap_does_not_cover_the_key_above_it : look (state_after usual gap_without_keys)
    (point next_after_a) ≡ unowned (at 5 0)
a_gap_does_not_cover_the_key_above_it = refl

pub a_span_round_a_gap_overlaps_it : look (state_after usual gap_without_keys)
    (with_ends (codes "a") next_after_a) ≡ of_first twenty
a_span_round_a_gap_overlaps_it = refl

-- ---- equal ends

pub equal_ends_with_one_excluded_are_the_key : range (codes "a") (codes "a") false true ≡
    Some (point (codes "a"))
equal_ends_with_one_excluded_are_the_key = refl

pub equal_ends_both_excluded_are_nothing : range (codes "a") (codes "a") true true ≡ Some nothing
equal_ends_both_excluded_are_nothing = refl

abbrev pub equal_ends : List Addition
equal_ends = add (without_end (codes "a") (codes "a")) (of_first twenty) twenty ∷ []

pub equal_ends_mark_the_single_key :
    state_after usual equal_ends
    ≡ record {
      floor = at 5 0;
      pages =
          page zero_time (mark (point (codes "a")) (of_first twenty) ∷ []) ∷ [];
      rotations = 0;
    }
equal_ends_mark_the_single_key = refl

pub equal_ends_are_kept : answers usual equal_ends ≡ added true false 0 ∷ []
equal_ends_are_kept = refl

pub equal_ends_leave_one_page : length (state_after usual equal_ends).pages ≡ 1
equal_ends_leave_one_page = refl

pub equal_ends_cover_their_key : look (state_after usual equal_ends) (point (codes "a")) ≡
    of_first twenty
equal_ends_cover_their_key = refl

pub nothing_overlaps_no_mark : look (state_after usual equal_ends)
    (without_ends (codes "a") (codes "a")) ≡ unowned (at 5 0)
nothing_overlaps_no_mark = refl

-- ---- the empty span

abbrev pub empty_span : List Addition
empty_span = add (without_ends (codes "a") (codes "a")) (of_first twenty) twenty ∷ []

pub an_add_of_the_empty_span_changes_nothing :
    state_after usual empty_span ≡
    record { floor = at 5 0; pages = page zero_time [] ∷ []; rotations = 0 }
an_add_of_the_empty_span_changes_nothing = refl

pub an_add_of_the_empty_span_is_not_kept : answers usual empty_span ≡ added false false 0 ∷ []
an_add_of_the_empty_span_is_not_kept = refl

pub an_add_of_the_empty_span_leaves_one_page : length (state_after usual empty_span).pages ≡ 1
an_add_of_the_empty_span_leaves_one_page = refl

pub an_add_of_the_empty_span_covers_no_key : look (state_after usual empty_span) (point (codes "a"))
    ≡ unowned (at 5 0)
an_add_of_the_empty_span_covers_no_key = refl

-- ---- no end

abbrev pub from_m_on : List Addition
from_m_on = add (onward (codes "m") false) (of_first twenty) twenty ∷ []

pub a_span_without_end_runs_to_the_last_cut :
    state_after usual from_m_on
    ≡ record {
      floor = at 5 0;
      pages =
          page zero_time (mark (between (before (codes "m")) last) (of_first twenty) ∷ []) ∷ [];
      rotations = 0;
    }
a_span_without_end_runs_to_the_last_cut = refl

pub a_span_without_end_is_kept : answers usual from_m_on ≡ added true false 0 ∷ []
a_span_without_end_is_kept = refl

pub a_span_without_end_leaves_one_page : length (state_after usual from_m_on).pages ≡ 1
a_span_without_end_leaves_one_page = refl

pub a_span_without_end_covers_the_greatest_byte : look (state_after usual from_m_on)
    (point (255 ∷ [])) ≡ of_first twenty
a_span_without_end_covers_the_greatest_byte = refl

pub a_span_without_end_covers_its_start : look (state_after usual from_m_on) (point (codes "m")) ≡
    of_first twenty
a_span_without_end_covers_its_start = refl

pub a_span_without_end_covers_nothing_below : look (state_after usual from_m_on) (point (codes "l"))
    ≡ unowned (at 5 0)
a_span_without_end_covers_nothing_below = refl

pub two_spans_without_end_overlap : look (state_after usual from_m_on) (onward (codes "z") false) ≡
    of_first twenty
two_spans_without_end_overlap = refl

-- ---- inverted keys, and the ends as callers of the cache name them

pub an_inverted_range_is_none : (from_excluded to_excluded : Bool) →
    range (codes "c") (codes "a") from_excluded to_excluded ≡ None
an_inverted_range_is_none from_excluded to_excluded = refl

pub an_inverted_lookup_is_nothing : (from_excluded to_excluded : Bool) →
    range_for_lookup (codes "c") (codes "a") from_excluded to_excluded ≡ nothing
an_inverted_lookup_is_nothing from_excluded to_excluded = refl

pub an_inverted_lookup_answers_the_floor : look (state_after usual [])
    (range_for_lookup (codes "c") (codes "a") false false) ≡ unowned (at 5 0)
an_inverted_lookup_answers_the_floor = refl

pub an_empty_end_makes_the_single_start : start_to_end (codes "a") [] ≡ Some (point (codes "a"))
an_empty_end_makes_the_single_start = refl

pub any_other_end_is_excluded : start_to_end (codes "a") (codes "c") ≡
    Some (between (before (codes "a")) (before (codes "c")))
any_other_end_is_excluded = refl
