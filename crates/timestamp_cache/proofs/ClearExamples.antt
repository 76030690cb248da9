-- Which writes are clear of a read, and of what a lookup answers, and the earliest time for them.
use Rattle.std.proofs.Common.{◌≡◌, ◌∙◌, refl, sym, true, false, true≢false, List, [], ◌∷◌, codes, Some, None}
use Rattle.tsc_time.specs.Time.{Time, is_before}
use Rattle.tsc_time.specs.ValueView.{Owner, ValueView, unowned}
use Rattle.tsc_span.specs.Span.{point}
use Rattle.tsc_cache.specs.State.{look}
use Rattle.tsc_cache.proofs.ExampleConfig.{at, first, of_first, of_second, usual, twenty, Addition, add, state_after}
use Rattle.timestamp_cache.specs.Clear.{IsClearOf}
use Rattle.timestamp_cache.specs.Earliest.{ReportsEarliest}
use Rattle.timestamp_cache.proofs.Deciding.{is_owned_by, is_owned_by-Decides, is_clear, is_clear-Decides}
use Rattle.timestamp_cache.proofs.Earliest.{next_count, next_wall, next_none, earliest_now, clear_at_own, clear_behind}

-- what the test tells of each row
clear_by : (read : ValueView) (by : Owner) (t : Time) → is_clear read by t ≡ true →
    IsClearOf read by t
clear_by read by t e = (is_clear-Decides read by t).0 e

not_clear_by : (read : ValueView) (by : Owner) (t : Time) → is_clear read by t ≡ false →
    IsClearOf read by t → ⊥
not_clear_by read by t e clear = true≢false (sym ((is_clear-Decides read by t).1 clear) ∙ e)

strange_by : (read : ValueView) (by : Owner) → is_owned_by read.owner by ≡ false →
    read.owner ≡ Some by → ⊥
strange_by read by e own = true≢false (sym ((is_owned_by-Decides read.owner by).1 own) ∙ e)

-- ---- one read

pub a_later_write_is_clear : IsClearOf (of_second twenty) first (at 20 1)
a_later_write_is_clear = clear_by _ _ _ refl

pub a_write_at_the_time_of_a_strangers_read_is_not : IsClearOf (of_second twenty) first twenty → ⊥
a_write_at_the_time_of_a_strangers_read_is_not = not_clear_by _ _ _ refl

pub a_write_at_the_time_of_an_own_read_is_clear : IsClearOf (of_first twenty) first twenty
a_write_at_the_time_of_an_own_read_is_clear = clear_by _ _ _ refl

pub a_write_before_an_own_read_is_not : IsClearOf (of_first twenty) first (at 19 9) → ⊥
a_write_before_an_own_read_is_not = not_clear_by _ _ _ refl

pub a_write_at_the_time_of_a_read_of_nobody_is_not : IsClearOf (unowned twenty) first twenty → ⊥
a_write_at_the_time_of_a_read_of_nobody_is_not = not_clear_by _ _ _ refl

-- ---- why a later own read is not passed over

abbrev pub own_behind_another : List Addition
own_behind_another = add (point (codes "a")) (of_second (at 15 0)) (at 15 0) ∷
    add (point (codes "a")) (of_first twenty) twenty ∷ []

pub the_answer_is_the_own_read : look (state_after usual own_behind_another) (point (codes "a")) ≡
    of_first twenty
the_answer_is_the_own_read = refl

pub but_the_write_lies_before_a_strangers : IsClearOf (of_second (at 15 0)) first (at 10 0) → ⊥
but_the_write_lies_before_a_strangers = not_clear_by _ _ _ refl

-- ---- the next time

pub one_count_more : ReportsEarliest (λ t. is_before twenty t ≡ true) twenty (Some (at 20 1))
one_count_more = next_count twenty refl

pub the_next_nanosecond : ReportsEarliest (λ t. is_before (at 20 2147483647) t ≡ true)
    (at 20 2147483647) (Some (at 21 0))
the_next_nanosecond = next_wall (at 20 2147483647) refl refl refl

pub none_behind_the_last : ReportsEarliest
    (λ t. is_before (at 9223372036854775807 2147483647) t ≡ true)
    (at 9223372036854775807 2147483647) None
none_behind_the_last = next_none (at 9223372036854775807 2147483647) refl refl refl

-- ---- the earliest time for a write

pub where_it_is_clear_it_stays : ReportsEarliest (λ t. IsClearOf (of_second twenty) first t)
    (at 20 1) (Some (at 20 1))
where_it_is_clear_it_stays = earliest_now (λ t. IsClearOf (of_second twenty) first t) (at 20 1) refl
    a_later_write_is_clear

pub a_stranger_pushes_it_behind : ReportsEarliest (λ t. IsClearOf (of_second twenty) first t)
    (at 10 0) (Some (at 20 1))
a_stranger_pushes_it_behind = clear_behind (of_second twenty) first (at 10 0) (at 20 1)
    (strange_by (of_second twenty) first refl)
    (not_clear_by (of_second twenty) first (at 10 0) refl) one_count_more

pub an_own_read_takes_it_along : ReportsEarliest (λ t. IsClearOf (of_first twenty) first t)
    (at 10 0) (Some twenty)
an_own_read_takes_it_along = clear_at_own (of_first twenty) first (at 10 0) refl refl
    (not_clear_by (of_first twenty) first (at 10 0) refl)
