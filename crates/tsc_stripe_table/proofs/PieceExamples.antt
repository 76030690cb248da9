-- Examples of what lies of spans and of entries in stripes.
use Rattle.std.specs.Prelude.{◌≡◌, List, [], ◌∷◌, false, codes, refl}
use Rattle.tsc_time.specs.Time.{zero_time}
use Rattle.tsc_time.specs.ValueView.{unowned}
use Rattle.tsc_span.specs.Span.{KeyBytes, before, after, last, nothing, between, point, onward}
use Rattle.tsc_cache.specs.declared.history.Entry.{Entry}
use Rattle.tsc_stripe_table.specs.Stripes.{piece_of, entry_in}

-- two stripes: below `m`, and from `m` on
abbrev pub below_m_and_on : List KeyBytes
below_m_and_on = codes "m" ∷ []

pub a_key_at_a_bound_lies_above_it : piece_of below_m_and_on 1 (point (codes "m"))
    ≡ point (codes "m")
a_key_at_a_bound_lies_above_it = refl

pub a_key_at_a_bound_does_not_lie_below_it : piece_of below_m_and_on 0 (point (codes "m"))
    ≡ nothing
a_key_at_a_bound_does_not_lie_below_it = refl

pub a_span_over_a_bound_is_cut_below_it :
    piece_of below_m_and_on 0 (between (before (codes "a")) (after (codes "z")))
    ≡ between (before (codes "a")) (before (codes "m"))
a_span_over_a_bound_is_cut_below_it = refl

pub a_span_over_a_bound_is_cut_above_it :
    piece_of below_m_and_on 1 (between (after (codes "a")) (after (codes "z")))
    ≡ between (before (codes "m")) (after (codes "z"))
a_span_over_a_bound_is_cut_above_it = refl

pub a_span_up_to_a_bound_lies_below_it :
    piece_of below_m_and_on 1 (between (before (codes "a")) (before (codes "m"))) ≡ nothing
a_span_up_to_a_bound_lies_below_it = refl

pub a_span_without_end_lies_in_the_last_stripe :
    piece_of below_m_and_on 1 (onward (codes "z") false) ≡ between (before (codes "z")) last
a_span_without_end_lies_in_the_last_stripe = refl

pub nothing_lies_in_a_stripe_that_there_is_not :
    piece_of below_m_and_on 2 (point (codes "z")) ≡ nothing
nothing_lies_in_a_stripe_that_there_is_not = refl

pub without_bounds_all_lies_in_one_stripe : piece_of [] 0 (onward [] false) ≡ onward [] false
without_bounds_all_lies_in_one_stripe = refl

-- an Add of `a`
abbrev pub add_of_a : Entry
add_of_a = record {
  seat = 0;
  number = 0;
  marks = record { span = point (codes "a"); value = unowned zero_time } ∷ [];
  now = zero_time;
}

pub an_entry_lies_in_the_stripe_of_its_key : entry_in below_m_and_on 0 add_of_a ≡ add_of_a ∷ []
unfolding entry_in
an_entry_lies_in_the_stripe_of_its_key = refl

pub an_entry_lies_in_no_other_stripe : entry_in below_m_and_on 1 add_of_a ≡ []
unfolding entry_in
an_entry_lies_in_no_other_stripe = refl
