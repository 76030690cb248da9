-- Pages that grow: each new one is twice as large as the one before it, or larger where its first
-- span wants that.
use Rattle.std.specs.Prelude.{◌≡◌, ℕ, [], ◌∷◌, true, false, codes, refl, replicate}
use Rattle.tsc_span.specs.Span.{KeyBytes, point, span_cost, between, before, after}
use Rattle.tsc_cache.specs.Rotation.{next_size}
use Rattle.tsc_cache.specs.ConfigView.{ConfigView, fits}
use Rattle.tsc_cache.proofs.ExampleConfig.{at, of_first, twenty, Addition, add, add_points, state_after, answers, added}

-- pages of 66 bytes at first, and of 264 at the most
abbrev pub growing : ConfigView
growing = record {
  page_first = 66;
  page_max = 264;
  min_pages = 2;
  retention = 10;
  low_water = at 5 0;
}

-- a key of so many bytes `a`
abbrev pub long_key : ℕ → KeyBytes
long_key n = replicate n 97

abbrev pub add_long : ℕ → Addition
add_long n = add (point (long_key n)) (of_first twenty) twenty

-- ---- what spans cost

pub a_key_costs_its_bytes_and_32 : span_cost (point (codes "a")) ≡ 33
a_key_costs_its_bytes_and_32 = refl

pub a_range_costs_both_its_keys : span_cost
    (between (before (long_key 100)) (after (long_key 101))) ≡ 265
a_range_costs_both_its_keys = refl

pub a_key_of_232_bytes_fits : fits growing (point (long_key 232)) ≡ true
a_key_of_232_bytes_fits = refl

pub one_of_233_bytes_does_not : fits growing (point (long_key 233)) ≡ false
one_of_233_bytes_does_not = refl

-- ---- a page of 66, one of 132, and one of 264 bytes

pub the_third_and_the_seventh_point_rotate :
    answers growing (add_points (codes "abcdefg") (of_first twenty) twenty)
    ≡ added true false 0 ∷ added true false 0 ∷ added true true 0 ∷ added true false 0
    ∷ added true false 0 ∷ added true false 0 ∷ added true true 0 ∷ []
unfolding next_size
the_third_and_the_seventh_point_rotate = refl

-- ---- a key that wants more than the first page has

pub an_empty_page_is_dropped :
    answers growing (add_long 100 ∷ add_points (codes "b") (of_first twenty) twenty) ≡
    added true true 0 ∷ added true true 1 ∷ []
unfolding next_size
an_empty_page_is_dropped = refl

pub the_floor_stays_above_its_top :
    (state_after growing (add_long 100 ∷ add_points (codes "b") (of_first twenty) twenty)).floor
    ≡ at 5 0
unfolding next_size
the_floor_stays_above_its_top = refl

pub a_page_is_as_large_as_its_first_span_wants :
    answers growing (add_long 101 ∷ add_points (codes "b") (of_first twenty) twenty) ≡
    added true true 0 ∷ added true false 0 ∷ []
unfolding next_size
a_page_is_as_large_as_its_first_span_wants = refl
