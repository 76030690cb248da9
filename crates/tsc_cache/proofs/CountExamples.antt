-- What is counted of a cache: its end keys, each of them once for each page, and what these cost.
use Rattle.std.specs.Prelude.{◌≡◌, ℕ, ◌-◌, ◌+◌, ◌^◌, [], ◌∷◌, ◌++◌, codes, refl}
use Rattle.tsc_time.specs.Time.{Time}
use Rattle.tsc_cache.specs.Rotation.{next_size}
use Rattle.tsc_cache.specs.declared.figures.Figures.{Figures}
use Rattle.tsc_cache.specs.Counts.{up_to_end, figures_of}
use Rattle.tsc_cache.proofs.ExampleConfig.{at, of_first, usual, twenty, without_end, add, add_points, state_after}

abbrev pub figures : ℕ → ℕ → ℕ → ℕ → Time → Figures
figures pages rotations nodes bytes floor =
    record { pages = pages; rotations = rotations; nodes = nodes; bytes = bytes; floor = floor }

pub an_empty_cache_has_one_page : figures_of (state_after usual []) ≡ figures 1 0 0 0 (at 5 0)
unfolding next_size
an_empty_cache_has_one_page = refl

pub a_key_of_one_page_counts_once :
    figures_of (state_after usual (add (without_end (codes "a") (codes "ccc")) (of_first twenty)
    twenty ∷ add_points (codes "ba") (of_first twenty) twenty))
    ≡ figures 1 0 3 101 (at 5 0)
unfolding next_size
a_key_of_one_page_counts_once = refl

pub one_of_two_pages_counts_twice : figures_of
    (state_after usual (add_points (codes "abcdea") (of_first twenty) twenty)) ≡ figures 2 1 6 198
    (at 5 0)
unfolding next_size
one_of_two_pages_counts_twice = refl

pub those_of_a_dropped_page_are_gone :
    figures_of (state_after usual (add_points (codes "abcde") (of_first twenty) twenty ++
    add_points (codes "fghi") (of_first (at 41 0)) (at 40 0)))
    ≡ figures 2 2 5 165 twenty
unfolding next_size
those_of_a_dropped_page_are_gone = refl

pub a_count_stays_at_its_end : up_to_end (2 ^ 64 + 7) ≡ 2 ^ 64 - 1
a_count_stays_at_its_end = refl
