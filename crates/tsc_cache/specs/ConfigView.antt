-- How a cache is set up.
use Rattle.std.specs.Prelude.{◌≡◌, ℕ, ◌&&◌, nat_le, not, Bool, true, Result, Ok, Err, if◌then◌else◌}
use Rattle.tsc_time.specs.Time.{Time}
use Rattle.tsc_span.specs.Span.{SpanView, span_cost}
use Rattle.tsc_page_model.specs.Limits.{least_size, most_size}
use Rattle.tsc_cache.specs.Limits.{least_min_pages, most_min_pages, longest_retention}
use Rattle.tsc_cache.specs.declared.config.ConfigFault.{ConfigFault}
use Rattle.tsc_cache.specs.declared.config.ConfigFault.TheVariants.{PageSize, MinPages, Retention}

-- what a cache is configured with
pub record ConfigView : Type 0 where
  pub page_first : ℕ
  pub page_max : ℕ
  pub min_pages : ℕ
  pub retention : ℕ
  pub low_water : Time

-- whether these may be the sizes of the first page and of the largest one
abbrev pub are_page_sizes : ℕ → ℕ → Bool
are_page_sizes page_first page_max =
    nat_le least_size page_first && (nat_le page_first page_max && nat_le page_max most_size)

-- whether this may be the number of pages below which none is dropped
abbrev pub is_min_pages : ℕ → Bool
is_min_pages n = nat_le least_min_pages n && nat_le n most_min_pages

-- whether reads may be retained for n nanoseconds
abbrev pub is_retention : ℕ → Bool
is_retention n = nat_le n longest_retention

-- the settings of these values, or the first fault
abbrev pub made_config : ℕ → ℕ → ℕ → ℕ → Time → Result ConfigView ConfigFault
made_config page_first page_max min_pages retention low_water =
    if not (are_page_sizes page_first page_max) then Err PageSize
    else if not (is_min_pages min_pages) then Err MinPages
    else if not (is_retention retention) then Err Retention
    else Ok (record {
      page_first = page_first;
      page_max = page_max;
      min_pages = min_pages;
      retention = retention;
      low_water = low_water;
    })

-- settings within their limits
pub record IsWithinLimits (s : ConfigView) : Type 0 where
  pub sizes : are_page_sizes s.page_first s.page_max ≡ true
  pub min_pages : is_min_pages s.min_pages ≡ true
  pub retention : is_retention s.retention ≡ true

-- whether a span fits the largest page
abbrev pub fits : ConfigView → SpanView → Bool
fits config span = nat_le (span_cost span) config.page_max
