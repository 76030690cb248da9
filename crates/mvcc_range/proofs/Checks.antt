-- Reads that fit, and writes that lie within a span.
use Rattle.std.proofs.Common.{◌≡◌, ap, refl, map, List, [], ◌∷◌, Bool, true, false, ◌&&◌}
use Rattle.std.specs.List.{All, AllByRecursion}
use Rattle.std.proofs.lemmas.List.Elements.{All-from_recursion}
use Rattle.tsc_span.specs.Span.{SpanView, covers}
use Rattle.tsc_cache.specs.ConfigView.{ConfigView, fits}
use Rattle.tsc_cache.specs.Batch.{all_fit}
use Rattle.timestamp_cache.specs.Words.{Time, Owner}
use Rattle.mvcc_versions.specs.Versions.{Write, Read, are_within}
use Rattle.mvcc_range.specs.Steps.{mark_of, reads_fit}

pub fits_marks : (config : ConfigView) (at : Time) (by : Owner) (reads : List Read)
    → reads_fit config reads ≡ all_fit config (map (mark_of at by) reads)
fits_marks config at by [] = refl
fits_marks config at by (r ∷ rs) = ap (λ (b : Bool). fits config r.span && b)
    (fits_marks config at by rs)

each_within : (ws : List Write) (span : SpanView) → are_within ws span ≡ true
    → AllByRecursion (λ (w : Write). covers span w.key ≡ true) ws
each_within [] span h = tt
each_within (w ∷ ws) span h = (
  first (covers span w.key) (are_within ws span) h,
  each_within ws span (second (covers span w.key) (are_within ws span) h),
)
  where
    first : (a b : Bool) → (a && b) ≡ true → a ≡ true
    first true b h = refl
    first false b h = h

    second : (a b : Bool) → (a && b) ≡ true → b ≡ true
    second true b h = h
    second false b h = absurd (let never : false ≡ true = h in cc)

pub all_within : (ws : List Write) (span : SpanView) → are_within ws span ≡ true
    → All (λ (w : Write). covers span w.key ≡ true) ws
all_within ws span h = All-from_recursion (λ (w : Write). covers span w.key ≡ true) ws
    (each_within ws span h)
