-- What follows from the definitions, stated for every cut, span and key.
use Rattle.std.specs.Prelude.{◌≡◌, not, true}
use Rattle.std.specs.declared.cmp.Ordering.TheVariants.{Equal}
use Rattle.std.specs.Cmp.{IsTotalOrder}
use Rattle.tsc_span.specs.Span.{KeyBytes, Cut, before, after, cut_cmp, is_below, SpanView, point, all_keys, overlaps, covers}

-- The order of cuts is total, and a cut is equal in it to itself alone. What is below the place
-- after a key is not above the place before it.
pub record IsCutOrder : Type 0 where
  pub total : IsTotalOrder cut_cmp
  pub same : (a b : Cut) → cut_cmp a b ≡ Equal → a ≡ b
  pub sides : (k : KeyBytes) (a : Cut) → is_below a (after k) ≡ not (is_below (before k) a)

-- a span covers a key exactly where it overlaps the single key
abbrev pub CoversIsOverlap : Type 0
CoversIsOverlap = (s : SpanView) (k : KeyBytes) → covers s k ≡ overlaps s (point k)

-- which of two spans is named first makes no difference
abbrev pub OverlapBothWays : Type 0
OverlapBothWays = (s t : SpanView) → overlaps s t ≡ overlaps t s

-- each key lies in the span of all keys
abbrev pub AllCoversEach : Type 0
AllCoversEach = (k : KeyBytes) → covers all_keys k ≡ true
