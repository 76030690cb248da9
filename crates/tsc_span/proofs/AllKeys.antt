-- Each key lies in the span of all keys.
use Rattle.std.proofs.Common.{refl, [], ◌∷◌}
use Rattle.tsc_span.specs.Laws.{AllCoversEach}

pub all_covers_each : AllCoversEach
all_covers_each [] = refl
all_covers_each (b ∷ k) = refl
