-- The end keys of a span have no repeats.
use Rattle.std.proofs.Common.{◌≡◌, inl, inr, refl, true}
use Rattle.std.specs.Prelude.{Option, Some, None}
use Rattle.std.specs.Str.{bytes_eq}
use Rattle.std.proofs.lemmas.Bool.{cases_Bool}
use Rattle.tsc_span.specs.Span.{KeyBytes, SpanView, nothing, between, key_of_cut, different_keys, end_keys}
use Rattle.tsc_page_model.proofs.DistinctKeys.{has_no_repeats}

different_once : (o p : Option KeyBytes) → has_no_repeats (different_keys o p) ≡ true
different_once None None = refl
different_once None (Some m) = refl
different_once (Some k) None = refl
different_once (Some k) (Some m) =
    elim (cases_Bool (bytes_eq k m)) [ inl h ↦ rw h refl | inr h ↦ rw h (rw h refl) ]

-- a span's end keys have no repeats
pub end_keys_once : (s : SpanView) → has_no_repeats (end_keys s) ≡ true
end_keys_once nothing = refl
end_keys_once (between f t) = different_once (key_of_cut f) (key_of_cut t)
