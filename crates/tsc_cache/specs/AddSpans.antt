-- The spans that the bytes of an Add name, or why they name none.
use Rattle.std.specs.Prelude.{Bool, ◌&&◌, Option, Some, None, Result, Ok, Err, if◌then◌else◌}
use Rattle.tsc_span.specs.Span.{KeyBytes, SpanView, onward, range, fits_key}
use Rattle.tsc_span.specs.declared.span.Ends.{Ends}
use Rattle.tsc_span.specs.declared.fault.SpanFault.{SpanFault}
use Rattle.tsc_span.specs.declared.fault.SpanFault.TheVariants as span
use Rattle.tsc_cache.specs.declared.fault.AddBetweenFault.{AddBetweenFault}
use Rattle.tsc_cache.specs.declared.fault.AddBetweenFault.TheVariants.{KeyTooLong, Inverted, TooLarge, NoMemory}
use Rattle.tsc_cache.specs.declared.fault.CacheFault.{CacheFault}
use Rattle.tsc_cache.specs.declared.fault.CacheFault.TheVariants as cache

-- whether each key that the bytes name is short enough
abbrev pub do_keys_fit : KeyBytes → Option KeyBytes → Bool
do_keys_fit start None = fits_key start
do_keys_fit start (Some end) = fits_key start && fits_key end

-- the span from a start to an end, unless that is inverted; without an end all keys from the start
-- on
abbrev pub span_to_add : KeyBytes → Option KeyBytes → Ends → Option SpanView
span_to_add start None ends = Some (onward start ends.exclude_from)
span_to_add start (Some end) ends = range start end ends.exclude_from ends.exclude_to

-- a range that is inverted is refused
abbrev pub unless_inverted : Option SpanView → Result SpanView AddBetweenFault
unless_inverted None = Err Inverted
unless_inverted (Some span) = Ok span

-- the span that the bytes of an Add name, or why they name none
abbrev pub named : KeyBytes → Option KeyBytes → Ends → Result SpanView AddBetweenFault
named start end ends =
    if do_keys_fit start end then unless_inverted (span_to_add start end ends) else Err KeyTooLong

-- a fault of an Add of a span, as a fault of an Add over bytes
abbrev pub of_cache_fault : CacheFault → AddBetweenFault
of_cache_fault cache.TooLarge = TooLarge
of_cache_fault cache.NoMemory = NoMemory

-- a fault of making a span, as a fault of an Add over bytes
abbrev pub of_span_fault : SpanFault → AddBetweenFault
of_span_fault span.KeyTooLong = KeyTooLong
of_span_fault span.Inverted = Inverted
of_span_fault span.NoMemory = NoMemory
