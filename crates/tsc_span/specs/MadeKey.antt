-- What bytes make when they are taken as a key.
use Rattle.std.specs.Prelude.{Result, Ok, Err, if◌then◌else◌}
use Rattle.tsc_span.specs.Span.{KeyBytes, fits_key}
use Rattle.tsc_span.specs.declared.fault.SpanFault.{SpanFault}
use Rattle.tsc_span.specs.declared.fault.SpanFault.TheVariants.{KeyTooLong}

-- the key of these bytes, unless they are too many
abbrev pub made_key : KeyBytes → Result KeyBytes SpanFault
made_key bytes = if fits_key bytes then Ok bytes else Err KeyTooLong
