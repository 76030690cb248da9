-- Proves the contract of `key_of`. Bytes of a key are not too many.
use Rattle.std.proofs.Common.{◌≡◌, ◌⊎◌, inl, inr, sym, ap, subst}
use Rattle.std.specs.Prelude.{Result, Err, IsErrOf}
use Rattle.tsc_span.specs.Span.{KeyBytes}
use Rattle.tsc_span.specs.declared.fault.SpanFault.{SpanFault}
use Rattle.tsc_span.specs.declared.fault.SpanFault.TheVariants.{KeyTooLong, NoMemory}
use Rattle.tsc_striped.proofs.Cutting.{short_key}
use Rattle.tsc_striped.proofs.pieces.key_of.Goals as goal

by_memory : (fault : SpanFault) → (fault ≡ KeyTooLong) ⊎ (fault ≡ NoMemory)
    → (fault ≡ KeyTooLong → ⊥) → fault ≡ NoMemory
by_memory fault (inl long) short = absurd (short long)
by_memory fault (inr memory) short = memory

pub of_key-requires : goal.of_key-requires
of_key-requires c = by_memory c.in-Err.fault c.in-Err.ensures.memory
    (λ long. short_key c.args.bytes.now c.requires
    (c.new.ensures.refused.0 (subst (λ (r : Result KeyBytes SpanFault). IsErrOf r KeyTooLong)
    (sym c.in-Err.is) (ap (λ (f : SpanFault). Err f) long))))
