-- Proves the loop invariants of `write_bytes`. Writes the bytes of pairs of digits, and tells
-- whether they are digits.
use Rattle.std.proofs.Common.{◌≡◌, ◌*◌, true, take, drop}
use Rattle.hex.specs.Hex.{decode_pairs}
use Rattle.hex.proofs.Pairs.{prepend}
use Rattle.tsc_trace_fast.proofs.quick.digits.write_bytes.Given as goal

-- where all were digits, what is written and what is left are what all reads as
abbrev pub invariant-bytes : goal.invariant-bytes
invariant-bytes l = l.good ≡ true →
    decode_pairs 0 l.digits ≡ prepend (take l.i l.bytes)
    (decode_pairs (2 * l.i) (drop (2 * l.i) l.digits))
