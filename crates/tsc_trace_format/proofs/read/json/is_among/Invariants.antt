-- Proves the loop invariants of `is_among`. Whether a name is one of these.
use Rattle.std.specs.List.{list_any}
use Rattle.std.specs.Str.{bytes_eq}
use Rattle.std.proofs.Common.{◌≡◌, map, take, false}
use Rattle.tsc_trace_format.proofs.read.json.is_among.Given as goal

abbrev pub invariant-loop-known : goal.invariant-loop-known
invariant-loop-known l = list_any (bytes_eq l.name)
    (map (λ known. known.now) (take l.known-index l.names)) ≡ false
