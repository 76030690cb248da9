-- The bounds so far and the bytes that are left are all bytes, and so are the lengths.
use Rattle.std.proofs.Common.{◌≡◌, ◌++◌, length, map, drop}
use Rattle.std.specs.List.{sum_by, concat}
use Rattle.tsc_ffi_store.proofs.named_bounds.bounds.Given as goal

abbrev pub invariant-loop-len : goal.invariant-loop-len
invariant-loop-len l =
    (concat l.bounds.items ++ l.rest ≡ l.args.keys.now)
    × (map length l.bounds.items ++ drop l.len-index l.args.lens.now ≡ l.args.lens.now)
    × (sum_by (λ n. n) (drop l.len-index l.args.lens.now) ≡ length l.rest)
