-- What is left of the bytes, and what the lengths so far come to, are all bytes.
use Rattle.std.proofs.Common.{◌≡◌, ◌+◌, length, take}
use Rattle.std.specs.List.{sum_by}
use Rattle.tsc_ffi_store.proofs.named_bounds.is_whole.Given as goal

abbrev pub invariant-loop-len : goal.invariant-loop-len
invariant-loop-len l = l.left + sum_by (λ n. n) (take l.len-index l.lens) ≡ length l.keys
