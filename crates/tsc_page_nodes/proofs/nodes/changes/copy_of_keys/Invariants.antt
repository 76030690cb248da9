-- Proves the loop invariants of `copy_of_keys`. A copy of a list of keys, with room for two more.
use Rattle.std.proofs.Common.{◌≡◌, take}
use Rattle.tsc_page_nodes.proofs.nodes.changes.copy_of_keys.Given as goal

-- what was copied so far
abbrev pub invariant-loop-key : goal.invariant-loop-key
invariant-loop-key l = l.copy.items ≡ take l.key-index l.key-items
