-- Proves the loop invariants of `Lists::stride_before`. The last of every eighth place, from the
-- first one on, before which all keys lie below a key.
use Rattle.std.proofs.Common.{◌-◌, length}
use Rattle.tsc_page_nodes.specs.Nodes.{HasKeysBelow}
use Rattle.tsc_page_nodes.proofs.nodes.lists.Lists.stride_before.Given as goal

-- the keys before the place found so far are below
abbrev pub invariant-loop-index : goal.invariant-loop-index
invariant-loop-index l = HasKeysBelow l.self l.key l.low

-- fewer keys are left
abbrev pub decreases-loop-index : goal.decreases-loop-index
decreases-loop-index l = length l.self-inside.keys.now - l.index
