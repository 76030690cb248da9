-- Proves the loop invariants of `Lists::find_from`. Finds a key as `find` does, by a look at one
-- key of the list after another from `index` on.
use Rattle.tsc_page_nodes.specs.Nodes.{HasKeysBelow}
use Rattle.tsc_page_nodes.proofs.nodes.lists.Lists.find_from.Given as goal

-- the keys so far are below
abbrev pub invariant-loop-i : goal.invariant-loop-i
invariant-loop-i l = HasKeysBelow l.self l.key l.i
