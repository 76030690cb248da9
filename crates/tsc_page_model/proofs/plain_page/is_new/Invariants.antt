-- Proves the loop invariants of `is_new`. Whether this is a key, and no end key of a list.
use Rattle.std.proofs.Common.{◌≡◌, take, false}
use Rattle.tsc_page_model.specs.Page.{marked_keys}
use Rattle.tsc_page_model.specs.PageView.{is_in}
use Rattle.tsc_page_model.proofs.plain_page.is_new.Given as goal

-- the key is no end key of those so far
abbrev pub invariant-loop-mark : goal.invariant-loop-mark
invariant-loop-mark l = is_in l.key (marked_keys (take l.mark-index l.marks)) ≡ false
