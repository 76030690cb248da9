-- Which pages were copied so far.
use Rattle.std.proofs.Common.{◌≡◌, take}
use Rattle.tsc_cache.proofs.plain_pages.PlainPages.try_copy.Given as goal

abbrev pub invariant-loop-page : goal.invariant-loop-page
invariant-loop-page l = l.older.items ≡ take l.page-index l.self.older.items
