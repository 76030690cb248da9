-- What can be seen of the parts of a cache.
use Rattle.std.specs.Prelude.{List, ◌∷◌}
use Rattle.std.specs.Arc.{arc_value}
use Rattle.tsc_page_model.specs.PageView.{PageView}
use Rattle.tsc_cache.specs.declared.page_stack.Pages.{Pages}
use Rattle.tsc_cache.specs.declared.plain_pages.PlainPages.{PlainPages}

-- what can be seen of the newest page
abbrev pub front_of : Pages → PageView
front_of p = arc_value p.front

-- what can be seen of the older pages
abbrev pub older_of : Pages → List PageView
older_of p = p.older

-- what can be seen of all pages, from newest to oldest
abbrev pub pages_of : Pages → List PageView
pages_of p = front_of p ∷ older_of p

-- what can be seen of the front page of a plain cache
abbrev pub plain_front_of : PlainPages → PageView
plain_front_of p = p.front

abbrev pub plain_older_of : PlainPages → List PageView
plain_older_of p = p.older.items

abbrev pub plain_pages_of : PlainPages → List PageView
plain_pages_of p = plain_front_of p ∷ plain_older_of p
