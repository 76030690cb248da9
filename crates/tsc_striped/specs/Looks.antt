-- What all stripes together answer, and what an Add does in them.
use Rattle.std.specs.Prelude.{ℕ, zero, suc, ◌-◌, ◌^◌, min, List, [], ◌∷◌, length}
use Rattle.tsc_time.specs.Time.{Time, later}
use Rattle.tsc_time.specs.ValueView.{ValueView}
use Rattle.tsc_time.specs.Joint.{ratcheted}
use Rattle.tsc_span.specs.Span.{SpanView}
use Rattle.tsc_page_model.specs.Page.{Mark}
use Rattle.tsc_cache.specs.declared.added.Added.{Added}
use Rattle.tsc_cache.specs.State.{look, step_all, added_with}
use Rattle.tsc_cache.specs.CacheView.{CacheView}
use Rattle.tsc_cache.specs.History.{History}
use Rattle.tsc_stripe_table.specs.Stripes.{Terms, state_on, marks_in, IsStateOn}
use Rattle.tsc_striped.specs.Touching.{first_touched, last_touched}

-- What a lookup answers in one stripe after a history.
abbrev pub look_on : Terms → History → SpanView → ℕ → ValueView
look_on terms h span stripe = look (state_on terms stripe h) span

-- What the answers of some stripes come to together: one from a number on, and so many more.
abbrev pub look_from : Terms → History → SpanView → ℕ → ℕ → ValueView
look_from terms h span stripe zero = look_on terms h span stripe
look_from terms h span stripe (suc more) =
    ratcheted (look_on terms h span stripe) (look_from terms h span (suc stripe) more)

-- What a lookup answers after a history: what the answers of all stripes that the span touches come
-- to together.
abbrev pub look_over : Terms → History → SpanView → ValueView
look_over terms h span = look_from terms h span (first_touched terms.bounds span)
    (last_touched terms.bounds span - first_touched terms.bounds span)

-- The greatest floor of some stripes after a history: one from a number on, and so many more.
abbrev pub floor_from : Terms → History → ℕ → ℕ → Time
floor_from terms h stripe zero = (state_on terms stripe h).floor
floor_from terms h stripe (suc more) =
    later (state_on terms stripe h).floor (floor_from terms h (suc stripe) more)

-- the greatest floor of all stripes that a span touches, after a history
abbrev pub floor_over : Terms → History → SpanView → Time
floor_over terms h span = floor_from terms h (first_touched terms.bounds span)
    (last_touched terms.bounds span - first_touched terms.bounds span)

-- What an Add of some marks does in one stripe after a history: it is that of what lies there.
abbrev pub added_on : Terms → History → List Mark → Time → ℕ → Added
added_on terms h ms now stripe =
    (step_all terms.config (state_on terms stripe h) (marks_in terms.bounds stripe ms) now).added

-- What it does in some stripes together: one from a number on, and so many more.
abbrev pub added_from : Terms → History → List Mark → Time → ℕ → ℕ → Added
added_from terms h ms now stripe zero = added_on terms h ms now stripe
added_from terms h ms now stripe (suc more) =
    added_with (added_on terms h ms now stripe) (added_from terms h ms now (suc stripe) more)

-- A count of dropped pages that stays at its end: it has 64 bits.
abbrev pub counted : Added → Added
counted a = record { kept = a.kept; rotated = a.rotated; evicted = min a.evicted (2 ^ 64 - 1) }

-- what an Add of some marks does in all stripes together after a history
abbrev pub added_over : Terms → History → List Mark → Time → Added
added_over terms h ms now = counted (added_from terms h ms now 0 (length terms.bounds))

-- Each of some caches stands for what a history leaves on its stripe: the first one on this stripe,
-- and each other one on the next.
abbrev pub StandFrom : Terms → History → ℕ → List CacheView → Type 0
StandFrom terms h stripe [] = Unit {0}
StandFrom terms h stripe (cache ∷ others) =
    IsStateOn terms stripe h cache × StandFrom terms h (suc stripe) others
