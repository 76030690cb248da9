-- What contracts over this crate speak of, besides its own definitions: the words of the crates
-- below, at one path.
pub use Rattle.tsc_time.specs.Time.{Time, is_in_range, is_before, zero_time}
pub use Rattle.tsc_time.specs.ValueView.{Owner, ValueView, owner_of, unowned}
pub use Rattle.tsc_time.specs.Joint.{IsAtMost}
pub use Rattle.tsc_span.specs.Span.{KeyBytes, SpanView, nothing, between, point, onward, all_keys, overlaps, covers}
pub use Rattle.tsc_page_model.specs.Page.{Mark}
pub use Rattle.tsc_cache.specs.ConfigView.{ConfigView}
pub use Rattle.tsc_cache.specs.State.{CacheState, opening, look}
pub use Rattle.tsc_cache.specs.History.{History, state_of, entry_of_mark, BeginsWith}
pub use Rattle.tsc_cache.specs.declared.history.Entry.{Entry}
pub use Rattle.tsc_cache.specs.CacheView.{CacheView, RepresentsState, StandsAfter, StandsAfterAll, cache_answer}
pub use Rattle.tsc_shared.specs.Seats.{SharedView, SeatView, FrontView}
