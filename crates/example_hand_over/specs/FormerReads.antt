-- The reads that a former holder of a lease answered, and what the next one owes them.
use Rattle.std.specs.Prelude.{ℕ, [], ◌∷◌, ◌++◌}
use Rattle.timestamp_cache.specs.Words.{Time, Owner, ValueView, owner_of, IsAtMost, SpanView, nothing, ConfigView, CacheState, look, History, state_of, entry_of_mark, CacheView, RepresentsState, cache_answer}
use Rattle.timestamp_cache.specs.Clear.{IsClearOfReads}
use Rattle.timestamp_cache.specs.HandOver.{Summary, IsWithin, ReportsOf}

-- a read at a time, by a transaction
abbrev pub read_of : Time → Owner → ValueView
read_of at by = record { time = at; owner = owner_of by }

-- A holder's cache has the reads of a history: it stands for the state that they leave.
abbrev pub HasReads : CacheView → ConfigView → History → Type 0
HasReads cache config h = RepresentsState cache config (state_of config h)

-- One more read is answered: whatever reads the cache had, it has those and that one at their end.
abbrev pub AnswersOneMore : CacheView → CacheView → SpanView → ValueView → Time → Type 0
AnswersOneMore old new span read now = (config : ConfigView) (h : History) (seat number : ℕ) →
    HasReads old config h
    → HasReads new config (h ++ entry_of_mark seat number (record { span = span; value = read })
    now ∷ [])

-- A summary tells of whatever state a cache stands for.
abbrev pub ReportsOfCache : CacheView → Summary → Type 0
ReportsOfCache cache reported = (config : ConfigView) (s : CacheState) →
    RepresentsState cache config s →
    ReportsOf s reported

-- To each span within the range the next holder answers no less than the former one did, whatever
-- state that one's cache stood for.
abbrev pub AnswersNoLess : CacheView → CacheView → SpanView → Type 0
AnswersNoLess former next range = (config : ConfigView) (s : CacheState) (inner : SpanView) →
    RepresentsState former config s → IsWithin inner range
    → IsAtMost (look s inner) (cache_answer next inner)

-- A write within the range is clear of each read on its span that the former holder answered,
-- whatever reads that one's cache had.
abbrev pub IsClearOfFormerReads : CacheView → SpanView → SpanView → Owner → Time → Type 0
IsClearOfFormerReads former range span by at = IsWithin span range →
    (config : ConfigView) (h : History) → HasReads former config h → IsClearOfReads h span by at

-- The cache of a former holder of whom nobody says more. Where a lease is handed on, it is the one
-- that is summarized.
abbrev pub any_cache : CacheView
any_cache = record {
  config = record {
    page_first = 132;
    page_max = 132;
    min_pages = 2;
    retention = 10;
    low_water = record { wall = 5; logical = 0 };
  };
  floor = record { wall = 5; logical = 0 };
  pages = [];
  rotations = 0;
}

-- the range of the former holder, whichever it is
abbrev pub any_range : SpanView
any_range = nothing
