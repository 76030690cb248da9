-- A cache that stands for any other.
use Rattle.std.specs.Prelude.{[]}
use Rattle.example_lease_holder.specs.declared.reads.ReadCache.{ReadCache}
use Rattle.example_lease_holder.specs.declared.reads.ReadCache.TheVariants.{Copies}

-- The one that a range has of which nobody says more. Where a range is opened, it is the cache that
-- was opened.
abbrev pub any_cache : ReadCache
any_cache = Copies (record {
  table = record {
    words = 0;
    slots = 0;
    views_name = 0;
    atom = 0;
    block = 0;
    offset = 0;
    slot_names = [];
  };
  config = record {
    page_first = 132;
    page_max = 132;
    min_pages = 2;
    retention = 10;
    low_water = record { wall = 5; logical = 0 };
  };
  seats = 1;
  limit = 0;
})
