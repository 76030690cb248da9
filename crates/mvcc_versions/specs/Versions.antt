-- The versions of keys, and what a transaction reads and writes.
use Rattle.std.specs.Prelude.{
  ◌≡◌,
  ℕ,
  List,
  [],
  ◌∷◌,
  Bool,
  true,
  false,
  ◌&&◌,
  not,
  Option,
  Some,
  None,
  if◌then◌else◌,
  unwrap_or,
}
use Rattle.std.specs.List.{All, AllByRecursion}
use Rattle.std.specs.Ordering.{is_lt}
use Rattle.std.specs.Str.{bytes_eq}
use Rattle.std.specs.BTreeMap.{is_at}
use Rattle.std.specs.Map.{lookup}
use Rattle.tsc_span.specs.Span.{SpanView, nothing, between, is_below, covers, key_cmp}
use Rattle.timestamp_cache.specs.Words.{Time, is_before, Owner, KeyBytes}

-- what a key has: bytes, or nothing, as before its first write and after a deletion
abbrev pub Content : Type 0
Content = Option (List ℕ)

-- what each key has
abbrev pub Contents : Type 0
Contents = KeyBytes → Content

-- what a key has from some time on, and which transaction wrote that
pub record Version : Type 0 where
  pub at : Time
  pub by : Owner
  pub content : Content

-- keys with their versions, the newest first: a key's first entry counts, and a key without one has
-- no versions
abbrev pub Chains : Type 0
Chains = List (KeyBytes × List Version)

-- the versions of a key
abbrev pub chain_of : Chains → KeyBytes → List Version
chain_of chains k = unwrap_or (lookup (is_at (key_cmp k)) chains) []

-- A write of a key: its bytes, or nothing for a deletion.
pub record Write : Type 0 where
  pub key : KeyBytes
  pub content : Content

-- a key that has something, as a read answers it
pub record Row : Type 0 where
  pub key : KeyBytes
  pub value : List ℕ

-- a span that was read, and the rows that were answered
pub record Read : Type 0 where
  pub span : SpanView
  pub rows : List Row

-- ---- reads as of a time

-- what a key has by its newest version that is not later than a time
abbrev pub content_as_of : Time → List Version → Content
content_as_of at [] = None
content_as_of at (v ∷ vs) = if is_before at v.at then content_as_of at vs else v.content

-- what each key has as of a time
abbrev pub as_of : Time → Chains → Contents
as_of at chains k = content_as_of at (chain_of chains k)

-- what a key has by its newest version
abbrev pub newest_content : List Version → Content
newest_content [] = None
newest_content (v ∷ vs) = v.content

-- what each key has by all versions
abbrev pub latest : Chains → Contents
latest chains k = newest_content (chain_of chains k)

-- what rows say of a key
abbrev pub row_of : KeyBytes → List Row → Content
row_of k [] = None
row_of k (r ∷ rs) = if bytes_eq r.key k then Some r.value else row_of k rs

-- Rows are in the order of their keys, each key once.
abbrev pub AreInKeyOrder : List Row → Type 0
AreInKeyOrder [] = Unit {0}
AreInKeyOrder (r ∷ rs) = AllByRecursion (λ q. is_lt (key_cmp r.key q.key) ≡ true) rs
    × AreInKeyOrder rs

-- A read matches some contents: of each key of its span it says just what that key has, it has rows
-- of no other key, and they are in order. So it is determined by the contents of its span, and a
-- key that appears there later is a phantom.
pub record Matches (read : Read) (there : Contents) : Type 0 where
  pub rows : (k : KeyBytes) → covers read.span k ≡ true → row_of k read.rows ≡ there k
  pub within : All (λ r. covers read.span r.key ≡ true) read.rows
  pub order : AreInKeyOrder read.rows

-- ---- writes

-- whether a key is written
abbrev pub is_written : KeyBytes → List Write → Bool
is_written k [] = false
is_written k (w ∷ ws) = if bytes_eq w.key k then true else is_written k ws

-- what a key has after writes, one after another
abbrev pub after_writes : KeyBytes → Content → List Write → Content
after_writes k now [] = now
after_writes k now (w ∷ ws) = after_writes k (if bytes_eq w.key k then w.content else now) ws

-- the versions of a key after a transaction's writes at a time, one after another
abbrev pub stored : KeyBytes → Time → Owner → List Write → List Version → List Version
stored k at by [] vs = vs
stored k at by (w ∷ ws) vs = stored k at by ws (if bytes_eq w.key k then record {
  at = at;
  by = by;
  content = w.content;
} ∷ vs else vs)

-- when a key was last written
abbrev pub newest_time : List Version → Option Time
newest_time [] = None
newest_time (v ∷ vs) = Some v.at

-- A time is later than a key's last write.
abbrev pub IsAfter : Option Time → Time → Type 0
IsAfter None t = Unit {0}
IsAfter (Some last) t = is_before last t ≡ true

-- ---- old versions

-- a version that stays, unless it is a deletion
abbrev pub unless_deletion : Version → Content → List Version
unless_deletion v None = []
unless_deletion v (Some b) = v ∷ []

-- The versions of a key that are of use from a time on: those that are no earlier, and the newest
-- of the others unless that is a deletion.
abbrev pub kept_from : Time → List Version → List Version
kept_from from [] = []
kept_from from (v ∷ vs) = if is_before v.at from then unless_deletion v v.content else
    v ∷ kept_from from vs

-- ---- parts of the key space

-- whether a span lies within another
abbrev pub is_within : SpanView → SpanView → Bool
is_within nothing outer = true
is_within (between first end) nothing = false
is_within (between first end) (between from to) = not (is_below first from) && not (is_below to end)

-- whether each key that is written lies in a span
abbrev pub are_within : List Write → SpanView → Bool
are_within [] outer = true
are_within (w ∷ ws) outer = covers outer w.key && are_within ws outer
