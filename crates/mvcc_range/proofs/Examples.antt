-- Worked examples: what is there as of a time, the serial order, and executions that are not
-- serial.
use Rattle.std.proofs.Common.{◌≡◌, refl, ℕ, List, [], ◌∷◌, map, Some, None, arith}
use Rattle.tsc_span.specs.Span.{between, before}
use Rattle.timestamp_cache.specs.Words.{Time, Owner, KeyBytes, SpanView, point}
use Rattle.mvcc_versions.specs.Versions.{Version, Write, Read, content_as_of, newest_content, stored}
use Rattle.mvcc_range.specs.Serial.{Transaction, empty, IsSerial, serial_order}

abbrev time : ℕ → Time
time wall = record { wall = wall; logical = 0 }

abbrev alice : Owner
alice = 1 ∷ []

abbrev bob : Owner
bob = 2 ∷ []

-- the keys a and m, and all keys from a up to z
abbrev a : KeyBytes
a = 97 ∷ []

abbrev m : KeyBytes
m = 109 ∷ []

abbrev letters : SpanView
letters = between (before a) (before (122 ∷ []))

-- ---- versions

-- alice wrote at 10, and bob deleted at 20
abbrev versions : List Version
versions = (record { at = time 20; by = bob; content = None }) ∷ (record {
  at = time 10;
  by = alice;
  content = Some (1 ∷ []);
}) ∷ []

nothing_before : content_as_of (time 9) versions ≡ None
nothing_before = refl

there_from_10_on : content_as_of (time 10) versions ≡ Some (1 ∷ [])
there_from_10_on = refl

still_there : content_as_of (time 19) versions ≡ Some (1 ∷ [])
still_there = refl

gone_from_20_on : content_as_of (time 20) versions ≡ None
gone_from_20_on = refl

gone_in_the_end : newest_content versions ≡ None
gone_in_the_end = refl

-- a transaction's writes of another key add no version, and of two writes of a key the last counts
abbrev writes : KeyBytes → List Write
writes k = (record { key = k; content = Some (1 ∷ []) }) ∷ []

another_key : stored a (time 30) alice (writes m) versions ≡ versions
another_key = refl

last_write : newest_content (stored a (time 30) alice (record {
  key = a;
  content = Some (2 ∷ []);
} ∷ writes a) versions) ≡ Some (1 ∷ [])
last_write = refl

-- ---- the serial order

abbrev transaction : ℕ → Owner → List Read → List Write → Transaction
transaction wall by reads written = record {
  at = time wall;
  by = by;
  reads = reads;
  writes = written;
}

-- It is by time. The last to commit is given first.
by_time : map (λ (t : Transaction). t.at.wall)
    (serial_order (transaction 20 bob [] [] ∷ transaction 30 alice [] [] ∷ transaction 10 bob []
    [] ∷ [])) ≡ 10 ∷ 20 ∷ 30 ∷ []
by_time = refl

-- At one time it is the order of the commits.
by_commit : map (λ (t : Transaction). t.by)
    (serial_order (transaction 20 bob [] [] ∷ transaction 20 alice [] [] ∷ [])) ≡ alice ∷ bob ∷ []
by_commit = refl

-- ---- what is not serial

abbrev nothing_in : SpanView → Read
nothing_in span = record { span = span; rows = [] }

none_some : (b : List ℕ) → None ≡ Some b → ⊥
none_some b e = cc

-- A lost update: both read that a has nothing, and both write it.
lost_update : IsSerial empty (serial_order (transaction 21 bob (nothing_in (point a) ∷ [])
    (writes a) ∷ transaction 20 alice (nothing_in (point a) ∷ []) (writes a) ∷ [])) → ⊥
lost_update serial = none_some (1 ∷ []) (serial.1.0.0.rows a refl)

-- A write skew: each reads that no letter has anything, and each writes another one.
write_skew : IsSerial empty (serial_order (transaction 20 bob (nothing_in letters ∷ [])
    (writes m) ∷ transaction 20 alice (nothing_in letters ∷ []) (writes a) ∷ [])) → ⊥
write_skew serial = none_some (1 ∷ []) (serial.1.0.0.rows a refl)

-- A phantom: alice reads at 30 that no letter has anything, and then bob writes m at 20.
phantom : IsSerial empty (serial_order (transaction 20 bob [] (writes m) ∷ transaction 30 alice
    (nothing_in letters ∷ []) [] ∷ [])) → ⊥
phantom serial = none_some (1 ∷ []) (serial.1.0.0.rows m refl)

-- Where bob is pushed to 31, it is serial.
pushed : IsSerial empty (serial_order (transaction 31 bob [] (writes m) ∷ transaction 30 alice
    (nothing_in letters ∷ []) [] ∷ []))
pushed = (
  (
    record {
      rows = λ k c. refl;
      within = λ k d below. absurd (omega (arith, below));
      order = tt;
    },
    tt,
  ),
  (tt, tt),
)
