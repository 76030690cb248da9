-- The rule of the slots in which the seats of a cache are returned: what holds between any two
-- steps of any threads.
use Rattle.std.specs.Prelude.{◌≡◌, ◌≢◌, ℕ, ◌+◌, ◌<◌, ◌≤◌, List, [], ◌∷◌, ◌++◌, All, length, slice_index, true, false, Option, Some, None}
use mathlib.Core.Option as maybe
use lib.ListN.{get_elem?}
use Rattle.atomic_table.specs.Table.{State}
use Rattle.tsc_ffi_store.specs.declared.seats.return_slots.Known.{Known}
use Rattle.tsc_ffi_store.specs.declared.seats.kinds.AnyCache.{AnyCache}
use Rattle.tsc_ffi_store.specs.declared.seats.kinds.AnySeat.{AnySeat}
use Rattle.tsc_ffi_store.specs.Kinds.{seats_of, cache_of, number_of}

-- what a slot has: a seat, once it is returned
abbrev pub Returned : Type 0
Returned = Option AnySeat

-- Who may take the slots from one on, up to another, knows how many seats from 0 on are returned,
-- some that lie in their slots, and which slots it looked at while no seat was returned there, one
-- for each such look. The right to collect the seat of a slot has a number of its own: that of the
-- slot, and as many more as there are seats. Who deals these knows the cache.
abbrev pub knowing : Option AnyCache → ℕ → ℕ → ℕ → List AnySeat → List ℕ → Known
knowing cache from to returned back missed = record {
  cache = cache;
  from = from;
  to = to;
  taken = false;
  returned = returned;
  back = back;
  missed = missed;
}

abbrev pub dealing : Option AnyCache → ℕ → ℕ → ℕ → Known
dealing cache from to returned = knowing cache from to returned [] []

-- the token of a seat, which may take its slot
abbrev pub token : ℕ → Known
token number = dealing None number (number + 1) 0

-- what an owner knows once it has taken its token
abbrev pub spent : ℕ → Known
spent number = record {
  cache = None;
  from = number;
  to = number + 1;
  taken = true;
  returned = 0;
  back = [];
  missed = [];
}

-- a token that may take no slot, and knows nothing
abbrev pub spare : Known
spare = dealing None 0 0 0

-- the token of a seat that was returned
abbrev pub came : AnySeat → Known
came seat = knowing None 0 0 0 (seat ∷ []) []

-- who has dealt the tokens of all `seats` seats, knows that the first `returned` ones are returned,
-- some of them as what, and which it missed, and has collected the first `done` ones
abbrev pub collecting : AnyCache → ℕ → ℕ → ℕ → List AnySeat → List ℕ → Known
collecting cache seats done returned back missed =
    knowing (Some cache) (seats + done) (seats + seats) returned back missed

-- the same before it has collected any
abbrev pub keeping : AnyCache → ℕ → ℕ → List AnySeat → List ℕ → Known
keeping cache seats returned back missed =
    knowing (Some cache) seats (seats + seats) returned back missed

-- one who knows of the seats, too, that another knows of
abbrev pub also_back : Known → Known → Known
also_back v w = record v { back = v.back ++ w.back }

-- the first of all may take all slots, and collect all seats
abbrev pub first_known : AnyCache → Known
first_known cache = dealing (Some cache) 0 (seats_of cache + seats_of cache) 0

-- A slot is one of these.
pub record IsAmong (v : Known) (slot : ℕ) : Type 0 where
  pub from : v.from ≤ slot
  pub to : slot < v.to

-- A seat of this cache lies in its slot.
pub record IsReturned (cache : AnyCache) (slots : List (maybe.Option Returned)) (slot : ℕ) : Type
    0 where
  pub seat : AnySeat
  pub lies : get_elem? slots slot ≡ maybe.some (maybe.some (Some seat))
  pub its_cache : cache_of seat ≡ cache

-- A slot is there to be taken, and no seat is returned in it.
pub record IsFree (cache : AnyCache) (words : List ℕ) (slots : List (maybe.Option Returned))
    (slot : ℕ) : Type 0 where
  pub low : slot < seats_of cache
  pub word : slice_index words slot ≡ 0
  pub held : Returned
  pub lies : get_elem? slots slot ≡ maybe.some (maybe.some held)

-- This very seat was returned in its slot, and lies there until it is collected.
pub record IsBack (cache : AnyCache) (words : List ℕ) (slots : List (maybe.Option Returned))
    (seat : AnySeat) : Type 0 where
  pub low : number_of seat < seats_of cache
  pub word : slice_index words (number_of seat) ≢ 0
  pub lies : slice_index words (number_of seat) ≢ 2
      → get_elem? slots (number_of seat) ≡ maybe.some (maybe.some (Some seat))

-- What one knows fits: its cache is this one, the slots that it may take are there, in one that it
-- has taken no seat is returned, the seats that it may collect are not collected, the first
-- `v.returned` seats are returned, and so are those that it knows of.
pub record Fits (cache : AnyCache) (words : List ℕ) (slots : List (maybe.Option Returned))
    (v : Known) : Type 0 where
  pub its : (c : AnyCache) → v.cache ≡ Some c → c ≡ cache
  pub free : (slot : ℕ) → v.taken ≡ false → slot < seats_of cache → IsAmong v slot
      → IsFree cache words slots slot
  pub out : (slot : ℕ) → v.taken ≡ true → IsAmong v slot → slice_index words slot ≡ 0
  pub left : (slot : ℕ) → slot < seats_of cache → IsAmong v (seats_of cache + slot)
      → slice_index words slot ≢ 2
  pub returned : (slot : ℕ) → slot < v.returned → slice_index words slot ≢ 0
  pub back : All (IsBack cache words slots) v.back

-- There is a word and a slot for each seat. A word is 0 until the seat is returned, and 2 once it
-- is collected. While it is 0, no token knows of a returned seat of that number: `fits` says so by
-- `back`. In between a seat of the cache lies in the slot. No two may take, or have taken, one
-- slot, and no two may collect one seat.
pub record IsKept (cache : AnyCache) (s : State Returned Known) : Type 0 where
  pub wide : length s.words ≡ seats_of cache
  pub deep : length s.homes ≡ seats_of cache
  pub returned : (slot : ℕ) → slot < seats_of cache → slice_index s.words slot ≢ 0
      → slice_index s.words slot ≢ 2 → IsReturned cache s.homes slot
  pub fits : (id : ℕ) (v : Known) → get_elem? s.views id ≡ maybe.some v →
      Fits cache s.words s.homes v
  pub one : (id other : ℕ) (v w : Known) (slot : ℕ) → get_elem? s.views id ≡ maybe.some v →
      get_elem? s.views other ≡ maybe.some w → IsAmong v slot → IsAmong w slot → id ≡ other
