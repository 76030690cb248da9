-- A value that is added between two cuts.
use Rattle.std.specs.Prelude.{◌≡◌, ◌≤◌, ◌+◌, ◌⊎◌, ℕ, List, true, Option, Some, None, Result, Ok, Err}
use Rattle.std.specs.declared.vec.Vec.{Vec}
use Rattle.std.specs.Vec.{vec_len, vec_capacity}
use Rattle.tsc_time.specs.ValueView.{ValueView}
use Rattle.tsc_span.specs.Span.{KeyBytes, Cut, before, after, between, is_below}
use Rattle.tsc_page_nodes.specs.declared.nodes.Growth.{Growth}
use Rattle.tsc_page_nodes.specs.Nodes.{Node, IsSorted, IsInOrder, FitsIn, with_new, AddsNodes, GrowsBy}

-- a key at a cut, where it is one
abbrev pub LiesAt : Option KeyBytes → Cut → Type 0
LiesAt None c = Unit {0}
LiesAt (Some k) c = (c ≡ before k) ⊎ (c ≡ after k)

-- What is added: a value within two cuts, at which two keys lie.
pub record InsertionView : Type 0 where
  pub first : Option KeyBytes
  pub second : Option KeyBytes
  pub from : Cut
  pub to : Cut
  pub value : ValueView

-- what is added without its second key, for nodes before those that begin at that key
abbrev pub before_second : InsertionView → InsertionView
before_second a = record {
  first = a.first;
  second = None;
  from = a.from;
  to = a.to;
  value = a.value;
}

-- the cuts are in order, as are the keys, which lie at them
abbrev pub IsInsertionView : InsertionView → Type 0
IsInsertionView a = (is_below a.from a.to ≡ true) × LiesAt a.first a.from × LiesAt a.second a.to ×
    IsInOrder a.first a.second

-- What an Add makes of nodes, with what comes in, for which there is room.
pub record AddsWithin (old new : List Node) (a : InsertionView) (room more : Growth) : Type 0 where
  pub adds : AddsNodes old new a.first a.second (between a.from a.to) a.value
  pub grown : GrowsBy old new more
  pub within : (more.nodes ≤ room.nodes) × (more.bytes ≤ room.bytes)

-- what a call tells that adds, or leaves all as it is
abbrev pub IsReported : {E : Type 0} → (old new : List Node) → InsertionView → Growth →
    Result (Option Growth) E → Type 0
IsReported old new a room (Ok (Some more)) = AddsWithin old new a room more
IsReported old new a room (Ok None) = new ≡ old
IsReported old new a room (Err e) = new ≡ old

-- What an Add makes of two lists of nodes, each of which gets a node more at the most.
pub record AddsToBoth (low new_low high new_high : List Node) (a b : InsertionView) (room : ℕ)
    (more : Growth) : Type 0 where
  pub more_low : Growth
  pub more_high : Growth
  pub adds_low : AddsWithin low new_low a (record { nodes = 1; bytes = room }) more_low
  pub adds_high : AddsWithin high new_high b (record { nodes = 1; bytes = room }) more_high
  pub nodes : more.nodes ≡ more_low.nodes + more_high.nodes
  pub bytes : more.bytes ≡ more_low.bytes + more_high.bytes
  pub within : more.bytes ≤ room

-- what a call tells that adds to both, or leaves both as they are
abbrev pub IsBothReported : {E : Type 0} → (low new_low high new_high : List Node) →
    InsertionView → InsertionView → ℕ → Result (Option Growth) E → Type 0
IsBothReported low new_low high new_high a b room (Ok (Some more)) =
    AddsToBoth low new_low high new_high a b room more
IsBothReported low new_low high new_high a b room (Ok None) = (new_low ≡ low) × (new_high ≡ high)
IsBothReported low new_low high new_high a b room (Err e) = (new_low ≡ low) × (new_high ≡ high)

-- Two new keys that fit in nodes, of which the second comes in first.
pub record AreReady (nodes : List Node) (lower upper : Option (ℕ × KeyBytes)) : Type 0 where
  pub second : FitsIn nodes upper
  pub first : FitsIn (with_new nodes upper) lower
  pub sorted : IsSorted (with_new (with_new nodes upper) lower)

-- Two lists, each with room for `more` items more.
pub record HaveRoom {K V Z : Type 0} (keys : Vec K Z) (values : Vec V Z) (more : ℕ) : Type 0 where
  pub key_room : vec_len keys + more ≤ vec_capacity keys
  pub value_room : vec_len values + more ≤ vec_capacity values
