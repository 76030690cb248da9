-- A value that is added at a single key.
use Rattle.std.specs.Prelude.{◌≡◌, ◌≤◌, List, false, Option, Some, None, Result, Ok, Err}
use Rattle.tsc_time.specs.ValueView.{ValueView}
use Rattle.tsc_span.specs.Span.{KeyBytes, before, point, is_below}
use Rattle.tsc_page_nodes.specs.declared.nodes.Growth.{Growth}
use Rattle.tsc_page_nodes.specs.Nodes.{Node, next_cut, node_stretches, AddsNodes, GrowsBy}

-- A key, and the value that is added there.
pub record KeyInsertionView : Type 0 where
  pub key : KeyBytes
  pub value : ValueView

-- What adding at a key that isn't below them makes of nodes, with what comes in, for which there is
-- room.
pub record AddsAtKey (old new : List Node) (a : KeyInsertionView) (room more : Growth) :
    Type 0 where
  pub low : is_below (before a.key) (next_cut (node_stretches old)) ≡ false
  pub adds : AddsNodes old new (Some a.key) None (point a.key) a.value
  pub grown : GrowsBy old new more
  pub within : (more.nodes ≤ room.nodes) × (more.bytes ≤ room.bytes)

-- what a call tells that adds at a key, or leaves all as it is
abbrev pub IsKeyReported : {E : Type 0} → (old new : List Node) → KeyInsertionView → Growth →
    Result (Option Growth) E → Type 0
IsKeyReported old new a room (Ok (Some more)) = AddsAtKey old new a room more
IsKeyReported old new a room (Ok None) = new ≡ old
IsKeyReported old new a room (Err e) = new ≡ old
