-- A value that is added at a single key.
use Rattle.std.specs.Prelude.{◌≡◌, List, ℕ, false, Option, Some, None, Result, Ok, Err}
use Rattle.tsc_span.specs.Span.{before, after, is_below}
use Rattle.tsc_page_nodes.specs.declared.nodes.Growth.{Growth}
use Rattle.tsc_page_nodes.specs.Nodes.{Node}
use Rattle.tsc_page_nodes.specs.KeyAdds.{KeyInsertionView}
use Rattle.tsc_page_nodes.specs.Insertions.{InsertionView}
use Rattle.tsc_page_tree.specs.Leaves.{start_of}
use Rattle.tsc_page_tree.specs.Lazy.{AddsSome}

-- what is added, within the cuts at its key
abbrev pub at_key : KeyInsertionView → InsertionView
at_key a = record {
  first = Some a.key;
  second = None;
  from = before a.key;
  to = after a.key;
  value = a.value;
}

-- What adding at a key that isn't below them makes of nodes, with what comes in, which costs no
-- more than there is room for.
pub record AddsKey (old new : List Node) (a : KeyInsertionView) (room : ℕ) (more : Growth) :
    Type 0 where
  pub low : is_below (before a.key) (start_of old) ≡ false
  pub some : AddsSome old new (at_key a) room more

-- what a call tells that adds at a key, or leaves all as it is
abbrev pub IsKeyAddReported : {E : Type 0} → (old new : List Node) (was now : List ℕ) →
    KeyInsertionView → ℕ →
    Result (Option Growth) E → Type 0
IsKeyAddReported old new was now a room (Ok (Some more)) = AddsKey old new a room more
IsKeyAddReported old new was now a room (Ok None) = (new ≡ old) × (now ≡ was)
IsKeyAddReported old new was now a room (Err e) = (new ≡ old) × (now ≡ was)
