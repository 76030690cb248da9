-- What subtrees have in common with their copies, and with what they are once values were raised in
-- them.
use Rattle.std.specs.Prelude.{◌≡◌, ℕ, List, Bool, false, length, map}
use Rattle.std.specs.List.{All}
use Rattle.tsc_page_nodes.specs.Nodes.{Node}

-- A subtree q stands for the nodes of a subtree p, in leaves of equal sizes.
pub record IsSameAs {P : Type 0} (nodes_in : P → List Node) (sizes_in : P → List ℕ)
    (IsWhole : P → Type 0) (p q : P) : Type 0 where
  pub nodes : nodes_in q ≡ nodes_in p
  pub sizes : sizes_in q ≡ sizes_in p
  pub whole : IsWhole p → IsWhole q

-- A subtree is whole, and unless something was done its leaves have as many nodes as before.
pub record KeepsSizes {P : Type 0} (sizes_in : P → List ℕ) (IsWhole : P → Type 0) (old new : P)
    (done : Bool) : Type 0 where
  pub sizes : done ≡ false → sizes_in new ≡ sizes_in old
  pub whole : IsWhole new

-- Subtrees are whole and as many as before, and unless something was done so are the nodes of each
-- leaf.
pub record AllKeepSizes {P : Type 0} (sizes_in : P → List ℕ) (IsWhole : P → Type 0)
    (old new : List P) (done : Bool) : Type 0 where
  pub sizes : done ≡ false → map sizes_in new ≡ map sizes_in old
  pub whole : All IsWhole new
  pub len : length new ≡ length old
