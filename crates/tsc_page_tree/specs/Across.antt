-- A value added over several subtrees, to the first and the last of which its end keys come.
use Rattle.std.specs.Prelude.{◌≡◌, ℕ, suc, ◌≤◌, ◌+◌, ◌-◌, List, [], length, drop, slice_index_or, Bool, true, false, Option, Some, None}
use Rattle.tsc_span.specs.Span.{KeyBytes, Cut, before, last, between, is_below}
use Rattle.tsc_page_model.specs.PageView.{is_in}
use Rattle.tsc_page_nodes.specs.Nodes.{Node, IsNewKey, GrowsBy, node_keys, with_new, raise_nodes}
use Rattle.tsc_page_nodes.specs.declared.nodes.Growth.{Growth}
use Rattle.tsc_page_nodes.specs.Insertions.{InsertionView}
use Rattle.tsc_page_tree.specs.Leaves.{nodes_of, start_of}
use Rattle.tsc_page_tree.specs.Lazy.{AddsSome}

-- a key has a node, where it is one
abbrev pub HasKey : Option KeyBytes → List Node → Type 0
HasKey None ns = Unit {0}
HasKey (Some k) ns = is_in k (node_keys ns) ≡ true

-- What a subtree and one behind it become where a span starts in the first and stops in the second:
-- each is raised, and the end keys have nodes.
pub record AreRaisedKnown (low new_low high new_high : List Node) (a : InsertionView) :
    Type 0 where
  pub first : HasKey a.first low
  pub second : HasKey a.second high
  pub raised_low : new_low ≡ raise_nodes (between a.from last) a.value low
  pub raised_high : new_high ≡ raise_nodes (between (before []) a.to) a.value high

-- two subtrees are raised, where the end keys have nodes, or both stay
abbrev pub IsKnownReported : (low new_low high new_high : List Node) → InsertionView → Bool → Type 0
IsKnownReported low new_low high new_high a true = AreRaisedKnown low new_low high new_high a
IsKnownReported low new_low high new_high a false = (new_low ≡ low) × (new_high ≡ high)

-- a new key lies behind where nodes begin
abbrev pub LiesBehind : List Node → Option (ℕ × KeyBytes) → Type 0
LiesBehind ns None = Unit {0}
LiesBehind ns (Some f) = is_below (before f.1) (start_of ns) ≡ false

-- Nodes with that of a key, where it is one: it has a node already, or one comes in behind the
-- first of them.
pub record MakesOne (old new : List Node) (o : Option KeyBytes) (found : Option (ℕ × KeyBytes))
    (more : Growth) : Type 0 where
  pub is_new : IsNewKey old o found
  pub behind : LiesBehind old found
  pub nodes : new ≡ with_new old found
  pub grown : GrowsBy old new more

-- Two growths together.
pub record AreGrowths (one two both : Growth) : Type 0 where
  pub nodes : both.nodes ≡ one.nodes + two.nodes
  pub bytes : both.bytes ≡ one.bytes + two.bytes

-- What a subtree and one behind it become where a span starts in the first and stops in the second:
-- the end keys get nodes, where they have none, and each is raised.
pub record AreRaisedAcross (low new_low high new_high : List Node) (a : InsertionView)
    (more : Growth) : Type 0 where
  pub mid_low : List Node
  pub mid_high : List Node
  pub lower : Option (ℕ × KeyBytes)
  pub upper : Option (ℕ × KeyBytes)
  pub more_low : Growth
  pub more_high : Growth
  pub first : MakesOne low mid_low a.first lower more_low
  pub second : MakesOne high mid_high a.second upper more_high
  pub raised_low : new_low ≡ raise_nodes (between a.from last) a.value mid_low
  pub raised_high : new_high ≡ raise_nodes (between (before []) a.to) a.value mid_high
  pub grown : AreGrowths more_low more_high more

-- two subtrees are raised, with nodes of the end keys, or both stay
abbrev pub IsAcrossReported : (low new_low high new_high : List Node) → InsertionView → ℕ →
    Option Growth → Type 0
IsAcrossReported low new_low high new_high a room (Some more) =
    AreRaisedAcross low new_low high new_high a more × (more.bytes ≤ room)
IsAcrossReported low new_low high new_high a room None = (new_low ≡ low) × (new_high ≡ high)

-- what a call makes of the nodes of one list of subtrees that adds over several of these, or leaves
-- all as it is
abbrev pub IsOverReported : (old new : List Node) → InsertionView → ℕ → Option Growth → Type 0
IsOverReported old new a room (Some more) = AddsSome old new a room more
IsOverReported old new a room None = new ≡ old

-- The last subtree that a span reaches which stops at a cut, or the first one.
pub record IsLastReached (ls : List (List Node)) (t : Cut) (p : ℕ) : Type 0 where
  pub bound : p ≤ length ls - 1
  pub reaches : 1 ≤ p → is_below (start_of (slice_index_or ls p [])) t ≡ true
  pub stops : is_below (start_of (nodes_of (drop (suc p) ls))) t ≡ false
