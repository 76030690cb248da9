-- A value that is held back above nodes, and the joint value of all of them.
use Rattle.std.specs.Prelude.{◌≡◌, List, [], ◌∷◌, ◌++◌, ℕ, ◌≤◌, ◌+◌, length, Bool, Option, Some, None, Result, Ok, Err, slice_get, sum, if◌then◌else◌}
use Rattle.tsc_time.specs.ValueView.{ValueView}
use Rattle.tsc_time.specs.Joint.{joint}
use Rattle.tsc_span.specs.Span.{before, last, SpanView, between}
use Rattle.tsc_page_model.specs.PageView.{AreLeafSizes}
use Rattle.tsc_span.specs.Prefixes.{IsCutPrefix}
use Rattle.tsc_page_nodes.specs.Nodes.{Node, AddsNodes, GrowsBy, answer_of, raise_nodes}
use Rattle.tsc_page_nodes.specs.declared.nodes.Growth.{Growth}
use Rattle.tsc_page_nodes.specs.Insertions.{InsertionView}
use Rattle.tsc_page_tree.specs.Leaves.{start_of}

-- all keys and gaps
abbrev pub everything : SpanView
everything = between (before []) last

-- nodes with a value that is still to be ratcheted into all of them
abbrev pub with_lazy : Option ValueView → List Node → List Node
with_lazy None ns = ns
with_lazy (Some v) ns = raise_nodes everything v ns

-- the joint value of all keys and gaps
abbrev pub all_joint : List Node → ValueView
all_joint ns = answer_of ns everything

-- one value more that is held back
abbrev pub merged : Option ValueView → ValueView → ValueView
merged None v = v
merged (Some w) v = joint w (v ∷ [])

-- a value with one that is held back, where it is reached
abbrev pub seen_with : Option ValueView → Bool → ValueView → ValueView
seen_with None reached w = w
seen_with (Some v) reached w = if reached then joint w (v ∷ []) else w

-- What an aggregate says of nodes over which a value is held back: where they begin, and the joint
-- value of all.
pub record IsReportedOf (prefix : ℕ) (all : ValueView) (lazy : Option ValueView) (ns : List Node) :
    Type 0 where
  pub some : 1 ≤ length ns
  pub start : IsCutPrefix prefix (start_of ns)
  pub joint : all ≡ all_joint (with_lazy lazy ns)

-- the sizes of the leaves of all subtrees
abbrev pub sizes_of : List (List ℕ) → List ℕ
sizes_of [] = []
sizes_of (s ∷ ss) = s ++ sizes_of ss

-- Sizes of leaves that add up to the number of the nodes.
pub record AreSizesOf (sizes : List ℕ) (ns : List Node) : Type 0 where
  pub few : AreLeafSizes sizes
  pub total : sum sizes ≡ length ns

-- the size at a place, or how many places it lies behind all
abbrev pub ReportsSize : List ℕ → ℕ → Result ℕ ℕ → Type 0
ReportsSize sizes index (Ok n) = slice_get sizes index ≡ Some n
ReportsSize sizes index (Err rest) = index ≡ length sizes + rest

-- What an Add makes of nodes, with what comes in, which costs no more than there is room for.
pub record AddsSome (old new : List Node) (a : InsertionView) (room : ℕ) (more : Growth) :
    Type 0 where
  pub adds : AddsNodes old new a.first a.second (between a.from a.to) a.value
  pub grown : GrowsBy old new more
  pub within : more.bytes ≤ room

-- what a call tells that adds, or leaves all as it is
abbrev pub IsAddReported : {E : Type 0} → (old new : List Node) (was now : List ℕ) → InsertionView →
    ℕ → Result (Option Growth) E → Type 0
IsAddReported old new was now a room (Ok (Some more)) = AddsSome old new a room more
IsAddReported old new was now a room (Ok None) = (new ≡ old) × (now ≡ was)
IsAddReported old new was now a room (Err e) = (new ≡ old) × (now ≡ was)

-- the joint value of all, once such a call is done
abbrev pub joint_after : {E : Type 0} → Result (Option Growth) E → Bool → ValueView → ValueView →
    ValueView
joint_after (Ok (Some more)) reached v w = if reached then joint w (v ∷ []) else w
joint_after (Ok None) reached v w = w
joint_after (Err e) reached v w = w
