-- The elements of a list, as they lie in chunks.
use Rattle.std.specs.Prelude.{◌≡◌, ℕ, ◌≤◌, List, [], ◌∷◌, ◌++◌, map, take, length}
use Rattle.std.specs.Arc.{arc_value}
use Rattle.std.specs.declared.sync.Arc.{Arc}
use Rattle.std.specs.declared.alloc.Global.{Global}
use Rattle.std.specs.declared.collections.VecDeque.{VecDeque}

-- elements that lists share
abbrev pub Chunk : Type 0 → Type 0
Chunk T = VecDeque (Arc T Global) Global

-- a list of such chunks
abbrev pub Chunks : Type 0 → Type 0
Chunks T = VecDeque (Arc (Chunk T) Global) Global

-- the elements of a chunk
abbrev pub in_chunk : {T : Type 0} → Chunk T → List T
in_chunk c = map (λ e. arc_value e) c.items

-- what can be seen of the elements of each chunk
abbrev pub in_chunks : {T : Type 0} → Chunks T → List (List T)
in_chunks cs = map (λ c. in_chunk (arc_value c)) cs.items

-- lists one after another
abbrev pub joined : {A : Type 0} → List (List A) → List A
joined [] = []
joined (xs ∷ xss) = xs ++ joined xss

-- each list but the last one has 256 members, and that one has at most as many
abbrev pub AreFull : {A : Type 0} → List (List A) → Type 0
AreFull [] = Unit {0}
AreFull (xs ∷ []) = length xs ≤ 256
AreFull (xs ∷ ys ∷ yss) = (length xs ≡ 256) × AreFull (ys ∷ yss)

-- Chunks that have lost what stands behind their first k members, or a part of that.
pub record IsCutTo {A : Type 0} (k : ℕ) (xss yss : List (List A)) : Type 0 where
  pub full : AreFull yss
  pub within : k ≤ length (joined yss)
  pub same : take k (joined yss) ≡ take k (joined xss)
