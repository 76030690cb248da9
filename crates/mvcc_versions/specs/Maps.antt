-- Maps of chains, and how versions are laid down there.
use Rattle.std.specs.Prelude.{ℕ, ◌+◌, ◌^◌, ◌<◌, List, [], ◌∷◌, length, map, Option, Some, None}
use Rattle.std.specs.List.{AllByRecursion}
use Rattle.std.specs.BTreeMap.{is_at}
use Rattle.std.specs.Map.{lookup}
use Rattle.tsc_span.specs.Span.{key_cmp}
use Rattle.timestamp_cache.specs.Words.{Time, Owner, KeyBytes}
use Rattle.mvcc_versions.specs.Versions.{Version, Write, Chains}

-- There is a chain, and `n` versions more can stand in it.
abbrev pub IsRoom : ℕ → Option (List Version) → Type 0
IsRoom n None = ⊥
IsRoom n (Some vs) = length vs + n < 2 ^ 63

-- A key has a chain, with room for `n` versions more.
abbrev pub HasRoom : ℕ → Chains → KeyBytes → Type 0
HasRoom n chains k = IsRoom n (lookup (is_at (key_cmp k)) chains)

-- each key that is written has room in its chain
abbrev pub HaveRoom : ℕ → Chains → List Write → Type 0
HaveRoom n chains writes = AllByRecursion (λ w. HasRoom n chains w.key) writes

-- the versions that writes lay down, each as a chain of its own
abbrev pub nodes_of : Time → Owner → List Write → List (List Version)
nodes_of at by writes = map (λ w. record { at = at; by = by; content = w.content } ∷ []) writes
