-- The steps at the slots in which seats are returned.
use Rattle.std.specs.Prelude.{◌≡◌, ◌≢◌, ◌⊎◌, ℕ, ◌+◌, ◌<◌, ◌==◌, List, [], ◌∷◌, ◌++◌, All, true, Some, None, if◌then◌else◌}
use Rattle.atomic_table.specs.Table.{Step, Me}
use Rattle.atomic_table.specs.Seated.{TableId}
use Rattle.tsc_ffi_store.specs.declared.seats.return_slots.Known.{Known}
use Rattle.tsc_ffi_store.specs.declared.seats.kinds.AnyCache.{AnyCache}
use Rattle.tsc_ffi_store.specs.declared.seats.kinds.AnySeat.{AnySeat}
use Rattle.tsc_ffi_store.specs.Kinds.{seats_of, cache_of, number_of}
use Rattle.tsc_ffi_store.specs.ReturnSlots.{Returned, dealing, spare, came, also_back}

-- what one knows, and what it has in hand
abbrev pub At : Type 0
At = Me Returned Known

-- the other tokens, once the first was dealt, and the first token
abbrev pub others : Known → Known
others v = dealing v.cache (v.from + 1) v.to v.returned

abbrev pub first : Known → Known
first v = dealing None v.from (v.from + 1) 0

-- A token takes its slot.
abbrev pub takes_slot : Step Returned → At → ℕ → At → Type 0
takes_slot st me found me' = (x : Returned) ×
    (me' ≡ (record me.0 { taken = true }, (me.0.from, x) ∷ []))

-- what is known of what was laid in a slot
abbrev pub came_as : Returned → Known
came_as None = spare
came_as (Some seat) = came seat

abbrev pub came_in : List (ℕ × Returned) → Known
came_in [] = spare
came_in (x ∷ xs) = came_as x.1

-- A seat is returned, as the token knows from then on.
abbrev pub returns_seat : Step Returned → At → ℕ → At → Type 0
returns_seat st me found me' = me' ≡ (came_in me.1, [])

-- What a look at the word of a slot tells: one seat more is returned. Where the word is 0, that
-- slot is missed.
abbrev pub seen_returned : Known → ℕ → ℕ → Known
seen_returned v slot found = if found == 0 then record v { missed = v.missed ++ slot ∷ [] }
    else record v { returned = v.returned + 1 }

-- A look at whether the next seat is returned. Where it is not, no seat of that number is known to
-- be.
abbrev pub sees_returned : Step Returned → At → ℕ → At → Type 0
sees_returned st me found me' = (me' ≡ (seen_returned me.0 st.word found, me.1))
    × (found ≡ 0 → All (λ s. number_of s ≢ st.word) me.0.back)

-- A seat of this cache was collected. If a seat of its number is known to be back, it is that one.
pub record IsCollected (v : Known) (number : ℕ) (seat : AnySeat) : Type 0 where
  pub its : (c : AnyCache) → v.cache ≡ Some c → cache_of seat ≡ c
  pub known : All (λ s. number_of s ≡ number → s ≡ seat) v.back
  pub low : (c : AnyCache) → v.cache ≡ Some c → All (λ s. number_of s < seats_of c) v.back

-- The next seat is collected: its slot is in hand.
abbrev pub collects : Step Returned → At → ℕ → At → Type 0
collects st me stored me' = (seat : AnySeat) × IsCollected me.0 st.word seat
    × (me' ≡ (record me.0 { from = me.0.from + 1 }, (st.word, Some seat) ∷ me.1))

-- What another token knows is learned, just where it is of this table.
abbrev pub LearnsBy : TableId → TableId → Known → At → At → Type 0
LearnsBy table its knows me me' =
    ((table ≡ its) × (me' ≡ (also_back me.0 knows, me.1))) ⊎ ((table ≢ its) × (me' ≡ me))
