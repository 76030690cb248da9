-- As many new seats as were asked for.
use Rattle.std.proofs.Common.{◌≡◌, ◌∙◌, refl, ap, ℕ, zero, suc, List, [], ◌∷◌, length, map}
use Rattle.atomic_table.specs.Seated.{TableId}
use Rattle.tsc_ffi_store.specs.declared.seats.kinds.AnyCache.{AnyCache}
use Rattle.tsc_ffi_store.specs.declared.seats.kinds.AnySeat.{AnySeat}
use Rattle.tsc_ffi_store.specs.Kinds.{new_any_seats}
use Rattle.tsc_ffi_store.specs.Owners.{HandleView, handle_of}
use Rattle.tsc_ffi_store.specs.declared.store.Slot.{Slot}
use Rattle.tsc_ffi_store.specs.declared.store.Slot.TheVariants.{Seat}
use Rattle.tsc_ffi_store.specs.SeatCalls.{unasked}

new_seats_long : (cache : AnyCache) (handle n : ℕ) → length (new_any_seats cache handle n) ≡ n
new_seats_long cache handle zero = refl
new_seats_long cache handle (suc n) = ap suc (new_seats_long cache (suc handle) n)

handles_long : (returns : TableId) (seats : List AnySeat) →
    length (map (handle_of returns) seats) ≡ length seats
handles_long returns [] = refl
handles_long returns (seat ∷ seats) = ap suc (handles_long returns seats)

-- handles in the order of the seats are as many
pub new_handles_long : (cache : AnyCache) (returns : TableId) (n : ℕ)
    (handles : List HandleView) → handles ≡ map (handle_of returns) (new_any_seats cache 0 n) →
    length handles ≡ n
new_handles_long cache returns n handles is = ap length is ∙
    handles_long returns (new_any_seats cache 0 n) ∙ new_seats_long cache 0 n

-- the slots of handles are those of their seats
pub slots_of_seats : (at : ℕ) (returns : TableId) (seats : List AnySeat) →
    map (λ (s : HandleView). Seat (unasked at s)) (map (handle_of returns) seats) ≡
    map (λ (s : AnySeat). Seat (unasked at (handle_of returns s))) seats
slots_of_seats at returns [] = refl
slots_of_seats at returns (seat ∷ seats) =
    ap (λ (l : List Slot). Seat (unasked at (handle_of returns seat)) ∷ l)
    (slots_of_seats at returns seats)
