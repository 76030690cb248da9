-- Seats of a new cache, one after another.
use Rattle.std.proofs.Common.{◌≡◌, ◌∙◌, refl, sym, ap, subst, ℕ, zero, suc, List, [], ◌∷◌, ◌++◌, map, append_assoc}
use Rattle.tsc_shared.specs.Seats.{SharedView, SeatView, new_seats}
use Rattle.tsc_ffi_store.specs.declared.seats.kinds.AnyCache.{AnyCache}
use Rattle.tsc_ffi_store.specs.declared.seats.kinds.AnyCache.TheVariants as kind
use Rattle.tsc_ffi_store.specs.declared.seats.kinds.AnySeat.{AnySeat}
use Rattle.tsc_ffi_store.specs.declared.seats.kinds.AnySeat.TheVariants.{Shared}
use Rattle.tsc_ffi_store.specs.Kinds.{new_any_seat, new_any_seats}

-- new seats of a shared cache, as seats of either kind
pub new_shared : (c : SharedView) (number count : ℕ)
    → map Shared (new_seats c number count) ≡ new_any_seats (kind.Shared c) number count
new_shared c number zero = refl
new_shared c number (suc count) =
    ap (λ (xs : List AnySeat). new_any_seat (kind.Shared c) number ∷ xs)
    (new_shared c (suc number) count)

pub one_dealt : (c : AnyCache) (number left less : ℕ) (all more whole : List AnySeat)
    (seat : AnySeat) → left ≡ suc less → all ++ new_any_seats c number left ≡ whole
    → seat ≡ new_any_seat c number → more ≡ all ++ seat ∷ []
    → more ++ new_any_seats c (suc number) less ≡ whole
one_dealt c number left less all more whole seat some so_far is pushed =
    ap (λ (xs : List AnySeat). xs ++ new_any_seats c (suc number) less) pushed
    ∙ append_assoc all (seat ∷ []) (new_any_seats c (suc number) less)
    ∙ ap (λ (x : AnySeat). all ++ x ∷ new_any_seats c (suc number) less) is
    ∙ ap (λ (n : ℕ). all ++ new_any_seats c number n) (sym some) ∙ so_far
