-- What is said of seats by their kinds, from one call to another.
use Rattle.tsc_shared.specs.Seats.{SeatView as SharedSeat}
use Rattle.tsc_striped.specs.Seats.{SeatView as StripedSeat}
use Rattle.tsc_ffi_store.specs.declared.seats.kinds.AnySeat.{AnySeat}
use Rattle.tsc_ffi_store.specs.declared.seats.kinds.AnySeat.TheVariants.{Shared, Striped}
use Rattle.tsc_ffi_store.specs.Kinds.{ByKind}

-- one call's answer is made of another's, of each kind by itself
pub by_kind : {A B : Type 0} (S : SharedSeat → SharedSeat → A → Type 0)
    (T : StripedSeat → StripedSeat → A → Type 0) (S' : SharedSeat → SharedSeat → B → Type 0)
    (T' : StripedSeat → StripedSeat → B → Type 0) (a : A) (b : B)
    → ((x y : SharedSeat) → S x y a → S' x y b) → ((x y : StripedSeat) → T x y a → T' x y b)
    → (old new : AnySeat) → ByKind S T old new a → ByKind S' T' old new b
by_kind S T S' T' a b shared striped (Shared x) (Shared y) is = shared x y is
by_kind S T S' T' a b shared striped (Shared x) (Striped y) is = absurd is
by_kind S T S' T' a b shared striped (Striped x) (Shared y) is = absurd is
by_kind S T S' T' a b shared striped (Striped x) (Striped y) is = striped x y is

-- an answer that leaves the seat as it is, of each kind by itself
pub by_same : {A : Type 0} (S : SharedSeat → SharedSeat → A → Type 0)
    (T : StripedSeat → StripedSeat → A → Type 0) (a : A) → ((x : SharedSeat) → S x x a)
    → ((x : StripedSeat) → T x x a) → (seat : AnySeat) → ByKind S T seat seat a
by_same S T a shared striped (Shared x) = shared x
by_same S T a shared striped (Striped x) = striped x

-- two calls, one after another, come to a third one, of each kind by itself
pub by_kind_more : {A B C : Type 0} (S : SharedSeat → SharedSeat → A → Type 0)
    (T : StripedSeat → StripedSeat → A → Type 0) (S' : SharedSeat → SharedSeat → B → Type 0)
    (T' : StripedSeat → StripedSeat → B → Type 0) (S'' : SharedSeat → SharedSeat → C → Type 0)
    (T'' : StripedSeat → StripedSeat → C → Type 0) (a : A) (b : B) (c : C)
    → ((x y z : SharedSeat) → S x y a → S' y z b → S'' x z c)
    → ((x y z : StripedSeat) → T x y a → T' y z b → T'' x z c)
    → (old mid new : AnySeat) → ByKind S T old mid a → ByKind S' T' mid new b
    → ByKind S'' T'' old new c
by_kind_more S T S' T' S'' T'' a b c shared striped (Shared x) (Shared y) (Shared z) one two =
    shared x y z one two
by_kind_more S T S' T' S'' T'' a b c shared striped (Shared x) (Shared y) (Striped z) one two =
    absurd two
by_kind_more S T S' T' S'' T'' a b c shared striped (Shared x) (Striped y) new one two = absurd one
by_kind_more S T S' T' S'' T'' a b c shared striped (Striped x) (Shared y) new one two = absurd one
by_kind_more S T S' T' S'' T'' a b c shared striped (Striped x) (Striped y) (Shared z) one two =
    absurd two
by_kind_more S T S' T' S'' T'' a b c shared striped (Striped x) (Striped y) (Striped z) one two =
    striped x y z one two
