-- What follows from the definitions, stated for every value.
use Rattle.std.specs.Prelude.{◌≡◌, ◌↔◌, List, ◌∷◌, Contains, true, false}
use Rattle.tsc_time.specs.Time.{Time, is_in_range, is_before}
use Rattle.tsc_time.specs.ValueView.{ValueView}
use Rattle.tsc_time.specs.Joint.{joint, IsAtMost}

-- both times are in range, and no time in range is before the first or after the last
pub record IsRange (first last : Time) : Type 0 where
  pub first_in_range : is_in_range first ≡ true
  pub last_in_range : is_in_range last ≡ true
  pub none_before : (t : Time) → is_in_range t ≡ true → is_before t first ≡ false
  pub none_after : (t : Time) → is_in_range t ≡ true → is_before last t ≡ false

-- the ratchet order is a partial order
pub record IsRatchetOrder : Type 0 where
  pub itself : (v : ValueView) → IsAtMost v v
  pub antisymmetric : (v w : ValueView) → IsAtMost v w → IsAtMost w v → v ≡ w
  pub transitive : (u v w : ValueView) → IsAtMost u v → IsAtMost v w → IsAtMost u w

-- the joint value is the least that each of the list is at most
pub record IsLeastAbove : Type 0 where
  pub above : (v : ValueView) (vs : List ValueView) (x : ValueView) → Contains (v ∷ vs) x →
      IsAtMost x (joint v vs)
  pub least : (v : ValueView) (vs : List ValueView) (u : ValueView) →
      ((x : ValueView) → Contains (v ∷ vs) x → IsAtMost x u) → IsAtMost (joint v vs) u

-- lists that hold one set of values, in whatever order and however often, have one joint value
abbrev pub SameJoint : Type 0
SameJoint = (v w : ValueView) (vs ws : List ValueView) →
    ((x : ValueView) → Contains (v ∷ vs) x ↔ Contains (w ∷ ws) x) → joint v vs ≡ joint w ws
