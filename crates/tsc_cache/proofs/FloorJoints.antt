-- The joint value above a floor is the least that the floor and each of the list is at most.
use Rattle.std.proofs.Common.{◌≡◌, inl, inr, refl, List, ◌∷◌, false, arith}
use Rattle.std.specs.List.{Contains}
use Rattle.tsc_time.specs.Time.{Time, is_before}
use Rattle.tsc_time.specs.ValueView.{ValueView, unowned}
use Rattle.tsc_time.specs.Joint.{joint_above, IsAtMost}
use Rattle.tsc_time.proofs.TimeOrder.{is_before-reports, same_parts}
use Rattle.tsc_time.proofs.Members.{IsIn-from_Contains, Contains-from_IsIn}
use Rattle.tsc_time.proofs.RatchetOrder.{IsAtMost-transitive}
use Rattle.tsc_time.proofs.JointLemmas.{joint-above, joint-least}

pub above_floor : (floor : Time) (vs : List ValueView) →
    IsAtMost (unowned floor) (joint_above floor vs)
above_floor floor vs = joint-above (unowned floor) vs (unowned floor)
    (Contains-from_IsIn (unowned floor ∷ vs) (unowned floor) (inl refl))

pub above_each : (floor : Time) (vs : List ValueView) (v : ValueView) → Contains vs v →
    IsAtMost v (joint_above floor vs)
above_each floor vs v c = joint-above (unowned floor) vs v
    (Contains-from_IsIn (unowned floor ∷ vs) v (inr (IsIn-from_Contains vs v c)))

pub least_above : (floor : Time) (vs : List ValueView) (u : ValueView) →
    IsAtMost (unowned floor) u → ((v : ValueView) → Contains vs v → IsAtMost v u) →
    IsAtMost (joint_above floor vs) u
least_above floor vs u low each = joint-least (unowned floor) vs u
    (λ x c. elim (IsIn-from_Contains (unowned floor ∷ vs) x c) [
      | inl e ↦ rw (← e) low
      | inr i ↦ each x (Contains-from_IsIn vs x i)
    ])

-- a value that is not above an unowned time is at most that
pub at_most_unowned : (t : Time) (v : ValueView) → is_before t v.time ≡ false →
    IsAtMost v (unowned t)
at_most_unowned t v h = grind (arith, is_before-reports, same_parts)

-- a higher floor and more values come to no less
pub more_above : (low high : Time) (vs ws : List ValueView) → is_before high low ≡ false →
    ((v : ValueView) → Contains vs v → Contains ws v) →
    IsAtMost (joint_above low vs) (joint_above high ws)
more_above low high vs ws rises more = least_above low vs (joint_above high ws)
    (IsAtMost-transitive (unowned low) (unowned high) (joint_above high ws)
    (at_most_unowned high (unowned low) rises) (above_floor high ws))
    (λ v c. above_each high ws v (more v c))
