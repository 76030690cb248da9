-- The ratchet order is a partial order.
use Rattle.std.proofs.Common.{◌≡◌, ◌∙◌, refl, arith, inr, ap}
use Rattle.std.specs.Prelude.{Option}
use Rattle.tsc_time.specs.Time.{Time}
use Rattle.tsc_time.specs.ValueView.{Owner, ValueView}
use Rattle.tsc_time.specs.Joint.{IsAtMost}
use Rattle.tsc_time.proofs.TimeOrder.{is_before-itself, is_before-opposite, is_before-transitive}

-- two owned times of the same parts are the same
pub same_owned : (v w : ValueView) → v.time ≡ w.time → v.owner ≡ w.owner → v ≡ w
same_owned v w e f =
    let of : Time → Option Owner → ValueView =
    λ time owner. record { time = time; owner = owner } in
    ap (λ t. of t v.owner) e ∙ ap (of w.time) f

pub IsAtMost-itself : (v : ValueView) → IsAtMost v v
IsAtMost-itself v = inr (refl, inr refl)

pub IsAtMost-antisymmetric : (v w : ValueView) → IsAtMost v w → IsAtMost w v → v ≡ w
IsAtMost-antisymmetric v w p q = grind (arith, is_before-itself, is_before-opposite, same_owned)

pub IsAtMost-transitive : (u v w : ValueView) → IsAtMost u v → IsAtMost v w → IsAtMost u w
IsAtMost-transitive u v w p q = grind (arith, is_before-transitive)
