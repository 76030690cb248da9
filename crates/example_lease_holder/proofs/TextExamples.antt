-- What is printed of some times and reads.
use lib.Utf8.{encode}
use Rattle.std.proofs.Common.{◌≡◌, refl}
use Rattle.std.specs.Prelude.{None, Some, codes}
use Rattle.std.specs.Fmt.{digits}
use Rattle.example_lease_holder.specs.declared.Plan.{Plan}
use Rattle.example_lease_holder.specs.Plans.{id_of}
use Rattle.example_lease_holder.specs.Texts.{time_text, reason_text}

pub times : time_text (record { wall = 20; logical = 1 }) ≡ codes "20.1"
unfolding digits
times = refl

-- a key that was read by nobody known
pub up_to : reason_text (codes "z")
    (record { time = record { wall = 10; logical = 0 }; owner = None }) None ≡
    codes "\"z\" may have been read up to 10.0"
unfolding digits
up_to = refl

-- a key that was read by a transaction
pub by_whom : (plan : Plan) → plan.name ≡ 65 →
    reason_text (codes "k") (record {
      time = record { wall = 20; logical = 0 };
      owner = Some (id_of 65);
    }) (Some plan) ≡ codes "\"k\" was read at 20.0 by A"
unfolding digits encode
by_whom plan is = rw is refl
