-- Times and ids of rows.
use Rattle.std.proofs.Common.{◌≡◌, ◌∙◌, ap, refl, ℕ, Bool, true, false}
use Rattle.std.specs.Prelude.{Some, None, unwrap_or, if◌then◌else◌}
use Rattle.std.specs.Int.{to_be_bytes, w128}
use Rattle.timestamp_cache.specs.Words.{Time, Owner}
use Rattle.example_hand_over.specs.Tables.{id_of}

-- the time that there is, or another one
pub time_or : (b : Bool) (time other : Time) →
    unwrap_or (if b then Some time else None) other ≡ (if b then time else other)
time_or true time other = refl
time_or false time other = refl

-- the id of a name
pub id_is : (name number : ℕ) (id : Owner) → id ≡ to_be_bytes w128 number → number ≡ name →
    id ≡ id_of name
unfolding id_of
id_is name number id is same = is ∙ ap (to_be_bytes w128) same
