-- What holds of each kind of seats holds of those of a cache of reads.
use Rattle.std.specs.Prelude.{◌≡◌}
use Rattle.std.proofs.Common.{◌∙◌, ap}
use Rattle.timestamp_cache.specs.Words.{Time, Owner, SpanView, BeginsWith}
use Rattle.timestamp_cache.specs.Clear.{IsClearOf, IsClearOfReads}
use Rattle.timestamp_cache.specs.SeatLaws.{SeatLaws, shared_seat_laws}
use Rattle.tsc_striped_leases.specs.StripedSeats.{striped_seat_laws}
use Rattle.example_lease_holder.specs.declared.reads.ReadCache.{ReadCache}
use Rattle.example_lease_holder.specs.declared.reads.ReadCache.TheVariants as cache
use Rattle.example_lease_holder.specs.declared.reads.ReadSeat.{ReadSeat}
use Rattle.example_lease_holder.specs.declared.reads.ReadSeat.TheVariants.{Copies, Stripes}
use Rattle.example_lease_holder.specs.ReadSeats.{seen_by, cache_of, GoesOn, answer_of, read_seat}

begins : (old new : ReadSeat) → GoesOn old new → BeginsWith (seen_by new) (seen_by old)
begins (Copies old) (Copies new) on = shared_seat_laws.begins old new on
begins (Copies old) (Stripes new) on = absurd on
begins (Stripes old) (Copies new) on = absurd on
begins (Stripes old) (Stripes new) on = striped_seat_laws.begins old new on

onward : (old next new : ReadSeat) → GoesOn old next → GoesOn next new → GoesOn old new
onward (Copies old) (Copies next) (Copies new) first second =
    shared_seat_laws.onward old next new first second
onward (Copies old) (Copies next) (Stripes new) first second = absurd second
onward (Copies old) (Stripes next) new first second = absurd first
onward (Stripes old) (Copies next) new first second = absurd first
onward (Stripes old) (Stripes next) (Copies new) first second = absurd second
onward (Stripes old) (Stripes next) (Stripes new) first second =
    striped_seat_laws.onward old next new first second

stays : (old new : ReadSeat) → GoesOn old new → GoesOn new new
stays (Copies old) (Copies new) on = shared_seat_laws.stays old new on
stays (Copies old) (Stripes new) on = absurd on
stays (Stripes old) (Copies new) on = absurd on
stays (Stripes old) (Stripes new) on = striped_seat_laws.stays old new on

clear : (old new : ReadSeat) (span : SpanView) (by : Owner) (at : Time) → GoesOn old new
    → IsClearOf (answer_of (cache_of old) (seen_by new) span) by at → IsClearOfReads (seen_by new) span by at
clear (Copies old) (Copies new) span by at on = shared_seat_laws.clear old new span by at on
clear (Copies old) (Stripes new) span by at on = absurd on
clear (Stripes old) (Copies new) span by at on = absurd on
clear (Stripes old) (Stripes new) span by at on = striped_seat_laws.clear old new span by at on

pub read_seat_laws : SeatLaws read_seat
read_seat_laws = record { begins = begins; onward = onward; stays = stays; clear = clear }

-- a seat that goes on stays at its cache
pub stays_at : (old new : ReadSeat) → GoesOn old new → cache_of new ≡ cache_of old
stays_at (Copies old) (Copies new) on = ap cache.Copies on.cache
stays_at (Copies old) (Stripes new) on = absurd on
stays_at (Stripes old) (Copies new) on = absurd on
stays_at (Stripes old) (Stripes new) on = ap cache.Stripes on.cache

pub read_seat_stays : (at : ReadCache) (old new : ReadSeat) → cache_of old ≡ at → GoesOn old new
    → cache_of new ≡ at
read_seat_stays at old new own on = stays_at old new on ∙ own
