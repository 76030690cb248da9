-- Stripes that are read one after another.
use Rattle.std.proofs.Common.{◌≡◌, ◌∙◌, sym, ap, subst, inl, inr, ℕ, suc, ◌+◌, arith}
use Rattle.std.specs.Prelude.{Ok}
use Rattle.tsc_time.specs.Time.{Time}
use Rattle.tsc_cache.specs.declared.figures.Figures.{Figures}
use Rattle.tsc_stripe_table.specs.Stripes.{stripe_count}
use Rattle.tsc_striped.specs.Seats.{StripedView, SeatView}
use Rattle.tsc_striped.specs.Answers.{GoesOn, ReadsFloor, ReadsFigures}
use Rattle.tsc_striped_leases.specs.Leases.{HasLookedOn}
use Rattle.tsc_striped_leases.specs.Merging.{earlier}
use Rattle.tsc_striped_leases.specs.StripedSeats.{striped_seat_laws}
use Rattle.tsc_ffi_store.specs.declared.seats.placed.Counted.{Counted}
use Rattle.tsc_ffi_store.specs.Asking.{CountsStriped}
use Rattle.tsc_ffi_store.specs.StripedCalls.{ReadsFloors, ReadsAllFigures, both_figures, LooksOn}

pub more_floors : (old mid new : SeatView) (stripe next : ℕ) (before floor least : Time)
    → next ≡ stripe + 1 → ReadsFloors old mid stripe before → ReadsFloor mid new stripe floor
    → least ≡ earlier before floor → ReadsFloors old new next least
more_floors old mid new stripe next before floor least up so_far reads is =
    let same : suc stripe ≡ next = omega (arith, up) in
    subst (λ (n : ℕ). ReadsFloors old new n least) same (mid, before, floor, so_far, reads, is)

pub more_figures : (old mid new : SeatView) (stripe next : ℕ) (before more sum : Figures)
    → next ≡ stripe + 1 → ReadsAllFigures old mid stripe before
    → ReadsFigures mid new stripe more → sum ≡ both_figures before more
    → ReadsAllFigures old new next sum
more_figures old mid new stripe next before more sum up so_far reads is =
    let same : suc stripe ≡ next = omega (arith, up) in
    subst (λ (n : ℕ). ReadsAllFigures old new n sum) same (mid, before, more, so_far, reads, is)

pub goes_further : (old mid new : SeatView) → GoesOn old mid → GoesOn mid new → GoesOn old new
goes_further old mid new one two = striped_seat_laws.onward old mid new one two

-- a seat that has looked, and then may look once more
pub looked_on : (old mid new : SeatView) → HasLookedOn old mid → LooksOn mid new
    → HasLookedOn old new
looked_on old mid new one (inl same) = subst (λ (x : SeatView). HasLookedOn old x) (sym same) one
looked_on old mid new one (inr two) = record {
  goes_on = goes_further old mid new one.goes_on two.goes_on;
  count = two.count ∙ one.count;
}

-- the figures of all stripes, after which the seat may look once more
pub all_counted : (cache : StripedView) (old read new : SeatView) (stripe stripes : ℕ)
    (counted : Counted) → old.cache ≡ cache → stripes ≡ stripe_count cache.terms.bounds
    → stripe ≡ stripes → ReadsAllFigures old read stripe counted.figures.figures
    → HasLookedOn old read → LooksOn read new → counted.figures.front ≡ new.count
    → CountsStriped old new (Ok counted)
all_counted cache old read new stripe stripes counted its all end reads looked on front =
    let onward = looked_on old read new looked on in
    let same : stripe ≡ stripe_count old.cache.terms.bounds =
    end ∙ all ∙ ap (λ (c : StripedView). stripe_count c.terms.bounds) (sym its) in
    record {
      counted = record {
        read = read;
        reads = subst (λ (n : ℕ). ReadsAllFigures old read n counted.figures.figures) same reads;
        on = on;
        front = front;
      };
      refused = tt;
      goes_on = onward.goes_on;
      count = onward.count;
    }
