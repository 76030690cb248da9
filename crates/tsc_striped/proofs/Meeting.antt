-- Seats that learn, and seats that meet.
use Rattle.std.proofs.Common.{◌≡◌, ◌∙◌, refl, sym, ap, subst, Bool, true, false, ℕ, ◌<◌, length}
use Rattle.std.proofs.Common.{arith}
use Rattle.std.specs.Prelude.{nat_le}
use Rattle.std.proofs.lemmas.Bool.Decides.{nat_tests}
use Rattle.tsc_cache.specs.History.{History, own_count, BeginsWith, IsLegal}
use Rattle.tsc_stripe_table.specs.Steps.{At, CatchesUp, longer, number_of, seen_of, count_of}
use Rattle.tsc_stripe_table.specs.Participating.{Participant}
use Rattle.tsc_striped.specs.Seats.{SeatView, FrontView, IsSeat}
use Rattle.tsc_striped.specs.Keeping.{seat_view, KeepsSeat}
use Rattle.tsc_striped.specs.Answers.{GoesOn, Learns, Meets}
use Rattle.tsc_striped.proofs.SeatSteps.{At_after, seat_after, view_after, goes_on_after, kept_after}

-- A seat has seen more, and made no Add.
pub record Rests (old new : Participant) (h : History) : Type 0 where
  pub table : new.table_id ≡ old.table_id
  pub after : new.me ≡ At_after old h (count_of old.me.0)
  pub begins : BeginsWith h (seen_of old.me.0)
  pub legal : IsLegal old.me.0.setup.config old.me.0.setup.seats h
  pub own : own_count (number_of old.me.0) h ≡ count_of old.me.0

pub rests_met : (old new : Participant) (a : At) (other : History) → new.table_id ≡ old.table_id
    → new.me ≡ a → (m : CatchesUp old.me a other) → Rests old new m.history
rests_met old new a other table same m = record {
  table = table;
  after = same ∙ m.after;
  begins = m.begins;
  legal = m.legal;
  own = m.own;
}

module _ (old new : Participant) (h : History) (r : Rests old new h) where
  pub rested_view : seat_view new ≡ seat_after old h (count_of old.me.0)
  rested_view = view_after old new h (count_of old.me.0) r.table r.after

  pub kept_rested : (number count : ℕ) → KeepsSeat old number count → KeepsSeat new number count
  kept_rested number count k = kept_after old new h (count_of old.me.0) r.table r.after k.seat
      r.legal r.own number count count k k.count_kept

  pub rested_on : IsSeat (seat_view old) → GoesOn (seat_view old) (seat_view new)
  rested_on was = goes_on_after old new h (count_of old.me.0) r.table r.after was r.legal r.own
      r.begins

-- a seat that has learned a front
pub learns : (old new : Participant) (h : History) (front : FrontView) → IsSeat (seat_view old)
    → Rests old new h → BeginsWith h front.seen → Learns (seat_view old) (seat_view new) front
learns old new h front was r begins = record {
  goes_on = rested_on old new h r was;
  count = ap (λ (s : SeatView). s.count) (rested_view old new h r);
  begins = subst (λ (s : SeatView). BeginsWith s.seen front.seen)
      (sym (rested_view old new h r)) begins;
}

-- two that have met
pub meets_both : (p q p' q' : Participant) (h : History) → IsSeat (seat_view p)
    → IsSeat (seat_view q) → Rests p p' h → Rests q q' h
    → Meets (seat_view p) (seat_view q) (seat_view p') (seat_view q')
meets_both p q p' q' h was was' r s = record {
  first = rested_on p p' h r was;
  second = rested_on q q' h s was';
  first_count = ap (λ (v : SeatView). v.count) (rested_view p p' h r);
  second_count = ap (λ (v : SeatView). v.count) (rested_view q q' h s);
  same = ap (λ (v : SeatView). v.seen) (rested_view p p' h r)
      ∙ sym (ap (λ (v : SeatView). v.seen) (rested_view q q' h s));
}

-- the longer of two is one of them
longer_again : (a b : History) → longer b (longer a b) ≡ longer a b
longer_again a b = by_length (nat_le (length a) (length b)) refl
  where
    either_way : (t : Bool) → nat_le (length b) (length a) ≡ t
        → nat_le (length a) (length b) ≡ false → longer b a ≡ a
    either_way true is other = rw is refl
    either_way false is other = let one : length a < length b =
        grind (arith, nat_tests) in let two : length b < length a =
        grind (arith, nat_tests) in absurd (omega (arith, one, two))

    itself : (t : Bool) → nat_le (length b) (length b) ≡ t → longer b b ≡ b
    itself true is = rw is refl
    itself false is = rw is refl

    by_length : (t : Bool) → nat_le (length a) (length b) ≡ t → longer b (longer a b) ≡ longer a b
    by_length true is = rw is (itself (nat_le (length b) (length b)) refl)
    by_length false is = rw is (either_way (nat_le (length b) (length a)) refl is)

-- two seats that catch up with one another have seen one history
met_alike : (a b a' b' : At) → (m : CatchesUp a a' (seen_of b.0))
    → (n : CatchesUp b b' (seen_of a'.0)) → n.history ≡ m.history
met_alike a b a' b' m n = n.is_longer
    ∙ ap (longer (seen_of b.0)) (ap (λ (x : At). seen_of x.0) m.after ∙ m.is_longer)
    ∙ longer_again (seen_of a.0) (seen_of b.0) ∙ sym m.is_longer

-- the second of them
pub met_second : (p q new : Participant) (a b : At) → b ≡ q.me → new.table_id ≡ q.table_id
    → (m : CatchesUp p.me a (seen_of q.me.0)) → CatchesUp b new.me (seen_of a.0)
    → Rests q new m.history
met_second p q new a b same table m n =
    let next : CatchesUp q.me new.me (seen_of a.0) =
    subst (λ (me : At). CatchesUp me new.me (seen_of a.0)) same n in
    subst (Rests q new) (met_alike p.me q.me a new.me m next)
    (rests_met q new new.me (seen_of a.0) table refl next)
