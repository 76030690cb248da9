-- A seat that copies the caches of several stripes under their locks.
use Rattle.std.proofs.Common.{◌≡◌, ◌∙◌, refl, sym, ap, subst, ℕ, suc, ◌+◌, ◌-◌, ◌<◌, ◌≤◌, List, []}
use Rattle.std.proofs.Common.{◌∷◌, ◌++◌, arith}
use Rattle.std.proofs.lemmas.List.{append_assoc}
use Rattle.atomic_table.specs.Table.{rest}
use Rattle.tsc_span.specs.Span.{KeyBytes, SpanView}
use Rattle.tsc_cache.specs.CacheView.{CacheView}
use Rattle.tsc_cache.specs.History.{History}
use Rattle.tsc_stripe_table.specs.Stripes.{state_on, IsStateOn}
use Rattle.tsc_stripe_table.specs.Rule.{StoredStripe}
use Rattle.tsc_stripe_table.specs.Steps.{At, state_in, with_state, holds_of, reached_of, reached_with}
use Rattle.tsc_stripe_table.specs.Steps.{released, released_seen, Acquires}
use Rattle.tsc_stripe_table.specs.Participating.{Participant, IsAtRest, IsStripe, HasStripe}
use Rattle.tsc_stripe_table.specs.Participating.{CanRelease}
use Rattle.tsc_striped.specs.declared.answers.Snapshot.{Snapshot}
use Rattle.tsc_striped.specs.Touching.{first_touched, last_touched}
use Rattle.tsc_striped.specs.Seats.{IsSeat}
use Rattle.tsc_striped.specs.Keeping.{seat_view}
use Rattle.tsc_striped.specs.Answers.{TakesSnapshot}
use Rattle.tsc_striped.specs.Looks.{StandFrom}
use Rattle.tsc_striped.specs.Moves.{HasLooked}
use Rattle.tsc_striped.specs.Batches.{StaysOn}
use Rattle.tsc_striped.specs.Sharing.{IsCopy, with_seen, CanShareFrom, SharesFrom, AreCopies}
use Rattle.tsc_striped.proofs.InStripes.{held_itself}
use Rattle.tsc_striped.proofs.SeatSteps.{looked_on, looked_count, looked_found}
use Rattle.tsc_striped.proofs.Holding.{holding, acquired_is, can_acquire, can_release}
use Rattle.tsc_striped.proofs.Several.{held_more, still_stands, can_acquire_next}

-- a seat that found a lock held holds what it held
pub stays_put : (me me' : At) (stripe last : ℕ) → CanShareFrom me stripe last → me' ≡ me
    → StaysOn me me'
stays_put me me' stripe last can is = record {
  history = reached_of me.0;
  after = is ∙ (λ i. (can.acquire.one i, me.1))
      ∙ ap (λ (h : History). (with_state me.0 (record (state_in me.0) { reached = h }), me.1))
      (sym can.reached);
  unchanged = λ j held. refl;
}

-- A seat that may copy from a stripe on has acquired its lock, and has it in hand.
pub record HasTaken (me me1 : At) (stripe last : ℕ) : Type 0 where
  pub x : StoredStripe
  pub can : CanShareFrom me stripe last
  pub a : Acquires me.0 me1.0 stripe x.value.cache
  pub hand : me1.1 ≡ (stripe, x) ∷ me.1

pub has_taken : (me me0 me1 : At) (stripe last : ℕ) (x : StoredStripe)
    → Acquires me.0 me0.0 stripe x.value.cache → me0.1 ≡ (stripe, x) ∷ me.1 → me1 ≡ me0
    → CanShareFrom me stripe last → HasTaken me me1 stripe last
has_taken me me0 me1 stripe last x a hand same can = record {
  x = x;
  can = can;
  a = subst (λ (m : At). Acquires me.0 m.0 stripe x.value.cache) (sym same) a;
  hand = ap (λ (m : At). m.1) same ∙ hand;
}

module _ (me me1 : At) (stripe last : ℕ) (q : HasTaken me me1 stripe last) where
  abbrev x : StoredStripe
  x = q.x

  abbrev can : CanShareFrom me stripe last
  can = q.can

  abbrev a : Acquires me.0 me1.0 stripe q.x.value.cache
  a = q.a

  abbrev then' : At
  then' = holding me stripe a.history x

  same : me1 ≡ then'
  same = acquired_is me me1 stripe x a q.hand

  pub setup_same : me1.0.setup ≡ me.0.setup
  setup_same = ap (λ (m : At). m.0.setup) same

  there : IsStripe me.0 stripe
  there = can.acquire.is_stripe

  pub has_it : HasStripe me1 stripe x
  has_it = subst (λ (m : At). HasStripe m stripe x) (sym same) (record {
    one = refl;
    is_stripe = there;
    holds = refl;
    hand = refl;
  })

  -- what the copy is of
  pub copy_is : (me0 : At) (copy : CacheView) → me1 ≡ me0
      → ((y : StoredStripe) → HasStripe me0 stripe y → IsCopy y.value.cache copy)
      → IsCopy x.value.cache copy
  copy_is me0 copy is reports =
      subst (λ (m : At). (y : StoredStripe) → HasStripe m stripe y → IsCopy y.value.cache copy)
      (sym is) reports x has_it

  -- it may release it again
  pub can_release_it : CanRelease me1 stripe x
  can_release_it = can_release me me1 stripe a.history x there same a.stands

  -- or go on
  pub can_go_on : stripe < last → CanShareFrom me1 (stripe + 1) last
  can_go_on lower = subst (λ (m : At). CanShareFrom m (stripe + 1) last) (sym same) (record {
    acquire = can_acquire_next me then' stripe last a.history x can.acquire lower can.is_last refl;
    reached = refl;
    order = omega (arith, lower);
    is_last = can.is_last;
  })

  -- where it has stopped and released the lock, it holds what it held
  module _ (me2 : At) (r : StaysOn me1 me2) where
    stayed : StaysOn then' me2
    stayed = subst (λ (m : At). StaysOn m me2) same r

    pub setup_stays : me2.0.setup ≡ me.0.setup
    setup_stays = ap (λ (m : At). m.0.setup) stayed.after

    pub can_release_then : CanRelease me2 stripe x
    can_release_then = can_release me me2 stripe stayed.history x there stayed.after
        (still_stands me.0.setup stripe a.history stayed.history x.value.cache
        (stayed.unchanged stripe (held_itself stripe (holds_of me.0))) a.stands)

    pub stays : (me3 : At) → me3 ≡ (with_state me2.0 (released (state_in me2.0)), rest me2.1)
        → StaysOn me me3
    stays me3 left = record {
      history = stayed.history;
      after = left
          ∙ ap (λ (m : At). (with_state m.0 (released (state_in m.0)), rest m.1)) stayed.after;
      unchanged = λ j held. stayed.unchanged j (held_more j stripe (holds_of me.0) held)
          ∙ a.unchanged j held;
    }

  pub stays_at_once : (me3 : At)
      → me3 ≡ (with_state me1.0 (released (state_in me1.0)), rest me1.1) → StaysOn me me3
  stays_at_once me3 left = record {
    history = a.history;
    after = left ∙ ap (λ (m : At). (with_state m.0 (released (state_in m.0)), rest m.1)) same;
    unchanged = a.unchanged;
  }

  -- A copy is made.
  module _ (copy : CacheView) (is : IsCopy x.value.cache copy) (old mid : List CacheView)
      (pushed : mid ≡ old ++ copy ∷ []) where
    -- in the last stripe the seat has seen what it has reached
    pub shares_last : (me2 : At) → stripe ≡ last
        → me2 ≡ (with_state me1.0 (released_seen (state_in me1.0)), rest me1.1)
        → SharesFrom me me2 stripe last old mid
    shares_last me2 at_last left = record {
      history = a.history;
      after = left
          ∙ ap (λ (m : At). (with_state m.0 (released_seen (state_in m.0)), rest m.1)) same;
      begins = a.begins;
      legal = a.legal;
      own = a.own;
      unchanged = a.unchanged;
      copies = copy ∷ [];
      behind = pushed;
      are = record {
        all = omega (arith, at_last);
        stand = (is me.0.setup.config (state_on me.0.setup stripe a.history) a.stands, tt);
      };
    }

    -- in any other one the next ones were copied too
    module _ (me2 : At) (new : List CacheView)
        (r : SharesFrom me1 me2 (stripe + 1) last mid new) where
      made : SharesFrom then' me2 (stripe + 1) last mid new
      made = subst (λ (m : At). SharesFrom m me2 (stripe + 1) last mid new) same r

      pub setup_shared : me2.0.setup ≡ me.0.setup
      setup_shared = ap (λ (m : At). m.0.setup) made.after

      stands_still : (cache : CacheView) → IsStateOn me.0.setup stripe a.history cache
          → IsStateOn me.0.setup stripe made.history cache
      stands_still cache stands = still_stands me.0.setup stripe a.history made.history cache
          (made.unchanged stripe (held_itself stripe (holds_of me.0))) stands

      pub can_release_shared : CanRelease me2 stripe x
      can_release_shared = subst (λ (m : At). CanRelease m stripe x) (sym made.after) (record {
        has = record { one = refl; is_stripe = there; holds = refl; hand = refl };
        stands = stands_still x.value.cache a.stands;
      })

      pub shares_more : (me3 : At) → stripe < last
          → me3 ≡ (with_state me2.0 (released (state_in me2.0)), rest me2.1)
          → SharesFrom me me3 stripe last old new
      shares_more me3 lower left =
          let on : stripe + 1 ≡ suc stripe = omega arith in record {
            history = made.history;
            after = left ∙ ap (λ (m : At). (with_state m.0 (released (state_in m.0)), rest m.1))
                made.after;
            begins = made.begins;
            legal = made.legal;
            own = made.own;
            unchanged = λ j held. made.unchanged j (held_more j stripe (holds_of me.0) held)
                ∙ a.unchanged j held;
            copies = copy ∷ made.copies;
            behind = made.behind ∙ ap (λ (cs : List CacheView). cs ++ made.copies) pushed
                ∙ append_assoc old (copy ∷ []) made.copies;
            are = record {
              all = omega (arith, made.are.all, lower);
              stand = (
                is me.0.setup.config (state_on me.0.setup stripe made.history)
                    (stands_still x.value.cache a.stands),
                subst (λ (n : ℕ). StandFrom me.0.setup made.history n made.copies) on
                    made.are.stand,
              );
            };
          }

-- A seat between two calls may copy from any stripe on.
pub can_share : (me : At) (first last : ℕ) → IsAtRest me → first ≤ last → IsStripe me.0 last
    → CanShareFrom me first last
can_share me first last rested order is = record {
  acquire = can_acquire me first rested (omega (arith, order, is));
  reached = subst (λ (m : At). reached_with (holds_of m.0) (reached_of m.0) ≡ reached_of m.0)
      (sym rested) refl;
  order = order;
  is_last = is;
}

-- once it has copied all, it rests again, and has looked
pub all_shared : (me me' : At) (first last : ℕ) (old copies : List CacheView) → IsAtRest me
    → old ≡ [] → SharesFrom me me' first last old copies
    → HasLooked me me' (λ h. AreCopies me.0.setup h first last copies)
all_shared me me' first last old copies rested none r = record {
  history = r.history;
  after = r.after ∙ ap (λ (m : At). (
    with_state me.0 (with_seen (state_in m.0) r.history),
    m.1,
  )) rested;
  begins = r.begins;
  legal = r.legal;
  own = r.own;
  found = subst (AreCopies me.0.setup r.history first last)
      (sym (r.behind ∙ ap (λ (cs : List CacheView). cs ++ r.copies) none)) r.are;
}

-- and so a seat takes a snapshot
pub takes_snapshot : (old new : Participant) (bounds : List KeyBytes) (span : SpanView)
    (first last high : ℕ) (snapshot : Snapshot) → IsSeat (seat_view old)
    → new.table_id ≡ old.table_id → bounds ≡ old.me.0.setup.bounds
    → first ≡ first_touched bounds span → last ≡ last_touched bounds span
    → high - first ≡ last - first → snapshot.first ≡ first
    → HasLooked old.me new.me
    (λ h. AreCopies old.me.0.setup h first high snapshot.caches.items)
    → TakesSnapshot (seat_view old) (seat_view new) span snapshot
takes_snapshot old new bounds span first last high snapshot was table same f l as_high is looked =
    let copies = snapshot.caches.items in
    let holds : History → Type 0 = λ h. AreCopies old.me.0.setup h first high copies in
    let found = looked_found old new holds table looked in
    let last_is : last ≡ last_touched old.me.0.setup.bounds span =
    l ∙ ap (λ (b : List KeyBytes). last_touched b span) same in record {
      goes_on = looked_on old new holds table looked was;
      count = looked_count old new holds table looked;
      first = is ∙ f ∙ ap (λ (b : List KeyBytes). first_touched b span) same;
      all = omega (arith, found.all, as_high, is, last_is);
      stand = subst (λ (n : ℕ). StandFrom old.me.0.setup (seat_view new).seen n copies) (sym is)
          found.stand;
    }
