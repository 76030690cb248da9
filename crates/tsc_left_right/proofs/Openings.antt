-- The rule holds when the table is made.
use Rattle.std.proofs.Common.{◌≡◌, ◌∙◌, inl, inr, refl, sym, ap, subst, Bool, true, false}
use Rattle.std.proofs.Common.{ℕ, zero, suc, ◌+◌, ◌%◌, ◌<◌, ◌≤◌, List, [], ◌∷◌, length, arith}
use Rattle.std.specs.Prelude.{◌==◌, nat_lt, replicate, slice_index}
use Rattle.std.specs.List.{sum_by}
use mathlib.Core.Option as maybe
use mathlib.Core.Option.{some-injective, some-ne-none}
use lib.ListN.{get_elem?, length-map, length-replicate}
use Rattle.std.proofs.lemmas.Bool.Decides.{nat_tests}
use Rattle.std.proofs.lemmas.List.Sums.{sum_by-cons}
use Rattle.atomic_table.specs.Table.{opening}
use Rattle.tsc_left_right.specs.declared.table.Setup.{Setup}
use Rattle.tsc_left_right.specs.declared.table.Slot.{Slot}
use Rattle.tsc_left_right.specs.declared.table.Slot.TheVariants.{Writer}
use Rattle.tsc_left_right.specs.declared.table.SeatState.{SeatState}
use Rattle.tsc_left_right.specs.declared.table.Knowledge.{Knowledge}
use Rattle.atomic_table.proofs.Lists.{at_map}
use Rattle.tsc_left_right.specs.Rule.{StoredState, at_rest, IsAfter, Shows, epoch_word, side_slot}
use Rattle.tsc_left_right.specs.Rule.{one_if, SharedState}
use Rattle.tsc_left_right.specs.Rule.{LeftRightRule, KnowledgeFits, StateFits, states_of, holders}
use Rattle.tsc_left_right.specs.Rule.{first_knowledge, fresh_states}
use Rattle.tsc_left_right.specs.Rule.{word_count, slot_count}
use Rattle.tsc_left_right.proofs.Prefixes.{begins_empty, legal_empty}
use Rattle.tsc_left_right.proofs.Plain.{same_number, false_is_no}
use Rattle.tsc_left_right.proofs.Plain.{other_number, same_or_not, blank_at}
use Rattle.tsc_left_right.specs.declared.replicated.Replicated.{Ghosts}

-- how many of some states are those of a seat
abbrev pub of_seat : {E : Type 0} → ℕ → List (SeatState E) → ℕ
of_seat {E} number ps = sum_by (λ (p : SeatState E). one_if (p.number == number)) ps

module _ {P C O S E : Type 0} (R : Ghosts P C O S E) where
  -- Of fresh states, none is below the first number, and each of the next numbers has one.
  pub fresh_before : (from n number : ℕ) → number < from
      → of_seat {E = E} number (fresh_states from n) ≡ 0
  fresh_before from zero number low = refl
  fresh_before from (suc n) number low =
      omega (
        arith,
        sum_by-cons (λ (p : SeatState E). one_if (p.number == number)) (at_rest from [] 0)
            (fresh_states (suc from) n),
        fresh_before (suc from) n number (omega arith),
        ap one_if (other_number from number (λ e. omega (arith, e))),
      )

  pub fresh_after : (from n number : ℕ) → from + n ≤ number
      → of_seat {E = E} number (fresh_states from n) ≡ 0
  fresh_after from zero number high = refl
  fresh_after from (suc n) number high =
      omega (
        arith,
        sum_by-cons (λ (p : SeatState E). one_if (p.number == number)) (at_rest from [] 0)
            (fresh_states (suc from) n),
        fresh_after (suc from) n number (omega arith),
        ap one_if (other_number from number (λ e. omega (arith, e))),
      )

  pub fresh_among : (from n number : ℕ) → from ≤ number → number < from + n
      → of_seat {E = E} number (fresh_states from n) ≡ 1
  fresh_among from zero number high low = absurd (omega arith)
  fresh_among from (suc n) number high low = let cons =
      sum_by-cons (λ (p : SeatState E). one_if (p.number == number)) (at_rest from [] 0)
      (fresh_states (suc from) n) in
      elim (same_or_not from number) [
        | inl same ↦ omega (
          arith,
          cons,
          fresh_before (suc from) n number (omega (arith, same)),
          ap one_if (same_number from number same),
        )
        | inr apart ↦ omega (
          arith,
          cons,
          fresh_among (suc from) n number (omega (arith, apart))
              (omega arith),
          ap one_if (other_number from number apart),
        )
      ]

  nobody_fresh : (from n : ℕ) → sum_by (λ (p : SeatState E). one_if p.holds)
      (fresh_states from n) ≡ 0
  nobody_fresh from zero = refl
  nobody_fresh from (suc n) = omega (
    arith,
    sum_by-cons (λ (p : SeatState E). one_if p.holds)
        (at_rest from [] 0) (fresh_states (suc from) n),
    nobody_fresh (suc from) n,
  )

  fresh_at : (from n i : ℕ) (p : SeatState E) → get_elem? (fresh_states from n) i ≡ maybe.some p
      → p ≡ at_rest (from + i) [] 0
  fresh_at from zero i p e = absurd (some-ne-none p (sym e))
  fresh_at from (suc n) zero p e = sym (some-injective (at_rest from [] 0) p e)
      ∙ ap (λ (k : ℕ). at_rest k [] 0) (omega arith)
  fresh_at from (suc n) (suc i) p e = fresh_at (suc from) n i p e ∙ ap (λ (k : ℕ). at_rest k [] 0)
      (omega arith)

  -- The slots at the opening: the writer's, and of each seat a handle that shows the empty history
  -- on
  -- side 0, and something on side 1.
  pub record IsOpening (setup : Setup S) (state : StoredState C O) (slots : List
      (Slot C O)) : Type 0 where
    pub deep : length slots ≡ slot_count setup.seats
    pub writer : get_elem? slots 0 ≡ maybe.some (Writer state)
    pub active : (r : ℕ) → r < setup.seats → (x : Slot C O) × (get_elem? slots (side_slot r 0)
        ≡ maybe.some x) × Shows R setup [] x
    pub standby : (r : ℕ) → r < setup.seats → (x : Slot C O) × (get_elem? slots (side_slot r 1)
        ≡ maybe.some x)

  first_shared : List ℕ → SharedState E
  first_shared noted = record {
    history = [];
    head = 0;
    word = 0;
    stage_of = λ _. 0;
    cleared = 0;
    noted = noted;
  }

  pub opening_kept : (setup : Setup S) (state : StoredState C O) (slots : List (Slot C O))
      → IsAfter R setup [] 0 state.value → length state.value.noted.items ≡ setup.seats
      → IsOpening setup state slots
      → LeftRightRule R setup (opening (replicate (word_count setup.seats) 0) slots
      (first_knowledge setup))
  unfolding first_shared
  opening_kept setup state slots after noted has_slots =
      let blank : (i : ℕ) → slice_index (replicate (word_count setup.seats) 0) i ≡ 0 =
      blank_at (word_count setup.seats) in record {
        g = first_shared state.value.noted.items;
        legal = legal_empty R setup.config setup.seats;
        limit = omega arith;
        shape = record {
          wide = length-replicate (word_count setup.seats) 0;
          deep = length-map slots (λ (x : Slot C O). maybe.some x) ∙ has_slots.deep;
          word_is = blank 0;
          head_is = blank 16;
        };
        seats = λ r low. let x = has_slots.active r low in let y = has_slots.standby r low in record {
          unpinned = λ _. ap (λ (e : ℕ). e % 2) (blank (epoch_word r));
          pinned = λ z. absurd (omega (arith, z));
          active = λ _. (x.0, at_map maybe.some slots (side_slot r 0) x.0 x.1, x.2);
          standby = λ _ _. (y.0, at_map maybe.some slots (side_slot r 1) y.0 y.1);
          left = λ z. absurd (omega (arith, z));
          late = λ e _ z. absurd (omega (arith, z));
        };
        views = at;
        each = λ number. omega (
          arith,
          sum_by-cons (states_of {S = S} {E = E} number) (first_knowledge setup) [],
          by_number number (nat_lt number setup.seats) refl,
        );
        one = omega (
          arith,
          sum_by-cons (holders {S = S} {E = E}) (first_knowledge setup) [],
          nobody_fresh 0 setup.seats,
        );
        idle = λ _. refl;
        free = λ _. (state, at_map maybe.some slots 0 (Writer state) has_slots.writer, after, record { is = refl; long = noted });
      }
    where
      at : (id : ℕ) (v : Knowledge S E) → get_elem? (first_knowledge setup ∷ []) id ≡ maybe.some v
          → KnowledgeFits R setup (first_shared state.value.noted.items) v
      at zero v e = subst (KnowledgeFits R setup (first_shared state.value.noted.items)) (some-injective
          (first_knowledge setup) v
          e) (record {
            settled = λ _. refl;
            states = λ i p e'. subst (StateFits R (first_shared state.value.noted.items)) (sym
                (fresh_at 0 setup.seats i p e')) (record {
                  begins = begins_empty [];
                  own = refl;
                  own_seen = refl;
                  at_stage = refl;
                  sees =
                      λ f. absurd (omega (arith, f));
                  holding = λ f. absurd (false_is_no f);
                });
            front = begins_empty [];
          })
      at (suc id) v e = absurd (some-ne-none v (sym e))

      by_number : (number : ℕ) (b : Bool) → nat_lt number setup.seats ≡ b
          → states_of {E = E} number (first_knowledge setup) ≡ one_if b
      by_number number true is = fresh_among 0 setup.seats number (omega arith)
          (grind (arith, nat_tests))
      by_number number false is = fresh_after 0 setup.seats number (grind (arith, nat_tests))
