-- The rule holds when the table is made.
use Rattle.std.proofs.Common.{◌≡◌, ◌≢◌, ◌∙◌, inl, inr, refl, sym, ap, subst, Bool, true, false, ℕ}
use Rattle.std.proofs.Common.{zero, suc, ◌+◌, ◌<◌, ◌≤◌, List, [], ◌∷◌, ◌++◌, length, arith}
use Rattle.std.specs.Prelude.{◌==◌, nat_lt, replicate, slice_index}
use Rattle.std.specs.List.{sum_by}
use mathlib.Core.Option as maybe
use mathlib.Core.Option.{some-injective, some-ne-none}
use lib.ListN.{get_elem?, length-map, length-replicate}
use Rattle.std.proofs.lemmas.Bool.Decides.{nat_tests}
use Rattle.std.proofs.lemmas.List.Sums.{sum_by-cons}
use Rattle.atomic_table.proofs.Lists.{at_map, at_snoc}
use Rattle.atomic_table.specs.Table.{opening}
use Rattle.tsc_stripe_table.specs.declared.table.SeatState.{SeatState}
use Rattle.tsc_stripe_table.specs.declared.table.Knowledge.{Knowledge}
use Rattle.tsc_stripe_table.specs.Stripes.{Terms, stripe_count}
use Rattle.tsc_stripe_table.specs.Rule.{StoredStripe, at_rest, fresh_states, first_knowledge, one_if}
use Rattle.tsc_stripe_table.specs.Rule.{StripesRule, KnowledgeFits, StateFits, states_of, holders}
use Rattle.tsc_stripe_table.specs.Rule.{times_held, lock_word, word_count}
use Rattle.tsc_stripe_table.specs.Opening.{IsOpened, AreOpened}
use Rattle.tsc_stripe_table.proofs.Prefixes.{begins_empty, legal_empty}
use Rattle.tsc_stripe_table.proofs.Moves.{same_number, other_number}
use Rattle.tsc_stripe_table.proofs.Parts.{same_or_not}

-- how many of some states are those of a seat
abbrev pub of_seat : ℕ → List SeatState → ℕ
of_seat number ps = sum_by (λ (p : SeatState). one_if (p.number == number)) ps

-- Of fresh states, none is below the first number, and each of the next numbers has one.
fresh_before : (from n number : ℕ) → number < from → of_seat number (fresh_states from n) ≡ 0
fresh_before from zero number low = refl
fresh_before from (suc n) number low =
    omega (
      arith,
      sum_by-cons (λ (p : SeatState). one_if (p.number == number)) (at_rest from [] 0)
          (fresh_states (suc from) n),
      fresh_before (suc from) n number (omega arith),
      ap one_if (other_number from number (λ e. omega (arith, e))),
    )

fresh_after : (from n number : ℕ) → from + n ≤ number → of_seat number (fresh_states from n) ≡ 0
fresh_after from zero number high = refl
fresh_after from (suc n) number high =
    omega (
      arith,
      sum_by-cons (λ (p : SeatState). one_if (p.number == number)) (at_rest from [] 0)
          (fresh_states (suc from) n),
      fresh_after (suc from) n number (omega arith),
      ap one_if (other_number from number (λ e. omega (arith, e))),
    )

fresh_among : (from n number : ℕ) → from ≤ number → number < from + n
    → of_seat number (fresh_states from n) ≡ 1
fresh_among from zero number high low = absurd (omega arith)
fresh_among from (suc n) number high low = let cons =
    sum_by-cons (λ (p : SeatState). one_if (p.number == number)) (at_rest from [] 0)
    (fresh_states (suc from) n) in
    elim (same_or_not from number) [
      | inl same ↦ omega (
        arith,
        cons,
        fresh_before (suc from) n number (omega (arith, same)),
        ap one_if (same_number from number same),
      )
      | inr apart ↦ omega (
        arith,
        cons,
        fresh_among (suc from) n number (omega (arith, apart)) (omega arith),
        ap one_if (other_number from number apart),
      )
    ]

pub nobody_fresh : (stripe from n : ℕ)
    → sum_by (λ (p : SeatState). times_held stripe p.holds) (fresh_states from n) ≡ 0
nobody_fresh stripe from zero = refl
nobody_fresh stripe from (suc n) = omega (
  arith,
  sum_by-cons (λ (p : SeatState). times_held stripe p.holds) (at_rest from [] 0)
      (fresh_states (suc from) n),
  nobody_fresh stripe (suc from) n,
)

fresh_at : (from n i : ℕ) (p : SeatState) → get_elem? (fresh_states from n) i ≡ maybe.some p
    → p ≡ at_rest (from + i) [] 0
fresh_at from zero i p e = absurd (some-ne-none p (sym e))
fresh_at from (suc n) zero p e = sym (some-injective (at_rest from [] 0) p e)
    ∙ ap (λ (k : ℕ). at_rest k [] 0) (omega arith)
fresh_at from (suc n) (suc i) p e = fresh_at (suc from) n i p e ∙ ap (λ (k : ℕ). at_rest k [] 0)
    (omega arith)

blank_at : (n i : ℕ) → slice_index (replicate n 0) i ≡ 0
blank_at zero i = refl
blank_at (suc n) zero = refl
blank_at (suc n) (suc i) = blank_at n i

-- what is at a place of a list
stored_at : (xs : List StoredStripe) (i : ℕ) → i < length xs → (x : StoredStripe)
    × (get_elem? xs i ≡ maybe.some x)
stored_at [] i low = absurd (omega (arith, low))
stored_at (x ∷ xs) zero low = (x, refl)
stored_at (x ∷ xs) (suc i) low = stored_at xs i (omega (arith, low))

opening_kept : (setup : Terms) (slots : List StoredStripe)
    → length slots ≡ stripe_count setup.bounds → AreOpened setup slots
    → StripesRule setup (opening (replicate (word_count (stripe_count setup.bounds)) 0) slots
    (first_knowledge setup))
opening_kept setup slots long opened =
    let words : ℕ = word_count (stripe_count setup.bounds) in record {
      history = [];
      legal = legal_empty setup.config setup.seats;
      wide = length-replicate words 0;
      deep = length-map slots (λ (x : StoredStripe). maybe.some x) ∙ long;
      views = at;
      each = λ number. omega (
        arith,
        sum_by-cons (states_of number) (first_knowledge setup) [],
        by_number number (nat_lt number setup.seats) refl,
      );
      locks = λ stripe. omega (
        arith,
        sum_by-cons (holders stripe) (first_knowledge setup) [],
        nobody_fresh stripe 0 setup.seats,
        ap (λ (n : ℕ). one_if (nat_lt 0 n)) (blank_at words (lock_word stripe)),
      );
      homes = λ stripe low free. let x = stored_at slots stripe (omega (arith, low, long)) in (
        x.0,
        at_map maybe.some slots stripe x.0 x.1,
        opened stripe x.0 x.1,
      );
    }
  where
    at : (id : ℕ) (v : Knowledge) → get_elem? (first_knowledge setup ∷ []) id ≡ maybe.some v
        → KnowledgeFits setup [] v
    at zero v e = subst (KnowledgeFits setup []) (some-injective (first_knowledge setup) v e)
        (record {
          settled = λ _. refl;
          states = λ i p e'. subst (StateFits setup.bounds [])
              (sym (fresh_at 0 setup.seats i p e'))
              (record {
                begins = begins_empty [];
                own = refl;
                own_seen = refl;
                order = tt;
                reached = λ some. absurd (omega (arith, some));
                held = λ j some. absurd (omega (arith, some));
              });
          front = begins_empty [];
        })
    at (suc id) v e = absurd (some-ne-none v (sym e))

    by_number : (number : ℕ) (b : Bool) → nat_lt number setup.seats ≡ b
        → states_of number (first_knowledge setup) ≡ one_if b
    by_number number true is = fresh_among 0 setup.seats number (omega arith)
        (grind (arith, nat_tests))
    by_number number false is = fresh_after 0 setup.seats number (grind (arith, nat_tests))

-- the rule at the opening
pub opens : (setup : Terms) (stripes : ℕ) (words : List ℕ) (slots : List StoredStripe)
    → stripes ≡ stripe_count setup.bounds → words ≡ replicate (word_count stripes) 0
    → length slots ≡ stripes → AreOpened setup slots
    → StripesRule setup (opening words slots (first_knowledge setup))
opens setup stripes words slots count blank long opened =
    subst (λ (ws : List ℕ). StripesRule setup (opening ws slots (first_knowledge setup)))
    (sym (blank ∙ ap (λ (n : ℕ). replicate (word_count n) 0) count))
    (opening_kept setup slots (long ∙ count) opened)

-- no stripe yet, and one more
pub opened_none : (setup : Terms) (xs : List StoredStripe) → xs ≡ [] → AreOpened setup xs
opened_none setup xs is = subst (AreOpened setup) (sym is) (λ i x e. absurd (some-ne-none x (sym e)))

pub opened_more : (setup : Terms) (xs ys : List StoredStripe) (y : StoredStripe)
    → AreOpened setup xs → ys ≡ xs ++ y ∷ [] → IsOpened setup y → AreOpened setup ys
opened_more setup xs ys y before is one = subst (AreOpened setup) (sym is)
    (λ i x e. elim (at_snoc xs y x i e) [
      | inl old ↦ before i x old
      | inr same ↦ subst (IsOpened setup) same one
    ])
