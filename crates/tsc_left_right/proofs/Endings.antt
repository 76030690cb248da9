-- The end: when one participant keeps the states of all seats, and none of them holds the lock.
use Rattle.std.proofs.Common.{◌≡◌, ◌≢◌, ◌∙◌, refl, sym, ap, subst, ℕ}
use Rattle.std.proofs.Common.{zero, suc, ◌+◌, ◌<◌, ◌≤◌, List, [], ◌∷◌, length, arith}
use Rattle.std.specs.Prelude.{◌==◌, nat_lt}
use Rattle.std.specs.List.{sum_by}
use mathlib.Core.Option as maybe
use mathlib.Core.Option.{some-injective, some-ne-none}
use lib.ListN.{get_elem?}
use Rattle.std.proofs.lemmas.List.Sums.{sum_by-cons}
use Rattle.tsc_left_right.specs.declared.table.Setup.{Setup}
use Rattle.tsc_left_right.specs.declared.table.Slot.{Slot}
use Rattle.tsc_left_right.specs.declared.table.Slot.TheVariants.{Empty, Writer, Handle}
use Rattle.tsc_left_right.specs.declared.table.SeatState.{SeatState}
use Rattle.tsc_left_right.specs.declared.table.Knowledge.{Knowledge}
use Rattle.tsc_left_right.specs.Rule.{StoredState, LeftRightRule, one_if}
use Rattle.tsc_left_right.specs.Rule.{states_of, holders}
use Rattle.tsc_left_right.specs.Closing.{IsEnd}
use Rattle.tsc_left_right.proofs.Totals.{part, two_parts}
use Rattle.tsc_left_right.proofs.Plain.{same_number, at_most_one, busy_word}
use Rattle.tsc_left_right.proofs.Moves.{Board, low_number}
use Rattle.tsc_left_right.proofs.Openings.{of_seat}
use Rattle.tsc_left_right.proofs.Plain.{below, below_add, below_same, below_one, below_zero, below_short, some_part}
use Rattle.tsc_left_right.specs.declared.replicated.Replicated.{Ghosts}

module _ {E : Type 0} where
  -- Each state counts for its number.
  counts_all : (n : ℕ) (ps : List (SeatState E)) → ((i : ℕ) (p : SeatState E) → get_elem? ps i
      ≡ maybe.some p → p.number < n) → below n (λ m. of_seat m ps) ≡ length ps
  counts_all n [] low = below_zero n
  counts_all n (p ∷ ps) low =
      omega (
        arith,
        below_same n (λ m. of_seat m (p ∷ ps)) (λ m. one_if (p.number == m) + of_seat m ps)
            (λ m. sum_by-cons (λ (q : SeatState E). one_if (q.number == m)) p ps),
        below_add n (λ m. one_if (p.number == m)) (λ m. of_seat m ps),
        below_one n p.number (low 0 p refl),
        counts_all n ps (λ i q e. low (suc i) q e),
      )

  -- With as many states as there are seats, and none of them twice, each seat has one.
  pub all_there : (n : ℕ) (ps : List (SeatState E)) → ((i : ℕ) (p : SeatState E) → get_elem? ps i
      ≡ maybe.some p → p.number < n) → ((m : ℕ) → of_seat m ps ≤ 1) → length ps ≡ n
      → (k : ℕ) → k < n → of_seat k ps ≢ 0
  all_there n ps low one long k lt none = omega (
    arith,
    below_short n (λ m. of_seat m ps) k one lt
        none,
    counts_all n ps low,
    long,
  )

module _ {C O : Type 0} where
  abbrev pub state_or : StoredState C O → Slot C O → StoredState C O
  state_or d Empty = d
  state_or d (Writer state) = state
  state_or d (Handle handle) = d

module _ {P C O S E : Type 0} (R : Ghosts P C O S E) where
  -- If a participant keeps as many states as there are seats, it keeps each seat's once.
  pub each_there : (setup : Setup S) (s : Board C O S E) (k : LeftRightRule R setup s) (id : ℕ)
      (v : Knowledge S E) → get_elem? s.views id ≡ maybe.some v → length v.states ≡ setup.seats
      → (number : ℕ) → number < setup.seats → of_seat number v.states ≡ 1
  each_there setup s k id v at long number low =
      let some = all_there setup.seats v.states (low_number R setup s k v id at)
      (λ m. omega (
        arith,
        k.each m,
        at_most_one (nat_lt m setup.seats),
        part (states_of m) s.views id v at,
      )) long number low in
      omega (
        arith,
        some,
        k.each number,
        at_most_one (nat_lt number setup.seats),
        part (states_of number) s.views id v at,
      )

  -- If it keeps all states, and none of them holds the lock, nobody does.
  pub nobody_holds : (setup : Setup S) (s : Board C O S E) (k : LeftRightRule R setup s) (id : ℕ)
      (v : Knowledge S E) → get_elem? s.views id ≡ maybe.some v
      → holders v ≡ 0 → length v.states ≡ setup.seats → k.g.word ≡ 0
  nobody_holds setup s k id v at none long = by_word k.g.word refl
    where
      by_word : (w : ℕ) → k.g.word ≡ w → k.g.word ≡ 0
      by_word zero is = is
      by_word (suc w) is =
          let one : sum_by holders s.views ≡ 1 = k.one ∙ busy_word k.g.word (λ e. omega (
            arith,
            is,
            e,
          )) in
          let there = some_part holders s.views (λ e. omega (arith, one, e)) in
          let u : Knowledge S E = there.1 in
          let theirs = some_part (λ (q : SeatState E). one_if q.holds) u.states there.3 in
          let p : SeatState E = theirs.1 in
          let apart : id ≢ there.0 =
          λ same. there.3 (ap holders (some-injective u v (sym there.2 ∙ ap (get_elem? s.views)
          (sym same) ∙ at)) ∙ none) in
          let both = two_parts (states_of p.number) s.views id there.0 v u apart at there.2 in
          let mine = each_there setup s k id v at long p.number
          (low_number R setup s k u there.0 there.2 theirs.0 p theirs.2) in
          let its = part (λ (q : SeatState E). one_if (q.number == p.number)) u.states theirs.0 p
          theirs.2 in
          absurd (omega (
            arith,
            mine,
            its,
            ap one_if (same_number p.number p.number refl),
            both,
            k.each p.number,
            at_most_one (nat_lt p.number setup.seats),
          ))

  -- what lies in the writer's slot then
  pub home_at : (key : Setup S) (s : Board C O S E) (k : LeftRightRule R key s) (id : ℕ)
      (v : Knowledge S E)
      → get_elem? s.views id ≡ maybe.some v → holders v ≡ 0 → length v.states ≡ key.seats
      → (slots : List (Slot C O)) → ((i : ℕ) (y : Slot C O)
      → get_elem? s.homes i ≡ maybe.some (maybe.some y) → get_elem? slots i ≡ maybe.some y)
      → (x : Slot C O) → get_elem? slots 0 ≡ maybe.some x
      → (state : StoredState C O) × (x ≡ Writer state) × IsEnd R key v.states state.value
  home_at key s k id v at none long slots get x is =
      let free : k.g.word ≡ 0 = nobody_holds key s k id v at none long in
      let here = k.free free in
      let there : get_elem? slots 0 ≡ maybe.some (Writer here.0) = get 0 (Writer here.0) here.1 in (
        here.0,
        some-injective x (Writer here.0) (sym is ∙ there),
        record {
          each = each_there key s k id v at long;
          history = k.g.history;
          head = k.g.head;
          legal = k.legal;
          is_after = here.2;
          fits = λ i p e. let f = (k.views id v at).states i p e in record {
            begins = f.begins;
            own = f.own;
          };
        },
      )

  pub end_of : (key : Setup S) (ps : List (SeatState E)) (x : Slot C O)
      (state other : StoredState C O)
      → x ≡ Writer state → IsEnd R key ps state.value → x ≡ Writer other
      → IsEnd R key ps other.value
  end_of key ps x state other is end_ also = subst (λ (d : StoredState C O). IsEnd R key ps d.value)
      (ap (state_or state) (sym is ∙ also)) end_
