-- A step of one participant keeps the rule.
use Rattle.std.proofs.Common.{◌≡◌, ◌≢◌, ◌∙◌, inl, inr, refl, sym, ap, subst, true, false, ℕ, zero}
use Rattle.std.proofs.Common.{suc, ◌+◌, ◌<◌, ◌≤◌, List, [], ◌∷◌, length, set, arith, slice_index}
use Rattle.std.specs.Prelude.{Bool, ◌==◌, nat_lt}
use Rattle.std.specs.List.{sum_by}
use mathlib.Core.Option as maybe
use mathlib.Core.Option.{some-injective, some-ne-none}
use lib.ListN.{get_elem?}
use Rattle.std.proofs.lemmas.Bool.{lt-ltb}
use Rattle.std.proofs.lemmas.Bool.Decides.{nat_tests}
use Rattle.atomic_table.specs.Table.{State}
use Rattle.atomic_table.proofs.Lists.{at_set}
use Rattle.tsc_cache.specs.History.{History, IsLegal}
use Rattle.tsc_stripe_table.specs.declared.table.SeatState.{SeatState}
use Rattle.tsc_stripe_table.specs.declared.table.Knowledge.{Knowledge}
use Rattle.tsc_stripe_table.specs.Stripes.{Terms, stripe_count}
use Rattle.tsc_stripe_table.specs.Rule.{StoredStripe, keeping, one_if, StripesRule, KnowledgeFits}
use Rattle.tsc_stripe_table.specs.Rule.{StateFits, states_of, holders, times_held, lock_word}
use Rattle.tsc_stripe_table.specs.Rule.{word_count, IsHome}
use Rattle.tsc_stripe_table.proofs.Prefixes.{begins_empty}
use Rattle.tsc_stripe_table.proofs.Totals.{part, two_parts, total_set}

abbrev pub Board : Type 0
Board = State StoredStripe Knowledge

abbrev pub Homes : Type 0
Homes = List (maybe.Option StoredStripe)

-- whether the lock of a stripe is held, as 1 or 0
abbrev pub busy_in : List ℕ → ℕ → ℕ
busy_in words stripe = one_if (nat_lt 0 (slice_index words (lock_word stripe)))

-- the table when one participant knows something else, with all that may change
pub record Moved (setup : Terms) (s : Board) (id : ℕ) (v w : Knowledge) (h : History)
    (words : List ℕ) (homes : Homes) : Type 0 where
  pub at : get_elem? s.views id ≡ maybe.some v
  pub legal : IsLegal setup.config setup.seats h
  pub wide : length words ≡ word_count (stripe_count setup.bounds)
  pub deep : length homes ≡ stripe_count setup.bounds
  pub fits : KnowledgeFits setup h w
  pub others : (other : ℕ) (u : Knowledge) → other ≢ id → get_elem? s.views other ≡ maybe.some u
      → KnowledgeFits setup h u
  pub each : (number : ℕ) → states_of number w ≡ states_of number v
  pub locks : (stripe : ℕ) → sum_by (holders stripe) s.views + holders stripe w
      ≡ busy_in words stripe + holders stripe v
  pub at_home : (stripe : ℕ) → stripe < stripe_count setup.bounds
      → slice_index words (lock_word stripe) ≡ 0 → IsHome setup h homes stripe

pub moved_kept : (setup : Terms) (s : Board) (k : StripesRule setup s) (id : ℕ) (v w : Knowledge)
    (h : History) (words : List ℕ) (homes : Homes) → Moved setup s id v w h words homes
    → StripesRule setup (record { words = words; homes = homes; views = set s.views id w })
moved_kept setup s k id v w h words homes m = record {
  history = h;
  legal = m.legal;
  wide = m.wide;
  deep = m.deep;
  views = λ other u e. elim (at_set s.views id other w u e) [
    | inl same ↦ subst (KnowledgeFits setup h) same.1 m.fits
    | inr apart ↦ m.others other u apart.0 apart.1
  ];
  each = λ number. omega (
    arith,
    total_set (states_of number) s.views id v w m.at,
    m.each number,
    k.each number,
  );
  locks = λ stripe. omega (
    arith,
    total_set (holders stripe) s.views id v w m.at,
    m.locks stripe,
  );
  homes = m.at_home;
}

-- a participant that keeps one state
pub of_one : {setup : Terms} {h : History} (t : Terms) (p : SeatState) → t ≡ setup
    → StateFits setup.bounds h p → KnowledgeFits setup h (keeping t (p ∷ []))
of_one {setup} {h} t p is fits = record {
  settled = λ _. is;
  states = at;
  front = begins_empty h;
}
  where
    at : (i : ℕ) (q : SeatState) → get_elem? (p ∷ []) i ≡ maybe.some q
        → StateFits setup.bounds h q
    at zero q e = subst (StateFits setup.bounds h) (some-injective p q e) fits
    at (suc i) q e = absurd (some-ne-none q (sym e))

pub only_fits : (setup : Terms) (h : History) (t : Terms) (p : SeatState)
    → KnowledgeFits setup h (keeping t (p ∷ [])) → StateFits setup.bounds h p
only_fits setup h t p fits = fits.states 0 p refl

pub same_number : (a b : ℕ) → a ≡ b → (a == b) ≡ true
same_number a b is = grind (arith, nat_tests)

pub other_number : (a b : ℕ) → a ≢ b → (a == b) ≡ false
other_number a b apart = grind (arith, nat_tests)

pub false_is_no : false ≡ true → ⊥
false_is_no e = omega (arith, ap one_if e)

pub at_most_one : (b : Bool) → one_if b ≤ 1
at_most_one true = omega arith
at_most_one false = omega arith

pub busy_word : (n : ℕ) → n ≢ 0 → one_if (nat_lt 0 n) ≡ 1
busy_word n some = ap one_if (lt-ltb 0 n (omega (arith, some)))

-- the state of another seat
pub not_its : (number : ℕ) (v : Knowledge) (i : ℕ) (p : SeatState) → states_of number v ≡ 0
    → get_elem? v.states i ≡ maybe.some p → p.number ≢ number
not_its number v i p none e is = omega (
  arith,
  ap one_if (same_number p.number number is),
  none,
  part (λ (q : SeatState). one_if (q.number == number)) v.states i p e,
)

-- The number of a state is one of the seats'.
pub low_number : (setup : Terms) (s : Board) (k : StripesRule setup s) (u : Knowledge) (j : ℕ)
    → get_elem? s.views j ≡ maybe.some u → (i : ℕ) (p : SeatState)
    → get_elem? u.states i ≡ maybe.some p → p.number < setup.seats
low_number setup s k u j e i p e' = grind (
  arith,
  nat_tests,
  k.each p.number,
  part (states_of p.number) s.views j u e,
  part (λ (q : SeatState). one_if (q.number == p.number)) u.states i p e',
  ap one_if (same_number p.number p.number refl),
)

-- Of two participants only one keeps the state of a seat.
pub no_other : (setup : Terms) (s : Board) (k : StripesRule setup s) (id other number : ℕ)
    (v u : Knowledge) → other ≢ id → get_elem? s.views id ≡ maybe.some v
    → get_elem? s.views other ≡ maybe.some u → states_of number v ≡ 1 → states_of number u ≡ 0
no_other setup s k id other number v u apart at e its =
    omega (
      arith,
      k.each number,
      at_most_one (nat_lt number setup.seats),
      its,
      two_parts (states_of number) s.views id other v u (λ is. apart (sym is)) at e,
    )

-- Of two participants only one holds a stripe.
pub no_other_holder : (setup : Terms) (s : Board) (k : StripesRule setup s)
    (id other stripe : ℕ) (v u : Knowledge) → other ≢ id → get_elem? s.views id ≡ maybe.some v
    → get_elem? s.views other ≡ maybe.some u → 0 < holders stripe v → holders stripe u ≡ 0
no_other_holder setup s k id other stripe v u apart at e its =
    omega (
      arith,
      k.locks stripe,
      at_most_one (nat_lt 0 (slice_index s.words (lock_word stripe))),
      its,
      two_parts (holders stripe) s.views id other v u (λ is. apart (sym is)) at e,
    )

-- the lock of a stripe that somebody holds is not free
pub held_is_busy : (setup : Terms) (s : Board) (k : StripesRule setup s) (id stripe : ℕ)
    (v : Knowledge) → get_elem? s.views id ≡ maybe.some v → 0 < holders stripe v
    → slice_index s.words (lock_word stripe) ≢ 0
held_is_busy setup s k id stripe v at its free =
    omega (
      arith,
      k.locks stripe ∙ ap (λ (n : ℕ). one_if (nat_lt 0 n)) free,
      its,
      part (holders stripe) s.views id v at,
    )

-- what a participant with one state holds
pub held_once : (stripe : ℕ) (p : SeatState) (t : Terms)
    → holders stripe (keeping t (p ∷ [])) ≡ times_held stripe p.holds
held_once stripe p t = omega arith
