-- A step of one participant keeps the rule.
use Rattle.std.proofs.Common.{◌≡◌, ◌≢◌, ◌⊎◌, inl, inr, refl, sym, ap, subst, true, false, Bool}
use Rattle.std.proofs.Common.{ℕ, zero, suc, ◌+◌, ◌<◌, ◌≤◌, List, [], ◌∷◌, length, set, arith}
use Rattle.std.proofs.Common.{slice_index}
use Rattle.std.specs.Prelude.{◌==◌, nat_lt}
use Rattle.std.specs.List.{sum_by}
use mathlib.Core.Option as maybe
use mathlib.Core.Option.{some-injective, some-ne-none}
use lib.ListN.{get_elem?}
use Rattle.std.proofs.lemmas.Bool.Decides.{nat_tests}
use Rattle.atomic_table.specs.Table.{State}
use Rattle.atomic_table.proofs.Lists.{at_set}
use Rattle.mvcc_shared.specs.declared.table.ClientState.{ClientState}
use Rattle.mvcc_shared.specs.declared.table.Knowledge.{Knowledge}
use Rattle.mvcc_shared.specs.History.{History, Terms, IsLegal}
use Rattle.mvcc_shared.specs.Rule.{StoredRange, keeping, one_if, RangeRule, KnowledgeFits, StateFits}
use Rattle.mvcc_shared.specs.Rule.{states_in, states_of, holders, IsHome}
use Rattle.mvcc_shared.proofs.Histories.{begins_empty}
use Rattle.mvcc_shared.proofs.Totals.{part, two_parts, total_set}

abbrev pub Board : Type 0
Board = State StoredRange Knowledge

abbrev pub Homes : Type 0
Homes = List (maybe.Option StoredRange)

-- whether the lock is held, as 1 or 0
abbrev pub busy_in : List ℕ → ℕ
busy_in words = one_if (nat_lt 0 (slice_index words 0))

-- the table when one participant knows something else, with all that may change
pub record Moved (setup : Terms) (s : Board) (id : ℕ) (v w : Knowledge) (h : History)
    (words : List ℕ) (homes : Homes) : Type 0 where
  pub at : get_elem? s.views id ≡ maybe.some v
  pub legal : IsLegal setup h
  pub wide : length words ≡ 1
  pub deep : length homes ≡ 1
  pub fits : KnowledgeFits setup h w
  pub others : (other : ℕ) (u : Knowledge) → other ≢ id → get_elem? s.views other ≡ maybe.some u
      → KnowledgeFits setup h u
  pub all : states_in w ≡ states_in v
  pub each : (number : ℕ) → states_of number w ≡ states_of number v
  pub lock : sum_by holders s.views + holders w ≡ busy_in words + holders v
  pub at_home : slice_index words 0 ≡ 0 → IsHome setup h homes

pub moved_kept : (setup : Terms) (s : Board) (k : RangeRule setup s) (id : ℕ) (v w : Knowledge)
    (h : History) (words : List ℕ) (homes : Homes) → Moved setup s id v w h words homes
    → RangeRule setup (record { words = words; homes = homes; views = set s.views id w })
moved_kept setup s k id v w h words homes m = record {
  history = h;
  legal = m.legal;
  wide = m.wide;
  deep = m.deep;
  views = λ other u e. elim (at_set s.views id other w u e) [
    | inl same ↦ subst (KnowledgeFits setup h) same.1 m.fits
    | inr apart ↦ m.others other u apart.0 apart.1
  ];
  all = omega (arith, total_set states_in s.views id v w m.at, m.all, k.all);
  each = λ number. omega (
    arith,
    total_set (states_of number) s.views id v w m.at,
    m.each number,
    k.each number,
  );
  lock = omega (arith, total_set holders s.views id v w m.at, m.lock);
  home = m.at_home;
}

-- a participant that keeps one state
pub of_one : {setup : Terms} {h : History} (t : Terms) (p : ClientState) → t ≡ setup
    → StateFits h p → KnowledgeFits setup h (keeping t (p ∷ []))
of_one {setup} {h} t p is fits = record {
  settled = λ _. is;
  states = at;
  front = begins_empty h;
}
  where
    at : (i : ℕ) (q : ClientState) → get_elem? (p ∷ []) i ≡ maybe.some q → StateFits h q
    at zero q e = subst (StateFits h) (some-injective p q e) fits
    at (suc i) q e = absurd (some-ne-none q (sym e))

pub same_number : (a b : ℕ) → a ≡ b → (a == b) ≡ true
same_number a b is = grind (arith, nat_tests)

pub other_number : (a b : ℕ) → a ≢ b → (a == b) ≡ false
other_number a b apart = grind (arith, nat_tests)

pub same_or_not : (a b : ℕ) → (a ≡ b) ⊎ (a ≢ b)
same_or_not a b = by_test (a == b) refl
  where
    by_test : (t : Bool) → (a == b) ≡ t → (a ≡ b) ⊎ (a ≢ b)
    by_test true is = inl (grind (arith, nat_tests))
    by_test false is = inr (grind (arith, nat_tests))

pub false_is_no : false ≡ true → ⊥
false_is_no e = omega (arith, ap one_if e)

pub at_most_one : (b : Bool) → one_if b ≤ 1
at_most_one true = omega arith
at_most_one false = omega arith

-- the state of another client
pub not_its : (number : ℕ) (v : Knowledge) (i : ℕ) (p : ClientState) → states_of number v ≡ 0
    → get_elem? v.states i ≡ maybe.some p → p.number ≢ number
not_its number v i p none e is = omega (
  arith,
  ap one_if (same_number p.number number is),
  none,
  part (λ (q : ClientState). one_if (q.number == number)) v.states i p e,
)

-- a state that holds the lock counts
pub its_hold : (v : Knowledge) (i : ℕ) (p : ClientState) → get_elem? v.states i ≡ maybe.some p
    → p.holds ≡ true → 0 < holders v
its_hold v i p e is = omega (
  arith,
  ap one_if is,
  part (λ (q : ClientState). one_if q.holds) v.states i p e,
)

-- The number of a state is one of the clients'.
pub low_number : (setup : Terms) (s : Board) (k : RangeRule setup s) (u : Knowledge) (j : ℕ)
    → get_elem? s.views j ≡ maybe.some u → (i : ℕ) (p : ClientState)
    → get_elem? u.states i ≡ maybe.some p → p.number < setup.clients
low_number setup s k u j e i p e' = grind (
  arith,
  nat_tests,
  k.each p.number,
  part (states_of p.number) s.views j u e,
  part (λ (q : ClientState). one_if (q.number == p.number)) u.states i p e',
  ap one_if (same_number p.number p.number refl),
)

-- Of two participants only one keeps the state of a client.
pub no_other : (setup : Terms) (s : Board) (k : RangeRule setup s) (id other number : ℕ)
    (v u : Knowledge) → other ≢ id → get_elem? s.views id ≡ maybe.some v
    → get_elem? s.views other ≡ maybe.some u → states_of number v ≡ 1 → states_of number u ≡ 0
no_other setup s k id other number v u apart at e its =
    omega (
      arith,
      k.each number,
      at_most_one (nat_lt number setup.clients),
      its,
      two_parts (states_of number) s.views id other v u (λ is. apart (sym is)) at e,
    )

-- Of two participants only one holds the lock.
pub no_other_holder : (setup : Terms) (s : Board) (k : RangeRule setup s) (id other : ℕ)
    (v u : Knowledge) → other ≢ id → get_elem? s.views id ≡ maybe.some v
    → get_elem? s.views other ≡ maybe.some u → 0 < holders v → holders u ≡ 0
no_other_holder setup s k id other v u apart at e its =
    omega (
      arith,
      k.lock,
      at_most_one (nat_lt 0 (slice_index s.words 0)),
      its,
      two_parts holders s.views id other v u (λ is. apart (sym is)) at e,
    )
