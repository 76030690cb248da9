-- The end: when one participant keeps the states of all clients, and none of them holds the lock.
use Rattle.std.proofs.Common.{◌≡◌, ◌≢◌, ◌∙◌, inl, inr, refl, sym, ap, subst, ℕ}
use Rattle.std.proofs.Common.{suc, ◌<◌, List, [], ◌∷◌, length, arith, slice_index}
use Rattle.std.specs.Prelude.{◌==◌}
use Rattle.std.specs.List.{sum_by}
use mathlib.Core.Option as maybe
use mathlib.Core.Option.{some-injective}
use lib.ListN.{get_elem?}
use Rattle.std.proofs.lemmas.Bool.{lt-ltb}
use Rattle.std.proofs.lemmas.List.Sums.{sum_by-cons}
use Rattle.atomic_table.specs.Table.{Final, Seen}
use Rattle.tsc_left_right.proofs.Plain.{some_part}
use Rattle.mvcc_shared.specs.declared.served.Served.{Served}
use Rattle.mvcc_shared.specs.declared.table.ClientState.{ClientState}
use Rattle.mvcc_shared.specs.declared.table.Knowledge.{Knowledge}
use Rattle.mvcc_shared.specs.History.{Terms}
use Rattle.mvcc_shared.specs.Rule.{StoredRange, RangeRule, IsAfter, one_if, states_in, states_of, holders}
use Rattle.mvcc_shared.specs.Participating.{IsEnd}
use Rattle.mvcc_shared.proofs.Totals.{part, two_parts}
use Rattle.mvcc_shared.proofs.Moves.{Board, same_or_not}

-- no states count for nothing
nothing : (f : ClientState → ℕ) (ps : List ClientState) → length ps ≡ 0 → sum_by f ps ≡ 0
nothing f [] none = refl
nothing f (p ∷ ps) none = absurd (omega (arith, none))

-- Where one participant keeps as many states as there are clients, whoever keeps any is that one.
only_one : (setup : Terms) (s : Board) (k : RangeRule setup s) (id : ℕ) (v : Knowledge)
    → get_elem? s.views id ≡ maybe.some v → length v.states ≡ setup.clients
    → (f : ClientState → ℕ) (j : ℕ) (u : Knowledge) → get_elem? s.views j ≡ maybe.some u
    → sum_by f u.states ≢ 0 → u ≡ v
only_one setup s k id v at long f j u there some = elim (same_or_not j id) [
  | inl same ↦ some-injective u v (sym there ∙ ap (get_elem? s.views) same ∙ at)
  | inr apart ↦ absurd (some (nothing f u.states (omega (
    arith,
    long,
    k.all,
    two_parts states_in s.views id j v u (λ is. apart (sym is)) at there,
  ))))
]

-- It keeps each client's once.
each_there : (setup : Terms) (s : Board) (k : RangeRule setup s) (id : ℕ) (v : Knowledge)
    → get_elem? s.views id ≡ maybe.some v → length v.states ≡ setup.clients
    → (number : ℕ) → number < setup.clients → states_of number v ≡ 1
each_there setup s k id v at long number low =
    let whole : sum_by (states_of number) s.views ≡ 1 = k.each number
    ∙ ap one_if (lt-ltb number setup.clients low) in
    let there = some_part (states_of number) s.views (λ none. omega (arith, none, whole)) in
    let same = only_one setup s k id v at long
    (λ (p : ClientState). one_if (p.number == number)) there.0 there.1 there.2 there.3 in
    omega (
      arith,
      whole,
      part (states_of number) s.views id v at,
      subst (λ (u : Knowledge). states_of number u ≢ 0) same there.3,
    )

-- If none of its states holds the lock, that is free.
lock_is_free : (setup : Terms) (s : Board) (k : RangeRule setup s) (id : ℕ) (v : Knowledge)
    → get_elem? s.views id ≡ maybe.some v → holders v ≡ 0
    → length v.states ≡ setup.clients → slice_index s.words 0 ≡ 0
lock_is_free setup s k id v at none long =
    elim (same_or_not (slice_index s.words 0) 0) [
      | inl free ↦ free
      | inr busy ↦ (let there = some_part holders s.views (λ e. omega (
        arith,
        e,
        k.lock,
        ap one_if (lt-ltb 0 (slice_index s.words 0) (omega (arith, busy))),
      )) in
          let same = only_one setup s k id v at long (λ (p : ClientState). one_if p.holds) there.0
          there.1 there.2 there.3 in
          absurd (subst (λ (u : Knowledge). holders u ≢ 0) same there.3 none))
    ]

-- So what lay in the slot is what the history leaves.
pub ends : (key : Terms) (id : ℕ) (v : Knowledge) (words : List ℕ) (items : List StoredRange)
    (x : StoredRange)
    (served : Served) → Final (Seen (RangeRule key) id v) words items → holders v ≡ 0
    → length v.states ≡ key.clients → get_elem? items 0 ≡ maybe.some x → served ≡ x.value
    → IsEnd key v.states served
ends key id v words items x served end_ none long at is =
    let s : Board = end_.0 in
    let k = end_.1.0 in
    let seen = end_.1.1 in
    let here = k.home (lock_is_free key s k id v seen none long) in
    let same : here.0 ≡ x = some-injective here.0 x (sym (end_.4 0 here.0 here.1) ∙ at) in
    record {
      each = each_there key s k id v seen long;
      history = k.history;
      legal = k.legal;
      stands = subst (IsAfter key k.history) (sym is)
          (subst (λ (y : StoredRange). IsAfter key k.history y.value) same here.2);
      fits = (k.views id v seen).states;
    }
