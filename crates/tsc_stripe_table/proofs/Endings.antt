-- The end: when one participant keeps the states of all seats, and none of them holds a lock.
use Rattle.std.proofs.Common.{◌≡◌, ◌≢◌, ◌⊎◌, ◌∙◌, inl, inr, refl, sym, ap, subst, Bool, true}
use Rattle.std.proofs.Common.{false, ℕ}
use Rattle.std.proofs.Common.{zero, suc, ◌+◌, ◌<◌, ◌≤◌, List, [], ◌∷◌, ◌++◌, length, arith, set}
use Rattle.std.proofs.Common.{get_or, get_or-set_other, slice_index}
use Rattle.std.specs.Prelude.{◌==◌, nat_lt}
use Rattle.std.specs.List.{sum_by}
use mathlib.Core.Option as maybe
use mathlib.Core.Option.{some-injective, some-ne-none}
use lib.ListN.{get_elem?}
use Rattle.std.specs.Mem.Slots.Ownership.{Filled}
use Rattle.std.proofs.lemmas.List.{length_push}
use Rattle.std.proofs.lemmas.List.Sums.{sum_by-cons}
use Rattle.std.proofs.lemmas.Bool.Decides.{nat_tests}
use Rattle.atomic_table.proofs.Lists.{at_snoc}
use Rattle.tsc_cache.specs.CacheView.{CacheView}
use Rattle.tsc_cache.specs.History.{History, IsLegal}
use Rattle.tsc_left_right.proofs.Plain.{some_part}
use Rattle.tsc_stripe_table.specs.declared.table.SeatState.{SeatState}
use Rattle.tsc_stripe_table.specs.declared.table.Knowledge.{Knowledge}
use Rattle.tsc_stripe_table.specs.Stripes.{Terms, stripe_count, IsStateOn}
use Rattle.tsc_stripe_table.specs.Rule.{StoredStripe, StripesRule, one_if, states_of, holders}
use Rattle.tsc_stripe_table.specs.Rule.{times_held, lock_word}
use Rattle.tsc_stripe_table.specs.Closing.{IsEnd, EndFits}
use Rattle.tsc_stripe_table.proofs.Totals.{part, two_parts}
use Rattle.tsc_stripe_table.proofs.Moves.{Board, low_number, same_number, other_number, at_most_one}
use Rattle.tsc_stripe_table.proofs.Moves.{busy_word}
use Rattle.tsc_stripe_table.proofs.Parts.{same_or_not}
use Rattle.tsc_stripe_table.proofs.Openings.{of_seat}

-- f 0 + .. up to below n
abbrev below : ℕ → (ℕ → ℕ) → ℕ
below zero f = 0
below (suc n) f = below n f + f n

below_add : (n : ℕ) (f g : ℕ → ℕ) → below n (λ m. f m + g m) ≡ below n f + below n g
below_add zero f g = refl
below_add (suc n) f g = omega (arith, below_add n f g)

below_same : (n : ℕ) (f g : ℕ → ℕ) → ((m : ℕ) → f m ≡ g m) → below n f ≡ below n g
below_same zero f g same = refl
below_same (suc n) f g same = omega (arith, below_same n f g same, same n)

below_none : (n k : ℕ) → n ≤ k → below n (λ m. one_if (k == m)) ≡ 0
below_none zero k le = refl
below_none (suc n) k le = omega (
  arith,
  below_none n k (omega arith),
  ap one_if (other_number k n (λ e. omega (arith, e))),
)

below_one : (n k : ℕ) → k < n → below n (λ m. one_if (k == m)) ≡ 1
below_one zero k lt = absurd (omega arith)
below_one (suc n) k lt = elim (same_or_not k n) [
  | inl same ↦ omega (arith, below_none n k (omega (arith, same)), ap one_if (same_number k n same))
  | inr apart ↦ omega (
    arith,
    below_one n k (omega (arith, apart)),
    ap one_if (other_number k n apart),
  )
]

below_zero : (n : ℕ) → below n (λ m. 0) ≡ 0
below_zero zero = refl
below_zero (suc n) = omega (arith, below_zero n)

-- Each state counts for its number.
counts_all : (n : ℕ) (ps : List SeatState) → ((i : ℕ) (p : SeatState) → get_elem? ps i
    ≡ maybe.some p → p.number < n) → below n (λ m. of_seat m ps) ≡ length ps
counts_all n [] low = below_zero n
counts_all n (p ∷ ps) low =
    omega (
      arith,
      below_same n (λ m. of_seat m (p ∷ ps)) (λ m. one_if (p.number == m) + of_seat m ps)
          (λ m. sum_by-cons (λ (q : SeatState). one_if (q.number == m)) p ps),
      below_add n (λ m. one_if (p.number == m)) (λ m. of_seat m ps),
      below_one n p.number (low 0 p refl),
      counts_all n ps (λ i q e. low (suc i) q e),
    )

below_bound : (n : ℕ) (f : ℕ → ℕ) → ((m : ℕ) → f m ≤ 1) → below n f ≤ n
below_bound zero f one = omega arith
below_bound (suc n) f one = omega (arith, below_bound n f one, one n)

below_short : (n : ℕ) (f : ℕ → ℕ) (k : ℕ) → ((m : ℕ) → f m ≤ 1) → k < n → f k ≡ 0 → below n f < n
below_short zero f k one lt none = absurd (omega arith)
below_short (suc n) f k one lt none = elim (same_or_not k n) [
  | inl same ↦ omega (arith, below_bound n f one, ap f same, none)
  | inr apart ↦ omega (arith, below_short n f k one (omega (arith, apart)) none, one n)
]

-- With as many states as there are seats, and none of them twice, each seat has one.
all_there : (n : ℕ) (ps : List SeatState) → ((i : ℕ) (p : SeatState) → get_elem? ps i
    ≡ maybe.some p → p.number < n) → ((m : ℕ) → of_seat m ps ≤ 1) → length ps ≡ n
    → (k : ℕ) → k < n → of_seat k ps ≢ 0
all_there n ps low one long k lt none = omega (
  arith,
  below_short n (λ m. of_seat m ps) k one lt none,
  counts_all n ps low,
  long,
)

-- If a participant keeps as many states as there are seats, it keeps each seat's once.
pub each_there : (setup : Terms) (s : Board) (k : StripesRule setup s) (id : ℕ) (v : Knowledge)
    → get_elem? s.views id ≡ maybe.some v → length v.states ≡ setup.seats
    → (number : ℕ) → number < setup.seats → of_seat number v.states ≡ 1
each_there setup s k id v at long number low =
    let some = all_there setup.seats v.states (low_number setup s k v id at)
    (λ m. omega (
      arith,
      k.each m,
      at_most_one (nat_lt m setup.seats),
      part (states_of m) s.views id v at,
    )) long number low in
    omega (
      arith,
      some,
      k.each number,
      at_most_one (nat_lt number setup.seats),
      part (states_of number) s.views id v at,
    )

-- If it keeps all states, and none of them holds a stripe, the lock of that stripe is free.
pub lock_is_free : (setup : Terms) (s : Board) (k : StripesRule setup s) (id : ℕ) (v : Knowledge)
    (stripe : ℕ) → get_elem? s.views id ≡ maybe.some v → holders stripe v ≡ 0
    → length v.states ≡ setup.seats → slice_index s.words (lock_word stripe) ≡ 0
lock_is_free setup s k id v stripe at none long =
    elim (same_or_not (slice_index s.words (lock_word stripe)) 0) [
      | inl free ↦ free
      | inr busy ↦ (let there = some_part (holders stripe) s.views (λ e. omega (
        arith,
        e,
        k.locks stripe,
        busy_word (slice_index s.words (lock_word stripe)) busy,
      )) in
          let u : Knowledge = there.1 in
          let theirs = some_part (λ (q : SeatState). times_held stripe q.holds) u.states there.3 in
          let p : SeatState = theirs.1 in
          let apart : id ≢ there.0 =
          λ same. there.3 (ap (holders stripe) (some-injective u v (sym there.2
          ∙ ap (get_elem? s.views) (sym same) ∙ at)) ∙ none) in
          absurd (omega (
            arith,
            each_there setup s k id v at long p.number
                (low_number setup s k u there.0 there.2 theirs.0 p theirs.2),
            part (λ (q : SeatState). one_if (q.number == p.number)) u.states theirs.0 p theirs.2,
            ap one_if (same_number p.number p.number refl),
            two_parts (states_of p.number) s.views id there.0 v u apart at there.2,
            k.each p.number,
            at_most_one (nat_lt p.number setup.seats),
          )))
    ]

-- What lay in the slots of a table that was closed, of which the first caches were taken: all are
-- after one history, which fits all states.
pub record Gathers (key : Terms) (states : List SeatState) (items : List StoredStripe)
    (caches : List CacheView) (taken : ℕ) : Type 0 where
  pub each : (number : ℕ) → number < key.seats → of_seat number states ≡ 1
  pub history : History
  pub legal : IsLegal key.config key.seats history
  pub fits : (i : ℕ) (p : SeatState) → get_elem? states i ≡ maybe.some p → EndFits history p
  pub stored : (i : ℕ) (x : StoredStripe) → i < stripe_count key.bounds
      → get_elem? items i ≡ maybe.some x → IsStateOn key i history x.value.cache
  pub count : length caches ≡ taken
  pub stands : (i : ℕ) (cache : CacheView) → get_elem? caches i ≡ maybe.some cache
      → IsStateOn key i history cache

-- before the first is taken
pub gathers_none : (key : Terms) (s : Board) (k : StripesRule key s) (id : ℕ) (v : Knowledge)
    → get_elem? s.views id ≡ maybe.some v → ((stripe : ℕ) → holders stripe v ≡ 0)
    → length v.states ≡ key.seats → (items : List StoredStripe)
    → ((i : ℕ) (y : StoredStripe) → get_elem? s.homes i ≡ maybe.some (maybe.some y)
    → get_elem? items i ≡ maybe.some y) → (caches : List CacheView) → caches ≡ []
    → Gathers key v.states items caches 0
gathers_none key s k id v at none long items get caches no_cache = record {
  each = each_there key s k id v at long;
  history = k.history;
  legal = k.legal;
  fits = λ i p e. let f = (k.views id v at).states i p e in record {
    begins = f.begins;
    own = f.own;
  };
  stored = λ i x low e.
      let here = k.homes i low (lock_is_free key s k id v i at (none i) long) in
      subst (λ (y : StoredStripe). IsStateOn key i k.history y.value.cache)
      (some-injective here.0 x (sym (get i here.0 here.1) ∙ e)) here.2;
  count = ap length no_cache;
  stands = λ i cache e. absurd (some-ne-none cache
      (sym e ∙ ap (λ (cs : List CacheView). get_elem? cs i) no_cache));
}

-- one more is taken
pub gathers_more : (key : Terms) (states : List SeatState) (items items' : List StoredStripe)
    (caches caches' : List CacheView) (taken : ℕ) (x : StoredStripe) (cache : CacheView)
    → Gathers key states items caches taken → taken < stripe_count key.bounds → items' ≡ items
    → get_elem? items taken ≡ maybe.some x → cache ≡ x.value.cache
    → caches' ≡ caches ++ cache ∷ [] → Gathers key states items' caches' (taken + 1)
gathers_more key states items items' caches caches' taken x cache g low same at is more =
    subst (λ (xs : List StoredStripe). Gathers key states xs caches' (taken + 1)) (sym same)
    (subst (λ (cs : List CacheView). Gathers key states items cs (taken + 1)) (sym more) (record {
      each = g.each;
      history = g.history;
      legal = g.legal;
      fits = g.fits;
      stored = g.stored;
      count = omega (arith, length_push caches cache, g.count);
      stands = λ i c e. stands_at i c (same_or_not i taken) e;
    }))
  where
    at_end : (cs : List CacheView) (c d : CacheView) (n : ℕ) → length cs ≡ n
        → get_elem? (cs ++ c ∷ []) n ≡ maybe.some d → c ≡ d
    at_end [] c d zero long e = some-injective c d e
    at_end [] c d (suc n) long e = absurd (omega (arith, long))
    at_end (b ∷ cs) c d zero long e = absurd (omega (arith, long))
    at_end (b ∷ cs) c d (suc n) long e = at_end cs c d n (omega (arith, long)) e

    before_end : (cs : List CacheView) (c d : CacheView) (i n : ℕ) → length cs ≡ n → i ≢ n
        → get_elem? (cs ++ c ∷ []) i ≡ maybe.some d → get_elem? cs i ≡ maybe.some d
    before_end [] c d zero zero long apart e = absurd (apart refl)
    before_end [] c d zero (suc n) long apart e = absurd (omega (arith, long))
    before_end [] c d (suc i) n long apart e = absurd (some-ne-none d (sym e))
    before_end (b ∷ cs) c d i zero long apart e = absurd (omega (arith, long))
    before_end (b ∷ cs) c d zero (suc n) long apart e = e
    before_end (b ∷ cs) c d (suc i) (suc n) long apart e =
        before_end cs c d i n (omega (arith, long)) (λ z. apart (ap suc z)) e

    stands_at : (i : ℕ) (c : CacheView) → (i ≡ taken) ⊎ (i ≢ taken)
        → get_elem? (caches ++ cache ∷ []) i ≡ maybe.some c → IsStateOn key i g.history c
    stands_at i c (inl here) e =
        subst (λ (d : CacheView). IsStateOn key i g.history d)
        (sym is ∙ at_end caches cache c i (g.count ∙ sym here) e)
        (g.stored i x (omega (arith, here, low))
        (subst (λ (n : ℕ). get_elem? items n ≡ maybe.some x) (sym here) at))
    stands_at i c (inr apart) e =
        g.stands i c (before_end caches cache c i taken g.count apart e)

-- all are taken
pub gathers_all : (key : Terms) (states : List SeatState) (items : List StoredStripe)
    (caches : List CacheView) (taken : ℕ) → Gathers key states items caches taken
    → taken ≡ stripe_count key.bounds → IsEnd key states caches
gathers_all key states items caches taken g all = record {
  each = g.each;
  history = g.history;
  legal = g.legal;
  count = g.count ∙ all;
  stands = g.stands;
  fits = g.fits;
}

-- which slots still hold a value
pub left_filled : (fs gs : List Bool) (i n m : ℕ) → gs ≡ set fs i false → m ≡ n → Filled fs i n
    → Filled gs (i + 1) m
left_filled fs gs i n m is same full k low high =
    ap (λ (hs : List Bool). get_or hs k false) is
    ∙ get_or-set_other fs i k false false (λ z. omega (arith, z, low))
    ∙ full k (omega (arith, low)) (omega (arith, high, same))

pub left_empty : (fs gs : List Bool) (i : ℕ) → gs ≡ set fs i false
    → ((k : ℕ) → k < i → get_or fs k false ≡ false)
    → (k : ℕ) → k < i + 1 → get_or gs k false ≡ false
left_empty fs gs i is empty k low = ap (λ (hs : List Bool). get_or hs k false) is
    ∙ elim (same_or_not k i) [
      | inl same ↦ subst (λ (n : ℕ). get_or (set fs n false) k false ≡ false) same
          (set_empty fs k)
      | inr apart ↦ get_or-set_other fs i k false false apart
          ∙ empty k (omega (arith, low, apart))
    ]
  where
    set_empty : (hs : List Bool) (j : ℕ) → get_or (set hs j false) j false ≡ false
    set_empty [] j = refl
    set_empty (h ∷ hs) zero = refl
    set_empty (h ∷ hs) (suc j) = set_empty hs j
