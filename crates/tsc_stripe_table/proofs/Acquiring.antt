-- A seat acquires the lock of a stripe.
use Rattle.std.proofs.Common.{◌≡◌, ◌≢◌, ◌∙◌, inl, inr, refl, sym, ap, subst, ℕ, ◌+◌, ◌<◌, List, []}
use Rattle.std.proofs.Common.{◌∷◌, set, arith, slice_index, length-set, ne_eqb, true, false}
use Rattle.std.specs.Prelude.{Bool, ◌==◌, nat_lt}
use Rattle.std.proofs.lemmas.Bool.Decides.{nat_tests}
use Rattle.std.specs.List.{sum_by}
use mathlib.Core.Logic.{dite}
use native.Mathlib.Decide.{ℕ_discrete}
use mathlib.Core.Option as maybe
use lib.ListN.{get_elem?}
use lib.Seq.{set-get_or}
use prog.Atomic.{either}
use Rattle.atomic_table.proofs.Lists.{set_else, set_again}
use Rattle.atomic_table.specs.Table.{Step, Act, takes as act_takes, keeps as act_keeps}
use Rattle.atomic_table.specs.Table.{Allows, Valid, stepped, carried_after}
use Rattle.tsc_cache.specs.History.{History, IsLegal}
use Rattle.tsc_cache.proofs.Beginnings.{begins_itself}
use Rattle.tsc_stripe_table.specs.declared.table.SeatState.{SeatState}
use Rattle.tsc_stripe_table.specs.declared.table.Knowledge.{Knowledge}
use Rattle.tsc_stripe_table.specs.Stripes.{Terms, stripe_count, IsStateOn}
use Rattle.tsc_stripe_table.specs.Rule.{StoredStripe, keeping, one_if, lock_word, times_held, holders}
use Rattle.tsc_stripe_table.specs.Rule.{Descends, StripesRule, IsHome}
use Rattle.tsc_stripe_table.specs.Steps.{At, acquired, acquires, Acquires, AgreeOn, state_in}
use Rattle.tsc_stripe_table.specs.Participating.{CanAcquire}
use Rattle.tsc_stripe_table.proofs.Moves.{Board, Homes, Moved, moved_kept, of_one, only_fits}
use Rattle.tsc_stripe_table.proofs.Moves.{busy_in, same_number, other_number, held_once}
use Rattle.tsc_stripe_table.proofs.Parts.{same_or_not, held_cons, busy_set, busy_else, word_set}
use Rattle.tsc_stripe_table.proofs.Parts.{word_else}

-- A step that changes nothing keeps the rule.
pub unmoved : (setup : Terms) (s : Board) (k : StripesRule setup s) (id : ℕ) (v : Knowledge)
    (i : ℕ) → get_elem? s.views id ≡ maybe.some v
    → StripesRule setup (record {
      words = set s.words i (slice_index s.words i);
      homes = s.homes;
      views = set s.views id v;
    })
unmoved setup s k id v i at = subst (λ (vs : List Knowledge). StripesRule setup
    (record { words = set s.words i (slice_index s.words i); homes = s.homes; views = vs }))
    (sym (set_again s.views id v at))
    (subst (λ (ws : List ℕ). StripesRule setup (record {
      words = ws;
      homes = s.homes;
      views = s.views;
    })) (sym (set-get_or s.words i 0)) k)

module _ (setup : Terms) (slots : ℕ) (st : Step StoredStripe) (id : ℕ) (t : Terms) (p : SeatState)
    (hand : List (ℕ × StoredStripe)) (stripe : ℕ) where
  abbrev who : Knowledge
  who = keeping t (p ∷ [])

  abbrev Goes : Board → ℕ → Type 0
  Goes s n = (w : Knowledge) × (a : Act StoredStripe) × Valid s.homes hand a
      × StripesRule setup
      (stepped s (lock_word stripe) (either (n == 0) 1 n) id hand w a)
      × acquires st (who, hand) n (w, carried_after hand a)

  abbrev taken : History → Knowledge
  taken h = keeping t (acquired p stripe h ∷ [])

  locks_then : (s : Board) (k : StripesRule setup s) → stripe < stripe_count setup.bounds
      → slice_index s.words (lock_word stripe) ≡ 0 → (j : ℕ) → sum_by (holders j) s.views
      + holders j (taken k.history) ≡ busy_in (set s.words (lock_word stripe) 1) j + holders j who
  locks_then s k low none j =
      elim (same_or_not stripe j) [
        | inl same ↦ subst (λ (m : ℕ). sum_by (holders m) s.views + holders m (taken k.history)
            ≡ busy_in (set s.words (lock_word stripe) 1) m + holders m who) same
            (omega (
              arith,
              k.locks stripe ∙ ap (λ (n : ℕ). one_if (nat_lt 0 n)) none,
              busy_set s.words stripe 1 (stripe_count setup.bounds) k.wide low,
              held_once stripe (acquired p stripe k.history) t,
              held_once stripe p t,
              held_cons stripe stripe p.holds,
              ap one_if (same_number stripe stripe refl),
            ))
        | inr apart ↦ omega (
          arith,
          k.locks j,
          busy_else s.words stripe 1 j apart,
          held_once j (acquired p stripe k.history) t,
          held_once j p t,
          held_cons j stripe p.holds,
          ap one_if (other_number stripe j apart),
        )
      ]

  homes_then : (s : Board) (k : StripesRule setup s) → stripe < stripe_count setup.bounds
      → (j : ℕ) → j < stripe_count setup.bounds
      → slice_index (set s.words (lock_word stripe) 1) (lock_word j) ≡ 0
      → IsHome setup k.history (set s.homes stripe maybe.none) j
  homes_then s k low j lower free =
      elim (same_or_not stripe j) [
        | inl same ↦ absurd (omega (
          arith,
          word_set s.words stripe 1 (stripe_count setup.bounds) k.wide low,
          subst (λ (m : ℕ). slice_index (set s.words (lock_word stripe) 1) (lock_word m) ≡ 0)
              (sym same) free,
        ))
        | inr apart ↦ (let here = k.homes j lower
            (sym (word_else s.words stripe 1 j apart) ∙ free) in (
              here.0,
              set_else s.homes stripe j maybe.none (λ is. apart (sym is)) ∙ here.1,
              here.2,
            ))
      ]

  acquire_free : stripe < stripe_count t.bounds → Descends (stripe ∷ p.holds)
      → st.word ≡ lock_word stripe → (s : Board) (k : StripesRule setup s)
      → get_elem? s.views id ≡ maybe.some who → slice_index s.words (lock_word stripe) ≡ 0
      → Goes s (slice_index s.words (lock_word stripe))
  acquire_free low_there order word s k at none =
      let h : History = k.history in
      let mine = only_fits setup h t p (k.views id who at) in
      let same : t ≡ setup = (k.views id who at).settled refl in
      let low : stripe < stripe_count setup.bounds =
      subst (λ (x : Terms). stripe < stripe_count x.bounds) same low_there in
      let here = k.homes stripe low none in
      let words : List ℕ = set s.words (lock_word stripe) 1 in
      let homes : Homes = set s.homes stripe maybe.none in
      let moved : Moved setup s id who (taken h) h words homes = record {
        at = at;
        legal = k.legal;
        wide = length-set s.words (lock_word stripe) 1 ∙ k.wide;
        deep = length-set s.homes stripe maybe.none ∙ k.deep;
        fits = of_one t (acquired p stripe h) same (record {
          begins = mine.begins;
          own = mine.own;
          own_seen = mine.own_seen;
          order = order;
          reached = λ _. record {
            begins = begins_itself h;
            onward = mine.begins;
            own = mine.own;
          };
          held = λ j _. refl;
        });
        others = λ other u apart e. k.views other u e;
        each = λ _. refl;
        locks = locks_then s k low none;
        at_home = homes_then s k low;
      } in (
        taken h,
        act_takes stripe here.0,
        here.1,
        subst (λ (n : ℕ). StripesRule setup (stepped s (lock_word stripe)
            (either (n == 0) 1 n) id hand (taken h) (act_takes stripe here.0))) (sym none)
            (moved_kept setup s k id who (taken h) h words homes moved),
        (
          (λ _. (
            stripe,
            here.0,
            word,
            record {
              history = h;
              after = refl;
              begins = mine.begins;
              legal = subst (λ (x : Terms). IsLegal x.config x.seats h) (sym same) k.legal;
              own = mine.own;
              unchanged = subst (λ (x : Terms). AgreeOn x.bounds p.holds h p.reached) (sym same)
                  mine.held;
              stands = subst (λ (x : Terms). IsStateOn x stripe h here.0.value.cache) (sym same)
                  here.2;
            },
            refl,
          )),
          (λ busy. absurd (busy none)),
        ),
      )

  pub acquire_allowed : stripe < stripe_count t.bounds → Descends (stripe ∷ p.holds)
      → st.word ≡ lock_word stripe → Allows (StripesRule setup) slots id (who, hand)
      (lock_word stripe) (λ n. either (n == 0) 1 n) (acquires st (who, hand))
  acquire_allowed low order word s k deep at small =
      dite (ℕ_discrete (slice_index s.words (lock_word stripe)) 0)
      (λ none. acquire_free low order word s k at none)
      (λ some. (
        who,
        act_keeps,
        tt,
        subst (λ (b : Bool). StripesRule setup (stepped s (lock_word stripe)
            (either b 1 (slice_index s.words (lock_word stripe))) id hand who act_keeps))
            (sym (ne_eqb (slice_index s.words (lock_word stripe)) 0 some))
            (unmoved setup s k id who (lock_word stripe) at),
        ((λ none. absurd (some none)), (λ _. refl)),
      ))

-- the same, as the calls have it
pub acquire_at : (key : Terms) (slots : ℕ) (st : Step StoredStripe) (id : ℕ) (me : At)
    (stripe word : ℕ) → word ≡ lock_word stripe → st.word ≡ lock_word stripe
    → CanAcquire me.0 stripe → Allows (StripesRule key) slots id me word (λ n. either (n == 0) 1 n) (acquires st me)
acquire_at key slots st id me stripe word is its can =
    subst (λ (i : ℕ). Allows (StripesRule key) slots id me i (λ n. either (n == 0) 1 n)
    (acquires st me)) (sym is)
    (subst (λ (v : Knowledge). Allows (StripesRule key) slots id (v, me.1) (lock_word stripe)
    (λ n. either (n == 0) 1 n) (acquires st (v, me.1))) (sym can.one)
    (acquire_allowed key slots st id me.0.setup (state_in me.0) me.1 stripe can.is_stripe can.order
    its))

-- what a word tells that was found
pub is_none : (n : ℕ) → (n == 0) ≡ true → n ≡ 0
is_none n is = grind (arith, nat_tests)

pub is_some : (n : ℕ) → (n == 0) ≡ false → n ≢ 0
is_some n is = grind (arith, nat_tests)

-- what was acquired is the stripe that was asked for
pub acquired_then : (st : Step StoredStripe) (me me' : At) (found stripe : ℕ)
    → st.word ≡ lock_word stripe → acquires st me found me' → found ≡ 0 → (x : StoredStripe)
    × Acquires me.0 me'.0 stripe x.value.cache × (me'.1 ≡ (stripe, x) ∷ me.1)
acquired_then st me me' found stripe is done none =
    let got = done.0 none in
    let same : got.0 ≡ stripe = omega (arith, is, got.2) in (
      got.1,
      subst (λ (i : ℕ). Acquires me.0 me'.0 i got.1.value.cache) same got.3,
      subst (λ (i : ℕ). me'.1 ≡ (i, got.1) ∷ me.1) same got.4,
    )
