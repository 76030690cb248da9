-- Participants are divided and put together, and a client sees what a front says.
use Rattle.std.proofs.Common.{◌≡◌, ◌≢◌, ◌⊎◌, ◌∙◌, inl, inr, refl, sym, ap, subst, true, ℕ, zero, suc}
use Rattle.std.proofs.Common.{◌+◌, ◌<◌, List, [], ◌∷◌, ◌++◌, length, set, arith, sum_by}
use Rattle.std.specs.Prelude.{◌==◌}
use mathlib.Core.Option as maybe
use mathlib.Core.Option.{some-ne-none}
use lib.ListN.{get_elem?}
use lib.Seq.{set-get_or}
use Rattle.std.proofs.lemmas.List.{length-append}
use Rattle.std.proofs.lemmas.List.Sums.{sum_by-append, sum_by_push, sum_by-cons}
use Rattle.atomic_table.proofs.Lists.{at_set, at_snoc, set_else}
use Rattle.atomic_table.specs.Table.{Step, keeps as act_keeps, Allows, Splits, Joins}
use Rattle.mvcc_shared.specs.declared.table.ClientState.{ClientState}
use Rattle.mvcc_shared.specs.declared.table.Knowledge.{Knowledge}
use Rattle.mvcc_shared.specs.History.{History, Terms, IsLegal, calls_of}
use Rattle.mvcc_shared.specs.Rule.{
  StoredRange,
  keeping,
  at_rest,
  one_if,
  RangeRule,
  KnowledgeFits,
  states_in,
  states_of,
  holders,
}
use Rattle.mvcc_shared.specs.Steps.{
  At,
  resting,
  front_of,
  spent,
  longer,
  CatchesUp,
  catches_up,
  number_of,
  seen_of,
  first_state,
  other_states,
}
use Rattle.mvcc_shared.specs.Participating.{IsAtRest, IsFront, KeepsStates}
use Rattle.mvcc_shared.proofs.Histories.{begins_empty, longer_begins, calls_between, legal_beginning}
use Rattle.mvcc_shared.proofs.Totals.{total_set}
use Rattle.mvcc_shared.proofs.Moves.{Board, of_one, false_is_no}

abbrev Fits : (setup : Terms) (s : Board) → RangeRule setup s → Knowledge → Type 0
Fits setup s k v = KnowledgeFits setup k.history v

-- Nothing but what participants know changes: it fits, and they keep the same states together.
viewed : (setup : Terms) (s : Board) (k : RangeRule setup s) (views : List Knowledge)
    → ((j : ℕ) (u : Knowledge) → get_elem? views j ≡ maybe.some u → Fits setup s k u)
    → sum_by states_in views ≡ sum_by states_in s.views
    → ((number : ℕ) → sum_by (states_of number) views ≡ sum_by (states_of number) s.views)
    → sum_by holders views ≡ sum_by holders s.views
    → RangeRule setup (record { words = s.words; homes = s.homes; views = views })
viewed setup s k views fits all each lock = record {
  history = k.history;
  legal = k.legal;
  wide = k.wide;
  deep = k.deep;
  views = fits;
  all = all ∙ k.all;
  each = λ number. each number ∙ k.each number;
  lock = lock ∙ k.lock;
  home = k.home;
}

-- One participant knows something else.
changed : (setup : Terms) (s : Board) (k : RangeRule setup s) (id : ℕ) (v w : Knowledge)
    → get_elem? s.views id ≡ maybe.some v → Fits setup s k w → states_in w ≡ states_in v
    → ((number : ℕ) → states_of number w ≡ states_of number v) → holders w ≡ holders v
    → RangeRule setup (record {
      words = s.words;
      homes = s.homes;
      views = set s.views id w;
    })
changed setup s k id v w at fits all each lock = viewed setup s k (set s.views id w)
    (λ j u e. elim (at_set s.views id j w u e) [
      | inl same ↦ subst (Fits setup s k) same.1 fits
      | inr apart ↦ k.views j u apart.1
    ])
    (omega (arith, total_set states_in s.views id v w at, all))
    (λ number. omega (arith, total_set (states_of number) s.views id v w at, each number))
    (omega (arith, total_set holders s.views id v w at, lock))

-- A participant is divided in two that fit, and each state goes with one of them.
split_kept : (setup : Terms) (s : Board) (k : RangeRule setup s) (id : ℕ)
    (v left right : Knowledge) → get_elem? s.views id ≡ maybe.some v
    → Fits setup s k left → Fits setup s k right
    → states_in left + states_in right ≡ states_in v
    → ((number : ℕ) → states_of number left + states_of number right ≡ states_of number v)
    → holders left + holders right ≡ holders v
    → RangeRule setup (record {
      words = s.words;
      homes = s.homes;
      views = set s.views id left ++ right ∷ [];
    })
split_kept setup s k id v left right at l r all each lock =
    viewed setup s k (set s.views id left ++ right ∷ [])
    (λ other u e. elim (at_snoc (set s.views id left) right u other e) [
      | inl old ↦ (elim (at_set s.views id other left u old) [
        | inl same ↦ subst (Fits setup s k) same.1 l
        | inr apart ↦ k.views other u apart.1
      ])
      | inr new ↦ subst (Fits setup s k) new r
    ])
    (omega (
      arith,
      sum_by_push states_in (set s.views id left) right,
      total_set states_in s.views id v left at,
      all,
    ))
    (λ number. omega (
      arith,
      sum_by_push (states_of number) (set s.views id left) right,
      total_set (states_of number) s.views id v left at,
      each number,
    ))
    (omega (
      arith,
      sum_by_push holders (set s.views id left) right,
      total_set holders s.views id v left at,
      lock,
    ))

spent_fits : (setup : Terms) (s : Board) (k : RangeRule setup s) → Fits setup s k spent
spent_fits setup s k = record {
  settled = λ e. absurd (false_is_no e);
  states = λ i p e. absurd (some-ne-none p (sym e));
  front = begins_empty k.history;
}

-- Two participants are put together to one that fits, with the states of both.
join_kept : (setup : Terms) (s : Board) (k : RangeRule setup s) (id : ℕ) (v : Knowledge)
    (other : ℕ) (w both : Knowledge) → get_elem? s.views id ≡ maybe.some v
    → other ≢ id → get_elem? s.views other ≡ maybe.some w
    → Fits setup s k both → states_in both ≡ states_in v + states_in w
    → ((number : ℕ) → states_of number both ≡ states_of number v + states_of number w)
    → holders both ≡ holders v + holders w
    → RangeRule setup (record {
      words = s.words;
      homes = s.homes;
      views = set (set s.views id both) other spent;
    })
join_kept setup s k id v other w both at apart at_other fits all each lock =
    let at_joined : get_elem? (set s.views id both) other ≡ maybe.some w =
    set_else s.views id other both apart ∙ at_other in
    viewed setup s k (set (set s.views id both) other spent)
    (λ j u e. elim (at_set (set s.views id both) other j spent u e) [
      | inl same ↦ subst (Fits setup s k) same.1 (spent_fits setup s k)
      | inr old ↦ (elim (at_set s.views id j both u old.1) [
        | inl same ↦ subst (Fits setup s k) same.1 fits
        | inr others ↦ k.views j u others.1
      ])
    ])
    (omega (
      arith,
      total_set states_in (set s.views id both) other w spent at_joined,
      total_set states_in s.views id v both at,
      all,
    ))
    (λ number. omega (
      arith,
      total_set (states_of number) (set s.views id both) other w spent at_joined,
      total_set (states_of number) s.views id v both at,
      each number,
    ))
    (omega (
      arith,
      total_set holders (set s.views id both) other w spent at_joined,
      total_set holders s.views id v both at,
      lock,
    ))

-- ---- fronts

-- a participant that has taken in a front
abbrev pub with_front : Terms → ClientState → History → Knowledge
with_front t p seen = record { live = true; setup = t; states = p ∷ []; front = seen }

-- A front says what a client has seen.
front_splits : (setup : Terms) (id : ℕ) (t : Terms) (p : ClientState)
    → Splits (RangeRule setup) id (keeping t (p ∷ [])) (keeping t (p ∷ [])) (front_of t p.seen)
front_splits setup id t p s k at =
    let fits = k.views id (keeping t (p ∷ [])) at in
    split_kept setup s k id (keeping t (p ∷ [])) (keeping t (p ∷ [])) (front_of t p.seen) at fits
    (record {
      settled = fits.settled;
      states = λ i q e. absurd (some-ne-none q (sym e));
      front = (fits.states 0 p refl).begins;
    })
    (omega arith) (λ n. omega arith) (omega arith)

-- It goes to another participant.
front_joins : (setup : Terms) (id : ℕ) (t : Terms) (p : ClientState) (other : ℕ) (u : Terms)
    (seen : History)
    → Joins (RangeRule setup) id (keeping t (p ∷ [])) other (front_of u seen)
    (with_front t p seen) spent
front_joins setup id t p other u seen s k at apart at_other =
    let v : Knowledge = keeping t (p ∷ []) in
    let fits = k.views id v at in
    let there : get_elem? s.views other ≡ maybe.some (front_of u seen) =
    sym (set_else s.views id other (with_front t p seen) apart) ∙ at_other in
    join_kept setup s k id v other (front_of u seen) (with_front t p seen) at apart there
    (record {
      settled = fits.settled;
      states = fits.states;
      front = (k.views other (front_of u seen) there).front;
    })
    (omega arith) (λ n. omega arith) (omega arith)

-- That one has then seen the longer of both.
catch_up_allowed : (setup : Terms) (slots : ℕ) (st : Step StoredRange) (id : ℕ) (t : Terms)
    (number : ℕ) (seen other : History)
    → Allows (RangeRule setup) slots id (with_front t (at_rest number seen) other, []) 0
    (λ n. n) (catches_up st (with_front t (at_rest number seen) other, []))
catch_up_allowed setup slots st id t number seen other s k deep at small =
    let v : Knowledge = with_front t (at_rest number seen) other in
    let fits = k.views id v at in
    let mine = fits.states 0 (at_rest number seen) refl in
    let same : t ≡ setup = fits.settled refl in
    let h : History = k.history in
    let long = longer_begins h seen other mine.begins fits.front in
    let legal : IsLegal setup (longer seen other) =
    legal_beginning setup h (longer seen other) k.legal long.2 in
    let own : calls_of number (longer seen other) ≡ calls_of number seen =
    calls_between number h (longer seen other) seen long.2 long.0 mine.own in
    let w : Knowledge = resting t number (longer seen other) in
    let fit : Fits setup s k w = of_one t (at_rest number (longer seen other)) same (record {
      begins = long.2;
      own = mine.own ∙ sym own;
      all = λ holds. absurd (false_is_no holds);
    }) in (
      w,
      act_keeps,
      tt,
      subst (λ (ws : List ℕ). RangeRule setup (record {
        words = ws;
        homes = s.homes;
        views = set s.views id w;
      })) (sym (set-get_or s.words 0 0))
          (changed setup s k id v w at fit refl (λ _. refl) refl),
      record {
        history = longer seen other;
        is_longer = refl;
        after = refl;
        begins = long.0;
        begins_other = long.1;
        own = own;
        legal = subst (λ (x : Terms). IsLegal x (longer seen other)) (sym same) legal;
      },
    )

-- the same, as the calls have it: a front of what a client has seen
pub front_at : (key : Terms) (id : ℕ) (me : At) → IsAtRest me → Splits (RangeRule key) id me.0
    me.0 (front_of me.0.setup (seen_of me.0))
front_at key id me rested = subst (λ (m : At). Splits (RangeRule key) id m.0 m.0
    (front_of me.0.setup (seen_of me.0))) (sym rested) (front_splits key id me.0.setup
    (at_rest (number_of me.0) (seen_of me.0)))

-- a front that goes to another participant
pub join_at : (key : Terms) (id : ℕ) (me : At) (other : ℕ) (front : At) → IsAtRest me
    → IsFront front
    → Joins (RangeRule key) id me.0 other front.0 (record me.0 { front = front.0.front }) spent
join_at key id me other front rested is =
    let seen : History = front.0.front in
    let u : Terms = front.0.setup in
    subst (λ (w : Knowledge). Joins (RangeRule key) id me.0 other w (record me.0 {
      front = w.front;
    }) spent) (sym (ap (λ (m : At). m.0) is))
    (subst (λ (m : At). Joins (RangeRule key) id m.0 other (front_of u seen)
    (record m.0 { front = seen }) spent) (sym rested)
    (front_joins key id me.0.setup (at_rest (number_of me.0) (seen_of me.0)) other u seen))

-- a client that has taken in a front
pub joined_then : (me me' front : At) → IsAtRest me → me' ≡ (
  record me.0 { front = front.0.front },
  me.1,
) → me' ≡ (
  with_front me.0.setup (at_rest (number_of me.0) (seen_of me.0)) front.0.front,
  [],
)
joined_then me me' front rested is = is ∙ (λ i. (
  record (rested i).0 { front = front.0.front },
  (rested i).1,
))

pub catch_up_at : (key : Terms) (slots : ℕ) (st : Step StoredRange) (id : ℕ) (me : At) (t : Terms)
    (number : ℕ) (seen other : History)
    → me ≡ (with_front t (at_rest number seen) other, [])
    → Allows (RangeRule key) slots id me 0 (λ n. n) (catches_up st me)
catch_up_at key slots st id me t number seen other is =
    subst (λ (m : At). Allows (RangeRule key) slots id m 0 (λ n. n) (catches_up st m)) (sym is)
    (catch_up_allowed key slots st id t number seen other)

-- It has caught up then.
pub caught_up_then : (st : Step StoredRange) (found : ℕ) (me was me' : At) (other : History)
    → was ≡ (
      with_front me.0.setup (at_rest (number_of me.0) (seen_of me.0)) other,
      [],
    ) → catches_up st was found me' → CatchesUp me me' other
caught_up_then st found me was me' other is done =
    let m : CatchesUp (
      with_front me.0.setup (at_rest (number_of me.0) (seen_of me.0)) other,
      [],
    ) me' other = subst (λ (x : At). catches_up st x found me') is done in
    record {
      history = m.history;
      is_longer = m.is_longer;
      after = m.after;
      begins = m.begins;
      begins_other = m.begins_other;
      own = m.own;
      legal = m.legal;
    }

-- ---- dealing and merging

-- The first state goes to a participant of its own.
first_splits : (setup : Terms) (id : ℕ) (t : Terms) (p : ClientState) (ps : List ClientState)
    → Splits (RangeRule setup) id (keeping t (p ∷ ps)) (keeping t ps) (keeping t (p ∷ []))
first_splits setup id t p ps s k at =
    let fits = k.views id (keeping t (p ∷ ps)) at in
    split_kept setup s k id (keeping t (p ∷ ps)) (keeping t ps) (keeping t (p ∷ [])) at
    (record {
      settled = fits.settled;
      states = λ i q e. fits.states (suc i) q e;
      front = fits.front;
    })
    (of_one t p (fits.settled refl) (fits.states 0 p refl))
    (omega arith)
    (λ n. omega (arith, sum_by-cons (λ (q : ClientState). one_if (q.number == n)) p ps))
    (omega (arith, sum_by-cons (λ (q : ClientState). one_if q.holds) p ps))

at_joined : (xs ys : List ClientState) (i : ℕ) (q : ClientState)
    → get_elem? (xs ++ ys) i ≡ maybe.some q
    → ((j : ℕ) × (get_elem? xs j ≡ maybe.some q)) ⊎ ((j : ℕ) × (get_elem? ys j ≡ maybe.some q))
at_joined [] ys i q e = inr (i, e)
at_joined (x ∷ xs) ys zero q e = inl (zero, e)
at_joined (x ∷ xs) ys (suc i) q e = elim (at_joined xs ys i q e) [
  | inl a ↦ inl (suc a.0, a.1)
  | inr b ↦ inr b
]

-- The states of two participants come together.
states_join : (setup : Terms) (id : ℕ) (t : Terms) (ps : List ClientState) (other : ℕ) (u : Terms)
    (qs : List ClientState)
    → Joins (RangeRule setup) id (keeping t ps) other (keeping u qs) (keeping t (ps ++ qs)) spent
states_join setup id t ps other u qs s k at apart at_other =
    let fits = k.views id (keeping t ps) at in
    let there : get_elem? s.views other ≡ maybe.some (keeping u qs) =
    sym (set_else s.views id other (keeping t (ps ++ qs)) apart) ∙ at_other in
    let theirs = k.views other (keeping u qs) there in
    join_kept setup s k id (keeping t ps) other (keeping u qs) (keeping t (ps ++ qs)) at apart there
    (record {
      settled = fits.settled;
      states = λ i q e. elim (at_joined ps qs i q e) [
        | inl a ↦ fits.states a.0 q a.1
        | inr b ↦ theirs.states b.0 q b.1
      ];
      front = fits.front;
    })
    (length-append ps qs)
    (λ n. sum_by-append (λ (q : ClientState). one_if (q.number == n)) ps qs)
    (sum_by-append (λ (q : ClientState). one_if q.holds) ps qs)

-- the same, as the calls have it: the first of the states that goes to a participant of its own
pub split_at : (key : Terms) (id : ℕ) (v : Knowledge) → KeepsStates v → 0 < length v.states
    → Splits (RangeRule key) id v (keeping v.setup (other_states v.states))
    (keeping v.setup (first_state v.states ∷ []))
split_at key id v is some =
    subst (λ (x : Knowledge). Splits (RangeRule key) id x
    (keeping x.setup (other_states x.states)) (keeping x.setup (first_state x.states ∷ [])))
    (sym is) (split v.setup v.states some)
  where
    split : (t : Terms) (ps : List ClientState) → 0 < length ps → Splits (RangeRule key) id
        (keeping t ps) (keeping t (other_states ps)) (keeping t (first_state ps ∷ []))
    split t [] some = absurd (omega (arith, some))
    split t (p ∷ ps) some = first_splits key id t p ps

-- two participants that come together
pub merge_at : (key : Terms) (id : ℕ) (v : Knowledge) (other : ℕ) (w : Knowledge) → KeepsStates v
    → KeepsStates w
    → Joins (RangeRule key) id v other w (keeping v.setup (v.states ++ w.states)) spent
merge_at key id v other w is iw =
    subst (λ (x : Knowledge). Joins (RangeRule key) id x other w
    (keeping x.setup (x.states ++ w.states)) spent) (sym is)
    (subst (λ (y : Knowledge). Joins (RangeRule key) id (keeping v.setup v.states) other y
    (keeping v.setup (v.states ++ y.states)) spent) (sym iw)
    (states_join key id v.setup v.states other w.setup w.states))
