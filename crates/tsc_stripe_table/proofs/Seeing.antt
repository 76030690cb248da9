-- Participants are divided and put together, and a seat sees what a front says.
use Rattle.std.proofs.Common.{◌≡◌, ◌≢◌, ◌⊎◌, ◌∙◌, inl, inr, refl, sym, ap, subst, false, true, ℕ}
use Rattle.std.proofs.Common.{zero, suc, ◌+◌, ◌<◌, ◌≤◌, List, [], ◌∷◌, ◌++◌, length, set, arith}
use Rattle.std.proofs.Common.{slice_index, sum_by, Bool}
use Rattle.std.specs.Prelude.{◌==◌, nat_le}
use mathlib.Core.Option as maybe
use mathlib.Core.Option.{some-injective, some-ne-none}
use lib.ListN.{get_elem?}
use lib.Seq.{set-get_or}
use Rattle.std.proofs.lemmas.Bool.Decides.{nat_tests}
use Rattle.std.proofs.lemmas.List.Sums.{sum_by-append, sum_by_push, sum_by-cons}
use Rattle.atomic_table.proofs.Lists.{at_set, at_snoc, set_else}
use Rattle.atomic_table.specs.Table.{Step, keeps as act_keeps, Allows, Splits, Joins}
use Rattle.tsc_cache.specs.History.{History, own_count, BeginsWith, IsLegal}
use Rattle.tsc_cache.proofs.Beginnings.{begins_itself, legal_beginning}
use Rattle.tsc_stripe_table.specs.declared.table.SeatState.{SeatState}
use Rattle.tsc_stripe_table.specs.declared.table.Knowledge.{Knowledge}
use Rattle.tsc_stripe_table.specs.Stripes.{Terms}
use Rattle.tsc_stripe_table.specs.Rule.{StoredStripe, keeping, at_rest, one_if, StripesRule, holders}
use Rattle.tsc_stripe_table.specs.Rule.{KnowledgeFits, states_of, times_held}
use Rattle.tsc_stripe_table.specs.Steps.{At, front_of, spent, longer, CatchesUp, catches_up, seated}
use Rattle.tsc_stripe_table.specs.Steps.{number_of, seen_of, count_of, state_in, first_state}
use Rattle.tsc_stripe_table.specs.Steps.{other_states}
use Rattle.tsc_stripe_table.specs.Participating.{IsAtRest, IsFront, KeepsStates}
use Rattle.tsc_stripe_table.proofs.Prefixes.{begins_empty, own_between, begins_shorter}
use Rattle.tsc_stripe_table.proofs.Totals.{total_set}
use Rattle.tsc_stripe_table.proofs.Moves.{Board, of_one, false_is_no}

abbrev pub Fits : (setup : Terms) (s : Board) → StripesRule setup s → Knowledge → Type 0
Fits setup s k v = KnowledgeFits setup k.history v

pub longer_begins : (h a b : History) → BeginsWith h a → BeginsWith h b → BeginsWith (longer a b) a
    × BeginsWith (longer a b) b × BeginsWith h (longer a b)
longer_begins h a b x y = by_length (nat_le (length a) (length b)) refl
  where
    by_length : (t : Bool) → nat_le (length a) (length b) ≡ t → BeginsWith (longer a b) a
        × BeginsWith (longer a b) b × BeginsWith h (longer a b)
    by_length true is = rw is (
      begins_shorter h a b x y (grind (arith, nat_tests)),
      begins_itself b,
      y,
    )
    by_length false is = rw is (
      begins_itself a,
      begins_shorter h b a y x (grind (arith, nat_tests)),
      x,
    )

-- Nothing but what participants know changes: it fits, and they keep the same states together.
viewed : (setup : Terms) (s : Board) (k : StripesRule setup s) (views : List Knowledge)
    → ((j : ℕ) (u : Knowledge) → get_elem? views j ≡ maybe.some u → Fits setup s k u)
    → ((number : ℕ) → sum_by (states_of number) views ≡ sum_by (states_of number) s.views)
    → ((stripe : ℕ) → sum_by (holders stripe) views ≡ sum_by (holders stripe) s.views)
    → StripesRule setup (record { words = s.words; homes = s.homes; views = views })
viewed setup s k views fits each locks = record {
  history = k.history;
  legal = k.legal;
  wide = k.wide;
  deep = k.deep;
  views = fits;
  each = λ number. each number ∙ k.each number;
  locks = λ stripe. locks stripe ∙ k.locks stripe;
  homes = k.homes;
}

-- One participant knows something else.
changed : (setup : Terms) (s : Board) (k : StripesRule setup s) (id : ℕ) (v w : Knowledge)
    → get_elem? s.views id ≡ maybe.some v → Fits setup s k w
    → ((number : ℕ) → states_of number w ≡ states_of number v)
    → ((stripe : ℕ) → holders stripe w ≡ holders stripe v)
    → StripesRule setup (record {
      words = s.words;
      homes = s.homes;
      views = set s.views id w;
    })
changed setup s k id v w at fits each locks = viewed setup s k (set s.views id w)
    (λ j u e. elim (at_set s.views id j w u e) [
      | inl same ↦ subst (Fits setup s k) same.1 fits
      | inr apart ↦ k.views j u apart.1
    ])
    (λ number. omega (arith, total_set (states_of number) s.views id v w at, each number))
    (λ stripe. omega (arith, total_set (holders stripe) s.views id v w at, locks stripe))

-- A participant is divided in two that fit, and each state goes with one of them.
split_kept : (setup : Terms) (s : Board) (k : StripesRule setup s) (id : ℕ)
    (v left right : Knowledge) → get_elem? s.views id ≡ maybe.some v
    → Fits setup s k left → Fits setup s k right
    → ((number : ℕ) → states_of number left + states_of number right ≡ states_of number v)
    → ((stripe : ℕ) → holders stripe left + holders stripe right ≡ holders stripe v)
    → StripesRule setup (record {
      words = s.words;
      homes = s.homes;
      views = set s.views id left ++ right ∷ [];
    })
split_kept setup s k id v left right at l r each locks =
    viewed setup s k (set s.views id left ++ right ∷ [])
    (λ other u e. elim (at_snoc (set s.views id left) right u other e) [
      | inl old ↦ (elim (at_set s.views id other left u old) [
        | inl same ↦ subst (Fits setup s k) same.1 l
        | inr apart ↦ k.views other u apart.1
      ])
      | inr new ↦ subst (Fits setup s k) new r
    ])
    (λ number. omega (
      arith,
      sum_by_push (states_of number) (set s.views id left) right,
      total_set (states_of number) s.views id v left at,
      each number,
    ))
    (λ stripe. omega (
      arith,
      sum_by_push (holders stripe) (set s.views id left) right,
      total_set (holders stripe) s.views id v left at,
      locks stripe,
    ))

spent_fits : (setup : Terms) (s : Board) (k : StripesRule setup s) → Fits setup s k spent
spent_fits setup s k = record {
  settled = λ e. absurd (false_is_no e);
  states = λ i p e. absurd (some-ne-none p (sym e));
  front = begins_empty k.history;
}

-- Two participants are put together to one that fits, with the states of both.
join_kept : (setup : Terms) (s : Board) (k : StripesRule setup s) (id : ℕ) (v : Knowledge)
    (other : ℕ) (w both : Knowledge) → get_elem? s.views id ≡ maybe.some v
    → other ≢ id → get_elem? s.views other ≡ maybe.some w
    → Fits setup s k both
    → ((number : ℕ) → states_of number both ≡ states_of number v + states_of number w)
    → ((stripe : ℕ) → holders stripe both ≡ holders stripe v + holders stripe w)
    → StripesRule setup (record {
      words = s.words;
      homes = s.homes;
      views = set (set s.views id both) other spent;
    })
join_kept setup s k id v other w both at apart at_other fits each locks =
    let at_joined : get_elem? (set s.views id both) other ≡ maybe.some w =
    set_else s.views id other both apart ∙ at_other in
    viewed setup s k (set (set s.views id both) other spent)
    (λ j u e. elim (at_set (set s.views id both) other j spent u e) [
      | inl same ↦ subst (Fits setup s k) same.1 (spent_fits setup s k)
      | inr old ↦ (elim (at_set s.views id j both u old.1) [
        | inl same ↦ subst (Fits setup s k) same.1 fits
        | inr others ↦ k.views j u others.1
      ])
    ])
    (λ number. omega (
      arith,
      total_set (states_of number) (set s.views id both) other w spent at_joined,
      total_set (states_of number) s.views id v both at,
      each number,
    ))
    (λ stripe. omega (
      arith,
      total_set (holders stripe) (set s.views id both) other w spent at_joined,
      total_set (holders stripe) s.views id v both at,
      locks stripe,
    ))

-- a participant that has taken in a front
abbrev pub with_front : Terms → SeatState → History → Knowledge
with_front t p seen = record { live = true; setup = t; states = p ∷ []; front = seen }

front_fits : (setup : Terms) (s : Board) (k : StripesRule setup s) (t : Terms) (seen : History)
    → t ≡ setup → BeginsWith k.history seen → Fits setup s k (front_of t seen)
front_fits setup s k t seen same begins = record {
  settled = λ _. same;
  states = λ i p e. absurd (some-ne-none p (sym e));
  front = begins;
}

-- A front says what a seat has seen.
front_splits : (setup : Terms) (id : ℕ) (t : Terms) (p : SeatState)
    → Splits (StripesRule setup) id (keeping t (p ∷ [])) (keeping t (p ∷ [])) (front_of t p.seen)
front_splits setup id t p s k at =
    let fits = k.views id (keeping t (p ∷ [])) at in
    split_kept setup s k id (keeping t (p ∷ [])) (keeping t (p ∷ [])) (front_of t p.seen) at fits
    (front_fits setup s k t p.seen (fits.settled refl) (fits.states 0 p refl).begins)
    (λ n. omega arith) (λ n. omega arith)

-- It goes to another participant.
front_joins : (setup : Terms) (id : ℕ) (t : Terms) (p : SeatState) (other : ℕ) (u : Terms)
    (seen : History)
    → Joins (StripesRule setup) id (keeping t (p ∷ [])) other (front_of u seen)
    (with_front t p seen) spent
front_joins setup id t p other u seen s k at apart at_other =
    let v : Knowledge = keeping t (p ∷ []) in
    let fits = k.views id v at in
    let there : get_elem? s.views other ≡ maybe.some (front_of u seen) =
    sym (set_else s.views id other (with_front t p seen) apart) ∙ at_other in
    join_kept setup s k id v other (front_of u seen) (with_front t p seen) at apart there
    (record {
      settled = fits.settled;
      states = fits.states;
      front = (k.views other (front_of u seen) there).front;
    })
    (λ n. omega arith) (λ n. omega arith)

-- That one has then seen the longer of both.
catch_up_allowed : (setup : Terms) (slots : ℕ) (st : Step StoredStripe) (id : ℕ) (t : Terms)
    (number : ℕ) (seen : History) (count : ℕ) (other : History)
    → Allows (StripesRule setup) slots id (with_front t (at_rest number seen count) other, []) 0
    (λ n. n) (catches_up st (with_front t (at_rest number seen count) other, []))
catch_up_allowed setup slots st id t number seen count other s k deep at small =
    let v : Knowledge = with_front t (at_rest number seen count) other in
    let fits = k.views id v at in
    let mine = fits.states 0 (at_rest number seen count) refl in
    let same : t ≡ setup = fits.settled refl in
    let h : History = k.history in
    let long = longer_begins h seen other mine.begins fits.front in
    let is_legal : IsLegal setup.config setup.seats (longer seen other) =
    legal_beginning setup.config setup.seats h (longer seen other) k.legal long.2 in
    let own : own_count number (longer seen other) ≡ count = own_between number count h
    (longer seen other) seen long.2 long.0 mine.own mine.own_seen in
    let q : SeatState = at_rest number (longer seen other) count in
    let w : Knowledge = keeping t (q ∷ []) in
    let fit : Fits setup s k w = of_one t q same (record {
      begins = long.2;
      own = mine.own;
      own_seen = own;
      order = tt;
      reached = λ some. absurd (omega (arith, some));
      held = λ j some. absurd (omega (arith, some));
    }) in (
      w,
      act_keeps,
      tt,
      subst (λ (ws : List ℕ). StripesRule setup (record {
        words = ws;
        homes = s.homes;
        views = set s.views id w;
      })) (sym (set-get_or s.words 0 0))
          (changed setup s k id v w at fit (λ _. refl) (λ _. refl)),
      record {
        history = longer seen other;
        is_longer = refl;
        after = refl;
        begins = long.0;
        begins_other = long.1;
        legal = subst (λ (x : Terms). IsLegal x.config x.seats (longer seen other)) (sym same)
            is_legal;
        own = own;
      },
    )

-- The first state goes to a participant of its own.
first_splits : (setup : Terms) (id : ℕ) (t : Terms) (p : SeatState) (ps : List SeatState)
    → Splits (StripesRule setup) id (keeping t (p ∷ ps)) (keeping t ps) (keeping t (p ∷ []))
first_splits setup id t p ps s k at =
    let fits = k.views id (keeping t (p ∷ ps)) at in
    split_kept setup s k id (keeping t (p ∷ ps)) (keeping t ps) (keeping t (p ∷ [])) at
    (record {
      settled = fits.settled;
      states = λ i q e. fits.states (suc i) q e;
      front = fits.front;
    })
    (of_one t p (fits.settled refl) (fits.states 0 p refl))
    (λ n. omega (arith, sum_by-cons (λ (q : SeatState). one_if (q.number == n)) p ps))
    (λ n. omega (arith, sum_by-cons (λ (q : SeatState). times_held n q.holds) p ps))

at_joined : (xs ys : List SeatState) (i : ℕ) (q : SeatState) → get_elem? (xs ++ ys) i ≡ maybe.some q
    → ((j : ℕ) × (get_elem? xs j ≡ maybe.some q)) ⊎ ((j : ℕ) × (get_elem? ys j ≡ maybe.some q))
at_joined [] ys i q e = inr (i, e)
at_joined (x ∷ xs) ys zero q e = inl (zero, e)
at_joined (x ∷ xs) ys (suc i) q e = elim (at_joined xs ys i q e) [
  | inl a ↦ inl (suc a.0, a.1)
  | inr b ↦ inr b
]

-- The states of two participants come together.
states_join : (setup : Terms) (id : ℕ) (t : Terms) (ps : List SeatState) (other : ℕ) (u : Terms)
    (qs : List SeatState)
    → Joins (StripesRule setup) id (keeping t ps) other (keeping u qs) (keeping t (ps ++ qs)) spent
states_join setup id t ps other u qs s k at apart at_other =
    let fits = k.views id (keeping t ps) at in
    let there : get_elem? s.views other ≡ maybe.some (keeping u qs) =
    sym (set_else s.views id other (keeping t (ps ++ qs)) apart) ∙ at_other in
    let theirs = k.views other (keeping u qs) there in
    join_kept setup s k id (keeping t ps) other (keeping u qs) (keeping t (ps ++ qs)) at apart there
    (record {
      settled = fits.settled;
      states = λ i q e. elim (at_joined ps qs i q e) [
        | inl a ↦ fits.states a.0 q a.1
        | inr b ↦ theirs.states b.0 q b.1
      ];
      front = fits.front;
    })
    (λ n. sum_by-append (λ (q : SeatState). one_if (q.number == n)) ps qs)
    (λ n. sum_by-append (λ (q : SeatState). times_held n q.holds) ps qs)

-- the same, as the calls have it: a front of what a seat has seen
pub front_at : (key : Terms) (id : ℕ) (me : At) → IsAtRest me → Splits (StripesRule key) id me.0
    me.0 (front_of me.0.setup (seen_of me.0))
front_at key id me rested = subst (λ (m : At). Splits (StripesRule key) id m.0 m.0
    (front_of me.0.setup (seen_of me.0))) (sym rested) (front_splits key id me.0.setup
    (at_rest (number_of me.0) (seen_of me.0) (count_of me.0)))

-- a front that goes to another participant
pub join_at : (key : Terms) (id : ℕ) (me : At) (other : ℕ) (front : At) → IsAtRest me
    → IsFront front
    → Joins (StripesRule key) id me.0 other front.0 (record me.0 { front = front.0.front }) spent
join_at key id me other front rested is =
    let seen : History = front.0.front in
    let u : Terms = front.0.setup in
    subst (λ (w : Knowledge). Joins (StripesRule key) id me.0 other w (record me.0 {
      front = w.front;
    }) spent) (sym (ap (λ (m : At). m.0) is))
    (subst (λ (m : At). Joins (StripesRule key) id m.0 other (front_of u seen)
    (record m.0 { front = seen }) spent) (sym rested)
    (front_joins key id me.0.setup (at_rest (number_of me.0) (seen_of me.0) (count_of me.0)) other u
    seen))

-- a seat that has taken in a front
pub joined_then : (me me' front : At) → IsAtRest me → me' ≡ (
  record me.0 { front = front.0.front },
  me.1,
) → me' ≡ (
  with_front me.0.setup (at_rest (number_of me.0) (seen_of me.0) (count_of me.0)) front.0.front,
  [],
)
joined_then me me' front rested is = is ∙ (λ i. (
  record (rested i).0 { front = front.0.front },
  (rested i).1,
))

pub catch_up_at : (key : Terms) (slots : ℕ) (st : Step StoredStripe) (id : ℕ) (me : At) (t : Terms)
    (number : ℕ) (seen : History) (count : ℕ) (other : History)
    → me ≡ (with_front t (at_rest number seen count) other, [])
    → Allows (StripesRule key) slots id me 0 (λ n. n) (catches_up st me)
catch_up_at key slots st id me t number seen count other is =
    subst (λ (m : At). Allows (StripesRule key) slots id m 0 (λ n. n) (catches_up st m)) (sym is)
    (catch_up_allowed key slots st id t number seen count other)

-- It has caught up then.
pub caught_up_then : (st : Step StoredStripe) (found : ℕ) (me was me' : At) (other : History)
    → was ≡ (
      with_front me.0.setup (at_rest (number_of me.0) (seen_of me.0) (count_of me.0)) other,
      [],
    ) → catches_up st was found me' → CatchesUp me me' other
caught_up_then st found me was me' other is done =
    let m : CatchesUp (
      with_front me.0.setup (at_rest (number_of me.0) (seen_of me.0) (count_of me.0)) other,
      [],
    ) me' other = subst (λ (x : At). catches_up st x found me') is done in
    record {
      history = m.history;
      is_longer = m.is_longer;
      after = m.after;
      begins = m.begins;
      begins_other = m.begins_other;
      legal = m.legal;
      own = m.own;
    }

-- the first of the states that goes to a participant of its own
pub split_at : (key : Terms) (id : ℕ) (v : Knowledge) → KeepsStates v → 0 < length v.states
    → Splits (StripesRule key) id v (keeping v.setup (other_states v.states))
    (keeping v.setup (first_state v.states ∷ []))
split_at key id v is some =
    subst (λ (x : Knowledge). Splits (StripesRule key) id x
    (keeping x.setup (other_states x.states)) (keeping x.setup (first_state x.states ∷ [])))
    (sym is) (split v.setup v.states some)
  where
    split : (t : Terms) (ps : List SeatState) → 0 < length ps → Splits (StripesRule key) id
        (keeping t ps) (keeping t (other_states ps)) (keeping t (first_state ps ∷ []))
    split t [] some = absurd (omega (arith, some))
    split t (p ∷ ps) some = first_splits key id t p ps

-- two participants that come together
pub merge_at : (key : Terms) (id : ℕ) (v : Knowledge) (other : ℕ) (w : Knowledge) → KeepsStates v
    → KeepsStates w
    → Joins (StripesRule key) id v other w (keeping v.setup (v.states ++ w.states)) spent
merge_at key id v other w is iw =
    subst (λ (x : Knowledge). Joins (StripesRule key) id x other w
    (keeping x.setup (x.states ++ w.states)) spent) (sym is)
    (subst (λ (y : Knowledge). Joins (StripesRule key) id (keeping v.setup v.states) other y
    (keeping v.setup (v.states ++ y.states)) spent) (sym iw)
    (states_join key id v.setup v.states other w.setup w.states))
