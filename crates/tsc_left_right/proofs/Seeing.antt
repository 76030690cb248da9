-- Participants are divided and put together, and a seat sees what a front says.
use Rattle.std.proofs.Common.{◌≡◌, ◌≢◌, ◌⊎◌, ◌∙◌, inl, inr, refl, sym, subst, false, ℕ, zero, suc}
use Rattle.std.proofs.Common.{◌+◌, List, [], ◌∷◌, ◌++◌, length, set, arith, slice_index, sum_by}
use Rattle.std.specs.Prelude.{◌==◌}
use mathlib.Core.Option as maybe
use mathlib.Core.Option.{some-injective, some-ne-none}
use lib.ListN.{get_elem?}
use lib.Seq.{set-get_or}
use Rattle.std.proofs.Common.{append-nil}
use Rattle.std.proofs.lemmas.List.{length-append}
use Rattle.std.proofs.lemmas.List.Sums.{sum_by-append, sum_by_push, sum_by-cons}
use Rattle.atomic_table.proofs.Lists.{at_set, at_snoc, set_else}
use Rattle.atomic_table.specs.Table.{Step, keeps as act_keeps, Allows, Splits, Joins}
use Rattle.tsc_left_right.specs.declared.table.Setup.{Setup}
use Rattle.tsc_left_right.specs.declared.table.Slot.{Slot}
use Rattle.tsc_left_right.specs.declared.table.SeatState.{SeatState}
use Rattle.tsc_left_right.specs.declared.table.Knowledge.{Knowledge}
use Rattle.tsc_left_right.specs.Rule.{keeping, one_if, LeftRightRule, KnowledgeFits, states_of}
use Rattle.tsc_left_right.specs.Rule.{holders}
use Rattle.std.specs.Prelude.{nat_le, true}
use Rattle.std.proofs.Common.{Bool, ◌≤◌, ap}
use Rattle.std.proofs.lemmas.Bool.Decides.{nat_tests}
use Rattle.tsc_left_right.specs.Steps.{front_of, spent, longer, catches_up}
use Rattle.tsc_left_right.proofs.Prefixes.{begins_empty, begins_length, own_between, begins_shorter}
use Rattle.tsc_left_right.proofs.Totals.{total_set}
use Rattle.tsc_left_right.proofs.Plain.{false_is_no}
use Rattle.tsc_left_right.proofs.Moves.{Board, of_one}
use Rattle.tsc_left_right.specs.declared.replicated.Replicated.{Ghosts}
use Rattle.tsc_left_right.specs.Histories.{own_count, BeginsWith, IsLegal}
use Rattle.tsc_left_right.proofs.Prefixes.{begins_itself, legal_beginning}

module _ {E : Type 0} where
  pub longer_begins : (h a b : List E) → BeginsWith h a → BeginsWith h b → BeginsWith (longer a b) a
      × BeginsWith (longer a b) b × BeginsWith h (longer a b)
  longer_begins h a b x y = by_length (nat_le (length a) (length b)) refl
    where
      by_length : (t : Bool) → nat_le (length a) (length b) ≡ t → BeginsWith (longer a b) a
          × BeginsWith (longer a b) b × BeginsWith h (longer a b)
      by_length true is = rw is (
        begins_shorter h a b x y (grind (arith, nat_tests)),
        begins_itself b,
        y,
      )
      by_length false is = rw is (
        begins_itself a,
        begins_shorter h b a y x
            (grind (arith, nat_tests)),
        x,
      )

  at_joined : (xs ys : List (SeatState E)) (i : ℕ) (q : SeatState E)
      → get_elem? (xs ++ ys) i ≡ maybe.some q
      → ((j : ℕ) × (get_elem? xs j ≡ maybe.some q)) ⊎ ((j : ℕ) × (get_elem? ys j ≡ maybe.some q))
  at_joined [] ys i q e = inr (i, e)
  at_joined (x ∷ xs) ys zero q e = inl (zero, e)
  at_joined (x ∷ xs) ys (suc i) q e = elim (at_joined xs ys i q e) [
    | inl a ↦ inl (suc a.0, a.1)
    | inr
        b ↦ inr b
  ]

module _ {S E : Type 0} where
  -- a participant that has taken in a front
  abbrev pub with_front : Setup S → SeatState E → List E → Knowledge S E
  with_front t p seen = record { live = true; setup = t; states = p ∷ []; front = seen }

module _ {P C O S E : Type 0} (R : Ghosts P C O S E) where
  abbrev pub Fits : (setup : Setup S) (s : Board C O S E) → LeftRightRule R setup s
      → Knowledge S E → Type 0
  Fits setup s k v = KnowledgeFits R setup k.g v

  -- Nothing but what participants know changes: it fits, and they keep the same states together.
  viewed : (setup : Setup S) (s : Board C O S E) (k : LeftRightRule R setup s) (views : List
      (Knowledge S E))
      → ((j : ℕ) (u : Knowledge S E) → get_elem? views j ≡ maybe.some u → Fits setup s k u)
      → ((number : ℕ) → sum_by (states_of number) views ≡ sum_by (states_of number) s.views)
      → sum_by holders views ≡ sum_by holders s.views
      → LeftRightRule R setup (record { words = s.words; homes = s.homes; views = views })
  viewed setup s k views fits each one = record {
    g = k.g;
    legal = k.legal;
    limit = k.limit;
    shape = k.shape;
    seats = k.seats;
    views = fits;
    each = λ number. each number ∙ k.each number;
    one = one ∙ k.one;
    idle = k.idle;
    free = k.free;
  }

  -- One participant knows something else.
  changed : (setup : Setup S) (s : Board C O S E) (k : LeftRightRule R setup s) (id : ℕ)
      (v w : Knowledge S E) → get_elem? s.views id ≡ maybe.some v → Fits setup s k w
      → ((number : ℕ) → states_of number w ≡ states_of number v) → holders w ≡ holders v
      → LeftRightRule R setup (record {
        words = s.words;
        homes = s.homes;
        views =
            set s.views id w;
      })
  changed setup s k id v w at fits each one = viewed setup s k (set s.views id w)
      (λ j u e. elim (at_set s.views id j w u e) [
        | inl same ↦ subst (Fits setup s k) same.1 fits
        | inr
            apart ↦ k.views j u apart.1
      ])
      (λ number. omega (arith, total_set (states_of number) s.views id v w at, each number))
      (omega (arith, total_set holders s.views id v w at, one))

  -- A participant is divided in two that fit, and each state goes with one of them.
  pub split_kept : (setup : Setup S) (s : Board C O S E) (k : LeftRightRule R setup s) (id : ℕ)
      (v left right : Knowledge S E) → get_elem? s.views id ≡ maybe.some v
      → Fits setup s k left → Fits setup s k right
      → ((number : ℕ) → states_of number left + states_of number right ≡ states_of number v)
      → holders left + holders right ≡ holders v → LeftRightRule R setup (record {
        words = s.words;
        homes = s.homes;
        views = set s.views id left ++
            right ∷ [];
      })
  split_kept setup s k id v left right at l r each one =
      viewed setup s k (set s.views id left ++ right ∷ [])
      (λ other u e. elim (at_snoc (set s.views id left) right u other e) [
        | inl old ↦ (elim (at_set s.views id other left u old) [
          | inl same ↦ subst (Fits setup s k) same.1 l
          | inr apart ↦ k.views other u apart.1
        ])
        | inr new ↦ subst (Fits setup s k) new r
      ])
      (λ number. omega (
        arith,
        sum_by_push (states_of number) (set s.views id left) right,
        total_set (states_of number) s.views id v left at,
        each number,
      ))
      (omega (
        arith,
        sum_by_push holders (set s.views id left) right,
        total_set holders s.views id v left at,
        one,
      ))

  spent_fits : (setup : Setup S) (s : Board C O S E) (k : LeftRightRule R setup s)
      → Fits setup s k (spent R.unsettled)
  spent_fits setup s k = record {
    settled = λ e. absurd (false_is_no e);
    states =
        λ i p e. absurd (some-ne-none p (sym e));
    front = begins_empty k.g.history;
  }

  -- Two participants are put together to one that fits, with the states of both.
  pub join_kept : (setup : Setup S) (s : Board C O S E) (k : LeftRightRule R setup s) (id : ℕ)
      (v : Knowledge S E) (other : ℕ) (w both : Knowledge S E) → get_elem? s.views id ≡ maybe.some v
      → other ≢ id → get_elem? s.views other ≡ maybe.some w → Fits setup s k both
      → ((number : ℕ) → states_of number both ≡ states_of number v + states_of number w)
      → holders both ≡ holders v + holders w → LeftRightRule R setup (record {
        words = s.words;
        homes = s.homes;
        views =
            set (set s.views id both) other (spent R.unsettled);
      })
  join_kept setup s k id v other w both at apart at_other fits each one =
      let at_joined : get_elem? (set s.views id both) other ≡ maybe.some w =
      set_else s.views id other both apart ∙ at_other in
      viewed setup s k (set (set s.views id both) other (spent R.unsettled))
      (λ j u e. elim (at_set (set s.views id both) other j (spent R.unsettled) u e) [
        | inl same ↦ subst (Fits setup s k) same.1 (spent_fits setup s k)
        | inr old ↦ (elim (at_set s.views id j both u old.1) [
          | inl same ↦ subst (Fits setup s k) same.1 fits
          | inr others ↦ k.views j u others.1
        ])
      ])
      (λ number. omega (
        arith,
        total_set (states_of number) (set s.views id both) other w (spent R.unsettled)
            at_joined,
        total_set (states_of number) s.views id v both at,
        each number,
      ))
      (omega (
        arith,
        total_set holders (set s.views id both) other w (spent R.unsettled) at_joined,
        total_set holders s.views id v both at,
        one,
      ))

  note_fits : (setup : Setup S) (s : Board C O S E) (k : LeftRightRule R setup s) (t : Setup S)
      (seen : List E) → t ≡ setup → BeginsWith k.g.history seen → Fits setup s k (front_of t seen)
  note_fits setup s k t seen same begins = record {
    settled = λ _. same;
    states =
        λ i p e. absurd (some-ne-none p (sym e));
    front = begins;
  }

  -- A front says what a seat has seen.
  pub front_splits : (setup : Setup S) (id : ℕ) (t : Setup S) (p : SeatState E)
      → Splits (LeftRightRule R setup) id (keeping t (p ∷ [])) (keeping t (p ∷ []))
      (front_of t p.seen)
  front_splits setup id t p s k at =
      let fits = k.views id (keeping t (p ∷ [])) at in
      split_kept setup s k id (keeping t (p ∷ [])) (keeping t (p ∷ [])) (front_of t p.seen) at fits
      (note_fits setup s k t p.seen (fits.settled refl) (fits.states 0 p refl).begins)
      (λ n. omega arith) (omega arith)

  -- It goes to another participant.
  pub front_joins : (setup : Setup S) (id : ℕ) (t : Setup S) (p : SeatState E) (other : ℕ)
      (u : Setup S) (seen : List E)
      → Joins (LeftRightRule R setup) id (keeping t (p ∷ [])) other (front_of u seen)
      (with_front t p seen) (spent R.unsettled)
  front_joins setup id t p other u seen s k at apart at_other =
      let v : Knowledge S E = keeping t (p ∷ []) in
      let fits = k.views id v at in
      let there : get_elem? s.views other ≡ maybe.some (front_of u seen) =
      sym (set_else s.views id other (with_front t p seen) apart) ∙ at_other in
      join_kept setup s k id v other (front_of u seen) (with_front t p seen) at apart there
      (record {
        settled = fits.settled;
        states = fits.states;
        front =
            (k.views other (front_of u seen) there).front;
      })
      (λ n. omega arith) (omega arith)

  -- That one has then seen the longer of both.
  pub catch_up_allowed : (setup : Setup S) (slots : ℕ) (st : Step (Slot C O)) (id : ℕ) (t : Setup S)
      (p : SeatState E) (seen : List E)
      → Allows (LeftRightRule R setup) slots id (with_front t p seen, []) 0 (λ n. n)
      (catches_up R st (with_front t p seen, []))
  catch_up_allowed setup slots st id t p seen s k deep at small =
      let v : Knowledge S E = with_front t p seen in
      let fits = k.views id v at in
      let mine = fits.states 0 p refl in
      let same : t ≡ setup = fits.settled refl in
      let h : List E = k.g.history in
      let long = longer_begins h p.seen seen mine.begins fits.front in
      let is_legal : IsLegal R setup.config setup.seats (longer p.seen seen) =
      legal_beginning R setup.config setup.seats h (longer p.seen seen) k.legal long.2 in
      let own : own_count R p.number (longer p.seen seen)
      ≡ p.count = own_between R p.number p.count h
      (longer p.seen seen) p.seen long.2 long.0 mine.own mine.own_seen in
      let q : SeatState E = record p { seen = longer p.seen seen } in
      let w : Knowledge S E = keeping t (q ∷ []) in
      let words : List ℕ = set s.words 0 (slice_index s.words 0) in
      let same_words : words ≡ s.words = set-get_or s.words 0 0 in
      let all_seen : p.seen ≡ h → longer p.seen seen ≡ h = λ e. same_whole h (longer p.seen seen)
      long.2 (omega (arith, begins_length (longer p.seen seen) p.seen long.0, ap length e)) in
      let fit : Fits setup s k w = of_one R t q same (record {
        begins = long.2;
        own = mine.own;
        own_seen = own;
        at_stage = mine.at_stage;
        sees = λ e. all_seen (mine.sees e);
        holding = λ e. let knows = mine.holding e in
            (all_seen knows.0, knows.1, knows.2, knows.3, knows.4);
      }) in (
        w,
        act_keeps,
        tt,
        subst (λ (ws : List ℕ). LeftRightRule R setup (record {
          words = ws;
          homes = s.homes;
          views =
              set s.views id w;
        })) (sym same_words) (changed setup s k id v w at fit (λ _. refl) refl),
        record {
          history = longer p.seen seen;
          is_longer = refl;
          after = refl;
          begins = long.0;
          begins_other = long.1;
          legal = rw same is_legal;
          own = own;
          limit =
              rw same (omega (arith, k.limit, begins_length h (longer p.seen seen) long.2));
        },
      )
    where
      same_whole : (h g : List E) → BeginsWith h g → length h ≤ length g → g ≡ h
      same_whole h g ([], e) le = sym (e ∙ append-nil g)
      same_whole h g (x ∷ xs, e) le =
          absurd (omega (arith, le, ap length e, length-append g (x ∷ xs)))

  -- The first state goes to a participant of its own.
  pub first_splits : (setup : Setup S) (id : ℕ) (t : Setup S) (p : SeatState E) (ps : List
      (SeatState E))
      → Splits (LeftRightRule R setup) id (keeping t (p ∷ ps)) (keeping t ps) (keeping t (p ∷ []))
  first_splits setup id t p ps s k at =
      let fits = k.views id (keeping t (p ∷ ps)) at in
      split_kept setup s k id (keeping t (p ∷ ps)) (keeping t ps) (keeping t (p ∷ [])) at
      (record {
        settled = fits.settled;
        states = λ i q e. fits.states (suc i) q e;
        front =
            fits.front;
      })
      (of_one R t p (fits.settled refl) (fits.states 0 p refl))
      (λ n. omega (arith, sum_by-cons (λ (q : SeatState E). one_if (q.number == n)) p ps))
      (omega (arith, sum_by-cons (λ (q : SeatState E). one_if q.holds) p ps))

  -- The states of two participants come together.
  pub states_join : (setup : Setup S) (id : ℕ) (t : Setup S) (ps : List (SeatState E)) (other : ℕ)
      (u : Setup S) (qs : List (SeatState E))
      → Joins (LeftRightRule R setup) id (keeping t ps) other (keeping u qs) (keeping t (ps ++ qs))
      (spent R.unsettled)
  states_join setup id t ps other u qs s k at apart at_other =
      let fits = k.views id (keeping t ps) at in
      let there : get_elem? s.views other ≡ maybe.some (keeping u qs) =
      sym (set_else s.views id other (keeping t (ps ++ qs)) apart) ∙ at_other in
      let theirs = k.views other (keeping u qs) there in
      join_kept setup s k id (keeping t ps) other (keeping u qs) (keeping t
      (ps ++ qs)) at apart there (record {
        settled = fits.settled;
        states = λ i q e. elim (at_joined ps qs i q e) [
          | inl a ↦
              fits.states a.0 q a.1
          | inr b ↦ theirs.states b.0 q b.1
        ];
        front = fits.front;
      })
      (λ n. sum_by-append (λ (q : SeatState E). one_if (q.number == n)) ps qs)
      (sum_by-append (λ (q : SeatState E). one_if q.holds) ps qs)
