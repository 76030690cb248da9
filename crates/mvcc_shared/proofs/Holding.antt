-- A client acquires the lock, and releases it.
use Rattle.std.proofs.Common.{◌≡◌, ◌≢◌, ◌∙◌, inl, inr, refl, sym, ap, subst, ℕ, ◌+◌, ◌<◌}
use Rattle.std.proofs.Common.{List, [], ◌∷◌, ◌++◌, length, set, arith, slice_index, length-set}
use Rattle.std.proofs.Common.{true, false, get_or-set_same}
use Rattle.std.specs.Prelude.{Bool, ◌==◌, nat_lt}
use Rattle.std.proofs.lemmas.Bool.Decides.{nat_tests}
use Rattle.std.specs.List.{sum_by}
use mathlib.Core.Option as maybe
use lib.ListN.{get_elem?}
use lib.Seq.{set-get_or}
use prog.Atomic.{either}
use Rattle.atomic_table.proofs.Lists.{set_again, set_here}
use Rattle.atomic_table.specs.Table.{
  Step,
  Act,
  takes as act_takes,
  keeps as act_keeps,
  gives as act_gives,
}
use Rattle.atomic_table.specs.Table.{Allows, Valid, stepped, carried_after, rest}
use Rattle.mvcc_shared.specs.declared.table.ClientState.{ClientState}
use Rattle.mvcc_shared.specs.declared.table.Knowledge.{Knowledge}
use Rattle.mvcc_shared.specs.History.{Event, History, Terms, IsLegal, Makes, range_after, log_of, entries_of}
use Rattle.mvcc_shared.specs.Rule.{StoredRange, at_rest, one_if, states_of, holders, KnowledgeFits, RangeRule, IsAfter}
use Rattle.mvcc_shared.specs.Steps.{At, number_of, seen_of, resting, holding, event_by, seen_after, acquires, releases}
use Rattle.mvcc_shared.specs.Participating.{IsAtRest, CanRelease}
use Rattle.mvcc_shared.proofs.Histories.{
  begins_itself,
  begins_push,
  calls_else,
  range_push,
  log_push,
  legal_push,
}
use Rattle.mvcc_shared.proofs.Totals.{part}
use Rattle.mvcc_shared.proofs.Moves.{
  Board,
  Homes,
  Moved,
  moved_kept,
  of_one,
  same_number,
  same_or_not,
  not_its,
  its_hold,
  low_number,
  at_most_one,
  no_other,
  no_other_holder,
}

-- A step that changes nothing keeps the rule.
unmoved : (setup : Terms) (s : Board) (k : RangeRule setup s) (id : ℕ) (v : Knowledge)
    → get_elem? s.views id ≡ maybe.some v
    → RangeRule setup (record {
      words = set s.words 0 (slice_index s.words 0);
      homes = s.homes;
      views = set s.views id v;
    })
unmoved setup s k id v at = subst (λ (vs : List Knowledge). RangeRule setup
    (record { words = set s.words 0 (slice_index s.words 0); homes = s.homes; views = vs }))
    (sym (set_again s.views id v at))
    (subst (λ (ws : List ℕ). RangeRule setup (record {
      words = ws;
      homes = s.homes;
      views = s.views;
    })) (sym (set-get_or s.words 0 0)) k)

-- what the word reads once it is written
word_set : (words : List ℕ) (n : ℕ) → length words ≡ 1 → slice_index (set words 0 n) 0 ≡ n
word_set words n wide = get_or-set_same words 0 n 0 (omega (arith, wide))

-- ---- acquiring

module _ (setup : Terms) (slots : ℕ) (st : Step StoredRange) (id : ℕ) (t : Terms) (number : ℕ)
    (seen : History) where
  abbrev me : At
  me = (resting t number seen, [])

  abbrev Goes : Board → ℕ → Type 0
  Goes s n = (w : Knowledge) × (a : Act StoredRange) × Valid s.homes [] a
      × RangeRule setup (stepped s 0 (either (n == 0) 1 n) id [] w a)
      × acquires st me n (w, carried_after [] a)

  acquire_free : (s : Board) (k : RangeRule setup s) → get_elem? s.views id ≡ maybe.some me.0
      → slice_index s.words 0 ≡ 0 → Goes s (slice_index s.words 0)
  acquire_free s k at none =
      let h : History = k.history in
      let fits = k.views id me.0 at in
      let mine = fits.states 0 (at_rest number seen) refl in
      let same : t ≡ setup = fits.settled refl in
      let here = k.home none in
      let words : List ℕ = set s.words 0 1 in
      let homes : Homes = set s.homes 0 maybe.none in
      let w : Knowledge = holding t number h in
      let moved : Moved setup s id me.0 w h words homes = record {
        at = at;
        legal = k.legal;
        wide = length-set s.words 0 1 ∙ k.wide;
        deep = length-set s.homes 0 maybe.none ∙ k.deep;
        fits = of_one t (record { number = number; seen = h; holds = true }) same (record {
          begins = begins_itself h;
          own = refl;
          all = λ _. refl;
        });
        others = λ other u apart e. k.views other u e;
        all = refl;
        each = λ _. refl;
        lock = omega (
          arith,
          k.lock ∙ ap (λ (n : ℕ). one_if (nat_lt 0 n)) none,
          ap (λ (n : ℕ). one_if (nat_lt 0 n)) (word_set s.words 1 k.wide),
        );
        at_home = λ free. absurd (omega (arith, free, word_set s.words 1 k.wide));
      } in (
        w,
        act_takes 0 here.0,
        here.1,
        subst (λ (n : ℕ). RangeRule setup (stepped s 0 (either (n == 0) 1 n) id [] w
            (act_takes 0 here.0))) (sym none)
            (moved_kept setup s k id me.0 w h words homes moved),
        (
          (λ _. (
            here.0,
            record {
              history = h;
              after = refl;
              begins = mine.begins;
              own = mine.own;
              legal = subst (λ (x : Terms). IsLegal x h) (sym same) k.legal;
              stands = subst (λ (x : Terms). IsAfter x h here.0.value) (sym same) here.2;
            },
          )),
          (λ some. absurd (some none)),
        ),
      )

  acquire_allowed : Allows (RangeRule setup) slots id me 0 (λ n. either (n == 0) 1 n)
      (acquires st me)
  acquire_allowed s k deep at small = elim (same_or_not (slice_index s.words 0) 0) [
    | inl none ↦ acquire_free s k at none
    | inr some ↦ (
      me.0,
      act_keeps,
      tt,
      subst (λ (b : Bool). RangeRule setup (stepped s 0 (either b 1 (slice_index s.words 0)) id []
          me.0 act_keeps)) (sym (busy (slice_index s.words 0) some)) (unmoved setup s k id me.0 at),
      ((λ none. absurd (some none)), (λ _. refl)),
    )
  ]
    where
      busy : (n : ℕ) → n ≢ 0 → (n == 0) ≡ false
      busy n some = grind (arith, nat_tests)

-- the same, as the calls have it
pub acquire_at : (key : Terms) (slots : ℕ) (st : Step StoredRange) (id : ℕ) (me : At) → IsAtRest me
    → Allows (RangeRule key) slots id me 0 (λ n. either (n == 0) 1 n) (acquires st me)
acquire_at key slots st id me rest =
    subst (λ (m : At). Allows (RangeRule key) slots id m 0 (λ n. either (n == 0) 1 n)
    (acquires st m)) (sym rest)
    (acquire_allowed key slots st id me.0.setup (number_of me.0) (seen_of me.0))

-- what a word tells that was found
pub is_none : (n : ℕ) → (n == 0) ≡ true → n ≡ 0
is_none n is = grind (arith, nat_tests)

pub is_some : (n : ℕ) → (n == 0) ≡ false → n ≢ 0
is_some n is = grind (arith, nat_tests)

-- ---- releasing

-- Who neither keeps the state of an event's client nor holds the lock fits the history with that
-- event.
more_of_another : (setup : Terms) (h : History) (e : Event) (u : Knowledge)
    → states_of e.client u ≡ 0 → holders u ≡ 0 → KnowledgeFits setup h u
    → KnowledgeFits setup (h ++ e ∷ []) u
more_of_another setup h e u none free fits = record {
  settled = fits.settled;
  states = λ i q d. let f = fits.states i q d in record {
    begins = begins_push h q.seen e f.begins;
    own = calls_else q.number h e (λ is. not_its e.client u i q none d (sym is)) ∙ f.own;
    all = λ holds. absurd (omega (arith, free, its_hold u i q d holds));
  };
  front = begins_push h u.front e fits.front;
}

module _ (setup : Terms) (slots : ℕ) (st : Step StoredRange) (id : ℕ) (t : Terms) (number : ℕ)
    (seen : History) (x : StoredRange) where
  abbrev v : Knowledge
  v = holding t number seen

  abbrev e : Event
  e = event_by number x.value

  release_allowed : Makes (range_after t.opened seen) e.call e.range
      → x.value.log.items ≡ log_of seen ++ entries_of e.call
      → Allows (RangeRule setup) slots id (v, (0, x) ∷ []) 0 (λ _. 0)
      (λ _. releases st (v, (0, x) ∷ []) 0)
  release_allowed made log s k deep at small =
      let fits = k.views id v at in
      let p : ClientState = record { number = number; seen = seen; holds = true } in
      let mine = fits.states 0 p refl in
      let same : t ≡ setup = fits.settled refl in
      let whole : k.history ≡ seen = mine.all refl in
      let g : History = seen ++ e ∷ [] in
      let words : List ℕ = set s.words 0 0 in
      let homes : Homes = set s.homes 0 (maybe.some x) in
      let w : Knowledge = resting t number g in
      let legal : IsLegal setup g = legal_push setup seen e
      (subst (IsLegal setup) whole k.legal) (low_number setup s k v id at 0 p refl)
      (subst (λ (y : Terms). Makes (range_after y.opened seen) e.call e.range) same made) in
      let its_own : states_of number v ≡ 1 =
      omega (arith, ap one_if (same_number number number refl)) in
      let holds_it : 0 < holders v = omega arith in
      let moved : Moved setup s id v w g words homes = record {
        at = at;
        legal = legal;
        wide = length-set s.words 0 0 ∙ k.wide;
        deep = length-set s.homes 0 (maybe.some x) ∙ k.deep;
        fits = of_one t (at_rest number g) same (record {
          begins = begins_itself g;
          own = refl;
          all = λ holds. refl;
        });
        others = λ other u apart is. more_of_another setup seen e u
            (no_other setup s k id other number v u apart at is its_own)
            (no_other_holder setup s k id other v u apart at is holds_it)
            (subst (λ (h : History). KnowledgeFits setup h u) whole (k.views other u is));
        all = refl;
        each = λ _. refl;
        lock = held s k at holds_it;
        at_home = λ _. (
          x,
          set_here s.homes 0 (maybe.some x) (omega (arith, k.deep)),
          record {
            range = sym (range_push setup.opened seen e);
            log = log ∙ sym (log_push seen e);
          },
        );
      } in (
        w,
        act_gives,
        tt,
        moved_kept setup s k id v w g words homes moved,
        refl,
      )
    where
      held : (s : Board) (k : RangeRule setup s) → get_elem? s.views id ≡ maybe.some v
          → 0 < holders v → sum_by holders s.views + 0
          ≡ one_if (nat_lt 0 (slice_index (set s.words 0 0) 0)) + holders v
      held s k at some = omega (
        arith,
        k.lock,
        at_most_one (nat_lt 0 (slice_index s.words 0)),
        part holders s.views id v at,
        ap (λ (n : ℕ). one_if (nat_lt 0 n)) (word_set s.words 0 k.wide),
      )

-- the same, as the calls have it
pub release_at : (key : Terms) (slots : ℕ) (st : Step StoredRange) (id : ℕ) (me : At)
    (x : StoredRange)
    → CanRelease me x
    → Allows (RangeRule key) slots id me 0 (λ _. 0) (λ _. releases st me 0)
release_at key slots st id me x can =
    subst (λ (m : At). Allows (RangeRule key) slots id m 0 (λ _. 0) (λ _. releases st m 0))
    (sym can.holds)
    (release_allowed key slots st id me.0.setup (number_of me.0) (seen_of me.0) x can.made can.log)

-- and nothing is in hand then
pub left_over : (st : Step StoredRange) (me me' : At) (x : StoredRange) → CanRelease me x →
    releases st me 0 me'
    → me' ≡ (resting me.0.setup (number_of me.0) (seen_after me.0 me.1), [])
left_over st me me' x can done = done
    ∙ ap (λ (hand : List (ℕ × StoredRange)). (
      resting me.0.setup (number_of me.0) (seen_after me.0 me.1),
      rest hand,
    )) (ap (λ (m : At). m.1) can.holds)
