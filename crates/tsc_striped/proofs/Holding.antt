-- A seat that holds the lock of one stripe, and what it leaves when it has released that.
use Rattle.std.proofs.Common.{◌≡◌, ◌∙◌, refl, sym, ap, subst, ℕ, suc, List, [], ◌∷◌, ◌++◌}
use Rattle.atomic_table.specs.Seated.{TableId}
use Rattle.atomic_table.specs.Table.{rest}
use Rattle.tsc_time.specs.Time.{Time}
use Rattle.tsc_page_model.specs.Page.{Mark}
use Rattle.tsc_cache.specs.declared.added.Added.{Added}
use Rattle.tsc_cache.specs.declared.history.Entry.{Entry}
use Rattle.tsc_cache.specs.State.{step, step_all}
use Rattle.tsc_cache.specs.CacheView.{CacheView, RepresentsState, StandsAfter, ReportsAdded}
use Rattle.tsc_cache.specs.History.{History, own_count, entry_of_mark, BeginsWith, IsLegal, CanBeAdded}
use Rattle.tsc_cache.specs.History.{state_of}
use Rattle.tsc_stripe_table.specs.Stripes.{Terms, marks_in, state_on, IsStateOn}
use Rattle.tsc_stripe_table.specs.Rule.{StoredStripe, Descends}
use Rattle.tsc_stripe_table.specs.Steps.{At, state_in, with_state, number_of, seen_of, count_of}
use Rattle.tsc_stripe_table.specs.Steps.{reached_of, seated, acquired, released, released_seen}
use Rattle.tsc_stripe_table.specs.Steps.{Acquires, Commits, made_in, mark_of, committed, IsCovered}
use Rattle.tsc_stripe_table.specs.Participating.{Participant, IsAtRest, IsOf, IsStripe, CanAcquire}
use Rattle.tsc_stripe_table.specs.Participating.{HasStripe, CanRelease, CanCommit, IsSized}
use Rattle.tsc_striped.specs.Moves.{LiesIn, HasLooked, AddsIn, entry_at}
use Rattle.tsc_striped.proofs.InStripes.{state_on_push, whole_mark_steps, covered_in, held_itself}

-- a seat between two calls may acquire any lock
pub can_acquire : (me : At) (stripe : ℕ) → IsAtRest me → IsStripe me.0 stripe
    → CanAcquire me.0 stripe
can_acquire me stripe rest is = record {
  one = subst (λ (m : At). m.0 ≡ with_state m.0 (state_in m.0)) (sym rest) refl;
  is_stripe = is;
  order = subst (λ (m : At). Descends
      (stripe ∷ (state_in m.0).holds)) (sym rest) tt;
}

-- the participant still takes part in the table
pub still_of : (p q : Participant) (table : TableId) → IsOf p table → q.table_id ≡ p.table_id
    → q.me.0.setup ≡ p.me.0.setup → IsOf q table
still_of p q table of same setup = record {
  table = same ∙ of.table;
  sized = subst (λ (t : Terms). IsSized table t.bounds)
      (sym setup) of.sized;
}

-- a seat that has acquired a lock, and reached a history
abbrev pub holding : At → ℕ → History → StoredStripe → At
holding me stripe h x = (with_state me.0 (acquired (state_in me.0) stripe h), (stripe, x) ∷ me.1)

pub acquired_is : (me me' : At) (stripe : ℕ) (x : StoredStripe) (a : Acquires me.0 me'.0 stripe
    x.value.cache) → me'.1 ≡ (stripe, x) ∷ me.1 → me' ≡ holding me stripe a.history x
acquired_is me me' stripe x a hand = λ i. (a.after i, hand i)

-- has it in hand
pub has_held : (me me' : At) (stripe : ℕ) (h : History) (x : StoredStripe) → IsStripe me.0 stripe
    → me' ≡ holding me stripe h x → HasStripe me' stripe x
has_held me me' stripe h x is same = subst (λ (m : At). HasStripe m stripe x) (sym same) (record {
  one = refl;
  is_stripe = is;
  holds = refl;
  hand = refl;
})

-- and may release it as it was
pub can_release : (me me' : At) (stripe : ℕ) (h : History) (x : StoredStripe) → IsStripe me.0 stripe
    → me' ≡ holding me stripe h x → IsStateOn me.0.setup stripe h x.value.cache
    → CanRelease me' stripe x
can_release me me' stripe h x is same stands = record {
  has = has_held me me' stripe h x is same;
  stands = subst (λ (m : At). IsStateOn m.0.setup stripe (reached_of m.0) x.value.cache) (sym same)
      stands;
}

-- what is left once it is released
pub released_is : (me me' me'' : At) (stripe : ℕ) (h : History) (x : StoredStripe) → IsAtRest me
    → me' ≡ holding me stripe h x
    → me'' ≡ (with_state me'.0 (released (state_in me'.0)), rest me'.1) → me'' ≡ me
released_is me me' me'' stripe h x rested same then' =
    then' ∙ ap (λ (m : At). (with_state m.0 (released (state_in m.0)), rest m.1)) same
    ∙ ap (λ (m : At). (with_state m.0 (released (acquired (state_in m.0) stripe h)), m.1)) rested
    ∙ sym rested

-- and once it is released after a look
pub looked_is : (me me' me'' : At) (stripe : ℕ) (h : History) (x : StoredStripe)
    (holds : History → Type 0) → IsAtRest me → me' ≡ holding me stripe h x
    → BeginsWith h (seen_of me.0) → IsLegal me.0.setup.config me.0.setup.seats h
    → own_count (number_of me.0) h ≡ count_of me.0
    → me'' ≡ (with_state me'.0 (released_seen (state_in me'.0)), rest me'.1) → holds h
    → HasLooked me me'' holds
looked_is me me' me'' stripe h x holds rested same begins legal own then' found = record {
  history = h;
  after = then' ∙ ap (λ (m : At). (with_state m.0 (released_seen (state_in m.0)), rest m.1)) same
      ∙ ap (λ (m : At). (with_state me.0 (released_seen (acquired (state_in m.0) stripe h)), m.1))
      rested;
  begins = begins;
  legal = legal;
  own = own;
  found = found;
}

-- It may commit the Add.
pub can_commit : (me me' : At) (stripe : ℕ) (h : History) (x : StoredStripe) (old : CacheView)
    (m : Mark) (now : Time) → IsAtRest me → IsStripe me.0 stripe → me' ≡ holding me stripe h x
    → LiesIn me.0.setup.bounds stripe m.span → CanBeAdded me.0.setup.config m now
    → mark_of x.value.pending ≡ m → x.value.pending.moment.value ≡ now
    → IsStateOn me.0.setup stripe h old → StandsAfter old x.value.cache m now
    → CanCommit me' stripe x
can_commit me me' stripe h x old m now rested is same lies can mark moment stands after =
    subst (λ (m' : At). CanCommit m' stripe x) (sym same) (record {
      has = has_held me (holding me stripe h x) stripe h x is refl;
      made = subst (λ (n : Mark). CanBeAdded me.0.setup.config n x.value.pending.moment.value)
          (sym mark) (subst (CanBeAdded me.0.setup.config m) (sym moment) can);
      covered = subst (λ (os : List ℕ). IsCovered
          me.0.setup.bounds (stripe ∷ os) e') (sym held) (subst
          (λ (e : Entry). IsCovered me.0.setup.bounds
          (stripe ∷ []) e) (sym entry) (covered_in me.0.setup.bounds stripe (number_of me.0)
          (count_of me.0) m now lies));
      stands = subst (RepresentsState x.value.cache me.0.setup.config) (sym then')
          (after me.0.setup.config (state_on me.0.setup stripe h) stands);
    })
  where
    e' : Entry
    e' = entry_of_mark (number_of me.0) (count_of me.0) (mark_of x.value.pending)
        x.value.pending.moment.value

    entry : e' ≡ entry_at me m now
    entry = λ i. entry_of_mark (number_of me.0) (count_of me.0) (mark i) (moment i)

    held : (state_in me.0).holds ≡ []
    held = ap (λ (n : At). (state_in n.0).holds) rested

    then' : state_on me.0.setup stripe (h ++ e' ∷ [])
        ≡ (step me.0.setup.config (state_on me.0.setup stripe h) m now).state
    then' = ap (λ (e : Entry). state_on me.0.setup stripe (h ++ e ∷ [])) entry
        ∙ state_on_push me.0.setup stripe h (entry_at me m now)
        ∙ ap (λ s. s.state) (whole_mark_steps me.0.setup.config me.0.setup.bounds stripe
        (state_on me.0.setup stripe h) m now lies.whole)

-- what is left once it is committed
pub committed_is : (me me' me'' : At) (stripe : ℕ) (h : History) (x : StoredStripe)
    (old : CacheView)
    (m : Mark) (now : Time) (added : Added) → IsAtRest me → me' ≡ holding me stripe h x
    → LiesIn me.0.setup.bounds stripe m.span
    → mark_of x.value.pending ≡ m → x.value.pending.moment.value ≡ now
    → IsStateOn me.0.setup stripe h old → ReportsAdded old m now added
    → Commits me'.0 me''.0 (made_in (state_in me'.0) me'.1) → me''.1 ≡ rest me'.1
    → AddsIn me me'' stripe m now added
committed_is me me' me'' stripe h x old m now added rested same lies mark moment stands reports
    commits hand =
    let c : Commits (holding me stripe h x).0 me''.0 (e' ∷ []) = subst
    (λ (n : At). Commits n.0 me''.0 (made_in (state_in n.0) n.1)) same commits in
    let left : me''.1 ≡ [] = hand ∙ ap (λ (n : At). rest n.1) same ∙ ap (λ (n : At). n.1) rested in
    let whole : c.before ++ e' ∷ [] ≡ c.before ++ entry_at me m now ∷ [] =
    ap (λ (e : Entry). c.before ++ e ∷ []) entry in record {
      before = c.before;
      after = (λ i. (c.after i, left i)) ∙ ap (λ (n : At). (
        with_state me.0
            (committed (acquired (state_in n.0) stripe h)
            (c.before ++ e' ∷ [])),
        [],
      )) rested ∙ ap (λ (g : History). (
        seated me.0.setup
            (number_of me.0) g (suc (count_of me.0)),
        [],
      )) whole;
      begins = c.begins;
      legal = subst (IsLegal me.0.setup.config me.0.setup.seats) whole c.legal;
      own = ap (own_count (number_of me.0)) (sym whole) ∙ c.own;
      added_is = reports me.0.setup.config (state_on me.0.setup stripe h) stands
          ∙ ap (λ s. s.added) (sym (whole_mark_steps me.0.setup.config me.0.setup.bounds stripe
          (state_on me.0.setup stripe h) m now lies.whole))
          ∙ ap (λ (part : History). (step_all me.0.setup.config
          (state_of me.0.setup.config part) (marks_in
          me.0.setup.bounds stripe (m ∷ [])) now).added)
          (sym (c.unchanged stripe (held_itself stripe (state_in me.0).holds)));
    }
  where
    e' : Entry
    e' = entry_of_mark (number_of me.0) (count_of me.0) (mark_of x.value.pending)
        x.value.pending.moment.value

    entry : e' ≡ entry_at me m now
    entry = λ i. entry_of_mark (number_of me.0) (count_of me.0) (mark i) (moment i)

-- what was taken is in hand
pub in_hand : (hand zs : List (ℕ × StoredStripe)) (i : ℕ) (x : StoredStripe) → hand ≡ (i, x) ∷ zs
    → hand ≡ (i, x) ∷ rest hand
in_hand hand zs i x e =
    e ∙ ap (λ (ws : List (ℕ × StoredStripe)). (i, x) ∷ ws) (sym (ap rest e))

-- what is in hand is what was taken
hand_of : List (ℕ × StoredStripe) → StoredStripe → StoredStripe
hand_of [] d = d
hand_of ((k, x) ∷ others) d = x

pub same_in_hand : (hand : List (ℕ × StoredStripe)) (i j : ℕ) (x y : StoredStripe)
    (zs ws : List (ℕ × StoredStripe)) → hand ≡ (i, x) ∷ zs → hand ≡ (j, y) ∷ ws → x ≡ y
unfolding hand_of
same_in_hand hand i j x y zs ws e f = ap (λ h. hand_of h x) (sym e ∙ f)
