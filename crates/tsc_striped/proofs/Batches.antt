-- A seat that adds a batch under the locks of several stripes.
use Rattle.std.proofs.Common.{◌≡◌, ◌⊎◌, ◌∙◌, inl, inr, refl, sym, ap, subst, ℕ, zero, suc, ◌+◌, ◌-◌}
use Rattle.std.proofs.Common.{◌<◌, ◌≤◌, List, [], ◌∷◌, ◌++◌, length, arith}
use Rattle.std.specs.Prelude.{min, ◌^◌, Result, Ok, Err, IfOk, OnErr}
use Rattle.atomic_table.specs.Table.{rest}
use Rattle.tsc_time.specs.Time.{Time}
use Rattle.tsc_span.specs.Span.{KeyBytes}
use Rattle.tsc_page_model.specs.Page.{Mark}
use Rattle.tsc_cache.specs.declared.added.Added.{Added}
use Rattle.tsc_cache.specs.declared.history.Entry.{Entry}
use Rattle.tsc_cache.specs.ConfigView.{ConfigView}
use Rattle.tsc_cache.specs.State.{step_all, not_kept, added_with}
use Rattle.tsc_cache.specs.CacheView.{CacheView, RepresentsState, StandsAfterAll, ReportsAddedAll}
use Rattle.tsc_cache.specs.History.{History, CanAllBeAdded}
use Rattle.tsc_cache.proofs.Steps.{answer_alone}
use Rattle.tsc_time.specs.declared.memory.NoMemory.{NoMemory}
use Rattle.tsc_stripe_table.specs.declared.stripe.Version.{Version}
use Rattle.tsc_stripe_table.specs.declared.table.Knowledge.{Knowledge}
use Rattle.tsc_stripe_table.specs.Stripes.{Terms, marks_in, entry_with, entry_in}
use Rattle.tsc_stripe_table.specs.Stripes.{part_of, state_on, IsStateOn}
use Rattle.tsc_stripe_table.specs.Rule.{StoredStripe, times_held, Descends}
use Rattle.tsc_stripe_table.specs.Steps.{At, state_in, with_state, holds_of}
use Rattle.tsc_stripe_table.specs.Steps.{reached_of, reached_with, released}
use Rattle.tsc_stripe_table.specs.Steps.{Acquires, Commits, IsCovered}
use Rattle.tsc_stripe_table.specs.Participating.{IsAtRest, IsStripe, CanAcquire, HasStripe, CanRelease}
use Rattle.tsc_stripe_table.proofs.Parts.{same_or_not}
use Rattle.tsc_striped.specs.declared.batch.Batch.{Batch}
use Rattle.tsc_striped.specs.declared.wide_adds.Stop.{Stop}
use Rattle.tsc_striped.specs.Looks.{added_on, added_from, counted}
use Rattle.tsc_striped.specs.Limits.{least_page_max}
use Rattle.tsc_striped.specs.Cutting.{LieWithin, SkipsTo, IsCut, CanAddBatch}
use Rattle.tsc_striped.specs.Batches.{entry_for, with_added, CanAddFrom, AddsFrom}
use Rattle.tsc_striped.specs.Batches.{StaysOn, AddsAll, IsVersion}
use Rattle.tsc_striped.proofs.InStripes.{state_on_push, held_itself}
use Rattle.tsc_striped.proofs.Holding.{holding, acquired_is, can_acquire, can_release}
use Rattle.tsc_striped.proofs.Holding.{same_in_hand}
use Rattle.tsc_striped.proofs.Several.{held_more, still_stands, can_acquire_next}
use Rattle.tsc_striped.proofs.Touches.{in_or_past}

-- What an Add does in stripes on which nothing lies: nothing.
module _ (terms : Terms) (h : History) (ms : List Mark) (now : Time) where
  abbrev None : ℕ → Type 0
  None stripe = marks_in terms.bounds stripe ms ≡ []

  none_added : (stripe : ℕ) → None stripe → added_on terms h ms now stripe ≡ not_kept
  none_added stripe none =
      ap (λ (ns : List Mark). (step_all terms.config (state_on terms stripe h) ns now).added) none

  nothing_first : (a : Added) → added_with not_kept a ≡ a
  nothing_first a =
      let same : 0 + a.evicted ≡ a.evicted = omega arith in
      λ i. record { kept = a.kept; rotated = a.rotated; evicted = same i }

  -- those below the first ones
  pub added_skips : (k from next more n : ℕ) → next ≡ from + k → n ≡ k + more
      → ((stripe : ℕ) → from ≤ stripe → stripe < next → None stripe)
      → added_from terms h ms now from n ≡ added_from terms h ms now next more
  added_skips zero from next more n on all none =
      let here : from ≡ next = omega (arith, on) in
      let left : n ≡ more = omega (arith, all) in
      λ i. added_from terms h ms now (here i) (left i)
  added_skips (suc k) from next more zero on all none = absurd (omega (arith, all))
  added_skips (suc k) from next more (suc n) on all none =
      (λ i. added_with (none_added from (none from (omega arith) (omega (arith, on))) i)
      (added_skips k (suc from) next more n (omega (arith, on)) (omega (arith, all))
      (λ stripe low high. none stripe (omega (arith, low)) high) i))
      ∙ nothing_first (added_from terms h ms now next more)

  none_from : (n from : ℕ) → ((stripe : ℕ) → from ≤ stripe → None stripe)
      → added_from terms h ms now from n ≡ not_kept
  none_from zero from none = none_added from (none from (omega arith))
  none_from (suc n) from none =
      (λ i. added_with (none_added from (none from (omega arith)) i)
      (none_from n (suc from) (λ stripe low. none stripe (omega (arith, low))) i))

  -- and those above the last ones
  pub added_stops : (more from n : ℕ) → more ≤ n
      → ((stripe : ℕ) → from + more < stripe → None stripe)
      → added_from terms h ms now from n ≡ added_from terms h ms now from more
  added_stops zero from zero le none = refl
  added_stops zero from (suc n) le none =
      ap (added_with (added_on terms h ms now from))
      (none_from n (suc from) (λ stripe low. none stripe (omega (arith, low))))
      ∙ answer_alone (added_on terms h ms now from)
  added_stops (suc more) from zero le none = absurd (omega (arith, le))
  added_stops (suc more) from (suc n) le none =
      ap (added_with (added_on terms h ms now from))
      (added_stops more (suc from) n (omega (arith, le))
      (λ stripe low. none stripe (omega (arith, low))))

  -- so all stripes do what those do on which something lies
  pub added_within : (first last : ℕ) → first ≤ last → last ≤ length terms.bounds
      → LieWithin terms.bounds ms first last
      → added_from terms h ms now first (last - first)
      ≡ added_from terms h ms now 0 (length terms.bounds)
  added_within first last order there within =
      sym (added_skips first 0 first (length terms.bounds - first) (length terms.bounds)
      (omega arith) (omega (arith, order, there)) (λ stripe low high. within stripe (inl high))
      ∙ added_stops (last - first) first (length terms.bounds - first) (omega (arith, order, there))
      (λ stripe low. within stripe (inr (omega (arith, low, order)))))

-- a joint count
saturates : (a b : ℕ) → min (a + min b (2 ^ 64 - 1)) (2 ^ 64 - 1) ≡ min (a + b) (2 ^ 64 - 1)
saturates a b = omega arith

pub joins : (own others x joint : Added) → others ≡ counted x → joint ≡ counted (added_with own others)
    → joint ≡ counted (added_with own x)
joins own others x joint is joined =
    joined ∙ ap (λ (a : Added). counted (added_with own a)) is
    ∙ (λ i. record {
      kept = (added_with own x).kept;
      rotated = (added_with own x).rotated;
      evicted = saturates own.evicted x.evicted i;
    })

-- a seat may acquire a lock above one that it may acquire
pub can_acquire_above : (v : Knowledge) (stripe next : ℕ) → CanAcquire v stripe → stripe ≤ next
    → IsStripe v next → CanAcquire v next
can_acquire_above v stripe next can up is = record {
  one = can.one;
  is_stripe = is;
  order = above (holds_of v) can.order;
}
  where
    above : (holds : List ℕ) → Descends (stripe ∷ holds) → Descends (next ∷ holds)
    above [] d = tt
    above (i ∷ others) d = (omega (arith, d.0, up), d.1)

-- what is the next version of a cache, if one was made, is that of the same cache
pub is_version_of : (cache same : CacheView) (ms these : List Mark) (now : Time)
    (r : Result Version NoMemory) → cache ≡ same → ms ≡ these
    → IfOk r (λ next. StandsAfterAll cache next.cache ms now)
    → IfOk r (λ next. ReportsAddedAll cache ms now next.added)
    → IfOk r (λ next. IsVersion same next.cache these now next.added)
is_version_of cache same ms these now (Ok next) is are stands reports =
    subst (λ (v : CacheView). IsVersion v next.cache these now next.added) is
    (subst (λ (ns : List Mark). IsVersion cache next.cache ns now next.added) are (record {
      stands = stands;
      added_is = reports;
    }))
is_version_of cache same ms these now (Err fault) is are stands reports = tt

-- the next version of a cache stands for the history with the entry
pub version_stands : (terms : Terms) (stripe : ℕ) (h g : History) (e : Entry)
    (cache next : CacheView) (added : Added) → IsStateOn terms stripe h cache
    → part_of terms.bounds stripe g ≡ part_of terms.bounds stripe h
    → IsVersion cache next (marks_in terms.bounds stripe e.marks) e.now added
    → IsStateOn terms stripe (g ++ e ∷ []) next
version_stands terms stripe h g e cache next added stands same v =
    subst (RepresentsState next terms.config) (sym (state_on_push terms stripe g e))
    (v.stands terms.config (state_on terms stripe g)
    (still_stands terms stripe h g cache same stands))

pub version_added : (terms : Terms) (stripe : ℕ) (h g : History) (e : Entry)
    (cache next : CacheView) (added : Added) → IsStateOn terms stripe h cache
    → part_of terms.bounds stripe g ≡ part_of terms.bounds stripe h
    → IsVersion cache next (marks_in terms.bounds stripe e.marks) e.now added
    → added ≡ added_on terms g e.marks e.now stripe
version_added terms stripe h g e cache next added stands same v =
    v.added_is terms.config (state_on terms stripe g)
    (still_stands terms stripe h g cache same stands)

-- no entry lies where none of its marks does
no_entry : (bounds : List KeyBytes) (i : ℕ) (e : Entry) → marks_in bounds i e.marks ≡ []
    → entry_in bounds i e ≡ []
unfolding entry_in
no_entry bounds i e none = ap (entry_with e) none

-- A seat that may add a batch from a stripe on has acquired the lock of the next one on which the
-- batch lies, and has it in hand.
pub record HasAcquired (me me1 : At) (batch : Batch) (from stripe : ℕ) : Type 0 where
  pub x : StoredStripe
  pub can : CanAddFrom me batch from
  pub up : from ≤ stripe
  pub low : stripe ≤ batch.last
  pub skips : SkipsTo me.0.setup.bounds batch from stripe
  pub a : Acquires me.0 me1.0 stripe x.value.cache
  pub hand : me1.1 ≡ (stripe, x) ∷ me.1

pub has_acquired : (me me0 me1 : At) (batch : Batch) (from stripe : ℕ) (x : StoredStripe)
    → Acquires me.0 me0.0 stripe x.value.cache → me0.1 ≡ (stripe, x) ∷ me.1 → me1 ≡ me0
    → CanAddFrom me batch from → from ≤ stripe → stripe ≤ batch.last
    → SkipsTo me.0.setup.bounds batch from stripe → HasAcquired me me1 batch from stripe
has_acquired me me0 me1 batch from stripe x a hand same can up low skips = record {
  x = x;
  can = can;
  up = up;
  low = low;
  skips = skips;
  a = subst (λ (m : At). Acquires me.0 m.0 stripe x.value.cache) (sym same) a;
  hand = ap (λ (m : At). m.1) same ∙ hand;
}

module _ (me me1 : At) (batch : Batch) (from stripe : ℕ)
    (q : HasAcquired me me1 batch from stripe) where
  abbrev x : StoredStripe
  x = q.x

  abbrev can : CanAddFrom me batch from
  can = q.can

  abbrev up : from ≤ stripe
  up = q.up

  abbrev low : stripe ≤ batch.last
  low = q.low

  abbrev skips : SkipsTo me.0.setup.bounds batch from stripe
  skips = q.skips

  abbrev a : Acquires me.0 me1.0 stripe q.x.value.cache
  a = q.a

  abbrev then' : At
  then' = holding me stripe a.history x

  same : me1 ≡ then'
  same = acquired_is me me1 stripe x a q.hand

  pub setup_same : me1.0.setup ≡ me.0.setup
  setup_same = ap (λ (m : At). m.0.setup) same

  there : IsStripe me.0 stripe
  there = omega (arith, low, can.cut.there)

  covered_below : (other : ℕ) → other < stripe
      → (marks_in me.0.setup.bounds other batch.marks.items ≡ [])
      ⊎ (0 < times_held other (holds_of me.0))
  covered_below other lower = elim (in_or_past other from) [
    | inl below ↦ can.covered other below
    | inr past ↦ inl (skips other past lower)
  ]

  pub has_it : HasStripe me1 stripe x
  has_it = subst (λ (m : At). HasStripe m stripe x) (sym same) (record {
    one = refl;
    is_stripe = there;
    holds = refl;
    hand = refl;
  })

  -- what the next version is
  pub version_is : (me0 : At) (next : CacheView) (own : Added) → me1 ≡ me0
      → ((y : StoredStripe) → HasStripe me0 stripe y → IsCut me0.0.setup.bounds batch
      → IsVersion y.value.cache next (marks_in me0.0.setup.bounds stripe batch.marks.items)
      batch.moment own)
      → IsVersion x.value.cache next (marks_in me.0.setup.bounds stripe batch.marks.items)
      batch.moment own
  version_is me0 next own is reports =
      subst (λ (t : Terms). IsVersion x.value.cache next
      (marks_in t.bounds stripe batch.marks.items) batch.moment own) setup_same
      (subst (λ (m : At). (y : StoredStripe) → HasStripe m stripe y → IsCut m.0.setup.bounds batch
      → IsVersion y.value.cache next (marks_in m.0.setup.bounds stripe batch.marks.items)
      batch.moment own) (sym is) reports x has_it
      (subst (λ (t : Terms). IsCut t.bounds batch) (sym setup_same) can.cut))

  -- it has room for what lies there
  pub room_in : (y : StoredStripe) → HasStripe me1 stripe y
      → least_page_max ≤ y.value.cache.config.page_max
  room_in y has = subst (λ (z : StoredStripe). least_page_max ≤ z.value.cache.config.page_max)
      (same_in_hand me1.1 stripe stripe x y me.1 (rest me1.1) q.hand has.hand)
      (subst (λ (s : ConfigView). least_page_max ≤ s.page_max) (sym a.stands.set_up) can.room)

  -- it may release it again
  pub can_release_it : CanRelease me1 stripe x
  can_release_it = can_release me me1 stripe a.history x there same a.stands

  -- or go on
  pub can_go_on : stripe < batch.last → CanAddFrom me1 batch (stripe + 1)
  can_go_on lower = subst (λ (m : At). CanAddFrom m batch (stripe + 1)) (sym same) (record {
    acquire = can_acquire_next me then' stripe batch.last a.history x
        (can_acquire_above me.0 from stripe can.acquire up there) lower
        (omega (arith, can.cut.there)) refl;
    reached = refl;
    cut = can.cut;
    can = can.can;
    room = can.room;
    among = (omega (arith, can.among.0, up), omega (arith, lower));
    covered = λ other lower'. elim (same_or_not other stripe) [
      | inl is ↦ inr (subst (λ (i : ℕ). 0 < times_held i (stripe ∷ holds_of me.0)) (sym is)
          (held_itself stripe (holds_of me.0)))
      | inr apart ↦ elim (covered_below other (omega (arith, lower', apart))) [
        | inl none ↦ inl none
        | inr held ↦ inr (held_more other stripe (holds_of me.0) held)
      ]
    ];
  })

  -- it holds all stripes on which the batch lies, if this is the last one
  pub covers : stripe ≡ batch.last
      → IsCovered me1.0.setup.bounds (holds_of me1.0) (entry_for me1 batch)
  covers last = subst (λ (m : At). IsCovered m.0.setup.bounds (holds_of m.0) (entry_for m batch))
      (sym same) (λ other. elim (same_or_not other stripe) [
        | inl is ↦ inr (subst (λ (i : ℕ). 0 < times_held i (stripe ∷ holds_of me.0)) (sym is)
            (held_itself stripe (holds_of me.0)))
        | inr apart ↦ elim (in_or_past other stripe) [
          | inl lower ↦ elim (covered_below other lower) [
            | inl none ↦ inl (no_entry me.0.setup.bounds other (entry_for me batch) none)
            | inr held ↦ inr (held_more other stripe (holds_of me.0) held)
          ]
          | inr past ↦ inl (no_entry me.0.setup.bounds other (entry_for me batch)
              (can.cut.within other (inr (omega (arith, past, apart, last)))))
        ]
      ])

  pub can_add_all : CanAllBeAdded me1.0.setup.config batch.marks.items batch.moment
  can_add_all = subst (λ (m : At). CanAllBeAdded m.0.setup.config batch.marks.items batch.moment)
      (sym same) can.can

  -- where it has stopped and released the lock, it holds what it held
  module _ (me2 : At) (r : StaysOn me1 me2) where
    stayed : StaysOn then' me2
    stayed = subst (λ (m : At). StaysOn m me2) same r

    pub setup_stays : me2.0.setup ≡ me.0.setup
    setup_stays = ap (λ (m : At). m.0.setup) stayed.after

    pub can_release_then : CanRelease me2 stripe x
    can_release_then = can_release me me2 stripe stayed.history x there stayed.after
        (still_stands me.0.setup stripe a.history stayed.history x.value.cache
        (stayed.unchanged stripe (held_itself stripe (holds_of me.0))) a.stands)

    pub stays : (me3 : At) → me3 ≡ (with_state me2.0 (released (state_in me2.0)), rest me2.1)
        → StaysOn me me3
    stays me3 left = record {
      history = stayed.history;
      after = left
          ∙ ap (λ (m : At). (with_state m.0 (released (state_in m.0)), rest m.1)) stayed.after;
      unchanged = λ j held. stayed.unchanged j (held_more j stripe (holds_of me.0) held)
          ∙ a.unchanged j held;
    }

  pub stays_at_once : (me3 : At)
      → me3 ≡ (with_state me1.0 (released (state_in me1.0)), rest me1.1) → StaysOn me me3
  stays_at_once me3 left = record {
    history = a.history;
    after = left ∙ ap (λ (m : At). (with_state m.0 (released (state_in m.0)), rest m.1)) same;
    unchanged = a.unchanged;
  }

  -- The next version of its cache is made.
  module _ (next : CacheView) (own : Added)
      (v : IsVersion x.value.cache next
      (marks_in me.0.setup.bounds stripe batch.marks.items) batch.moment own) where
    abbrev e : Entry
    e = entry_for me batch

    -- in the last stripe the batch is then committed
    pub stands_last : IsStateOn me1.0.setup stripe (reached_of me1.0 ++ entry_for me1 batch ∷ []) next
    stands_last = subst (λ (m : At). IsStateOn m.0.setup stripe
        (reached_of m.0 ++ entry_for m batch ∷ []) next) (sym same)
        (version_stands me.0.setup stripe a.history a.history e x.value.cache next own a.stands refl
        v)

    from_here : (h : History) → stripe ≤ batch.last
        → added_from me.0.setup h batch.marks.items batch.moment from (batch.last - from)
        ≡ added_from me.0.setup h batch.marks.items batch.moment stripe (batch.last - stripe)
    from_here h lower = added_skips me.0.setup h batch.marks.items batch.moment (stripe - from) from
        stripe (batch.last - stripe) (batch.last - from) (omega (arith, up))
        (omega (arith, up, low)) skips

    pub adds_last : (me2 : At) → stripe ≡ batch.last → own ≡ counted own
        → Commits me1.0 me2.0 (entry_for me1 batch ∷ []) → me2.1 ≡ rest me1.1
        → AddsFrom me me2 batch from own
    adds_last me2 last is_counted commits left =
        let c : Commits then'.0 me2.0 (e ∷ []) =
        subst (λ (m : At). Commits m.0 me2.0 (entry_for m batch ∷ [])) same commits in
        let hand2 : me2.1 ≡ me.1 = left ∙ ap (λ (m : At). rest m.1) same in
        let there' = c.unchanged stripe (held_itself stripe (holds_of me.0)) in
        let own_is = version_added me.0.setup stripe a.history c.before e x.value.cache next own
        a.stands there' v in
        let none : 0 ≡ batch.last - stripe = omega (arith, last) in record {
          before = c.before;
          after = λ i. (c.after i, hand2 i);
          begins = c.begins;
          legal = c.legal;
          own = c.own;
          unchanged = λ j held. c.unchanged j (held_more j stripe (holds_of me.0) held)
              ∙ a.unchanged j held;
          added_is = is_counted ∙ ap counted (own_is
              ∙ ap (added_from me.0.setup c.before batch.marks.items batch.moment stripe) none
              ∙ sym (from_here c.before low));
        }

    -- in any other one it takes its place once the batch is committed
    module _ (me2 : At) (others : Added) (r : AddsFrom me1 me2 batch (stripe + 1) others) where
      made : AddsFrom then' me2 batch (stripe + 1) others
      made = subst (λ (m : At). AddsFrom m me2 batch (stripe + 1) others) same r

      pub setup_added : me2.0.setup ≡ me.0.setup
      setup_added = ap (λ (m : At). m.0.setup) made.after

      pub has_it_then : HasStripe me2 stripe x
      has_it_then = subst (λ (m : At). HasStripe m stripe x) (sym made.after) (record {
        one = refl;
        is_stripe = there;
        holds = refl;
        hand = refl;
      })

      pub stands_then : IsStateOn me2.0.setup stripe (reached_of me2.0) next
      stands_then = subst (λ (m : At). IsStateOn m.0.setup stripe (reached_of m.0) next)
          (sym made.after)
          (version_stands me.0.setup stripe a.history made.before e x.value.cache next own a.stands
          (made.unchanged stripe (held_itself stripe (holds_of me.0))) v)

      pub adds_more : (me3 : At) (joint : Added)
          → me3 ≡ (with_state me2.0 (released (state_in me2.0)), rest me2.1)
          → stripe < batch.last → joint ≡ counted (added_with own others)
          → AddsFrom me me3 batch from joint
      adds_more me3 joint left lower joined =
          let b : History = made.before in
          let own_is = version_added me.0.setup stripe a.history b e x.value.cache next own a.stands
          (made.unchanged stripe (held_itself stripe (holds_of me.0))) v in
          let on : stripe + 1 ≡ suc stripe = omega arith in
          let n : ℕ = batch.last - (stripe + 1) in
          let steps : suc n ≡ batch.last - stripe = omega (arith, lower) in record {
            before = b;
            after = left ∙ ap (λ (m : At). (with_state m.0 (released (state_in m.0)), rest m.1))
                made.after;
            begins = made.begins;
            legal = made.legal;
            own = made.own;
            unchanged = λ j held. made.unchanged j (held_more j stripe (holds_of me.0) held)
                ∙ a.unchanged j held;
            added_is = joins own others
                (added_from me.0.setup b batch.marks.items batch.moment (stripe + 1) n) joint
                made.added_is joined
                ∙ ap counted ((λ i. added_with (own_is i)
                (added_from me.0.setup b batch.marks.items batch.moment (on i) n))
                ∙ ap (added_from me.0.setup b batch.marks.items batch.moment stripe) steps
                ∙ sym (from_here b low));
          }

-- a seat that found a lock held holds what it held
pub stays_there : (me me' : At) (batch : Batch) (from : ℕ) → CanAddFrom me batch from → me' ≡ me
    → StaysOn me me'
stays_there me me' batch from can is = record {
  history = reached_of me.0;
  after = is ∙ (λ i. (can.acquire.one i, me.1))
      ∙ ap (λ (h : History). (with_state me.0 (record (state_in me.0) { reached = h }), me.1))
      (sym can.reached);
  unchanged = λ j held. refl;
}

-- A seat between two calls may add a batch.
pub can_add : (me : At) (batch : Batch) → IsAtRest me → CanAddBatch me.0.setup batch
    → CanAddFrom me batch batch.first
can_add me batch rested can = record {
  acquire = can_acquire me batch.first rested (omega (arith, can.cut.has.order, can.cut.there));
  reached = subst (λ (m : At). reached_with (holds_of m.0) (reached_of m.0) ≡ reached_of m.0)
      (sym rested) refl;
  cut = can.cut;
  can = can.can;
  room = can.room;
  among = (omega arith, can.cut.has.order);
  covered = λ other low. inl (can.cut.within other (inl low));
}

-- once it has added it, it rests again
pub adds_all : (me me' : At) (batch : Batch) (added : Added) → IsAtRest me
    → IsCut me.0.setup.bounds batch → AddsFrom me me' batch batch.first added
    → AddsAll me me' batch.marks.items batch.moment added
adds_all me me' batch added rested cut r = record {
  before = r.before;
  after = r.after ∙ ap (λ (m : At). (
    with_state me.0 (with_added (state_in m.0) (r.before ++ entry_for me batch ∷ [])),
    m.1,
  )) rested;
  begins = r.begins;
  legal = r.legal;
  own = r.own;
  added_is = r.added_is ∙ ap counted (added_within me.0.setup r.before batch.marks.items
      batch.moment batch.first batch.last cut.has.order cut.there cut.within);
}

-- and where it has stopped, it is as it was
pub stays_at_rest : (me me' : At) → IsAtRest me → StaysOn me me' → me' ≡ me
stays_at_rest me me' rested r =
    r.after ∙ ap (λ (m : At). (
      with_state me.0 (record (state_in m.0) { reached = reached_with (holds_of m.0) r.history }),
      m.1,
    )) rested ∙ sym rested

pub all_if_added : (me me' : At) (batch : Batch) (r : Result Added Stop) (T : Type 0)
    → IsAtRest me → IsCut me.0.setup.bounds batch
    → IfOk r (λ added. AddsFrom me me' batch batch.first added × T)
    → IfOk r (λ added. AddsAll me me' batch.marks.items batch.moment added × T)
all_if_added me me' batch (Ok added) T rested cut r =
    (adds_all me me' batch added rested cut r.0, r.1)
all_if_added me me' batch (Err stop) T rested cut r = tt

pub same_if_stopped : (me me' : At) (r : Result Added Stop) (T : Type 0) → IsAtRest me
    → OnErr r (StaysOn me me' × T) → OnErr r ((me' ≡ me) × T)
same_if_stopped me me' (Ok added) T rested s = tt
same_if_stopped me me' (Err stop) T rested s = (stays_at_rest me me' rested s.0, s.1)
