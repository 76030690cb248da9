-- A seat that holds the locks of several stripes.
use Rattle.std.proofs.Common.{◌≡◌, ◌∙◌, refl, sym, ap, subst, ℕ, suc, ◌+◌, ◌-◌, ◌<◌, List, []}
use Rattle.std.proofs.Common.{◌∷◌, length, arith}
use Rattle.atomic_table.specs.Table.{rest}
use Rattle.tsc_time.specs.ValueView.{ValueView}
use Rattle.tsc_time.specs.Joint.{ratcheted}
use Rattle.tsc_span.specs.Span.{SpanView}
use Rattle.tsc_cache.specs.State.{look}
use Rattle.tsc_cache.specs.CacheView.{CacheView, RepresentsState}
use Rattle.tsc_cache.specs.History.{History, state_of, BeginsWith, IsLegal, own_count}
use Rattle.tsc_stripe_table.specs.Stripes.{Terms, part_of, IsStateOn}
use Rattle.tsc_stripe_table.specs.Rule.{StoredStripe, times_held}
use Rattle.tsc_stripe_table.specs.Steps.{At, state_in, with_state, number_of, seen_of, count_of}
use Rattle.tsc_stripe_table.specs.Steps.{holds_of, reached_of, reached_with, released}
use Rattle.tsc_stripe_table.specs.Steps.{released_seen, Acquires, AgreeOn}
use Rattle.tsc_stripe_table.specs.Participating.{IsAtRest, IsStripe, CanAcquire, CanRelease}
use Rattle.tsc_stripe_table.proofs.Parts.{held_cons}
use Rattle.tsc_striped.specs.Looks.{look_on, look_from}
use Rattle.tsc_striped.specs.Moves.{HasLooked, HasReached, ReachesOn}
use Rattle.tsc_striped.proofs.InStripes.{held_itself}
use Rattle.tsc_striped.proofs.Holding.{holding, can_release, released_is, looked_is}

-- a stripe among some is among more
pub held_more : (j i : ℕ) (others : List ℕ) → 0 < times_held j others → 0 < times_held j (i ∷ others)
held_more j i others some = omega (arith, held_cons j i others, some)

-- what stands for a history stands for one with the same part
pub still_stands : (terms : Terms) (stripe : ℕ) (h g : History) (cache : CacheView)
    → part_of terms.bounds stripe g ≡ part_of terms.bounds stripe h
    → IsStateOn terms stripe h cache → IsStateOn terms stripe g cache
still_stands terms stripe h g cache same stands =
    subst (λ (part : History). RepresentsState cache terms.config (state_of terms.config part))
    (sym same) stands

-- and is looked up alike
looks_alike : (terms : Terms) (stripe : ℕ) (h g : History) (span : SpanView)
    → part_of terms.bounds stripe g ≡ part_of terms.bounds stripe h
    → look_on terms h span stripe ≡ look_on terms g span stripe
looks_alike terms stripe h g span same =
    ap (λ (part : History). look (state_of terms.config part) span) (sym same)

-- a seat that holds a lock may acquire the next one
pub can_acquire_next : (me me' : At) (stripe last : ℕ) (h : History) (x : StoredStripe)
    → CanAcquire me.0 stripe → stripe < last → IsStripe me.0 last
    → me' ≡ holding me stripe h x → CanAcquire me'.0 (stripe + 1)
can_acquire_next me me' stripe last h x can low is same =
    let next : suc stripe ≡ stripe + 1 = omega arith in
    subst (λ (m : At). CanAcquire m.0 (stripe + 1)) (sym same) (record {
      one = refl;
      is_stripe = omega (arith, low, is);
      order = (omega arith, can.order);
    })

pub holds_some : (me me' : At) (stripe : ℕ) (h : History) (x : StoredStripe)
    → me' ≡ holding me stripe h x → 0 < length (holds_of me'.0)
holds_some me me' stripe h x same =
    subst (λ (m : At). 0 < length (holds_of m.0)) (sym same) (omega arith)

-- what it has reached
pub has_reached : (me me' : At) (stripe : ℕ) (x : StoredStripe)
    (a : Acquires me.0 me'.0 stripe x.value.cache) → me' ≡ holding me stripe a.history x
    → HasReached me'.0
has_reached me me' stripe x a same = subst (λ (m : At). HasReached m.0) (sym same) (record {
  begins = a.begins;
  legal = a.legal;
  own = a.own;
})

-- and it still has that one in hand where it has reached more
pub still_holding : (me me' me'' : At) (stripe : ℕ) (h : History) (x : StoredStripe)
    (holds : History → Type 0) → me' ≡ holding me stripe h x → (r : ReachesOn me' me'' holds)
    → me'' ≡ holding me stripe r.history x
still_holding me me' me'' stripe h x holds same r =
    r.after ∙ ap (λ (m : At). (with_state m.0 (record (state_in m.0) { reached = r.history }), m.1))
    same

-- no stripe that it holds had an Add meanwhile
pub agrees : (me me' me'' : At) (stripe : ℕ) (h : History) (x : StoredStripe)
    (holds : History → Type 0) → me' ≡ holding me stripe h x → (r : ReachesOn me' me'' holds)
    → AgreeOn me.0.setup.bounds (stripe ∷ holds_of me.0) r.history h
agrees me me' me'' stripe h x holds same r =
    subst (λ (m : At). AgreeOn m.0.setup.bounds (holds_of m.0) r.history (reached_of m.0)) same
    r.unchanged

-- What a seat has reached once it has released one of its locks again.
left_holding : (holds : List ℕ) (h : History) → 0 < length holds → reached_with holds h ≡ h
left_holding [] h some = absurd (omega (arith, some))
left_holding (i ∷ others) h some = refl

pub reaches_released : (me me' me'' : At) (stripe : ℕ) (h g : History) (x : StoredStripe)
    (holds : History → Type 0) → 0 < length (holds_of me.0) → me' ≡ holding me stripe g x
    → AgreeOn me.0.setup.bounds (holds_of me.0) h (reached_of me.0)
    → AgreeOn me.0.setup.bounds (stripe ∷ holds_of me.0) g h
    → BeginsWith g (seen_of me.0) → IsLegal me.0.setup.config me.0.setup.seats g
    → own_count (number_of me.0) g ≡ count_of me.0
    → me'' ≡ (with_state me'.0 (released (state_in me'.0)), rest me'.1)
    → holds g → ReachesOn me me'' holds
reaches_released me me' me'' stripe h g x holds some same before since begins legal own then'
    found = record {
      history = g;
      after = then' ∙ ap (λ (m : At). (with_state m.0 (released (state_in m.0)), rest m.1)) same
          ∙ ap (λ (r : History). (with_state me.0 (record (state_in me.0) { reached = r }), me.1))
          (left_holding (holds_of me.0) g some);
      begins = begins;
      legal = legal;
      own = own;
      unchanged = λ j held. since j (held_more j stripe (holds_of me.0) held) ∙ before j held;
      found = found;
    }

-- one that could acquire no lock has reached no more
pub reaches_nothing : (me me' : At) (stripe : ℕ) (holds : History → Type 0)
    → CanAcquire me.0 stripe → HasReached me.0 → me' ≡ me
    → holds (reached_of me.0) → ReachesOn me me' holds
reaches_nothing me me' stripe holds can r same found = record {
  history = reached_of me.0;
  after = same ∙ (λ i. (can.one i, me.1));
  begins = r.begins;
  legal = r.legal;
  own = r.own;
  unchanged = λ j held. refl;
  found = found;
}

-- what the stripes from one on answer
pub looks_last : (terms : Terms) (h : History) (span : SpanView) (stripe last : ℕ)
    (own : ValueView) → stripe ≡ last → own ≡ look_on terms h span stripe
    → own ≡ look_from terms h span stripe (last - stripe)
looks_last terms h span stripe last own same is =
    let none : last - stripe ≡ 0 = omega (arith, same) in
    is ∙ ap (look_from terms h span stripe) (sym none)

pub looks_more : (terms : Terms) (h g : History) (span : SpanView) (stripe last : ℕ)
    (own others value : ValueView) → stripe < last
    → part_of terms.bounds stripe g ≡ part_of terms.bounds stripe h
    → own ≡ look_on terms h span stripe
    → others ≡ look_from terms g span (stripe + 1) (last - (stripe + 1))
    → value ≡ ratcheted own others → value ≡ look_from terms g span stripe (last - stripe)
looks_more terms h g span stripe last own others value low same is more joint =
    let n : ℕ = last - (stripe + 1) in
    let steps : last - stripe ≡ suc n = omega (arith, low) in
    let next : stripe + 1 ≡ suc stripe = omega arith in
    joint ∙ (λ i. ratcheted ((is ∙ looks_alike terms stripe h g span same) i)
    ((more ∙ ap (λ (k : ℕ). look_from terms g span k n) next) i))
    ∙ ap (look_from terms g span stripe) (sym steps)

-- A seat holds the lock of a stripe, with y in hand, and has then reached on.
module _ (me me1 me2 : At) (stripe : ℕ) (x y : StoredStripe)
    (a : Acquires me.0 me1.0 stripe x.value.cache) (same : me1 ≡ holding me stripe a.history y)
    (holds1 : History → Type 0) (r : ReachesOn me1 me2 holds1) where
  pub holding_on : me2 ≡ holding me stripe r.history y
  holding_on = still_holding me me1 me2 stripe a.history y holds1 same r

  pub agrees_on : AgreeOn me.0.setup.bounds (stripe ∷ holds_of me.0) r.history a.history
  agrees_on = agrees me me1 me2 stripe a.history y holds1 same r

  pub same_there : part_of me.0.setup.bounds stripe r.history
      ≡ part_of me.0.setup.bounds stripe a.history
  same_there = agrees_on stripe (held_itself stripe (holds_of me.0))

  begins_on_ : BeginsWith r.history (seen_of me.0)
  begins_on_ = subst (λ (m : At). BeginsWith r.history (seen_of m.0)) same r.begins

  legal_on : IsLegal me.0.setup.config me.0.setup.seats r.history
  legal_on = subst (λ (m : At). IsLegal m.0.setup.config m.0.setup.seats r.history) same r.legal

  own_on : own_count (number_of me.0) r.history ≡ count_of me.0
  own_on = subst (λ (m : At). own_count (number_of m.0) r.history ≡ count_of m.0) same r.own

  pub can_release_on : IsStripe me.0 stripe → IsStateOn me.0.setup stripe a.history y.value.cache
      → CanRelease me2 stripe y
  can_release_on is stands = can_release me me2 stripe r.history y is holding_on
      (still_stands me.0.setup stripe a.history r.history y.value.cache same_there stands)

  pub reaches_on : (me3 : At) (holds : History → Type 0) → 0 < length (holds_of me.0)
      → me3 ≡ (with_state me2.0 (released (state_in me2.0)), rest me2.1) → holds r.history
      → ReachesOn me me3 holds
  reaches_on me3 holds some then' found = reaches_released me me2 me3 stripe a.history r.history y
      holds some holding_on a.unchanged agrees_on begins_on_ legal_on own_on then' found

  pub looked_on : (me3 : At) (holds : History → Type 0) → IsAtRest me
      → me3 ≡ (with_state me2.0 (released_seen (state_in me2.0)), rest me2.1) → holds r.history
      → HasLooked me me3 holds
  looked_on me3 holds rested then' found = looked_is me me2 me3 stripe r.history y holds rested
      holding_on begins_on_ legal_on own_on then' found

  pub back_at_rest : (me3 : At) → IsAtRest me
      → me3 ≡ (with_state me2.0 (released (state_in me2.0)), rest me2.1) → me3 ≡ me
  back_at_rest me3 rested then' =
      released_is me me2 me3 stripe r.history y rested holding_on then'
