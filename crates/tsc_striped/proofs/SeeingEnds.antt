-- The end is seen by a load, where one participant keeps the states of all seats.
use Rattle.std.proofs.Common.{◌≡◌, ◌⊎◌, ◌∙◌, inl, inr, refl, sym, ap, subst, true, ℕ, zero, suc}
use Rattle.std.proofs.Common.{◌+◌, ◌-◌, ◌<◌, ◌≤◌, List, [], ◌∷◌, ◌++◌, length, map, arith, set, All}
use mathlib.Core.Option as maybe
use mathlib.Core.Option.{some-injective, some-ne-none}
use lib.ListN.{get_elem?}
use lib.Seq.{set-get_or}
use Rattle.atomic_table.specs.Table.{State, Step, Allows, keeps as act_keeps}
use Rattle.atomic_table.proofs.Lists.{set_again}
use Rattle.std.proofs.lemmas.List.{length_push}
use Rattle.tsc_cache.specs.CacheView.{CacheView}
use Rattle.tsc_cache.specs.History.{History}
use Rattle.tsc_stripe_table.specs.declared.table.SeatState.{SeatState}
use Rattle.tsc_stripe_table.specs.declared.table.Knowledge.{Knowledge}
use Rattle.tsc_stripe_table.specs.Stripes.{Terms, stripe_count, IsStateOn}
use Rattle.tsc_stripe_table.specs.Rule.{StoredStripe, StripesRule, keeping}
use Rattle.tsc_stripe_table.specs.Steps.{At}
use Rattle.tsc_stripe_table.specs.Participating.{Participant}
use Rattle.tsc_stripe_table.proofs.Endings.{each_there, lock_is_free}
use Rattle.tsc_striped.specs.Seats.{StripedView, SeatView}
use Rattle.tsc_striped.specs.Keeping.{cache_of, seat_view, striped_view, state_of_seat}
use Rattle.tsc_striped.specs.Retiring.{KeepsAll, EndsAs, sees_end}
use Rattle.tsc_striped.proofs.Endings.{all_states, all_gathered, none_held}

abbrev Board : Type 0
Board = State StoredStripe Knowledge

-- a list with a cache for each of the first stripes
record Stand (setup : Terms) (history : History) (n : ℕ) : Type 0 where
  caches : List CacheView
  count : length caches ≡ n
  stands : (stripe : ℕ) (cache : CacheView) → get_elem? caches stripe ≡ maybe.some cache
      → IsStateOn setup stripe history cache

-- what stands in a list with one more: what stood there, or the last
at_end : (l : List CacheView) (a : CacheView) (j : ℕ) (b : CacheView)
    → get_elem? (l ++ a ∷ []) j ≡ maybe.some b
    → (get_elem? l j ≡ maybe.some b) ⊎ ((j ≡ length l) × (a ≡ b))
at_end [] a zero b e = inr (refl, some-injective a b e)
at_end [] a (suc j) b e = absurd (some-ne-none b (sym e))
at_end (x ∷ xs) a zero b e = inl e
at_end (x ∷ xs) a (suc j) b e = elim (at_end xs a j b e) [
  | inl old ↦ inl old
  | inr last ↦ inr (ap suc last.0, last.1)
]

stand : (setup : Terms) (history : History) (n : ℕ)
    → ((i : ℕ) → i < n → (cache : CacheView) × IsStateOn setup i history cache)
    → Stand setup history n
stand setup history zero at = record {
  caches = [];
  count = refl;
  stands = λ i cache e. absurd (some-ne-none cache (sym e));
}
stand setup history (suc n) at =
    let less = stand setup history n (λ i low. at i (omega (arith, low))) in
    let last = at n (omega arith) in
    record {
      caches = less.caches ++ last.0 ∷ [];
      count = omega (arith, length_push less.caches last.0, less.count);
      stands = λ i cache e. elim (at_end less.caches last.0 i cache e) [
        | inl old ↦ less.stands i cache old
        | inr here ↦ subst (λ (c : CacheView). IsStateOn setup i history c) here.1
            (subst (λ (k : ℕ). IsStateOn setup k history last.0)
            (sym (here.0 ∙ less.count)) last.1)
      ];
    }

end_in : (setup : Terms) (s : Board) (k : StripesRule setup s) (id : ℕ) (v : Knowledge)
    → get_elem? s.views id ≡ maybe.some v → v.setup ≡ setup → KeepsAll v → EndsAs v.setup v.states
end_in setup s k id v at same keeps =
    let long : length v.states ≡ setup.seats = keeps.all ∙ ap (λ (t : Terms). t.seats) same in
    let all = stand setup k.history (stripe_count setup.bounds) (λ i low.
    let here = k.homes i low (lock_is_free setup s k id v i at (keeps.none i) long) in
    (here.0.value.cache, here.2)) in
    subst (λ (t : Terms). EndsAs t v.states) (sym same) (record {
      caches = all.caches;
      end_is = record {
        each = each_there setup s k id v at long;
        history = k.history;
        legal = k.legal;
        count = all.count;
        stands = all.stands;
        fits = λ i p e. let f = (k.views id v at).states i p e in record {
          begins = f.begins;
          own = f.own;
        };
      };
    })

pub end_allowed : (setup : Terms) (slots : ℕ) (st : Step StoredStripe) (id i : ℕ) (me : At)
    → Allows (StripesRule setup) slots id me i (λ n. n) (sees_end st me)
end_allowed setup slots st id i me s k deep at small = (
  me.0,
  act_keeps,
  tt,
  subst (λ (ws : List ℕ). StripesRule setup
      (record { words = ws; homes = s.homes; views = set s.views id me.0 }))
      (sym (set-get_or s.words i 0))
      (subst (λ (vs : List Knowledge). StripesRule setup
      (record { words = s.words; homes = s.homes; views = vs })) (sym (set_again s.views id me.0 at))
      k),
  (λ keeps. end_in setup s k id me.0 at ((k.views id me.0 at).settled keeps.live) keeps),
)

-- what was merged to a seat's participant is of its cache
pub merged_cache : (new p : Participant) (seat : SeatView) (cache : StripedView)
    → new.table_id ≡ p.table_id → new.me.0.setup ≡ p.me.0.setup → seat_view p ≡ seat
    → seat.cache ≡ cache → cache_of new ≡ cache
merged_cache new p seat cache table setup is its =
    (λ i. striped_view (table i) (setup i)) ∙ ap (λ (s : SeatView). s.cache) is ∙ its

-- the participant at which all seats of a cache were gathered keeps all states
pub keeps_all : (all : Participant) (seats : List SeatView) (others : List SeatState) (dealt n : ℕ)
    → all.me.0 ≡ keeping all.me.0.setup (map state_of_seat seats ++ others)
    → all.me.0.states ≡ all_states seats dealt (n - dealt)
    → length seats ≡ dealt → dealt ≤ n → n ≡ all.me.0.setup.seats → KeepsAll all.me.0
keeps_all all seats others dealt n is states long some same = record {
  live = ap (λ (v : Knowledge). v.live) is;
  none = λ stripe. none_held stripe all.me.0 seats dealt (n - dealt) states;
  all = all_gathered all.me.0.states seats dealt n states long some ∙ same;
}

-- seats of one cache are of another that is the same
pub its_own : (seats : List SeatView) (own cache : StripedView) → own ≡ cache
    → All (λ (seat : SeatView). seat.cache ≡ cache) seats
    → All (λ (seat : SeatView). seat.cache ≡ own) seats
its_own seats own cache same all =
    subst (λ (c : StripedView). All (λ (seat : SeatView). seat.cache ≡ c) seats) (sym same) all
