-- The end is seen by a load, where one participant keeps the states of all seats.
use Rattle.std.proofs.Common.{◌≡◌, ◌∙◌, sym, ap, subst, ℕ, ◌<◌, List, length}
use Rattle.std.proofs.Common.{map, arith, set}
use Rattle.std.specs.List.{sum_by}
use mathlib.Core.Option as maybe
use lib.ListN.{get_elem?}
use lib.Seq.{set-get_or}
use Rattle.atomic_table.specs.Table.{State, Step, Allows, keeps as act_keeps}
use Rattle.atomic_table.proofs.Lists.{set_again}
use Rattle.std.proofs.lemmas.List.{length-map}
use Rattle.tsc_cache.specs.CacheView.{CacheView}
use Rattle.tsc_cache.specs.Counts.{up_to_end}
use Rattle.tsc_left_right.specs.declared.table.Slot.{Slot}
use Rattle.tsc_left_right.specs.Rule.{LeftRightRule, holders, keeping}
use Rattle.tsc_left_right.proofs.Endings.{each_there, nobody_holds}
use Rattle.tsc_shared.specs.declared.adds.UnappliedAdd.{UnappliedAdd}
use Rattle.tsc_shared.specs.Caches.{At, Knowledge, Participant, Setup, caches}
use Rattle.tsc_shared.specs.Seats.{SharedView, SeatView}
use Rattle.tsc_shared.specs.Keeping.{cache_of, state_of_seat}
use Rattle.tsc_shared.specs.Retiring.{KeepsAll, EndsAs, sees_end}
use Rattle.tsc_shared.specs.Answers.{Closes, Retires}
use Rattle.tsc_shared.proofs.Endings.{nobody_in, terms_of, closes}

abbrev Board : Type 0
Board = State (Slot CacheView UnappliedAdd) Knowledge

end_in : (setup : Setup) (s : Board) (k : LeftRightRule caches setup s) (id : ℕ) (v : Knowledge)
    → get_elem? s.views id ≡ maybe.some v → v.setup ≡ setup → KeepsAll v → EndsAs v.setup v.states
end_in setup s k id v at same keeps =
    let long : length v.states ≡ setup.seats = keeps.all ∙ ap (λ (t : Setup). t.seats) same in
    let here = k.free (nobody_holds caches setup s k id v at keeps.none long) in
    subst (λ (t : Setup). EndsAs t v.states) (sym same) (record {
      state = here.0.value;
      end_is = record {
        each = each_there caches setup s k id v at long;
        history = k.g.history;
        head = k.g.head;
        legal = k.legal;
        is_after = here.2;
        fits = λ i p e. let f = (k.views id v at).states i p e in record {
          begins = f.begins;
          own = f.own;
        };
      };
      limit = k.limit;
    })

pub end_allowed : (setup : Setup) (slots : ℕ) (st : Step (Slot CacheView UnappliedAdd)) (id i : ℕ)
    (me : At) → Allows (LeftRightRule caches setup) slots id me i (λ n. n) (sees_end st me)
end_allowed setup slots st id i me s k deep at small = (
  me.0,
  act_keeps,
  tt,
  subst (λ (ws : List ℕ). LeftRightRule caches setup
      (record { words = ws; homes = s.homes; views = set s.views id me.0 }))
      (sym (set-get_or s.words i 0))
      (subst (λ (vs : List Knowledge). LeftRightRule caches setup
      (record { words = s.words; homes = s.homes; views = vs })) (sym (set_again s.views id me.0 at))
      k),
  (λ keeps. end_in setup s k id me.0 at ((k.views id me.0 at).settled keeps.live) keeps),
)

-- the participant at which all seats of a cache were gathered keeps all states
pub keeps_all : (all : Participant) (cache : SharedView) (seats : List SeatView)
    → all.me.0 ≡ keeping all.me.0.setup (map state_of_seat seats) → cache_of all ≡ cache
    → length seats ≡ cache.seats → KeepsAll all.me.0
keeps_all all cache seats is same long = record {
  live = ap (λ (v : Knowledge). v.live) is;
  none = ap holders is ∙ nobody_in seats;
  all = ap (λ (v : Knowledge). length v.states) is ∙ length-map seats state_of_seat ∙ long
      ∙ ap (λ (c : SharedView). c.seats) (sym same);
}

-- the setup of a participant of a cache
setup_of : (all : Participant) (cache : SharedView) → cache_of all ≡ cache
    → all.me.0.setup ≡ terms_of cache
setup_of all cache same = ap terms_of same

-- All seats of a cache are retired. Their counts come to what is told.
pub retires : (all : Participant) (cache : SharedView) (seats : List SeatView) (adds most : ℕ)
    → all.me.0 ≡ keeping all.me.0.setup (map state_of_seat seats) → cache_of all ≡ cache
    → adds ≡ up_to_end (sum_by (λ (s : SeatView). s.count) seats) → cache.limit ≡ most
    → most < 18446744073709551616 → EndsAs all.me.0.setup all.me.0.states
    → Retires cache seats adds
retires all cache seats adds most is same counted limit small ends =
    let done : Closes cache seats (record {
      cache = ends.state.copies.active;
      adds = ends.state.length;
    }) = closes cache seats all.me.0.states all.me.0.setup ends.state
    (ap (λ (v : Knowledge). v.states) is) (setup_of all cache same) ends.end_is in
    let long : ends.state.length ≡ length ends.end_is.history = ends.end_is.is_after.length in
    let most_is : all.me.0.setup.limit ≡ most = ap (λ (t : Setup). t.limit)
    (setup_of all cache same) ∙ limit in (
      record { cache = ends.state.copies.active; adds = ends.state.length },
      done,
      counted ∙ ap up_to_end done.counted
          ∙ below_end ends.state.length (omega (arith, long, ends.limit, most_is, small)),
    )
  where
    below_end : (n : ℕ) → n < 18446744073709551616 → up_to_end n ≡ n
    below_end n low = omega (arith, low)
