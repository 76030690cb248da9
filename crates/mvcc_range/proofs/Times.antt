-- The earliest time that is free for writes.
use Rattle.std.proofs.Common.{◌≡◌, sym, subst, ℕ, ◌+◌, ◌<◌, ◌≤◌, take, List, [], ◌∷◌, ◌++◌, length, get_or, true, false, Some, None, Option}
use Rattle.std.specs.List.{All, AllByRecursion}
use Rattle.std.proofs.lemmas.List.{take_all}
use Rattle.std.proofs.lemmas.List.Elements.{All-from_recursion, recursion_from_All, All-take}
use Rattle.tsc_time.proofs.TimeOrder.{is_before-itself}
use Rattle.timestamp_cache.specs.Words.{Time, is_in_range, is_before, Owner, point, CacheView, cache_answer}
use Rattle.timestamp_cache.specs.Clear.{IsClearOf}
use Rattle.timestamp_cache.specs.Earliest.{IsEarliest, ReportsEarliest}
use Rattle.timestamp_cache.proofs.Earliest.{one_more, none_more, clear_later}
use Rattle.mvcc_versions.specs.Versions.{Chains, chain_of, Write, newest_time, IsAfter}
use Rattle.mvcc_versions.proofs.Lists.{more}
use Rattle.mvcc_versions.proofs.Times.{after_stays}
use Rattle.mvcc_range.specs.Steps.{IsFreeOf, IsFree}

-- ---- one key

-- what is free of a key's last write and reads stays so
free_stays : (cache : CacheView) (chains : Chains) (by : Owner) (w : Write) (t u : Time)
    → is_before u t ≡ false → IsFreeOf cache chains by w t → IsFreeOf cache chains by w u
free_stays cache chains by w t u on free = (
  after_stays (newest_time (chain_of chains w.key)) t u on free.0,
  clear_later (cache_answer cache (point w.key)) by t u on free.1,
)

-- The earliest time after a key's last write, and from that on the earliest that is clear of its
-- reads, is the earliest that is free of both.
pub free_of : (cache : CacheView) (chains : Chains) (by : Owner) (w : Write) (from after : Time)
    (reported : Option Time) → IsEarliest (IsAfter (newest_time (chain_of chains w.key))) from after
    → ReportsEarliest (λ t. IsClearOf (cache_answer cache (point w.key)) by t) after reported
    → ReportsEarliest (IsFreeOf cache chains by w) from reported
free_of cache chains by w from after None first second =
    none_more (IsAfter (newest_time (chain_of chains w.key)))
    (λ t. IsClearOf (cache_answer cache (point w.key)) by t) (IsFreeOf cache chains by w) from after
    (λ t free. free) first second
free_of cache chains by w from after (Some at) first second =
    one_more (IsAfter (newest_time (chain_of chains w.key)))
    (λ t. IsClearOf (cache_answer cache (point w.key)) by t) (IsFreeOf cache chains by w) from after
    at (λ t u on. after_stays (newest_time (chain_of chains w.key)) t u on) (λ t a b. (a, b))
    (λ t free. free) first second

-- ---- key by key

-- free of each key that is written
abbrev pub AreFreeOf : CacheView → Chains → Owner → List Write → Time → Type 0
AreFreeOf cache chains by ws t = AllByRecursion (λ w. IsFreeOf cache chains by w t) ws

all_stay : (cache : CacheView) (chains : Chains) (by : Owner) (ws : List Write) (t u : Time)
    → is_before u t ≡ false → AreFreeOf cache chains by ws t → AreFreeOf cache chains by ws u
all_stay cache chains by [] t u on free = tt
all_stay cache chains by (w ∷ ws) t u on free = (
  free_stays cache chains by w t u on free.0,
  all_stay cache chains by ws t u on free.1,
)

push : {A : Type 0} (P : A → Type 0) (xs : List A) (x : A) → AllByRecursion P xs → P x
    → AllByRecursion P (xs ++ x ∷ [])
push P [] x all one = (one, tt)
push P (y ∷ ys) x all one = (all.0, push P ys x all.1 one)

pop : {A : Type 0} (P : A → Type 0) (xs : List A) (x : A) → AllByRecursion P (xs ++ x ∷ [])
    → AllByRecursion P xs × P x
pop P [] x all = (tt, all.0)
pop P (y ∷ ys) x all = let rest = pop P ys x all.1 in ((all.0, rest.0), rest.1)

pub none_yet : (cache : CacheView) (chains : Chains) (by : Owner) (ws : List Write) (from : Time)
    → is_in_range from ≡ true
    → IsEarliest (AreFreeOf cache chains by (take 0 ws)) from from
none_yet cache chains by ws from range = record {
  in_range = range;
  from_on = is_before-itself from;
  holds = tt;
  least = λ t _ on _. on;
}

pub one_more_key : (cache : CacheView) (chains : Chains) (by : Owner) (ws : List Write) (i : ℕ)
    (w : Write) (from at next : Time) → i < length ws → get_or ws i w ≡ w
    → IsEarliest (AreFreeOf cache chains by (take i ws)) from at
    → IsEarliest (IsFreeOf cache chains by w) at next
    → IsEarliest (AreFreeOf cache chains by (take (i + 1) ws)) from next
one_more_key cache chains by ws i w from at next below is so_far one =
    one_more (AreFreeOf cache chains by (take i ws)) (IsFreeOf cache chains by w)
    (AreFreeOf cache chains by (take (i + 1) ws)) from at next
    (λ t u on. all_stay cache chains by (take i ws) t u on)
    (λ t all own. subst (λ (xs : List Write). AreFreeOf cache chains by xs t)
    (sym (more ws i w below is)) (push (λ (x : Write). IsFreeOf cache chains by x t) (take i ws) w
    all own))
    (λ t all. pop (λ (x : Write). IsFreeOf cache chains by x t) (take i ws) w
    (subst (λ (xs : List Write). AreFreeOf cache chains by xs t) (more ws i w below is) all)) so_far
    one

-- ---- all keys

first_of : (cache : CacheView) (chains : Chains) (by : Owner) (ws : List Write) (t : Time)
    → AreFreeOf cache chains by ws t
    → AllByRecursion (λ w. IsAfter (newest_time (chain_of chains w.key)) t) ws
first_of cache chains by [] t all = tt
first_of cache chains by (w ∷ ws) t all = (all.0.0, first_of cache chains by ws t all.1)

second_of : (cache : CacheView) (chains : Chains) (by : Owner) (ws : List Write) (t : Time)
    → AreFreeOf cache chains by ws t
    → AllByRecursion (λ w. IsClearOf (cache_answer cache (point w.key)) by t) ws
second_of cache chains by [] t all = tt
second_of cache chains by (w ∷ ws) t all = (all.0.1, second_of cache chains by ws t all.1)

both_of : (cache : CacheView) (chains : Chains) (by : Owner) (ws : List Write) (t : Time)
    → AllByRecursion (λ w. IsAfter (newest_time (chain_of chains w.key)) t) ws
    → AllByRecursion (λ w. IsClearOf (cache_answer cache (point w.key)) by t) ws
    → AreFreeOf cache chains by ws t
both_of cache chains by [] t a b = tt
both_of cache chains by (w ∷ ws) t a b = ((a.0, b.0), both_of cache chains by ws t a.1 b.1)

-- What is free of each key is free for the writes, and the other way round.
free_for : (cache : CacheView) (chains : Chains) (by : Owner) (ws : List Write) (t : Time)
    → AreFreeOf cache chains by ws t → IsFree cache chains by ws t
free_for cache chains by ws t all = record {
  after = first_of cache chains by ws t all;
  clear = All-from_recursion (λ (w : Write). IsClearOf (cache_answer cache (point w.key)) by t) ws
      (second_of cache chains by ws t all);
}

of_each : (cache : CacheView) (chains : Chains) (by : Owner) (ws : List Write) (t : Time)
    → IsFree cache chains by ws t → AreFreeOf cache chains by ws t
of_each cache chains by ws t free = both_of cache chains by ws t free.after
    (recursion_from_All (λ (w : Write). IsClearOf (cache_answer cache (point w.key)) by t) ws
    free.clear)

pub no_more_keys : (cache : CacheView) (chains : Chains) (by : Owner) (ws : List Write) (i : ℕ)
    (w : Write) (from at : Time) → i < length ws → get_or ws i w ≡ w
    → IsEarliest (AreFreeOf cache chains by (take i ws)) from at
    → ReportsEarliest (IsFreeOf cache chains by w) at None
    → ReportsEarliest (IsFree cache chains by ws) from None
no_more_keys cache chains by ws i w from at below is so_far none =
    none_more (AreFreeOf cache chains by (take i ws)) (IsFreeOf cache chains by w)
    (IsFree cache chains by ws) from at
    (λ t free. let P : Write → Type 0 = λ (x : Write). IsFreeOf cache chains by x t in
    let each : All P ws = All-from_recursion P ws (of_each cache chains by ws t free) in (
      recursion_from_All P (take i ws) (All-take P i ws each),
      subst P is (each i w below),
    )) so_far none

pub all_keys : (cache : CacheView) (chains : Chains) (by : Owner) (ws : List Write) (i : ℕ)
    (from at : Time) → length ws ≤ i → IsEarliest (AreFreeOf cache chains by (take i ws)) from at
    → ReportsEarliest (IsFree cache chains by ws) from (Some at)
all_keys cache chains by ws i from at past so_far =
    let all : IsEarliest (AreFreeOf cache chains by ws) from at =
    subst (λ (xs : List Write). IsEarliest (AreFreeOf cache chains by xs) from at)
    (take_all i ws past) so_far in
    record {
      in_range = all.in_range;
      from_on = all.from_on;
      holds = free_for cache chains by ws at all.holds;
      least = λ t there on free. all.least t there on (of_each cache chains by ws t free);
    }
