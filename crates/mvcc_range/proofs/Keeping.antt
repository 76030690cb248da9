-- What stays so, whatever calls are made of a range, and the laws that follow.
use Rattle.std.proofs.Common.{◌≡◌, ◌∙◌, ap, sym, refl, subst, inl, inr, List, [], ◌∷◌, ◌++◌, map, Bool, true, false, not, if◌then◌else◌, Some, None}
use Rattle.std.specs.List.{AllByRecursion, Contains}
use Rattle.std.proofs.lemmas.Bool.{cases_Bool, both_ways}
use Rattle.std.proofs.lemmas.List.Elements.{
  All-from_recursion,
  recursion_from_All,
  All-contains,
}
use Rattle.tsc_time.proofs.TimeOrder.{is_before-itself, is_before-opposite, no_earlier-transitive}
use Rattle.tsc_time.proofs.RatchetOrder.{IsAtMost-itself, IsAtMost-transitive}
use Rattle.tsc_time.proofs.Members.{IsIn, Contains-from_IsIn}
use Rattle.tsc_span.specs.Span.{covers}
use Rattle.tsc_span.proofs.Overlaps.{covers_as_it_overlaps}
use Rattle.tsc_cache.proofs.Histories.{clear_below}
use Rattle.tsc_cache.specs.CacheView.{StandsAfterAll}
use Rattle.timestamp_cache.proofs.Rising.{answers_rise, stands_longer}
use Rattle.tsc_cache.proofs.StatesSeen.{answers_look}
use Rattle.timestamp_cache.specs.Words.{Time, is_before, Owner, ValueView, owner_of, IsAtMost, KeyBytes, SpanView, point, Mark, ConfigView, CacheView, RepresentsState, History, state_of, cache_answer}
use Rattle.timestamp_cache.specs.Clear.{IsClearOf}
use Rattle.uuid.specs.Parts.{is_nil_bytes}
use Rattle.mvcc_versions.specs.Versions.{
  is_written,
  Content,
  Chains,
  chain_of,
  Version,
  Write,
  Read,
  after_writes,
  content_as_of,
  as_of,
  stored,
  newest_time,
  IsAfter,
  Matches,
}
use Rattle.mvcc_range.specs.Serial.{Transaction, empty, IsSerial, serial_order}
use Rattle.mvcc_range.specs.Steps.{
  RangeView,
  mark_of,
  IsSame,
  Answers,
  MayCommit,
  Commits,
  HandsOn,
  Collects,
  Answered,
  Execution,
  opened,
  answers,
  commits,
  stays,
  hands_on,
  collects,
}
use Rattle.mvcc_range.specs.Laws.{Serializable, HasNotWritten, Repeatable, Unpushed}
use Rattle.mvcc_versions.proofs.Lists.{each}
use Rattle.mvcc_range.proofs.Placing.{
  any,
  of_written,
  not_written,
  same_or,
  found,
  upto,
  always,
  as_of_found,
  newest_found,
  found_stored,
  content_after,
  all_leave,
  ordered,
  each_in_order,
  content_placed,
  matches_same,
  AreUndisturbed,
  serial_placed,
  all_stored,
}
use Rattle.mvcc_range.proofs.Collecting.{
  AgreesFrom,
  upto_passes,
  later_on,
  agrees_itself,
  agrees_stored,
  found_kept,
  agrees_kept,
  kept_newest_first,
  all_from_kept,
}
use Rattle.mvcc_range.proofs.Storing.{
  AreNewestFirst,
  later_than_all,
  stored_newest_first,
  stored_parts,
  each_stored,
}

-- To each key of a span that a read covers, a cache answers no less than the read.
abbrev pub IsGuarded : SpanView → CacheView → Time → Owner → Read → Type 0
IsGuarded span cache at by read = (k : KeyBytes) → covers span k ≡ true → covers read.span k ≡ true
    → IsAtMost (mark_of at by read).value (cache_answer cache (point k))

-- The reads of each transaction that committed are guarded at the time at which it committed.
abbrev pub AreGuarded : SpanView → CacheView → List Transaction → Type 0
AreGuarded span cache committed =
    AllByRecursion (λ (u : Transaction). AllByRecursion
    (λ (r : Read). IsGuarded span cache u.at u.by r) u.reads) committed

-- A read is what is there as of its time, where the range answers that, and unless its own
-- transaction wrote then.
abbrev pub IsStillSo : RangeView → Answered → Type 0
IsStillSo range a = is_before a.at range.threshold ≡ false → HasNotWritten a.by a.at range.chains
    → Matches a.read (as_of a.at range.chains)

-- A read that was answered is guarded, and still so.
abbrev pub IsKept : RangeView → Answered → Type 0
IsKept range a = IsGuarded range.span range.cache a.at a.by a.read × IsStillSo range a

-- What stays so of a range.
pub record Keeps (range : RangeView) (answered : List Answered)
    (committed : List Transaction) : Type 0 where
  pub config : ConfigView
  pub history : History
  pub stands : RepresentsState range.cache config (state_of config history)
  pub agrees : (k : KeyBytes) → AgreesFrom range.threshold (chain_of range.chains k)
      (all_stored committed k)
  pub newest : (k : KeyBytes) → AreNewestFirst (chain_of range.chains k)
  pub all_newest : (k : KeyBytes) → AreNewestFirst (all_stored committed k)
  pub guarded : AreGuarded range.span range.cache committed
  pub found : (passes : Time → Bool) (k : KeyBytes) → found passes (all_stored committed k)
      ≡ content_after passes k None (serial_order committed)
  pub serial : IsSerial empty (serial_order committed)
  pub kept : AllByRecursion (IsKept range) answered

-- To no key of a span the one cache answers less than the other.
abbrev pub AnswersNoLess : SpanView → CacheView → CacheView → Type 0
AnswersNoLess span old new = (k : KeyBytes) → covers span k ≡ true
    → IsAtMost (cache_answer old (point k)) (cache_answer new (point k))

guarded_on : (span : SpanView) (old new : CacheView) (committed : List Transaction)
    → AnswersNoLess span old new → AreGuarded span old committed → AreGuarded span new committed
guarded_on span old new committed less guarded =
    each (λ (u : Transaction). AllByRecursion (λ (r : Read). IsGuarded span old u.at u.by r)
    u.reads) (λ (u : Transaction). AllByRecursion (λ (r : Read). IsGuarded span new u.at u.by r)
    u.reads) committed
    (λ u all. each (λ (r : Read). IsGuarded span old u.at u.by r)
    (λ (r : Read). IsGuarded span new u.at u.by r) u.reads
    (λ r g k s c. IsAtMost-transitive (mark_of u.at u.by r).value (cache_answer old (point k))
    (cache_answer new (point k)) (g k s c) (less k s)) all) guarded

-- ---- the cache's history

-- with one entry more
abbrev more : History → List Mark → Time → History
more h ms now = h ++ (record { seat = 0; number = 0; marks = ms; now = now }) ∷ []

-- A cache to which more is added answers no less.
no_less : (span : SpanView) (old new : CacheView) (config : ConfigView) (h : History)
    (ms : List Mark) (now : Time) → RepresentsState old config (state_of config h)
    → StandsAfterAll old new ms now → AnswersNoLess span old new
no_less span old new config h ms now was adds k s =
    answers_rise.no_less old new config h ms now (point k) was adds

-- and the reads that were added are guarded
guards_added : (span : SpanView) (old new : CacheView) (config : ConfigView) (h : History)
    (at : Time) (by : Owner) (reads all : List Read) (now : Time)
    → ((r : Read) → IsIn reads r → IsIn all r) → RepresentsState old config (state_of config h)
    → StandsAfterAll old new (map (mark_of at by) all) now
    → AllByRecursion (λ (r : Read). IsGuarded span new at by r) reads
guards_added span old new config h at by [] all now among was adds = tt
guards_added span old new config h at by (r ∷ reads) all now among was adds = (
  λ k s c. answers_rise.kept old new config h (map (mark_of at by) all) now (mark_of at by r)
      (point k) was adds
      (Contains-from_IsIn (map (mark_of at by) all) (mark_of at by r)
      (mapped all r (among r (inl refl)))) (sym (covers_as_it_overlaps r.span k) ∙ c),
  guards_added span old new config h at by reads all now (λ q i. among q (inr i)) was adds,
)
  where
    mapped : (qs : List Read) (q : Read) → IsIn qs q
        → IsIn (map (mark_of at by) qs) (mark_of at by q)
    mapped [] q i = absurd i
    mapped (p ∷ qs) q i = elim i [
      | inl same ↦ inl (ap (mark_of at by) same)
      | inr j ↦ inr (mapped qs q j)
    ]

-- ---- a transaction that may commit

-- It writes no key that a later one wrote,
apart_writes : (range : RangeView) (committed : List Transaction) (t : Transaction)
    → ((k : KeyBytes) → AgreesFrom range.threshold (chain_of range.chains k)
    (all_stored committed k))
    → ((k : KeyBytes) → AreNewestFirst (all_stored committed k)) → MayCommit range t →
    (k : KeyBytes)
    → AllByRecursion (λ (u : Transaction). is_before t.at u.at ≡ true → is_written k t.writes ≡ true
    → is_written k u.writes ≡ false) committed
apart_writes range committed t agrees newest may k = elim (cases_Bool (is_written k t.writes)) [
  | inr n ↦ any (λ (u : Transaction). is_before t.at u.at ≡ true → is_written k t.writes ≡ true
      → is_written k u.writes ≡ false) committed
      (λ u b w. absurd (both_ways (is_written k t.writes) n w))
  | inl h ↦ let after : IsAfter (newest_time (chain_of range.chains k)) t.at =
      of_written (λ (q : KeyBytes). IsAfter (newest_time (chain_of range.chains q)) t.at) t.writes k
      may.free.after h in
      let all : AllByRecursion (λ (v : Version). is_before v.at t.at ≡ true)
      (all_stored committed k) = later_than_all t.at (all_stored committed k) (newest k)
      ((agrees k).after t.at may.in_time after) in
      each (λ (u : Transaction). is_written k u.writes ≡ true → is_before u.at t.at ≡ true)
      (λ (u : Transaction). is_before t.at u.at ≡ true → is_written k t.writes ≡ true
      → is_written k u.writes ≡ false) committed
      (λ u earlier later x. elim (cases_Bool (is_written k u.writes)) [
        | inr n ↦ n
        | inl w ↦ absurd (both_ways (is_before u.at t.at) (is_before-opposite t.at u.at later)
            (earlier w))
      ])
      (each_stored (λ (u : Time) (by : Owner). is_before u t.at ≡ true) k committed all)
]

-- what is clear of an answer is clear of a read that is guarded
clear_of_read : (range : RangeView) (t : Transaction) (at : Time) (by : Owner) (read : Read)
    (k : KeyBytes) → MayCommit range t → IsGuarded range.span range.cache at by read
    → covers read.span k ≡ true → is_written k t.writes ≡ true
    → IsClearOf (mark_of at by read).value t.by t.at
clear_of_read range t at by read k may guard c w =
    let within : covers range.span k ≡ true =
    of_written (λ (q : KeyBytes). covers range.span q ≡ true) t.writes k
    (recursion_from_All (λ (x : Write). covers range.span x.key ≡ true) t.writes may.within)
    w in
    clear_below (mark_of at by read).value (cache_answer range.cache (point k)) t.by t.at
    (guard k within c)
    (of_written (λ (q : KeyBytes). IsClearOf (cache_answer range.cache (point q)) t.by t.at)
    t.writes k
    (recursion_from_All (λ (x : Write). IsClearOf (cache_answer range.cache (point x.key)) t.by
    t.at) t.writes may.free.clear) w)

-- and none that a later one read.
apart_reads : (range : RangeView) (committed : List Transaction) (t : Transaction)
    → AreGuarded range.span range.cache committed → MayCommit range t
    → AllByRecursion (λ (u : Transaction). is_before t.at u.at ≡ true
    → AreUndisturbed t.writes u.reads) committed
apart_reads range committed t guarded may =
    each (λ (u : Transaction). AllByRecursion
    (λ (r : Read). IsGuarded range.span range.cache u.at u.by r) u.reads)
    (λ (u : Transaction). is_before t.at u.at ≡ true
    → AreUndisturbed t.writes u.reads) committed
    (λ u all later. each (λ (r : Read). IsGuarded range.span range.cache u.at u.by r)
    (λ (r : Read). (k : KeyBytes) → is_written k t.writes ≡ true
    → covers r.span k ≡ false) u.reads
    (λ r guard k w. elim (cases_Bool (covers r.span k)) [
      | inr out ↦ out
      | inl c ↦ absurd (not_clear u later (clear_of_read range t u.at u.by r k may guard c w))
    ]) all) guarded
  where
    not_clear : (u : Transaction) → is_before t.at u.at ≡ true
        → IsClearOf (record { time = u.at; owner = owner_of u.by }) t.by t.at → ⊥
    not_clear u later (inl before) =
        both_ways (is_before u.at t.at) (is_before-opposite t.at u.at later) before
    not_clear u later (inr same) = both_ways (is_before u.at u.at) (is_before-itself u.at)
        (subst (λ (x : Time). is_before x u.at ≡ true) (sym same.0) later)

-- whoever owns a read that a UUID names
same_owner : (by own : Owner) → owner_of by ≡ Some own → by ≡ own
same_owner by own e = by_nil (is_nil_bytes by) e
  where
    by_nil : (b : Bool) → (if b then None else Some by) ≡ Some own → by ≡ own
    by_nil true f = absurd (let never : None ≡ Some own = f in cc)
    by_nil false f = let same : Some by ≡ Some own = f in cc

-- What it lays down doesn't change a guarded read, unless that is its own at that time.
kept_on : (old new : RangeView) (t : Transaction) (now : Time) (a : Answered)
    → AnswersNoLess old.span old.cache new.cache → Commits old new t now → IsKept old a
    → IsKept new a
kept_on old new t now a less c is = (
  λ k s x. let within : covers old.span k ≡ true =
      subst (λ (i : SpanView). covers i k ≡ true) c.does.span s in
      IsAtMost-transitive (mark_of a.at a.by a.read).value (cache_answer old.cache (point k))
      (cache_answer new.cache (point k)) (is.0 k within x) (less k within),
  λ on none. matches_same a.read (as_of a.at old.chains) (as_of a.at new.chains)
      (λ k x. sym (same k x (parts none k).1))
      (is.1 (subst (λ (x : Time). is_before a.at x ≡ false) c.does.threshold on)
      (λ k. (parts none k).0)),
)
  where
    Strange : Time → Owner → Type 0
    Strange u by = u ≡ a.at → by ≡ a.by → ⊥

    parts : HasNotWritten a.by a.at new.chains → (k : KeyBytes)
        → AllByRecursion (λ (v : Version). v.at ≡ a.at → v.by ≡ a.by → ⊥) (chain_of old.chains k)
        × (is_written k t.writes ≡ true → t.at ≡ a.at → t.by ≡ a.by → ⊥)
    parts none k = stored_parts (λ (u : Time) (by : Owner). u ≡ a.at → by ≡ a.by
        → ⊥) k t.at t.by t.writes (chain_of old.chains k)
        (subst (AllByRecursion (λ (v : Version). v.at ≡ a.at → v.by ≡ a.by → ⊥)) (c.does.chains k)
        (none k))

    later : (k : KeyBytes) → covers a.read.span k ≡ true → (is_written k t.writes ≡ true
        → t.at ≡ a.at → t.by ≡ a.by → ⊥) → is_written k t.writes ≡ true → is_before a.at t.at ≡ true
    later k x none w = elim (clear_of_read old t a.at a.by a.read k c.may is.0 x w) [
      | inl before ↦ before
      | inr own ↦ absurd (none w (sym own.0) (sym (same_owner a.by t.by own.1)))
    ]

    same : (k : KeyBytes) → covers a.read.span k ≡ true → (is_written k t.writes ≡ true
        → t.at ≡ a.at → t.by ≡ a.by → ⊥) → as_of a.at new.chains k ≡ as_of a.at old.chains k
    same k x none =
        as_of_found a.at (chain_of new.chains k)
        ∙ (ap (λ (vs : List Version). found (upto a.at) vs) (c.does.chains k)
        ∙ (found_stored (upto a.at) k t.at t.by t.writes (chain_of old.chains k)
        ∙ (unchanged ∙ sym (as_of_found a.at (chain_of old.chains k)))))
      where
        unchanged : (if upto a.at t.at then
            after_writes k (found (upto a.at) (chain_of old.chains k)) t.writes else
            found (upto a.at) (chain_of old.chains k)) ≡ found (upto a.at) (chain_of old.chains k)
        unchanged = elim (cases_Bool (is_written k t.writes)) [
          | inl w ↦ ap (λ (b : Bool). if not b then
              after_writes k (found (upto a.at) (chain_of old.chains k)) t.writes else
              found (upto a.at) (chain_of old.chains k)) (later k x none w)
          | inr n ↦
              same_or (upto a.at t.at)
              (after_writes k (found (upto a.at) (chain_of old.chains k)) t.writes)
              (found (upto a.at) (chain_of old.chains k))
              (not_written k (found (upto a.at) (chain_of old.chains k)) t.writes n)
        ]

-- ---- call by call

keeps_commits : (old new : RangeView) (answered : List Answered) (committed : List Transaction)
    (t : Transaction) (now : Time) → Keeps old answered committed → Commits old new t now
    → Keeps new answered (t ∷ committed)
keeps_commits old new answered committed t now k c =
    let config : ConfigView = k.config in
    let h : History = k.history in
    let ms : List Mark = map (mark_of t.at t.by) t.reads in
    let less : AnswersNoLess old.span old.cache new.cache =
    no_less old.span old.cache new.cache config h ms now k.stands c.does.remembered in
    record {
      config = config;
      history = more h ms now;
      stands = stands_longer old.cache new.cache config h ms now k.stands c.does.remembered;
      agrees = λ key. subst (λ (x : Time). AgreesFrom x (chain_of new.chains key)
          (stored key t.at t.by t.writes (all_stored committed key))) (sym c.does.threshold)
          (subst (λ (vs : List Version). AgreesFrom old.threshold vs (stored key t.at t.by t.writes
          (all_stored committed key))) (sym (c.does.chains key))
          (agrees_stored old.threshold key t.at t.by t.writes (chain_of old.chains key)
          (all_stored committed key) (k.agrees key)));
      newest = λ key. subst AreNewestFirst (sym (c.does.chains key))
          (stored_newest_first key t.at t.by t.writes (chain_of old.chains key)
          (λ w. of_written (λ (q : KeyBytes). IsAfter (newest_time (chain_of old.chains q)) t.at)
          t.writes key c.may.free.after w) (k.newest key));
      all_newest = λ key. stored_newest_first key t.at t.by t.writes (all_stored committed key)
          (λ w. (k.agrees key).after t.at c.may.in_time
          (of_written (λ (q : KeyBytes). IsAfter (newest_time (chain_of old.chains q)) t.at)
          t.writes key c.may.free.after w)) (k.all_newest key);
      guarded = (
        guards_added new.span old.cache new.cache config h t.at t.by t.reads t.reads now
            (λ r i. i) k.stands c.does.remembered,
        subst (λ (s : SpanView). AreGuarded s new.cache committed) (sym c.does.span)
            (guarded_on old.span old.cache new.cache committed less k.guarded),
      );
      found = λ passes key. found_stored passes key t.at t.by t.writes (all_stored committed key)
          ∙ (ap (λ (x : Content). if passes t.at then after_writes key x t.writes else
          x) (k.found passes key)
          ∙ sym (content_placed passes key t (serial_order committed) None (ordered committed)
          (each_in_order (λ (u : Transaction). is_before t.at u.at ≡ true → is_written key t.writes
          ≡ true → is_written key u.writes ≡ false) committed
          (apart_writes old committed t k.agrees k.all_newest c.may key))));
      serial = serial_placed t (serial_order committed) empty (ordered committed)
          (each_in_order (λ (u : Transaction). is_before t.at u.at ≡ true
          → AreUndisturbed t.writes u.reads) committed
          (apart_reads old committed t k.guarded c.may))
          (each (λ (r : Read). Matches r (as_of t.at old.chains))
          (λ (r : Read). Matches r (λ key. content_after (upto t.at) key None
          (serial_order committed))) t.reads
          (λ r m. matches_same r (as_of t.at old.chains) (λ key. content_after (upto t.at) key None
          (serial_order committed))
          (λ key x. as_of_found t.at (chain_of old.chains key)
          ∙ ((k.agrees key).found (upto t.at) (upto_passes t.at old.threshold c.may.in_time)
          ∙ k.found (upto t.at) key)) m)
          (recursion_from_All (λ (r : Read). Matches r (as_of t.at old.chains)) t.reads
          c.may.refreshed)) k.serial;
      kept = each (IsKept old) (IsKept new) answered (λ a is. kept_on old new t now a less c is)
          k.kept;
    }

-- The versions of each key are as before.
abbrev pub AreSameChains : Chains → Chains → Type 0
AreSameChains old new = (k : KeyBytes) → chain_of new k ≡ chain_of old k

same_chains : (old new : Chains) → new ≡ old → AreSameChains old new
same_chains old new same k = ap (λ (chains : Chains). chain_of chains k) same

-- a read stays so where the versions stay and no answer is less
kept_there : (old new : RangeView) (a : Answered) → AnswersNoLess old.span old.cache new.cache
    → new.span ≡ old.span → new.threshold ≡ old.threshold
    → AreSameChains old.chains new.chains → IsKept old a → IsKept new a
kept_there old new a less span threshold same is = (
  λ k s x. let within : covers old.span k ≡ true =
      subst (λ (i : SpanView). covers i k ≡ true) span s in
      IsAtMost-transitive (mark_of a.at a.by a.read).value (cache_answer old.cache (point k))
      (cache_answer new.cache (point k)) (is.0 k within x) (less k within),
  λ on none. matches_same a.read (as_of a.at old.chains) (as_of a.at new.chains)
      (λ k x. ap (content_as_of a.at) (sym (same k)))
      (is.1 (subst (λ (x : Time). is_before a.at x ≡ false) threshold on)
      (λ k. subst (AllByRecursion (λ (v : Version). v.at ≡ a.at → v.by ≡ a.by → ⊥)) (same k)
      (none k))),
)

-- and what a key keeps still agrees
agrees_there : (old new : RangeView) (committed : List Transaction) → new.threshold ≡ old.threshold
    → AreSameChains old.chains new.chains
    → ((k : KeyBytes) → AgreesFrom old.threshold (chain_of old.chains k) (all_stored committed k))
    → (k : KeyBytes) → AgreesFrom new.threshold (chain_of new.chains k) (all_stored committed k)
agrees_there old new committed threshold same agrees k =
    subst (λ (x : Time). AgreesFrom x (chain_of new.chains k) (all_stored committed k))
    (sym threshold)
    (subst (λ (vs : List Version). AgreesFrom old.threshold vs (all_stored committed k))
    (sym (same k)) (agrees k))

keeps_answers : (old new : RangeView) (answered : List Answered) (committed : List Transaction)
    (by : Owner) (at now : Time) (read : Read)
    → Keeps old answered committed → Answers old new by at now read
    → Keeps new ((record { by = by; at = at; read = read }) ∷ answered) committed
keeps_answers old new answered committed by at now read k a =
    let config : ConfigView = k.config in
    let h : History = k.history in
    let ms : List Mark = mark_of at by read ∷ [] in
    let adds : StandsAfterAll old.cache new.cache ms now =
    λ others s was. a.remembered others s was in
    let less : AnswersNoLess old.span old.cache new.cache =
    no_less old.span old.cache new.cache config h ms now k.stands adds in
    record {
      config = config;
      history = more h ms now;
      stands = stands_longer old.cache new.cache config h ms now k.stands adds;
      agrees = agrees_there old new committed a.threshold
          (same_chains old.chains new.chains a.chains) k.agrees;
      newest = λ key. subst (λ (chains : Chains). AreNewestFirst (chain_of chains key))
          (sym a.chains) (k.newest key);
      all_newest = k.all_newest;
      guarded = subst (λ (s : SpanView). AreGuarded s new.cache committed) (sym a.span)
          (guarded_on old.span old.cache new.cache committed less k.guarded);
      found = k.found;
      serial = k.serial;
      kept = (
        (
          (guards_added new.span old.cache new.cache config h at by (read ∷ []) (read ∷ []) now
              (λ r i. i) k.stands adds).0,
          λ on none. subst (λ (chains : Chains). Matches read (as_of at chains))
              (sym a.chains) a.matches,
        ),
        each (IsKept old) (IsKept new) answered
            (λ r is. kept_there old new r less a.span a.threshold
            (same_chains old.chains new.chains a.chains) is) k.kept,
      );
    }

-- a call that was refused
keeps_same : (old new : RangeView) (answered : List Answered) (committed : List Transaction)
    → Keeps old answered committed → IsSame old new → Keeps new answered committed
keeps_same old new answered committed k same =
    let less : AnswersNoLess old.span old.cache new.cache =
    λ key s. subst (λ (v : CacheView). IsAtMost (cache_answer old.cache (point key))
    (cache_answer v (point key))) (sym same.cache)
    (IsAtMost-itself (cache_answer old.cache (point key))) in
    record {
      config = k.config;
      history = k.history;
      stands = subst (λ (v : CacheView). RepresentsState v k.config
          (state_of k.config k.history)) (sym same.cache) k.stands;
      agrees = agrees_there old new committed same.threshold same.chains k.agrees;
      newest = λ key. subst AreNewestFirst (sym (same.chains key)) (k.newest key);
      all_newest = k.all_newest;
      guarded = subst (λ (s : SpanView). AreGuarded s new.cache committed) (sym same.span)
          (guarded_on old.span old.cache new.cache committed less k.guarded);
      found = k.found;
      serial = k.serial;
      kept = each (IsKept old) (IsKept new) answered
          (λ a is. kept_there old new a less same.span same.threshold same.chains is) k.kept;
    }

keeps_handing_on : (config : ConfigView) (old new : RangeView) (answered : List Answered)
    (committed : List Transaction) → Keeps old answered committed → HandsOn config old new
    → Keeps new answered committed
keeps_handing_on config old new answered committed k hands =
    let less : AnswersNoLess old.span old.cache new.cache =
    λ key s. subst (λ (v : ValueView). IsAtMost v (cache_answer new.cache (point key)))
    (sym (answers_look old.cache k.config (state_of k.config k.history) (point key) k.stands))
    (hands.takes_over.no_less k.config (state_of k.config k.history) key s k.stands) in
    record {
      config = config;
      history = hands.takes_over.history;
      stands = hands.takes_over.cache;
      agrees = agrees_there old new committed hands.threshold
          (same_chains old.chains new.chains hands.chains) k.agrees;
      newest = λ key. subst (λ (chains : Chains). AreNewestFirst (chain_of chains key))
          (sym hands.chains) (k.newest key);
      all_newest = k.all_newest;
      guarded = subst (λ (s : SpanView). AreGuarded s new.cache committed) (sym hands.span)
          (guarded_on old.span old.cache new.cache committed less k.guarded);
      found = k.found;
      serial = k.serial;
      kept = each (IsKept old) (IsKept new) answered
          (λ r is. kept_there old new r less hands.span hands.threshold
          (same_chains old.chains new.chains hands.chains) is) k.kept;
    }

-- the threshold sinks nowhere
grows : (old new : RangeView) (before : Time) → Collects old new before
    → is_before new.threshold old.threshold ≡ false
grows old new before c = subst (λ (x : Time). is_before x old.threshold ≡ false) (sym c.threshold)
    (later_on old.threshold before)

-- A read stays so where old versions are dropped, as long as the range answers it.
kept_collected : (old new : RangeView) (before : Time) (a : Answered)
    → ((k : KeyBytes) → AreNewestFirst (chain_of old.chains k)) → Collects old new before
    → IsKept old a → IsKept new a
kept_collected old new before a newest c is = (
  λ k s x. subst (λ (v : CacheView). IsAtMost (mark_of a.at a.by a.read).value
      (cache_answer v (point k))) (sym c.cache)
      (is.0 k (subst (λ (i : SpanView). covers i k ≡ true) c.span s) x),
  λ on none. matches_same a.read (as_of a.at old.chains) (as_of a.at new.chains)
      (λ k x. sym (same on k))
      (is.1 (no_earlier-transitive old.threshold new.threshold a.at (grows old new before c) on)
      (λ k. all_from_kept new.threshold (chain_of old.chains k) a.at a.by on (newest k)
      (subst (AllByRecursion (λ (v : Version). v.at ≡ a.at → v.by ≡ a.by → ⊥)) (c.chains k)
      (none k)))),
)
  where
    same : is_before a.at new.threshold ≡ false → (k : KeyBytes) → as_of a.at new.chains k
        ≡ as_of a.at old.chains k
    same on k = as_of_found a.at (chain_of new.chains k)
        ∙ (ap (λ (vs : List Version). found (upto a.at) vs) (c.chains k)
        ∙ (found_kept (upto a.at) new.threshold (chain_of old.chains k)
        (upto_passes a.at new.threshold on) ∙ sym (as_of_found a.at (chain_of old.chains k))))

keeps_collecting : (old new : RangeView) (answered : List Answered) (committed : List Transaction)
    (before : Time) → Keeps old answered committed → Collects old new before
    → Keeps new answered committed
keeps_collecting old new answered committed before k c = record {
  config = k.config;
  history = k.history;
  stands = subst (λ (v : CacheView). RepresentsState v k.config (state_of k.config k.history))
      (sym c.cache) k.stands;
  agrees = λ key. subst (λ (vs : List Version). AgreesFrom new.threshold vs
      (all_stored committed key)) (sym (c.chains key))
      (agrees_kept old.threshold new.threshold (chain_of old.chains key) (all_stored committed key)
      (grows old new before c) (k.agrees key));
  newest = λ key. subst AreNewestFirst (sym (c.chains key)) (kept_newest_first new.threshold
      (chain_of old.chains key) (k.newest key));
  all_newest = k.all_newest;
  guarded = subst (λ (s : SpanView). AreGuarded s new.cache committed) (sym c.span)
      (subst (λ (v : CacheView). AreGuarded old.span v committed) (sym c.cache) k.guarded);
  found = k.found;
  serial = k.serial;
  kept = each (IsKept old) (IsKept new) answered
      (λ a is. kept_collected old new before a k.newest c is) k.kept;
}

pub keeps : (range : RangeView) (answered : List Answered) (committed : List Transaction)
    → Execution range answered committed → Keeps range answered committed
keeps range answered committed (opened config r is) = record {
  config = config;
  history = [];
  stands = is.cache;
  agrees = λ k. subst (λ (chains : Chains). AgreesFrom r.threshold (chain_of chains k) [])
      (sym is.chains) (agrees_itself r.threshold []);
  newest = λ k. subst (λ (chains : Chains). AreNewestFirst (chain_of chains k)) (sym is.chains) tt;
  all_newest = λ k. tt;
  guarded = tt;
  found = λ passes k. refl;
  serial = tt;
  kept = tt;
}
keeps range answered committed (answers old new before c by at now read run a) =
    keeps_answers old new before c by at now read (keeps old before c run) a
keeps range answered committed (commits old new a c t now run does) =
    keeps_commits old new a c t now (keeps old a c run) does
keeps range answered committed (stays old new a c run same) =
    keeps_same old new a c (keeps old a c run) same
keeps range answered committed (hands_on config old new a c run hands) =
    keeps_handing_on config old new a c (keeps old a c run) hands
keeps range answered committed (collects old new a c before run does) =
    keeps_collecting old new a c before (keeps old a c run) does

-- ---- the laws

-- So the transactions that committed are serializable in the order of their times,
pub serializable : Serializable
serializable range answered committed run =
    let k = keeps range answered committed run in
    record {
      serial = k.serial;
      final = λ key. newest_found (chain_of range.chains key)
          ∙ ((k.agrees key).found always (λ u h. refl)
          ∙ (k.found always key ∙ sym (all_leave empty (serial_order committed) key)));
    }

-- each read stays so,
pub repeatable : Repeatable
repeatable range answered committed run =
    each (IsKept range) (IsStillSo range) answered (λ a is. is.1)
    (keeps range answered committed run).kept

-- and a transaction whose reads were all answered, and that isn't pushed, may commit.
pub unpushed : Unpushed
unpushed range answered committed t run among none on within free = record {
  in_time = on;
  within = within;
  refreshed = All-from_recursion (λ (r : Read). Matches r (as_of t.at range.chains)) t.reads
      (each (λ (r : Read). Contains answered (record { by = t.by; at = t.at; read = r }))
      (λ (r : Read). Matches r (as_of t.at range.chains)) t.reads
      (λ r own. All-contains (IsStillSo range) answered (record { by = t.by; at = t.at; read = r })
      (All-from_recursion (IsStillSo range) answered (repeatable range answered committed run)) own
      on none) among);
  free = free;
}
