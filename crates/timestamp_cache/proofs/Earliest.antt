-- The earliest time at which a write is clear of a read, and of all that some lookups answer.
use Rattle.std.proofs.Common.{◌≡◌, ◌⊎◌, ◌+◌, ◌<◌, ◌≤◌, ◌∙◌, inl, inr, refl, sym, ap, subst, ℕ, zero, suc, List, [], ◌∷◌, get_or, length, ◌&&◌, true, false, Some, None, Option, arith}
use Rattle.std.proofs.Math.Nat.{eq-or-lt_of_le}
use Rattle.std.proofs.lemmas.Bool.{and_parts, and_from}
use Rattle.std.proofs.lemmas.Bool.Decides.{nat_tests}
use Rattle.tsc_time.specs.Time.{Time, is_in_range, is_before}
use Rattle.tsc_time.specs.ValueView.{Owner, ValueView}
use Rattle.tsc_time.proofs.TimeOrder.{is_before-reports, is_before-itself, is_before-opposite, no_earlier-transitive, same_from_neither_before}
use Rattle.tsc_span.specs.Span.{SpanView}
use Rattle.tsc_cache.specs.ConfigView.{ConfigView}
use Rattle.tsc_cache.specs.History.{History, state_of}
use Rattle.tsc_cache.specs.CacheView.{CacheView, RepresentsState, cache_answer}
use Rattle.tsc_cache.proofs.StatesSeen.{answers_look}
use Rattle.tsc_cache.proofs.Histories.{no_write_below_a_read}
use Rattle.timestamp_cache.specs.Clear.{IsClearOf, IsClearOfReads, IsClearOfAllReads, IsClearOfAnswers}
use Rattle.timestamp_cache.specs.Earliest.{IsEarliest, ReportsEarliest, Stays}
use Rattle.timestamp_cache.specs.Laws.{EarliestInTurn}

-- ---- from one time on

-- what is clear at a time is clear at each later one
pub clear_later : (read : ValueView) (by : Owner) (at later : Time) → is_before later at ≡ false →
    IsClearOf read by at → IsClearOf read by later
clear_later read by at later on clear = grind (arith, is_before-reports, same_from_neither_before)

-- a time at which all holds is the earliest from itself on
pub earliest_now : (P : Time → Type 0) (at : Time) → is_in_range at ≡ true → P at →
    ReportsEarliest P at (Some at)
earliest_now P at in_range holds =
    record {
      in_range = in_range;
      from_on = is_before-itself at;
      holds = holds;
      least = λ t _ on _. on;
    }

-- ---- the next time

abbrev at_parts : ℕ → ℕ → Time
at_parts wall logical = record { wall = wall; logical = logical }

-- one logical count more
pub next_count : (t : Time) → is_in_range (at_parts t.wall (t.logical + 1)) ≡ true →
    ReportsEarliest (λ u. is_before t u ≡ true) t (Some (at_parts t.wall (t.logical + 1)))
next_count t in_range = record {
  in_range = in_range;
  from_on = grind (arith, is_before-reports);
  holds = grind (arith, is_before-reports);
  least = λ u _ _ later. grind (arith, is_before-reports);
}

-- the first time of the next nanosecond, where the count is at its end
pub next_wall : (t : Time) → is_in_range t ≡ true →
    is_in_range (at_parts t.wall (t.logical + 1)) ≡ false →
    is_in_range (at_parts (t.wall + 1) 0) ≡ true
    → ReportsEarliest (λ u. is_before t u ≡ true) t (Some (at_parts (t.wall + 1) 0))
next_wall t here full in_range = record {
  in_range = in_range;
  from_on = grind (arith, is_before-reports);
  holds = grind (arith, is_before-reports);
  least = λ u there _ later. grind (arith, is_before-reports, nat_tests);
}

-- none behind the last
pub next_none : (t : Time) → is_in_range t ≡ true →
    is_in_range (at_parts t.wall (t.logical + 1)) ≡ false →
    is_in_range (at_parts (t.wall + 1) 0) ≡ false
    → ReportsEarliest (λ u. is_before t u ≡ true) t None
next_none t here full last u there _ later = grind (arith, is_before-reports, nat_tests)

-- ---- clear of one read

-- An own read that a write isn't clear of is later than the write, and clear at its own time.
pub clear_at_own : (read : ValueView) (by : Owner) (at : Time) → is_in_range read.time ≡ true →
    read.owner ≡ Some by → (IsClearOf read by at → ⊥) →
    ReportsEarliest (λ t. IsClearOf read by t) at (Some read.time)
clear_at_own read by at in_range own not_clear = record {
  in_range = in_range;
  from_on = grind (arith, is_before-reports, same_from_neither_before);
  holds = inr (refl, own);
  least = λ t _ _ clear. grind (arith, is_before-reports);
}

-- A read of anybody else lets a write be clear from the next time on.
pub clear_behind : (read : ValueView) (by : Owner) (at next : Time) → (read.owner ≡ Some by → ⊥) →
    (IsClearOf read by at → ⊥) → ReportsEarliest (λ t. is_before read.time t ≡ true) read.time
    (Some next)
    → ReportsEarliest (λ t. IsClearOf read by t) at (Some next)
clear_behind read by at next strange not_clear is_next = record {
  in_range = is_next.in_range;
  from_on = grind (arith, is_before-reports, is_next.holds);
  holds = inl is_next.holds;
  least = λ t there on clear. elim clear [
    | inl later ↦ is_next.least t there (is_before-opposite read.time t later) later
    | inr own ↦
        absurd (strange own.1)
  ];
}

-- Where there is none, a write is never clear.
pub never_clear : (read : ValueView) (by : Owner) (at : Time) → (read.owner ≡ Some by → ⊥) →
    ReportsEarliest (λ t. is_before read.time t ≡ true) read.time None
    → ReportsEarliest (λ t. IsClearOf read by t) at None
never_clear read by at strange last t there on clear =
    elim clear [
      | inl later ↦ last t there (is_before-opposite read.time t later) later
      | inr own ↦
          absurd (strange own.1)
    ]

-- So it is whichever there is.
pub clear_from_next : (read : ValueView) (by : Owner) (at last : Time) (next : Option Time) →
    (read.owner ≡ Some by → ⊥) → (IsClearOf read by at → ⊥) → last ≡ read.time →
    ReportsEarliest (λ t. is_before last t ≡ true) last next
    → ReportsEarliest (λ t. IsClearOf read by t) at next
clear_from_next read by at last (Some next) strange not_clear is next_is =
    clear_behind read by at next strange not_clear
    (subst (λ (l : Time). ReportsEarliest (λ t. is_before l t ≡ true) l (Some next)) is next_is)
clear_from_next read by at last None strange not_clear is next_is =
    never_clear read by at strange
    (subst (λ (l : Time). ReportsEarliest (λ t. is_before l t ≡ true) l None) is next_is)

-- ---- clear of more and more

-- Behind a time at which it is clear of some, the earliest at which it is clear of one more is the
-- earliest at which it is clear of all of these, where it stays clear once it is.
pub one_more : (P Q R : Time → Type 0) (from at next : Time) → Stays P →
    ((t : Time) → P t → Q t → R t) → ((t : Time) → R t → P t × Q t)
    → IsEarliest P from at → IsEarliest Q at next → IsEarliest R from next
one_more P Q R from at next stays joins parts first second = record {
  in_range = second.in_range;
  from_on = no_earlier-transitive from at next first.from_on second.from_on;
  holds = joins next (stays at next second.from_on first.holds) second.holds;
  least = λ t there on r. let both =
      parts t r in second.least t there (first.least t there on both.0) both.1;
}

-- and where there is none for the one more, there is none for all
pub none_more : (P Q R : Time → Type 0) (from at : Time) → ((t : Time) → R t → P t × Q t) →
    IsEarliest P from at → ReportsEarliest Q at None → ReportsEarliest R from None
none_more P Q R from at parts first none t there on r = let both =
    parts t r in none t there (first.least t there on both.0) both.1

-- so of tests, which pass both where they pass each
pub earliest_in_turn : EarliestInTurn
earliest_in_turn = record {
  both = λ first second from at next stays one two. one_more (λ t. first t ≡ true)
      (λ t. second t ≡ true)
      (λ t. (first t && second t) ≡ true) from at next stays
      (λ t a b. and_from (first t) (second t) a b)
      (λ t both. and_parts (first t) (second t) both) one two;
  none = λ first second from at one two. none_more (λ t. first t ≡ true) (λ t. second t ≡ true)
      (λ t. (first t && second t) ≡ true) from at (λ t both. and_parts (first t) (second t) both)
      one two;
}

-- ---- clear of what a cache answers to the first of some spans

-- so far it is clear of the answers to so many
abbrev pub ClearOfFirst : CacheView → List SpanView → ℕ → Owner → Time → Type 0
ClearOfFirst cache spans count by t = (k : ℕ) (d : SpanView) → k < length spans → k < count →
    IsClearOf (cache_answer cache (get_or spans k d)) by t

-- an item of a list is the same, whatever stands past the end
same_item : (spans : List SpanView) (i : ℕ) (d e : SpanView) → i < length spans →
    get_or spans i d ≡ get_or spans i e
same_item [] i d e below = absurd (omega (arith, below))
same_item (s ∷ spans) zero d e below = refl
same_item (s ∷ spans) (suc i) d e below = same_item spans i d e (omega (arith, below))

first_stays : (cache : CacheView) (spans : List SpanView) (count : ℕ) (by : Owner) (t u : Time) →
    is_before u t ≡ false → ClearOfFirst cache spans count by t →
    ClearOfFirst cache spans count by u
first_stays cache spans count by t u on clear k d below low =
    clear_later (cache_answer cache (get_or spans k d)) by t u on (clear k d below low)

first_joins : (cache : CacheView) (spans : List SpanView) (i : ℕ) (s : SpanView) (by : Owner)
    (t : Time) → i < length spans → get_or spans i s ≡ s
    → ClearOfFirst cache spans i by t → IsClearOf (cache_answer cache s) by t →
    ClearOfFirst cache spans (i + 1) by t
first_joins cache spans i s by t there is before one k d below low = elim (here_or_before) [
  | inl e ↦ subst (λ (x : SpanView). IsClearOf (cache_answer cache x) by t)
      (sym (ap (λ n. get_or spans n d) e ∙ same_item spans i d s there ∙ is)) one
  | inr less ↦ before k d below less
]
  where
    here_or_before : (k ≡ i) ⊎ (k < i)
    here_or_before = eq-or-lt_of_le (omega (arith, low))

first_parts : (cache : CacheView) (spans : List SpanView) (i : ℕ) (s : SpanView) (by : Owner)
    (t : Time) → i < length spans → get_or spans i s ≡ s
    → ClearOfFirst cache spans (i + 1) by t → ClearOfFirst cache spans i by t ×
    IsClearOf (cache_answer cache s) by t
first_parts cache spans i s by t there is clear = (
  λ k d below low. clear k d below (omega (arith, low)),
  subst (λ (x : SpanView). IsClearOf (cache_answer cache x) by t) is
      (clear i s there (omega arith)),
)

-- none so far
pub first_none : (cache : CacheView) (spans : List SpanView) (by : Owner) (at : Time) →
    is_in_range at ≡ true → IsEarliest (λ t. ClearOfFirst cache spans 0 by t) at at
first_none cache spans by at in_range =
    record {
      in_range = in_range;
      from_on = is_before-itself at;
      holds = λ k d below low. absurd (omega (arith, low));
      least = λ t _ on _. on;
    }

-- one more
pub first_more : (cache : CacheView) (spans : List SpanView) (i : ℕ) (s : SpanView) (by : Owner)
    (from at next : Time) → i < length spans → get_or spans i s ≡ s
    → IsEarliest (λ t. ClearOfFirst cache spans i by t) from at →
    IsEarliest (λ t. IsClearOf (cache_answer cache s) by t) at next →
    IsEarliest (λ t. ClearOfFirst cache spans (i + 1) by t) from next
first_more cache spans i s by from at next there is so_far one =
    one_more (λ t. ClearOfFirst cache spans i by t) (λ t. IsClearOf (cache_answer cache s) by t)
    (λ t. ClearOfFirst cache spans (i + 1) by t) from at next
    (λ t u on. first_stays cache spans i by t u on) (λ t. first_joins cache spans i s by t there is)
    (λ t. first_parts cache spans i s by t there is) so_far one

-- where there is no time for one more, there is none for all
pub first_ends : (cache : CacheView) (spans : List SpanView) (i : ℕ) (s : SpanView) (by : Owner)
    (from at : Time) → i < length spans → get_or spans i s ≡ s
    → IsEarliest (λ t. ClearOfFirst cache spans i by t) from at →
    ReportsEarliest (λ t. IsClearOf (cache_answer cache s) by t) at None →
    ReportsEarliest (λ t. IsClearOfAnswers cache spans by t) from None
first_ends cache spans i s by from at there is so_far none =
    none_more (λ t. ClearOfFirst cache spans i by t) (λ t. IsClearOf (cache_answer cache s) by t)
    (λ t. IsClearOfAnswers cache spans by t) from at
    (λ t clear. (
      λ k d below low. clear k d below,
      subst (λ (x : SpanView). IsClearOf (cache_answer cache x) by t) is (clear i s there),
    ))
    so_far none

-- until none is left
pub first_all : (cache : CacheView) (spans : List SpanView) (i : ℕ) (by : Owner) (from at : Time) →
    length spans ≤ i → IsEarliest (λ t. ClearOfFirst cache spans i by t) from at
    → ReportsEarliest (λ t. IsClearOfAnswers cache spans by t) from (Some at)
first_all cache spans i by from at past so_far = record {
  in_range = so_far.in_range;
  from_on = so_far.from_on;
  holds = λ k d below. so_far.holds k d below (omega (arith, past, below));
  least = λ t there on clear. so_far.least t there on (λ k d below low. clear k d below);
}

-- ---- clear of reads

-- What is clear of an answer is clear of each read of whatever history the cache stands for.
pub clear_of_reads : (cache : CacheView) (span : SpanView) (by : Owner) (at : Time) →
    IsClearOf (cache_answer cache span) by at
    → (config : ConfigView) (h : History) → RepresentsState cache config (state_of config h) →
    IsClearOfReads h span by at
clear_of_reads cache span by at clear config h stands =
    no_write_below_a_read config h span by at
    (subst (λ (v : ValueView). IsClearOf v by at)
    (answers_look cache config (state_of config h) span stands) clear)

pub clear_of_all_reads : (cache : CacheView) (spans : List SpanView) (by : Owner) (at : Time) →
    IsClearOfAnswers cache spans by at
    → (config : ConfigView) (h : History) → RepresentsState cache config (state_of config h) →
    IsClearOfAllReads h spans by at
clear_of_all_reads cache spans by at clear config h stands k d below =
    clear_of_reads cache (get_or spans k d) by at (clear k d below) config h stands
