-- Several marks, one after another: what they leave and answer together, and how many pages they
-- drop.
use Rattle.std.proofs.Common.{◌≡◌, ◌∙◌, inl, inr, refl, sym, ap, subst, ℕ, ◌+◌, ◌≤◌, ◌<◌, ◌||◌, Bool, List, [], ◌∷◌, ◌++◌, length, All, take, drop, get_or, true, false, arith, zero, suc}
use Rattle.std.proofs.lemmas.Bool.{cases_Bool, and_parts}
use Rattle.std.proofs.lemmas.List.{length-append, length-take-le, take_more, drop_more, take_all}
use Rattle.std.proofs.lemmas.List.Elements.{All-push}
use Rattle.tsc_time.specs.Time.{Time}
use Rattle.tsc_page_model.specs.Page.{Mark}
use Rattle.tsc_page_model.specs.PageView.{PageView}
use Rattle.tsc_cache.specs.declared.added.Added.{Added}
use Rattle.tsc_cache.specs.ConfigView.{ConfigView, fits}
use Rattle.tsc_cache.specs.State.{CacheState, Stepped, is_kept, not_kept, added_with, step, step_all}
use Rattle.tsc_cache.specs.CacheView.{CacheView, RepresentsState, Adds, MarksFront, front_has_room_for}
use Rattle.tsc_cache.specs.Batch.{all_fit, is_any_kept, AddsAll}
use Rattle.tsc_cache.specs.History.{IsMadeMark, CanBeAdded}
use Rattle.tsc_cache.specs.Laws.{OneMarkIsAnAdd, ListsJoin}
use Rattle.tsc_cache.proofs.StatesSeen.{adds_stands}
use Rattle.tsc_cache.proofs.Steps.{answer_alone}

-- ---- answers together

abbrev reported : Bool → Bool → ℕ → Added
reported kept rotated evicted = record { kept = kept; rotated = rotated; evicted = evicted }

-- what Adds answer together goes by their order alone
pub answers_join : (a b c : Added) → added_with (added_with a b) c ≡ added_with a (added_with b c)
answers_join a b c =
    ap (λ k. reported k ((a.rotated || b.rotated) || c.rotated)
    ((a.evicted + b.evicted) + c.evicted)) (or_join a.kept b.kept c.kept)
    ∙ ap (λ r. reported (a.kept || (b.kept || c.kept)) r ((a.evicted + b.evicted) + c.evicted))
    (or_join a.rotated b.rotated c.rotated)
    ∙ ap (reported (a.kept || (b.kept || c.kept)) (a.rotated || (b.rotated || c.rotated)))
    (omega arith)
  where
    or_join : (p q r : Bool) → ((p || q) || r) ≡ (p || (q || r))
    or_join true q r = refl
    or_join false q r = refl

-- what those behind an Add that is not kept answer
none_before : (a : Added) → added_with not_kept a ≡ a
none_before a = ap (reported a.kept a.rotated) (omega arith)

-- ---- what can be seen

-- an Add that is not kept
not_kept_adds : (v : CacheView) (m : Mark) (now : Time) → is_kept v.floor m ≡ false →
    Adds v v m now not_kept
not_kept_adds v m now lost = record {
  config = refl;
  not_kept = λ _. (refl, refl);
  in_place = λ kept. absurd (let both : false ≡ true = sym lost ∙ kept in cc);
  rotated = λ kept. absurd (let both : false ≡ true = sym lost ∙ kept in cc);
}

-- where no mark is kept, nothing changes
pub none_adds : (v : CacheView) (ms : List Mark) (now : Time) → is_any_kept v.floor ms ≡ false →
    AddsAll v v ms now not_kept
none_adds v [] now none = (refl, refl)
none_adds v (m ∷ ms) now none =
    let parts = or_false (is_kept v.floor m) (is_any_kept v.floor ms) none in (
      v,
      not_kept,
      not_kept,
      not_kept_adds v m now parts.0,
      none_adds v ms now parts.1,
      sym (answer_alone not_kept),
    )
  where
    or_false : (p q : Bool) → (p || q) ≡ false → (p ≡ false) × (q ≡ false)
    or_false true q e = absurd (let both : true ≡ false = e in cc)
    or_false false q e = (refl, e)

-- one mark more, behind those so far
pub adds_all_more : (old middle new : CacheView) (ms : List Mark) (m : Mark) (now : Time)
    (a b : Added) → AddsAll old middle ms now a → Adds middle new m now b →
    AddsAll old new (ms ++ m ∷ []) now (added_with a b)
adds_all_more old middle new [] m now a b all one =
    let same = subst (λ (v : CacheView). Adds v new m now b) all.0 one in
    let reported_is : added_with a b ≡ added_with b not_kept =
    ap (λ (x : Added). added_with x b) all.1 ∙ none_before b ∙ sym (answer_alone b) in
    (new, b, not_kept, same, (refl, refl), reported_is)
adds_all_more old middle new (n ∷ ms) m now a b all one = (
  all.0,
  all.1,
  added_with all.2 b,
  all.3,
  adds_all_more all.0 middle new ms m now all.2 b all.4 one,
  ap (λ (x : Added). added_with x b) all.5 ∙ answers_join all.1 all.2 b,
)

-- a list of one mark
pub one_mark_is_an_add : OneMarkIsAnAdd
one_mark_is_an_add old new m now added all =
    let same : Adds old new m now all.1 =
    subst (λ (v : CacheView). Adds old v m now all.1) (sym all.4.0) all.3 in
    let reported_is : all.1 ≡ added = sym (answer_alone all.1) ∙ ap (added_with all.1) (sym all.4.1)
    ∙
    sym all.5 in
    subst (λ (a : Added). Adds old new m now a) reported_is same

-- the settings stay
pub config_stays : (old new : CacheView) (ms : List Mark) (now : Time) (added : Added) →
    AddsAll old new ms now added → new.config ≡ old.config
config_stays old new [] now added all = ap (λ (v : CacheView). v.config) all.0
config_stays old new (m ∷ ms) now added all = config_stays all.0 new ms now all.2 all.4 ∙
    all.3.config

-- whatever state it stood for, it stands for the one after all of the marks
pub adds_all_stands : (old new : CacheView) (ms : List Mark) (now : Time) (added : Added) →
    AddsAll old new ms now added → (config : ConfigView) (s : CacheState) →
    RepresentsState old config s
    → RepresentsState new config (step_all config s ms now).state ×
    (added ≡ (step_all config s ms now).added)
adds_all_stands old new [] now added all config s stands =
    (subst (λ (v : CacheView). RepresentsState v config s) (sym all.0) stands, all.1)
adds_all_stands old new (m ∷ ms) now added all config s stands =
    let first = adds_stands old all.0 m now all.1 all.3 config s stands in
    let others = adds_all_stands all.0 new ms now all.2 all.4 config (step config s m now).state
    first.0 in (
      others.0,
      all.5 ∙ ap (λ (a : Added). added_with a all.2) first.1 ∙
          ap (added_with (step config s m now).added) others.1,
    )

-- ---- how many pages are dropped

same_many : (vs ws : List PageView) (m : Mark) → MarksFront vs ws m → length ws ≡ length vs
same_many [] ws m marks = absurd marks
same_many (v ∷ vs) [] m marks = absurd marks
same_many (v ∷ vs) (w ∷ ws) m marks = ap (λ us. suc (length us)) marks.1

-- an Add brings one page at the most
add_counts : (old new : CacheView) (m : Mark) (now : Time) (added : Added) →
    Adds old new m now added → added.evicted + length new.pages ≤ length old.pages + 1
add_counts old new m now added adds = elim (cases_Bool (is_kept old.floor m)) [
  | inr lost ↦
      let reported_none : added.evicted ≡ 0 = ap (λ (a : Added). a.evicted) (adds.not_kept lost).1
      in
      let same : length new.pages ≡ length old.pages =
      ap (λ (v : CacheView). length v.pages) (adds.not_kept lost).0 in
      omega arith
  | inl kept ↦ elim (cases_Bool (front_has_room_for old.pages m.span)) [
    | inl room ↦
        let in_place = adds.in_place kept room in
        let reported_none : added.evicted ≡ 0 = ap (λ (a : Added). a.evicted) in_place.3 in
        let same : length new.pages ≡ length old.pages =
        same_many old.pages new.pages m in_place.0 in
        omega arith
    | inr room ↦
        let turned = (adds.rotated kept room).0 in
        let before : length old.pages ≡ length turned.stay + length turned.dropped =
        ap length turned.parts ∙ length-append turned.stay turned.dropped in
        let after : length new.pages ≡ suc (length turned.stay) = ap length turned.pages in
        let count : added.evicted ≡ length turned.dropped = turned.count in
        omega arith
  ]
]

-- and several bring one for each at the most
pub adds_all_count : (old new : CacheView) (ms : List Mark) (now : Time) (added : Added) →
    AddsAll old new ms now added → added.evicted + length new.pages ≤ length old.pages + length ms
adds_all_count old new [] now added all =
    let reported_none : added.evicted ≡ 0 = ap (λ (a : Added). a.evicted) all.1 in
    let same : length new.pages ≡ length old.pages = ap (λ (v : CacheView). length v.pages) all.0 in
    omega arith
adds_all_count old new (m ∷ ms) now added all =
    let first = add_counts old all.0 m now all.1 all.3 in
    let others = adds_all_count all.0 new ms now all.2 all.4 in
    let sum : added.evicted ≡ all.1.evicted + all.2.evicted = ap (λ (a : Added). a.evicted) all.5 in
    omega arith

-- ---- which fit

-- the first of marks that fit does, and so do the others
pub first_fits : (config : ConfigView) (m : Mark) (ms : List Mark) →
    all_fit config (m ∷ ms) ≡ true → (fits config m.span ≡ true) × (all_fit config ms ≡ true)
first_fits config m ms fit = and_parts (fits config m.span) (all_fit config ms) fit

-- ---- lists

-- two lists at one moment do what their joined list does
pub lists_join : ListsJoin
lists_join config s [] ns now = ap
    (λ (a : Added). record { state = (step_all config s ns now).state; added = a })
    (sym (none_before (step_all config s ns now).added))
lists_join config s (m ∷ ms) ns now =
    let first = step config s m now in
    let rest = lists_join config first.state ms ns now in
    let second = step_all config first.state ms now in
    let third = step_all config second.state ns now in
    ap (λ (x : Stepped). record { state = x.state; added = added_with first.added x.added }) rest
    ∙ ap (λ (a : Added). record { state = third.state; added = a })
    (sym (answers_join first.added second.added third.added))

-- ---- one mark after another

-- Of a list of marks some were added, so many, and those that are left fit.
pub record IsUnderWay (old new : CacheView) (ms : List Mark) (now : Time) (added : Added) (i : ℕ) :
    Type 0 where
  pub adds : AddsAll old new (take i ms) now added
  pub fit : all_fit old.config (drop i ms) ≡ true

pub begun : (old : CacheView) (ms : List Mark) (now : Time) (added : Added) →
    all_fit old.config ms ≡ true → added ≡ not_kept → IsUnderWay old old ms now added 0
begun old ms now added fit none = record { adds = (refl, none); fit = fit }

-- the next one fits
pub next_fits : (old new : CacheView) (ms : List Mark) (now : Time) (added : Added) (i : ℕ)
    (m : Mark) → IsUnderWay old new ms now added i → i < length ms → get_or ms i m ≡ m →
    fits new.config m.span ≡ true
next_fits old new ms now added i m way within at =
    let left : all_fit old.config (m ∷ drop (i + 1) ms) ≡ true =
    subst (λ (ns : List Mark). all_fit old.config ns ≡ true)
    (drop_more ms i m within ∙ ap (λ (n : Mark). n ∷ drop (i + 1) ms) at) way.fit in
    ap (λ (u : ConfigView). fits u m.span) (config_stays old new (take i ms) now added way.adds) ∙
    (first_fits old.config m (drop (i + 1) ms) left).0

-- and may be dropped with what was dropped so far
pub few_dropped : (old middle new : CacheView) (ms : List Mark) (now : Time) (a b : Added) (i : ℕ)
    (m : Mark) → IsUnderWay old middle ms now a i → i < length ms → Adds middle new m now b →
    a.evicted + b.evicted ≤ length old.pages + length ms
few_dropped old middle new ms now a b i m way within one =
    let first = adds_all_count old middle (take i ms) now a way.adds in
    let second = add_counts middle new m now b one in
    let long : length (take i ms) ≡ i = length-take-le i ms (omega arith) in
    omega arith

-- and one more was added
pub one_more : (old middle new : CacheView) (ms : List Mark) (now : Time) (a b : Added) (i : ℕ)
    (m : Mark) → IsUnderWay old middle ms now a i → i < length ms → get_or ms i m ≡ m →
    Adds middle new m now b → IsUnderWay old new ms now (added_with a b) (i + 1)
one_more old middle new ms now a b i m way within at one = record {
  adds = subst (λ (ns : List Mark). AddsAll old new ns now (added_with a b))
      (sym (take_more ms i m within ∙ ap (λ (n : Mark). take i ms ++ n ∷ []) at))
      (adds_all_more old middle new (take i ms) m now a b way.adds one);
  fit = (first_fits old.config m (drop (i + 1) ms)
      (subst (λ (ns : List Mark). all_fit old.config ns ≡ true)
      (drop_more ms i m within ∙ ap (λ (n : Mark). n ∷ drop (i + 1) ms) at) way.fit)).1;
}

-- Where no mark is kept and so nothing changed yet, the next one is not kept.
pub none_kept : (old middle : CacheView) (ms : List Mark) (i : ℕ) (m : Mark)
    → (is_any_kept old.floor ms ≡ false → middle ≡ old) → i < length ms → get_or ms i m ≡ m →
    is_any_kept old.floor ms ≡ false → is_kept middle.floor m ≡ false
none_kept old middle ms i m so_far within at none =
    ap (λ (v : CacheView). is_kept v.floor m) (so_far none) ∙
    (or_none (is_kept old.floor m) (is_any_kept old.floor (drop (i + 1) ms))
    (subst (λ ns. is_any_kept old.floor ns ≡ false)
    (drop_more ms i m within ∙ ap (λ (n : Mark). n ∷ drop (i + 1) ms) at)
    (none_behind ms i none))).0
  where
    or_none : (p q : Bool) → (p || q) ≡ false → (p ≡ false) × (q ≡ false)
    or_none true q e = absurd (let both : true ≡ false = e in cc)
    or_none false q e = (refl, e)

    none_behind : (ns : List Mark) (j : ℕ) → is_any_kept old.floor ns ≡ false →
        is_any_kept old.floor (drop j ns) ≡ false
    none_behind [] j e = drop_none j
      where
        drop_none : (k : ℕ) → is_any_kept old.floor (drop k []) ≡ false
        drop_none zero = refl
        drop_none (suc k) = refl
    none_behind (n ∷ ns) zero e = e
    none_behind (n ∷ ns) (suc j) e =
        none_behind ns j (or_none (is_kept old.floor n) (is_any_kept old.floor ns) e).1

-- so nothing changes then either
pub still_none : (old middle new : CacheView) (ms : List Mark) (now : Time) (b : Added) (i : ℕ)
    (m : Mark) → (is_any_kept old.floor ms ≡ false → middle ≡ old) → i < length ms →
    get_or ms i m ≡ m → Adds middle new m now b → is_any_kept old.floor ms ≡ false → new ≡ old
still_none old middle new ms now b i m so_far within at one none =
    (one.not_kept (none_kept old middle ms i m so_far within at none)).0 ∙ so_far none

-- until none is left
pub all_added : (old new : CacheView) (ms : List Mark) (now : Time) (added : Added) (i : ℕ) →
    IsUnderWay old new ms now added i → length ms ≤ i → AddsAll old new ms now added
all_added old new ms now added i way past =
    subst (λ (ns : List Mark). AddsAll old new ns now added) (take_all i ms past) way.adds

-- ---- which entries can be made

-- Of marks that fit, so many can be made, and those that are left fit.
pub record CanBeMade (config : ConfigView) (ms : List Mark) (i : ℕ) : Type 0 where
  pub made : All (λ m. IsMadeMark config m) (take i ms)
  pub fit : all_fit config (drop i ms) ≡ true

-- one more
pub one_more_made : (config : ConfigView) (ms : List Mark) (now : Time) (i : ℕ) (m : Mark) →
    CanBeMade config ms i → i < length ms → get_or ms i m ≡ m →
    (fits config m.span ≡ true → CanBeAdded config m now) → CanBeMade config ms (i + 1)
one_more_made config ms now i m so_far within at can =
    let left = first_fits config m (drop (i + 1) ms)
    (subst (λ (ns : List Mark). all_fit config ns ≡ true)
    (drop_more ms i m within ∙ ap (λ (n : Mark). n ∷ drop (i + 1) ms) at) so_far.fit) in
    let entry = can left.0 0 0 in
    record {
      made = subst (All (λ n. IsMadeMark config n))
          (sym (take_more ms i m within ∙ ap (λ (n : Mark). take i ms ++ n ∷ []) at))
          (All-push (λ n. IsMadeMark config n) (take i ms) m so_far.made
          (entry.marks 0 m (omega arith)));
      fit = left.1;
    }

-- until none is left
pub all_made : (config : ConfigView) (ms : List Mark) (i : ℕ) → CanBeMade config ms i →
    length ms ≤ i → All (λ m. IsMadeMark config m) ms
all_made config ms i so_far past =
    subst (All (λ m. IsMadeMark config m)) (take_all i ms past) so_far.made
