-- A transaction that takes its place among others: which of them it disturbs, and what each key
-- then has.
use Rattle.std.proofs.Common.{◌≡◌, ◌∙◌, ap, sym, refl, subst, inl, inr, List, [], ◌∷◌, Bool, true, false, not, if◌then◌else◌, None}
use Rattle.std.specs.List.{AllByRecursion}
use Rattle.std.specs.Str.{bytes_eq}
use Rattle.std.proofs.lemmas.Bool.{cases_Bool, both_ways}
use Rattle.std.proofs.lemmas.Slice.Eq.{bytes_eq-Decides}
use Rattle.tsc_span.specs.Span.{covers}
use Rattle.tsc_time.proofs.TimeOrder.{is_before-opposite, no_earlier-transitive}
use Rattle.timestamp_cache.specs.Words.{Time, is_before, Owner, KeyBytes}
use Rattle.mvcc_versions.specs.Versions.{
  is_written,
  Content,
  Contents,
  Version,
  Write,
  Read,
  after_writes,
  content_as_of,
  newest_content,
  stored,
  Matches,
}
use Rattle.mvcc_versions.proofs.Lists.{each}
use Rattle.mvcc_range.specs.Serial.{Transaction, executed, executed_all, IsSerial, placed, serial_order}

-- ---- lists

-- and from two facts of each
pub each_two : {A : Type 0} (O P Q : A → Type 0) (xs : List A) → ((x : A) → O x → P x → Q x)
    → AllByRecursion O xs → AllByRecursion P xs → AllByRecursion Q xs
each_two O P Q [] f all both = tt
each_two O P Q (x ∷ xs) f all both = (f x all.0 both.0, each_two O P Q xs f all.1 both.1)

pub any : {A : Type 0} (P : A → Type 0) (xs : List A) → ((x : A) → P x) → AllByRecursion P xs
any P [] f = tt
any P (x ∷ xs) f = (f x, any P xs f)

-- ---- what is written

-- what holds of each key that is written holds of one that is found among them
pub of_written : (Q : KeyBytes → Type 0) (ws : List Write) (k : KeyBytes)
    → AllByRecursion (λ (w : Write). Q w.key) ws → is_written k ws ≡ true → Q k
of_written Q [] k all h = absurd (let never : false ≡ true = h in cc)
of_written Q (w ∷ ws) k all h = elim (cases_Bool (bytes_eq w.key k)) [
  | inl same ↦ subst Q ((bytes_eq-Decides w.key k).0 same) all.0
  | inr other ↦
      of_written Q ws k all.1 (sym (ap (λ (b : Bool). if b then true else is_written k ws) other)
      ∙ h)
]

-- what isn't written stays
pub not_written : (k : KeyBytes) (now : Content) (ws : List Write) → is_written k ws ≡ false
    → after_writes k now ws ≡ now
not_written k now [] h = refl
not_written k now (w ∷ ws) h = elim (cases_Bool (bytes_eq w.key k)) [
  | inl same ↦ absurd (both_ways (is_written k (w ∷ ws)) h (ap (λ (b : Bool). if b then true else
      is_written k ws) same))
  | inr other ↦ ap (λ (b : Bool). after_writes k (if b then w.content else now) ws) other
      ∙ not_written k now ws (sym (ap (λ (b : Bool). if b then true else is_written k ws) other)
      ∙ h)
]

-- a choice of two that are the same
pub same_or : (b : Bool) (x y : Content) → x ≡ y → (if b then x else y) ≡ y
same_or true x y e = e
same_or false x y e = refl

-- ---- versions by a test of their times

-- what a key has by its newest version whose time passes a test
abbrev pub found : (Time → Bool) → List Version → Content
found passes [] = None
found passes (v ∷ vs) = if passes v.at then v.content else found passes vs

abbrev pub upto : Time → Time → Bool
upto t u = not (is_before t u)

abbrev pub always : Time → Bool
always t = true

pub as_of_found : (at : Time) (vs : List Version) → content_as_of at vs ≡ found (upto at) vs
as_of_found at [] = refl
as_of_found at (v ∷ vs) = elim (cases_Bool (is_before at v.at)) [
  | inl h ↦ rw h (as_of_found at vs)
  | inr h ↦ rw h refl
]

pub newest_found : (vs : List Version) → newest_content vs ≡ found always vs
newest_found [] = refl
newest_found (v ∷ vs) = refl

-- what a key has after a transaction's writes, by its versions and by what it had
pub found_stored : (passes : Time → Bool) (k : KeyBytes) (at : Time) (by : Owner) (ws : List Write)
    (vs : List Version)
    → found passes (stored k at by ws vs) ≡ (if passes at then
    after_writes k (found passes vs) ws else found passes vs)
found_stored passes k at by [] vs = sym (same_or (passes at) (found passes vs) (found passes vs)
    refl)
found_stored passes k at by (w ∷ ws) vs = elim (cases_Bool (bytes_eq w.key k)) [
  | inr other ↦ rw other (found_stored passes k at by ws vs)
  | inl own ↦ rw own (elim (cases_Bool (passes at)) [
    | inl h ↦ found_stored passes k at by ws (one ∷ vs) ∙ passed h
    | inr h ↦ found_stored passes k at by ws (one ∷ vs) ∙ kept h
  ])
]
  where
    one : Version
    one = record { at = at; by = by; content = w.content }

    passed : passes at ≡ true → (if passes at then after_writes k (found passes (one ∷ vs)) ws else
        found passes (one ∷ vs)) ≡ (if passes at then after_writes k w.content ws else
        found passes vs)
    passed h = rw h refl

    kept : passes at ≡ false → (if passes at then after_writes k (found passes (one ∷ vs)) ws else
        found passes (one ∷ vs)) ≡ (if passes at then after_writes k w.content ws else
        found passes vs)
    kept h = rw h refl

-- ---- transactions by a test of their times

-- what a key has after those whose times pass a test
abbrev pub content_after : (Time → Bool) → KeyBytes → Content → List Transaction → Content
content_after passes k now [] = now
content_after passes k now (t ∷ ts) = content_after passes k (if passes t.at then
    after_writes k now t.writes else now) ts

-- what all of them leave
pub all_leave : (there : Contents) (ts : List Transaction) (k : KeyBytes) → executed_all there ts k
    ≡ content_after always k (there k) ts
all_leave there [] k = refl
all_leave there (t ∷ ts) k = all_leave (executed there t) ts k

-- ---- the serial order

-- no later transaction stands before an earlier one
abbrev pub AreOrdered : List Transaction → Type 0
AreOrdered [] = Unit {0}
AreOrdered (t ∷ ts) = AllByRecursion (λ (u : Transaction). is_before u.at t.at ≡ false) ts
    × AreOrdered ts

-- what holds of each holds of each where one more takes its place
pub each_placed : (P : Transaction → Type 0) (t : Transaction) (us : List Transaction) → P t
    → AllByRecursion P us → AllByRecursion P (placed t us)
each_placed P t [] own all = (own, tt)
each_placed P t (u ∷ us) own all = elim (cases_Bool (is_before t.at u.at)) [
  | inl h ↦ rw h (own, (all.0, all.1))
  | inr h ↦ rw h (all.0, each_placed P t us own all.1)
]

pub each_in_order : (P : Transaction → Type 0) (ts : List Transaction) → AllByRecursion P ts
    → AllByRecursion P (serial_order ts)
each_in_order P [] all = tt
each_in_order P (t ∷ ts) all = each_placed P t (serial_order ts) all.0 (each_in_order P ts all.1)

pub ordered_placed : (t : Transaction) (us : List Transaction) → AreOrdered us
    → AreOrdered (placed t us)
ordered_placed t [] o = (tt, tt)
ordered_placed t (u ∷ us) o = elim (cases_Bool (is_before t.at u.at)) [
  | inl h ↦ let first : is_before u.at t.at ≡ false = is_before-opposite t.at u.at h in
      rw h (
        (
          first,
          each (λ (v : Transaction). is_before v.at u.at ≡ false)
              (λ (v : Transaction). is_before v.at t.at ≡ false) us
              (λ v e. no_earlier-transitive t.at u.at v.at first e) o.0,
        ),
        (o.0, o.1),
      )
  | inr h ↦ rw h (
    each_placed (λ (v : Transaction). is_before v.at u.at ≡ false) t us h o.0,
    ordered_placed t us o.1,
  )
]

pub ordered : (ts : List Transaction) → AreOrdered (serial_order ts)
ordered [] = tt
ordered (t ∷ ts) = ordered_placed t (serial_order ts) (ordered ts)

-- before the first of some, before all of them
before_all : (t u : Transaction) (us : List Transaction) → is_before t.at u.at ≡ true
    → AreOrdered (u ∷ us) → AllByRecursion (λ (v : Transaction). is_before t.at v.at ≡ true)
    (u ∷ us)
before_all t u us h o = (
  h,
  each (λ (v : Transaction). is_before v.at u.at ≡ false) (λ (v : Transaction). is_before t.at v.at
      ≡ true) us (λ v e. elim (cases_Bool (is_before t.at v.at)) [
        | inl b ↦ b
        | inr n ↦ absurd (both_ways (is_before t.at u.at)
            (no_earlier-transitive u.at v.at t.at e n) h)
      ]) o.0,
)

-- those that are later leave what there is as of a time
later_leave : (at : Time) (k : KeyBytes) (now : Content) (us : List Transaction)
    → AllByRecursion (λ (u : Transaction). is_before at u.at ≡ true) us
    → content_after (upto at) k now us ≡ now
later_leave at k now [] all = refl
later_leave at k now (u ∷ us) all = ap (λ (b : Bool). content_after (upto at) k (if not b then
    after_writes k now u.writes else now) us) all.0 ∙ later_leave at k now us all.1

-- and those that don't write a key leave it
unwritten_leave : (passes : Time → Bool) (k : KeyBytes) (now : Content) (us : List Transaction)
    → AllByRecursion (λ (u : Transaction). is_written k u.writes ≡ false) us
    → content_after passes k now us ≡ now
unwritten_leave passes k now [] all = refl
unwritten_leave passes k now (u ∷ us) all =
    ap (λ (c : Content). content_after passes k c us)
    (same_or (passes u.at) (after_writes k now u.writes) now (not_written k now u.writes all.0))
    ∙ unwritten_leave passes k now us all.1

-- What a key has where one more takes its place: what it had, and then what that one wrote, if no
-- later one writes a key that it writes.
pub content_placed : (passes : Time → Bool) (k : KeyBytes) (t : Transaction) (us : List Transaction)
    (now : Content) → AreOrdered us
    → AllByRecursion (λ (u : Transaction). is_before t.at u.at ≡ true → is_written k t.writes ≡ true
    → is_written k u.writes ≡ false) us
    → content_after passes k now (placed t us) ≡ (if passes t.at then
    after_writes k (content_after passes k now us) t.writes else content_after passes k now us)
content_placed passes k t [] now o apart = refl
content_placed passes k t (u ∷ us) now o apart = elim (cases_Bool (is_before t.at u.at)) [
  | inl h ↦ rw h (before h)
  | inr h ↦ rw h (content_placed passes k t us (if passes u.at then after_writes k now u.writes else
      now) o.1 apart.1)
]
  where
    before : is_before t.at u.at ≡ true
        → content_after passes k (if passes t.at then after_writes k now t.writes else now) (u ∷ us)
        ≡ (if passes t.at then after_writes k (content_after passes k now (u ∷ us)) t.writes else
        content_after passes k now (u ∷ us))
    before h = elim (cases_Bool (is_written k t.writes)) [
      | inl w ↦ let none : AllByRecursion (λ (v : Transaction). is_written k v.writes ≡ false)
          (u ∷ us)
          = each_two (λ (v : Transaction). is_before t.at v.at ≡ true)
          (λ (v : Transaction). is_before t.at v.at ≡ true → is_written k t.writes ≡ true
          → is_written k v.writes ≡ false)
          (λ (v : Transaction). is_written k v.writes ≡ false) (u ∷ us) (λ v b f. f b w)
          (before_all t u us h o) apart in
          unwritten_leave passes k (if passes t.at then after_writes k now t.writes else
          now) (u ∷ us) none
          ∙ ap (λ (c : Content). if passes t.at then after_writes k c t.writes else
          c) (sym (unwritten_leave passes k now (u ∷ us) none))
      | inr n ↦ ap (λ (c : Content). content_after passes k c (u ∷ us))
          (same_or (passes t.at) (after_writes k now t.writes) now (not_written k now t.writes n))
          ∙ sym (same_or (passes t.at)
          (after_writes k (content_after passes k now (u ∷ us)) t.writes)
          (content_after passes k now (u ∷ us))
          (not_written k (content_after passes k now (u ∷ us)) t.writes n))
    ]

-- ---- reads

-- a read looks at its span alone
pub matches_same : (read : Read) (there next : Contents)
    → ((k : KeyBytes) → covers read.span k ≡ true → there k ≡ next k) → Matches read there
    → Matches read next
matches_same read there next same m = record {
  rows = λ k c. m.rows k c ∙ same k c;
  within = m.within;
  order = m.order;
}

-- Of some reads none covers a key that is written.
abbrev pub AreUndisturbed : List Write → List Read → Type 0
AreUndisturbed ws reads = AllByRecursion (λ (r : Read). (k : KeyBytes) → is_written k ws ≡ true
    → covers r.span k ≡ false) reads

reads_undisturbed : (ws : List Write) (there next : Contents) (reads : List Read)
    → ((k : KeyBytes) → is_written k ws ≡ false → there k ≡ next k) → AreUndisturbed ws reads
    → AllByRecursion (λ (r : Read). Matches r there) reads
    → AllByRecursion (λ (r : Read). Matches r next) reads
reads_undisturbed ws there next reads same none all =
    each_two (λ (r : Read). (k : KeyBytes) → is_written k ws ≡ true → covers r.span k ≡ false)
    (λ (r : Read). Matches r there) (λ (r : Read). Matches r next) reads
    (λ r out m. matches_same r there next (λ k c. elim (cases_Bool (is_written k ws)) [
      | inl w ↦ absurd (both_ways (covers r.span k) (out k w) c)
      | inr n ↦ same k n
    ]) m) none all

-- Transactions none of which read what is written read the same.
undisturbed : (ws : List Write) (us : List Transaction) (there next : Contents)
    → ((k : KeyBytes) → is_written k ws ≡ false → there k ≡ next k)
    → AllByRecursion (λ (u : Transaction). AreUndisturbed ws u.reads) us → IsSerial there us
    → IsSerial next us
undisturbed ws [] there next same none serial = tt
undisturbed ws (u ∷ us) there next same none serial = (
  reads_undisturbed ws there next u.reads same none.0 serial.0,
  undisturbed ws us (executed there u) (executed next u)
      (λ k n. ap (λ (c : Content). after_writes k c u.writes) (same k n)) none.1 serial.1,
)

-- The kernel: a transaction whose reads are what is there as of its time, and that writes nothing
-- which a later one read, takes its place among others that are executed one after another.
pub serial_placed : (t : Transaction) (us : List Transaction) (there : Contents) → AreOrdered us
    → AllByRecursion (λ (u : Transaction). is_before t.at u.at ≡ true
    → AreUndisturbed t.writes u.reads) us
    → AllByRecursion (λ (r : Read). Matches r (λ k. content_after (upto t.at) k (there k) us))
    t.reads → IsSerial there us → IsSerial there (placed t us)
serial_placed t [] there o apart reported serial = (reported, tt)
serial_placed t (u ∷ us) there o apart reported serial = elim (cases_Bool (is_before t.at u.at)) [
  | inl h ↦ let later : AllByRecursion (λ (v : Transaction). is_before t.at v.at ≡ true) (u ∷ us) =
      before_all t u us h o in
      rw h (
        each (λ (r : Read). Matches r (λ k. content_after (upto t.at) k (there k) (u ∷ us)))
            (λ (r : Read). Matches r there) t.reads
            (λ r m. matches_same r (λ k. content_after (upto t.at) k (there k) (u ∷ us)) there
            (λ k c. later_leave t.at k (there k) (u ∷ us) later) m) reported,
        undisturbed t.writes (u ∷ us) there (executed there t)
            (λ k n. sym (not_written k (there k) t.writes n))
            (each_two (λ (v : Transaction). is_before t.at v.at ≡ true)
            (λ (v : Transaction). is_before t.at v.at ≡ true → AreUndisturbed t.writes v.reads)
            (λ (v : Transaction). AreUndisturbed t.writes v.reads) (u ∷ us)
            (λ v b f. f b) later apart) serial,
      )
  | inr h ↦ rw h (
    serial.0,
    serial_placed t us (executed there u) o.1 apart.1
        (each (λ (r : Read). Matches r (λ k. content_after (upto t.at) k (there k) (u ∷ us)))
        (λ (r : Read). Matches r (λ k. content_after (upto t.at) k (executed there u k) us))
        t.reads
        (λ r m. matches_same r (λ k. content_after (upto t.at) k (there k) (u ∷ us))
        (λ k. content_after (upto t.at) k (executed there u k) us)
        (λ k c. ap (λ (b : Bool). content_after (upto t.at) k (if not b then
        after_writes k (there k) u.writes else there k) us) h) m) reported) serial.1,
  )
]

-- all versions of a key that transactions laid down, of which the last is given first
abbrev pub all_stored : List Transaction → KeyBytes → List Version
all_stored [] k = []
all_stored (t ∷ ts) k = stored k t.at t.by t.writes (all_stored ts k)
