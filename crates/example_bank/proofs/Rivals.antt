-- Two clients never both commit a claim of one span.
use Rattle.std.proofs.Common.{◌≡◌, ◌∙◌, ◌⊎◌, inl, inr, refl, sym, ap, subst, Bool, true, false, ℕ}
use Rattle.std.proofs.Common.{zero, suc, ◌<◌, List, [], ◌∷◌, ◌++◌, length, arith, Some, None}
use Rattle.std.proofs.Common.{if◌then◌else◌, is_some}
use Rattle.std.specs.Prelude.{◌==◌, ◌&&◌, All, reverse, Ok, Vec}
use Rattle.std.specs.declared.alloc.Global.{Global}
use Rattle.std.specs.List.{Contains}
use Rattle.std.specs.Str.{bytes_eq}
use Rattle.std.proofs.lemmas.Bool.{cases_Bool, both_ways}
use Rattle.std.proofs.lemmas.Bool.Decides.{nat_tests}
use Rattle.std.proofs.lemmas.Slice.Eq.{bytes_eq-Decides}
use Rattle.tsc_time.proofs.Members.{IsIn, Contains-from_IsIn}
use Rattle.tsc_span.specs.Span.{covers}
use Rattle.timestamp_cache.specs.Words.{Time, KeyBytes, SpanView, is_before}
use Rattle.mvcc_versions.specs.Versions.{Content, Row, Read, Write, as_of, is_written, after_writes}
use Rattle.mvcc_range.specs.declared.range.Outcome.{Outcome}
use Rattle.mvcc_range.specs.declared.range.Outcome.TheVariants.{Committed, Restart}
use Rattle.mvcc_range.specs.Serial.{Transaction, empty, IsSerial, serial_order, moved}
use Rattle.mvcc_range.specs.Steps.{RangeView}
use Rattle.mvcc_range.specs.Calls.{Reads, SeesOwn}
use Rattle.mvcc_shared.specs.declared.answers.Closed.{Closed}
use Rattle.mvcc_shared.specs.History.{Call, Event, History, Follows, calls_of, entries_of, log_of}
use Rattle.mvcc_shared.specs.Clients.{ClientView, DealerView}
use Rattle.mvcc_shared.specs.Answers.{Calls, ReadsAt, EndsAt, Closes}
use Rattle.mvcc_shared.specs.Laws.{Misses, NoWriteSkew}
use Rattle.mvcc_shared.proofs.Histories.{calls_append, log_push}
use Rattle.example_bank.specs.Claims.{committed, has_committed, FoundNothing, IsClaim, HasClaimed}

-- ---- one call of a client

-- the call of a client is one of its own
own_call : (number : ℕ) (e : Event) → e.client ≡ number → calls_of number (e ∷ []) ≡ e ∷ []
own_call number e own = let is : (e.client == number) ≡ true = grind (arith, nat_tests, own) in
    rw is refl

-- so what it commits is what it had committed, and what that call adds
pub more_committed : (old new : ClientView) (holds : RangeView → Call → RangeView → Type 0)
    (c : Calls old new holds) → committed new ≡ committed old ++ entries_of c.call
more_committed old new holds c =
    let n : ℕ = old.number in
    let e : Event = record { client = n; call = c.call; range = c.range } in
    ap (λ (k : ℕ). log_of (calls_of k new.seen)) c.goes_on.number
    ∙ ap (λ (h : History). log_of (calls_of n h)) c.seen
    ∙ ap log_of (calls_append n c.before (e ∷ []))
    ∙ ap (λ (h : History). log_of (calls_of n c.before ++ h)) (own_call n e refl)
    ∙ ap (λ (h : History). log_of (h ++ e ∷ [])) c.own
    ∙ log_push (calls_of n old.seen) e

-- ---- what a scan found

last_is_in : (rs : List Read) (r : Read) → IsIn (rs ++ r ∷ []) r
last_is_in [] r = inl refl
last_is_in (q ∷ rs) r = inr (last_is_in rs r)

-- where no rows were answered there was nothing
pub found_nothing : (old new : RangeView) (before after : Transaction) (span : SpanView)
    (now : Time) (rows : List Row) → Reads old new before after span now → SeesOwn old before span rows
    → before.writes ≡ [] → length rows ≡ 0 → FoundNothing span after
found_nothing old new before after span now (r ∷ rows) reads own none free =
    absurd (omega (arith, free))
found_nothing old new before after span now [] reads own none free = record {
  read = reads.read;
  among = Contains-from_IsIn after.reads reads.read
      (subst (λ (t : Transaction). IsIn t.reads reads.read) (sym reads.has)
      (last_is_in before.reads reads.read));
  of_span = reads.of;
  nothing = λ k within.
      reads.answers.matches.rows k
      (subst (λ (s : SpanView). covers s k ≡ true) (sym reads.of) within)
      ∙ sym (own.rows k within
      ∙ ap (λ (ws : List Write). after_writes k (as_of before.at old.chains k) ws) none);
}

-- ---- what a commit adds

-- the transaction that found nothing, and then wrote a key
pub is_claim : (span : SpanView) (t u : Transaction) (w : Write) (value : List ℕ) (at : Time)
    → FoundNothing span t → t.writes ≡ [] → covers span w.key ≡ true → w.content ≡ Some value
    → u ≡ record t { writes = t.writes ++ w ∷ [] } → IsClaim span (moved u at)
is_claim span t u w value at found none within content wrote = record {
  found = record {
    read = found.read;
    among = subst (λ (s : Transaction). Contains s.reads found.read) (sym wrote) found.among;
    of_span = found.of_span;
    nothing = found.nothing;
  };
  key = w.key;
  value = value;
  in_span = within;
  writes = ap (λ (s : Transaction). s.writes) wrote
      ∙ ap (λ (ws : List Write). ws ++ w ∷ []) none
      ∙ ap (λ (x : Content). record { key = w.key; content = x } ∷ []) content;
}

-- what the client has committed once its commit has ended
pub has_put : (span : SpanView) (client client' : ClientView) (t u : Transaction) (w : Write)
    (value : List ℕ) (now : Time) (outcome : Outcome) → committed client ≡ []
    → FoundNothing span t → t.writes ≡ [] → covers span w.key ≡ true → w.content ≡ Some value
    → u ≡ record t { writes = t.writes ++ w ∷ [] }
    → Calls client client' (λ old call new. EndsAt old call new u now (Ok outcome))
    → HasClaimed span client' (has_committed outcome)
has_put span old new t u w value now (Committed at) nothing found none within content wrote c = (
  moved u at,
  more_committed old new _ c ∙ ap (λ (ts : List Transaction). ts ++ entries_of c.call) nothing
      ∙ ap entries_of c.answers.ok.0,
  is_claim span t u w value at found none within content wrote,
)
has_put span old new t u w value now (Restart reason) nothing found none within content wrote c =
    more_committed old new _ c
    ∙ ap (λ (ts : List Transaction). ts ++ entries_of c.call) nothing
    ∙ ap entries_of c.answers.ok.0

-- a client that has scanned
pub has_looked : (span : SpanView) (client client' : ClientView) (t t' : Transaction) (now : Time)
    (rows : Vec Row Global) → committed client ≡ []
    → Calls client client' (λ old call new. ReadsAt old call new t t' span now (Ok rows))
    → committed client' ≡ []
has_looked span client client' t t' now rows nothing c =
    more_committed client client' _ c
    ∙ ap (λ (ts : List Transaction). ts ++ entries_of c.call) nothing
    ∙ ap entries_of c.answers.ok.0

-- ---- two clients

-- A list is made of two others, by taking the next of the one or of the other.
abbrev IsMerged : List Transaction → List Transaction → List Transaction → Type 0
IsMerged ts us [] = (ts ≡ []) × (us ≡ [])
IsMerged ts us (v ∷ vs) =
    ((rest : List Transaction) × (ts ≡ v ∷ rest) × IsMerged rest us vs)
    ⊎ ((rest : List Transaction) × (us ≡ v ∷ rest) × IsMerged ts rest vs)

from_first : (es ts us vs : List Transaction) → IsMerged ts us vs
    → IsMerged (es ++ ts) us (es ++ vs)
from_first [] ts us vs m = m
from_first (e ∷ es) ts us vs m = inl (es ++ ts, refl, from_first es ts us vs m)

from_second : (es ts us vs : List Transaction) → IsMerged ts us vs
    → IsMerged ts (es ++ us) (es ++ vs)
from_second [] ts us vs m = m
from_second (e ∷ es) ts us vs m = inr (es ++ us, refl, from_second es ts us vs m)

one_of_two : (n : ℕ) → n < 2 → (n ≡ 0) ⊎ (n ≡ 1)
one_of_two zero low = inl refl
one_of_two (suc zero) low = inr refl
one_of_two (suc (suc n)) low = absurd (omega (arith, low))

-- the log of a history of two clients
merged : (range : RangeView) (h : History) → Follows 2 range h
    → IsMerged (log_of (calls_of 0 h)) (log_of (calls_of 1 h)) (log_of h)
merged range [] f = (refl, refl)
merged range (e ∷ h) f = elim (one_of_two e.client f.0) [
  | inl is ↦ (
      let yes : (e.client == 0) ≡ true = grind (arith, nat_tests, is) in
      let no : (e.client == 1) ≡ false = grind (arith, nat_tests, is) in
      rw (yes, no) (from_first (entries_of e.call) (log_of (calls_of 0 h)) (log_of (calls_of 1 h))
      (log_of h) (merged e.range h f.2))
      )
  | inr is ↦ (
      let no : (e.client == 0) ≡ false = grind (arith, nat_tests, is) in
      let yes : (e.client == 1) ≡ true = grind (arith, nat_tests, is) in
      rw (no, yes) (from_second (entries_of e.call) (log_of (calls_of 0 h)) (log_of (calls_of 1 h))
      (log_of h) (merged e.range h f.2))
      )
]

same_heads : (a b : Transaction) (x y : List Transaction) → a ∷ x ≡ b ∷ y → (a ≡ b) × (x ≡ y)
same_heads a b x y e = (cc, cc)

no_head : (a : Transaction) (x : List Transaction) → [] ≡ a ∷ x → ⊥
no_head a x e = omega (arith, ap length e)

merged_none : (ts us vs : List Transaction) → ts ≡ [] → us ≡ [] → IsMerged ts us vs → vs ≡ []
merged_none ts us [] no_t no_u m = refl
merged_none ts us (v ∷ vs) no_t no_u (inl m) = absurd (no_head v m.0 (sym no_t ∙ m.1))
merged_none ts us (v ∷ vs) no_t no_u (inr m) = absurd (no_head v m.0 (sym no_u ∙ m.1))

merged_first : (ts us vs : List Transaction) (t : Transaction) → ts ≡ t ∷ [] → us ≡ []
    → IsMerged ts us vs → vs ≡ t ∷ []
merged_first ts us [] t one none m = absurd (no_head t [] (sym m.0 ∙ one))
merged_first ts us (v ∷ vs) t one none (inl m) =
    let s = same_heads t v [] m.0 (sym one ∙ m.1) in
    let left = merged_none m.0 us vs (sym s.1) none m.2 in
    (λ i. sym s.0 i ∷ left i)
merged_first ts us (v ∷ vs) t one none (inr m) = absurd (no_head v m.0 (sym none ∙ m.1))

merged_second : (ts us vs : List Transaction) (u : Transaction) → ts ≡ [] → us ≡ u ∷ []
    → IsMerged ts us vs → vs ≡ u ∷ []
merged_second ts us [] u none one m = absurd (no_head u [] (sym m.1 ∙ one))
merged_second ts us (v ∷ vs) u none one (inl m) = absurd (no_head v m.0 (sym none ∙ m.1))
merged_second ts us (v ∷ vs) u none one (inr m) =
    let s = same_heads u v [] m.0 (sym one ∙ m.1) in
    let left = merged_none ts m.0 vs none (sym s.1) m.2 in
    (λ i. sym s.0 i ∷ left i)

merged_two : (ts us vs : List Transaction) (t u : Transaction) → ts ≡ t ∷ [] → us ≡ u ∷ []
    → IsMerged ts us vs → (vs ≡ t ∷ u ∷ []) ⊎ (vs ≡ u ∷ t ∷ [])
merged_two ts us [] t u one two m = absurd (no_head t [] (sym m.0 ∙ one))
merged_two ts us (v ∷ vs) t u one two (inl m) =
    let s = same_heads t v [] m.0 (sym one ∙ m.1) in
    let left = merged_second m.0 us vs u (sym s.1) two m.2 in
    inl (λ i. sym s.0 i ∷ left i)
merged_two ts us (v ∷ vs) t u one two (inr m) =
    let s = same_heads u v [] m.0 (sym two ∙ m.1) in
    let left = merged_first ts m.0 vs t one (sym s.1) m.2 in
    inr (λ i. sym s.0 i ∷ left i)

-- ---- no two claims

bytes_same : (k : KeyBytes) → bytes_eq k k ≡ true
bytes_same k = (bytes_eq-Decides k k).1 refl

-- who reads misses what the other one writes
missed : (span : SpanView) (t u : Transaction) → IsClaim span t → IsClaim span u → Misses t u
missed span t u reader writer = record {
  read = reader.found.read;
  among = reader.found.among;
  key = writer.key;
  in_span = subst (λ (s : SpanView). covers s writer.key ≡ true) (sym reader.found.of_span)
      writer.in_span;
  written = subst (λ (ws : List Write). is_written writer.key ws ≡ true) (sym writer.writes)
      (rw (bytes_same writer.key) refl);
  other = λ same. none_is_some writer.value (
      sym (reader.found.nothing writer.key writer.in_span)
      ∙ same
      ∙ ap (λ (ws : List Write). after_writes writer.key None ws) writer.writes
      ∙ put writer.key writer.value);
}
  where
    none_is_some : (v : List ℕ) → None ≡ Some v → ⊥
    none_is_some v e = both_ways false refl (ap is_some e)

    put : (k : KeyBytes) (v : List ℕ)
        → after_writes k None (record { key = k; content = Some v } ∷ []) ≡ Some v
    put k v = rw (bytes_same k) refl

-- so they do not follow on one another
apart : NoWriteSkew → (span : SpanView) (t u : Transaction) → IsClaim span t → IsClaim span u
    → IsSerial empty (t ∷ u ∷ []) → ⊥
apart law span t u first second serial =
    law [] [] [] t u serial (missed span u t second first) tt

-- in neither order
no_order : NoWriteSkew → (span : SpanView) (t u : Transaction) → IsClaim span t → IsClaim span u
    → IsSerial empty (serial_order (u ∷ t ∷ [])) → ⊥
no_order law span t u first second serial = elim (cases_Bool (is_before u.at t.at)) [
  | inl before ↦ apart law span u t second first
      (subst (λ (b : Bool). IsSerial empty (if b then u ∷ t ∷ [] else t ∷ u ∷ [])) before serial)
  | inr behind ↦ apart law span t u first second
      (subst (λ (b : Bool). IsSerial empty (if b then u ∷ t ∷ [] else t ∷ u ∷ [])) behind serial)
]

-- what the first and the second of two clients are
first_of : (P : ClientView → Type 0) (all : List ClientView) (a b : ClientView)
    → all ≡ a ∷ b ∷ [] → All P all → P a
first_of P all a b are each = (subst (All P) are each) 0 a (omega arith)

second_of : (P : ClientView → Type 0) (all : List ClientView) (a b : ClientView)
    → all ≡ a ∷ b ∷ [] → All P all → P b
second_of P all a b are each = (subst (All P) are each) 1 b (omega arith)

-- at closing
both_claimed : NoWriteSkew → (dealer : DealerView) (all : List ClientView) (closed : Closed)
    (a b : ClientView) (span : SpanView) (t u : Transaction) → Closes dealer all closed
    → all ≡ a ∷ b ∷ [] → a.number ≡ 0 → b.number ≡ 1 → dealer.range.terms.clients ≡ 2
    → committed a ≡ t ∷ [] → IsClaim span t → committed b ≡ u ∷ [] → IsClaim span u → ⊥
both_claimed law dealer all closed a b span t u closes are is_a is_b two ends_a is_t ends_b is_u =
    let h : History = closes.history in
    let own : ClientView → Type 0 = λ c. calls_of c.number h ≡ calls_of c.number c.seen in
    let log_a : log_of (calls_of 0 h) ≡ t ∷ [] =
    subst (λ (n : ℕ). log_of (calls_of n h) ≡ t ∷ []) is_a
    (ap log_of (first_of own all a b are closes.own) ∙ ends_a) in
    let log_b : log_of (calls_of 1 h) ≡ u ∷ [] =
    subst (λ (n : ℕ). log_of (calls_of n h) ≡ u ∷ []) is_b
    (ap log_of (second_of own all a b are closes.own) ∙ ends_b) in
    let m = merged dealer.range.terms.opened h
    (subst (λ (n : ℕ). Follows n dealer.range.terms.opened h) two closes.legal.follows) in
    let serial : (ts : List Transaction) → log_of h ≡ ts
    → IsSerial empty (serial_order (reverse ts)) = λ ts is.
    subst (λ (l : List Transaction). IsSerial empty (serial_order (reverse l)))
    (closes.log ∙ is) closes.serializable.serial in
    elim (merged_two (log_of (calls_of 0 h)) (log_of (calls_of 1 h)) (log_of h) t u log_a log_b m) [
      | inl is ↦ no_order law span t u is_t is_u (serial (t ∷ u ∷ []) is)
      | inr is ↦ no_order law span u t is_u is_t (serial (u ∷ t ∷ []) is)
    ]

pub never_both : NoWriteSkew → (dealer : DealerView) (all : List ClientView) (closed : Closed)
    (a b : ClientView) (span : SpanView) (done done' : Bool) → Closes dealer all closed
    → all ≡ a ∷ b ∷ [] → a.number ≡ 0 → b.number ≡ 1 → dealer.range.terms.clients ≡ 2
    → HasClaimed span a done → HasClaimed span b done' → (done && done') ≡ false
never_both law dealer all closed a b span true true closes are is_a is_b two ends ends' =
    absurd (both_claimed law dealer all closed a b span ends.0 ends'.0 closes are is_a is_b two
    ends.1 ends.2 ends'.1 ends'.2)
never_both law dealer all closed a b span true false closes are is_a is_b two ends ends' = refl
never_both law dealer all closed a b span false done' closes are is_a is_b two ends ends' = refl
