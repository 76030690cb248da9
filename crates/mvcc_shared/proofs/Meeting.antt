-- Commits that clients have seen, and writes that transactions missed.
use Rattle.std.proofs.Common.{◌≡◌, ◌∙◌, inl, inr, refl, sym, ap, subst, true, false, List, [], ◌∷◌}
use Rattle.std.proofs.Common.{◌++◌, append_assoc, None, if◌then◌else◌, Bool}
use Rattle.std.specs.Prelude.{reverse}
use Rattle.std.specs.List.{AllByRecursion}
use Rattle.std.specs.Str.{bytes_eq}
use Rattle.std.proofs.lemmas.Bool.{cases_Bool, both_ways}
use Rattle.std.proofs.lemmas.List.{reverse-append}
use Rattle.tsc_time.proofs.Members.{IsIn, IsIn-from_Contains}
use Rattle.timestamp_cache.specs.Words.{KeyBytes}
use Rattle.mvcc_versions.specs.Versions.{Content, Contents, Write, Read, Matches, is_written}
use Rattle.mvcc_versions.specs.Versions.{after_writes}
use Rattle.mvcc_range.specs.Serial.{
  Transaction,
  empty,
  executed,
  executed_all,
  IsSerial,
  moved,
  serial_order,
}
use Rattle.mvcc_shared.specs.History.{Event, History, log_of, entries_of}
use Rattle.mvcc_shared.specs.Laws.{Precedes, StrictForThoseWhoMeet, LeavesAlone, NoWriteSkew}
use Rattle.mvcc_shared.proofs.Histories.{log_append, log_push}
use Rattle.mvcc_shared.proofs.Lawful.{strict_by_times}

-- ---- those who meet

-- the log of a history with a commit, the last one first
log_behind : (h g r : History) (e : Event) (t : Transaction) → entries_of e.call ≡ t ∷ []
    → g ≡ (h ++ e ∷ []) ++ r
    → reverse (log_of g) ≡ reverse (log_of r) ++ t ∷ reverse (log_of h)
log_behind h g r e t is whole =
    ap (λ (x : History). reverse (log_of x)) whole
    ∙ ap (λ (l : List Transaction). reverse l) (log_append (h ++ e ∷ []) r)
    ∙ reverse-append (log_of (h ++ e ∷ [])) (log_of r)
    ∙ ap (λ (l : List Transaction). reverse (log_of r) ++ l)
    (ap (λ (l : List Transaction). reverse l)
    (log_push h e ∙ ap (λ (l : List Transaction). log_of h ++ l) is)
    ∙ reverse-append (log_of h) (t ∷ []))

pub strict_for_those_who_meet : StrictForThoseWhoMeet
strict_for_those_who_meet first before whole c d t u now at now' at' is is' seen all late =
    let one : List Transaction = reverse (log_of first) in
    let two : List Transaction = reverse (log_of seen.0) in
    let three : List Transaction = reverse (log_of all.0) in
    let log : reverse (log_of whole) ≡ three ++ moved u at' ∷ (two ++ moved t at ∷ one) =
    log_behind before whole all.0 d (moved u at') (ap entries_of is') all.1
    ∙ ap (λ (l : List Transaction). three ++ moved u at' ∷ l)
    (log_behind first before seen.0 c (moved t at) (ap entries_of is) seen.1) in
    subst (λ (l : List Transaction). Precedes (serial_order l) (moved t at) (moved u at'))
    (append_assoc three (moved u at' ∷ two) (moved t at ∷ one) ∙ sym log)
    (strict_by_times (moved t at) (moved u at') three two one late)

-- ---- what was missed

among : {X : Type 0} (P : X → Type 0) (xs : List X) (x : X) → AllByRecursion P xs → IsIn xs x → P x
among P [] x all is = absurd is
among P (y ∷ xs) x all (inl same) = subst P same all.0
among P (y ∷ xs) x all (inr later) = among P xs x all.1 later

-- what comes behind some transactions is serial in the store that they leave
serial_behind : (there : Contents) (ts us : List Transaction) → IsSerial there (ts ++ us)
    → IsSerial (executed_all there ts) us
serial_behind there [] us serial = serial
serial_behind there (t ∷ ts) us serial = serial_behind (executed there t) ts us serial.1

-- a key that is not written stays as it was
unwritten : (k : KeyBytes) (c : Content) (ws : List Write) → is_written k ws ≡ false
    → after_writes k c ws ≡ c
unwritten k c [] none = refl
unwritten k c (w ∷ ws) none = elim (cases_Bool (bytes_eq w.key k)) [
  | inl same ↦ absurd (both_ways true
      (sym (ap (λ (b : Bool). if b then true else is_written k ws) same) ∙ none) refl)
  | inr other ↦ rw other (unwritten k c ws
      (sym (ap (λ (b : Bool). if b then true else is_written k ws) other) ∙ none))
]

left_alone : (k : KeyBytes) (there : Contents) (ts : List Transaction) → LeavesAlone k ts
    → executed_all there ts k ≡ there k
left_alone k there [] none = refl
left_alone k there (t ∷ ts) none = left_alone k (executed there t) ts none.1
    ∙ unwritten k (there k) t.writes none.0

-- and one that is written has what was written, whatever it had
written : (k : KeyBytes) (c : Content) (ws : List Write) → is_written k ws ≡ true
    → after_writes k c ws ≡ after_writes k None ws
written k c [] some = absurd (both_ways false refl some)
written k c (w ∷ ws) some = elim (cases_Bool (bytes_eq w.key k)) [
  | inl same ↦ rw same refl
  | inr other ↦ rw other (written k c ws
      (sym (ap (λ (b : Bool). if b then true else is_written k ws) other) ∙ some))
]

pub no_write_skew : NoWriteSkew
no_write_skew before between after t u serial m alone =
    let was : Contents = executed_all empty before in
    let there : Contents = executed_all (executed was t) between in
    let its = serial_behind empty before (t ∷ (between ++ u ∷ after))
    (subst (IsSerial empty) (append_assoc before (t ∷ between) (u ∷ after)) serial) in
    let its_turn = serial_behind (executed was t) between (u ∷ after) its.1 in
    let matches = among (λ (r : Read). Matches r there) u.reads m.read its_turn.0
    (IsIn-from_Contains u.reads m.read m.among) in
    m.other (matches.rows m.key m.in_span ∙ left_alone m.key (executed was t) between alone
    ∙ written m.key (was m.key) t.writes m.written)
