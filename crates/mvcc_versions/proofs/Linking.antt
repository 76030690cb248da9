-- Versions that are put at the front of chains in a map.
use Rattle.std.proofs.Common.{◌≡◌, ◌∙◌, ap, sym, subst, inl, inr, ℕ, suc, ◌+◌, ◌^◌, ◌<◌, drop, List, [], ◌∷◌, ◌++◌, length, get_or, Bool, true, false, if◌then◌else◌, Some, None, Option, arith, length-append}
use Rattle.std.specs.Prelude.{
  unwrap_or,
  cond,
  Result,
  Ok,
  Err,
  IsOk,
  is_ok,
  option_to_list,
  MatchOption,
}
use Rattle.std.proofs.Common.{add-one, drop-cons}
use Rattle.std.specs.BTreeMap.{BTreeMap, get, Updates, IsUnchanged}
use Rattle.std.specs.Ordering.{is_eq}
use Rattle.std.specs.Str.{bytes_eq}
use Rattle.std.proofs.lemmas.Bool.{cases_Bool}
use Rattle.std.proofs.lemmas.Slice.Eq.{bytes_eq-Decides}
use Rattle.tsc_span.specs.Span.{key_cmp}
use Rattle.timestamp_cache.specs.Words.{Time, Owner, KeyBytes}
use Rattle.mvcc_versions.specs.Versions.{Version, Write, stored, Chains, chain_of}
use Rattle.mvcc_versions.specs.Maps.{IsRoom, HasRoom, HaveRoom}
use Rattle.mvcc_versions.proofs.RowsAsOf.{is_at-key}

abbrev Map : Type 0
Map = BTreeMap KeyBytes (List Version)

pub unchanged : (m n : Map) → IsUnchanged m n → (k : KeyBytes)
    → chain_of n.entries k ≡ chain_of m.entries k
unchanged m n e k = ap (λ (es : Chains). chain_of es k) e

-- ---- a chain without versions

pub added : (m n : Map) (key : KeyBytes) → get key_cmp m key ≡ None
    → Updates key_cmp m n key (Some []) → (k : KeyBytes)
    → chain_of n.entries k ≡ chain_of m.entries k
added m n key none u k = elim (cases_Bool (bytes_eq key k)) [
  | inl same ↦ let test : is_eq (key_cmp key k) ≡ true = is_at-key key k ∙ same in
      let gone : get key_cmp m k ≡ None = subst (λ (q : KeyBytes). get key_cmp m q ≡ None)
      ((bytes_eq-Decides key k).0 same) none in
      ap (λ (o : Option (List Version)). unwrap_or o []) (u.0 k
      ∙ ap (λ (b : Bool). cond b (Some []) (get key_cmp m k)) test)
      ∙ sym (ap (λ (o : Option (List Version)). unwrap_or o []) gone)
  | inr other ↦ let test : is_eq (key_cmp key k) ≡ false = is_at-key key k ∙ other in
      ap (λ (o : Option (List Version)). unwrap_or o []) (u.0 k
      ∙ ap (λ (b : Bool). cond b (Some []) (get key_cmp m k)) test)
]

pub added_room : (m n : Map) (key : KeyBytes) (count : ℕ) → count < 2 ^ 63
    → Updates key_cmp m n key (Some []) → HasRoom count n.entries key
added_room m n key count few u = subst (IsRoom count) (sym u.1) (omega (arith, few))

pub added_keeps : (m n : Map) (key : KeyBytes) (count : ℕ) → count < 2 ^ 63
    → Updates key_cmp m n key (Some []) → (k : KeyBytes) → HasRoom count m.entries k →
    HasRoom count n.entries k
added_keeps m n key count few u k room = elim (cases_Bool (bytes_eq key k)) [
  | inl same ↦ subst (λ (q : KeyBytes). HasRoom count n.entries q) ((bytes_eq-Decides key k).0 same)
      (added_room m n key count few u)
  | inr other ↦ let test : is_eq (key_cmp key k) ≡ false = is_at-key key k ∙ other in
      subst (IsRoom count) (sym (u.0 k
      ∙ ap (λ (b : Bool). cond b (Some []) (get key_cmp m k)) test)) room
]

-- ---- a version at the front of a chain

pub linked : (m n : Map) (key : KeyBytes) (node vs : List Version) → get key_cmp m key ≡ Some vs
    → Updates key_cmp m n key (Some (node ++ vs))
    → (k : KeyBytes) → chain_of n.entries k ≡ (if bytes_eq key k then node
    ++ chain_of m.entries k else chain_of m.entries k)
linked m n key node vs there u k = elim (cases_Bool (bytes_eq key k)) [
  | inl same ↦ let test : is_eq (key_cmp key k) ≡ true = is_at-key key k ∙ same in
      let own : get key_cmp m k ≡ Some vs = subst (λ (q : KeyBytes). get key_cmp m q ≡ Some vs)
      ((bytes_eq-Decides key k).0 same) there in
      rw same (ap (λ (o : Option (List Version)). unwrap_or o []) (u.0 k
      ∙ ap (λ (b : Bool). cond b (Some (node ++ vs)) (get key_cmp m k)) test)
      ∙ ap (λ (o : Option (List Version)). node ++ unwrap_or o []) (sym own))
  | inr other ↦ let test : is_eq (key_cmp key k) ≡ false = is_at-key key k ∙ other in
      rw other (ap (λ (o : Option (List Version)). unwrap_or o []) (u.0 k
      ∙ ap (λ (b : Bool). cond b (Some (node ++ vs)) (get key_cmp m k)) test))
]

less_room : (j : ℕ) (o : Option (List Version)) → IsRoom (j + 1) o → IsRoom j o
less_room j None room = room
less_room j (Some vs) room = omega (arith, room)

pub one_room : (j : ℕ) (o : Option (List Version)) → IsRoom (suc j) o → IsRoom 1 o
one_room j None room = room
one_room j (Some vs) room = omega (arith, room)

pub linked_room : (m n : Map) (key : KeyBytes) (node vs : List Version) → length node ≡ 1
    → get key_cmp m key ≡ Some vs → Updates key_cmp m n key (Some (node ++ vs))
    → (k : KeyBytes) (j : ℕ) → HasRoom (j + 1) m.entries k → HasRoom j n.entries k
linked_room m n key node vs one there u k j room = elim (cases_Bool (bytes_eq key k)) [
  | inl same ↦ let test : is_eq (key_cmp key k) ≡ true = is_at-key key k ∙ same in
      let own : get key_cmp m k ≡ Some vs = subst (λ (q : KeyBytes). get key_cmp m q ≡ Some vs)
      ((bytes_eq-Decides key k).0 same) there in
      let was : length vs + (j + 1) < 2 ^ 63 = subst (IsRoom (j + 1)) own room in
      subst (IsRoom j) (sym (u.0 k
      ∙ ap (λ (b : Bool). cond b (Some (node ++ vs)) (get key_cmp m k)) test)) (omega (
        arith,
        length-append node vs,
        one,
        was,
      ))
  | inr other ↦ let test : is_eq (key_cmp key k) ≡ false = is_at-key key k ∙ other in
      subst (IsRoom j) (sym (u.0 k
      ∙ ap (λ (b : Bool). cond b (Some (node ++ vs)) (get key_cmp m k)) test))
      (less_room j (get key_cmp m k) room)
]

-- ---- write by write

-- what holds of each of some holds of each where it goes on
pub have_room : (n j : ℕ) (m next : Map) (ws : List Write) → ((k : KeyBytes) → HasRoom n m.entries k
    → HasRoom j next.entries k) → HaveRoom n m.entries ws → HaveRoom j next.entries ws
have_room n j m next [] keeps all = tt
have_room n j m next (w ∷ ws) keeps all = (keeps w.key all.0, have_room n j m next ws keeps all.1)

pub more_room : (n : ℕ) (m : Map) (ws : List Write) (w : Write) → HaveRoom n m.entries ws
    → HasRoom n m.entries w.key → HaveRoom n m.entries (ws ++ w ∷ [])
more_room n m [] w all one = (one, tt)
more_room n m (x ∷ ws) w all one = (all.0, more_room n m ws w all.1 one)

-- a join of lists that has room takes place
pub joined : {T E : Type 0} (r : Result T E) (x a b : List Version) → IsOk r
    → x ≡ (if is_ok r then a else b) → x ≡ a
joined (Ok t) x a b ok e = e
joined (Err f) x a b ok e = absurd (let never : false ≡ true = ok in cc)

pub room_for_one : (node vs : List Version) → length node ≡ 1 → IsRoom 1 (Some vs)
    → length node + length vs < 2 ^ 63
room_for_one node vs one room = omega (arith, one, room)

-- ---- the next write

pub next_write : (ws : List Write) (i : ℕ) (w : Write) → i < length ws → get_or ws i w ≡ w
    → drop i ws ≡ w ∷ drop (i + 1) ws
next_write ws i w below is = rw add-one (drop-cons ws i w below
    ∙ ap (λ (x : Write). x ∷ drop (suc i) ws) is)

-- the first of some versions is the next one
pub popped : (r : Option (List Version)) (rest new ns : List (List Version)) (n : List Version)
    → rest ≡ option_to_list r ++ new → rest ≡ n ∷ ns → MatchOption r ((rest ≡ [])
    × (new ≡ [])) (λ _. length new + 1 ≡ length rest)
    → (r ≡ Some n) × (new ≡ ns)
popped None rest new ns n e f c = absurd (let never : [] ≡ n ∷ ns = sym c.0 ∙ f in cc)
popped (Some m) rest new ns n e f c = let same : m ∷ new ≡ n ∷ ns = sym e ∙ f in
    (let one : m ≡ n = cc in ap (λ (x : List Version). Some x) one, cc)

abbrev one_version : Time → Owner → Write → List Version
one_version at by w = record { at = at; by = by; content = w.content } ∷ []

pub room_on : (ws : List Write) (i : ℕ) (w : Write) (m next : Map) → drop i ws ≡ w ∷ drop (i + 1) ws
    → ((k : KeyBytes) (n : ℕ) → HasRoom (n + 1) m.entries k → HasRoom n next.entries k)
    → HaveRoom (length (drop i ws)) m.entries ws →
    HaveRoom (length (drop (i + 1) ws)) next.entries ws
room_on ws i w m next d keeps room =
    let j : ℕ = length (drop (i + 1) ws) in
    let long : length (drop i ws) ≡ j + 1 = ap (λ (xs : List Write). length xs) d
    ∙ sym (add-one j) in
    have_room (length (drop i ws)) j m next ws
    (λ k has. keeps k j (subst (λ (n : ℕ). HasRoom n m.entries k) long has)) room

pub stored_on : (ws : List Write) (i : ℕ) (w : Write) (at : Time) (by : Owner) (old m next : Map)
    (node : List Version) → drop i ws ≡ w ∷ drop (i + 1) ws → node ≡ one_version at by w
    → ((k : KeyBytes) → chain_of next.entries k ≡ (if bytes_eq w.key k then node
    ++ chain_of m.entries k else chain_of m.entries k))
    → ((k : KeyBytes) → stored k at by (drop i ws) (chain_of m.entries k) ≡ stored k at by ws
    (chain_of old.entries k))
    → (k : KeyBytes) → stored k at by (drop (i + 1) ws) (chain_of next.entries k) ≡ stored k at by
    ws (chain_of old.entries k)
stored_on ws i w at by old m next node d is chains so_far k =
    ap (λ (vs : List Version). stored k at by (drop (i + 1) ws) vs) (chains k
    ∙ ap (λ (x : List Version). if bytes_eq w.key k then x ++ chain_of m.entries k else
    chain_of m.entries k) is)
    ∙ (sym (ap (λ (xs : List Write). stored k at by xs (chain_of m.entries k)) d) ∙ so_far k)
