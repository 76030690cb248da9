-- Reading JSON values from tokens, one after the other.
use Rattle.std.proofs.Common.{◌≡◌, ℕ, suc, ◌-◌, ◌<◌, ◌≤◌, List, [], ◌∷◌, ◌++◌, length, Option, Some, None, Result, option_map, option_and_then, refl, ap, ◌∙◌, arith}
use Rattle.json.specs.Token.{Token}
use Rattle.json.specs.Lex.{tokens}
use Rattle.json.specs.Json as json
use Rattle.json.specs.Json.{Parse, parse_map, after_end_array, read_key, items, members, value, if_last}
use Rattle.json.proofs.Grammar.{value_is, value-begin_array, value-begin_object, items_end, items_more, members_end, members_more, after_end_array-shorter, read_key-shorter}
use Rattle.serde_json.specs.Data.{Data, unsigned, null, number, string, array, object, Items, no_items, item, Members, no_members, put}
use Rattle.serde_json.specs.Read.{number_of, of_json, of_items, of_members, converted, read}
use Rattle.tsc_trace_fast.specs.TokenReads.{Reads, Got, prepend, HasItems, HasMembers}
use Rattle.tsc_trace_format.specs.TraceData.{list_data}
use Rattle.serde_json.specs.View.{items_of}

-- ---- a value and what follows it, under the conversion to data

abbrev pick : {A : Type 0} → A → Option A → A
pick d None = d
pick d (Some a) = a

pair_of : {A B : Type 0} (a : A) (r s : List Token) (x : Option B) (b : B) →
    option_map {U = B × List Token} (λ y. (y, r)) x ≡ Some (b, s) → (r ≡ s) × (x ≡ Some b)
pair_of a r s None b e = absurd (cc)
pair_of a r s (Some y) b e = let same =
    ap (pick (y, r)) e in (ap (λ p. p.1) same, ap (λ p. Some p.0) same)

converted_some : {A B : Type 0} (f : A → Option B) (o : Option (A × List Token)) (b : B)
    (r : List Token) → converted f o ≡ Some (b, r) → (a : A) × (o ≡ Some (a, r)) × (f a ≡ Some b)
converted_some f None b r e = absurd (cc)
converted_some f (Some p) b r e = let both =
    pair_of p.0 p.1 r (f p.0) b e in (p.0, ap (λ s. Some (p.0, s)) both.0, both.1)

twice : {A B : Type 0} (g : A → B) (r : List Token) (x : Option A) →
    option_map (λ b. (b, r)) (option_map g x) ≡ parse_map g (option_map (λ a. (a, r)) x)
twice g r None = refl
twice g r (Some a) = refl

converted-array : (o : Option (json.Items × List Token)) →
    converted of_json (parse_map json.array o) ≡ parse_map array (converted of_items o)
converted-array None = refl
converted-array (Some p) = twice array p.1 (of_items p.0)

converted-object : (o : Option (json.Members × List Token)) →
    converted of_json (parse_map json.object o) ≡ parse_map object
    (converted (λ ms. of_members ms no_members) o)
converted-object None = refl
converted-object (Some p) = twice object p.1 (of_members p.0 no_members)

with_item : (j : json.Json) (d : Data) → of_json j ≡ Some d →
    (o : Option (json.Items × List Token)) →
    converted of_items (parse_map (json.item j) o) ≡ parse_map (item d) (converted of_items o)
with_item j d e None = refl
with_item j d e (Some p) = rw e (twice (item d) p.1 (of_items p.0))

with_member : (k : List ℕ) (j : json.Json) (d : Data) (old : Members) → of_json j ≡ Some d →
    (o : Option (json.Members × List Token))
    → converted (λ ms. of_members ms old) (parse_map (json.member k j) o) ≡
    converted (λ ms. of_members ms (put k d old)) o
with_member k j d old e None = refl
with_member k j d old e (Some p) = rw e

item_read : (p : Parse json.Json) (n : ℕ) (ts r : List Token) (d : Data) → 0 < n →
    after_end_array ts ≡ None → converted of_json (p ts) ≡ Some (d, r)
    → converted of_items (items p n ts) ≡ parse_map (item d)
    (converted of_items (items p (n - 1) r))
item_read p n ts r d some going e = let j =
    converted_some of_json (p ts) d r e in ap (converted of_items)
    (items_more p n ts r j.0 some going j.1) ∙ with_item j.0 d j.2 _

member_read : (p : Parse json.Json) (old : Members) (n : ℕ) (k : List ℕ) (ts s r : List Token)
    (d : Data) → 0 < n → read_key ts ≡ Some (Some k, s) → converted of_json (p s) ≡ Some (d, r)
    → converted (λ ms. of_members ms old) (members p n ts) ≡
    converted (λ ms. of_members ms (put k d old)) (members p (n - 1) r)
member_read p old n k ts s r d some key e =
    let j = converted_some of_json (p s) d r e in
    ap (converted (λ ms. of_members ms old)) (members_more p n k ts s r j.0 some key j.1) ∙
    with_member k j.0 d old j.2 _

-- ---- values of one token

pub number_reads : (old new : List Token) (s : List ℕ) (n : ℕ) → old ≡ Token.number s ∷ new →
    number_of s ≡ Some (unsigned n) → Reads 0 old (number (unsigned n)) new
number_reads old new s n is e =
    record {
      read = λ m le. ap (λ ts. converted of_json (value m ts)) is ∙
          ap (converted of_json) (value_is m (Token.number s ∷ new)) ∙ rw e refl;
      going = rw is refl;
      shorter = rw is (omega arith);
    }

pub string_reads : (old new : List Token) (s : List ℕ) → old ≡ Token.string s ∷ new →
    Reads 0 old (string s) new
string_reads old new s is =
    record {
      read = λ m le. ap (λ ts. converted of_json (value m ts)) is ∙
          ap (converted of_json) (value_is m (Token.string s ∷ new));
      going = rw is refl;
      shorter = rw is (omega arith);
    }

pub null_reads : (old new : List Token) → old ≡ Token.null ∷ new → Reads 0 old null new
null_reads old new is =
    record {
      read = λ m le. ap (λ ts. converted of_json (value m ts)) is ∙
          ap (converted of_json) (value_is m (Token.null ∷ new));
      going = rw is refl;
      shorter = rw is (omega arith);
    }

-- what nests less deep
pub deeper : (j k : ℕ) (old new : List Token) (d : Data) → j ≤ k → Reads j old d new →
    Reads k old d new
deeper j k old new d le r = record {
  read = λ n more. r.read n (omega (arith, le, more));
  going = r.going;
  shorter = r.shorter;
}

pub got_deeper : {A F : Type 0} (f : Data → Result A F) (j k : ℕ) (old new : List Token) (x : A) →
    j ≤ k → Got j f old x new → Got k f old x new
got_deeper f j k old new x le g = (g.0, deeper j k old new g.0 le g.1, g.2)

-- ---- arrays

none_before : (r : Option (Items × List Token)) → r ≡ parse_map (prepend []) r
none_before None = refl
none_before (Some p) = refl

prepend_one : (ds : List Data) (d : Data) (rest : Items) →
    prepend ds (item d rest) ≡ prepend (ds ++ d ∷ []) rest
prepend_one [] d rest = refl
prepend_one (e ∷ ds) d rest = ap (item e) (prepend_one ds d rest)

one_more : (ds : List Data) (d : Data) (r : Option (Items × List Token)) →
    parse_map (prepend ds) (parse_map (item d) r) ≡ parse_map (prepend (ds ++ d ∷ [])) r
one_more ds d None = refl
one_more ds d (Some p) = ap (λ xs. Some (xs, p.1)) (prepend_one ds d p.0)

prepend_all : (ds : List Data) → prepend ds no_items ≡ items_of ds
prepend_all [] = refl
prepend_all (d ∷ ds) = ap (item d) (prepend_all ds)

pub items_begin : (deep : ℕ) (all : List Token) → HasItems deep all [] all
items_begin deep all = record {
  turns = length all;
  enough = omega arith;
  within = omega arith;
  read = λ n le. none_before _;
}

pub items_go_on : (deep : ℕ) (all now new : List Token) (ds : List Data) (d : Data) →
    HasItems deep all ds now → Reads deep now d new → HasItems deep all (ds ++ d ∷ []) new
items_go_on deep all now new ds d h r =
    let some : 0 < h.turns = omega (arith, h.enough, r.shorter) in
    record {
      turns = h.turns - 1;
      enough = omega (arith, h.enough, r.shorter);
      within = omega (arith, h.within, r.shorter);
      read = λ n le. h.read n le ∙
          ap (parse_map (prepend ds))
          (item_read (value n) h.turns now new d some r.going (r.read n le)) ∙ one_more ds d _;
    }

pub items_over : (deep : ℕ) (old all now new : List Token) (ds : List Data) →
    old ≡ Token.begin_array ∷ all → HasItems deep all ds now → after_end_array now ≡ Some new →
    Reads (suc deep) old (list_data ds) new
items_over deep old all now new ds is h over =
    let less = after_end_array-shorter now new over in
    record {
      read = λ n le.
          let some : 0 < n = omega (arith, le) in
          let fits : deep ≤ n - 1 = omega (arith, le) in
          ap (λ ts. converted of_json (value n ts)) is ∙
          ap (converted of_json) (value-begin_array n all some) ∙
          converted-array (items (value (n - 1)) (length all) all)
          ∙ ap (parse_map array) (h.read (n - 1) fits ∙
          ap (λ o. parse_map (prepend ds) (converted of_items o))
          (items_end (value (n - 1)) h.turns now new h.enough over))
          ∙ ap (λ xs. Some (array xs, new)) (prepend_all ds);
      going = rw is refl;
      shorter = rw is (omega (arith, less, h.within));
    }

-- ---- objects

pub members_begin : (deep : ℕ) (all : List Token) → HasMembers deep all no_members all
members_begin deep all = record {
  turns = length all;
  enough = omega arith;
  within = omega arith;
  read = λ n le. refl;
}

-- a name and its value were read
pub member_shorter : (deep : ℕ) (now mid new : List Token) (k : List ℕ) (d : Data) →
    read_key now ≡ Some (Some k, mid) → Reads deep mid d new → length new < length now
member_shorter deep now mid new k d key r = let less =
    read_key-shorter now (Some k) mid key in omega (arith, less, r.shorter)

pub members_go_on : (deep : ℕ) (all now mid new : List Token) (found : Members) (k : List ℕ)
    (d : Data) → HasMembers deep all found now → read_key now ≡ Some (Some k, mid) →
    Reads deep mid d new
    → HasMembers deep all (put k d found) new
members_go_on deep all now mid new found k d h key r =
    let less = read_key-shorter now (Some k) mid key in
    let some : 0 < h.turns = omega (arith, h.enough, r.shorter, less) in
    record {
      turns = h.turns - 1;
      enough = omega (arith, h.enough, r.shorter, less);
      within = omega (arith, h.within, r.shorter, less);
      read = λ n le. h.read n le ∙
          member_read (value n) found h.turns k now mid new d some key (r.read n le);
    }

pub members_over : (deep : ℕ) (old all now new : List Token) (found : Members) →
    old ≡ Token.begin_object ∷ all → HasMembers deep all found now →
    read_key now ≡ Some (None, new) → Reads (suc deep) old (object found) new
members_over deep old all now new found is h over =
    let less = read_key-shorter now None new over in
    record {
      read = λ n le.
          let some : 0 < n = omega (arith, le) in
          let fits : deep ≤ n - 1 = omega (arith, le) in
          ap (λ ts. converted of_json (value n ts)) is ∙
          ap (converted of_json) (value-begin_object n all some) ∙
          converted-object (members (value (n - 1)) (length all) all)
          ∙ ap (parse_map object) (h.read (n - 1) fits ∙
          ap (converted (λ ms. of_members ms found))
          (members_end (value (n - 1)) h.turns now new h.enough over));
      going = rw is refl;
      shorter = rw is (omega (arith, less, h.within));
    }

-- ---- the whole text

whole : Option (json.Json × List Token) → Option Data
whole o = option_and_then of_json (option_and_then (λ p. if_last p.0 p.1) o)

pub text_read : (text : List ℕ) (deep : ℕ) (d : Data) (new : List Token) → deep ≤ 127 → new ≡ [] →
    Reads deep (tokens text) d new → read text ≡ Some d
text_read text deep d new le none r =
    let j = converted_some of_json (value 127 (tokens text)) d []
    (r.read 127 le ∙ ap (λ rest. Some (d, rest)) none) in
    ap (λ o. option_and_then of_json (option_and_then (λ p. if_last p.0 p.1) o)) j.1 ∙ j.2
