-- A handle for each seat, with a token.
use Rattle.std.proofs.Common.{◌≡◌, ◌∙◌, refl, sym, ap, Some, ℕ, zero, suc, ◌+◌, ◌<◌, List, [], ◌∷◌, ◌++◌, length, map, append_assoc, append-nil, arith}
use Rattle.std.proofs.lemmas.List.{length_push}
use Rattle.tsc_ffi_store.specs.declared.seats.kinds.AnyCache.{AnyCache}
use Rattle.tsc_ffi_store.specs.declared.seats.kinds.AnyCache.TheVariants as kind
use Rattle.tsc_ffi_store.specs.declared.seats.kinds.AnySeat.{AnySeat}
use Rattle.tsc_ffi_store.specs.Kinds.{cache_of, number_of, new_any_seat, new_any_seats}
use Rattle.atomic_table.specs.Seated.{TableId}
use Rattle.tsc_ffi_store.specs.Owners.{HandleView, handle_of}
use Rattle.tsc_ffi_store.specs.ReturnSlots.{dealing, keeping}
use Rattle.tsc_ffi_store.specs.ReturnSteps.{At}

-- Handles were made for the seats up to one; the others are left, and so are their tokens.
pub record Dealing (cache : AnyCache) (table : TableId) (seats : ℕ) (me : At)
    (handles : List HandleView) (rest : List AnySeat) : Type 0 where
  pub left : ℕ
  pub all : length handles + left ≡ seats
  pub others : rest ≡ new_any_seats cache (length handles) left
  pub made : handles ++ map (handle_of table) rest ≡ map (handle_of table) (new_any_seats cache 0 seats)
  pub tokens : me ≡ (dealing (Some cache) (length handles) (seats + seats) 0, [])

pub none_dealt : (cache : AnyCache) (table : TableId) (seats : ℕ) (me : At)
    (all : List AnySeat) → all ≡ new_any_seats cache 0 seats → me ≡ (dealing (Some cache) 0 (seats + seats) 0, []) →
    Dealing cache table seats me [] all
none_dealt cache table seats me all is known = record {
  left = seats;
  all = omega arith;
  others = is;
  made = ap (λ (l : List AnySeat). map (handle_of table) l) is;
  tokens = known;
}

-- a new seat is of its cache, and has its number
new_cache : (c : AnyCache) (number : ℕ) → cache_of (new_any_seat c number) ≡ c
new_cache (kind.Shared c) number = refl
new_cache (kind.Striped c) number = refl

new_number : (c : AnyCache) (number : ℕ) → number_of (new_any_seat c number) ≡ number
new_number (kind.Shared c) number = refl
new_number (kind.Striped c) number = refl

-- the first of new seats
head_or : AnySeat → List AnySeat → AnySeat
head_or d [] = d
head_or d (x ∷ xs) = x

tail_of : List AnySeat → List AnySeat
tail_of [] = []
tail_of (x ∷ xs) = xs

pub record IsNext (cache : AnyCache) (seats : ℕ) (number : ℕ) (seat : AnySeat)
    (rest : List AnySeat) : Type 0 where
  pub is : seat ≡ new_any_seat cache number
  pub left : ℕ
  pub all : number + suc left ≡ seats
  pub others : rest ≡ new_any_seats cache (suc number) left

is_next : (cache : AnyCache) (seats number left : ℕ) (seat : AnySeat) (rest : List AnySeat) →
    number + left ≡ seats → seat ∷ rest ≡ new_any_seats cache number left →
    IsNext cache seats number seat rest
unfolding head_or tail_of
is_next cache seats number zero seat rest all is = absurd (omega (arith, ap length is))
is_next cache seats number (suc left) seat rest all is =
    record { is = ap (head_or seat) is; left = left; all = all; others = ap tail_of is }

pub next_of : (cache : AnyCache) (table : TableId) (seats : ℕ) (me : At)
    (handles : List HandleView) (rest rest' : List AnySeat) (seat : AnySeat) →
    Dealing cache table seats me handles rest → rest ≡ seat ∷ rest' →
    IsNext cache seats (length handles) seat rest'
next_of cache table seats me handles rest rest' seat d is =
    is_next cache seats (length handles) d.left seat rest' d.all (sym is ∙ d.others)

pub next_cache : (cache : AnyCache) (table : TableId) (seats : ℕ) (me : At)
    (handles : List HandleView) (rest rest' : List AnySeat) (seat : AnySeat) →
    Dealing cache table seats me handles rest → rest ≡ seat ∷ rest' →
    (cache_of seat) ≡ cache
next_cache cache table seats me handles rest rest' seat d is =
    ap (λ (s : AnySeat). cache_of s) (next_of cache table seats me handles rest rest' seat d is).is
    ∙ new_cache cache (length handles)

pub next_number : (cache : AnyCache) (table : TableId) (seats : ℕ) (me : At)
    (handles : List HandleView) (rest rest' : List AnySeat) (seat : AnySeat) →
    Dealing cache table seats me handles rest → rest ≡ seat ∷ rest' →
    (number_of seat) ≡ length handles
next_number cache table seats me handles rest rest' seat d is =
    ap (λ (s : AnySeat). number_of s) (next_of cache table seats me handles rest rest' seat d is).is
    ∙ new_number cache (length handles)

pub next_low : (cache : AnyCache) (table : TableId) (seats : ℕ) (me : At)
    (handles : List HandleView) (rest rest' : List AnySeat) (seat : AnySeat) →
    Dealing cache table seats me handles rest → rest ≡ seat ∷ rest' →
    (number_of seat) < seats
next_low cache table seats me handles rest rest' seat d is =
    let n = next_number cache table seats me handles rest rest' seat d is in let k =
    next_of cache table seats me handles rest rest' seat d is in let all =
    k.all in omega (arith, n, all)

pub next_dealt : (cache : AnyCache) (table : TableId) (seats : ℕ) (me me' : At)
    (handles handles' : List HandleView) (rest rest' : List AnySeat) (seat : AnySeat) →
    Dealing cache table seats me handles rest → rest ≡ seat ∷ rest'
    → handles' ≡ handles ++ handle_of table seat ∷ [] →
    me' ≡ (dealing (Some cache) ((number_of seat) + 1) (seats + seats) 0, []) → Dealing cache table seats me' handles' rest'
next_dealt cache table seats me me' handles handles' rest rest' seat d is pushed known =
    let k = next_of cache table seats me handles rest rest' seat d is in let all = k.all in
    let long : length handles' ≡ suc (length handles) = ap length pushed ∙
    omega (arith, length_push handles (handle_of table seat)) in
    record {
      left = k.left;
      all = omega (arith, long, all);
      others = k.others ∙ ap (λ (n : ℕ). new_any_seats cache n k.left) (sym long);
      made = ap (λ (cs : List HandleView). cs ++ map (handle_of table) rest') pushed ∙
          append_assoc handles (handle_of table seat ∷ []) (map (handle_of table) rest') ∙
          ap (λ (cs : List AnySeat). handles ++ map (handle_of table) cs) (sym is) ∙ d.made;
      tokens = known ∙ ap (λ (n : ℕ). (dealing (Some cache) n (seats + seats) 0, []))
          (omega (arith, long, next_number cache table seats me handles rest rest' seat d is));
    }

none_left : (cache : AnyCache) (number left : ℕ) → [] ≡ new_any_seats cache number left → left ≡ 0
none_left cache number zero e = refl
none_left cache number (suc left) e = absurd (omega (arith, ap length e))

pub all_dealt : (cache : AnyCache) (table : TableId) (seats : ℕ) (me : At)
    (handles : List HandleView) (rest : List AnySeat) →
    Dealing cache table seats me handles rest → rest ≡ [] →
    (handles ≡ map (handle_of table) (new_any_seats cache 0 seats)) ×
    (me ≡ (keeping cache seats 0 [] me.0.missed, [])) × (me.0.missed ≡ [])
all_dealt cache table seats me handles rest d is =
    let none = none_left cache (length handles) d.left (sym is ∙ d.others) in let all = d.all in
    let known : me ≡ (keeping cache seats 0 [] [], []) = d.tokens ∙
    ap (λ (n : ℕ). (dealing (Some cache) n (seats + seats) 0, [])) (omega (arith, all, none)) in (
      sym (append-nil handles) ∙ ap (λ (cs : List AnySeat). handles ++ map (handle_of table) cs) (sym is) ∙
          d.made,
      known ∙ ap (λ (m : At). (keeping cache seats 0 [] m.0.missed, [])) (sym known),
      ap (λ (m : At). m.0.missed) known,
    )
