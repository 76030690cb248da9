-- The steps at the slots in which seats are returned keep their rule.
use Rattle.std.proofs.Common.{◌≡◌, ◌≢◌, ◌⊎◌, ◌∙◌, inl, inr, refl, sym, ap, subst, true, false, true≢false, All, ℕ, zero, suc, ◌+◌, ◌<◌, List, [], ◌∷◌, ◌++◌, length, map, set, arith, slice_index, length-set, get_or-set_other, get_or-set_same, ◌≤◌, rules}
use Rattle.std.specs.Prelude.{Option, Some, None, replicate, slice_get, slice_index_or}
use mathlib.Core.Logic.{dite}
use native.Mathlib.Decide.{ℕ_discrete}
use mathlib.Core.Option as maybe
use mathlib.Core.Option.{some-injective, some-ne-none}
use lib.ListN.{get_elem?}
use lib.Seq.{set-get_or}
use Rattle.std.proofs.lemmas.List.{get_or-replicate, length-replicate, length-map}
use Rattle.std.proofs.lemmas.List.Elements.{All-nil, All-cons, All-append, All-weaker}
use Rattle.atomic_table.proofs.Lists.{at_set, set_here, set_else, some_there}
use Rattle.atomic_table.specs.Table.{State, Step, Act, takes as act_takes, gives as act_gives, keeps as act_keeps, Allows, Splits, Joins, opening, Valid, stepped, carried_after, rest}
use Rattle.tsc_ffi_store.specs.declared.seats.kinds.AnyCache.{AnyCache}
use Rattle.tsc_ffi_store.specs.declared.seats.kinds.AnySeat.{AnySeat}
use Rattle.tsc_ffi_store.specs.Kinds.{seats_of, cache_of, number_of}
use Rattle.tsc_ffi_store.specs.declared.seats.return_slots.Known.{Known}
use Rattle.tsc_ffi_store.specs.ReturnSlots.{Returned, knowing, dealing, token, spent, spare, came, keeping, collecting, also_back, first_known, IsAmong, IsReturned, IsFree, IsBack, Fits, IsKept}
use Rattle.tsc_ffi_store.specs.ReturnSteps.{At, others, first, takes_slot, came_in, returns_seat, seen_returned, sees_returned, collects}

abbrev Slots : Type 0
Slots = List (maybe.Option Returned)

abbrev Board : Type 0
Board = State Returned Known

-- the last of a list, or one before it
at_end : {A : Type 0} (l : List A) (a : A) (j : ℕ) (b : A) →
    get_elem? (l ++ a ∷ []) j ≡ maybe.some b →
    (get_elem? l j ≡ maybe.some b) ⊎ ((j ≡ length l) × (a ≡ b))
at_end [] a zero b e = inr (refl, some-injective a b e)
at_end [] a (suc j) b e = absurd (some-ne-none b (sym e))
at_end (x ∷ xs) a zero b e = inl e
at_end (x ∷ xs) a (suc j) b e = elim (at_end xs a j b e) [
  | inl old ↦ inl old
  | inr last ↦ inr (ap suc last.0, last.1)
]

-- What stands at an index of the views, once one was divided in two: one of the two, or what stood
-- there.
data Stands (views : List Known) (id : ℕ) (left right : Known) (j : ℕ) (v : Known) : Type 0 where
  first_part : j ≡ id → left ≡ v → Stands views id left right j v
  as_before : j ≢ id → get_elem? views j ≡ maybe.some v → Stands views id left right j v
  second_part : j ≡ length views → right ≡ v → Stands views id left right j v

stands : (views : List Known) (id : ℕ) (left right : Known) (j : ℕ) (v : Known) →
    get_elem? (set views id left ++ right ∷ []) j ≡ maybe.some v → Stands views id left right j v
stands views id left right j v e = elim (at_end (set views id left) right j v e) [
  | inl old ↦ (elim (at_set views id j left v old) [
    | inl same ↦ first_part same.0 same.1
    | inr apart ↦ as_before apart.0 apart.1
  ])
  | inr last ↦ second_part (last.0 ∙ length-set views id left) last.1
]

cache_or : AnyCache → Option AnyCache → AnyCache
cache_or d None = d
cache_or d (Some c) = c

seat_or : AnySeat → Option AnySeat → AnySeat
seat_or d None = d
seat_or d (Some s) = s

is_none : Option AnyCache → Type 0
is_none None = Unit {0}
is_none (Some c) = ⊥

-- who deals no slots knows no cache
no_cache : (c d : AnyCache) → None ≡ Some c → c ≡ d
unfolding is_none
no_cache c d e = absurd (subst is_none e tt)

-- there is one cache that is known
one_cache : (c d : AnyCache) → Some c ≡ Some d → d ≡ c
unfolding cache_or
one_cache c d e = ap (cache_or c) (sym e)

one_seat : (x y : AnySeat) → Some x ≡ Some y → x ≡ y
unfolding seat_or
one_seat x y e = ap (seat_or x) e

module _ (cache : AnyCache) where
  -- at the opening no seat is returned
  pub opens : (words : List ℕ) → words ≡ replicate (seats_of cache) 0 →
      IsKept cache (opening words (replicate (seats_of cache) None) (first_known cache))
  opens words is = record {
    wide = ap length is ∙ length-replicate (seats_of cache) 0;
    deep = deep;
    returned = λ slot low one two. absurd (one (zeros slot low));
    fits = fits;
    one = λ id other v w slot a b _ _. same id other v w a b;
  }
    where
      zeros : (slot : ℕ) → slot < (seats_of cache) → slice_index words slot ≡ 0
      zeros slot low = ap (λ (ws : List ℕ). slice_index ws slot) is ∙
          get_or-replicate (seats_of cache) slot 0 0 low

      all : List Returned
      all = replicate (seats_of cache) None

      deep : length (map maybe.some all) ≡ (seats_of cache)
      deep = length-map all maybe.some ∙ length-replicate (seats_of cache) None

      free : (slot : ℕ) → slot < (seats_of cache) → IsFree cache words (map maybe.some all) slot
      free slot low = let x = some_there all slot
          (subst (λ (n : ℕ). slot < n) (sym (length-replicate (seats_of cache) None)) low)
          in record { low = low; word = zeros slot low; held = x.0; lies = x.1 }

      of_first : (v : Known) → first_known cache ≡ v → Fits cache words (map maybe.some all) v
      of_first v e = subst (Fits cache words (map maybe.some all)) e
          (record {
            its = λ c e. one_cache cache c e;
            free = λ slot _ low among. free slot low;
            out = λ slot taken. absurd (true≢false (sym taken));
            left = λ slot low among two. absurd (omega (arith, zeros slot low, two));
            returned = λ slot low. absurd (omega (arith, low));
            back = All-nil (IsBack cache words (map maybe.some all));
          })

      fits : (id : ℕ) (v : Known) → get_elem? (first_known cache ∷ []) id ≡ maybe.some v →
          Fits cache words (map maybe.some all) v
      fits zero v e = of_first v (some-injective (first_known cache) v e)
      fits (suc id) v e = absurd (some-ne-none v (sym e))

      same : (id other : ℕ) (v w : Known) → get_elem? (first_known cache ∷ []) id ≡ maybe.some v →
          get_elem? (first_known cache ∷ []) other ≡ maybe.some w → id ≡ other
      same zero zero v w a b = refl
      same zero (suc other) v w a b = absurd (some-ne-none w (sym b))
      same (suc id) other v w a b = absurd (some-ne-none v (sym a))

  -- a token is dealt
  module _ (s : Board) (k : IsKept cache s) (id : ℕ) (its : Option AnyCache) (from to : ℕ)
      (at : get_elem? s.views id ≡ maybe.some (dealing its from to 0)) (some : from < to) where
    abbrev dealer : Known
    dealer = dealing its from to 0

    part_fits : (v : Known) → ((c : AnyCache) → v.cache ≡ Some c → c ≡ cache) → v.taken ≡ false →
        v.returned ≡ 0 → v.back ≡ [] →
        ((slot : ℕ) → IsAmong v slot → IsAmong dealer slot) → Fits cache s.words s.homes v
    part_fits v whose idle none unknown within = record {
      its = whose;
      free = λ slot _ low among. (k.fits id dealer at).free slot refl low (within slot among);
      out = λ slot taken. absurd (true≢false (sym taken ∙ idle));
      left = λ slot low among.
          (k.fits id dealer at).left slot low (within (seats_of cache + slot) among);
      returned = λ slot low. absurd (omega (arith, low, none));
      back = subst (All (IsBack cache s.words s.homes)) (sym unknown)
          (All-nil (IsBack cache s.words s.homes));
    }

    in_first : (slot : ℕ) → IsAmong (first dealer) slot → IsAmong dealer slot
    in_first slot among = let a = among.from in let b =
        among.to in record { from = a; to = omega (arith, a, b, some) }

    in_others : (slot : ℕ) → IsAmong (others dealer) slot → IsAmong dealer slot
    in_others slot among = let a = among.from in let b =
        among.to in record { from = omega (arith, a); to = b }

    apart : (slot : ℕ) → IsAmong (first dealer) slot → IsAmong (others dealer) slot → ⊥
    apart slot a b = let x = a.to in let y = b.from in omega (arith, x, y)

    part : (j : ℕ) (v : Known) → Stands s.views id (others dealer) (first dealer) j v →
        Fits cache s.words s.homes v
    part j v (first_part e is) = subst (Fits cache s.words s.homes) is
        (part_fits (others dealer) (k.fits id dealer at).its refl refl refl in_others)
    part j v (as_before e is) = k.fits j v is
    part j v (second_part e is) = subst (Fits cache s.words s.homes) is
        (part_fits (first dealer) (λ c e. no_cache c cache e) refl refl refl in_first)

    among_is : (v w : Known) (slot : ℕ) → v ≡ w → IsAmong w slot → IsAmong v slot
    among_is v w slot e among = subst (λ (u : Known). IsAmong u slot) (sym e) among

    whose : (i j : ℕ) (v w : Known) (slot : ℕ) →
        Stands s.views id (others dealer) (first dealer) i v →
        Stands s.views id (others dealer) (first dealer) j w → IsAmong v slot →
        IsAmong w slot → i ≡ j
    whose i j v w slot (first_part a is) (first_part b is') p q = a ∙ sym b
    whose i j v w slot (first_part a is) (as_before b at') p q =
        absurd (b (sym (k.one id j dealer w slot at at'
        (in_others slot (among_is (others dealer) v slot is p)) q)))
    whose i j v w slot (first_part a is) (second_part b is') p q =
        absurd (apart slot (among_is (first dealer) w slot is' q)
        (among_is (others dealer) v slot is p))
    whose i j v w slot (as_before a at') (first_part b is') p q =
        absurd (a (k.one i id v dealer slot at' at p
        (in_others slot (among_is (others dealer) w slot is' q))))
    whose i j v w slot (as_before a at') (as_before b at'') p q = k.one i j v w slot at' at'' p q
    whose i j v w slot (as_before a at') (second_part b is') p q =
        absurd (a (k.one i id v dealer slot at' at p
        (in_first slot (among_is (first dealer) w slot is' q))))
    whose i j v w slot (second_part a is) (first_part b is') p q =
        absurd (apart slot (among_is (first dealer) v slot is p)
        (among_is (others dealer) w slot is' q))
    whose i j v w slot (second_part a is) (as_before b at') p q =
        absurd (b (sym (k.one id j dealer w slot at at'
        (in_first slot (among_is (first dealer) v slot is p)) q)))
    whose i j v w slot (second_part a is) (second_part b is') p q = a ∙ sym b

    deals : IsKept cache (record {
      words = s.words;
      homes = s.homes;
      views = set s.views id (others dealer) ++ first dealer ∷ [];
    })
    deals = record {
      wide = k.wide;
      deep = k.deep;
      returned = k.returned;
      fits = λ j v e. part j v (stands s.views id (others dealer) (first dealer) j v e);
      one = λ i j v w slot a b p q. whose i j v w slot
          (stands s.views id (others dealer) (first dealer) i v a)
          (stands s.views id (others dealer) (first dealer) j w b) p q;
    }

  pub deal_at : (id : ℕ) (v : Known) → v ≡ dealing v.cache v.from v.to 0 → v.from < v.to →
      Splits (IsKept cache) id v (others v) (first v)
  deal_at id v is some = subst (λ (u : Known). Splits (IsKept cache) id u (others u) (first u))
      (sym is) (λ s k at. deals s k id v.cache v.from v.to at some)

  -- one view changes, and may take no slot that it might not take before
  moved : (s : Board) (k : IsKept cache s) (id : ℕ) (v w : Known) (words : List ℕ) (slots : Slots) →
      get_elem? s.views id ≡ maybe.some v
      → ((slot : ℕ) → IsAmong w slot → IsAmong v slot) → length words ≡ (seats_of cache) →
      length slots ≡ (seats_of cache)
      → ((slot : ℕ) → slot < (seats_of cache) → slice_index words slot ≢ 0 →
      slice_index words slot ≢ 2 → IsReturned cache slots slot)
      → Fits cache words slots w
      → ((other : ℕ) (u : Known) → other ≢ id → get_elem? s.views other ≡ maybe.some u →
      Fits cache words slots u)
      → IsKept cache (record { words = words; homes = slots; views = set s.views id w })
  moved s k id v w words slots at within wide deep returned fits rest = record {
    wide = wide;
    deep = deep;
    returned = returned;
    fits = λ j u e. elim (at_set s.views id j w u e) [
      | inl same ↦ subst (Fits cache words slots) same.1 fits
      | inr apart ↦ rest j u apart.0 apart.1
    ];
    one = λ i j u u' slot a b p q. elim (at_set s.views id i w u a) [
      | inl same ↦ (elim (at_set s.views id j w u' b) [
        | inl same' ↦ same.0 ∙ sym same'.0
        | inr apart ↦ absurd (apart.0
            (sym (k.one id j v u' slot at apart.1
            (within slot (subst (λ (x : Known). IsAmong x slot) (sym same.1) p)) q)))
      ])
      | inr apart ↦ (elim (at_set s.views id j w u' b) [
        | inl same' ↦ absurd (apart.0
            (k.one i id u v slot apart.1 at p
            (within slot (subst (λ (x : Known). IsAmong x slot) (sym same'.1) q))))
        | inr apart' ↦ k.one i j u u' slot apart.1 apart'.1 p q
      ])
    ];
  }

  -- another's slots are not the one that a token names
  others_apart : (s : Board) (k : IsKept cache s) (id number : ℕ) (v : Known) →
      get_elem? s.views id ≡ maybe.some v → IsAmong v number
      → (other : ℕ) (u : Known) → other ≢ id → get_elem? s.views other ≡ maybe.some u → (slot : ℕ) →
      IsAmong u slot → slot ≢ number
  others_apart s k id number v at mine other u apart at' slot among e =
      apart (k.one other id u v number at' at (subst (IsAmong u) e among) mine)

  its_own : (number : ℕ) → IsAmong (token number) number
  its_own number = record { from = omega arith; to = omega arith }

  spent_own : (number : ℕ) → IsAmong (spent number) number
  spent_own number = record { from = omega arith; to = omega arith }

  spent_fits : (words : List ℕ) (slots : Slots) (number : ℕ) → number < seats_of cache →
      slice_index words number ≡ 0 → Fits cache words slots (spent number)
  spent_fits words slots number below word = record {
    its = λ c e. no_cache c cache e;
    free = λ slot taken low among. absurd (true≢false taken);
    out = λ slot _ among. let a = among.from in let b = among.to in
        ap (λ (n : ℕ). slice_index words n) (omega (arith, a, b)) ∙ word;
    left = λ slot low among. let a = among.to in absurd (omega (arith, a, below));
    returned = λ slot low. absurd (omega (arith, low));
    back = All-nil (IsBack cache words slots);
  }

  -- no slot is one of a token's that may take none
  none_of : (v : Known) → v.from ≡ 0 → v.to ≡ 0 → (slot : ℕ) → IsAmong v slot → ⊥
  none_of v from to slot among = let b = among.to in omega (arith, b, to)

  spare_fits : (words : List ℕ) (slots : Slots) → Fits cache words slots spare
  spare_fits words slots = record {
    its = λ c e. no_cache c cache e;
    free = λ slot _ low among. absurd (none_of spare refl refl slot among);
    out = λ slot taken. absurd (true≢false (sym taken));
    left = λ slot low among. absurd (none_of spare refl refl (seats_of cache + slot) among);
    returned = λ slot low. absurd (omega (arith, low));
    back = All-nil (IsBack cache words slots);
  }

  came_fits : (words : List ℕ) (slots : Slots) (seat : AnySeat) → IsBack cache words slots seat →
      Fits cache words slots (came seat)
  came_fits words slots seat lies = record {
    its = λ c e. no_cache c cache e;
    free = λ slot _ low among. absurd (none_of (came seat) refl refl slot among);
    out = λ slot taken. absurd (true≢false (sym taken));
    left = λ slot low among. absurd (none_of (came seat) refl refl (seats_of cache + slot) among);
    returned = λ slot low. absurd (omega (arith, low));
    back = All-cons (IsBack cache words slots) seat [] lies (All-nil (IsBack cache words slots));
  }

  same_words : (s : Board) (i : ℕ) (slots : Slots) (views : List Known) →
      IsKept cache (record { words = s.words; homes = slots; views = views })
      → IsKept cache (record {
        words = set s.words i (slice_index s.words i);
        homes = slots;
        views = views;
      })
  same_words s i slots views k = subst
      (λ (ws : List ℕ). IsKept cache (record { words = ws; homes = slots; views = views }))
      (sym (set-get_or s.words i 0)) k

  -- a token takes its slot
  pub take_slot_allowed : (slots : ℕ) (st : Step Returned) (id number : ℕ) →
      number < seats_of cache → Allows (IsKept cache) slots id (token number, []) number (λ n. n)
      (takes_slot st (token number, []))
  take_slot_allowed slots st id number below s k _ at _ =
      let free = (k.fits id (token number) at).free number refl below (its_own number) in
      let word = free.word in
      let slots : Slots = set s.homes number maybe.none in
      let apart : (slot : ℕ) → slice_index s.words slot ≢ 0 → slot ≢ number =
      λ slot one e. one (ap (λ (n : ℕ). slice_index s.words n) e ∙ word) in (
        spent number,
        act_takes number free.held,
        free.lies,
        same_words s number slots (set s.views id (spent number))
            (moved s k id (token number) (spent number) s.words slots at
            (λ slot among. record { from = among.from; to = among.to }) k.wide
            (length-set s.homes number maybe.none ∙ k.deep)
            (λ slot low one two. let h = k.returned slot low one two
            in record {
              seat = h.seat;
              lies = set_else s.homes number slot maybe.none (apart slot one) ∙ h.lies;
              its_cache = h.its_cache;
            })
            (spent_fits s.words slots number below free.word)
            (λ other u ne at'. let f = k.fits other u at' in record {
              its = f.its;
              free = λ slot idle low among. let g = f.free slot idle low among in let ne' =
                  others_apart s k id number (token number) at (its_own number) other u ne at' slot
                  among in
                  record {
                    low = g.low;
                    word = g.word;
                    held = g.held;
                    lies = set_else s.homes number slot maybe.none ne' ∙ g.lies;
                  };
              out = f.out;
              left = f.left;
              returned = f.returned;
              back = All-weaker (IsBack cache s.words s.homes) (IsBack cache s.words slots)
                  (λ seat b. record {
                    low = b.low;
                    word = b.word;
                    lies = λ two. set_else s.homes number (number_of seat) maybe.none
                        (apart (number_of seat) b.word) ∙ b.lies two;
                  }) u.back f.back;
            })),
        (free.held, refl),
      )

  -- a seat is returned
  pub return_seat_allowed : (slots : ℕ) (st : Step Returned) (id : ℕ) (seat : AnySeat) →
      (number_of seat) < (seats_of cache) → (cache_of seat) ≡ cache
      → Allows (IsKept cache) slots id (spent (number_of seat), ((number_of seat), Some seat) ∷ [])
      (number_of seat) (λ _. 1)
      (λ _. returns_seat st (spent (number_of seat), ((number_of seat), Some seat) ∷ []) 1)
  return_seat_allowed slots st id seat low its s k _ at _ =
      let number : ℕ = (number_of seat) in
      let slots : Slots = set s.homes number (maybe.some (Some seat)) in
      let words : List ℕ = set s.words number 1 in
      let wide = k.wide in let deep = k.deep in
      let here : slice_index words number ≡ 1 =
      get_or-set_same s.words number 1 0 (omega (arith, wide, low)) in
      let there : (slot : ℕ) → slot ≢ number → slice_index words slot ≡ slice_index s.words slot =
      λ slot ne. get_or-set_other s.words number slot 1 0 ne in
      let zero_is : slice_index s.words number ≡ 0 =
      (k.fits id (spent number) at).out number refl (spent_own number) in
      let apart : (slot : ℕ) → slice_index s.words slot ≢ 0 → slot ≢ number =
      λ slot one e. one (ap (λ (n : ℕ). slice_index s.words n) e ∙ zero_is) in (
        came seat,
        act_gives,
        tt,
        moved s k id (spent number) (came seat) words slots at
            (λ slot among. absurd (none_of (came seat) refl refl slot among))
            (length-set s.words number 1 ∙ k.wide)
            (length-set s.homes number (maybe.some (Some seat)) ∙ k.deep)
            (λ slot low' one two. dite (ℕ_discrete slot number)
            (λ e. record {
              seat = seat;
              lies = ap (λ (n : ℕ). get_elem? slots n) e ∙
                  set_here s.homes number (maybe.some (Some seat)) (omega (arith, deep, low));
              its_cache = its;
            })
            (λ ne. let h = k.returned slot low' (λ z. one (there slot ne ∙ z))
            (λ z. two (there slot ne ∙ z)) in record {
              seat = h.seat;
              lies = set_else s.homes number slot (maybe.some (Some seat)) ne ∙ h.lies;
              its_cache = h.its_cache;
            }))
            (came_fits words slots seat (record {
              low = low;
              word = λ z. omega (arith, here, z);
              lies = λ _.
                  set_here s.homes number (maybe.some (Some seat)) (omega (arith, deep, low));
            }))
            (λ other u ne at'. let f = k.fits other u at' in record {
              its = f.its;
              free = λ slot idle low' among. let g = f.free slot idle low' among in let ne' =
                  others_apart s k id number (spent number) at (spent_own number) other u ne at'
                  slot among in
                  record {
                    low = g.low;
                    word = there slot ne' ∙ g.word;
                    held = g.held;
                    lies = set_else s.homes number slot (maybe.some (Some seat)) ne' ∙ g.lies;
                  };
              out = λ slot taken among. there slot
                  (others_apart s k id number (spent number) at (spent_own number) other u ne at'
                  slot among) ∙ f.out slot taken among;
              left = λ slot low' among two. dite (ℕ_discrete slot number)
                  (λ e. omega (arith, ap (λ (n : ℕ). slice_index words n) e, here, two))
                  (λ ne. f.left slot low' among (sym (there slot ne) ∙ two));
              returned = λ slot low' none. dite (ℕ_discrete slot number)
                  (λ e. omega (arith, ap (λ (n : ℕ). slice_index words n) e, here, none))
                  (λ ne. f.returned slot low' (sym (there slot ne) ∙ none));
              back = All-weaker (IsBack cache s.words s.homes) (IsBack cache words slots)
                  (λ other b. let ne = apart (number_of other) b.word in record {
                    low = b.low;
                    word = λ z. b.word (sym (there (number_of other) ne) ∙ z);
                    lies = λ two.
                        set_else s.homes number (number_of other) (maybe.some (Some seat)) ne ∙
                        b.lies (λ z. two (there (number_of other) ne ∙ z));
                  }) u.back f.back;
            }),
        refl,
      )

  -- a token is made that knows nothing
  module _ (s : Board) (k : IsKept cache s) (id : ℕ) (v : Known)
      (at : get_elem? s.views id ≡ maybe.some v) where
    spare_part : (j : ℕ) (u : Known) → Stands s.views id v spare j u → Fits cache s.words s.homes u
    spare_part j u (first_part e is) = subst (Fits cache s.words s.homes) is (k.fits id v at)
    spare_part j u (as_before e is) = k.fits j u is
    spare_part j u (second_part e is) = subst (Fits cache s.words s.homes) is
        (spare_fits s.words s.homes)

    -- what may take a slot is no new token
    was_there : (j : ℕ) (u : Known) (slot : ℕ) → Stands s.views id v spare j u → IsAmong u slot →
        get_elem? s.views j ≡ maybe.some u
    was_there j u slot (first_part e is) among =
        ap (λ (n : ℕ). get_elem? s.views n) e ∙ at ∙ ap maybe.some is
    was_there j u slot (as_before e is) among = is
    was_there j u slot (second_part e is) among = absurd (none_of spare refl refl slot
        (subst (λ (x : Known). IsAmong x slot) (sym is) among))

    spare_made : IsKept cache (record {
      words = s.words;
      homes = s.homes;
      views = set s.views id v ++ spare ∷ [];
    })
    spare_made = record {
      wide = k.wide;
      deep = k.deep;
      returned = k.returned;
      fits = λ j u e. spare_part j u (stands s.views id v spare j u e);
      one = λ i j u w slot a b p q. k.one i j u w slot
          (was_there i u slot (stands s.views id v spare i u a) p)
          (was_there j w slot (stands s.views id v spare j w b) q) p q;
    }

  pub spare_at : (id : ℕ) (v : Known) → Splits (IsKept cache) id v v spare
  spare_at id v s k at = spare_made s k id v at

  -- a token learns what another knows
  pub learn_at : (id : ℕ) (v : Known) (other : ℕ) (w : Known) →
      Joins (IsKept cache) id v other w (also_back v w) spare
  learn_at id v other w s k at apart at' =
      let both : Known = also_back v w in
      let f = k.fits id v at in
      let g = k.fits other w (sym (set_else s.views id other both apart) ∙ at') in
      let P = IsBack cache s.words s.homes in
      let first : IsKept cache (record {
        words = s.words;
        homes = s.homes;
        views = set s.views id both;
      }) = moved s k id v both s.words s.homes at
      (λ slot among. record { from = among.from; to = among.to }) k.wide k.deep k.returned
      (record {
        its = f.its;
        free = λ slot idle low among.
            f.free slot idle low (record { from = among.from; to = among.to });
        out = λ slot taken among. f.out slot taken
            (record { from = among.from; to = among.to });
        left = λ slot low among. f.left slot low (record { from = among.from; to = among.to });
        returned = f.returned;
        back = All-append P v.back w.back f.back g.back;
      }) (λ o u ne is. k.fits o u is) in
      moved (record { words = s.words; homes = s.homes; views = set s.views id both }) first other
      w spare s.words s.homes at' (λ slot among. absurd (none_of spare refl refl slot among))
      k.wide k.deep k.returned (spare_fits s.words s.homes) (λ o u ne is. first.fits o u is)

  -- it is seen whether the next seat is returned
  looked_fits : (s : Board) (k : IsKept cache s) (id seats returned returned' : ℕ)
      (back : List AnySeat) (missed missed' : List ℕ) →
      get_elem? s.views id ≡ maybe.some (keeping cache seats returned back missed) →
      ((slot : ℕ) → slot < returned' → slice_index s.words slot ≢ 0)
      → Fits cache s.words s.homes (keeping cache seats returned' back missed')
  looked_fits s k id seats returned returned' back missed missed' at some =
      let f = k.fits id (keeping cache seats returned back missed) at in
      record {
        its = f.its;
        free = λ slot idle low among.
            f.free slot idle low (record { from = among.from; to = among.to });
        out = λ slot taken. absurd (true≢false (sym taken));
        left = λ slot low among. f.left slot low (record { from = among.from; to = among.to });
        returned = some;
        back = f.back;
      }

  pub look_allowed : (slots : ℕ) (st : Step Returned) (id seats returned : ℕ)
      (back : List AnySeat) (missed : List ℕ) → st.word ≡ returned →
      Allows (IsKept cache) slots id (keeping cache seats returned back missed, []) returned
      (λ n. n) (sees_returned st (keeping cache seats returned back missed, []))
  look_allowed slots st id seats returned back missed word s k _ at _ =
      let f = k.fits id (keeping cache seats returned back missed) at in
      dite (ℕ_discrete (slice_index s.words returned) 0)
      (λ no. looked (keeping cache seats returned back (missed ++ st.word ∷ []))
      (looked_fits s k id seats returned returned back missed (missed ++ st.word ∷ []) at
      f.returned)
      (λ slot among. record { from = among.from; to = among.to }) (search rules))
      (λ one. looked (keeping cache seats (returned + 1) back missed)
      (looked_fits s k id seats returned (returned + 1) back missed missed at
      (λ slot low. dite (ℕ_discrete slot returned)
      (λ e z. one (ap (λ (n : ℕ). slice_index s.words n) (sym e) ∙ z))
      (λ ne. f.returned slot (omega (arith, low, ne)))))
      (λ slot among. record { from = among.from; to = among.to }) (search rules))
    where
      looked : (w : Known) → Fits cache s.words s.homes w →
          ((slot : ℕ) → IsAmong w slot → IsAmong (keeping cache seats returned back missed) slot) →
          seen_returned (keeping cache seats returned back missed) st.word
          (slice_index s.words returned) ≡ w
          → (w : Known) × (a : Act Returned) × Valid s.homes [] a ×
          IsKept cache (stepped s returned (slice_index s.words returned) id [] w a) ×
          sees_returned st (keeping cache seats returned back missed, [])
          (slice_index s.words returned) (w, carried_after [] a)
      looked w fits within is = (
        w,
        act_keeps,
        tt,
        same_words s returned s.homes (set s.views id w)
            (moved s k id (keeping cache seats returned back missed) w s.words s.homes at within
            k.wide k.deep k.returned fits (λ other u _ at'. k.fits other u at')),
        (
          (λ i. (sym is i, [])),
          (λ zero_is. All-weaker (IsBack cache s.words s.homes)
              (λ (o : AnySeat). number_of o ≢ st.word)
              (λ o b e. b.word (ap (λ (n : ℕ). slice_index s.words n) (e ∙ word) ∙ zero_is)) back
              (k.fits id (keeping cache seats returned back missed) at).back),
        ),
      )

  -- the next seat is collected
  pub collect_allowed : (slots : ℕ) (st : Step Returned) (id done : ℕ) (back : List AnySeat)
      (missed : List ℕ) (hand : List (ℕ × Returned)) → st.word ≡ done → done < seats_of cache →
      Allows (IsKept cache) slots id
      (collecting cache (seats_of cache) done (seats_of cache) back missed, hand) done (λ _. 2)
      (λ _. collects st
      (collecting cache (seats_of cache) done (seats_of cache) back missed, hand) 2)
  collect_allowed slots st id done back missed hand word low s k _ at _ =
      let v : Known = collecting cache (seats_of cache) done (seats_of cache) back missed in
      let w : Known = record v { from = v.from + 1 } in
      let f = k.fits id v at in
      let busy : slice_index s.words done ≢ 0 = f.returned done low in
      let mine : IsAmong v (seats_of cache + done) =
      record { from = omega arith; to = omega (arith, low) } in
      let fresh : slice_index s.words done ≢ 2 = f.left done low mine in
      let h = k.returned done low busy fresh in
      let slots : Slots = set s.homes done maybe.none in
      let words : List ℕ = set s.words done 2 in
      let wide = k.wide in
      let here : slice_index words done ≡ 2 =
      get_or-set_same s.words done 2 0 (omega (arith, wide, low)) in
      let there : (slot : ℕ) → slot ≢ done → slice_index words slot ≡ slice_index s.words slot =
      λ slot ne. get_or-set_other s.words done slot 2 0 ne in
      let apart : (slot : ℕ) → slice_index words slot ≢ 2 → slot ≢ done =
      λ slot two e. two (ap (λ (n : ℕ). slice_index words n) e ∙ here) in
      let still : (slot : ℕ) → slice_index s.words slot ≢ 0 → slice_index words slot ≢ 0 =
      λ slot one z. dite (ℕ_discrete slot done)
      (λ e. omega (arith, ap (λ (n : ℕ). slice_index words n) e, here, z))
      (λ ne. one (sym (there slot ne) ∙ z)) in
      let left_back : (o : AnySeat) → IsBack cache s.words s.homes o → IsBack cache words slots o =
      λ o b. record {
        low = b.low;
        word = still (number_of o) b.word;
        lies = λ two. let ne = apart (number_of o) two in
            set_else s.homes done (number_of o) maybe.none ne ∙
            b.lies (λ z. two (there (number_of o) ne ∙ z));
      } in (
        w,
        act_takes done (Some h.seat),
        h.lies,
        moved s k id v w words slots at
            (λ slot among. let a = among.from in record { from = omega (arith, a); to = among.to })
            (length-set s.words done 2 ∙ k.wide) (length-set s.homes done maybe.none ∙ k.deep)
            (λ slot low' one two. let ne = apart slot two in
            let g = k.returned slot low' (λ z. one (there slot ne ∙ z))
            (λ z. two (there slot ne ∙ z)) in record {
              seat = g.seat;
              lies = set_else s.homes done slot maybe.none ne ∙ g.lies;
              its_cache = g.its_cache;
            })
            (record {
              its = f.its;
              free = λ slot idle low' among. let a = among.from in absurd (omega (arith, a, low'));
              out = λ slot taken. absurd (true≢false (sym taken));
              left = λ slot low' among two. let a = among.from in
                  let ne : slot ≢ done = (λ e. omega (arith, a, e)) in
                  f.left slot low' (record { from = omega (arith, a); to = among.to })
                  (sym (there slot ne) ∙ two);
              returned = λ slot low'. still slot (f.returned slot low');
              back = All-weaker (IsBack cache s.words s.homes) (IsBack cache words slots) left_back
                  back f.back;
            })
            (λ other u ne at'. let g = k.fits other u at' in record {
              its = g.its;
              free = λ slot idle low' among. let x = g.free slot idle low' among in
                  let ne' : slot ≢ done =
                  (λ e. busy (ap (λ (n : ℕ). slice_index s.words n) (sym e) ∙ x.word)) in
                  record {
                    low = x.low;
                    word = there slot ne' ∙ x.word;
                    held = x.held;
                    lies = set_else s.homes done slot maybe.none ne' ∙ x.lies;
                  };
              out = λ slot taken among. let z = g.out slot taken among in
                  there slot (λ e. busy (ap (λ (n : ℕ). slice_index s.words n) (sym e) ∙ z)) ∙ z;
              left = λ slot low' among two. dite (ℕ_discrete slot done)
                  (λ e. others_apart s k id (seats_of cache + done) v at mine other u ne at'
                  (seats_of cache + slot) among (omega (arith, e)))
                  (λ ne'. g.left slot low' among (sym (there slot ne') ∙ two));
              returned = λ slot low'. still slot (g.returned slot low');
              back = All-weaker (IsBack cache s.words s.homes) (IsBack cache words slots) left_back
                  u.back g.back;
            }),
        (
          h.seat,
          record {
            its = λ c e. h.its_cache ∙ sym (one_cache cache c e);
            known = All-weaker (IsBack cache s.words s.homes)
                (λ (o : AnySeat). number_of o ≡ st.word → o ≡ h.seat)
                (λ o b e. let n : number_of o ≡ done = e ∙ word in
                one_seat o h.seat (some-injective (Some o) (Some h.seat)
                (some-injective (maybe.some (Some o)) (maybe.some (Some h.seat))
                (sym (b.lies (λ two. fresh (ap (λ (m : ℕ). slice_index s.words m) (sym n) ∙ two))) ∙
                ap (λ (m : ℕ). get_elem? s.homes m) n ∙ h.lies)))) back f.back;
            low = λ c e. All-weaker (IsBack cache s.words s.homes)
                (λ (o : AnySeat). number_of o < seats_of c)
                (λ o b. subst (λ (k : AnyCache). number_of o < seats_of k)
                (sym (one_cache cache c e)) b.low) back f.back;
          },
          (λ i. (w, (sym word i, Some h.seat) ∷ hand)),
        ),
      )

  -- the same in the shape that the calls ask for, and what the calls leave
  pub take_slot_at : (slots : ℕ) (st : Step Returned) (id number i : ℕ) (me : At) →
      me ≡ (token number, []) → i ≡ number → number < seats_of cache →
      Allows (IsKept cache) slots id me i (λ n. n) (takes_slot st me)
  take_slot_at slots st id number i me is same low =
      subst (λ (j : ℕ). Allows (IsKept cache) slots id me j (λ n. n) (takes_slot st me)) (sym same)
      (subst (λ (m : At). Allows (IsKept cache) slots id m number (λ n. n) (takes_slot st m))
      (sym is) (take_slot_allowed slots st id number low))

  pub return_seat_at : (slots : ℕ) (st : Step Returned) (id i : ℕ) (seat : AnySeat) (me : At) →
      me ≡ (spent (number_of seat), ((number_of seat), Some seat) ∷ []) → i ≡ (number_of seat) →
      (number_of seat) < (seats_of cache) → (cache_of seat) ≡ cache
      → Allows (IsKept cache) slots id me i (λ _. 1) (λ _. returns_seat st me 1)
  return_seat_at slots st id i seat me is same low its =
      subst (λ (j : ℕ). Allows (IsKept cache) slots id me j (λ _. 1) (λ _. returns_seat st me 1))
      (sym same)
      (subst (λ (m : At). Allows (IsKept cache) slots id m (number_of seat) (λ _. 1)
      (λ _. returns_seat st m 1)) (sym is)
      (return_seat_allowed slots st id seat low its))

  pub look_at : (slots : ℕ) (st : Step Returned) (id seats returned : ℕ) (back : List AnySeat)
      (missed : List ℕ) (me : At) → me ≡ (keeping cache seats returned back missed, []) →
      st.word ≡ returned → Allows (IsKept cache) slots id me returned (λ n. n) (sees_returned st me)
  look_at slots st id seats returned back missed me is word =
      subst (λ (m : At). Allows (IsKept cache) slots id m returned (λ n. n) (sees_returned st m))
      (sym is) (look_allowed slots st id seats returned back missed word)

  pub collect_at : (slots : ℕ) (st : Step Returned) (id seats done : ℕ) (back : List AnySeat)
      (missed : List ℕ) (me : At) → me.0 ≡ collecting cache seats done seats back missed →
      seats ≡ seats_of cache → st.word ≡ done → done < seats →
      Allows (IsKept cache) slots id me done (λ _. 2) (λ _. collects st me 2)
  collect_at slots st id seats done back missed me is all word low =
      subst (λ (v : Known).
      Allows (IsKept cache) slots id (v, me.1) done (λ _. 2) (λ _. collects st (v, me.1) 2))
      (sym (is ∙ ap (λ (n : ℕ). collecting cache n done n back missed) all))
      (collect_allowed slots st id done back missed me.1 word (subst (λ (n : ℕ). done < n) all low))

pub picked : (st : Step Returned) (number found : ℕ) (me me' : At) → me ≡ (token number, []) →
    takes_slot st me found me' → (x : Returned) × (me' ≡ (spent number, (number, x) ∷ []))
picked st number found me me' is p =
    (p.0, p.1 ∙ ap (λ (m : At). (record m.0 { taken = true }, (m.0.from, p.0) ∷ [])) is)

pub in_hand : (number i : ℕ) (x : Returned) (me : At) → me ≡ (spent number, (number, x) ∷ []) →
    i ≡ number → (y : Returned) × (me.1 ≡ (i, y) ∷ rest me.1)
in_hand number i x me is same = (
  x,
  ap (λ (m : At). m.1) is ∙
      (λ k. (sym same k, x) ∷ rest ((sym is) k).1),
)

pub put_back : (number i : ℕ) (x y : Returned) (me me' : At) → me ≡ (spent number, (number, x) ∷ [])
    → i ≡ number → me' ≡ (me.0, (i, y) ∷ rest me.1) → me' ≡ (spent number, (number, y) ∷ [])
put_back number i x y me me' is same e = e ∙ (λ k. ((is k).0, (same k, y) ∷ rest (is k).1))

-- what is in hand once a seat was collected
pub in_hand_then : (st : Step Returned) (me me' : At) → collects st me 2 me' →
    (y : Returned) × (me'.1 ≡ (st.word, y) ∷ rest me'.1)
in_hand_then st me me' c = (
  Some c.0,
  ap (λ (m : At). m.1) c.2 ∙ ap (λ (m : At). (st.word, Some c.0) ∷ rest m.1) (sym c.2),
)

first_or : Returned → List (ℕ × Returned) → Returned
first_or d [] = d
first_or d (p ∷ ps) = p.1

-- a seat was in the slot
pub found_there : (st : Step Returned) (me me' : At) (done : ℕ) (x : Returned) →
    (c : collects st me 2 me') → me'.1 ≡ (done, x) ∷ rest me'.1 → x ≡ Some c.0
unfolding first_or
found_there st me me' done x c now =
    sym (ap (first_or x) now) ∙ ap (λ (m : At). first_or x m.1) c.2

-- What was collected is of the cache. If a seat of its number is known, it is that one.
pub record Brought (cache : AnyCache) (seats done : ℕ) (back : List AnySeat) (seat : AnySeat) :
    Type 0 where
  pub its : cache_of seat ≡ cache
  pub known : All (λ (s : AnySeat). number_of s ≡ done → s ≡ seat) back
  pub low : All (λ (s : AnySeat). number_of s < seats) back

pub brought : (cache : AnyCache) (seats done : ℕ) (back : List AnySeat) (missed : List ℕ)
    (st : Step Returned) (me me' : At) (x : Returned) (seat : AnySeat) →
    me.0 ≡ collecting cache seats done seats back missed →
    seats ≡ seats_of cache → st.word ≡ done → collects st me 2 me' →
    me'.1 ≡ (done, x) ∷ rest me'.1 → x ≡ Some seat → Brought cache seats done back seat
brought cache seats done back missed st me me' x seat is all word c now got =
    let same : seat ≡ c.0 = one_seat seat c.0 (sym got ∙ found_there st me me' done x c now) in
    let back_is : me.0.back ≡ back = ap (λ (v : Known). v.back) is in
    record {
      its = ap (λ (s : AnySeat). cache_of s) same ∙ c.1.its cache (ap (λ (v : Known). v.cache) is);
      known = subst (λ (l : List AnySeat). All (λ (s : AnySeat). number_of s ≡ done → s ≡ seat) l)
          back_is (All-weaker (λ (s : AnySeat). number_of s ≡ st.word → s ≡ c.0)
          (λ (s : AnySeat). number_of s ≡ done → s ≡ seat)
          (λ s f e. f (e ∙ sym word) ∙ sym same) me.0.back c.1.known);
      low = subst (λ (l : List AnySeat). All (λ (s : AnySeat). number_of s < seats) l) back_is
          (subst (λ (n : ℕ). All (λ (s : AnySeat). number_of s < n) me.0.back) (sym all)
          (c.1.low cache (ap (λ (v : Known). v.cache) is)));
    }

-- one seat more was collected, as the keeper's token knows
pub collects_on : (cache : AnyCache) (seats done : ℕ) (back : List AnySeat) (missed : List ℕ)
    (st : Step Returned) (me me' : At) (new : At) (x : Returned) →
    me.0 ≡ collecting cache seats done seats back missed →
    collects st me 2 me' → new ≡ (me'.0, (done, x) ∷ rest me'.1) →
    new.0 ≡ collecting cache seats (done + 1) seats back missed
collects_on cache seats done back missed st me me' new x is c then' =
    ap (λ (m : At). m.0) then' ∙ ap (λ (m : At). m.0) c.2 ∙
    ap (λ (v : Known). record v { from = v.from + 1 }) is ∙
    ap (λ (n : ℕ). knowing (Some cache) n (seats + seats) seats back missed) (omega arith)

-- Of the seats that are known to be back, each whose number is below `done` stands at it.
abbrev pub AreCollected : ℕ → List AnySeat → List AnySeat → Type 0
AreCollected done items back =
    All (λ (s : AnySeat). number_of s < done → slice_get items (number_of s) ≡ Some s) back

get_before : (items : List AnySeat) (x : AnySeat) (k : ℕ) → k < length items →
    slice_get (items ++ x ∷ []) k ≡ slice_get items k
get_before [] x k low = absurd (omega (arith, low))
get_before (y ∷ ys) x zero low = refl
get_before (y ∷ ys) x (suc k) low = get_before ys x k (omega (arith, low))

get_last : (items : List AnySeat) (x : AnySeat) (k : ℕ) → k ≡ length items →
    slice_get (items ++ x ∷ []) k ≡ Some x
get_last [] x zero is = refl
get_last [] x (suc k) is = absurd (omega (arith, is))
get_last (y ∷ ys) x zero is = absurd (omega (arith, is))
get_last (y ∷ ys) x (suc k) is = get_last ys x k (omega (arith, is))

-- one seat more is collected
pub one_collected : (done : ℕ) (items items' back : List AnySeat) (seat : AnySeat) →
    AreCollected done items back → length items ≡ done → items' ≡ items ++ seat ∷ [] →
    All (λ (s : AnySeat). number_of s ≡ done → s ≡ seat) back → AreCollected (done + 1) items' back
one_collected done items items' back seat so_far long pushed known i d lt low =
    let s : AnySeat = slice_index_or back i d in
    ap (λ (l : List AnySeat). slice_get l (number_of s)) pushed ∙
    dite (ℕ_discrete (number_of s) done)
    (λ e. get_last items seat (number_of s) (omega (arith, e, long)) ∙
    ap (λ (x : AnySeat). Some x) (sym (known i d lt e)))
    (λ ne. get_before items seat (number_of s) (omega (arith, low, ne, long)) ∙
    so_far i d lt (omega (arith, low, ne)))

-- at the end each seat that is known stands at its number
pub known_stand : (seats done : ℕ) (items back : List AnySeat) → seats ≤ done →
    AreCollected done items back → All (λ (s : AnySeat). number_of s < seats) back →
    All (λ (s : AnySeat). slice_get items (number_of s) ≡ Some s) back
known_stand seats done items back past collected low i d lt =
    collected i d lt (omega (arith, past, low i d lt))

-- what a returned seat's token knows, by how it was laid
pub came_home : (number i : ℕ) (seat : AnySeat) (me me' : At) →
    me ≡ (spent number, (number, Some seat) ∷ []) → me' ≡ (came_in me.1, []) → me' ≡ (came seat, [])
came_home number i seat me me' is e = e ∙ ap (λ (m : At). (came_in m.1, [])) is

-- what a keeper knows of seats, by its view
pub known_of : (cache : AnyCache) (seats returned : ℕ) (back : List AnySeat) (missed : List ℕ)
    (me : At) → me ≡ (keeping cache seats returned back missed, []) → me.0.back ≡ back
known_of cache seats returned back missed me is = ap (λ (m : At). m.0.back) is

pub by_itself : (cache : AnyCache) (seats returned : ℕ) (back : List AnySeat) (missed : List ℕ)
    (me : At) → me ≡ (keeping cache seats returned back missed, []) →
    me ≡ (keeping cache seats returned me.0.back me.0.missed, [])
by_itself cache seats returned back missed me is =
    is ∙ ap (λ (m : At). (keeping cache seats returned m.0.back m.0.missed, [])) (sym is)

-- before the first seat is collected
pub starts : (cache : AnyCache) (seats : ℕ) (back : List AnySeat) (missed : List ℕ) (me : At) →
    me ≡ (keeping cache seats seats back missed, []) →
    me.0 ≡ collecting cache seats 0 seats back missed
starts cache seats back missed me is = ap (λ (m : At). m.0) is ∙
    ap (λ (n : ℕ). knowing (Some cache) n (seats + seats) seats back missed) (omega arith)
