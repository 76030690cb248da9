-- What a history has beyond another that it begins with.
use Rattle.std.proofs.Common.{◌≡◌, ◌∙◌, ap, sym, subst, refl, List, [], ◌∷◌, ◌++◌, append_assoc, length, drop}
use Rattle.std.specs.List.{Contains}
use Rattle.std.proofs.Math.Logic.{∥∥₁_map}
use Rattle.std.proofs.lemmas.List.Elements.{Contains-append_right}
use Rattle.timestamp_cache.specs.Words.{ValueView, SpanView, History, BeginsWith}
use Rattle.example_lease_holder.specs.Reads.{HasRead, since}

-- behind the first of two lists stands the second
pub behind : {A : Type 0} (xs ys : List A) → drop (length xs) (xs ++ ys) ≡ ys
behind [] ys = refl
behind (x ∷ xs) ys = behind xs ys

-- what stands behind the beginning
pub since_rest : (h start rest : History) → h ≡ start ++ rest → since start h ≡ rest
since_rest h start rest is = ap (λ (x : History). drop (length start) x) is ∙ behind start rest

-- what a history has beyond the first of three begins with what the second has beyond that, and
-- goes on with what it has beyond the second
pub since_parts : (h g f : History) (b : BeginsWith h g) (a : BeginsWith g f) →
    since f h ≡ since f g ++ since g h
since_parts h g f b a =
    let all : h ≡ f ++ (a.0 ++ b.0) = b.1 ∙ ap (λ (x : History). x ++ b.0) a.1 ∙
    append_assoc f a.0 b.0 in
    since_rest h f (a.0 ++ b.0) all ∙
    ap (λ (x : History). x ++ b.0) (sym (since_rest g f a.0 a.1)) ∙
    ap (λ (x : History). since f g ++ x) (sym (since_rest h g b.0 b.1))

pub since_begins : (h g f : History) → BeginsWith h g → BeginsWith g f →
    BeginsWith (since f h) (since f g)
since_begins h g f b a = (since g h, since_parts h g f b a)

-- what was read since a later time was read since an earlier one
pub since_earlier : (span : SpanView) (h g f : History) (read : ValueView) → BeginsWith h g →
    BeginsWith g f → HasRead span (since g h) read → HasRead span (since f h) read
since_earlier span h g f read b a has = ∥∥₁_map has (λ adds. record {
  entry = adds.entry;
  mark = adds.mark;
  there = subst (λ (x : History). Contains x adds.entry) (sym (since_parts h g f b a))
      (Contains-append_right (since f g) (since g h) adds.entry adds.there);
  own = adds.own;
  over = adds.over;
  value = adds.value;
})

-- and is in all of it
pub since_there : (span : SpanView) (h g : History) (read : ValueView) → BeginsWith h g →
    HasRead span (since g h) read → HasRead span h read
since_there span h g read b has = ∥∥₁_map has (λ adds. record {
  entry = adds.entry;
  mark = adds.mark;
  there = subst (λ (x : History). Contains x adds.entry) (sym b.1)
      (Contains-append_right g b.0 adds.entry
      (subst (λ (x : History). Contains x adds.entry) (since_rest h g b.0 b.1) adds.there));
  own = adds.own;
  over = adds.over;
  value = adds.value;
})
