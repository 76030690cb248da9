-- A lookup that goes from page to page, from the newest on.
use Rattle.std.proofs.Common.{◌≡◌, ◌⊎◌, inl, inr, ◌∙◌, refl, sym, ap, subst, true, false, ℕ, suc, ◌+◌, List, [], ◌∷◌, ◌++◌, map, length, append_assoc, append-nil, arith}
use Rattle.std.proofs.lemmas.List.{map-append, length_push, same_from_push}
use Rattle.std.proofs.lemmas.List.Elements.{Contains-append_cases, Contains-append_left}
use Rattle.tsc_time.specs.Time.{Time, zero_time, is_before}
use Rattle.tsc_time.specs.ValueView.{ValueView, unowned}
use Rattle.tsc_time.specs.Joint.{joint, IsAtMost}
use Rattle.tsc_time.proofs.TimeOrder.{is_before-reports}
use Rattle.tsc_time.proofs.Members.{IsIn, IsIn-from_Contains, Contains-from_IsIn}
use Rattle.tsc_time.proofs.JointLemmas.{joint-above, joint-least, joint-append}
use Rattle.tsc_time.proofs.RatchetOrder.{IsAtMost-itself, IsAtMost-antisymmetric}
use Rattle.tsc_span.specs.Span.{SpanView}
use Rattle.tsc_page_model.specs.Page.{values_on}
use Rattle.tsc_page_model.specs.PageView.{PageView, answer}
use Rattle.tsc_cache.specs.CacheView.{latest_answer, LooksIntoViews}
use Rattle.tsc_cache.specs.Stacks.{HaveTopsUpTo, AreStacked, pages_answer}

-- what was looked into so far, with what is left
pub record Looking (pages rest : List PageView) (span : SpanView) (best : ValueView) (looked : ℕ) :
    Type 0 where
  pub into : List PageView
  pub parts : pages ≡ into ++ rest
  pub met : best ≡ pages_answer into span
  pub count : looked ≡ length into
  pub goes_on : (newer : List PageView) (page : PageView) (others : List PageView) →
      into ≡ newer ++ page ∷ others → is_before page.top (latest_answer span newer) ≡ false

-- no time is before time zero
pub none_before_zero : (t : Time) → is_before t zero_time ≡ false
none_before_zero t = grind (arith, is_before-reports)

-- the answer of a page is its own joint value above time zero
pub answer-alone : (p : PageView) (span : SpanView) → pages_answer (p ∷ []) span ≡ answer p span
answer-alone p span =
    let vs : List ValueView = values_on span p.spans in
    let a : ValueView = joint (unowned zero_time) vs in
    IsAtMost-antisymmetric (joint (unowned zero_time) (a ∷ [])) a
    (joint-least (unowned zero_time) (a ∷ []) a
    (λ x i. elim (IsIn-from_Contains (unowned zero_time ∷ a ∷ []) x i) [
      | inl e ↦ subst (λ (y : ValueView). IsAtMost y a) e
          (joint-above (unowned zero_time) vs (unowned zero_time)
          (Contains-from_IsIn (unowned zero_time ∷ vs) (unowned zero_time) (inl refl)))
      | inr j ↦ elim j [
        | inl e ↦ subst (λ (y : ValueView). IsAtMost y a) e (IsAtMost-itself a)
        | inr
            k ↦ absurd k
      ]
    ]))
    (joint-above (unowned zero_time) (a ∷ []) a
    (Contains-from_IsIn (unowned zero_time ∷ a ∷ []) a (inr (inl refl))))

-- one list in another's place before a page
front_alone : (front : PageView) (newer : List PageView) (page : PageView) (others : List PageView)
    → front ∷ [] ≡ newer ++ page ∷ others → newer ≡ []
front_alone front [] page others e = refl
front_alone front (n ∷ ns) page others e = absurd (impossible (ap length e))
  where
    impossible : 1 ≡ suc (length (ns ++ page ∷ others)) → ⊥
    impossible f = some ns f
      where
        some : (ms : List PageView) → 1 ≡ suc (length (ms ++ page ∷ others)) → ⊥
        some [] g = omega arith
        some (m ∷ ms) g = omega arith

-- the front page is always looked into
pub looking-start : (front : PageView) (older : List PageView) (span : SpanView) →
    Looking (front ∷ older) older span (answer front span) 1
looking-start front older span = record {
  into = front ∷ [];
  parts = refl;
  met = sym (answer-alone front span);
  count = refl;
  goes_on = λ newer page others e. rw (front_alone front newer page others e)
      (none_before_zero page.top);
}

-- what parts a list with one more at its end
parted_before : (into : List PageView) (p : PageView) (newer : List PageView) (page : PageView)
    (others : List PageView) → into ++ p ∷ [] ≡ newer ++ page ∷ others
    → ((rest : List PageView) × (into ≡ newer ++ page ∷ rest)) ⊎ ((newer ≡ into) × (page ≡ p))
parted_before into p newer page [] e = let both =
    same_from_push into newer p page e in inr (sym both.0, sym both.1)
parted_before into p newer page (o ∷ os) e = by (last_of o os) e
  where
    last_of : (x : PageView) (xs : List PageView) → (front : List PageView) × (y : PageView) ×
        (x ∷ xs ≡ front ++ y ∷ [])
    last_of x [] = ([], x, refl)
    last_of x (y ∷ ys) = let more = last_of y ys in (x ∷ more.0, more.1, ap (λ zs. x ∷ zs) more.2)

    by : (front : List PageView) × (y : PageView) × (o ∷ os ≡ front ++ y ∷ []) →
        into ++ p ∷ [] ≡ newer ++ page ∷ o ∷ os
        → ((rest : List PageView) × (into ≡ newer ++ page ∷ rest)) ⊎ ((newer ≡ into) × (page ≡ p))
    by found f =
        let both = same_from_push into (newer ++ page ∷ found.0) p found.1
        (f ∙ ap (λ zs. newer ++ page ∷ zs) found.2 ∙
        sym (append_assoc newer (page ∷ found.0) (found.1 ∷ []))) in
        inl (found.0, both.0)

-- one page more at the end
pub answers-push : (pages : List PageView) (p : PageView) (span : SpanView) →
    pages_answer (pages ++ p ∷ []) span ≡ joint (pages_answer pages span) (answer p span ∷ [])
answers-push pages p span =
    ap (joint (unowned zero_time)) (map-append (λ (q : PageView). answer q span) pages (p ∷ []))
    ∙ joint-append (unowned zero_time) (map (λ (q : PageView). answer q span) pages) (answer p span)

-- one page more is looked into
pub looking-more : (pages : List PageView) (p : PageView) (rest : List PageView) (span : SpanView)
    (best : ValueView) (looked : ℕ)
    → Looking pages (p ∷ rest) span best looked → is_before p.top best.time ≡ false
    → Looking pages rest span (joint best (answer p span ∷ [])) (looked + 1)
looking-more pages p rest span best looked so_far on = record {
  into = so_far.into ++ p ∷ [];
  parts = so_far.parts ∙ sym (append_assoc so_far.into (p ∷ []) rest);
  met = ap (λ (b : ValueView). joint b (answer p span ∷ [])) so_far.met ∙
      sym (answers-push so_far.into p span);
  count = let long = length_push so_far.into p in let had = so_far.count in omega arith;
  goes_on = λ newer page others e. elim (parted_before so_far.into p newer page others e) [
    | inl f ↦ so_far.goes_on newer page f.0 f.1
    | inr f ↦ subst (λ (q : PageView). is_before q.top (latest_answer span newer) ≡ false) (sym f.1)
        (subst (λ (ns : List PageView). is_before p.top (latest_answer span ns) ≡ false) (sym f.0)
        (subst (λ (b : ValueView). is_before p.top b.time ≡ false) so_far.met on))
  ];
}

-- no page is left
pub looking-end : (pages : List PageView) (span : SpanView) (best : ValueView) (looked : ℕ) →
    Looking pages [] span best looked → (best ≡ pages_answer pages span) ×
    LooksIntoViews span pages looked
looking-end pages span best looked done =
    let all : pages ≡ done.into = done.parts ∙ append-nil done.into in (
      done.met ∙ ap (λ ps. pages_answer ps span) (sym all),
      record {
        into = done.into;
        past = [];
        parts = done.parts;
        looked = done.count;
        goes_on = done.goes_on;
        stops = λ page others e. cc;
      },
    )

-- the older pages are stacked too
stacked_behind : (into rest : List PageView) → AreStacked (into ++ rest) → AreStacked rest
stacked_behind [] rest stacked = stacked
stacked_behind (p ∷ ps) rest stacked = stacked_behind ps rest stacked.2

-- no answer of stacked pages reaches a time above the first one's top
below_time : (t : Time) (ps : List PageView) (span : SpanView) (v : ValueView) → HaveTopsUpTo t ps →
    AreStacked ps → IsIn (map (λ (q : PageView). answer q span) ps) v → is_before t v.time ≡ false
below_time t [] span v tops stacked i = absurd i
below_time t (p ∷ ps) span v tops stacked (inl e) =
    subst (λ (w : ValueView). is_before t w.time ≡ false) e
    (let here = stacked.0 span in let low = tops.0 in grind (arith, is_before-reports))
below_time t (p ∷ ps) span v tops stacked (inr i) = below_time t ps span v tops.1 stacked.2 i

-- the other pages are not looked into, for their tops are below what was met
pub looking-stop : (pages : List PageView) (p : PageView) (rest : List PageView) (span : SpanView)
    (best : ValueView) (looked : ℕ)
    → AreStacked pages → Looking pages (p ∷ rest) span best looked →
    is_before p.top best.time ≡ true
    → (best ≡ pages_answer pages span) × LooksIntoViews span pages looked
looking-stop pages p rest span best looked stacked so_far off =
    let behind = stacked_behind so_far.into (p ∷ rest) (subst AreStacked so_far.parts stacked) in
    let answers : List PageView → List ValueView = λ ps. map (λ (q : PageView). answer q span) ps in
    let all : ValueView = pages_answer (so_far.into ++ p ∷ rest) span in
    let met : ValueView = pages_answer so_far.into span in
    let later : is_before p.top met.time ≡ true =
    subst (λ (b : ValueView). is_before p.top b.time ≡ true) so_far.met off in
    let parted : answers (so_far.into ++ p ∷ rest) ≡ answers so_far.into ++ answers (p ∷ rest) =
    map-append (λ (q : PageView). answer q span) so_far.into (p ∷ rest) in
    let same : all ≡ met = ap (joint (unowned zero_time)) parted ∙
    joint_past (unowned zero_time) (answers so_far.into) (answers (p ∷ rest))
    (λ v i. older_than span p rest behind v met.time i later) in (
      so_far.met ∙ sym same ∙ ap (λ ps. pages_answer ps span) (sym so_far.parts),
      record {
        into = so_far.into;
        past = p ∷ rest;
        parts = so_far.parts;
        looked = so_far.count;
        goes_on = so_far.goes_on;
        stops = λ page others e. subst (λ (q : PageView). is_before q.top
            (latest_answer span so_far.into) ≡ true) (first_same p page rest others e) later;
      },
    )
  where
    first_same : (q r : PageView) (qs rs : List PageView) → q ∷ qs ≡ r ∷ rs → q ≡ r
    first_same q r qs rs e = cc

    older_than : (s : SpanView) (q : PageView) (qs : List PageView) → AreStacked (q ∷ qs) →
        (v : ValueView) (t : Time) → IsIn (map (λ (r : PageView). answer r s) (q ∷ qs)) v →
        is_before q.top t ≡ true → is_before v.time t ≡ true
    older_than s q qs stack v t i low = let up =
        below_time q.top (q ∷ qs) s v (is_up_to q, stack.1) stack i in grind
        (arith, is_before-reports)
      where
        is_up_to : (r : PageView) → is_before r.top r.top ≡ false
        is_up_to r = grind (arith, is_before-reports)

    -- values earlier than a joint value add nothing to it
    joint_past : (v : ValueView) (vs ws : List ValueView) →
        ((w : ValueView) → IsIn ws w → is_before w.time (joint v vs).time ≡ true) →
        joint v (vs ++ ws) ≡ joint v vs
    joint_past v vs ws each =
        IsAtMost-antisymmetric (joint v (vs ++ ws)) (joint v vs)
        (joint-least v (vs ++ ws) (joint v vs)
        (λ x i. elim (Contains-append_cases (v ∷ vs) ws x i)
        [ inl j ↦ joint-above v vs x j | inr j ↦ inl (each x (IsIn-from_Contains ws x j)) ]))
        (joint-least v vs (joint v (vs ++ ws))
        (λ x i. joint-above v (vs ++ ws) x (Contains-append_left (v ∷ vs) ws x i)))
