-- What an eviction leaves, by the pages that stay and those that are dropped.
use Rattle.std.proofs.Common.{◌≡◌, inl, inr, ◌∙◌, refl, sym, ap, subst, ℕ, suc, ◌+◌, List, [], ◌∷◌, ◌++◌, length, map, true, false, arith}
use Rattle.std.specs.Prelude.{reverse, All}
use Rattle.std.proofs.lemmas.List.{map-append, reverse-append, reverse-reverse, length-append, length-map, length-reverse, length_push, same_from_push}
use Rattle.std.proofs.lemmas.Grind.{reverse_onto}
use Rattle.std.proofs.lemmas.Bool.{cases_Bool, and_parts}
use Rattle.std.proofs.lemmas.List.Elements.{All-nil, All-cons}
use Rattle.tsc_time.specs.Time.{Time, later}
use Rattle.tsc_page_model.specs.Page.{PageMarks, top}
use Rattle.tsc_page_model.proofs.Standing.{later-swap}
use Rattle.tsc_cache.specs.ConfigView.{ConfigView}
use Rattle.tsc_cache.specs.Rotation.{Eviction, is_past_retention, drops_oldest, evict, highest, WereDropped, OldestStays, Evicts}
use Rattle.tsc_cache.specs.Laws.{PartsPages}

-- a floor lifted to the top of one page after another
abbrev pub lifted : Time → List PageMarks → Time
lifted floor [] = floor
lifted floor (p ∷ ps) = lifted (later floor (top p)) ps

lifted-push : (floor : Time) (ps : List PageMarks) (p : PageMarks) →
    lifted floor (ps ++ p ∷ []) ≡ later (lifted floor ps) (top p)
lifted-push floor [] p = refl
lifted-push floor (q ∷ ps) p = lifted-push (later floor (top q)) ps p

-- from the oldest on it comes to the latest of them
pub lifted-highest : (floor : Time) (ps : List PageMarks) →
    lifted floor (reverse ps) ≡ highest floor (map top ps)
lifted-highest floor [] = refl
lifted-highest floor (p ∷ ps) =
    ap (lifted floor) (reverse_onto ps p [])
    ∙ lifted-push floor (reverse ps) p
    ∙ ap (λ f. later f (top p)) (lifted-highest floor ps)
    ∙ later-swap (highest floor (map top ps)) (top p)

-- The one thing that others need of the policy: a page that goes is past its retention.
pub goes_past : (config : ConfigView) (newer : ℕ) (t now : Time) →
    drops_oldest config newer t now ≡ true →
    is_past_retention config.retention now t ≡ true
goes_past config newer t now goes = (and_parts _ _ goes).1

module _ (config : ConfigView) (now : Time) where
  -- those that were dropped are past their retention
  pub dropped_past : (newer : ℕ) (ts : List Time) → WereDropped config now newer ts →
      All (λ t. is_past_retention config.retention now t ≡ true) ts
  dropped_past newer [] gone = All-nil (λ t. is_past_retention config.retention now t ≡ true)
  dropped_past newer (t ∷ ts) gone =
      All-cons (λ u. is_past_retention config.retention now u ≡ true) t ts
      (goes_past config newer t now gone.0) (dropped_past (suc newer) ts gone.1)

  -- pages from oldest to newest that go one after another, before so many that stay
  abbrev Going : ℕ → List PageMarks → Type 0
  Going left [] = Unit {0}
  Going left (p ∷ ps) =
      (drops_oldest config (length ps + left) (top p) now ≡ true) × Going left ps

  -- the oldest of pages from oldest to newest stays
  abbrev Stays : List PageMarks → Type 0
  Stays [] = Unit {0}
  Stays (p ∷ ps) = drops_oldest config (length ps) (top p) now ≡ false

  -- an eviction drops those that go
  evict-goes : (going staying : List PageMarks) (floor : Time) → Going (length staying) going →
      Stays staying → evict config now floor (going ++ staying) ≡
      record { floor = lifted floor going; pages = staying; evicted = length going }
  evict-goes [] [] floor go stays = refl
  evict-goes [] (p ∷ ps) floor go stays = rw stays refl
  evict-goes (p ∷ ps) staying floor go stays =
      let goes : drops_oldest config (length (ps ++ staying)) (top p) now ≡ true =
      subst (λ n. drops_oldest config n (top p) now ≡ true) (sym (length-append ps staying))
      go.0 in
      rw goes (ap (λ (e : Eviction). record {
        floor = e.floor;
        pages = e.pages;
        evicted = suc e.evicted;
      }) (evict-goes ps staying (later floor (top p)) go.1 stays))

  -- one more that goes, as the last
  going-push : (ps : List PageMarks) (p : PageMarks) (left : ℕ) → Going (suc left) ps →
      drops_oldest config left (top p) now ≡ true → Going left (ps ++ p ∷ [])
  going-push [] p left go goes = (
    subst (λ n. drops_oldest config n (top p) now ≡ true) (omega arith) goes,
    tt,
  )
  going-push (q ∷ ps) p left go goes = (
    subst (λ n. drops_oldest config n (top q) now ≡ true)
        (let long = length_push ps p in omega arith) go.0,
    going-push ps p left go.1 goes,
  )

  -- those that were dropped go, from oldest to newest
  going_from : (dropped : List PageMarks) (left : ℕ) →
      WereDropped config now left (map top dropped) → Going left (reverse dropped)
  going_from [] left gone = tt
  going_from (p ∷ ps) left gone = rw (reverse_onto ps p [])
      (going-push (reverse ps) p left (going_from ps (suc left) gone.1) gone.0)

  -- one more that was dropped, as the oldest
  dropped-push : (ts : List Time) (t : Time) (left : ℕ) → WereDropped config now left ts →
      drops_oldest config (length ts + left) t now ≡ true →
      WereDropped config now left (ts ++ t ∷ [])
  dropped-push [] t left gone goes = (
    subst (λ n. drops_oldest config n t now ≡ true) (omega arith) goes,
    tt,
  )
  dropped-push (u ∷ ts) t left gone goes = (
    gone.0,
    dropped-push ts t (suc left) gone.1
        (subst (λ n. drops_oldest config n t now ≡ true) (omega arith) goes),
  )

  -- the tops of what is turned, up to the last
  tops_turned : (p : PageMarks) (ps : List PageMarks) →
      map top (reverse (p ∷ ps)) ≡ map top (reverse ps) ++ top p ∷ []
  tops_turned p ps = ap (map top) (reverse_onto ps p []) ∙ map-append top (reverse ps) (p ∷ [])

  tops_long : (ps : List PageMarks) → length (map top (reverse ps)) ≡ length ps
  tops_long ps = length-map (reverse ps) top ∙ length-reverse ps

  -- those that go were dropped, from newest to oldest
  dropped_from : (going : List PageMarks) (left : ℕ) → Going left going →
      WereDropped config now left (map top (reverse going))
  dropped_from [] left go = tt
  dropped_from (p ∷ ps) left go = rw (tops_turned p ps)
      (dropped-push (map top (reverse ps)) (top p) left (dropped_from ps left go.1)
      (subst (λ n. drops_oldest config (n + left) (top p) now ≡ true) (sym (tops_long ps)) go.0))

  -- the oldest one stays, from oldest to newest
  stays_from : (stay : List PageMarks) → OldestStays config now (map top stay) →
      Stays (reverse stay)
  stays_from stay stops = by (reverse stay) refl
    where
      by : (ps : List PageMarks) → reverse stay ≡ ps → Stays ps
      by [] e = tt
      by (p ∷ ps) e =
          let tops : map top stay ≡ map top (reverse ps) ++ top p ∷ [] =
          ap (map top) (sym (reverse-reverse stay) ∙ ap reverse e) ∙ tops_turned p ps in
          subst (λ n. drops_oldest config n (top p) now ≡ false) (tops_long ps)
          (stops (map top (reverse ps)) (top p) tops)

  -- and from newest to oldest
  stops_from : (staying : List PageMarks) → Stays staying →
      OldestStays config now (map top (reverse staying))
  stops_from [] stays [] oldest e = cc
  stops_from [] stays (t ∷ ts) oldest e = cc
  stops_from (p ∷ ps) stays newer oldest e =
      let same = same_from_push (map top (reverse ps)) newer (top p) oldest
      (sym (tops_turned p ps) ∙ e) in
      rw (← same.1) (subst (λ n. drops_oldest config n (top p) now ≡ false)
      (sym (tops_long ps) ∙ ap length same.0) stays)

  -- An eviction of pages that are parted so drops the second part, and lifts the floor to the
  -- latest of its tops.
  pub evict-is : (floor : Time) (stay dropped : List PageMarks) →
      Evicts config now (map top stay) (map top dropped)
      → evict config now floor (reverse (stay ++ dropped)) ≡
      record {
        floor = highest floor (map top dropped);
        pages = reverse stay;
        evicted = length dropped;
      }
  evict-is floor stay dropped h =
      let made : Time → ℕ → Eviction =
      λ lift count. record { floor = lift; pages = reverse stay; evicted = count } in
      let gone : WereDropped config now (length (reverse stay)) (map top dropped) =
      subst (λ n. WereDropped config now n (map top dropped))
      (length-map stay top ∙ sym (length-reverse stay)) h.gone in
      ap (evict config now floor) (reverse-append stay dropped)
      ∙ evict-goes (reverse dropped) (reverse stay) floor
      (going_from dropped (length (reverse stay)) gone) (stays_from stay h.stops)
      ∙ ap (λ lift. made lift (length (reverse dropped))) (lifted-highest floor dropped)
      ∙ ap (made (highest floor (map top dropped))) (length-reverse dropped)

  -- pages from oldest to newest parted in those that go and those that stay
  record Parted (pages : List PageMarks) : Type 0 where
    going : List PageMarks
    staying : List PageMarks
    parts : pages ≡ going ++ staying
    goes : Going (length staying) going
    stays : Stays staying

  parted : (pages : List PageMarks) → Parted pages
  parted [] = record { going = []; staying = []; parts = refl; goes = tt; stays = tt }
  parted (p ∷ ps) = elim (cases_Bool (drops_oldest config (length ps) (top p) now)) [
    | inl h ↦ let rest = parted ps in record {
      going = p ∷ rest.going;
      staying = rest.staying;
      parts = ap (λ qs. p ∷ qs) rest.parts;
      goes = (
        subst (λ n. drops_oldest config n (top p) now ≡ true)
            (ap length rest.parts ∙ length-append rest.going rest.staying) h,
        rest.goes,
      );
      stays = rest.stays;
    }
    | inr h ↦ record { going = []; staying = p ∷ ps; parts = refl; goes = tt; stays = h }
  ]

  -- An eviction parts the pages in those that stay and those that it drops.
  pub evicts_the : (floor : Time) (pages : List PageMarks) → PartsPages config now floor pages
  evicts_the floor pages =
      let p = parted (reverse pages) in
      let stay : List PageMarks = reverse p.staying in
      let dropped : List PageMarks = reverse p.going in
      let parts : pages ≡ stay ++ dropped = sym (reverse-reverse pages) ∙ ap reverse p.parts ∙
      reverse-append p.going p.staying in
      let evicts : Evicts config now (map top stay) (map top dropped) = record {
        gone = dropped_from p.going (length (map top stay))
            (subst (λ n. Going n p.going) (sym (tops_long p.staying)) p.goes);
        stops = stops_from p.staying p.stays;
      } in
      let is : evict config now floor (reverse pages) ≡
      record {
        floor = highest floor (map top dropped);
        pages = reverse stay;
        evicted = length dropped;
      }
      = ap (λ ps. evict config now floor (reverse ps)) parts ∙
      evict-is floor stay dropped evicts in
      record {
        stay = stay;
        dropped = dropped;
        parts = parts;
        evicts = evicts;
        kept = ap (λ (e : Eviction). reverse e.pages) is ∙ reverse-reverse stay;
        evicted = ap (λ (e : Eviction). e.evicted) is;
        raised = ap (λ (e : Eviction). e.floor) is;
      }
