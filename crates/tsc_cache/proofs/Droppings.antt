-- How an eviction goes from page to page, from the oldest on.
use Rattle.std.proofs.Common.{◌≡◌, ◌∙◌, refl, sym, ap, subst, true, ℕ, suc, ◌+◌, List, [], ◌∷◌, ◌++◌, length, map, append_assoc, append-nil, arith}
use Rattle.std.specs.Prelude.{Option, Some, None, IsSome}
use Rattle.std.specs.Option.{option_to_list}
use Rattle.std.proofs.lemmas.List.{length-append, length-map, length_push, same_from_push}
use Rattle.std.specs.Ordering.{ord_max}
use Rattle.tsc_time.specs.Time.{Time, time_cmp, later}
use Rattle.tsc_page_model.specs.PageView.{PageView}
use Rattle.tsc_page_model.proofs.Standing.{later-max, later-swap}
use Rattle.tsc_cache.specs.ConfigView.{ConfigView}
use Rattle.tsc_cache.specs.Rotation.{drops_oldest, highest, WereDropped, OldestStays}
use Rattle.tsc_cache.specs.Stacks.{IsDroppedTop, Drops}

abbrev tops : List PageView → List Time
tops pages = map (λ p. p.top) pages

tops_long : (pages : List PageView) → length (tops pages) ≡ length pages
tops_long pages = length-map pages (λ (p : PageView). p.top)

-- an eviction under way has dropped some pages, from the oldest on
pub record Dropping (config : ConfigView) (floor now : Time) (old new : List PageView)
    (raised : Time) (evicted : ℕ) : Type 0 where
  pub dropped : List PageView
  pub parts : old ≡ new ++ dropped
  pub gone : WereDropped config now (length new) (map (λ p. p.top) dropped)
  pub floor_is : raised ≡ highest floor (map (λ p. p.top) dropped)
  pub count : evicted ≡ length dropped

-- nothing was dropped yet
pub dropping-none : (config : ConfigView) (floor now : Time) (pages : List PageView) →
    Dropping config floor now pages pages floor 0
dropping-none config floor now pages = record {
  dropped = [];
  parts = sym (append-nil pages);
  gone = tt;
  floor_is = refl;
  count = refl;
}

-- one page more
pub dropping-more : (config : ConfigView) (floor now : Time) (old pages new : List PageView)
    (oldest : PageView) (raised t after : Time) (evicted : ℕ)
    → Dropping config floor now old pages raised evicted → after ≡ ord_max time_cmp raised t
    → pages ≡ new ++ oldest ∷ [] → IsDroppedTop config now pages (Some t)
    → Dropping config floor now old new after (evicted + 1)
dropping-more config floor now old pages new oldest raised t after evicted so_far is popped
    found =
    let same = same_from_push newer new p oldest (sym found.2 ∙ popped) in
    let top_is : t ≡ oldest.top = sym found.3 ∙ ap (λ (q : PageView). q.top) same.1 in
    let long : length pages ≡ suc (length new) = ap length popped ∙ length_push new oldest ∙
    omega arith in
    let counted = so_far.count in
    record {
      dropped = oldest ∷ so_far.dropped;
      parts = so_far.parts ∙ ap (λ ps. ps ++ so_far.dropped) popped ∙
          append_assoc new (oldest ∷ []) so_far.dropped;
      gone = (
        subst (λ u. drops_oldest config (length new) u now ≡ true) top_is
            (subst (λ ps. drops_oldest config (length ps) t now ≡ true) same.0 found.4),
        subst (λ n. WereDropped config now n (tops so_far.dropped)) long so_far.gone,
      );
      floor_is = is ∙ later-max raised t ∙ later-swap raised t ∙
          ap (λ x. later x raised) top_is ∙ ap (later oldest.top) so_far.floor_is;
      count = omega arith;
    }
  where
    newer : List PageView
    newer = found.0

    p : PageView
    p = found.1

-- no page more is dropped
pub dropping-end : (config : ConfigView) (floor now : Time) (old new : List PageView)
    (raised : Time) (evicted : ℕ)
    → Dropping config floor now old new raised evicted →
    OldestStays config now (map (λ p. p.top) new)
    → Drops config floor now old new raised evicted
dropping-end config floor now old new raised evicted done stays = record {
  dropped = done.dropped;
  parts = done.parts;
  evicts = record {
    gone = subst (λ n. WereDropped config now n (tops done.dropped)) (sym (tops_long new))
        done.gone;
    stops = stays;
  };
  floor_is = done.floor_is;
  count = done.count;
}

-- what was taken from the end
pub popped_plain : (ps qs : List PageView) (o : Option PageView) → IsSome o →
    ps ≡ qs ++ option_to_list o → (p : PageView) × (ps ≡ qs ++ p ∷ [])
popped_plain ps qs (Some p) some e = (p, e)
popped_plain ps qs None some e = cc

-- those dropped are no more than there were
pub dropped_count : (config : ConfigView) (floor now : Time) (old new : List PageView)
    (raised : Time) (evicted : ℕ) → Dropping config floor now old new raised evicted →
    evicted + length new ≡ length old
dropped_count config floor now old new raised evicted d = let long = ap length d.parts ∙
    length-append new d.dropped in let had = d.count in omega arith
