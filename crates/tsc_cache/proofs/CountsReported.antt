-- What is counted of the pages of a cache, one page after another.
use Rattle.std.proofs.Common.{◌≡◌, refl, ◌∙◌, sym, ap, ℕ, ◌+◌, List, [], ◌∷◌, ◌++◌, length, map, append_assoc, append-nil, arith}
use Rattle.std.proofs.lemmas.List.Sums.{sum_by_push, sum_by-cons}
use Rattle.tsc_time.specs.Time.{Time}
use Rattle.tsc_page_model.specs.Page.{PageMarks, marked_keys, count_distinct, cost_distinct}
use Rattle.tsc_page_model.specs.PageView.{PageView, bytes_of}
use Rattle.tsc_page_model.proofs.Standing.{same_count, same_bytes}
use Rattle.tsc_cache.specs.declared.figures.Figures.{Figures}
use Rattle.tsc_cache.specs.ConfigView.{ConfigView}
use Rattle.tsc_cache.specs.State.{CacheState}
use Rattle.tsc_cache.specs.CacheView.{CacheView, EachRepresents, RepresentsState}
use Rattle.tsc_cache.specs.Counts.{up_to_end, nodes_on, bytes_on, figures_of, nodes_seen, bytes_seen, figures_with, figures_seen}
use Rattle.tsc_cache.proofs.StatesSeen.{as_many}

-- a count that goes on stays at its end
pub end_on : (a b : ℕ) → up_to_end (up_to_end a + b) ≡ up_to_end (a + b)
end_on a b = omega arith

-- the figures with one more page
abbrev pub with_page : Figures → PageView → Figures
with_page f p = record {
  pages = f.pages;
  rotations = f.rotations;
  nodes = up_to_end (f.nodes + count_distinct p.keys);
  bytes = up_to_end (f.bytes + bytes_of p);
  floor = f.floor;
}

-- the figures of so many pages, where what some of them hold is counted
abbrev pub figures_so_far : ℕ → Time → ℕ → List PageView → Figures
figures_so_far count floor rotations ps =
    record {
      pages = count;
      rotations = rotations;
      nodes = up_to_end (nodes_seen ps);
      bytes = up_to_end (bytes_seen ps);
      floor = floor;
    }

-- they are those of the pages, and of that one behind them
pub counted_more : (count : ℕ) (floor : Time) (rotations : ℕ) (ps : List PageView) (p : PageView) →
    with_page (figures_so_far count floor rotations ps) p ≡ figures_so_far count floor rotations
    (ps ++ p ∷ [])
counted_more count floor rotations ps p =
    let nodes : up_to_end (up_to_end (nodes_seen ps) + count_distinct p.keys) ≡
    up_to_end (nodes_seen (ps ++ p ∷ [])) = end_on (nodes_seen ps) (count_distinct p.keys) ∙
    ap up_to_end (sym (sum_by_push (λ (q : PageView). count_distinct q.keys) ps p)) in
    let bytes : up_to_end (up_to_end (bytes_seen ps) + bytes_of p) ≡
    up_to_end (bytes_seen (ps ++ p ∷ [])) = end_on (bytes_seen ps) (bytes_of p) ∙
    ap up_to_end (sym (sum_by_push bytes_of ps p)) in
    (λ i. record {
      pages = count;
      rotations = rotations;
      nodes = nodes i;
      bytes = bytes i;
      floor = floor;
    })

-- What was counted so far, with the pages that are left.
pub record Counting (pages rest : List PageView) (floor : Time) (rotations : ℕ) (f : Figures) : Type
    0 where
  pub counted : List PageView
  pub parts : pages ≡ counted ++ rest
  pub figures_are : f ≡ figures_so_far (length pages) floor rotations counted

pub counting-start : (front : PageView) (older : List PageView) (floor : Time) (rotations : ℕ)
    (none f : Figures) → none ≡ figures_so_far (length (front ∷ older)) floor rotations [] →
    f ≡ with_page none front
    → Counting (front ∷ older) older floor rotations f
counting-start front older floor rotations none f is more = record {
  counted = front ∷ [];
  parts = refl;
  figures_are = more ∙ ap (λ g. with_page g front) is ∙
      counted_more (length (front ∷ older)) floor rotations [] front;
}

pub counting-more : (pages : List PageView) (p : PageView) (rest : List PageView) (floor : Time)
    (rotations : ℕ) (f g : Figures) → Counting pages (p ∷ rest) floor rotations f →
    g ≡ with_page f p
    → Counting pages rest floor rotations g
counting-more pages p rest floor rotations f g so_far more = record {
  counted = so_far.counted ++ p ∷ [];
  parts = so_far.parts ∙ sym (append_assoc so_far.counted (p ∷ []) rest);
  figures_are = more ∙ ap (λ h. with_page h p) so_far.figures_are ∙
      counted_more (length pages) floor rotations so_far.counted p;
}

pub counting-end : {A : Type 0} (f : A → PageView) (pages : List PageView) (rest : List A)
    (floor : Time) (rotations : ℕ) (g : Figures) → length rest ≡ 0 →
    Counting pages (map f rest) floor rotations g
    → g ≡ figures_with floor rotations pages
counting-end f pages [] floor rotations g none all = all.figures_are ∙
    ap (figures_so_far (length pages) floor rotations) (sym (all.parts ∙ append-nil all.counted))
counting-end f pages (a ∷ rest) floor rotations g none all = absurd (omega (arith, none))

-- pages that stand for others have as many keys
pub same_nodes : (vs : List PageView) (ps : List PageMarks) → EachRepresents vs ps →
    nodes_seen vs ≡ nodes_on ps
same_nodes [] [] each = refl
same_nodes [] (p ∷ ps) each = absurd each
same_nodes (v ∷ vs) [] each = absurd each
same_nodes (v ∷ vs) (p ∷ ps) each =
    sum_by-cons (λ (q : PageView). count_distinct q.keys) v vs
    ∙ (λ i. same_count v p each.0 i + same_nodes vs ps each.1 i)
    ∙ sym (sum_by-cons (λ (q : PageMarks). count_distinct (marked_keys q.marks)) p ps)

-- and they cost as much
pub same_costs : (vs : List PageView) (ps : List PageMarks) → EachRepresents vs ps →
    bytes_seen vs ≡ bytes_on ps
same_costs [] [] each = refl
same_costs [] (p ∷ ps) each = absurd each
same_costs (v ∷ vs) [] each = absurd each
same_costs (v ∷ vs) (p ∷ ps) each =
    sum_by-cons bytes_of v vs
    ∙ (λ i. same_bytes v p each.0 i + same_costs vs ps each.1 i)
    ∙ sym (sum_by-cons (λ (q : PageMarks). cost_distinct (marked_keys q.marks)) p ps)

-- a cache has the figures of each state that it stands for
pub same_figures : (v : CacheView) (config : ConfigView) (s : CacheState) →
    RepresentsState v config s → figures_seen v ≡ figures_of s
same_figures v config s stands =
    (λ i. record {
      pages = as_many v.pages s.pages stands.pages i;
      rotations = stands.rotations i;
      nodes = up_to_end (same_nodes v.pages s.pages stands.pages i);
      bytes = up_to_end (same_costs v.pages s.pages stands.pages i);
      floor = stands.floor i;
    })
