-- Beginnings of histories.
use Rattle.std.proofs.Common.{◌∙◌, sym, ap, subst, ℕ, [], ◌∷◌, ◌++◌, append_assoc, append-nil}
use Rattle.std.specs.List.{Contains}
use Rattle.std.proofs.lemmas.List.Elements.{Contains-append_left}
use Rattle.tsc_cache.specs.ConfigView.{ConfigView}
use Rattle.tsc_cache.specs.History.{Entry, History, BeginsWith, IsLegal}
use Rattle.tsc_cache.specs.Laws.{Beginnings}

-- a history begins with itself
pub begins_itself : (h : History) → BeginsWith h h
begins_itself h = ([], sym (append-nil h))

-- and with all that it begins with
pub begins_on : (h g f : History) → BeginsWith h g → BeginsWith g f → BeginsWith h f
begins_on h g f a b = (
  b.0 ++ a.0,
  a.1 ∙ ap (λ (x : History). x ++ a.0) b.1 ∙
      append_assoc f b.0 a.0,
)

-- an entry of a beginning is one of the whole
pub begins_entries : (h g : History) (e : Entry) → BeginsWith h g → Contains g e → Contains h e
begins_entries h g e b has = subst (λ (x : History). Contains x e) (sym b.1)
    (Contains-append_left g b.0 e has)

-- a beginning of a legal history is legal
pub legal_beginning : (config : ConfigView) (seats : ℕ) (h g : History) → IsLegal config seats h →
    BeginsWith h g → IsLegal config seats g
legal_beginning config seats h g legal b before e c =
    legal before e (begins_on h g (before ++ e ∷ []) b c)

-- all of it as one law
pub beginnings : Beginnings
beginnings = record {
  itself = begins_itself;
  onward = begins_on;
  entries = begins_entries;
  legal = λ config seats h start b legal. legal_beginning config seats h start legal b;
}
