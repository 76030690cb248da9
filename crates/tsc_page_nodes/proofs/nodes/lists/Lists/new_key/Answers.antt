-- A key with a node is not copied, and any other one has a place.
use Rattle.std.proofs.Common.{◌≡◌, ◌∙◌, refl, sym, ap, subst, ℕ, List, [], Ok, Err, true}
use mathlib.Core.Bool.{true≢false}
use Rattle.std.specs.Prelude.{Some, None, not, option_map}
use Rattle.tsc_span.specs.Span.{KeyBytes, before}
use Rattle.tsc_page_model.specs.PageView.{is_new_among}
use Rattle.tsc_page_nodes.specs.Nodes.{Node, node_keys, IsFoundAt, IsNewKey, IsIndexReported, IsSorted}
use Rattle.tsc_page_nodes.proofs.Edits.{FitsAt-absent}
use Rattle.tsc_page_nodes.proofs.Searches.{known_at, fits_at, new_at}
use Rattle.tsc_page_nodes.proofs.nodes.lists.Lists.new_key.Goals as goal

pub returns-in_err-copy-in-Err-clause-memory : goal.returns-in_err-copy-in-Err-clause-memory
returns-in_err-copy-in-Err-clause-memory c known =
    let nodes : List Node = c.args.self.now in
    let k : KeyBytes = c.in-Some.key.now in
    let index : ℕ = c.in-Err.index in
    let found : IsFoundAt nodes k (Err index) =
    subst (λ (m : KeyBytes). IsFoundAt nodes m (Err index)) c.search.ensures
    (subst (IsFoundAt nodes c.search.result.now) c.in-Err.is c.find.ensures) in
    let absent = FitsAt-absent k nodes index (before []) (subst IsSorted c.self.view_is c.self.invariant.sorted)
    (fits_at nodes k index found) in
    let new : true ≡ is_new_among (node_keys nodes) (option_map (λ k. k.now) c.args.key) =
    sym (ap not absent) ∙ ap (λ o. is_new_among (node_keys nodes) (option_map (λ k. k.now) o))
    (sym c.in-Some.is) in
    absurd (true≢false (new ∙ known))

pub returns-in-Ok-clause-value : goal.returns-in-Ok-clause-value
returns-in-Ok-clause-value c =
    let nodes : List Node = c.args.self.now in
    let k : KeyBytes = c.in-Some.key.now in
    let index : ℕ = c.in-Ok.index in
    let found : IsFoundAt nodes k (Ok index) =
    subst (λ (m : KeyBytes). IsFoundAt nodes m (Ok index)) c.search.ensures
    (subst (IsFoundAt nodes c.search.result.now) c.in-Ok.is c.find.ensures) in
    subst (λ o. IsNewKey nodes (option_map (λ k. k.now) o) None) (sym c.in-Some.is)
    (known_at nodes k index found)

pub returns-in_ok-copy-in-Err-clause-value : goal.returns-in_ok-copy-in-Err-clause-value
returns-in_ok-copy-in-Err-clause-value c =
    let nodes : List Node = c.args.self.now in
    let k : KeyBytes = c.in-Some.key.now in
    let copy : KeyBytes = c.in_ok-copy-in-Err.copy in
    let index : ℕ = c.in-Err.index in
    let found : IsFoundAt nodes k (Err index) =
    subst (λ (m : KeyBytes). IsFoundAt nodes m (Err index)) c.search.ensures
    (subst (IsFoundAt nodes c.search.result.now) c.in-Err.is c.find.ensures) in
    subst (λ o. IsNewKey nodes (option_map (λ k. k.now) o) (Some (index, copy))) (sym c.in-Some.is)
    (new_at nodes k index copy c.in_ok-copy-in-Err.ensures found)

pub returns-in-Ok-clause-index : goal.returns-in-Ok-clause-index
returns-in-Ok-clause-index c =
    let nodes : List Node = c.args.self.now in
    let k : KeyBytes = c.in-Some.key.now in
    let index : ℕ = c.in-Ok.index in
    let found : IsFoundAt nodes k (Ok index) =
    subst (λ (m : KeyBytes). IsFoundAt nodes m (Ok index)) c.search.ensures
    (subst (IsFoundAt nodes c.search.result.now) c.in-Ok.is c.find.ensures) in
    subst (λ o. IsIndexReported nodes (option_map (λ k. k.now) o) None (Some index))
    (sym c.in-Some.is) found

pub returns-in_ok-copy-in-Err-clause-index : goal.returns-in_ok-copy-in-Err-clause-index
returns-in_ok-copy-in-Err-clause-index c =
    subst (λ o. IsIndexReported c.args.self.now (option_map (λ k. k.now) o)
    (Some (c.in-Err.index, c.in_ok-copy-in-Err.copy)) (Some c.in-Err.index))
    (sym c.in-Some.is) refl
