-- Proves the contract of `put`. Puts what a key has in place of what rows say of it.
use Rattle.std.proofs.Common.{◌∙◌, sym, ap, ℕ, List}
use Rattle.std.specs.Prelude.{None, option_map}
use Rattle.std.specs.List.{insert}
use Rattle.std.proofs.lemmas.Result.{on_ok_weaker}
use Rattle.mvcc_versions.specs.Versions.{Row}
use Rattle.mvcc_versions.specs.OwnRows.{put_row}
use Rattle.mvcc_versions.proofs.OwnRows.{inserted}
use Rattle.mvcc_versions.proofs.own_writes.put.Goals as goal

pub returns-in-Some : goal.returns-in-Some
returns-in-Some c =
    let rows = c.args.rows.now.items in
    let k = c.args.key.now in
    let b = c.in-Some.value.items in
    let row : Row = record { key = k; value = b } in
    on_ok_weaker c.put_value.result (λ d. d
    ∙ (ap (λ (xs : List Row). insert xs c.clear-place.result row) c.clear-place.ensures.rows
    ∙ (ap (λ (n : ℕ). insert (put_row rows k None) n row) c.clear-place.ensures.place
    ∙ (inserted rows k b
    ∙ sym (ap (λ x. put_row rows k (option_map (λ y. y.items) x)) c.in-Some.is)))))
    c.put_value.ensures
