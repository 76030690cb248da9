-- Proves the contract of `clear`. Takes a key's row away, if it has one, and answers where its
-- place is.
use Rattle.std.proofs.Common.{◌≡◌, ◌∙◌, ap, true, false, length, arith}
use Rattle.std.specs.List.{remove}
use Rattle.std.specs.Prelude.{None}
use Rattle.mvcc_versions.specs.OwnRows.{has_row, place_of, put_row}
use Rattle.mvcc_versions.proofs.OwnRows.{removed, not_there, place_within, place_below}
use Rattle.mvcc_versions.proofs.own_writes.clear.Goals as goal

pub remove-requires : goal.remove-requires
remove-requires c =
    let has : has_row c.args.rows.now.items c.args.key.now ≡ true = cc in
    let below = place_below c.args.rows.now.items c.args.key.now has in
    let place : c.place_of-place.result ≡ place_of c.args.rows.now.items c.args.key.now = cc in
    omega arith

pub returns-then-is_there-clause-rows : goal.returns-then-is_there-clause-rows
returns-then-is_there-clause-rows c =
    let has : has_row c.args.rows.now.items c.args.key.now ≡ true = cc in
    let place : c.place_of-place.result ≡ place_of c.args.rows.now.items c.args.key.now = cc in
    c.remove.ensures.items ∙ (ap (λ n. remove c.args.rows.now.items n) place
    ∙ removed c.args.rows.now.items c.args.key.now has)

pub returns-else-is_there-clause-within : goal.returns-else-is_there-clause-within
returns-else-is_there-clause-within c =
    let has : has_row c.args.rows.now.items c.args.key.now ≡ false = cc in
    let place : c.place_of-place.result ≡ place_of c.args.rows.now.items c.args.key.now = cc in
    let within = place_within c.args.rows.now.items c.args.key.now in
    let same : length c.args.rows.now.items
    ≡ length (put_row c.args.rows.now.items c.args.key.now None) =
    ap (λ xs. length xs) (not_there c.args.rows.now.items c.args.key.now has) in
    omega arith

pub returns-else-is_there-clause-rows : goal.returns-else-is_there-clause-rows
returns-else-is_there-clause-rows c =
    let has : has_row c.args.rows.now.items c.args.key.now ≡ false = cc in
    not_there c.args.rows.now.items c.args.key.now has
