-- Proves the contract of `is_there`. Whether the row at a key's place is its own.
use Rattle.std.proofs.Common.{◌<◌, ◌∙◌, sym, ap, ℕ, length, get_or, arith}
use Rattle.std.specs.Str.{bytes_eq}
use Rattle.mvcc_versions.specs.Versions.{Row}
use Rattle.mvcc_versions.specs.OwnRows.{place_of}
use Rattle.mvcc_versions.proofs.OwnRows.{at_place, none_at_end}
use Rattle.mvcc_versions.proofs.own_writes.is_there.Goals as goal

pub returns-then-place-rows : goal.returns-then-place-rows
returns-then-place-rows c =
    let rows = c.args.rows.now in
    let k = c.args.key.now in
    let d = c.index-rows-place.result in
    let there : place_of rows k < length rows = omega arith in
    c.is_of.ensures ∙ (ap (λ (r : Row). bytes_eq r.key k) c.index-rows-place.is
    ∙ (ap (λ (n : ℕ). bytes_eq (get_or rows n d).key k) c.requires ∙ at_place rows k d there))

pub returns : goal.returns
returns c = sym (none_at_end c.args.rows.now c.args.key.now (omega arith))
