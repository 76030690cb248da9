-- Two tokens change places just where they are of one table. (For private contracts.)
use Rattle.std.specs.Prelude.{◌≡◌, ◌≢◌, ◌⊎◌}
use Rattle.atomic_table.specs.declared.shared.Seat.{Seat}

abbrev pub SwapsIfSame : {S V : Type 0} → Seat S V → Seat S V → Seat S V → Seat S V → Type 0
SwapsIfSame first second first' second' =
    ((first.table_id ≡ second.table_id) × (first' ≡ second) × (second' ≡ first))
    ⊎ ((first.table_id ≢ second.table_id) × (first' ≡ first) × (second' ≡ second))
