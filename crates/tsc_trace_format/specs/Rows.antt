-- Lists of JSON values that are lent, as their data.
use Rattle.std.specs.Prelude.{List, map}
use Rattle.std.specs.Borrow.{Bor}
use Rattle.serde_json.specs.Data.{Data}
use Rattle.serde_json.specs.View.{view}
use Rattle.serde_json.specs.declared.value.Value.{Value}

-- the data of each list
abbrev pub rows_view : List (Bor (List Value)) → List (List Data)
rows_view rows = map (λ row. map view row.now) rows
