-- The limit of this crate, as a number. The code's constant owes that it is this.
use Rattle.std.specs.Prelude.{ℕ}

-- how many seats a cache may have at the most
abbrev pub most_seats : ℕ
most_seats = 64
