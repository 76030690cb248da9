-- What can be seen of a shared range, of its clients, of its dealer, and of its fronts.
use Rattle.std.specs.Prelude.{ℕ, ◌<◌, []}
use Rattle.atomic_table.specs.Seated.{TableId}
use Rattle.mvcc_shared.specs.History.{History, Terms, IsLegal}

-- Which range it is, by its table, and what was settled when it was opened.
pub record SharedView : Type 0 where
  pub table : TableId
  pub terms : Terms

-- a client: its range, its number, and the history that it has seen
pub record ClientView : Type 0 where
  pub range : SharedView
  pub number : ℕ
  pub seen : History

-- a front: its range, and the history that it stands for
pub record FrontView : Type 0 where
  pub range : SharedView
  pub seen : History

-- a dealer: its range, and how many clients it has dealt
pub record DealerView : Type 0 where
  pub range : SharedView
  pub dealt : ℕ

-- What a client always is: its number is one of those of the range, and it has seen a legal
-- history.
pub record IsClient (c : ClientView) : Type 0 where
  pub number : c.number < c.range.terms.clients
  pub legal : IsLegal c.range.terms c.seen

-- a front stands for a legal history
pub record IsFront (f : FrontView) : Type 0 where
  pub legal : IsLegal f.range.terms f.seen

-- a client that nobody has used yet
abbrev pub new_client : SharedView → ℕ → ClientView
new_client range number = record { range = range; number = number; seen = [] }
