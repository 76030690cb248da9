-- What is read from tokens in one pass: the JSON value that they begin with, and the tokens that
-- follow it.
use Rattle.std.specs.Prelude.{◌≡◌, ℕ, ◌<◌, ◌≤◌, List, [], ◌∷◌, length, Option, Some, None, Result, Ok, option_map}
use Rattle.json.specs.Token.{Token}
use Rattle.json.specs.Json as json
use Rattle.serde_json.specs.Data.{Data, Members, no_members, Items, item}
use Rattle.serde_json.specs.Find.{get_member}
use Rattle.serde_json.specs.Read.{of_json, of_items, of_members, converted}

-- The tokens `old` begin with the JSON value d, which nests no deeper than `deep`, and `new` follow
-- it.
pub record Reads (deep : ℕ) (old : List Token) (d : Data) (new : List Token) : Type 0 where
  pub read : (n : ℕ) → deep ≤ n → converted of_json (json.value n old) ≡ Some (d, new)
  pub going : json.after_end_array old ≡ None
  pub shorter : length new < length old

-- The value was read as x.
abbrev pub Got : {A F : Type 0} → ℕ → (Data → Result A F) → List Token → A → List Token → Type 0
Got deep f old x new = (d : Data) × Reads deep old d new × (f d ≡ Ok x)

-- the values of a list as items, and then the rest
abbrev pub prepend : List Data → Items → Items
prepend [] rest = rest
prepend (d ∷ ds) rest = item d (prepend ds rest)

-- Of the tokens `all`, which follow the bracket that opens an array, these items were read, and
-- `now` are left.
pub record HasItems (deep : ℕ) (all : List Token) (ds : List Data) (now : List Token) : Type 0 where
  pub turns : ℕ
  pub enough : length now ≤ turns
  pub within : length now ≤ length all
  pub read : (n : ℕ) → deep ≤ n → converted of_items (json.items (json.value n) (length all) all) ≡
      json.parse_map (prepend ds) (converted of_items (json.items (json.value n) turns now))

-- Of the tokens `all`, which follow the bracket that opens an object, these members were read, and
-- `now` are left.
pub record HasMembers (deep : ℕ) (all : List Token) (found : Members) (now : List Token) : Type
    0 where
  pub turns : ℕ
  pub enough : length now ≤ turns
  pub within : length now ≤ length all
  pub read : (n : ℕ) → deep ≤ n → converted (λ ms. of_members ms no_members)
      (json.members (json.value n) (length all) all) ≡ converted (λ ms. of_members ms found)
      (json.members (json.value n) turns now)

-- Of these tokens all members were read, and the brace that closes the object; `new` follow it.
pub record HasAllMembers (deep : ℕ) (all : List Token) (found : Members) (new : List Token) : Type
    0 where
  pub last : List Token
  pub read : HasMembers deep all found last
  pub over : json.read_key last ≡ Some (None, new)

-- What the member of a name is read as is what was kept of it, if there is one.
abbrev pub Keeps : {A F : Type 0} → (Data → Result A F) → List ℕ → Members → Option A → Type 0
Keeps f name found kept = option_map f (get_member name found) ≡ option_map Ok kept
