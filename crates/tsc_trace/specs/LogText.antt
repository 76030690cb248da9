-- The text of a log.
use Rattle.std.specs.Prelude.{ℕ, List, [], ◌∷◌, ◌++◌, Bool, Option, Some, None, codes, decimal, if◌then◌else◌}
use Rattle.std.specs.List.{flat_map, join_with_byte}
use Rattle.uuid.specs.Text.{hyphenated_text, lower}
use Rattle.tsc_time.specs.Time.{Time}
use Rattle.tsc_time.specs.ValueView.{Owner}
use Rattle.tsc_trace.specs.declared.log.Line.{Line}
use Rattle.tsc_trace.specs.declared.log.CallAnswer.{CallAnswer}
use Rattle.tsc_trace.specs.declared.log.CallAnswer.TheVariants as said

-- the byte between two fields
abbrev pub space : ℕ
space = 32

-- the byte that ends a line
abbrev pub line_feed : ℕ
line_feed = 10

-- the byte between the two parts of a time
abbrev pub dot : ℕ
dot = 46

-- `1` for yes, and `0` for no
abbrev pub bit_text : Bool → List ℕ
bit_text b = if b then codes "1" else codes "0"

-- the wall time and the logical count, with a dot between them
abbrev pub time_text : Time → List ℕ
time_text t = decimal t.wall ++ dot ∷ decimal t.logical

-- a UUID in lower case with hyphens, or `none`
abbrev pub owner_text : Option Owner → List ℕ
owner_text None = codes "none"
owner_text (Some uuid) = hyphenated_text lower uuid

-- an answer: its fields with one space between each two
abbrev pub answer_text : CallAnswer → List ℕ
answer_text (said.Add place added) =
    join_with_byte space (codes "add" ∷ decimal place ∷ bit_text added.kept ∷
    bit_text added.rotated ∷ decimal added.evicted ∷ [])
answer_text (said.Batch place added) =
    join_with_byte space (codes "batch" ∷ decimal place ∷ bit_text added.kept ∷
    bit_text added.rotated ∷ decimal added.evicted ∷ [])
answer_text (said.Get front value) =
    join_with_byte space (codes "get" ∷ decimal front ∷ time_text value.time ∷
    owner_text value.owner ∷ [])
answer_text (said.Low front time) = join_with_byte space
    (codes "low" ∷ decimal front ∷ time_text time ∷ [])

-- a line without its line feed: its list, its place in it, and its answer
abbrev pub line_text : Line → List ℕ
line_text line = join_with_byte space
    (decimal line.thread ∷ decimal line.index ∷ answer_text line.said ∷ [])

-- the lines, each ended by a line feed
abbrev pub log_text : List Line → List ℕ
log_text lines = flat_map (λ line. line_text line ++ line_feed ∷ []) lines
