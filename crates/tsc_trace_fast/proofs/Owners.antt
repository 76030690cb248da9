-- The owner of a mark or of an Add.
use Rattle.std.proofs.Common.{◌≡◌, ℕ, List, Option, Some, None, Ok, refl, ap, ◌∙◌}
use Rattle.std.specs.Prelude.{codes, unwrap_or, option_map}
use Rattle.serde_json.specs.Data.{Members}
use Rattle.serde_json.specs.Find.{get_member}
use Rattle.uuid.specs.Parts.{zero_bytes}
use Rattle.tsc_time.specs.ValueView.{owner_of}
use Rattle.tsc_trace_format.specs.TraceText.{owner_member}
use Rattle.tsc_trace_fast.specs.TokenReads.{Keeps}
use Rattle.tsc_trace_fast.specs.Kept.{owner_there}
use Rattle.tsc_trace_fast.proofs.MembersKept.{kept_some, kept_none}

-- the owner that was kept, or none
pub owner_kept : (found : Members) (o : Option (List ℕ)) →
    Keeps owner_there (codes "owner") found (option_map owner_of o) →
    owner_member (get_member (codes "owner") found) ≡ Ok (owner_of (unwrap_or o zero_bytes))
unfolding owner_member
owner_kept found None h = rw (kept_none owner_there (codes "owner") found None h refl) refl
owner_kept found (Some name) h = let t =
    kept_some owner_there (codes "owner") found (Some (owner_of name)) (owner_of name) h refl in ap
    owner_member t.1 ∙ t.2
