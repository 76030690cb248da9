-- How owned times come together: `ratchetValue` of CockroachDB's pkg/kv/kvserver/tscache/cache.go.
use Rattle.std.specs.Prelude.{◌≡◌, ◌⊎◌, List, [], ◌∷◌, map, filter, Option, None, IsTrue, if◌then◌else◌}
use Rattle.std.specs.List.{list_all}
use Rattle.tsc_time.specs.Time.{Time, is_before, is_same_time, later}
use Rattle.tsc_time.specs.ValueView.{Owner, ValueView, unowned, is_same_owner}

-- the greatest of a time and of the times of a list
abbrev pub latest : Time → List ValueView → Time
latest t [] = t
latest t (v ∷ vs) = later v.time (latest t vs)

-- the owner that each of a list names: none, where one names none or two differ
abbrev pub shared_owner : List (Option Owner) → Option Owner
shared_owner [] = None
shared_owner (o ∷ os) = if list_all (is_same_owner o) os then o else None

-- the values of a list that have this time
abbrev pub those_at : Time → List ValueView → List ValueView
those_at t vs = filter (λ v. is_same_time v.time t) vs

-- The joint value of v and of a list: the latest time among them, and the owner that all those of
-- that time agree on.
abbrev pub joint : ValueView → List ValueView → ValueView
joint v vs = let t = latest v.time vs
    in record { time = t; owner = shared_owner (map (λ w. w.owner) (those_at t (v ∷ vs))) }

-- the joint value of a list and a floor, which has no owner
abbrev pub joint_above : Time → List ValueView → ValueView
joint_above floor vs = joint (unowned floor) vs

-- the ratchet order: w is later than v, or as late and has no owner or that of v
abbrev pub IsAtMost : ValueView → ValueView → Type 0
IsAtMost v w = IsTrue (is_before v.time w.time) ⊎
    ((v.time ≡ w.time) × ((w.owner ≡ None) ⊎ (w.owner ≡ v.owner)))

-- What a new value makes of an old one: whichever is later stays as it is. Two of one time keep an
-- owner that both name, and else have none.
abbrev pub ratcheted : ValueView → ValueView → ValueView
ratcheted old new =
    if is_before old.time new.time then new
    else if is_before new.time old.time then old
    else if is_same_owner old.owner new.owner then old
    else unowned old.time
