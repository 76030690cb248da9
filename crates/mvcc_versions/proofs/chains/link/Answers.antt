-- Proves the contract of `link`. Puts a version at the front of a key's chain.
use Rattle.std.proofs.Common.{◌≡◌, ◌++◌, refl, sym, subst, Some, List}
use Rattle.std.specs.Prelude.{IsSome}
use Rattle.std.specs.BTreeMap.{get, Updates}
use Rattle.tsc_span.specs.Span.{key_cmp}
use Rattle.mvcc_versions.specs.Versions.{Version}
use Rattle.mvcc_versions.specs.Maps.{IsRoom}
use Rattle.mvcc_versions.proofs.Linking.{linked, linked_room, joined, room_for_one}
use Rattle.mvcc_versions.proofs.chains.link.Goals as goal

pub returns-in-Some-clause-chains : goal.returns-in-Some-clause-chains
returns-in-Some-clause-chains c =
    let m = c.args.chains.now in
    let key = c.args.key.now in
    let vs = c.in-Some.chain.now in
    let new = c.append-joined.new.self in
    let there : get key_cmp m key ≡ Some vs = sym c.in-Some.ensures.value in
    let is : new ≡ c.args.node ++ vs = joined c.append-joined.result new (c.args.node
    ++ vs) c.args.node (c.append-joined.ensures.succeeds
    (room_for_one c.args.node vs c.requires.one (subst (IsRoom 1) there c.requires.room)))
    c.append-joined.ensures.items in
    let n = c.get_mut.follows.lender new in
    let u : Updates key_cmp m n key (Some (c.args.node ++ vs)) =
    subst (λ (w : List Version). Updates key_cmp m n key (Some w)) is
    ((c.get_mut.follows.holds new).3 (subst IsSome (sym there) refl)) in
    linked m n key c.args.node vs there u

pub returns-in-Some-clause-room : goal.returns-in-Some-clause-room
returns-in-Some-clause-room c =
    let m = c.args.chains.now in
    let key = c.args.key.now in
    let vs = c.in-Some.chain.now in
    let new = c.append-joined.new.self in
    let there : get key_cmp m key ≡ Some vs = sym c.in-Some.ensures.value in
    let is : new ≡ c.args.node ++ vs = joined c.append-joined.result new (c.args.node
    ++ vs) c.args.node (c.append-joined.ensures.succeeds
    (room_for_one c.args.node vs c.requires.one (subst (IsRoom 1) there c.requires.room)))
    c.append-joined.ensures.items in
    let n = c.get_mut.follows.lender new in
    let u : Updates key_cmp m n key (Some (c.args.node ++ vs)) =
    subst (λ (w : List Version). Updates key_cmp m n key (Some w)) is
    ((c.get_mut.follows.holds new).3 (subst IsSome (sym there) refl)) in
    linked_room m n key c.args.node vs c.requires.one there u
