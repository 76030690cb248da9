-- What lies in the slots can go to another thread, and the table can be reached from several.
use denote.RattleType.{RattleType}
use denote.Param.Send.{IsSend, IsSync, Frees, sendable, part_keyless}
use Rattle.atomic_table.specs.declared.shared.TableRule.{Ghosts as RuleGhosts}
use Rattle.std.specs.declared.alloc.Allocator.{Ghosts as HeapGhosts}
use denote.Param.SendFields.{declared_send, declared_sync, variants_send, as_row_send, as_row_sync}
use Rattle.std.proofs.Crossing.{crosses}
use Rattle.atomic_table.proofs.Sent.{owns_keyless, shares_keyless}
use Rattle.atomic_table.proofs.Rights.{right_send}
use Rattle.atomic_table.specs.contracts.owned.Table.{the_row as table}
use Rattle.atomic_table.specs.contracts.shared.Shared.{the_row as the_shared}
use Rattle.atomic_table.specs.contracts.shared.Shared.{the_type as shared_type}
use denote.Struct.Struct.{Struct}
use denote.Struct.Owning.{shape}
use Rattle.atomic_table.specs.contracts.send_lease.SendLease.{the_row as send_lease}
use Rattle.tsc_left_right.specs.contracts.table.Setup.{the_row as setup}
use Rattle.tsc_left_right.specs.contracts.table.Copies.{the_row as copies}
use Rattle.tsc_left_right.specs.contracts.table.WriterState.{the_row as writer}
use Rattle.tsc_left_right.specs.contracts.table.ReadHandle.{the_row as handle}
use Rattle.tsc_left_right.specs.contracts.table.Slot.{the_row as slot_row}

pub setup_sends : (S : RattleType) → IsSend S → IsSend (setup S)
setup_sends S s = search (sendable, crosses, declared_send, as_row_send, s) depth 20

pub setup_syncs : (S : RattleType) → IsSync S → IsSync (setup S)
setup_syncs S s = search (sendable, crosses, declared_sync, as_row_sync, s) depth 20

-- what lies in the slots, over copies and operations that can
module _ (C O : RattleType) (c : IsSend C) (d : IsSync C) (o : IsSend O) where
  copies_sends : IsSend (copies C O)
  copies_sends = search (sendable, crosses, declared_send, as_row_send, c, d, o) depth 20

  writer_sends : IsSend (writer C O)
  writer_sends = search (sendable, crosses, declared_send, as_row_send, copies_sends) depth 20

  handle_sends : IsSend (handle C)
  handle_sends = search (sendable, crosses, declared_send, as_row_send, c, d) depth 20

  pub slot_sends : IsSend (slot_row C O)
  slot_sends =
      search (sendable, crosses, variants_send, as_row_send, writer_sends, handle_sends) depth 20

-- a table, over whatever its slots hold
module _ (S V K P A : RattleType) (rule : RuleGhosts P.Denot S.Denot V.Denot K.Denot)
    (heap : HeapGhosts A.Denot) where
  steps_send : IsSend S → IsSend (the_shared S V K P rule)
  steps_send s = search (sendable, owns_keyless, s) depth 20

  steps_sync : IsSend S → IsSync (the_shared S V K P rule)
  steps_sync s = record {
    shared = λ t b o κ. (
      plain_fields.shared (t.words, (t.slots, (tt, tt))) b
          o κ,
      shares_keyless S s V.coded.code t.table_id (rule.holds t.key) t.words t.slots κ,
    );
  }
    where
      plain_fields : IsSync (Struct (shape (shared_type S V K P rule)))
      plain_fields = search sendable depth 20

  pub table_sends : IsSend S → IsSend A → Frees heap heap.dealloc_token
      → IsSend (table S V K P A rule heap)
  table_sends s a f = search (
    sendable,
    declared_send,
    as_row_send,
    steps_send,
    right_send,
    s,
    a,
    f,
  ) depth 20

  -- who looks at the right to free a table's memory has a part of what who owns it has
  right_syncs : Frees heap heap.dealloc_token → (R : RattleType) → IsSync (send_lease R A heap)
  right_syncs f R = record {
    shared = λ x b o κ q. part_keyless (send_lease R A heap)
        (right_send R A heap f) q x b o;
  }

  pub table_syncs : IsSend S → IsSync A → Frees heap heap.dealloc_token
      → IsSync (table S V K P A rule heap)
  table_syncs s a f = search (
    sendable,
    declared_sync,
    as_row_sync,
    steps_sync,
    right_syncs f,
    s,
    a,
  ) depth 20
