-- The versions of keys, what transactions read, and what they write can go to another thread.
use denote.RattleType.{RattleType}
use denote.Param.Send.{IsSend, sendable}
use denote.Param.SendFields.{declared_send, as_row_send}
use Rattle.std.proofs.Crossing.{crosses, send, frees}
use Rattle.std.proofs.MapsCrossing.{crosses as maps_cross}
use Rattle.std_collections.proofs.ListMemory.Crosses.{Nodes-send}
use Rattle.std_collections.specs.contracts.linked_list.nodes.Nodes as Nodes
use Rattle.std_collections.specs.contracts.linked_list.LinkedList as LinkedList
use Rattle.std_collections.specs.contracts.linked_list.LinkedList.TheInside as Inside
use Rattle.std_heap.specs.contracts.Global as Heap
use Rattle.std_heap.specs.contracts.GlobalAllocator.TheImpl.{ghosts}
use Rattle.tsc_time.specs.contracts.timestamp.Timestamp.{the_row as timestamp}
use Rattle.tsc_cache.proofs.Crossing.{span_sends}
use Rattle.tsc_span.specs.contracts.key.Key.{the_row as key}
use Rattle.mvcc_versions.specs.contracts.versions.Version.{the_row as version}
use Rattle.mvcc_versions.specs.contracts.versions.Write.{the_row as write}
use Rattle.mvcc_versions.specs.contracts.versions.Row.{the_row as row}
use Rattle.mvcc_versions.specs.contracts.versions.Read.{the_row as read}
use Rattle.mvcc_versions.specs.contracts.version_map.VersionMap.{the_row as version_map}

nodes_send : (T : RattleType) → IsSend T → IsSend (Nodes.the_row T Heap.the_row ghosts)
nodes_send T s = Nodes-send T Heap.the_row ghosts s send frees

inside_sends : (T : RattleType) → IsSend T → IsSend (Inside.the_row T Heap.the_row ghosts)
inside_sends T s = search (sendable, crosses, declared_send, nodes_send, send, s)
    depth 20

list_sends : (T : RattleType) → IsSend T → IsSend (LinkedList.the_row T Heap.the_row ghosts)
list_sends T s = record {
  owned = λ x vs i. ((inside_sends T s).owned i.0 vs, tt);
  leaving = λ k x w. tt;
}

timestamp_sends : IsSend timestamp
timestamp_sends = search (sendable, crosses) depth 20

key_sends : IsSend key
key_sends = search (sendable, crosses) depth 20

version_sends : IsSend version
version_sends = search (sendable, crosses, declared_send, as_row_send, timestamp_sends) depth 20

lists_send : IsSend (LinkedList.the_row version Heap.the_row ghosts)
lists_send = list_sends version version_sends

pub version_map_sends : IsSend version_map
version_map_sends = search (
  sendable,
  maps_cross,
  declared_send,
  as_row_send,
  key_sends,
  lists_send,
) depth 20

row_sends : IsSend row
row_sends = search (sendable, crosses, declared_send, as_row_send, key_sends) depth 20

pub read_sends : IsSend read
read_sends = search (sendable, crosses, declared_send, as_row_send, span_sends, row_sends) depth 20

pub write_sends : IsSend write
write_sends = search (sendable, crosses, declared_send, as_row_send, key_sends) depth 20
