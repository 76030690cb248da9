-- The types of this crate can go to another thread, and be looked at from several.
use denote.Param.Send.{IsSend, IsSync, sendable}
use denote.Param.SendFields.{declared_send, declared_sync, as_row_send, as_row_sync, variants_send, variants_sync}
use Rattle.std.proofs.Crossing.{crosses}
use Rattle.tsc_time.specs.contracts.timestamp.Timestamp.{the_row as timestamp}
use Rattle.tsc_time.specs.contracts.value.Value.{the_row as value}
use Rattle.tsc_span.specs.contracts.key.Key.{the_row as key}
use Rattle.tsc_span.specs.contracts.prefix.KeyPrefix.{the_row as key_prefix}
use Rattle.tsc_span.specs.contracts.prefixed.PrefixedKey.{the_row as prefixed_key}
use Rattle.tsc_page_nodes.specs.contracts.nodes.Values.{the_row as values}
use Rattle.tsc_page_nodes.specs.contracts.nodes.Nodes.{the_row as nodes}
use Rattle.tsc_page_tree.specs.contracts.aggregate.Aggregate.{the_row as aggregate}
use Rattle.tsc_page_tree.specs.contracts.leaf.Leaf.{the_row as leaf}
use Rattle.tsc_page_tree.specs.contracts.branch.Branch.{the_row as branch}
use Rattle.tsc_page_tree.specs.contracts.root.Root.{the_row as root}
use Rattle.tsc_page_tree.specs.contracts.tree.Tree.{the_row as tree}
use Rattle.tsc_page.specs.contracts.page.Page.{the_row as page}
use Rattle.tsc_span.specs.contracts.span.Shape.{the_row as shape}
use Rattle.tsc_span.specs.contracts.span.Span.{the_row as span}
use Rattle.tsc_page_model.specs.contracts.plain_page.PlainMark.{the_row as plain_mark}
use Rattle.tsc_page_model.specs.contracts.plain_page.PlainPage.{the_row as plain_page}
use Rattle.tsc_cache.specs.contracts.added.Added.{the_row as added}
use Rattle.tsc_cache.specs.contracts.config.Config.{the_row as config}
use Rattle.tsc_cache.specs.contracts.plain_pages.PlainPages.{the_row as plain_pages}
use Rattle.tsc_cache.specs.contracts.plain_cache.PlainCache.{the_row as plain_cache}
use Rattle.tsc_cache.specs.contracts.page_stack.Pages.{the_row as pages}
use Rattle.tsc_cache.specs.contracts.cache.Cache.{the_row as cache}

timestamp_sends : IsSend timestamp
timestamp_sends = search (sendable, crosses) depth 20

timestamp_syncs : IsSync timestamp
timestamp_syncs = search (sendable, crosses) depth 20

value_sends : IsSend value
value_sends = search (sendable, crosses, timestamp_sends) depth 20

value_syncs : IsSync value
value_syncs = search (sendable, crosses, timestamp_syncs) depth 20

key_sends : IsSend key
key_sends = search (sendable, crosses) depth 20

key_syncs : IsSync key
key_syncs = search (sendable, crosses) depth 20

pub key_prefix_sends : IsSend key_prefix
key_prefix_sends = search (sendable, crosses) depth 20

pub key_prefix_syncs : IsSync key_prefix
key_prefix_syncs = search (sendable, crosses) depth 20

prefixed_key_sends : IsSend prefixed_key
prefixed_key_sends = search (sendable, crosses, key_prefix_sends, key_sends, key_syncs) depth 20

prefixed_key_syncs : IsSync prefixed_key
prefixed_key_syncs = search (sendable, crosses, key_prefix_syncs, key_sends, key_syncs) depth 20

values_send : IsSend values
values_send = search (sendable, crosses, value_sends) depth 20

values_sync : IsSync values
values_sync = search (sendable, crosses, value_syncs) depth 20

nodes_send : IsSend nodes
nodes_send = search (sendable, crosses, prefixed_key_sends, prefixed_key_syncs, values_send)
    depth 20

nodes_sync : IsSync nodes
nodes_sync = search (sendable, crosses, prefixed_key_sends, prefixed_key_syncs, values_sync)
    depth 20

aggregate_sends : IsSend aggregate
aggregate_sends = search (sendable, crosses, key_prefix_sends, value_sends) depth 20

aggregate_syncs : IsSync aggregate
aggregate_syncs = search (sendable, crosses, key_prefix_syncs, value_syncs) depth 20

leaf_sends : IsSend leaf
leaf_sends = search (
  sendable,
  crosses,
  declared_send,
  as_row_send,
  aggregate_sends,
  nodes_send,
  nodes_sync,
) depth 20

leaf_syncs : IsSync leaf
leaf_syncs = search (
  sendable,
  crosses,
  declared_sync,
  as_row_sync,
  aggregate_syncs,
  nodes_send,
  nodes_sync,
) depth 20

branch_sends : IsSend (branch leaf)
branch_sends = search (
  sendable,
  crosses,
  declared_send,
  as_row_send,
  aggregate_sends,
  leaf_sends,
  leaf_syncs,
) depth 20

branch_syncs : IsSync (branch leaf)
branch_syncs = search (
  sendable,
  crosses,
  declared_sync,
  as_row_sync,
  aggregate_syncs,
  leaf_sends,
  leaf_syncs,
) depth 20

branch_of_branches_sends : IsSend (branch (branch leaf))
branch_of_branches_sends = search (
  sendable,
  crosses,
  declared_send,
  as_row_send,
  aggregate_sends,
  branch_sends,
  branch_syncs,
) depth 20

branch_of_branches_syncs : IsSync (branch (branch leaf))
branch_of_branches_syncs = search (
  sendable,
  crosses,
  declared_sync,
  as_row_sync,
  aggregate_syncs,
  branch_sends,
  branch_syncs,
) depth 20

high_branch_sends : IsSend (branch (branch (branch leaf)))
high_branch_sends = search (
  sendable,
  crosses,
  declared_send,
  as_row_send,
  aggregate_sends,
  branch_of_branches_sends,
  branch_of_branches_syncs,
) depth 20

high_branch_syncs : IsSync (branch (branch (branch leaf)))
high_branch_syncs = search (
  sendable,
  crosses,
  declared_sync,
  as_row_sync,
  aggregate_syncs,
  branch_of_branches_sends,
  branch_of_branches_syncs,
) depth 20

root_sends : IsSend root
root_sends = search (
  sendable,
  crosses,
  variants_send,
  as_row_send,
  leaf_sends,
  leaf_syncs,
  branch_sends,
  branch_syncs,
  branch_of_branches_sends,
  branch_of_branches_syncs,
  high_branch_sends,
  high_branch_syncs,
) depth 20

root_syncs : IsSync root
root_syncs = search (
  sendable,
  crosses,
  variants_sync,
  as_row_sync,
  leaf_sends,
  leaf_syncs,
  branch_sends,
  branch_syncs,
  branch_of_branches_sends,
  branch_of_branches_syncs,
  high_branch_sends,
  high_branch_syncs,
) depth 20

tree_sends : IsSend tree
tree_sends = search (sendable, declared_send, as_row_send, root_sends) depth 20

tree_syncs : IsSync tree
tree_syncs = search (sendable, declared_sync, as_row_sync, root_syncs) depth 20

page_sends : IsSend page
page_sends = search (sendable, declared_send, as_row_send, timestamp_sends, tree_sends) depth 20

page_syncs : IsSync page
page_syncs = search (sendable, declared_sync, as_row_sync, timestamp_syncs, tree_syncs) depth 20

pub config_sends : IsSend config
config_sends = search (sendable, crosses, timestamp_sends) depth 20

pub config_syncs : IsSync config
config_syncs = search (sendable, crosses, timestamp_syncs) depth 20

pages_send : IsSend pages
pages_send = search (sendable, crosses, page_sends, page_syncs) depth 20

pages_sync : IsSync pages
pages_sync = search (sendable, crosses, page_sends, page_syncs) depth 20

pub cache_sends : IsSend cache
cache_sends = search (
  sendable,
  declared_send,
  as_row_send,
  config_sends,
  timestamp_sends,
  pages_send,
) depth 20

pub cache_syncs : IsSync cache
cache_syncs = search (
  sendable,
  declared_sync,
  as_row_sync,
  config_syncs,
  timestamp_syncs,
  pages_sync,
) depth 20

pub added_sends : IsSend added
added_sends = search sendable depth 20

pub added_syncs : IsSync added
added_syncs = search sendable depth 20

shape_sends : IsSend shape
shape_sends = search (sendable, key_sends) depth 20

shape_syncs : IsSync shape
shape_syncs = search (sendable, key_syncs) depth 20

pub span_sends : IsSend span
span_sends = search (sendable, declared_send, as_row_send, shape_sends) depth 20

pub span_syncs : IsSync span
span_syncs = search (sendable, declared_sync, as_row_sync, shape_syncs) depth 20

plain_mark_sends : IsSend plain_mark
plain_mark_sends = search (sendable, declared_send, as_row_send, span_sends, value_sends) depth 20

plain_mark_syncs : IsSync plain_mark
plain_mark_syncs = search (sendable, declared_sync, as_row_sync, span_syncs, value_syncs) depth 20

plain_page_sends : IsSend plain_page
plain_page_sends = search (
  sendable,
  crosses,
  declared_send,
  as_row_send,
  timestamp_sends,
  plain_mark_sends,
) depth 20

plain_page_syncs : IsSync plain_page
plain_page_syncs = search (
  sendable,
  crosses,
  declared_sync,
  as_row_sync,
  timestamp_syncs,
  plain_mark_syncs,
) depth 20

plain_pages_send : IsSend plain_pages
plain_pages_send = search (sendable, crosses, declared_send, as_row_send, plain_page_sends) depth 20

plain_pages_sync : IsSync plain_pages
plain_pages_sync = search (sendable, crosses, declared_sync, as_row_sync, plain_page_syncs) depth 20

pub plain_cache_sends : IsSend plain_cache
plain_cache_sends = search (
  sendable,
  declared_send,
  as_row_send,
  config_sends,
  timestamp_sends,
  plain_pages_send,
) depth 20

pub plain_cache_syncs : IsSync plain_cache
plain_cache_syncs = search (
  sendable,
  declared_sync,
  as_row_sync,
  config_syncs,
  timestamp_syncs,
  plain_pages_sync,
) depth 20
