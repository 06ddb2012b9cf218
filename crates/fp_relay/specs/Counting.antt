-- What an operator is told of connections.
use Rattle.std.specs.Prelude.{◌+◌, ◌^◌, ◌-◌, min}
use Rattle.fp_connections.specs.declared.counts.Counted.{Counted}
use Rattle.fp_relay_replies.specs.declared.status.Report.{Report}

-- a report with what was counted of connections: both kinds that are open, those that were let in,
-- and those for which there was no place
abbrev pub with_counts : Report → Counted → Report
with_counts report counted = record report {
  connections = min (counted.requesters + counted.subscribers) (2 ^ 64 - 1);
  connections_total = counted.accepted;
  refused_total = counted.refused;
}
