-- Which limits a server may have.
use Rattle.std.specs.Prelude.{◌≤◌}
use Rattle.stream_server.specs.declared.limits.Limits.{Limits}
use Rattle.gv_values.specs.declared.limits.TheConstants.{MOST_CONNECTIONS, MOST_IDLE, MOST_OPEN_CONNECTIONS}

-- each number is within its range
pub record IsInRange (limits : Limits) : Type 0 where
  pub some_place : 1 ≤ limits.pool
  pub few_places : limits.pool ≤ MOST_OPEN_CONNECTIONS
  pub some_connection : 1 ≤ limits.conns
  pub few_connections : limits.conns ≤ MOST_CONNECTIONS
  pub some_time : 1 ≤ limits.idle
  pub short_time : limits.idle ≤ MOST_IDLE
