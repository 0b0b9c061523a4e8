-- What tables say of a packet's two addresses, each of them asked once.
use Rattle.std.specs.{Prelude.{◌≡◌, T, ℕ, Bool, List, [], map}, FinMap.{find, is_sorted}, Option.option_map}
use Rattle.pf_rule.specs.Packets.{PlainPacket}
use Rattle.pf_table.specs.{Entries.PlainEntry, Tables.table_holds}
use Rattle.pf_anchor.specs.Tables.{TableKey, PlainPlacedTable, table_order, table_found}

-- what a table says of a packet's source and of its destination
pub record Answers : Type 0 where
  pub source : Bool
  pub destination : Bool

-- where a table is, and its answers
abbrev pub PlainAnswered : Type 0
PlainAnswered = TableKey × Answers

abbrev pub answers : PlainPacket → List PlainEntry → Answers
answers packet es = record { source = table_holds es packet.source; destination = table_holds es packet.destination }

-- each of these tables with its answers
abbrev pub answered_by : PlainPacket → List PlainPlacedTable → List PlainAnswered
answered_by packet ts = map (λ t. (t.0, answers packet t.1)) ts

-- all tables with their answers, in order
pub record AreAnswered (packet : PlainPacket) (ts : List PlainPlacedTable) (known : List PlainAnswered) : Type 0 where
  pub sorted : T (is_sorted table_order known)
  pub each : known ≡ answered_by packet ts

-- the answers of the tables at a path, in order: of each name what the table there says, if there is one
pub record AreAnsweredAt (packet : PlainPacket) (ts : List PlainPlacedTable) (p : List ℕ) (known : List PlainAnswered) : Type 0 where
  pub sorted : T (is_sorted table_order known)
  pub each : (name : List ℕ) → find table_order (p, name) known ≡ option_map (answers packet) (table_found p name ts)

-- the answers of all tables that the rules of the ruleset at p may mean: those at p, and the main ruleset's
pub record AreNamed (packet : PlainPacket) (ts : List PlainPlacedTable) (p : List ℕ) (own main : List PlainAnswered) : Type 0 where
  pub at_path : AreAnsweredAt packet ts p own
  pub at_main : AreAnsweredAt packet ts [] main
