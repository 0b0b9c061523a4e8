-- The bytes of an export are read as its messages.
use Rattle.std.proofs.{Common.{◌≡◌, ◌<◌, ◌^◌, ℕ, zero, suc, List, [], ◌∷◌, length, map, take, drop, cond, Bool, true, false, arith}, lemmas.List.length-take}
use Rattle.std.specs.Str.{bytes_eq}
use Rattle.pf_state.specs.{declared.{peer.message.Message.Message, binding.TheConstants.ALL_ONES, state.Bound.Bound, state.Bound.TheVariants.Rule, state.Bound.TheVariants.Default}, Peer.Messages.IsMessage, Peer.Records.IsInsert, Peer.Written.{Each, message_bytes, CanBeWritten}, Bindings.exported, States.PlainState, Failover.Outgoing.{exported_insert, exported_message, parts}, Laws.Failover.{IsBound, IsState, IsReadBack}}
use Rattle.pf_state.proofs.{Cut.by_parts, ExportParts.{export_fits, IsRead, read_in_turn}}

each_take : (n : ℕ) (es : List PlainState) → Each IsState es → Each IsState (take n es)
each_take zero es each = tt
each_take (suc n) [] each = tt
each_take (suc n) (s ∷ es) each = (each.0, each_take n es each.1)

each_drop : (n : ℕ) (es : List PlainState) → Each IsState es → Each IsState (drop n es)
each_drop zero es each = each
each_drop (suc n) [] each = tt
each_drop (suc n) (s ∷ es) each = each_drop n es each.1

rule_fits : (current : List ℕ) (b : Bound) → IsBound b → exported b current < 2 ^ 32
rule_fits current Default is = omega arith
rule_fits current (Rule number sum) is = by (bytes_eq sum current) where
  by : (t : Bool) → cond t number ALL_ONES < 2 ^ 32
  by true = is
  by false = omega arith

is_insert : (current : List ℕ) (s : PlainState) → IsState s → IsInsert (exported_insert current s)
is_insert current s is = record {
  id = is.id;
  creator = is.creator;
  generation = is.generation;
  protocol = is.flow.protocol;
  source = is.flow.addresses.0;
  destination = is.flow.addresses.1;
  families = is.flow.families;
  source_port = is.flow.ports.0;
  destination_port = is.flow.ports.1;
  no_ports = is.flow.no_ports;
  rule = rule_fits current s.1.bound is.bound;
  anchor = omega arith;
}

pub are_inserts : (current : List ℕ) (es : List PlainState) → Each IsState es → Each IsInsert (map (exported_insert current) es)
are_inserts current [] each = tt
are_inserts current (s ∷ es) each = (is_insert current s each.0, are_inserts current es each.1)

can_be_written : (current : List ℕ) (es : List PlainState) → length current ≡ 16 → Each IsState es → CanBeWritten (exported_message current (take 31 es))
can_be_written current es long each = record {
  checksum = long;
  groups = (are_inserts current (take 31 es) (each_take 31 es each), tt);
  fits = omega (arith, export_fits current (take 31 es) (omega (arith, length-take 31 es)));
}

pub read_back : ((m : Message) → CanBeWritten m → IsMessage (message_bytes m) m) → IsReadBack
read_back again current es long each =
    let each_read = by_parts (λ fs ps. Each IsState fs → Each (IsRead current) ps) (λ none. tt)
    (λ fs some rest are. (again (exported_message current (take 31 fs)) (can_be_written current fs long are), rest (each_drop 31 fs are))) es each in
    read_in_turn current (parts es) each_read
