-- The form of an insert's record, and its bytes.
use Rattle.std.proofs.{Common.{◌≡◌, ℕ, List, ◌++◌, Some, Result, Ok, Err, refl, sym, ap, ◌∙◌}, Math.Nat.mod-eq_of_lt}
use Rattle.std.specs.Prelude.{IfOk, IfErr}
use Rattle.pf_addr.specs.declared.addr.Addr.{Addr, TheVariants.{V4, V6}}
use Rattle.pf_form.specs.{declared.bytes.fault.Undecoded.Undecoded, Bytes.{Forms.{Fits, Spells, writes, onto}, BasicForms.{Bytes, number_bytes}, Readers.{IfFault, Refused}}, Laws.Bytes.{Onto.onto_is, Texts.{only, refused_only}}}
use Rattle.pf_form.specs.declared.bytes.fault.Undecoded.TheVariants as undecoded
use Rattle.pf_addr.specs.declared.addr.Family.TheVariants as family
use Rattle.pf_rule.specs.declared.{value.direction.Direction.Direction, value.direction.Direction.TheVariants.In, value.direction.Direction.TheVariants.Out}
use Rattle.pf_state.specs.{Flows.IsFlow, Layouts.Flows.{direction_form, family_form, protocol_form, ports_form, flow_form}, Laws.Layouts.flow_fits, Peer.Records.{PlainInsert, IsInsert, inserted_flow, insert_form, plain_insert, insert_in, insert_from, insert_of, insert_bytes, Says}}
use Rattle.pf_state.proofs.LayoutsBack.{flow_back}

pub insert_back : (i : PlainInsert) → insert_in (plain_insert i) ≡ i
insert_back i = λ k. let f = flow_back (inserted_flow i) k in record {
  id = i.id;
  creator = i.creator;
  generation = i.generation;
  direction = f.direction;
  protocol = f.protocol;
  source = f.source;
  destination = f.destination;
  source_port = f.source_port;
  destination_port = f.destination_port;
  rule = i.rule;
  anchor = i.anchor;
}

flow_is : (i : PlainInsert) → IsInsert i → IsFlow (inserted_flow i)
flow_is i is = record {
  protocol = is.protocol;
  addresses = (is.source, is.destination);
  families = is.families;
  ports = (is.source_port, is.destination_port);
  no_ports = is.no_ports;
}

pub insert_fits : (i : PlainInsert) → IsInsert i → Fits insert_form (plain_insert i)
unfolding insert_form
insert_fits i is = (is.id, (is.creator, (is.generation, (flow_fits (inserted_flow i) (flow_is i is), (is.rule, is.anchor)))))

-- ---- its bytes

-- an insert with these fields
abbrev with_fields : ℕ → ℕ → ℕ → Direction → ℕ → Addr → Addr → ℕ → ℕ → ℕ → ℕ → PlainInsert
with_fields id creator generation direction protocol source destination source_port destination_port rule anchor = record {
  id = id;
  creator = creator;
  generation = generation;
  direction = direction;
  protocol = protocol;
  source = source;
  destination = destination;
  source_port = source_port;
  destination_port = destination_port;
  rule = rule;
  anchor = anchor;
}

written : (id creator generation : ℕ) (direction : Direction) (protocol : ℕ) (source destination : Addr) (source_port destination_port rule anchor : ℕ)
    → IsInsert (with_fields id creator generation direction protocol source destination source_port destination_port rule anchor)
    → writes insert_form (plain_insert (with_fields id creator generation direction protocol source destination source_port destination_port rule anchor))
    ≡ insert_bytes (with_fields id creator generation direction protocol source destination source_port destination_port rule anchor)
unfolding insert_form flow_form direction_form family_form protocol_form ports_form number_bytes
written id creator generation In p (V4 s) (V4 d) m n rule anchor is = rw (mod-eq_of_lt is.protocol.1) refl
written id creator generation In p (V6 s) (V6 d) m n rule anchor is = rw (mod-eq_of_lt is.protocol.1) refl
written id creator generation Out p (V4 s) (V4 d) m n rule anchor is = rw (mod-eq_of_lt is.protocol.1) refl
written id creator generation Out p (V6 s) (V6 d) m n rule anchor is = rw (mod-eq_of_lt is.protocol.1) refl
written id creator generation direction p (V4 s) (V6 d) m n rule anchor is = let e : family.V4 ≡ family.V6 = is.families in cc
written id creator generation direction p (V6 s) (V4 d) m n rule anchor is = let e : family.V6 ≡ family.V4 = is.families in cc

-- the bytes of an insert have its form
insert_written : (i : PlainInsert) → IsInsert i → writes insert_form (plain_insert i) ≡ insert_bytes i
insert_written i is = written i.id i.creator i.generation i.direction i.protocol i.source i.destination i.source_port i.destination_port i.rule i.anchor is

pub insert_spelled : (i : PlainInsert) → IsInsert i → Spells insert_form (plain_insert i) (insert_bytes i)
insert_spelled i is = record { fits = insert_fits i is; written = sym (insert_written i is) }

pub pushed_insert : (i : PlainInsert) (out new : List ℕ) → IsInsert i → new ≡ onto insert_form (plain_insert i) out → new ≡ out ++ insert_bytes i
pushed_insert i out new is e = e ∙ onto_is insert_form (plain_insert i) out ∙ ap (λ (l : List ℕ). out ++ l) (insert_written i is)

-- ---- reading

reported : (i : PlainInsert) (bytes : List ℕ) → Spells insert_form (plain_insert i) bytes → insert_of bytes ≡ Some i
unfolding insert_of
reported i bytes spells = rw (only insert_form bytes (plain_insert i) spells) (ap (λ (j : PlainInsert). Some j) (insert_back i))

pub insert_again : (i : PlainInsert) → IsInsert i → insert_of (insert_bytes i) ≡ Some i
insert_again i is = reported i (insert_bytes i) (insert_spelled i is)

pub says_insert : (bytes : List ℕ) (r : Result PlainInsert Undecoded) → Bytes bytes → IfOk r (λ i. Spells insert_form (plain_insert i) bytes) → IfErr r (λ e. IfFault e (Refused insert_form bytes))
    → Says r (insert_of bytes)
unfolding insert_of
says_insert bytes (Ok i) are spells refused = reported i bytes spells
says_insert bytes (Err undecoded.Memory) are spells refused = tt
says_insert bytes (Err (undecoded.Fault d)) are spells refused = ap insert_from (refused_only insert_form bytes d are refused)
