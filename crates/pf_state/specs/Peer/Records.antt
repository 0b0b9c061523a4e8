-- A record of 64 bytes: the places of its fields, and what they mean. The form is our own, after that of pfsync(4)'s states.
--
--   place width field          place width field
--       0     8 id                16    40 flow
--       8     4 creator           56     4 rule
--      12     4 generation        60     4 anchor
use Rattle.std.specs.Prelude.{◌≡◌, ◌<◌, ◌^◌, ℕ, false, List, ◌∷◌, ◌++◌, replicate, Option, Some, None, Result, Ok, Err}
use Rattle.byteorder.specs.Endian.{big_bytes}
use Rattle.pf_addr.specs.Address.{IsAddr, family_of}
use Rattle.pf_form.specs.{declared.bytes.fault.{Fault.Fault, Undecoded.Undecoded}, Bytes.{Forms.{Shape, nat, both, Value, ByteForm, number, pair}, Readers.read_all}}
use Rattle.pf_form.specs.declared.bytes.fault.Undecoded.TheVariants as undecoded
use Rattle.pf_rule.specs.{Bytes.{number_at, addr_bytes, direction_byte, family_byte}, Value.Values.{IsProtocol, has_ports}}
use Rattle.pf_state.specs.{declared.{peer.record.InsertFields.InsertFields, peer.record.Delete.Delete, peer.record.Clear.Clear}, Flows.PlainFlow, Layouts.Flows.{FlowShape, flow_form, plain_flow, flow_in}}

-- an insert as contracts see it: its fields
abbrev pub PlainInsert : Type 0
PlainInsert = InsertFields

-- the invariant of an insert: each number within its width, addresses of one family, no ports unless its protocol has them
pub record IsInsert (i : PlainInsert) : Type 0 where
  pub id : i.id < 2 ^ 64
  pub creator : i.creator < 2 ^ 32
  pub generation : i.generation < 2 ^ 32
  pub protocol : IsProtocol i.protocol
  pub source : IsAddr i.source
  pub destination : IsAddr i.destination
  pub families : family_of i.source ≡ family_of i.destination
  pub source_port : i.source_port < 65536
  pub destination_port : i.destination_port < 65536
  pub no_ports : has_ports i.protocol ≡ false → (i.source_port ≡ 0) × (i.destination_port ≡ 0)
  pub rule : i.rule < 2 ^ 32
  pub anchor : i.anchor < 2 ^ 32

-- ---- the form of an insert

-- the flow of an insert's state
abbrev pub inserted_flow : PlainInsert → PlainFlow
inserted_flow i = record {
  direction = i.direction;
  protocol = i.protocol;
  source = i.source;
  source_port = i.source_port;
  destination = i.destination;
  destination_port = i.destination_port;
}

abbrev pub InsertShape : Shape
InsertShape = both nat (both nat (both nat (both FlowShape (both nat nat))))

unfoldable pub insert_form : ByteForm InsertShape
insert_form = pair (number 8) (pair (number 4) (pair (number 4) (pair flow_form (pair (number 4) (number 4)))))

abbrev pub plain_insert : PlainInsert → Value InsertShape
plain_insert i = (i.id, (i.creator, (i.generation, (plain_flow (inserted_flow i), (i.rule, i.anchor)))))

-- the insert that has these plain data
abbrev pub insert_in : Value InsertShape → PlainInsert
insert_in v = let f = flow_in v.1.1.1.0 in record {
  id = v.0;
  creator = v.1.0;
  generation = v.1.1.0;
  direction = f.direction;
  protocol = f.protocol;
  source = f.source;
  destination = f.destination;
  source_port = f.source_port;
  destination_port = f.destination_port;
  rule = v.1.1.1.1.0;
  anchor = v.1.1.1.1.1;
}

-- ---- reading

abbrev pub insert_from : Result (Value InsertShape) Fault → Option PlainInsert
insert_from (Ok v) = Some (insert_in v)
insert_from (Err d) = None

-- the insert whose form the bytes have, if any
unfoldable pub insert_of : List ℕ → Option PlainInsert
insert_of r = insert_from (read_all insert_form r)

-- what is read of a record, unless out of memory
abbrev pub Says : {A : Type 0} → Result A Undecoded → Option A → Type 0
Says (Ok x) said = said ≡ Some x
Says (Err undecoded.Memory) said = Unit {0}
Says (Err (undecoded.Fault d)) said = said ≡ None

-- Of a delete the id and the creator count, of a clear the creator. Their other bytes may be anything.
abbrev pub delete_of : List ℕ → Option Delete
delete_of r = Some (record { id = number_at 0 8 r; creator = number_at 8 4 r })

abbrev pub clear_of : List ℕ → Option Clear
clear_of r = Some (record { creator = number_at 8 4 r })

-- ---- writing

abbrev pub insert_bytes : PlainInsert → List ℕ
insert_bytes i = big_bytes 8 i.id ++ (big_bytes 4 i.creator ++ (big_bytes 4 i.generation
    ++ (direction_byte i.direction ∷ family_byte (family_of i.source) ∷ i.protocol ∷ 0 ∷ (addr_bytes i.source ++ (addr_bytes i.destination
    ++ (big_bytes 2 i.source_port ++ (big_bytes 2 i.destination_port ++ (big_bytes 4 i.rule ++ big_bytes 4 i.anchor))))))))

abbrev pub delete_bytes : Delete → List ℕ
delete_bytes d = big_bytes 8 d.id ++ (big_bytes 4 d.creator ++ replicate 52 0)

abbrev pub clear_bytes : Clear → List ℕ
clear_bytes c = replicate 8 0 ++ (big_bytes 4 c.creator ++ replicate 52 0)
