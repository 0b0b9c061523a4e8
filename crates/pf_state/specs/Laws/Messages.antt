-- A message with an insert in each direction, one of each family, a delete and a clear, and its bytes as its form has them, to be compared
-- with what other programs make of them. All bytes of a number differ where they can.
use Rattle.std.specs.Prelude.{List, [], ◌∷◌, ◌++◌, ℕ, replicate}
use Rattle.pf_addr.specs.declared.addr.Addr.TheVariants.{V4, V6}
use Rattle.pf_rule.specs.declared.value.direction.Direction.TheVariants.{In, Out}
use Rattle.pf_state.specs.{declared.{peer.message.Group.TheVariants.Inserts, peer.message.Group.TheVariants.Deletes, peer.message.Group.TheVariants.Clears, peer.message.Message.Message}, Peer.Records.PlainInsert}

-- a checksum: MD5 of no bytes (RFC 1321, A.5)
abbrev pub checksum : List ℕ
checksum = 0xd4 ∷ 0x1d ∷ 0x8c ∷ 0xd9 ∷ 0x8f ∷ 0x00 ∷ 0xb2 ∷ 0x04 ∷ 0xe9 ∷ 0x80 ∷ 0x09 ∷ 0x98 ∷ 0xec ∷ 0xf8 ∷ 0x42 ∷ 0x7e ∷ []

-- in, TCP from 10.0.0.1 port 1234 to 10.0.0.2 port 80, made by main rule 7
abbrev pub came_in : PlainInsert
came_in = record {
  id = 0x0102030405060708;
  creator = 0x090a0b0c;
  generation = 0x0d0e0f10;
  direction = In;
  protocol = 6;
  source = V4 0x0a000001;
  destination = V4 0x0a000002;
  source_port = 1234;
  destination_port = 80;
  rule = 7;
  anchor = 4294967295;
}

-- out, UDP from 2001:db8::1 port 5353 to 2001:db8::2 port 53, made by no rule, with anchor 8
abbrev pub went_out : PlainInsert
went_out = record {
  id = 1;
  creator = 2;
  generation = 3;
  direction = Out;
  protocol = 17;
  source = V6 0x20010db8000000000000000000000001;
  destination = V6 0x20010db8000000000000000000000002;
  source_port = 5353;
  destination_port = 53;
  rule = 4294967295;
  anchor = 8;
}

abbrev pub message : Message
message = record {
  checksum = checksum;
  groups = Inserts (came_in ∷ went_out ∷ [])
      ∷ Deletes (record { id = 0x1112131415161718; creator = 0x191a1b1c } ∷ [])
      ∷ Clears (record { creator = 0x1d1e1f20 } ∷ [])
      ∷ [];
}

-- ---- its bytes

abbrev pub came_in_bytes : List ℕ
came_in_bytes =
    1 ∷ 2 ∷ 3 ∷ 4 ∷ 5 ∷ 6 ∷ 7 ∷ 8 ∷ 9 ∷ 10 ∷ 11 ∷ 12 ∷ 13 ∷ 14 ∷ 15 ∷ 16 ∷ 1 ∷ 4 ∷ 6 ∷ 0
    ∷ 10 ∷ 0 ∷ 0 ∷ 1 ∷ replicate 12 0 ++ 10 ∷ 0 ∷ 0 ∷ 2 ∷ replicate 12 0
    ++ 0x04 ∷ 0xd2 ∷ 0 ∷ 80 ∷ 0 ∷ 0 ∷ 0 ∷ 7 ∷ replicate 4 255

abbrev pub went_out_bytes : List ℕ
went_out_bytes =
    replicate 7 0 ++ 1 ∷ 0 ∷ 0 ∷ 0 ∷ 2 ∷ 0 ∷ 0 ∷ 0 ∷ 3 ∷ 2 ∷ 6 ∷ 17 ∷ 0
    ∷ 0x20 ∷ 0x01 ∷ 0x0d ∷ 0xb8 ∷ replicate 11 0 ++ 1 ∷ 0x20 ∷ 0x01 ∷ 0x0d ∷ 0xb8 ∷ replicate 11 0 ++ 2
    ∷ 0x14 ∷ 0xe9 ∷ 0 ∷ 53 ∷ replicate 4 255 ++ 0 ∷ 0 ∷ 0 ∷ 8 ∷ []

-- 288 bytes: the header, two inserts, a delete, a clear
abbrev pub bytes : List ℕ
bytes =
    5 ∷ 0 ∷ 1 ∷ 32 ∷ checksum
    ++ 1 ∷ 0 ∷ 0 ∷ 2 ∷ came_in_bytes ++ went_out_bytes
    ++ 6 ∷ 0 ∷ 0 ∷ 1 ∷ 17 ∷ 18 ∷ 19 ∷ 20 ∷ 21 ∷ 22 ∷ 23 ∷ 24 ∷ 25 ∷ 26 ∷ 27 ∷ 28 ∷ replicate 52 0
    ++ 0 ∷ 0 ∷ 0 ∷ 1 ∷ replicate 8 0 ++ 29 ∷ 30 ∷ 31 ∷ 32 ∷ replicate 52 0
