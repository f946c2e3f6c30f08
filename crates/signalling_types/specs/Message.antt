-- A signalling message and what its octets say (Q.704 §2, §14, §15).
use Rattle.std.specs.Prelude.{ℕ, Bool, ◌+◌, ◌*◌, ◌/◌, ◌%◌, ◌^◌, List, nat_lt, slice_index}
use Rattle.signalling_types.specs.declared.point.Flow.{Flow}
use Rattle.signalling_types.specs.declared.msu_ref.MsuRef.{MsuRef}

-- a message signal unit: its service information octet, and its signalling information field
pub record Message : Type 0 where
  pub sio : ℕ
  pub sif : List ℕ

-- what kind of message it is: 0 management, 1 testing, 3 SCCP, 4 TUP, 5 ISUP
abbrev pub service_indicator : Message → ℕ
service_indicator m = m.sio % 16

-- the network that its point codes belong to
abbrev pub network_indicator : Message → ℕ
network_indicator m = m.sio / 64

-- the routing label as one number: the first four octets, low octet first
abbrev pub label_number : List ℕ → ℕ
label_number sif =
    slice_index sif 0 + slice_index sif 1 * 2 ^ 8 + slice_index sif 2 * 2 ^ 16 + slice_index sif 3 * 2 ^ 24

-- the destination point code: the label's low 14 bits
abbrev pub dpc_of : Message → ℕ
dpc_of m = label_number m.sif % 2 ^ 14

-- the originating point code: the next 14 bits
abbrev pub opc_of : Message → ℕ
opc_of m = label_number m.sif / 2 ^ 14 % 2 ^ 14

-- the signalling link selection: the top four bits
abbrev pub sls_of : Message → ℕ
sls_of m = label_number m.sif / 2 ^ 28 % 2 ^ 4

-- management and testing messages; every other is a user message
abbrev pub is_management : Message → Bool
is_management m = nat_lt (service_indicator m) 2

-- messages that go one way: the same destination and the same signalling link selection
abbrev pub flow_of : Message → Flow
flow_of m = record { point = dpc_of m; sls = sls_of m }

-- ---- A message that is lent, as a message.

abbrev pub lent : MsuRef → Message
lent m = record { sio = m.sio; sif = m.sif.now }
