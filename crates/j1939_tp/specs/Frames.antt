-- The frames of the transport protocol of SAE J1939-21 (5.10.3), and what each is to the sessions.
use Rattle.std.specs.Prelude.{ℕ, ◌+◌, ◌-◌, ◌*◌, ◌/◌, ◌%◌, ◌^◌, ◌==◌, ◌&&◌, Bool, not, List}
use Rattle.std.specs.Prelude.{length, drop, slice_index, nat_le, if◌then◌else◌}
use Rattle.bench_model.specs.Meaning.{group_of}

-- a frame of a log with a 29-bit identifier: its stamp in microseconds, its identifier and its bytes
pub record Frame : Type 0 where
  pub micros : ℕ
  pub id : ℕ
  pub bytes : List ℕ

abbrev pub frame : ℕ → ℕ → List ℕ → Frame
frame micros id bytes = record { micros = micros; id = id; bytes = bytes }

-- the source address
abbrev pub sender : Frame → ℕ
sender f = f.id % 2 ^ 8

-- the destination address, which is the PDU specific byte of both groups
abbrev pub receiver : Frame → ℕ
receiver f = f.id / 2 ^ 8 % 2 ^ 8

-- the groups of TP.CM (connection management) and TP.DT (data transfer)
abbrev pub connection_group : ℕ
connection_group = 60416

abbrev pub data_group : ℕ
data_group = 60160

-- the control bytes of TP.CM: RTS, CTS, the end of message acknowledgement, BAM, and the connection abort
abbrev pub request_to_send : ℕ
request_to_send = 16

abbrev pub clear_to_send : ℕ
clear_to_send = 17

abbrev pub end_of_message : ℕ
end_of_message = 19

abbrev pub broadcast : ℕ
broadcast = 32

abbrev pub connection_abort : ℕ
connection_abort = 255

-- the destination address of a message to all
abbrev pub everyone : ℕ
everyone = 255

-- the bytes of a message of several packets, and those of a packet
abbrev pub least_size : ℕ
least_size = 9

abbrev pub greatest_size : ℕ
greatest_size = 1785

abbrev pub packet_size : ℕ
packet_size = 7

-- a byte of a frame, counted from 1 as the standard does
abbrev pub byte : ℕ → Frame → ℕ
byte n f = slice_index f.bytes (n - 1)

-- the parameter group that a TP.CM names in its bytes 6 to 8, of which the low 18 bits count
abbrev pub named_group : Frame → ℕ
named_group f = (byte 6 f + byte 7 f * 2 ^ 8 + byte 8 f * 2 ^ 16) % 2 ^ 18

-- the size in bytes and the number of packets that an RTS or a BAM states
abbrev pub stated_size : Frame → ℕ
stated_size f = byte 2 f + byte 3 f * 2 ^ 8

abbrev pub stated_packets : Frame → ℕ
stated_packets f = byte 4 f

-- the seven bytes that a TP.DT carries
abbrev pub carried : Frame → List ℕ
carried f = drop 1 f.bytes

-- whether the size has the protocol's range, and the packets are as many as it takes
abbrev pub is_possible : ℕ → ℕ → Bool
is_possible size packets =
    nat_le least_size size && (nat_le size greatest_size
    && packets == (size + (packet_size - 1)) / packet_size)

-- what a frame is to the sessions
pub data Role : Type 0 where
  opens : Role
  renews : Role
  ends : Role
  aborts : Role
  packet : Role
  other : Role

-- an RTS or a BAM, to an address that may be its receiver
abbrev pub role_of_opening : Bool → Frame → Role
role_of_opening reaches f = if reaches && is_possible (stated_size f) (stated_packets f) then opens else other

abbrev pub role_of_control : ℕ → Frame → Role
role_of_control control f =
    if control == request_to_send then role_of_opening (not (receiver f == everyone)) f
    else if control == broadcast then role_of_opening (receiver f == everyone) f
    else if control == clear_to_send then renews
    else if control == end_of_message then ends
    else if control == connection_abort then aborts else other

abbrev pub role_in : ℕ → Frame → Role
role_in group f =
    if group == connection_group then role_of_control (byte 1 f) f
    else if group == data_group then packet else other

-- only frames of eight bytes in these two groups count
abbrev pub role : Frame → Role
role f = if length f.bytes == 8 then role_in (group_of f.id) f else other
