-- Rows worked by hand from RFC 9260, at one receiving half: what a SACK says (§3.3.4, §6.2).
use Rattle.std.specs.Prelude.{◌≡◌, ℕ, true, false, List, [], ◌∷◌, replicate}
use Rattle.sctp_receiving.specs.declared.block.Block.{Block}
use Rattle.sctp_receiving.specs.Pieces.{Piece}
use Rattle.sctp_receiving.specs.Receiver.{Receiver, first_receiver, received, window}
use Rattle.sctp_receiving.specs.Sack.{blocks, reported}

-- a message of this many octets, in one chunk
abbrev pub of_octets : ℕ → Piece
of_octets count = record {
  stream = 1;
  sequence = 0;
  protocol = 5;
  begins = true;
  ends = true;
  unordered = false;
  octets = replicate count 7;
}

-- the same with these TSNs, one after another
abbrev pub came : List ℕ → (count : ℕ) → Receiver → Receiver
came [] count r = r
came (tsn ∷ tsns) count r = came tsns count (received r tsn (of_octets count)).left

-- a peer that begins with the TSN 10
abbrev pub begun : Receiver
begun = first_receiver 2 10

-- the example of §3.3.4: TSNs 10, 11, 12, 14, 15 and 17 came, here with 10 octets each
abbrev pub example : Receiver
example = came (10 ∷ 11 ∷ 12 ∷ 14 ∷ 15 ∷ 17 ∷ []) 10 begun

abbrev pub example_is_cumulative : Type 0
example_is_cumulative = example.cumulative ≡ 12

abbrev pub block : (start end : ℕ) → Block
block start end = record { start = start; end = end }

-- block 1 from 2 to 3, block 2 from 5 to 5: offsets from the cumulative TSN
abbrev pub example_has_two_blocks : Type 0
example_has_two_blocks = blocks example ≡ block 2 3 ∷ block 5 5 ∷ []

-- a_rwnd: 65,536 octets, less those of the three messages that are kept
abbrev pub kept_octets_narrow_the_window : Type 0
kept_octets_narrow_the_window = window example ≡ 65506

-- a hole is filled, and nothing is kept any more
abbrev pub filled : Receiver
filled = came (11 ∷ 10 ∷ []) 10 begun

abbrev pub filled_is_cumulative : Type 0
filled_is_cumulative = filled.cumulative ≡ 11

abbrev pub filled_has_the_whole_window : Type 0
filled_has_the_whole_window = window filled ≡ 65536

-- a first fragment is kept, too, until its message ends
abbrev pub fragment_narrows_the_window : Type 0
fragment_narrows_the_window =
    window (received begun 10 (record (of_octets 1000) { ends = false })).left ≡ 64536

-- what came again is reported, in the order in which it came: one that was consumed, and one that is kept (§6.2)
abbrev pub repeated_is_reported : Type 0
repeated_is_reported = (came (11 ∷ 15 ∷ []) 10 example).duplicates ≡ 11 ∷ 15 ∷ []

-- each SACK reports what came again since the one before it (§3.3.4)
abbrev pub report_begins_anew : Type 0
report_begins_anew = (came (17 ∷ []) 10 (reported (came (11 ∷ 15 ∷ []) 10 example))).duplicates ≡ 17 ∷ []
