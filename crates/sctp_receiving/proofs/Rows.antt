-- Rows of RFC 9260, by computation.
use Rattle.std.proofs.Common.{refl}
use Rattle.sctp_receiving.specs.Receiver.{drained}
use Rattle.sctp_receiving.specs.Sack.{run_from, blocks_from}
use Rattle.sctp_receiving.specs.Rows as rows

pub example_is_cumulative : rows.example_is_cumulative
unfolding drained run_from blocks_from
example_is_cumulative = refl

pub example_has_two_blocks : rows.example_has_two_blocks
unfolding drained run_from blocks_from
example_has_two_blocks = refl

pub kept_octets_narrow_the_window : rows.kept_octets_narrow_the_window
unfolding drained run_from blocks_from
kept_octets_narrow_the_window = refl

pub filled_is_cumulative : rows.filled_is_cumulative
unfolding drained run_from blocks_from
filled_is_cumulative = refl

pub filled_has_the_whole_window : rows.filled_has_the_whole_window
unfolding drained run_from blocks_from
filled_has_the_whole_window = refl

pub fragment_narrows_the_window : rows.fragment_narrows_the_window
unfolding drained run_from blocks_from
fragment_narrows_the_window = refl

pub repeated_is_reported : rows.repeated_is_reported
unfolding drained run_from blocks_from
repeated_is_reported = refl

pub report_begins_anew : rows.report_begins_anew
unfolding drained run_from blocks_from
report_begins_anew = refl
