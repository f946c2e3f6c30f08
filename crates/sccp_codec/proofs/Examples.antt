-- Worked octets of extended messages and of management, by computation.
use Rattle.std.proofs.Common.{refl}
use Rattle.sccp_codec.specs.Extended.{read_up_to}
use Rattle.sccp_codec.specs.Examples as examples

pub segment_is_written : examples.segment_is_written
segment_is_written = refl

pub segment_is_read : examples.segment_is_read
unfolding read_up_to
segment_is_read = refl

pub returned_is_written : examples.returned_is_written
returned_is_written = refl

pub returned_is_read : examples.returned_is_read
unfolding read_up_to
returned_is_read = refl

pub data_first_is_read : examples.data_first_is_read
unfolding read_up_to
data_first_is_read = refl

pub other_parameter_is_kept : examples.other_parameter_is_kept
unfolding read_up_to
other_parameter_is_kept = refl

pub no_end_is_refused : examples.no_end_is_refused
unfolding read_up_to
no_end_is_refused = refl

pub beyond_the_end_is_refused : examples.beyond_the_end_is_refused
unfolding read_up_to
beyond_the_end_is_refused = refl

pub short_segmentation_is_refused : examples.short_segmentation_is_refused
unfolding read_up_to
short_segmentation_is_refused = refl

pub no_optional_part_is_refused : examples.no_optional_part_is_refused
unfolding read_up_to
no_optional_part_is_refused = refl

pub a_udt_is_refused : examples.a_udt_is_refused
unfolding read_up_to
a_udt_is_refused = refl

pub six_octets_are_refused : examples.six_octets_are_refused
unfolding read_up_to
six_octets_are_refused = refl

pub allowed_is_written : examples.allowed_is_written
allowed_is_written = refl

pub allowed_is_read : examples.allowed_is_read
allowed_is_read = refl

pub prohibited_is_written : examples.prohibited_is_written
prohibited_is_written = refl

pub prohibited_is_read : examples.prohibited_is_read
prohibited_is_read = refl

pub test_is_written : examples.test_is_written
test_is_written = refl

pub test_is_read : examples.test_is_read
test_is_read = refl

pub spare_bits_are_ignored : examples.spare_bits_are_ignored
spare_bits_are_ignored = refl

pub other_format_is_refused : examples.other_format_is_refused
other_format_is_refused = refl

pub four_octets_are_refused : examples.four_octets_are_refused
four_octets_are_refused = refl
