-- A digit is one octet.
use Rattle.std.proofs.Common.{arith}
use Rattle.std.proofs.lemmas.Str.{length-encode, len_utf8_ascii}
use Rattle.console.proofs.titles.push_digit.Goals as goal

pub push-requires : goal.push-requires
push-requires c = omega (arith, c.requires.room, length-encode c.digit_char.result, len_utf8_ascii c.digit_char.result c.digit_char.ensures.ascii)
