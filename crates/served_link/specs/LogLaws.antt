-- Laws of the lines of the log: wrong definitions make them false.
use Rattle.std.specs.Prelude.{◌≡◌, ℕ, Bool, true, ◌||◌, not, nat_eq, nat_lt, List, codes}
use Rattle.std.specs.List.{list_all}
use Rattle.served_link.specs.LineForms.{escaped}
use Rattle.served_link.specs.Utc.{utc_text}

-- times by hand: the first, a leap day of a century, a day of this one, the day after the February of a century without
-- a leap day, and the last
pub record TellsUtc : Type 0 where
  pub first : utc_text 0 ≡ codes "1970-01-01T00:00:00.000Z"
  pub leap_day : utc_text 951_868_799_999 ≡ codes "2000-02-29T23:59:59.999Z"
  pub december : utc_text 1_796_102_223_120 ≡ codes "2026-12-01T05:17:03.120Z"
  pub no_leap_day : utc_text 4_107_542_400_000 ≡ codes "2100-03-01T00:00:00.000Z"
  pub last : utc_text 253_402_300_799_999 ≡ codes "9999-12-31T23:59:59.999Z"
  pub behind : utc_text 253_402_300_800_000 ≡ codes "9999-12-31T23:59:59.999Z"

-- the first of each month of a year
pub record TellsMonths : Type 0 where
  pub january : utc_text 1_798_761_600_000 ≡ codes "2027-01-01T00:00:00.000Z"
  pub february : utc_text 1_801_440_000_000 ≡ codes "2027-02-01T00:00:00.000Z"
  pub march : utc_text 1_803_859_200_000 ≡ codes "2027-03-01T00:00:00.000Z"
  pub april : utc_text 1_806_537_600_000 ≡ codes "2027-04-01T00:00:00.000Z"
  pub may : utc_text 1_809_129_600_000 ≡ codes "2027-05-01T00:00:00.000Z"
  pub june : utc_text 1_811_808_000_000 ≡ codes "2027-06-01T00:00:00.000Z"
  pub july : utc_text 1_814_400_000_000 ≡ codes "2027-07-01T00:00:00.000Z"
  pub august : utc_text 1_817_078_400_000 ≡ codes "2027-08-01T00:00:00.000Z"
  pub september : utc_text 1_819_756_800_000 ≡ codes "2027-09-01T00:00:00.000Z"
  pub october : utc_text 1_822_348_800_000 ≡ codes "2027-10-01T00:00:00.000Z"
  pub november : utc_text 1_825_027_200_000 ≡ codes "2027-11-01T00:00:00.000Z"
  pub december : utc_text 1_827_619_200_000 ≡ codes "2027-12-01T00:00:00.000Z"

-- an octet that ends no string: neither a control character nor a quotation mark
abbrev pub is_within_string : (octet : ℕ) → Bool
is_within_string octet = not (nat_lt octet 32 || nat_eq octet 34)

-- within a string of JSON no text has another octet; what is written there by hand
pub record EscapesJson : Type 0 where
  pub all : (text : List ℕ) → list_all is_within_string (escaped text) ≡ true
  pub quoted : escaped (codes "a \"b\" \\ c\n") ≡ codes "a \\u0022b\\u0022 \\u005c c\\u000a"
