-- Global titles of indicator 4: what they say, and their digits (Q.713 §3.4.2.3.4).
use Rattle.std.specs.Prelude.{◌≡◌, ℕ, ◌+◌, ◌-◌, ◌*◌, ◌/◌, ◌%◌, ◌^◌, ◌<◌, ◌==◌, if◌then◌else◌, All}
use Rattle.std.specs.Prelude.{List, [], ◌∷◌, length, take, Result, Ok, Err}
use Rattle.std.specs.List.{flat_map}
use Rattle.signalling_types.specs.declared.cause.Cause.{Cause}
use Rattle.signalling_types.specs.declared.cause.Cause.TheVariants.{NoNature, BadSccp}
use Rattle.sccp_codec.specs.declared.title.EncodingScheme.{EncodingScheme}
use Rattle.sccp_codec.specs.declared.title.EncodingScheme.TheVariants.{Odd, Even}
use Rattle.sccp_codec.specs.declared.title.GlobalTitle.{GlobalTitle}
use Rattle.sccp_codec.specs.declared.title.TitleKey.{TitleKey}

-- what a title says
pub record TitleValue : Type 0 where
  -- its translation type, numbering plan and nature of address
  pub key : TitleKey
  pub scheme : EncodingScheme
  -- the octets of its digits
  pub digit_octets : List ℕ

-- the two digits of an octet: its low half, then its high half
abbrev pub halves : ℕ → List ℕ
halves octet = octet % 16 ∷ octet / 16 ∷ []

-- the digits: k octets have 2k in the even scheme, and the first 2k - 1 of these in the odd one
abbrev pub digits_in : EncodingScheme → List ℕ → List ℕ
digits_in Even octets = flat_map halves octets
digits_in Odd octets = take (2 * length octets - 1) (flat_map halves octets)

-- a title of this scheme, with these octets after the three before the digits
abbrev pub title_with : ℕ → ℕ → ℕ → EncodingScheme → List ℕ → TitleValue
title_with translation plan_and_scheme nature scheme digit_octets = record {
  key = record { translation = translation; plan = plan_and_scheme / 16; nature = nature % 128 };
  scheme = scheme;
  digit_octets = digit_octets;
}

-- translation type; numbering plan and encoding scheme; nature of address in the low seven bits; the digits
abbrev pub read_octets : List ℕ → Result TitleValue Cause
read_octets (translation ∷ plan_and_scheme ∷ nature ∷ digit_octets) =
    if plan_and_scheme % 16 == 1 then Ok (title_with translation plan_and_scheme nature Odd digit_octets)
    else if plan_and_scheme % 16 == 2 then Ok (title_with translation plan_and_scheme nature Even digit_octets)
    else Err NoNature
read_octets _ = Err BadSccp

-- what reading the title of an address gives, by its indicator
abbrev pub read_title : ℕ → List ℕ → Result TitleValue Cause
read_title indicator octets = if indicator == 4 then read_octets octets else Err NoNature

abbrev pub title_of : GlobalTitle → TitleValue
title_of t = record { key = t.key; scheme = t.scheme; digit_octets = t.digit_octets.now }

-- what the code answers, seen as a value, is what reading gives
abbrev pub GivesTitle : Result GlobalTitle Cause → Result TitleValue Cause → Type 0
GivesTitle (Ok title) read = read ≡ Ok (title_of title)
GivesTitle (Err cause) read = read ≡ Err cause

-- ---- writing

-- the octets of digits, two in each, the first in the low half; the last high half of an odd number of digits is
-- filler, 0
abbrev pub packed : List ℕ → List ℕ
packed [] = []
packed (low ∷ []) = low ∷ []
packed (low ∷ high ∷ digits) = (low + high * 16) ∷ packed digits

-- the encoding scheme of so many digits: 1 says odd, 2 even
abbrev pub scheme_number : (count : ℕ) → ℕ
scheme_number count = if count % 2 == 1 then 1 else 2

-- the octets of a title of this key with these digits; the spare bit of its nature is 0
abbrev pub title_octets : TitleKey → List ℕ → List ℕ
title_octets key digits =
    key.translation ∷ (key.plan * 16 + scheme_number (length digits)) ∷ key.nature ∷ packed digits

-- a numbering plan of four bits, a nature of address of seven, and digits of four
pub record IsTitle (key : TitleKey) (digits : List ℕ) : Type 0 where
  pub plan : key.plan < 2 ^ 4
  pub nature : key.nature < 2 ^ 7
  pub values : All (λ digit. digit < 2 ^ 4) digits

-- reading these octets gives a title of this key with these digits
pub record ReadsAsTitle (octets : List ℕ) (key : TitleKey) (digits : List ℕ) : Type 0 where
  pub title : TitleValue
  pub reads : read_title 4 octets ≡ Ok title
  pub key_read : title.key ≡ key
  pub digits_read : digits_in title.scheme title.digit_octets ≡ digits
