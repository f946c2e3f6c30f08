-- The numbers of messages on the wire, TSNs (RFC 9260 §1.6, §3.3.1, §3.3.4): 32 bits, and after the last one comes 0.
-- The first one of an association may be any number.
use Rattle.std.specs.Prelude.{ℕ, ◌+◌, ◌-◌, ◌%◌, ◌^◌}

abbrev pub modulus : ℕ
modulus = 2 ^ 32

-- how many messages may wait for their acknowledgement, and how far ahead of the next one a message
-- may come
abbrev pub window : ℕ
window = 256

-- the TSN of the message at this index, from 0, if the message at index 0 has `first`
abbrev pub number_of : (first place : ℕ) → ℕ
number_of first place = (first + place) % modulus

-- the cumulative TSN of an end that received this many: that of the last of them, or the one before the first
abbrev pub cumulative : (first count : ℕ) → ℕ
cumulative first count = (first + (modulus - 1) + count) % modulus

-- how many times the next number is taken on the way from one number to another
abbrev pub steps_between : (from to : ℕ) → ℕ
steps_between from to = (to + modulus - from) % modulus
