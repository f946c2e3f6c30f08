-- The code that authenticates a message under a key: HMAC (RFC 2104 §2) with SHA-256.
use Rattle.std.specs.Prelude.{ℕ, ◌-◌, List, ◌++◌, length, map, replicate, bit_xor}
use Rattle.sha2.specs.Sha256.{sha256}

-- octets of a block of the hash
abbrev pub block_octets : ℕ
block_octets = 64

-- the key, with zeros after it up to a block
abbrev pub padded : List ℕ → List ℕ
padded key = key ++ replicate (block_octets - length key) 0

-- each octet of a block altered by the same one
abbrev pub masked : ℕ → List ℕ → List ℕ
masked mask block = map (λ octet. bit_xor octet mask) block

-- the octets that ipad and opad repeat
abbrev pub inner_octet : ℕ
inner_octet = 0x36

abbrev pub outer_octet : ℕ
outer_octet = 0x5C

-- H(K XOR opad, H(K XOR ipad, text))
unfoldable pub hmac : (key text : List ℕ) → List ℕ
hmac key text = sha256 (masked outer_octet (padded key) ++ sha256 (masked inner_octet (padded key) ++ text))
