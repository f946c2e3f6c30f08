-- What datagrams that come do at a gate, one after another.
use Rattle.std.specs.Prelude.{◌≡◌, ◌≤◌, ℕ, List, [], ◌∷◌, ◌++◌, length, take, Option, Some, None}
use Rattle.sctp_codec.specs.Reading.{read_packet}
use Rattle.sctp_rules.specs.Settings.{Address}
use Rattle.sctp_bundling.specs.Settings.{address_of}
use Rattle.sctp_bundling.specs.declared.address.Address as code
use Rattle.exchange_rules.specs.State.{QueueKind, State}
use Rattle.sctp_gate.specs.Gates.{Gate, Did, nothing, followed_by, heard}

-- the octets of a datagram that came, and where it is from
pub record Came : Type 0 where
  pub octets : List ℕ
  pub source : Address

-- after what was done, the same call for each of these datagrams, one after another
abbrev pub one_by_one : {Q : Type 0} → (Came → Gate → State Q → Did Q) → Did Q → List Came → Did Q
one_by_one call d [] = d
one_by_one call d (one ∷ more) = one_by_one call (followed_by d (call one)) more

-- a gate hears a datagram
abbrev pub hears : {Q : Type 0} → QueueKind Q → (now : ℕ) → Came → Gate → State Q → Did Q
hears q now one g s = heard q now (read_packet one.octets) one.source g s

-- a gate hears these, one after another
abbrev pub heard_all : {Q : Type 0} → QueueKind Q → (now : ℕ) → List Came → Gate → State Q → Did Q
heard_all q now came g s = one_by_one (hears q now) (nothing g s) came

-- known datagrams begin with these, and lose them
abbrev pub Loses : Option (List Came) → Option (List Came) → List Came → Type 0
Loses (Some all) (Some left) came = all ≡ came ++ left
Loses None None came = Unit {0}
Loses before after came = ⊥

-- a datagram was received, whose octets lie at the front of the buffer; or none, and those that are to come are the
-- same
abbrev pub Receives : Option (ℕ × code.Address) → (buffer : List ℕ) → (before after : Option (List Came)) → Type 0
Receives None buffer before after = after ≡ before
Receives (Some r) buffer before after =
    (r.0 ≤ length buffer)
    × Loses before after (record { octets = take r.0 buffer; source = address_of r.1 } ∷ [])

-- none is to come; of what isn't known this says nothing
abbrev pub IsDry : Option (List Came) → Type 0
IsDry (Some left) = left ≡ []
IsDry None = Unit {0}

-- this many datagrams were received, and this was made of them
pub record GivesEach (count : ℕ) (before after : Option (List Came)) (IsMade : List Came → Type 0) : Type 0 where
  pub came : List Came
  pub many : count ≡ length came
  pub received : Loses before after came
  pub made : IsMade came
