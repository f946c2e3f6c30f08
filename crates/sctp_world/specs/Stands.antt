-- When two endpoints in code stand for two of the rules, with all packets that they ever put out.
use Rattle.std.specs.Prelude.{◌≡◌, ◌≤◌, ℕ, ◌+◌, ◌*◌, All, List, [], ◌∷◌}
use Rattle.std.specs.List.{Contains}
use Rattle.sctp_rules.specs.WrittenPackets.{HasPorts, Fits}
use Rattle.sctp_moves.specs.Numbers.{modulus, window}
use Rattle.sctp_ends.specs.Worlds.{Emitted, Site, World, Make, Step, at_near, at_far, new_world, last_world, messages_at}
use Rattle.sctp_bundling.specs.ChunkRows.{packet_text}
use Rattle.sctp_bundling.specs.Watching.{Sent}
use Rattle.sctp_endpoint.specs.Endpoints.{secrets_of}
use Rattle.sctp_world.specs.Kept.{KeptSite, KeptWorld}

-- ---- steps that code can take

-- what happens has numbers of as many bits as on the wire
abbrev pub DoesFit : {near far : Make} {w v : World} → Step near far w v → Type 0
DoesFit (at_near what may is) = Fits what
DoesFit (at_far what may is) = Fits what

abbrev pub FitStep : (near far : Make) → World → World → Type 0
FitStep near far w v = (step : Step near far w v) × DoesFit step

abbrev pub FitSteps : (near far : Make) → World → List World → Type 0
FitSteps near far w [] = Unit {0}
FitSteps near far w (v ∷ rest) = FitStep near far w v × FitSteps near far v rest

-- ---- one endpoint

-- octets that were put out are those of a packet
pub record IsPutOut (s : Site) (octets : List ℕ) : Type 0 where
  pub one : Emitted
  pub there : Contains s.packets one
  pub text : octets ≡ packet_text one.packet

abbrev pub IsSentBy : Site → Sent → Type 0
IsSentBy s x = IsPutOut s x.octets

pub record SiteStands (k : KeptSite) (s : Site) : Type 0 where
  pub state : k.endpoint.state ≡ s.state
  pub told : k.log.told ≡ s.told
  pub given : k.given ≡ s.given
  pub sent : All (IsSentBy s) k.log.sent
  pub ports : HasPorts k.endpoint.settings

-- ---- both

abbrev pub make_of : KeptSite → Make
make_of k = record { settings = k.endpoint.settings; secrets = secrets_of k.endpoint }

abbrev pub first_of : KeptWorld → World
first_of k = new_world (make_of k.near) (make_of k.far)

-- steps lead to it from two new endpoints on
pub record StandsFor (k : KeptWorld) (w : World) : Type 0 where
  pub list : List World
  pub steps : FitSteps (make_of k.near) (make_of k.far) (first_of k) list
  pub last : last_world (first_of k) list ≡ w
  pub near : SiteStands k.near w.near
  pub far : SiteStands k.far w.far

-- a step led to another one, which the code stands for then
pub record GoesOn (k : KeptWorld) (w : World) : Type 0 where
  pub to : World
  pub step : Step (make_of k.near) (make_of k.far) w to
  pub stands : StandsFor k to

-- octets that an endpoint put out, and that aren't too old: as `Arrives` of `sctp_ends` has it
pub record IsYoung (s : Site) (octets : List ℕ) : Type 0 where
  pub one : Emitted
  pub there : Contains s.packets one
  pub text : octets ≡ packet_text one.packet
  pub young : messages_at s + 2 * window ≤ one.made + modulus
