-- The link whose peer's processor is out: what the parts of an outage leave of the links.
use Rattle.exchange_rules.proofs.Basics.{◌≡◌, ◌<◌, ◌≤◌, ℕ, Bool, true, false, length, refl, ap, sym, ◌∙◌, ⊎_elim, cases_lt, get_or_past, get_or-set_same, if◌then◌else◌, and_parts}
use Rattle.exchange_rules.proofs.Definitions.{Configuration, LinkStatus, Link, recovered, down_link, is_in_service, Parts, link_at, in_service, end_busy, become_busy, is_outage, is_recovery, in_outage, tells_outage, tells_recovery, let_back}
use Rattle.m2pa_codec.specs.declared.status.LinkStatus.TheVariants as says
use Rattle.exchange_rules.proofs.Lists.{alike-at}
use Rattle.exchange_rules.proofs.Steps.{with_busy, without_busy, outed, recovering}

-- a link in service is there
pub service-there : (p : Parts) (link : ℕ) → in_service p link ≡ true → link < length p.links
service-there p link e =
    ⊎_elim (λ (l : link < length p.links). l)
    (λ (l : length p.links ≤ link).
    let gone : in_service p link ≡ false = ap (λ (x : Link). is_in_service x.alignment) (get_or_past p.links link down_link l) in
    let no : true ≡ false = sym e ∙ gone in
    absurd cc)
    (cases_lt link (length p.links))

module _ {A : Type 0} (f : Link → A) (c : Configuration) (link : ℕ) (other : ℕ) where
  -- whether its peer takes messages is told
  module _ (same : (l : Link) (busy : Bool) → f (record l { peer_busy = busy }) ≡ f l) where
    pub ended-field : (outstanding : ℕ) (p : Parts) → f (link_at (end_busy c link outstanding p) other) ≡ f (link_at p other)
    ended-field outstanding p = by (link_at p link).peer_busy
      where
        by : (busy : Bool) → f (link_at (if busy then without_busy c link outstanding p else p) other) ≡ f (link_at p other)
        by true = alike-at f p.links link other (record (link_at p link) { peer_busy = false }) down_link (same (link_at p link) false)
        by false = refl

    pub begun-field : (p : Parts) → f (link_at (become_busy c link p) other) ≡ f (link_at p other)
    begun-field p = by (link_at p link).peer_busy
      where
        by : (busy : Bool) → f (link_at (if busy then p else with_busy c link p) other) ≡ f (link_at p other)
        by true = refl
        by false = alike-at f p.links link other (record (link_at p link) { peer_busy = true }) down_link (same (link_at p link) true)

-- it is in service as before
abbrev pub serves : Link → Bool
serves l = is_in_service l.alignment

pub ended-serves : (c : Configuration) (link outstanding : ℕ) (p : Parts) (other : ℕ) → in_service (end_busy c link outstanding p) other ≡ in_service p other
ended-serves c link outstanding p other = ended-field serves c link other (λ l busy. refl) outstanding p

pub begun-serves : (c : Configuration) (link : ℕ) (p : Parts) (other : ℕ) → in_service (become_busy c link p) other ≡ in_service p other
begun-serves c link p other = begun-field serves c link other (λ l busy. refl) p

pub becomes-busy : (c : Configuration) (link : ℕ) (p : Parts) → in_service p link ≡ true → (link_at (become_busy c link p) link).peer_busy ≡ true
becomes-busy c link p e = by (link_at p link).peer_busy refl
  where
    by : (busy : Bool) → (link_at p link).peer_busy ≡ busy → (link_at (if busy then p else with_busy c link p) link).peer_busy ≡ true
    by true f = f
    by false f = ap (λ (l : Link). l.peer_busy) (get_or-set_same p.links link (record (link_at p link) { peer_busy = true }) down_link (service-there p link e))

pub outed-serves : (link : ℕ) (p : Parts) (other : ℕ) → in_service (outed link p) other ≡ in_service p other
outed-serves link p other = alike-at serves p.links link other (record (link_at p link) { peer_outage = true }) down_link refl

pub recovering-serves : (link : ℕ) (p : Parts) (other : ℕ) → in_service (recovering link p) other ≡ in_service p other
recovering-serves link p other = alike-at serves p.links link other (recovered (link_at p link)) down_link refl

-- the end of an outage
pub back-serves : (link : ℕ) (p : Parts) (other : ℕ) → in_service (let_back link p) other ≡ in_service p other
back-serves link p other = alike-at serves p.links link other (recovered (link_at p link)) down_link refl

pub back-in : (link : ℕ) (p : Parts) → in_service p link ≡ true → (link_at (let_back link p) link).peer_outage ≡ false
back-in link p e = ap (λ (l : Link). l.peer_outage) (get_or-set_same p.links link (recovered (link_at p link)) down_link (service-there p link e))

-- ---- what a status tells

pub outage-set : (c : Configuration) (link : ℕ) (status : LinkStatus) (p : Parts) → tells_outage c link status p ≡ true → c.processor_outage ≡ true
outage-set c link status p e = (and_parts c.processor_outage _ e).0

pub outage-serves : (c : Configuration) (link : ℕ) (status : LinkStatus) (p : Parts) → tells_outage c link status p ≡ true → in_service p link ≡ true
outage-serves c link status p e = (and_parts (is_outage status) (in_service p link) (and_parts c.processor_outage _ e).1).1

pub recovers-says : (link : ℕ) (status : LinkStatus) (p : Parts) → tells_recovery link status p ≡ true → is_recovery status ≡ true
recovers-says link status p e = (and_parts (is_recovery status) (in_outage p link) e).0

pub recovery-out : (link : ℕ) (status : LinkStatus) (p : Parts) → tells_recovery link status p ≡ true → in_outage p link ≡ true
recovery-out link status p e = (and_parts (is_recovery status) (in_outage p link) e).1

pub out-serves : (p : Parts) (link : ℕ) → in_outage p link ≡ true → in_service p link ≡ true
out-serves p link e = (and_parts (in_service p link) (link_at p link).peer_outage e).0

pub recovery-is : (status : LinkStatus) → is_recovery status ≡ true → status ≡ says.ProcessorRecovered
recovery-is says.ProcessorRecovered e = refl
recovery-is says.Alignment e = absurd cc
recovery-is says.ProvingNormal e = absurd cc
recovery-is says.ProvingEmergency e = absurd cc
recovery-is says.Ready e = absurd cc
recovery-is says.ProcessorOutage e = absurd cc
recovery-is says.Busy e = absurd cc
recovery-is says.BusyEnded e = absurd cc
recovery-is says.OutOfService e = absurd cc
