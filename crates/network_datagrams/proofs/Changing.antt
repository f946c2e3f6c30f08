-- Worlds of which one node changes, and what that leaves of the ends of links.
use Rattle.std.proofs.Common.{◌≡◌, ◌≢◌, ℕ, Bool, true, false, nat_eq, refl, ap, sym, subst}
use Rattle.std.specs.Prelude.{if◌then◌else◌}
use Rattle.exchange_rules.specs.First.{Abstract}
use Rattle.exchange_rules.proofs.Basics.{eqb-true}
use Rattle.sctp_ends.specs.Worlds as ends
use Rattle.network_rules.proofs.Places.{not-equal}
use Rattle.node_rules.specs.Worlds.{Make, Port}
use Rattle.node_rules.proofs.Staying.{MayOpen}
use Rattle.node_rules.proofs.Flights.{Air, turned_air}
use Rattle.node_rules.proofs.Linked.{Linked, linked-as, turned-linked}
use Rattle.network_datagrams.specs.NetworkWorlds as worlds
use Rattle.network_datagrams.specs.NetworkWorlds.{Node, NetworkWorld, Doing, Happens, Associates, Sends, HasEnd, MayDo, Steps, bare, did, happened, handed_all, last_world, new_world, sent, shown, with_port}
use Rattle.network_datagrams.proofs.Showing.{Flight, between, equal}

-- ---- worlds of which one node changes

same-world : (w v : NetworkWorld) → ((point : ℕ) → w.node point ≡ v.node point) → w ≡ v
same-world w v h = λ i. record { node = λ point. h point i }

abbrev pub with_node : ℕ → Node → NetworkWorld → NetworkWorld
with_node p n w = record { node = λ o. if nat_eq o p then n else w.node o }

pub node-here : (p : ℕ) (n : Node) (w : NetworkWorld) → (with_node p n w).node p ≡ n
node-here p n w = ap (λ (b : Bool). if b then n else w.node p) (equal p)

pub node-there : (p : ℕ) (n : Node) (w : NetworkWorld) (o : ℕ) → o ≢ p → (with_node p n w).node o ≡ w.node o
node-there p n w o d = ap (λ (b : Bool). if b then n else w.node o) (not-equal o p d)

pub after-is : (make : (point : ℕ) → Make) (p : ℕ) (what : Doing) (w : NetworkWorld) → worlds.after make p what w ≡ with_node p (did (make p) what (w.node p)) w
after-is make p what w = same-world (worlds.after make p what w) (with_node p (did (make p) what (w.node p)) w) (λ o. by o (nat_eq o p) refl) where
  by : (o : ℕ) (b : Bool) → nat_eq o p ≡ b → (if b then did (make o) what (w.node o) else w.node o) ≡ (if b then did (make p) what (w.node p) else w.node o)
  by o true e = ap (λ (n : ℕ). did (make n) what (w.node n)) (eqb-true o p e)
  by o false e = refl

pub node-same : (p : ℕ) (w : NetworkWorld) → w ≡ with_node p (w.node p) w
node-same p w = same-world w (with_node p (w.node p) w) (λ o. by o (nat_eq o p) refl) where
  by : (o : ℕ) (b : Bool) → nat_eq o p ≡ b → w.node o ≡ (if b then w.node p else w.node o)
  by o true e = ap w.node (eqb-true o p e)
  by o false e = refl

-- ---- one end of a link

pub record End : Type 0 where
  pub port : Port
  pub exchange : Abstract
  pub flight : Flight

abbrev pub LinkedAt : (k j : ℕ) (m o : ends.Make) (a b : End) → Type 0
LinkedAt k j m o a b = Linked k j m o a.port b.port a.exchange b.exchange (between a.flight b.flight)

abbrev pub seen : NetworkWorld → ((point link : ℕ) → Flight) → (point link : ℕ) → End
seen w air p k = record { port = (w.node p).ports k; exchange = (w.node p).books.exchange; flight = air p k }

-- nothing happens to it, and its link may open as before
pub record Stays (k : ℕ) (a b : End) : Type 0 where
  pub port : b.port ≡ a.port
  pub flight : b.flight ≡ a.flight
  pub opens : MayOpen k a.exchange.node.parts → MayOpen k b.exchange.node.parts

pub linked-stays : (k j : ℕ) (m o : ends.Make) (a a' b b' : End) → Stays k a a' → Stays j b b' → LinkedAt k j m o a b → LinkedAt k j m o a' b'
linked-stays k j m o a a' b b' f g h =
    let air : Air = between a.flight b.flight in
    let one : Linked k j m o a.port b.port a'.exchange b.exchange air = linked-as k j m o a.port b.port a.exchange a'.exchange b.exchange air f.opens h in
    let back : Linked j k o m b.port a.port b.exchange a'.exchange (turned_air air) = turned-linked k j m o a.port b.port a'.exchange b.exchange air one in
    let two : Linked j k o m b.port a.port b'.exchange a'.exchange (turned_air air) =
    linked-as j k o m b.port a.port b.exchange b'.exchange a'.exchange (turned_air air) g.opens back in
    let three : Linked k j m o a.port b.port a'.exchange b'.exchange air = turned-linked j k o m b.port a.port b'.exchange a'.exchange (turned_air air) two in
    let four : Linked k j m o a'.port b.port a'.exchange b'.exchange air =
    subst (λ (s : Port). Linked k j m o s b.port a'.exchange b'.exchange air) (sym f.port) three in
    let five : Linked k j m o a'.port b'.port a'.exchange b'.exchange air =
    subst (λ (s : Port). Linked k j m o a'.port s a'.exchange b'.exchange air) (sym g.port) four in
    subst (λ (y : Flight). Linked k j m o a'.port b'.port a'.exchange b'.exchange (between a'.flight y)) (sym g.flight)
    (subst (λ (y : Flight). Linked k j m o a'.port b'.port a'.exchange b'.exchange (between y b.flight)) (sym f.flight) five)
