-- A node over datagrams and one of a network with frames in flight: what either is and books is the same, and in flight
-- to the end of each link is what its association still carries.
use Rattle.std.proofs.Common.{◌≡◌, ◌≢◌, ℕ, Bool, List, [], length, nat_eq, refl, ap, sym, ◌∙◌, subst, ⊎_elim, true}
use Rattle.std.specs.Prelude.{if◌then◌else◌}
use Rattle.std.proofs.lemmas.Bool.{cases_eq, eq-eqb}
use Rattle.network_rules.proofs.Places.{not-equal}
use Rattle.settings.specs.Configuration.{Configuration}
use Rattle.sctp_moves.specs.Ends.{Message}
use Rattle.pair_rules.specs.Pairs.{nothing_in_flight}
use Rattle.network_rules.specs.Networks.{NetworkNode, NetworkState}
use Rattle.node_rules.proofs.Flights.{Air, Flies, Sized}

-- ---- what is on its way to an end of a link

-- and whether the end may follow
pub record Flight : Type 0 where
  pub to : List Message
  pub follows : Bool

abbrev pub between : (near far : Flight) → Air
between near far = record { to_near = near.to; to_far = far.to; near_follows = near.follows; far_follows = far.follows }

abbrev pub to_near : Air → Flight
to_near x = record { to = x.to_near; follows = x.near_follows }

abbrev pub to_far : Air → Flight
to_far x = record { to = x.to_far; follows = x.far_follows }

-- ---- a node

-- but for what is in flight to it
abbrev pub plain : NetworkNode → NetworkNode
plain x = record x { incoming = nothing_in_flight 0; following = [] }

-- a node with these settings, and with this on its way to each link
pub record Shows (c : Configuration) (b : NetworkNode) (air : (link : ℕ) → Flight) (x : NetworkNode) : Type 0 where
  pub settings : b.exchange.settings ≡ c
  pub same : plain b ≡ plain x
  pub sized : Sized (length c.links) x.incoming x.following
  pub flies : (i : ℕ) → Flies i x.incoming x.following (air i).to (air i).follows

-- and with something else on its way to one of them
pub record ShowsBut (c : Configuration) (b : NetworkNode) (air : (link : ℕ) → Flight) (k : ℕ) (f : Flight) (x : NetworkNode) : Type 0 where
  pub settings : b.exchange.settings ≡ c
  pub same : plain b ≡ plain x
  pub sized : Sized (length c.links) x.incoming x.following
  pub here : Flies k x.incoming x.following f.to f.follows
  pub there : (i : ℕ) → i ≢ k → Flies i x.incoming x.following (air i).to (air i).follows

pub shows-but : (c : Configuration) (b : NetworkNode) (air : (link : ℕ) → Flight) (k : ℕ) (x : NetworkNode) → Shows c b air x → ShowsBut c b air k (air k) x
shows-but c b air k x h = record { settings = h.settings; same = h.same; sized = h.sized; here = h.flies k; there = λ i d. h.flies i }

-- its settings, in the network
pub settings-there : (c : Configuration) (b x : NetworkNode) → b.exchange.settings ≡ c → plain b ≡ plain x → x.exchange.settings ≡ c
settings-there c b x e same = ap (λ (y : NetworkNode). y.exchange.settings) (sym same) ∙ e

-- ---- what is on its way changes on one link

pub equal : (n : ℕ) → nat_eq n n ≡ true
equal n = eq-eqb n n refl

abbrev pub with_flight : ℕ → Flight → ((link : ℕ) → Flight) → (link : ℕ) → Flight
with_flight k f air i = if nat_eq i k then f else air i

flight-here : (k : ℕ) (f : Flight) (air : (link : ℕ) → Flight) → with_flight k f air k ≡ f
flight-here k f air = ap (λ (b : Bool). if b then f else air k) (equal k)

flight-there : (k : ℕ) (f : Flight) (air : (link : ℕ) → Flight) (i : ℕ) → i ≢ k → with_flight k f air i ≡ air i
flight-there k f air i d = ap (λ (b : Bool). if b then f else air i) (not-equal i k d)

-- on the link between these two ends
abbrev pub with_air : (p k q j : ℕ) → Air → ((point link : ℕ) → Flight) → (point link : ℕ) → Flight
with_air p k q j x air o =
    if nat_eq o p then with_flight k (to_near x) (air o) else (if nat_eq o q then with_flight j (to_far x) (air o) else air o)

module _ (p k q j : ℕ) (apart : q ≢ p) (x : Air) (air : (point link : ℕ) → Flight) where
  near-row : with_air p k q j x air p ≡ with_flight k (to_near x) (air p)
  near-row = ap (λ (b : Bool). if b then with_flight k (to_near x) (air p) else (if nat_eq p q then with_flight j (to_far x) (air p) else air p)) (equal p)

  far-row : with_air p k q j x air q ≡ with_flight j (to_far x) (air q)
  far-row =
      ap (λ (b : Bool). if b then with_flight k (to_near x) (air q) else (if nat_eq q q then with_flight j (to_far x) (air q) else air q)) (not-equal q p apart)
      ∙ ap (λ (b : Bool). if b then with_flight j (to_far x) (air q) else air q) (equal q)

  pub other-row : (o : ℕ) → o ≢ p → o ≢ q → with_air p k q j x air o ≡ air o
  other-row o d e =
      ap (λ (b : Bool). if b then with_flight k (to_near x) (air o) else (if nat_eq o q then with_flight j (to_far x) (air o) else air o)) (not-equal o p d)
      ∙ ap (λ (b : Bool). if b then with_flight j (to_far x) (air o) else air o) (not-equal o q e)

  pub near-air : with_air p k q j x air p k ≡ to_near x
  near-air = ap (λ (row : (link : ℕ) → Flight). row k) near-row ∙ flight-here k (to_near x) (air p)

  pub near-other : (i : ℕ) → i ≢ k → with_air p k q j x air p i ≡ air p i
  near-other i d = ap (λ (row : (link : ℕ) → Flight). row i) near-row ∙ flight-there k (to_near x) (air p) i d

  pub far-air : with_air p k q j x air q j ≡ to_far x
  far-air = ap (λ (row : (link : ℕ) → Flight). row j) far-row ∙ flight-here j (to_far x) (air q)

  pub far-other : (i : ℕ) → i ≢ j → with_air p k q j x air q i ≡ air q i
  far-other i d = ap (λ (row : (link : ℕ) → Flight). row i) far-row ∙ flight-there j (to_far x) (air q) i d

  -- on the others it stays
  pub air-stays : (o i : ℕ) → (o ≡ p → i ≢ k) → (o ≡ q → i ≢ j) → with_air p k q j x air o i ≡ air o i
  air-stays o i d e =
      ⊎_elim
      (λ (s : o ≡ p). subst (λ (n : ℕ). with_air p k q j x air n i ≡ air n i) (sym s) (near-other i (d s)))
      (λ (f : o ≢ p).
      ⊎_elim
      (λ (s : o ≡ q). subst (λ (n : ℕ). with_air p k q j x air n i ≡ air n i) (sym s) (far-other i (e s)))
      (λ (g : o ≢ q). ap (λ (row : (link : ℕ) → Flight). row i) (other-row o f g))
      (cases_eq o q))
      (cases_eq o p)

-- ---- all nodes

pub record AllShow (settings : (point : ℕ) → Configuration) (books : (point : ℕ) → NetworkNode) (air : (point link : ℕ) → Flight) (s : NetworkState) : Type 0 where
  pub each : (point : ℕ) → Shows (settings point) (books point) (air point) (s.node point)

pub shows-with : (c : Configuration) (b : NetworkNode) (air air' : (link : ℕ) → Flight) (k : ℕ) (f : Flight) (x : NetworkNode) → ShowsBut c b air k f x → air' k ≡ f
    → ((i : ℕ) → i ≢ k → air' i ≡ air i) → Shows c b air' x
shows-with c b air air' k f x h here there = record {
  settings = h.settings;
  same = h.same;
  sized = h.sized;
  flies = λ i.
      ⊎_elim
      (λ (e : i ≡ k).
      subst (λ (n : ℕ). Flies n x.incoming x.following (air' n).to (air' n).follows) (sym e)
      (subst (λ (g : Flight). Flies k x.incoming x.following g.to g.follows) (sym here) h.here))
      (λ (d : i ≢ k). subst (λ (g : Flight). Flies i x.incoming x.following g.to g.follows) (sym (there i d)) (h.there i d))
      (cases_eq i k);
}
