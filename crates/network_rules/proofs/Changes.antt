-- What is done to a network, as each two of its nodes show it; and nobody speaks for another then.
use Rattle.pair_rules.proofs.Basics.{◌≡◌, ◌≢◌, ℕ, false, List, [], ◌∷◌, ◌++◌, refl, ap, sym, subst, length, map, replicate, slice_index_or, ⊎_elim, cases_eq}
use Rattle.pair_rules.proofs.Definitions.{Configuration, PairState, turned}
use Rattle.exchange_rules.specs.First.{Abstract, first_state}
use Rattle.pair_rules.specs.Pairs.{nothing_in_flight}
use Rattle.neighbour_rules.specs.Neighbours as neighbours
use Rattle.neighbour_rules.specs.Anew as pairs
use Rattle.network_rules.specs.Networks.{NetworkNode, NetworkState, changed}
use Rattle.network_rules.specs.Pairs.{ArePairsAlike, CarryAlike, pair_between, pair_of}
use Rattle.network_rules.specs.Anew.{given_up, restarted}
use Rattle.network_rules.proofs.Alike.{flags-alike, set-sizes}
use Rattle.network_rules.proofs.Places.{node-other, node-same}
use Rattle.network_rules.proofs.Runs.{alike-turned}

-- ---- at the near node

module _ (x y : NetworkNode) (p : PairState) (h : ArePairsAlike (pair_between x y) p) where
  abbrev here : Configuration
  here = x.exchange.settings

  abbrev there : Configuration
  there = y.exchange.settings

  own-is : p.near.exchange.settings ≡ here
  own-is = ap (λ (a : Abstract). a.settings) h.near_alike.exchange

  restarted-alike : ArePairsAlike (pair_between (restarted x) y) (pairs.restarted p)
  restarted-alike = record {
    near_alike = record {
      exchange = ap first_state own-is;
      accepted = h.near_alike.accepted;
      received = h.near_alike.received;
      incoming =
          subst (λ (s : Configuration). CarryAlike here there (nothing_in_flight (length here.links)) (nothing_in_flight (length s.links))) (sym own-is)
          (record { statuses = λ link e. refl; user_data = λ link e. refl; status_links = refl; data_links = refl });
      following = λ link e. ap (λ (s : Configuration). slice_index_or (replicate (length s.links) false) link false) own-is;
      following_links = ap (λ (s : Configuration). length (replicate (length s.links) false)) own-is;
    };
    far_alike = h.far_alike;
  }

  given_up-alike : (link : ℕ) → ArePairsAlike (pair_between (given_up link x) y) (pairs.given_up link p)
  given_up-alike link = record {
    near_alike = record {
      exchange = h.near_alike.exchange;
      accepted = h.near_alike.accepted;
      received = h.near_alike.received;
      incoming = h.near_alike.incoming;
      following = flags-alike here there x.following p.near.following link false h.near_alike.following h.near_alike.following_links;
      following_links = set-sizes x.following p.near.following link false false h.near_alike.following_links;
    };
    far_alike = h.far_alike;
  }

-- ---- of two nodes in a network

-- by some changes of two neighbours a pair comes to be that is alike
pub record NextBy (w : NetworkState) (near far : ℕ) (p : PairState) : Type 0 where
  pub changes : List pairs.Change
  pub pair : ArePairsAlike (pair_of w near far) (pairs.after_all changes p)

module _ (near far : ℕ) (apart : near ≢ far) (w : NetworkState) (p : PairState) (h : ArePairsAlike (pair_of w near far) p) where
  abbrev x : NetworkNode
  x = w.node near

  abbrev y : NetworkNode
  y = w.node far

  -- whatever is done at a third node
  pub third-alike : (point : ℕ) (change : NetworkNode → NetworkNode) → near ≢ point → far ≢ point → ArePairsAlike (pair_of (changed point change w) near far) p
  third-alike point change d e =
      subst (λ (n : NetworkNode). ArePairsAlike (pair_between n ((changed point change w).node far)) p) (sym (node-other point near change w d))
      (subst (λ (n : NetworkNode). ArePairsAlike (pair_between x n) p) (sym (node-other point far change w e)) h)

  -- something is done at one node: at either of the two, or at a third
  module _ (point : ℕ) (change : NetworkNode → NetworkNode) (at_near at_far : pairs.Change)
      (here : ArePairsAlike (pair_between (change x) y) (pairs.after_change at_near p)) (there : ArePairsAlike (pair_between x (change y)) (pairs.after_change at_far p)) where
    abbrev v : NetworkState
    v = changed point change w

    near-changed : near ≡ point → NextBy v near far p
    near-changed same = record {
      changes = at_near ∷ [];
      pair =
          subst (λ (n : ℕ). ArePairsAlike (pair_of (changed n change w) near far) (pairs.after_change at_near p)) same
          (subst (λ (n : NetworkNode). ArePairsAlike (pair_between n ((changed near change w).node far)) (pairs.after_change at_near p)) (sym (node-same near change w))
          (subst (λ (n : NetworkNode). ArePairsAlike (pair_between (change x) n) (pairs.after_change at_near p)) (sym (node-other near far change w (λ e. apart (sym e)))) here));
    }

    far-changed : far ≡ point → NextBy v near far p
    far-changed same = record {
      changes = at_far ∷ [];
      pair =
          subst (λ (n : ℕ). ArePairsAlike (pair_of (changed n change w) near far) (pairs.after_change at_far p)) same
          (subst (λ (n : NetworkNode). ArePairsAlike (pair_between n ((changed far change w).node far)) (pairs.after_change at_far p)) (sym (node-other far near change w apart))
          (subst (λ (n : NetworkNode). ArePairsAlike (pair_between x n) (pairs.after_change at_far p)) (sym (node-same far change w)) there));
    }

    third-changed : near ≢ point → far ≢ point → NextBy v near far p
    third-changed d e = record { changes = []; pair = third-alike point change d e }

    changed-next : NextBy v near far p
    changed-next =
        ⊎_elim near-changed (λ (d : near ≢ point). ⊎_elim far-changed (λ (e : far ≢ point). third-changed d e) (cases_eq far point)) (cases_eq near point)

  back : ArePairsAlike (pair_between y x) (turned p)
  back = alike-turned x y p h

  pub restart-next : (point : ℕ) → NextBy (changed point restarted w) near far p
  restart-next point =
      changed-next point restarted pairs.NearRestarts pairs.FarRestarts (restarted-alike x y p h) (alike-turned (restarted y) x (pairs.restarted (turned p)) (restarted-alike y x (turned p) back))

  pub give_up-next : (point link : ℕ) → NextBy (changed point (given_up link) w) near far p
  give_up-next point link =
      changed-next point (given_up link) (pairs.NearGivesUp link) (pairs.FarGivesUp link) (given_up-alike x y p h link)
      (alike-turned (given_up link y) x (pairs.given_up link (turned p)) (given_up-alike y x (turned p) back link))

-- ---- lists of changes

pub stepped : (steps : List neighbours.Step) (p : PairState) → pairs.after_all (map pairs.Steps steps) p ≡ neighbours.after_steps steps p
stepped [] p = refl
stepped (step ∷ steps) p = stepped steps (neighbours.turn step p).left

pub changes-join : (one other : List pairs.Change) (p : PairState) → pairs.after_all (one ++ other) p ≡ pairs.after_all other (pairs.after_all one p)
changes-join [] other p = refl
changes-join (change ∷ one) other p = changes-join one other (pairs.after_change change p)
