-- What is in flight between two exchanges on each link, as the messages that associations still carry; and two books of
-- a pair.
use Rattle.std.proofs.Common.{◌≡◌, ◌≢◌, ℕ, Bool, true, false, List, [], ◌∷◌, ◌++◌, length, refl, ap, sym, subst, nat_eq, arith, ⊎_elim}
use Rattle.std.proofs.lemmas.Bool.{cases_eq}
use Rattle.std.proofs.lemmas.Bool.Decides.{nat_tests}
use Rattle.std.specs.Prelude.{if◌then◌else◌, slice_index_or}
use Rattle.settings.specs.Configuration.{Configuration}
use Rattle.sctp_moves.specs.Ends.{Message}
use Rattle.pair_rules.specs.Pairs.{PairState, Streams, in_flight}
use Rattle.pair_rules.specs.Promises.{AreJoined}
use Rattle.neighbour_rules.specs.Neighbours.{Doing, did}
use Rattle.neighbour_rules.proofs.Sharing.{AreFacing, facing_back}
use Rattle.neighbour_rules.proofs.Special.{joined-back}
use Rattle.node_rules.specs.Worlds.{Books}
use Rattle.node_rules.specs.Promises.{IsOf}
use Rattle.node_rules.proofs.Whole.{IsWhole, turned-whole}
use Rattle.node_rules.proofs.Lines.{Ends, same-far, turned-ends}

-- the octets of the messages of one stream
abbrev pub texts : ℕ → List Message → List (List ℕ)
texts stream [] = []
texts stream (m ∷ ms) = if nat_eq m.stream stream then m.octets ∷ texts stream ms else texts stream ms

-- what is on its way to either end on a link, in the order in which it was given; and whether an end may follow
pub record Air : Type 0 where
  pub to_near : List Message
  pub to_far : List Message
  pub near_follows : Bool
  pub far_follows : Bool

abbrev pub turned_air : Air → Air
turned_air a = record { to_near = a.to_far; to_far = a.to_near; near_follows = a.far_follows; far_follows = a.near_follows }

pub record Flies (k : ℕ) (s : Streams) (following : List Bool) (to : List Message) (follows : Bool) : Type 0 where
  pub statuses : in_flight s.statuses k ≡ texts 0 to
  pub user_data : in_flight s.user_data k ≡ texts 1 to
  pub may : slice_index_or following k false ≡ follows

pub record Sized (n : ℕ) (s : Streams) (following : List Bool) : Type 0 where
  pub statuses : length s.statuses ≡ n
  pub user_data : length s.user_data ≡ n
  pub may : length following ≡ n

-- a pair has both books, and this is in the air of the links between the two
pub record Shows (c z : Configuration) (a : AreFacing c z) (near far : Books) (air : ℕ → ℕ → Air) (p : PairState) : Type 0 where
  pub near_settings : near.exchange.settings ≡ c
  pub far_settings : far.exchange.settings ≡ z
  pub near_has : IsOf c.own z.own near p.near
  pub far_has : IsOf z.own c.own far p.far
  pub near_sized : Sized (length c.links) p.near.incoming p.near.following
  pub far_sized : Sized (length z.links) p.far.incoming p.far.following
  pub to_near : (k j : ℕ) → Ends c z a k j → Flies k p.near.incoming p.near.following (air k j).to_near (air k j).near_follows
  pub to_far : (k j : ℕ) → Ends c z a k j → Flies j p.far.incoming p.far.following (air k j).to_far (air k j).far_follows
  -- between nodes that have only each other it has all that these books have
  pub whole : AreJoined c z → IsWhole c z near far p

abbrev pub with_air : ℕ → Air → (ℕ → ℕ → Air) → ℕ → ℕ → Air
with_air k x air = λ i o. if nat_eq i k then x else air i o

pub air-here : (k : ℕ) (x : Air) (air : ℕ → ℕ → Air) (o : ℕ) → with_air k x air k o ≡ x
air-here k x air o = ap (λ (b : Bool). if b then x else air k o) (same k) where
  same : (n : ℕ) → nat_eq n n ≡ true
  same n = grind (arith, nat_tests)

pub air-other : (k : ℕ) (x : Air) (air : ℕ → ℕ → Air) (i o : ℕ) → i ≢ k → with_air k x air i o ≡ air i o
air-other k x air i o d = ap (λ (b : Bool). if b then x else air i o) (unlike i k d) where
  unlike : (m n : ℕ) → m ≢ n → nat_eq m n ≡ false
  unlike m n e = grind (arith, nat_tests, e)

-- ---- steps of the near end

abbrev pub dids : List Doing → PairState → PairState
dids [] p = p
dids (what ∷ more) p = dids more (did what p).left

-- by some steps of the near end
pub record Reaches (c z : Configuration) (a : AreFacing c z) (near far : Books) (air : ℕ → ℕ → Air) (p : PairState) : Type 0 where
  pub list : List Doing
  pub shows : Shows c z a near far air (dids list p)

dids-append : (list more : List Doing) (p : PairState) → dids (list ++ more) p ≡ dids more (dids list p)
dids-append [] more p = refl
dids-append (what ∷ list) more p = dids-append list more (did what p).left

module _ (c z : Configuration) (a : AreFacing c z) where
  pub by-one : (near far : Books) (air : ℕ → ℕ → Air) (what : Doing) (p : PairState) → Shows c z a near far air (did what p).left
      → Reaches c z a near far air p
  by-one near far air what p h = record { list = what ∷ []; shows = h }

  pub by-none : (near far : Books) (air : ℕ → ℕ → Air) (p : PairState) → Shows c z a near far air p → Reaches c z a near far air p
  by-none near far air p h = record { list = []; shows = h }

  pub reaches-on : (near far near' far' : Books) (air air' : ℕ → ℕ → Air) (p : PairState) → (r : Reaches c z a near far air p)
      → (Shows c z a near far air (dids r.list p) → Reaches c z a near' far' air' (dids r.list p)) → Reaches c z a near' far' air' p
  reaches-on near far near' far' air air' p r f =
      let q : Reaches c z a near' far' air' (dids r.list p) = f r.shows in
      record {
        list = r.list ++ q.list;
        shows = subst (Shows c z a near' far' air') (sym (dids-append r.list q.list p)) q.shows;
      }

  -- ---- the pair seen from the other end

  pub turned-shows : (near far : Books) (air : ℕ → ℕ → Air) (p : PairState) → Shows c z a near far air p
      → Shows z c (facing_back c z a) far near (λ j k. turned_air (air k j)) (record { near = p.far; far = p.near })
  turned-shows near far air p h = record {
    near_settings = h.far_settings;
    far_settings = h.near_settings;
    near_has = h.far_has;
    far_has = h.near_has;
    near_sized = h.far_sized;
    far_sized = h.near_sized;
    to_near = λ j k e. h.to_far k j (turned-ends z c (facing_back c z a) j k e);
    to_far = λ j k e. h.to_near k j (turned-ends z c (facing_back c z a) j k e);
    whole = λ g. turned-whole c z near far p (h.whole (joined-back z c g));
  }

  -- one link has something else in the air
  pub each-link : (P : ℕ → ℕ → Air → Type 0) (k j : ℕ) (e : Ends c z a k j) (x : Air) (air : ℕ → ℕ → Air) → P k j x
      → ((i o : ℕ) → Ends c z a i o → i ≢ k → P i o (air i o)) → (i o : ℕ) → Ends c z a i o → P i o (with_air k x air i o)
  each-link P k j e x air h f i o l =
      ⊎_elim
      (λ (q : i ≡ k).
      let r : j ≡ o = same-far c z a k j o e (subst (λ (n : ℕ). Ends c z a n o) q l) in
      subst (λ (n : ℕ). P n o (with_air k x air n o)) (sym q)
      (subst (λ (n : ℕ). P k n (with_air k x air k n)) r (subst (P k j) (sym (air-here k x air j)) h)))
      (λ (d : i ≢ k). subst (P i o) (sym (air-other k x air i o d)) (f i o l d))
      (cases_eq i k)
