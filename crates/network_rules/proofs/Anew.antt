-- Between two nodes both promises begin anew, since they do between two neighbours; and so do the laws of links.
use Rattle.std.specs.Prelude.{All}
use Rattle.pair_rules.proofs.Basics.{◌≡◌, ◌<◌, ℕ, zero, suc, true, List, [], ◌∷◌, length, Option, Some, None, refl, ap, sym, subst, ◌∙◌, arith, list_any, slice_get}
use Rattle.pair_rules.proofs.Definitions.{Configuration, LinkEntry, PairState, first_pair, turned}
use Rattle.pair_rules.specs.Promises.{BothWays}
use Rattle.pair_rules.specs.Sharing.{AreSharing}
use Rattle.neighbour_rules.specs.Neighbours as neighbours
use Rattle.neighbour_rules.specs.Neighbours.{end_there}
use Rattle.neighbour_rules.specs.Laws.{AreFinal, IsCarried, MovesLacked}
use Rattle.neighbour_rules.specs.Anew as pairs
use Rattle.neighbour_rules.specs.Anew.{IsQuietEnd, IsQuietPair, LostNothingSince, is_between}
use Rattle.neighbour_rules.proofs.Anew.{begins-anew}
use Rattle.neighbour_rules.proofs.Restarted.{Works, all-work, anew-works}
use Rattle.neighbour_rules.proofs.Sharing.{AreFacing, are-facing, AreOwn, facing-own}
use Rattle.network_rules.specs.Networks.{NetworkNode, NetworkState, Step, after_steps, first_network}
use Rattle.network_rules.specs.Pairs.{ArePairsAlike, AreTheirPoints, AreWellOrAlone, pair_between, pair_of}
use Rattle.network_rules.specs.Totals.{is_listed}
use Rattle.network_rules.specs.Anew.{BothKeep, Change, IsQuietNetwork, IsQuietNode, IsStepOrThird, after_all, begun_anew, neighbours_begin_anew, nobody_ever_speaks_for_another}
use Rattle.network_rules.proofs.Always.{Goes, GoesBy, IsCalm, all-go, goes, goes-apart, nobody}
use Rattle.network_rules.proofs.Facts.{HasLaws, not-elsewhere}
use Rattle.network_rules.proofs.Quiet.{are-kept}
use Rattle.network_rules.proofs.Promised.{is-written, written}

-- ---- pairs that are alike

module _ (p q : PairState) (h : ArePairsAlike p q) where
  abbrev q-written : PairState
  q-written = written p q

  same : q ≡ q-written
  same = is-written p q h

  quiet-alike : IsQuietEnd p → IsQuietEnd q
  quiet-alike s =
      subst IsQuietEnd (sym same)
      (record {
        links = λ link other e. ((s.links link other e).0, h.near_alike.following link (not-elsewhere p.near.exchange.settings p.far.exchange.settings _ other e) ∙ (s.links link other e).1);
        held = s.held;
      })

quiet-pair : (p q : PairState) → ArePairsAlike p q → IsQuietPair p → IsQuietPair q
quiet-pair p q h s = record { there = quiet-alike p q h s.there; back = quiet-alike (turned p) (turned q) (record { near_alike = h.far_alike; far_alike = h.near_alike }) s.back }

-- their books begin anew
anew-alike : (p q : PairState) → ArePairsAlike p q → ArePairsAlike (pairs.begun_anew p) (pairs.begun_anew q)
anew-alike p q h = record {
  near_alike = record {
    exchange = h.near_alike.exchange;
    accepted = refl;
    received = refl;
    incoming = h.near_alike.incoming;
    following = h.near_alike.following;
    following_links = h.near_alike.following_links;
  };
  far_alike = record {
    exchange = h.far_alike.exchange;
    accepted = refl;
    received = refl;
    incoming = h.far_alike.incoming;
    following = h.far_alike.following;
    following_links = h.far_alike.following_links;
  };
}

-- what one of them has lost since, and what it keeps, the other does
module _ (p q r s : PairState) (h : ArePairsAlike p q) (i : ArePairsAlike r s) where
  since-alike : LostNothingSince p r → LostNothingSince q s
  since-alike l =
      subst (λ (x : PairState). LostNothingSince x s) (sym (is-written p q h))
      (subst (λ (y : PairState). LostNothingSince (written p q) y) (sym (is-written r s i)) (record { near = l.near; far = l.far }))

  keep-as : pairs.BothKeep (written p q) (written r s) → BothKeep p r
  keep-as k = record {
    there = record { once = k.there.once; order = k.there.order };
    back = record { once = k.back.once; order = k.back.order };
  }

  keep-alike : pairs.BothKeep q s → BothKeep p r
  keep-alike k =
      keep-as (subst (λ (x : PairState). pairs.BothKeep x (written r s)) (is-written p q h) (subst (λ (y : PairState). pairs.BothKeep q y) (is-written r s i) k))

-- ---- quiet nodes

inside : {A : Type 0} (xs : List A) (i : ℕ) (x : A) → slice_get xs i ≡ Some x → i < length xs
inside [] i x e = absurd cc
inside (y ∷ xs) zero x e = omega arith
inside (y ∷ xs) (suc i) x e = (let rest : i < length xs = inside xs i x e in omega (arith, rest))

end-inside : (near far : Configuration) (link other : ℕ) → end_there near far (slice_get near.links link) ≡ Some other → link < length near.links
end-inside near far link other = by (slice_get near.links link) refl
  where
    by : (o : Option LinkEntry) → slice_get near.links link ≡ o → end_there near far o ≡ Some other → link < length near.links
    by None e f = absurd cc
    by (Some l) e f = inside near.links link l e

quiet-end : (x y : NetworkNode) → IsQuietNode x → IsQuietEnd (pair_between x y)
quiet-end x y s = record {
  links = λ link other e. s.links link (end-inside x.exchange.settings y.exchange.settings link other e);
  held = ap (list_any (is_between x.exchange.settings.own y.exchange.settings.own)) s.held;
}

pub quiet-between : (points : List ℕ) (w : NetworkState) (near far : ℕ) → IsQuietNetwork points w → is_listed points near ≡ true → is_listed points far ≡ true → IsQuietPair (pair_of w near far)
quiet-between points w near far quiet here there = record {
  there = quiet-end (w.node near) (w.node far) (quiet near here);
  back = quiet-end (w.node far) (w.node near) (quiet far there);
}

-- ---- two nodes of a network

module _ (settings : (point : ℕ) → Configuration) (changes : List Change) (near far : ℕ) (points : AreTheirPoints settings) (well : AreWellOrAlone settings) (sharing : AreSharing (settings near) (settings far)) where
  abbrev c : Configuration
  c = settings near

  abbrev z : Configuration
  z = settings far

  abbrev w : NetworkState
  w = after_all changes (first_network settings)

  abbrev a : AreFacing c z
  a = are-facing c z sharing

  its_own : AreOwn c z a
  its_own = facing-own c z sharing

  go : GoesBy settings near far points well a its_own w (first_pair c z)
  go = all-go settings near far points well a its_own changes

  -- the two neighbours that it shows
  abbrev q : PairState
  q = pairs.after_all go.changes (first_pair c z)

  works : Works c z a q
  works = all-work c z a its_own go.changes

  anew-calm : IsCalm settings near far points well a its_own (begun_anew w)
  anew-calm = record { each = λ point. go.calm.each point }

  abbrev Later : NetworkState → Type 0
  Later v = Goes settings near far points well a its_own v (pairs.begun_anew q)

  on : (steps : List Step) → Later (after_steps steps (begun_anew w))
  on steps = goes settings near far points well a its_own steps (begun_anew w) (pairs.begun_anew q) anew-calm (anew-works c z a q works) (anew-alike (pair_of w near far) q go.pair)

  on-apart : (later : List Change) → All (IsStepOrThird near far) later → Later (after_all later (begun_anew w))
  on-apart later i = goes-apart settings near far points well a its_own later i (begun_anew w) (pairs.begun_anew q) anew-calm (anew-works c z a q works) (anew-alike (pair_of w near far) q go.pair)

  module _ (quiet : IsQuietPair (pair_of w near far)) (v : NetworkState) (g : Later v) (since : LostNothingSince (pair_of w near far) (pair_of v near far)) where
    abbrev later : PairState
    later = neighbours.after_steps g.steps (pairs.begun_anew q)

    q-quiet : IsQuietPair q
    q-quiet = quiet-pair (pair_of w near far) q go.pair quiet

    q-since : LostNothingSince q later
    q-since = since-alike (pair_of w near far) q (pair_of v near far) later go.pair g.pair since

    kept : pairs.BothKeep q later
    kept = begins-anew c z go.changes sharing q-quiet g.steps q-since

    holds-between : BothKeep (pair_of w near far) (pair_of v near far)
    holds-between = keep-alike (pair_of w near far) q (pair_of v near far) later go.pair g.pair kept

    -- a law of links
    law-of : (Statement : PairState → Type 0) → BothWays Statement later → BothWays Statement (written (pair_of v near far) later)
    law-of Statement law = subst (BothWays Statement) (is-written (pair_of v near far) later g.pair) law

    laws : HasLaws (pair_of v near far)
    laws = record {
      pair = later;
      alike = g.pair;
      sharing =
          subst (λ (s : Configuration). AreSharing s (v.node far).exchange.settings) (sym (are-kept settings near far points well a v g.calm near))
          (subst (AreSharing c) (sym (are-kept settings near far points well a v g.calm far)) sharing);
      carried = law-of IsCarried (record { there = kept.there.carried; back = kept.back.carried });
      lacked = law-of MovesLacked (record { there = kept.there.moved; back = kept.back.moved });
      final = law-of AreFinal (record { there = kept.there.final; back = kept.back.final });
      silent = nobody settings near far points well a its_own v g.calm;
    }

  pub has-laws : IsQuietPair (pair_of w near far) → (steps : List Step) → LostNothingSince (pair_of w near far) (pair_of (after_steps steps (begun_anew w)) near far) → HasLaws (pair_of (after_steps steps (begun_anew w)) near far)
  has-laws quiet steps since = laws quiet (after_steps steps (begun_anew w)) (on steps) since

pub neighbours-anew : neighbours_begin_anew
neighbours-anew settings changes near far points well sharing quiet later i since =
    let w : NetworkState = after_all changes (first_network settings) in
    holds-between settings changes near far points well sharing quiet (after_all later (begun_anew w)) (on-apart settings changes near far points well sharing later i) since

pub never-spoken : nobody_ever_speaks_for_another
never-spoken settings changes near far points well sharing =
    nobody settings near far points well (a settings changes near far points well sharing) (its_own settings changes near far points well sharing) (after_all changes (first_network settings)) (go settings changes near far points well sharing).calm
