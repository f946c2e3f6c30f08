-- Order over a hop begins anew, too: in what node nothing is left as moves say it, nothing is as neighbours do.
use Rattle.std.proofs.Common.{◌≡◌, ◌<◌, ◌&&◌, ◌||◌, ℕ, Bool, true, false, not, List, [], ◌∷◌, length, count_by, Option, Some, None, nat_eq, refl, ap, sym, ◌∙◌, arith, if◌then◌else◌}
use Rattle.std.proofs.Math.Logic.{⊎_elim}
use Rattle.std.proofs.lemmas.Bool.{eqb-true}
use Rattle.std.proofs.lemmas.Bool.Decides.{nat_tests}
use Rattle.std.proofs.lemmas.Option.{slice_get-get_or, slice_get_within}
use Rattle.std.specs.List.{list_any}
use Rattle.std.specs.Prelude.{slice_get}
use Rattle.signalling_types.specs.Message.{Message, dpc_of, is_management, opc_of, service_indicator}
use Rattle.settings.specs.Configuration.{Configuration, LinkEntry}
use Rattle.exchange_rules.specs.Messages.{link_with_code}
use Rattle.exchange_rules.specs.Routing.{adjacent_of, entry_of, peer_of}
use Rattle.network_moves.specs.Networks.{one_if}
use Rattle.network_moves.proofs.Counts.{count-cons}
use Rattle.node_moves.specs.Anew as anew
use Rattle.node_moves.proofs.Closed.{each-true, either-true}
use Rattle.neighbour_rules.specs.Anew.{IsQuietEnd, IsQuietPair, is_between}
use Rattle.neighbour_rules.specs.Neighbours.{end_there}
use Rattle.network_rules.specs.Networks.{NetworkState}
use Rattle.network_rules.specs.Pairs.{pair_between, pair_of}
use Rattle.network_rules.proofs.Joined.{placed-well}
use Rattle.network_rules.proofs.Paths.{last-anew}
use Rattle.node_law.specs.Anew.{IsQuietThere, NothingIsLeft, order_begins_anew}
use Rattle.node_law.specs.Hops.{settings_of}
use Rattle.node_law.proofs.AnewHops.{start, start-kept, users-alone}
use Rattle.node_law.proofs.Order.{sharing-kept}
use Rattle.node_law.proofs.Places.{listed-node}

-- ---- messages between two

or-left : (a b : Bool) → a ≡ true → (a || b) ≡ true
or-left true b e = refl
or-left false b e = absurd cc

or-right : (a b : Bool) → b ≡ true → (a || b) ≡ true
or-right true b e = refl
or-right false b e = e

and-both : (a b : Bool) → a ≡ true → b ≡ true → (a && b) ≡ true
and-both true b e f = f
and-both false b e f = absurd cc

-- of messages between two, those that aren't management are for either
still-for : (user lowest managed to_one to_two from_one from_two to_either : Bool) → (to_one ≡ true → to_either ≡ true) → (to_two ≡ true → to_either ≡ true) → (lowest ≡ true → managed ≡ true)
    → (user && to_one || user && to_two || lowest && (from_one && to_two) || lowest && (from_two && to_one)) ≡ true → (user && to_either || managed) ≡ true
still-for user lowest managed to_one to_two from_one from_two to_either one two is_managed e =
    ⊎_elim
    (λ (g : _).
    ⊎_elim
    (λ (f : _).
    ⊎_elim
    (λ (h : (user && to_one) ≡ true). by-user to_one one h)
    (λ (h : (user && to_two) ≡ true). by-user to_two two h)
    (either-true (user && to_one) (user && to_two) f))
    (λ (h : (lowest && (from_one && to_two)) ≡ true). by-management (from_one && to_two) h)
    (either-true (user && to_one || user && to_two) (lowest && (from_one && to_two)) g))
    (λ (h : (lowest && (from_two && to_one)) ≡ true). by-management (from_two && to_one) h)
    (either-true (user && to_one || user && to_two || lowest && (from_one && to_two)) (lowest && (from_two && to_one)) e)
  where
    by-user : (to : Bool) → (to ≡ true → to_either ≡ true) → (user && to) ≡ true → (user && to_either || managed) ≡ true
    by-user to h f = (let two : (user ≡ true) × (to ≡ true) = each-true user to f in or-left (user && to_either) managed (and-both user to_either two.0 (h two.1)))

    by-management : (between : Bool) → (lowest && between) ≡ true → (user && to_either || managed) ≡ true
    by-management between f = or-right (user && to_either) managed (is_managed (each-true lowest between f).0)

-- where none passes either of two tests, none passes a stronger one
none-passes : (strong weak other : Message → Bool) → ((m : Message) → strong m ≡ true → (weak m || other m) ≡ true) → (ms : List Message) → count_by weak ms ≡ 0 → count_by other ms ≡ 0 → list_any strong ms ≡ false
none-passes strong weak other h [] e f = refl
none-passes strong weak other h (m ∷ ms) e f =
    let one : one_if (weak m) ≡ 0 = omega (arith, count-cons weak m ms, e) in
    let two : one_if (other m) ≡ 0 = omega (arith, count-cons other m ms, f) in
    let rest : list_any strong ms ≡ false = none-passes strong weak other h ms (omega (arith, count-cons weak m ms, e)) (omega (arith, count-cons other m ms, f)) in
    by (strong m) (weak m) (other m) refl refl refl one two rest
  where
    by : (s a b : Bool) → strong m ≡ s → weak m ≡ a → other m ≡ b → one_if (weak m) ≡ 0 → one_if (other m) ≡ 0 → list_any strong ms ≡ false → (s || list_any strong ms) ≡ false
    by false a b e f g one two rest = rest
    by true true b e f g one two rest = (let no : 1 ≡ 0 = sym (ap one_if f) ∙ one in absurd (omega (arith, no)))
    by true false true e f g one two rest = (let no : 1 ≡ 0 = sym (ap one_if g) ∙ two in absurd (omega (arith, no)))
    by true false false e f g one two rest = (let no : false ≡ true = sym (ap (λ (q : Bool). q || other m) f ∙ g) ∙ h m e in absurd cc)

module _ (near far : ℕ) where
  between-two : (one two : ℕ) → ((point : ℕ) → nat_eq point one ≡ true → anew.is_either near far point ≡ true) → ((point : ℕ) → nat_eq point two ≡ true → anew.is_either near far point ≡ true)
      → (m : Message) → is_between one two m ≡ true → (anew.is_for_either near far m || is_management m) ≡ true
  between-two one two h g m =
      still-for (not (is_management m)) (nat_eq (service_indicator m) 0) (is_management m) (nat_eq (dpc_of m) one) (nat_eq (dpc_of m) two) (nat_eq (opc_of m) one) (nat_eq (opc_of m) two)
      (anew.is_either near far (dpc_of m)) (h (dpc_of m)) (g (dpc_of m)) (λ e. managed e)
    where
      managed : nat_eq (service_indicator m) 0 ≡ true → is_management m ≡ true
      managed e = grind (arith, nat_tests, e)

  near-either : (point : ℕ) → nat_eq point near ≡ true → anew.is_either near far point ≡ true
  near-either point e = or-left (nat_eq point near) (nat_eq point far) e

  far-either : (point : ℕ) → nat_eq point far ≡ true → anew.is_either near far point ≡ true
  far-either point e = or-right (nat_eq point near) (nat_eq point far) e

-- ---- links between two

-- a link whose far end is at a point leads there
leads-to : (c d : Configuration) (link other : ℕ) → end_there c d (slice_get c.links link) ≡ Some other → (link < length c.links) × (peer_of c link ≡ d.own)
leads-to c d link other e = by (slice_get c.links link) refl e
  where
    no_link : LinkEntry
    no_link = record { name = []; set = 0; slc = 0; share = None }

    to-own : (b : Bool) (l : LinkEntry) → nat_eq (adjacent_of c l.set) d.own ≡ b → (if b then link_with_code d c.own l.slc else None) ≡ Some other → adjacent_of c l.set ≡ d.own
    to-own true l f g = eqb-true (adjacent_of c l.set) d.own f
    to-own false l f g = absurd cc

    by : (o : Option LinkEntry) → slice_get c.links link ≡ o → end_there c d o ≡ Some other → (link < length c.links) × (peer_of c link ≡ d.own)
    by None f g = absurd cc
    by (Some l) f g =
        let inside : link < length c.links = slice_get_within c.links link l f in
        let same : Some (entry_of c link) ≡ Some l = sym (slice_get-get_or c.links link no_link inside) ∙ f in
        let is : entry_of c link ≡ l = cc in
        (inside, ap (λ (k : LinkEntry). adjacent_of c k.set) is ∙ to-own (nat_eq (adjacent_of c l.set) d.own) l refl g)

module _ (w : NetworkState) (near far : ℕ) where
  quiet-end : (here there : ℕ) → (settings_of w there).own ≡ there → count_by is_management (w.node here).exchange.node.queues.held ≡ 0
      → ((m : Message) → is_between (settings_of w here).own (settings_of w there).own m ≡ true → (anew.is_for_either near far m || is_management m) ≡ true)
      → IsQuietThere near far w here there → IsQuietEnd (pair_between (w.node here) (w.node there))
  quiet-end here there own users between q = record {
    links = λ link other e.
        (let its : (link < length (settings_of w here).links) × (peer_of (settings_of w here) link ≡ (settings_of w there).own) = leads-to (settings_of w here) (settings_of w there) link other e in
        q.links link its.0 (its.1 ∙ own));
    held = none-passes (is_between (settings_of w here).own (settings_of w there).own) (anew.is_for_either near far) is_management between (w.node here).exchange.node.queues.held q.held users;
  }

  quiet-pair : (settings_of w near).own ≡ near → (settings_of w far).own ≡ far → count_by is_management (w.node near).exchange.node.queues.held ≡ 0
      → count_by is_management (w.node far).exchange.node.queues.held ≡ 0 → NothingIsLeft near far w → IsQuietPair (pair_of w near far)
  quiet-pair near_own far_own near_users far_users left = record {
    there =
        quiet-end near far far_own near_users
        (between-two near far (settings_of w near).own (settings_of w far).own (λ point e. near-either near far point (ap (nat_eq point) (sym near_own) ∙ e)) (λ point e. far-either near far point (ap (nat_eq point) (sym far_own) ∙ e))) left.near_quiet;
    back =
        quiet-end far near near_own far_users
        (between-two near far (settings_of w far).own (settings_of w near).own (λ point e. far-either near far point (ap (nat_eq point) (sym far_own) ∙ e)) (λ point e. near-either near far point (ap (nat_eq point) (sym near_own) ∙ e))) left.far_quiet;
  }

pub all-in-order : order_begins_anew
all-in-order settings numbers before changes its linked near far h t sls =
    let z : NetworkState = start settings numbers before its linked in
    let own : (point : ℕ) → (settings_of z point).own ≡ point = λ point. ap (λ (c : Configuration). c.own) (start-kept settings numbers before its linked point) ∙ its.own point in
    last-anew settings before near far its.own (placed-well settings numbers its) (sharing-kept settings numbers its linked z (start-kept settings numbers before its linked) near far h.hop t.network)
    (quiet-pair z near far (own near) (own far) (users-alone settings numbers before its linked near (listed-node settings numbers its near h.hop.near_there))
    (users-alone settings numbers before its linked far (listed-node settings numbers its far h.hop.far_there)) h.quiet) changes sls h.others t.lossless t.punctual
