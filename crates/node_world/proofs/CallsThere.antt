-- A call of a gate of the node at a point, given its place among the nodes.
use Rattle.std.proofs.Common.{◌≡◌, ◌<◌, ◌&&◌, ℕ, Bool, true, false, not, List, Option, Some, None, length, nat_eq, nat_lt, refl, ap, sym, subst, ◌∙◌, arith}
use Rattle.std.proofs.lemmas.Bool.Decides.{nat_tests}
use Rattle.std.specs.Option.{option_and_then}
use Rattle.std.specs.Prelude.{slice_get}
use Rattle.sctp_bundling.specs.Watching.{Sent}
use Rattle.circular_buffer.proofs.Places.{slice_get-some}
use Rattle.network_datagrams.specs.NetworkWorlds.{HasEnd}
use Rattle.network_gates.specs.GateWorlds as gates
use Rattle.network_gates.specs.GateWorlds.{Calls, GateWorld, shown}
use Rattle.node_world.specs.declared.call.Call.{Call}
use Rattle.node_world.specs.Kept.{KeptNode, KeptPlace, kept_other_end, node_at, place_at, points_of, sent_there, sent_to}
use Rattle.node_world.specs.Calls.{NodesCall, is_made, is_made_by, is_made_from, is_made_to, is_there, octets_heard, told}
use Rattle.node_world.specs.Stands.{IsNodeAt, StandsFor}
use Rattle.node_world.specs.Worlds.{MayComeFrom}
use Rattle.node_world.proofs.Ends.{IsEnd, elsewhere, end-kept}
use Rattle.node_world.proofs.Places.{node-there}
use Rattle.node_world.proofs.Reached.{end-known}
use Rattle.node_world.proofs.Shown.{no-links}
use Rattle.node_world.proofs.Worlds.{calls-there, second-of}

first-of : (a b : Bool) → (a && b) ≡ true → a ≡ true
first-of true b e = refl
first-of false b e = e

is-below : (link count : ℕ) → nat_lt link count ≡ true → link < count
is-below link count e = grind (arith, nat_tests, e)

is-less : (link count : ℕ) → link < count → nat_lt link count ≡ true
is-less link count l = grind (arith, nat_tests, l)

-- a call that is made is one of a gate
inside : (call : Call) (place link : ℕ) (k : List KeptNode) (near : KeptNode) → is_made_from call place link k (Some near) ≡ true → link < length near.ports
inside call place link k near e = by (kept_other_end k (Some near) link) e
  where
    by : (o : Option KeptPlace) → is_made_to call place link k near o ≡ true → link < length near.ports
    by None f = absurd (cc)
    by (Some there) f =
        is-below link (length near.ports)
        (first-of (nat_lt link (length near.ports)) (is_there call (sent_there k (Some there)))
        (second-of (not (nat_eq place there.place)) (nat_lt link (length near.ports) && is_there call (sent_there k (Some there))) f))

module _ (k : List KeptNode) (point place link now : ℕ) (call : Call) (at : place_at point k ≡ Some place) (done : Bool) (answer : done ≡ is_made_from call place link k (slice_get k place)) where
  pub answers : done ≡ is_made call point link k
  answers = answer ∙ ap (is_made_by call link k) (sym at)

  -- what comes is there, since the link has another end
  module _ (w : GateWorld) (s : StandsFor k w) (less : link < length (w.node point).books.exchange.settings.links) (fits : place < length k) where
    made-of : (near : KeptNode) → slice_get k place ≡ Some near → done ≡ is_there call (sent_to k point link)
    made-of near near_is =
        let e : HasEnd (shown w) point link = end-known (points_of k) w s.reached point link less in
        let end : IsEnd k near.exchange.settings (slice_get near.exchange.settings.links link) e.there = end-kept k w s point link place near at near_is e in
        let other : KeptPlace = record { place = end.far; link = e.there.link } in
        let there : node_at point k ≡ Some near = node-there k point place at ∙ near_is in
        let gate : nat_lt link (length near.ports) ≡ true = is-less link (length near.ports) (subst (λ (count : ℕ). link < count) (sym (s.gates point near there)) less) in
        answer
        ∙ ap (is_made_from call place link k) near_is
        ∙ ap (is_made_to call place link k near) end.is
        ∙ ap (λ (b : Bool). not b && (nat_lt link (length near.ports) && is_there call (sent_there k (Some other)))) (elsewhere k w s point link place near at near_is e)
        ∙ ap (λ (b : Bool). b && is_there call (sent_there k (Some other))) gate
        ∙ ap (λ (sent : List Sent). is_there call sent)
        (sym (ap (λ (o : Option KeptNode). sent_there k (kept_other_end k o link)) there ∙ ap (sent_there k) end.is))

    pub made-so : done ≡ is_there call (sent_to k point link)
    made-so = let near = slice_get-some k place fits in made-of near.0 near.1

  -- it is a call of the abstract world
  module _ (is : List KeptNode) (calls : done ≡ true → NodesCall place link (told call (octets_heard call (sent_there k (kept_other_end k (slice_get k place) link))) now) k is) where
    heard : sent_there k (kept_other_end k (slice_get k place) link) ≡ sent_to k point link
    heard = ap (λ (o : Option KeptNode). sent_there k (kept_other_end k o link)) (sym (node-there k point place at))

    pub called-there : (w : GateWorld) → StandsFor k w → done ≡ true → MayComeFrom w point link call (octets_heard call (sent_to k point link))
        → StandsFor is (gates.after point (Calls link (told call (octets_heard call (sent_to k point link)) now)) w)
    called-there w s d may =
        let octets : List ℕ = octets_heard call (sent_to k point link) in
        let t : NodesCall place link (told call octets now) k is =
        subst (λ (sent : List Sent). NodesCall place link (told call (octets_heard call sent) now) k is) heard (calls d) in
        let less : link < length t.old.ports =
        inside call place link k t.old (subst (λ (o : Option KeptNode). is_made_from call place link k o ≡ true) t.old_is (sym answer ∙ d)) in
        calls-there k is w s point place at call octets now link t less may

-- where no node is, there is no link
pub none-made : (k : List KeptNode) (point link : ℕ) (w : GateWorld) (s : StandsFor k w) → place_at point k ≡ None → link < length (w.node point).books.exchange.settings.links → ⊥
none-made k point link w s at =
    no-links k w s point (subst (λ (o : Option KeptNode). IsNodeAt point o (w.node point)) (ap (option_and_then (slice_get k)) at) (s.nodes point)) link
