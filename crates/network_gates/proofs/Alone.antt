-- What two nodes of a network do that have only each other is what the two of `gate_rules` do.
use Rattle.std.proofs.Common.{◌≡◌, ◌≢◌, ℕ, Bool, true, false, List, [], ◌∷◌, ◌++◌, Option, Some, None, map, nat_eq, refl, ap, sym, ◌∙◌, subst}
use Rattle.std.specs.Prelude.{if◌then◌else◌, option_to_list}
use Rattle.std.proofs.lemmas.List.{append-nil, map-append}
use Rattle.std.proofs.lemmas.List.Elements.{filter-append}
use Rattle.signalling_types.specs.Message.{Message}
use Rattle.changeover.specs.Changeover.{users_of}
use Rattle.settings.specs.Configuration.{Configuration}
use Rattle.exchange_rules.specs.Conserving.{brought_in}
use Rattle.exchange_rules.specs.Exchange as exchange
use Rattle.exchange_rules.specs.Queues.{WholeQueues, whole}
use Rattle.exchange_rules.specs.Receiving.{new_message}
use Rattle.exchange_rules.specs.State.{Happening, CameUp, WentDown, FrameCame, Ticked, Submitted, Activated, Deactivated, Released, TitleAdded, TitleSet, TitleRemoved}
use Rattle.sctp_gate.specs.Watching.{Sight, Rose, CameIn, Dropped, Fell, Failed, WentOut}
use Rattle.sctp_gate.specs.Gates.{Did}
use Rattle.sctp_gate.specs.Calling.{Call}
use Rattle.pair_rules.specs.Promises.{AreJoined}
use Rattle.neighbour_rules.proofs.Sharing.{are-facing}
use Rattle.neighbour_rules.proofs.Special.{joined-back, same-end, sharing}
use Rattle.network_rules.specs.Networks.{Arrival, NetworkNode, Place, sends}
use Rattle.network_rules.specs.Totals.{IsJoined}
use Rattle.network_rules.proofs.Joined.{from-end}
use Rattle.node_rules.specs.Worlds as nodes
use Rattle.node_rules.specs.Worlds.{Books, IsBetween}
use Rattle.network_datagrams.specs.NetworkWorlds.{happened}
use Rattle.network_datagrams.proofs.Placing.{AreEnds}
use Rattle.gate_rules.specs.Calls.{books_kept, seen_all}
use Rattle.gate_rules.specs.Worlds as gates
use Rattle.gate_rules.specs.Worlds.{Make, MayCall, World, done_by, port_after}
use Rattle.gate_rules.proofs.LinkEnds.{same-number}
use Rattle.gate_rules.proofs.Running.{is-special}
use Rattle.gate_rules.specs.Promises.{IsSpecial}
use Rattle.network_gates.specs.GateWorlds.{Calls, Doing, GateWorld, Happens, MayDo, Node, Steps, after, did, last_world, new_world, node_kept, shown}
use Rattle.network_gates.specs.GatesAlone.{books_of, nodes_alone_are_special, one_of_two, two_of}
use Rattle.network_gates.specs.GatePromises.{settings_of}
use Rattle.network_gates.proofs.Running.{Reaches, did-goes, ends-there, first-reaches}

-- ---- the books of one of the two

abbrev said : List Arrival → List Message
said arrived = map (λ (a : Arrival). a.message) arrived

users-more : (xs ys : List Arrival) → users_of (said (xs ++ ys)) ≡ users_of (said xs) ++ users_of (said ys)
users-more xs ys = ap users_of (map-append (λ (a : Arrival). a.message) xs ys) ∙ filter-append _ (said xs) (said ys)

-- what a frame newly carries
new-said : (k : ℕ) (o : Option Message) → said (map (λ (m : Message). record { link = k; message = m }) (option_to_list o)) ≡ option_to_list o
new-said k None = refl
new-said k (Some m) = refl

came-more : (arrived : List Arrival) (k : ℕ) (o : Option Message)
    → users_of (said arrived) ++ users_of (option_to_list o) ≡ users_of (said (arrived ++ map (λ (m : Message). record { link = k; message = m }) (option_to_list o)))
came-more arrived k o =
    ap (λ (ms : List Message). users_of (said arrived) ++ users_of ms) (sym (new-said k o)) ∙ sym (users-more arrived (map (λ (m : Message). record { link = k; message = m }) (option_to_list o)))

-- what brings no message
none-more : (what : Happening) (x : NetworkNode) → brought_in what x.exchange ≡ [] → nodes.carried what x.exchange ≡ []
    → nodes.happened what (books_of x) ≡ record (books_of x) { exchange = exchange.after whole what x.exchange }
none-more what x e f = λ i. record {
  exchange = exchange.after whole what x.exchange;
  accepted = (ap (λ (ms : List Message). x.accepted ++ ms) e ∙ append-nil x.accepted) i;
  received = (ap (λ (ms : List Message). users_of (said x.arrived) ++ ms) f ∙ append-nil (users_of (said x.arrived))) i;
}

happened-as : (what : Happening) (x : NetworkNode) → nodes.happened what (books_of x) ≡ books_of (happened what x)
happened-as (FrameCame k text) x = λ i. record {
  exchange = exchange.after whole (FrameCame k text) x.exchange;
  accepted = x.accepted ++ brought_in (FrameCame k text) x.exchange;
  received = came-more x.arrived k (new_message k text x.exchange) i;
}
happened-as (Submitted m) x = λ i. record {
  exchange = exchange.after whole (Submitted m) x.exchange;
  accepted = x.accepted ++ brought_in (Submitted m) x.exchange;
  received = append-nil (users_of (said x.arrived)) i;
}
happened-as (CameUp k) x = none-more (CameUp k) x refl refl
happened-as (WentDown k) x = none-more (WentDown k) x refl refl
happened-as Ticked x = none-more Ticked x refl refl
happened-as (Activated k emergency) x = none-more (Activated k emergency) x refl refl
happened-as (Deactivated k) x = none-more (Deactivated k) x refl refl
happened-as (Released k) x = none-more (Released k) x refl refl
happened-as (TitleAdded row is_memory_refused) x = none-more (TitleAdded row is_memory_refused) x refl refl
happened-as (TitleSet row is_memory_refused) x = none-more (TitleSet row is_memory_refused) x refl refl
happened-as (TitleRemoved key digits) x = none-more (TitleRemoved key digits) x refl refl

seen-as : (k : ℕ) (seen : List Sight) (x : NetworkNode) → seen_all books_kept k seen (books_of x) ≡ books_of (seen_all node_kept k seen x)
seen-as k [] x = refl
seen-as k (Rose ∷ more) x = ap (seen_all books_kept k more) (happened-as (CameUp k) x) ∙ seen-as k more (happened (CameUp k) x)
seen-as k (CameIn frame outcome ∷ more) x =
    ap (seen_all books_kept k more) (happened-as (FrameCame k frame) x) ∙ seen-as k more (happened (FrameCame k frame) x)
seen-as k (Dropped message ∷ more) x = seen-as k more x
seen-as k (Fell why ∷ more) x = ap (seen_all books_kept k more) (happened-as (WentDown k) x) ∙ seen-as k more (happened (WentDown k) x)
seen-as k (Failed why ∷ more) x = seen-as k more x
seen-as k (WentOut frame ∷ more) x = seen-as k more (sends k x)

-- ---- what is done at it

abbrev doing_as : Doing → gates.Doing
doing_as (Happens what) = gates.Happens what
doing_as (Calls k call) = gates.Calls k call

did-as : (what : Doing) (n : Node) → gates.did (doing_as what) (one_of_two n) ≡ one_of_two (did what n)
did-as (Happens what) n = ap (λ (b : Books). record { books = b; ports = n.ports }) (happened-as what n.books)
did-as (Calls k call) n =
    let d : Did WholeQueues = done_by node_kept call k n in
    ap
    (λ (b : Books). record { books = record b { exchange = d.exchange }; ports = λ other. if nat_eq other k then port_after call d (n.ports k) else n.ports other })
    (seen-as k d.seen n.books)

same-place : (a b : Place) → Some a ≡ Some b → a ≡ b
same-place a b e = cc

steps-on : (near far : Make) (w v : World) (list : List World) → gates.Steps near far w list → gates.Step near far (gates.last_world w list) v → gates.Steps near far w (list ++ v ∷ [])
steps-on near far w v [] h s = (s, tt)
steps-on near far w v (u ∷ rest) h s = (h.0, steps-on near far u v rest h.1 s)

last-on : (w v : World) (list : List World) → gates.last_world w (list ++ v ∷ []) ≡ v
last-on w v [] = refl
last-on w v (u ∷ rest) = last-on u v rest

module _ (make : (point : ℕ) → Make) (points : List ℕ) (is_joined : IsJoined (settings_of make) points) where
  -- a link of one of the two is between them
  may-as : (v : GateWorld) (r : Reaches make points is_joined v) (p q : ℕ) → AreJoined (make p).configuration (make q).configuration → (what : Doing) → MayDo v p what
      → gates.MayDo (make p).configuration (make q).configuration (one_of_two (v.node q)) (doing_as what)
  may-as v r p q a (Happens what) may = may
  may-as v r p q a (Calls k call) may =
      let c : Configuration = (make p).configuration in
      let z : Configuration = (make q).configuration in
      let e : AreEnds (settings_of make) p k may.0.there.point may.0.there.link = ends-there make points is_joined v r p k may.0 in
      let b : IsBetween c z k = record { there = k; is = same-end c z a k e.here } in
      let same : may.0.there ≡ record { point = q; link = k } =
      same-place may.0.there (record { point = q; link = k }) (sym e.end ∙ from-end (settings_of make) points is_joined p k q k b.is) in
      (b, subst (λ (there : Place). MayCall ((v.node there.point).ports there.link) call) same may.1)

  module _ (near far : ℕ) (a : AreJoined (make near).configuration (make far).configuration) where
    abbrev m : Make
    m = make near

    abbrev o : Make
    o = make far

    apart : near ≢ far
    apart same = (are-facing m.configuration o.configuration (sharing m.configuration o.configuration a)).apart (ap (λ (k : ℕ). (make k).configuration.own) same)

    -- steps of two lead to a world
    record IsOfTwo (u : World) : Type 0 where
      list : List World
      steps : gates.Steps m o (gates.new_world m o) list
      last : gates.last_world (gates.new_world m o) list ≡ u

    one-more : (u t : World) → IsOfTwo u → gates.Step m o u t → IsOfTwo t
    one-more u t h s = record {
      list = h.list ++ t ∷ [];
      steps = steps-on m o (gates.new_world m o) t h.list h.steps (subst (λ (x : World). gates.Step m o x t) (sym h.last) s);
      last = last-on (gates.new_world m o) t h.list;
    }

    did-two : (v : GateWorld) → Reaches make points is_joined v → IsOfTwo (two_of v near far) → (p : ℕ) (what : Doing) → MayDo v p what → IsOfTwo (two_of (after p what v) near far)
    did-two v r h p what may = by (nat_eq near p) (nat_eq far p) refl refl
      where
        by : (b c : Bool) → nat_eq near p ≡ b → nat_eq far p ≡ c
            → IsOfTwo (record { near = one_of_two (if b then did what (v.node near) else v.node near); far = one_of_two (if c then did what (v.node far) else v.node far) })
        by true true e f = absurd (apart (same-number near p e ∙ sym (same-number far p f)))
        by true false e f =
            one-more (two_of v near far) (record (two_of v near far) { near = one_of_two (did what (v.node near)) }) h
            (gates.at_near (doing_as what) (may-as v r near far a what (subst (λ (x : ℕ). MayDo v x what) (sym (same-number near p e)) may))
            (ap (λ (n : gates.Node). record (two_of v near far) { near = n }) (sym (did-as what (v.node near)))))
        by false true e f =
            one-more (two_of v near far) (record (two_of v near far) { far = one_of_two (did what (v.node far)) }) h
            (gates.at_far (doing_as what)
            (may-as v r far near (joined-back m.configuration o.configuration a) what (subst (λ (x : ℕ). MayDo v x what) (sym (same-number far p f)) may))
            (ap (λ (n : gates.Node). record (two_of v near far) { far = n }) (sym (did-as what (v.node far)))))
        by false false e f = h

    all-two : (list : List GateWorld) (v : GateWorld) → Steps v list → Reaches make points is_joined v → IsOfTwo (two_of v near far) → IsOfTwo (two_of (last_world v list) near far)
    all-two [] v steps r h = h
    all-two (u ∷ list) v steps r h =
        all-two list u steps.1
        (subst (Reaches make points is_joined) (sym steps.0.is) (did-goes make points is_joined v r steps.0.point steps.0.what steps.0.may))
        (subst (λ (x : GateWorld). IsOfTwo (two_of x near far)) (sym steps.0.is) (did-two v r h steps.0.point steps.0.what steps.0.may))

pub alone : nodes_alone_are_special
alone make points is_joined list steps near far a =
    let h : IsOfTwo make points is_joined near far a (two_of (last_world (new_world make) list) near far) =
    all-two make points is_joined near far a list (new_world make) steps (first-reaches make points is_joined) (record { list = []; steps = tt; last = refl }) in
    subst (IsSpecial (make near) (make far)) h.last (is-special (make near) (make far) a h.list h.steps)
