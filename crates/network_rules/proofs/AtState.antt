-- What holds of the queues of a network in a state that it comes to, where nothing was lost.
use Rattle.pair_rules.proofs.Basics.{◌≡◌, ◌⊎◌, inl, inr, ◌<◌, ◌≤◌, ◌||◌, ℕ, Bool, true, false, not, List, [], length, nat_eq, Option, Some, None, refl, ap, sym, subst, ◌∙◌, slice_get, option_to_list, ⊎_elim}
use Rattle.pair_rules.proofs.Definitions.{Message, Configuration, LinkEntry, Queue, named_count, queue_at, in_flight, may_follow, may_open_at, turned, new_message, opc_of, link_with_code}
use Rattle.std.specs.List.{list_any}
use Rattle.exchange_rules.specs.First.{Abstract}
use Rattle.exchange_rules.specs.Routing.{adjacent_of}
use Rattle.exchange_rules.proofs.Basics.{eqb-true}
use Rattle.exchange_rules.proofs.CarriedMessages.{new-carried}
use Rattle.pair_rules.specs.Laws.{about}
use Rattle.neighbour_rules.specs.Neighbours.{end_there, is_management_between, leads_elsewhere_by, speaks_for_either}
use Rattle.neighbour_rules.specs.Laws.{IsUnderWay}
use Rattle.network_rules.specs.Networks.{NetworkState, Step, end_of}
use Rattle.network_rules.specs.Pairs.{AreWellOrAlone, HearsNothingElsewhere, pair_of}
use Rattle.network_rules.specs.Totals.{IsJoined, is_listed, received_there}
use Rattle.network_rules.proofs.Anew.{has-laws, quiet-between}
use Rattle.network_rules.proofs.Facts as facts
use Rattle.network_rules.proofs.Facts.{HasLaws, first-missing, followed-empty, in-between, may-empty, not-elsewhere, status-none, word-came, word-names}
use Rattle.network_rules.proofs.Joined.{HasOther, end_at, has-other, linked-listed, other-inside, well-or-alone}
use Rattle.network_rules.proofs.Known.{speaks, word-between, word-link, word-said}
use Rattle.network_rules.proofs.Letting.{unsent}
use Rattle.network_rules.proofs.Parting.{SaysWord}
use Rattle.network_rules.proofs.Places.{named-inside, named-leads}
use Rattle.network_rules.proofs.Reached.{Begins, IsSteadyNode, Kept, begun, reached, settings-kept, steady-node}

not-false : (b : Bool) → not b ≡ false → b ≡ true
not-false true e = refl
not-false false e = absurd cc

module _ (settings : (point : ℕ) → Configuration) (points : List ℕ) (h : IsJoined settings points) (start : Begins settings points) (done : List Step) (kept : Kept settings points h start (reached settings points h start done)) where
  abbrev w : NetworkState
  w = reached settings points h start done

  abbrev pub exchange_of : (point : ℕ) → Abstract
  exchange_of point = (w.node point).exchange

  -- how many the other end of a link received
  abbrev pub there_of : (point link : ℕ) → ℕ
  there_of point link = received_there w (end_at settings point link)

  well : AreWellOrAlone settings
  well = well-or-alone settings points h

  module _ (x link : ℕ) (less : link < length (settings x).links) where
    abbrev o : HasOther settings points h x link
    o = has-other settings points h x link less

    abbrev y : ℕ
    y = o.other.point

    listed : is_listed points x ≡ true
    listed = linked-listed settings points h x link less

    other-listed : is_listed points y ≡ true
    other-listed = linked-listed settings points h y o.other.link (other-inside settings points h x link o)

    -- the laws of links hold between the two
    pub laws : HasLaws (pair_of w x y)
    laws =
        has-laws settings start.changes x y h.placed.own well o.sharing
        (quiet-between points (begun settings points h start) x y start.quiet listed other-listed) done (record { near = kept x listed; far = kept y other-listed })

    abbrev EndIs : (link other : ℕ) → Type 0
    EndIs link other = end_there (exchange_of x).settings (exchange_of y).settings (slice_get (exchange_of x).settings.links link) ≡ Some other

    ends-so : (link other : ℕ) → end_there (settings x) (settings y) (slice_get (settings x).links link) ≡ Some other → EndIs link other
    ends-so link other e =
        subst (λ (c : Configuration). end_there c (exchange_of y).settings (slice_get c.links link) ≡ Some other) (sym (settings-kept settings points h start done x))
        (subst (λ (z : Configuration). end_there (settings x) z (slice_get (settings x).links link) ≡ Some other) (sym (settings-kept settings points h start done y)) e)

    end-is : EndIs link o.other.link
    end-is = ends-so link o.other.link o.there

    abbrev queue : Queue
    queue = queue_at (exchange_of x).node.queues link

    steady : IsSteadyNode (exchange_of x)
    steady = steady-node settings points h start done x listed

    there-is : (queue_at (exchange_of y).node.queues o.other.link).received ≡ there_of x link
    there-is = sym (ap (received_there w) o.is)

    pub between-at : ((queue.confirmed ≤ there_of x link) × (there_of x link ≤ queue.sent)) ⊎ (queue.all ≡ [])
    between-at =
        subst (λ (n : ℕ). ((queue.confirmed ≤ n) × (n ≤ queue.sent)) ⊎ (queue.all ≡ [])) there-is
        (in-between (pair_of w x y) laws link o.other.link end-is (exchange_of x).settings.window steady.steady)

    -- the message that comes next is the first that wasn't received
    pub missing-at : (text : List ℕ) (m : Message) → slice_get (in_flight (w.node x).incoming.user_data link) 0 ≡ Some text → new_message link text (exchange_of x) ≡ Some m
        → slice_get (queue_at (exchange_of y).node.queues o.other.link).all (queue_at (exchange_of x).node.queues link).received ≡ Some m
    missing-at text m e n = first-missing (pair_of w x y) laws link o.other.link end-is text m e n

    -- and no link status brings one
    pub no-status : (text : List ℕ) (m : Message) → slice_get (in_flight (w.node x).incoming.statuses link) 0 ≡ Some text → new_message link text (exchange_of x) ≡ Some m → ⊥
    no-status text m e n = status-none (pair_of w x y) laws link o.other.link end-is text m e (new-carried link text (exchange_of x) m n)

    -- where a link opens, nothing stands at its other end
    pub follows-empty : may_follow (end_of (w.node x)) link ≡ true → (queue_at (exchange_of y).node.queues o.other.link).all ≡ []
    follows-empty follows = followed-empty (pair_of w x y) laws link o.other.link end-is follows

    pub may-open-empty : may_open_at (end_of (w.node y)) o.other.link ≡ true → (queue_at (exchange_of y).node.queues o.other.link).all ≡ []
    may-open-empty may = may-empty (exchange_of y).settings.window (exchange_of y) o.other.link (steady-node settings points h start done y other-listed).steady may

  -- ---- a word that comes

  own-is : (point : ℕ) → (exchange_of point).settings.own ≡ point
  own-is point = ap (λ (c : Configuration). c.own) (settings-kept settings points h start done point) ∙ h.placed.own point

  kept-inside : (x link : ℕ) → link < length (exchange_of x).settings.links → link < length (settings x).links
  kept-inside x link less = subst (λ (c : Configuration). link < length c.links) (settings-kept settings points h start done x) less

  module _ (x link : ℕ) (less : link < length (settings x).links) (text : List ℕ) (next : slice_get (in_flight (w.node x).incoming.user_data link) 0 ≡ Some text) where
    abbrev c : Configuration
    c = (exchange_of x).settings

    module _ (its number : ℕ) (said : SaysWord c (new_message link text (exchange_of x)) its number) (inside : its < length (settings x).links) where
      abbrev z : ℕ
      z = y x its inside

      abbrev far : Configuration
      far = (exchange_of z).settings

      m : Message
      m = said.message

      code : (slc : ℕ) × (link_with_code c (opc_of said.message) slc ≡ Some its)
      code = word-link c (opc_of said.message) its number _ said.word

      -- it is of the node at the other end of its link
      from-far : nat_eq (opc_of said.message) far.own ≡ true
      from-far =
          not-false (nat_eq (opc_of said.message) far.own)
          (sym (named-leads c far (opc_of said.message) code.0 its code.1) ∙ not-elsewhere c far (slice_get c.links its) (o x its inside).other.link (end-is x its inside))

      between : is_management_between far.own c.own said.message ≡ true
      between = word-between c said.message said.label far.own said.here said.heard from-far

      speaks-so : speaks_for_either (pair_of w x z) text ≡ true
      speaks-so =
          ap (λ (ms : Option Message). list_any (λ k. is_management_between c.own far.own k || is_management_between far.own c.own k) (option_to_list ms))
          (new-carried link text (exchange_of x) said.message said.is)
          ∙ ap (λ (b : Bool). b || false) (speaks far.own c.own said.message between)

      -- so the frame came from that node
      not-away : (b : Bool) → leads_elsewhere_by c far (slice_get c.links link) ≡ b → leads_elsewhere_by c far (slice_get c.links link) ≡ false
      not-away false e = e
      not-away true e =
          (let quiet : HearsNothingElsewhere (pair_of w x z) = (laws x its inside).silent.there in
          let no : true ≡ false = sym speaks-so ∙ quiet.user_data link text e next in
          absurd cc)

      same-own : (near : Configuration) (entry : Option LinkEntry) → end_there c near entry ≡ Some (o x link less).other.link → leads_elsewhere_by c far entry ≡ false → near.own ≡ far.own
      same-own near None e f = absurd cc
      same-own near (Some l) e f =
          sym (eqb-true (adjacent_of c l.set) near.own (not-false (nat_eq (adjacent_of c l.set) near.own) (not-elsewhere c near (Some l) (o x link less).other.link e)))
          ∙ eqb-true (adjacent_of c l.set) far.own (not-false (nat_eq (adjacent_of c l.set) far.own) f)

      same-far : y x link less ≡ z
      same-far =
          sym (own-is (y x link less))
          ∙ same-own (exchange_of (y x link less)).settings (slice_get c.links link) (end-is x link less) (not-away (leads_elsewhere_by c far (slice_get c.links link)) refl)
          ∙ own-is z

      end-there-too : end_there c far (slice_get c.links link) ≡ Some (o x link less).other.link
      end-there-too = subst (λ (k : ℕ). end_there c (exchange_of k).settings (slice_get c.links link) ≡ Some (o x link less).other.link) same-far (end-is x link less)

      under : IsUnderWay (turned (facts.q (pair_of w x z) (laws x its inside))) (about number its)
      under =
          word-came (pair_of w x z) (laws x its inside) link (o x link less).other.link end-there-too text said.message (about number its) next said.is
          (word-said c said.message far.own its number between said.word)

      names-its : (named_count (queue_at (exchange_of x).node.queues its) number ≡ Some (there_of x its)) ⊎ ((queue_at (exchange_of x).node.queues its).sent ≡ 0)
      names-its =
          ⊎_elim
          (λ (e : named_count (queue_at (exchange_of x).node.queues its) number ≡ Some (queue_at (exchange_of z).node.queues (o x its inside).other.link).received).
          inl (e ∙ ap (λ (k : ℕ). Some k) (there-is x its inside)))
          (λ (none : (queue_at (exchange_of x).node.queues its).all ≡ []). inr (unsent (queue_at (exchange_of x).node.queues its) (((steady x its inside).steady).each its).queue none))
          (word-names (pair_of w x z) (laws x its inside) its (o x its inside).other.link (end-is x its inside) c.window (steady x its inside).steady
          (about number its) under refl)

    pub names-at : (its number : ℕ) → SaysWord c (new_message link text (exchange_of x)) its number
        → (named_count (queue_at (exchange_of x).node.queues its) number ≡ Some (there_of x its)) ⊎ ((queue_at (exchange_of x).node.queues its).sent ≡ 0)
    names-at its number said =
        let code : (slc : ℕ) × (link_with_code c (opc_of said.message) slc ≡ Some its) = word-link c (opc_of said.message) its number _ said.word in
        names-its its number said (kept-inside x its (named-inside c c (opc_of said.message) code.0 its code.1))
