-- A node at work, as a network of the machine of moves shows it.
use Rattle.node_moves.proofs.Basics.{◌≡◌, ◌≢◌, ℕ, Bool, true, false, not, ◌+◌, ◌-◌, ◌^◌, ◌≤◌, ◌<◌, List, [], ◌++◌, length, map, Some, count_by, min, ap, sym, subst, ◌∙◌}
use Rattle.node_moves.proofs.Machine.{user, Phase, Live, Moved, Gone, LinkEnd, Network, Shape, Place, line_at, point_at}
use Rattle.node_moves.proofs.Definitions.{Message, Configuration, IsWell, Node, WholeQueues, Parts, down, in_service, link_at, queue_at, changeover_of, entry_of, peer_of, set_of, Queue, emptied, Standing, Link, Alignment, Down, NotAligned, Aligned, Proving, AlignedReady, InService, is_down, is_in_service}
use Rattle.node_moves.proofs.Reading.{IsShape, place_of, places-apart, says_of}
use Rattle.exchange_rules.proofs.MadeManagement.{code-fits, adjacent-fits}
use Rattle.exchange_rules.proofs.NamedLinks.{link-named}
use Rattle.exchange_rules.proofs.Steps.{ways_of}
use Rattle.exchange_rules.specs.Messages.{link_with_code}
use Rattle.network_moves.specs.Networks as net
use Rattle.routes.specs.Routes.{first_routes}
use Rattle.routes.specs.declared.route.Route.{Route}

-- ---- a node at work

-- its books: all that it accepted, and all that it named as lost
pub record Books : Type 0 where
  pub accepted : List Message
  pub named : List Message

abbrev pub no_books : Books
no_books = record { accepted = []; named = [] }

-- with more that is accepted, or named
abbrev pub accepting : Books → List Message → Books
accepting k ms = record k { accepted = k.accepted ++ ms }

abbrev pub naming : Books → List Message → Books
naming k ms = record k { named = k.named ++ ms }

-- with the messages that came or were handed over and weren't looked at yet, and those that stand nowhere yet
pub record Mid : Type 0 where
  pub node : Node WholeQueues
  pub arrived : List Message
  pub loose : List Message
  pub books : Books

-- ---- an end of a link

-- the machine keeps the messages of a link also when its changeover is complete
abbrev pub shown_in : Phase → Queue → Queue
shown_in Live q = q
shown_in Moved q = emptied q
shown_in Gone q = emptied q

-- whether a link heard the other end since it opened
abbrev pub is_heard : Alignment → Bool
is_heard Down = false
is_heard NotAligned = false
is_heard Aligned = true
is_heard (Proving ready) = true
is_heard AlignedReady = true
is_heard InService = true

pub record IsShown (n : Node WholeQueues) (link : ℕ) (e : LinkEnd) : Type 0 where
  pub queue : queue_at n.queues link ≡ shown_in e.phase e.queue
  pub up : e.up ≡ not (down n.parts link)
  pub serving : e.serving ≡ in_service n.parts link
  pub incomplete : e.incomplete ≡ (changeover_of n.parts link).incomplete
  pub awaited : e.awaited ≡ (changeover_of n.parts link).awaited
  pub heard : is_heard (link_at n.parts link).alignment ≡ true → e.heard ≡ true

-- a link is in another node as in one
pub record IsAlike (n m : Node WholeQueues) (link : ℕ) : Type 0 where
  pub queue : queue_at m.queues link ≡ queue_at n.queues link
  pub alignment : (link_at m.parts link).alignment ≡ (link_at n.parts link).alignment
  pub standing : changeover_of m.parts link ≡ changeover_of n.parts link

pub shown-alike : (n m : Node WholeQueues) (link : ℕ) (e : LinkEnd) → IsAlike n m link → IsShown n link e → IsShown m link e
shown-alike n m link e a s = record {
  queue = a.queue ∙ s.queue;
  up = s.up ∙ ap (λ (x : Alignment). not (is_down x)) (sym a.alignment);
  serving = s.serving ∙ ap (λ (x : Alignment). is_in_service x) (sym a.alignment);
  incomplete = s.incomplete ∙ ap (λ (x : Standing). x.incomplete) (sym a.standing);
  awaited = s.awaited ∙ ap (λ (x : Standing). x.awaited) (sym a.standing);
  heard = λ h. s.heard (ap is_heard (sym a.alignment) ∙ h);
}

-- a link that is down has nothing to say: no status waits to go out, and no acknowledgement is owed
pub record IsSilent (l : Link) : Type 0 where
  pub waiting : is_down l.alignment ≡ true → l.waiting ≡ []
  pub owed : is_down l.alignment ≡ true → l.acknowledgement_owed ≡ false

-- the sets by which routes go, whatever their statuses, are those of the settings
abbrev pub HasWays : Configuration → Parts → Type 0
HasWays c p = ways_of p.routes ≡ ways_of (map first_routes c.destinations)

-- a node has its links, those that are down are silent, and its routes go by the sets of the settings
pub record IsSized (c : Configuration) (n : Node WholeQueues) : Type 0 where
  pub links : length n.parts.links ≡ length c.links
  pub queues : length n.queues.links ≡ length c.links
  pub changeovers : length n.parts.changeovers ≡ length c.links
  pub silent : (link : ℕ) → IsSilent (link_at n.parts link)
  pub ways : HasWays c n.parts

-- how often a node was broken, and by which sets its routes go
pub record Marks : Type 0 where
  pub broken : ℕ
  pub ways : List (List Route)

abbrev pub marks_of : Parts → Marks
marks_of p = record { broken = p.times_broken; ways = ways_of p.routes }

-- ---- the books of a node

abbrev pub users_that : (Message → Bool) → List Message → ℕ
users_that test ms = count_by (user says_of test) ms

abbrev pub any_message : Message → Bool
any_message m = true

-- the most that a node counts
abbrev pub most : ℕ
most = 2 ^ 64 - 1

pub record IsBooked (x : net.Node) (v : Mid) : Type 0 where
  pub bag : (test : Message → Bool) → count_by test x.bag ≡ count_by test v.node.queues.held + (count_by test v.arrived + count_by test v.loose)
  pub accepted : (test : Message → Bool) → users_that test x.accepted ≡ users_that test x.ended + (users_that test v.books.accepted + users_that test v.arrived)
  pub named : min (users_that any_message x.named) most ≤ v.node.parts.messages_lost
  pub within : (test : Message → Bool) → users_that test x.named ≤ users_that test v.books.named

-- ---- all of it

abbrev pub place : Configuration → (link : ℕ) → Place
place c link = place_of c.own (peer_of c link) (entry_of c link).slc

pub record Shows (c : Configuration) (p : Network) (v : Mid) : Type 0 where
  pub sized : IsSized c v.node
  pub ends : (link : ℕ) → link < length c.links → IsShown v.node link (line_at p (place c link)).near
  pub booked : IsBooked (p.node c.own) v

-- ---- places

module _ (shape : Shape) (o : IsShape shape) (c : Configuration) (well : IsWell c) (link : ℕ) where
  pub link-inside : (place c link).link < shape.links
  link-inside = o.links c.own (peer_of c link) (entry_of c link).slc well.own (adjacent-fits c well (set_of c link)) (code-fits c well link)

  pub at-own : point_at shape (place c link) ≡ c.own
  at-own = o.points c.own (peer_of c link) (entry_of c link).slc well.own (adjacent-fits c well (set_of c link)) (code-fits c well link)

  pub own-inside : point_at shape (place c link) < shape.nodes
  own-inside = subst (λ (k : ℕ). k < shape.nodes) (sym at-own) (o.nodes c.own well.own)

pub links-apart : (c : Configuration) → IsWell c → (link other : ℕ) → link < length c.links → other < length c.links → other ≢ link → (place c other).link ≢ (place c link).link
links-apart c well link other l k d e =
    let same : (peer_of c other ≡ peer_of c link) × ((entry_of c other).slc ≡ (entry_of c link).slc) =
    places-apart c.own (peer_of c other) (peer_of c link) (entry_of c other).slc (entry_of c link).slc well.own (adjacent-fits c well (set_of c other)) (adjacent-fits c well (set_of c link))
    (code-fits c well other) (code-fits c well link) e in
    let named : Some other ≡ Some link =
    sym (link-named c well other k) ∙ ap (λ (point : ℕ). link_with_code c point (entry_of c other).slc) same.0 ∙ ap (link_with_code c (peer_of c link)) same.1 ∙ link-named c well link l in
    d (let it : other ≡ link = cc in it)
