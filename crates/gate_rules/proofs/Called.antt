-- What a call of a gate leaves of its end of a link, and of what was put out there.
use Rattle.std.proofs.Common.{◌≡◌, ◌⊎◌, inl, inr, ◌≤◌, ◌+◌, ℕ, Bool, true, false, List, Some, None, map, nat_eq, refl, ap, sym, ◌∙◌, subst, arith}
use Rattle.std.specs.Prelude.{if◌then◌else◌}
use Rattle.sctp_codec.specs.Packets.{PacketValue}
use Rattle.sctp_rules.specs.Settings.{Settings, Secrets, Address}
use Rattle.sctp_rules.specs.State as rules
use Rattle.sctp_rules.specs.State.{silent}
use Rattle.sctp_rules.specs.Packets.{heard}
use Rattle.sctp_rules.specs.Timers.{ticked}
use Rattle.sctp_rules.specs.Endpoint.{Came, Ticked, after}
use Rattle.sctp_moves.proofs.Members.{In, in-from, contains-from, in-unmap}
use Rattle.sctp_ends.specs.Worlds as ends
use Rattle.sctp_ends.specs.Worlds.{Emitted, emitted, messages_at}
use Rattle.exchange_rules.specs.First.{Abstract}
use Rattle.exchange_rules.specs.Queues.{WholeQueues, whole}
use Rattle.sctp_gate.specs.Gates.{Gate, Did}
use Rattle.sctp_gate.specs.Calling.{Call, Hears, Ticks, Settles, Fills, Closes, called}
use Rattle.node_rules.specs.Worlds as nodes
use Rattle.node_rules.specs.Worlds.{Make}
use Rattle.gate_rules.specs.Calls.{Keeping, Shows, seen_all, messages_in, does_flush}
use Rattle.gate_rules.specs.Calls as calls
use Rattle.gate_rules.specs.Worlds.{Port, port_after}
use Rattle.gate_rules.specs.Worlds as gates
use Rattle.gate_rules.proofs.LinkEnds.{Act, Lasts, LinkEnd, MayActAll, acted_all, same-number}
use Rattle.gate_rules.proofs.Seen.{in-either}
use Rattle.gate_rules.proofs.Calling.{AreCalled, IsMark, quiet-called, plain-done, looks, between-done, settled-done, aborted-done, idle-done}
use Rattle.gate_rules.proofs.Filling.{fill-done}

-- ---- what a gate put out, beside what its endpoint did

-- a packet of the gate is one of the endpoint, and since it was made no more messages passed that than passed the gate
pub record IsThere (s : ends.Site) (p : Port) (x : Emitted) : Type 0 where
  pub one : Emitted
  pub there : In one s.packets
  pub same : one.packet ≡ x.packet
  pub young : messages_at s + x.made ≤ one.made + p.messages

pub record Ages (s : ends.Site) (p : Port) : Type 0 where
  pub packets : (x : Emitted) → In x p.packets → IsThere s p x
  pub marked : messages_at s + p.mark ≤ s.mark + p.messages

arrives : (s : ends.Site) (p : Port) (packet : PacketValue) → Ages s p → gates.Arrives p packet → ends.Arrives s packet
arrives s p packet a h =
    let t : IsThere s p h.one = a.packets h.one (in-from p.packets h.one h.there) in
    record {
      one = t.one;
      there = contains-from s.packets t.one t.there;
      is = t.same ∙ h.is;
      young = (let x = t.young in let y = h.young in omega (arith, x, y));
    }

may-call : (s : ends.Site) (p : Port) (call : Call) → Ages s p → gates.MayCall p call → calls.MayCall s call
may-call s p (Hears now None source) a may = tt
may-call s p (Hears now (Some packet) source) a may = arrives s p packet a may
may-call s p (Ticks now) a may = tt
may-call s p (Settles now) a may = tt
may-call s p (Fills now) a may = tt
may-call s p (Closes now) a may = tt

pub new-ages : (c : gates.GateMake) (k : ℕ) (s : Settings) → Ages (ends.new_site s) (gates.new_port k c)
new-ages c k s = record { packets = λ x i. absurd i; marked = omega arith }

-- the port of a link with a gate, beside the one of its endpoint
pub record Beside (m : Make) (k : ℕ) (port : nodes.Port) (p : Port) : Type 0 where
  pub shows : Shows m k port p.gate
  pub ages : Ages port.site p

-- one port is another, and the rest stay
pub each-beside : (m : Make) (k : ℕ) (port : nodes.Port) (p : Port) (ports : ℕ → nodes.Port) (gates : ℕ → Port) → Beside m k port p → ((j : ℕ) → Beside m j (ports j) (gates j))
    → (j : ℕ) → Beside m j (if nat_eq j k then port else ports j) (if nat_eq j k then p else gates j)
each-beside m k port p ports gates h f j = by (nat_eq j k) refl where
  by : (b : Bool) → nat_eq j k ≡ b → Beside m j (if b then port else ports j) (if b then p else gates j)
  by true e = subst (λ (i : ℕ). Beside m i port p) (sym (same-number j k e)) h
  by false e = f j

-- what a call sees says what is kept, and the exchange is the one that the call leaves
pub books-so : {B : Type 0} (keeping : Keeping B) (x y : B) (a : Abstract) → ((z : B) → keeping.with_exchange (keeping.exchange z) z ≡ z) → x ≡ y → keeping.exchange x ≡ a
    → x ≡ keeping.with_exchange a y
books-so keeping x y a same e h = sym (same x) ∙ ap (λ (v : Abstract). keeping.with_exchange v x) h ∙ ap (keeping.with_exchange a) e

-- ---- each call

module _ {B : Type 0} (keeping : Keeping B) (m : Make) (k : ℕ) (there : ends.Site) (Holds : LinkEnd B → Type 0) (lasts : Lasts keeping m k there Holds) where
  heard-is : (now : ℕ) (source : Address) (packet : PacketValue) (c : Settings) (r : Secrets) (t : rules.State) → heard c r now source packet t ≡ after c r (Came now source packet) t
  unfolding after
  heard-is now source packet c r t = refl

  ticked-is : (now : ℕ) (c : Settings) (r : Secrets) (t : rules.State) → ticked c r now t ≡ after c r (Ticked now) t
  unfolding after
  ticked-is now c r t = refl

  pub called-done : (n : LinkEnd B) (g : Gate) (call : Call) → Shows m k n.port g → Holds n → calls.MayCall there call
      → AreCalled keeping m k there Holds lasts n (called whole call g (keeping.exchange n.books)) (does_flush call g)
  called-done n g (Hears now None source) h z may =
      quiet-called keeping m k there Holds lasts n _
      (between-done keeping m k there Holds lasts n g (keeping.exchange n.books) now (λ c r t. silent t) h z refl
      (λ l j t shows holds e agrees. idle-done keeping m k there Holds lasts l j t shows holds e))
  called-done n g (Hears now (Some packet) source) h z may =
      quiet-called keeping m k there Holds lasts n _
      (between-done keeping m k there Holds lasts n g (keeping.exchange n.books) now (λ c r t. heard c r now source packet t) h z refl
      (λ l j t shows holds e agrees.
      plain-done keeping m k there Holds lasts l j shows holds (Came now source packet) (record { same = λ w. refl; left = λ o w. refl; quiet = refl }) now
      (λ c r x. heard c r now source packet x) (heard-is now source packet)
      (may, looks keeping m k there Holds lasts l j shows holds (Came now source packet) (record { same = λ w. refl; left = λ o w. refl; quiet = refl }) t e agrees) t e))
  called-done n g (Ticks now) h z may =
      quiet-called keeping m k there Holds lasts n _
      (between-done keeping m k there Holds lasts n g (keeping.exchange n.books) now (λ c r t. ticked c r now t) h z refl
      (λ l j t shows holds e agrees.
      plain-done keeping m k there Holds lasts l j shows holds (Ticked now) (record { same = λ w. refl; left = λ o w. refl; quiet = refl }) now (λ c r x. ticked c r now x)
      (ticked-is now) (looks keeping m k there Holds lasts l j shows holds (Ticked now) (record { same = λ w. refl; left = λ o w. refl; quiet = refl }) t e agrees) t e))
  called-done n g (Settles now) h z may = quiet-called keeping m k there Holds lasts n _ (settled-done keeping m k there Holds lasts n g h z now (keeping.exchange n.books) refl)
  called-done n g (Fills now) h z may = fill-done keeping m k there Holds lasts now n g (keeping.exchange n.books) h z refl
  called-done n g (Closes now) h z may = quiet-called keeping m k there Holds lasts n _ (aborted-done keeping m k there Holds lasts n g h z now (keeping.exchange n.books) refl)

  -- ---- after a call

  module _ (n : LinkEnd B) (p : Port) (ages : Ages n.port.site p) (call : Call) (d : Did WholeQueues) where
    abbrev q : Port
    q = port_after call d p

    module _ (f : AreCalled keeping m k there Holds lasts n d (does_flush call p.gate)) where
      abbrev l : LinkEnd B
      l = acted_all keeping m k f.steps n

      abbrev s : ends.Site
      s = n.port.site

      abbrev t : ends.Site
      t = l.port.site

      older : (x one : Emitted) → messages_at s + x.made ≤ one.made + p.messages → messages_at t + x.made ≤ one.made + q.messages
      older x one young = (let a = f.leaves.grown in omega (arith, a, young))

      put-out : (x : Emitted) → In x (map (emitted p.mark) d.sent) ⊎ In x p.packets → IsThere t q x
      put-out x (inl i) =
          let y = in-unmap (emitted p.mark) d.sent x i in
          let one : Emitted = emitted s.mark y.0 in
          subst (IsThere t q) y.2
          (record {
            one = one;
            there = f.leaves.sent y.0 y.1;
            same = refl;
            young = older (emitted p.mark y.0) one ages.marked;
          })
      put-out x (inr i) =
          let a : IsThere s p x = ages.packets x i in
          record { one = a.one; there = f.leaves.kept a.one a.there; same = a.same; young = older x a.one a.young }

      marked-by : (flushes : Bool) → IsMark keeping m k there Holds lasts flushes n l f.mark
          → messages_at t + (if flushes then p.messages + messages_in d.seen else p.mark) ≤ f.mark + (p.messages + messages_in d.seen)
      marked-by true is = omega (arith, is)
      marked-by false is =
          (let a = f.leaves.grown in
          let c = ages.marked in
          omega (arith, is, a, c))

      ages-after : Ages t q
      ages-after = record {
        packets = λ x i. put-out x (in-either x (map (emitted p.mark) d.sent) p.packets i);
        marked = subst (λ (mark : ℕ). messages_at t + q.mark ≤ mark + q.messages) (sym f.leaves.mark_is) (marked-by (does_flush call p.gate) f.is_mark);
      }

  -- the acts that a call is, and what they leave beside the gate
  pub record Goes (n : LinkEnd B) (b : B) (call : Call) (d : Did WholeQueues) (p : Port) : Type 0 where
    pub acts : List Act
    pub may : MayActAll keeping m k there acts n
    pub books : (acted_all keeping m k acts n).books ≡ seen_all keeping k d.seen b
    pub exchange : keeping.exchange (acted_all keeping m k acts n).books ≡ d.exchange
    pub port : Beside m k (acted_all keeping m k acts n).port (port_after call d p)

  pub call-goes : (n : LinkEnd B) (b : B) (p o : Port) (call : Call) → n.books ≡ b → Beside m k n.port p → Holds n → Ages there o → gates.MayCall o call
      → Goes n b call (called whole call p.gate (keeping.exchange b)) p
  call-goes n b p o call same beside z a may =
      let f : AreCalled keeping m k there Holds lasts n (called whole call p.gate (keeping.exchange n.books)) (does_flush call p.gate) =
      called-done n p.gate call beside.shows z (may-call there o call a may) in
      let d : Did WholeQueues = called whole call p.gate (keeping.exchange b) in
      let h : AreCalled keeping m k there Holds lasts n d (does_flush call p.gate) =
      subst (λ (x : B). AreCalled keeping m k there Holds lasts n (called whole call p.gate (keeping.exchange x)) (does_flush call p.gate)) same f in
      record {
        acts = h.steps;
        may = h.may;
        books = h.leaves.books ∙ ap (seen_all keeping k d.seen) same;
        exchange = h.leaves.exchange;
        port = record { shows = h.leaves.shows; ages = ages-after n p beside.ages call d h };
      }
