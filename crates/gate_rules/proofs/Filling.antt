-- Frames that a fill takes are given to the endpoint of the link if it takes them; then what is due goes out.
use Rattle.std.proofs.Common.{◌≡◌, ◌≤◌, ◌+◌, ℕ, zero, suc, Bool, true, false, ◌&&◌, List, [], ◌∷◌, ◌++◌, Option, Some, None, length, map, refl, ap, sym, ◌∙◌, subst, arith, append-nil}
use Rattle.std.specs.Prelude.{if◌then◌else◌}
use Rattle.std.specs.Option.{option_map}
use Rattle.m2pa_codec.specs.Frames.{FrameValue, spelled}
use Rattle.sctp_sending.specs.Outgoing.{Message}
use Rattle.sctp_rules.specs.Settings.{Settings, Secrets}
use Rattle.sctp_rules.specs.State as rules
use Rattle.sctp_sending.specs.Sending as half
use Rattle.sctp_rules.specs.State.{Told, Association, Done, silent, with_association}
use Rattle.sctp_rules.specs.Sending.{may_send, send, flush, has_room}
use Rattle.sctp_rules.specs.Waiting.{has_room_behind}
use Rattle.sctp_rules.specs.Endpoint.{Sends, Flushes, after}
use Rattle.sctp_rules.specs.Wishing.{Wish, wish_after}
use Rattle.sctp_ends.specs.Told.{text_given, told_by}
use Rattle.sctp_ends.specs.Worlds as ends
use Rattle.sctp_ends.specs.Worlds.{emitted, count, messages_at}
use Rattle.sctp_endpoint.specs.Endpoints.{Endpoint}
use Rattle.exchange_rules.specs.Exchange.{frame_to_take, taken}
use Rattle.exchange_rules.specs.First.{Abstract}
use Rattle.exchange_rules.specs.Queues.{WholeQueues, whole}
use Rattle.sctp_gate.specs.Gates.{Gate, Did, nothing, followed_by, with_state, is_lasting, handed, flushed, message_of, text_to_take, with_given, given, taken_by, taken_all, taken_if, filled}
use Rattle.sctp_gate.proofs.Untaken.{none-taken}
use Rattle.sctp_gate.proofs.GoingOut.{may-give}
use Rattle.node_rules.specs.Worlds.{Make, Port, associated, wished}
use Rattle.node_rules.specs.Promises.{IsShort}
use Rattle.gate_rules.specs.Calls.{Keeping, is_served, is_seeking, Shows, messages_in}
use Rattle.gate_rules.proofs.LinkEnds as acts
use Rattle.gate_rules.proofs.LinkEnds.{Lasts, LinkEnd, MayAct, acted, acted_all, as_node, gave, sent}
use Rattle.gate_rules.proofs.Seen.{in-behind, given-grows}
use Rattle.gate_rules.proofs.Calling.{Leaves, AreDone, AreQuiet, IsMark, AreCalled, acts-append, may-append, leaves-both, idle-done, then-quiet, plain-done}

-- ---- a rule

sends-is : (c : Settings) (r : Secrets) (m : Message) (t : rules.State) → after c r (Sends m) t ≡ silent (send m t)
unfolding after
sends-is c r m t = refl

flush-is : (now : ℕ) (c : Settings) (r : Secrets) (t : rules.State) → flush c now t ≡ after c r (Flushes now) t
unfolding after
flush-is now c r t = refl

some-is : {A : Type 0} (x y : A) → Some x ≡ Some y → x ≡ y
some-is x y e = cc

-- a text is that of a frame
pub record IsTextOf (frame : Option FrameValue) (text : List ℕ) : Type 0 where
  pub value : FrameValue
  pub is : frame ≡ Some value
  pub spelled_so : spelled value ≡ text

text-of : (frame : Option FrameValue) (text : List ℕ) → option_map spelled frame ≡ Some text → IsTextOf frame text
text-of (Some value) text e = record { value = value; is = refl; spelled_so = some-is (spelled value) text e }
text-of None text e = absurd cc

-- ---- whether the endpoint lasts

-- a message that is given changes nothing about it
same-counts : (now : ℕ) (e : Endpoint) (b : Bool) (a : Association) → is_lasting now (with_state e (if b then with_association e.state a else e.state)) ≡ is_lasting now e
same-counts now e true a = refl
same-counts now e false a = refl

given-lasts : (now : ℕ) (frame : List ℕ) (g : Gate) → is_lasting now (with_given frame g).endpoint ≡ is_lasting now g.endpoint
given-lasts now frame g =
    same-counts now g.endpoint (may_send (message_of frame) g.endpoint.state)
    (record g.endpoint.state.association { sender = half.given g.endpoint.state.association.sender (message_of frame) })

if-lasts : (now : ℕ) (b : Bool) (d e : Did WholeQueues) (l : Bool) → is_lasting now d.gate.endpoint ≡ l → is_lasting now e.gate.endpoint ≡ l
    → is_lasting now (if b then d else e).gate.endpoint ≡ l
if-lasts now true d e l f g = f
if-lasts now false d e l f g = g

taken_by-lasts : (now : ℕ) (rest : List ℕ → Gate → Abstract → Did WholeQueues) (text : Option (List ℕ)) (g : Gate) (s : Abstract)
    → ((frame : List ℕ) (h : Gate) (t : Abstract) → is_lasting now (rest frame h t).gate.endpoint ≡ is_lasting now h.endpoint)
    → is_lasting now (taken_by whole rest text g s).gate.endpoint ≡ is_lasting now g.endpoint
taken_by-lasts now rest None g s f = refl
taken_by-lasts now rest (Some frame) g s f = f frame (with_given frame g) (taken whole s g.link) ∙ given-lasts now frame g

all-lasts : (now most octets : ℕ) (g : Gate) (s : Abstract) → is_lasting now (taken_all whole most octets g s).gate.endpoint ≡ is_lasting now g.endpoint
unfolding taken_all
all-lasts now zero octets g s = refl
all-lasts now (suc most) octets g s =
    if-lasts now (has_room_behind g.endpoint.state octets) _ _ (is_lasting now g.endpoint)
    (taken_by-lasts now (λ frame h t. taken_all whole most (octets + length frame) h t) (text_to_take whole s g.link) g s (λ frame h t. all-lasts now most (octets + length frame) h t)) refl

taken-lasts : (now : ℕ) (g : Gate) (s : Abstract) → is_lasting now (taken_if whole now g s).gate.endpoint ≡ is_lasting now g.endpoint
taken-lasts now g s =
    if-lasts now (is_lasting now g.endpoint && has_room g.endpoint.state) _ _ (is_lasting now g.endpoint) (all-lasts now _ 0 g s) refl

module _ {B : Type 0} (keeping : Keeping B) (m : Make) (k : ℕ) (there : ends.Site) (Holds : LinkEnd B → Type 0) (lasts : Lasts keeping m k there Holds) where
  -- ---- one frame

  module _ (n : LinkEnd B) (g : Gate) (h : Shows m k n.port g) (z : Holds n) (frame : FrameValue) (next : frame_to_take whole (keeping.exchange n.books) k ≡ Some frame)
      (may : may_send (message_of (spelled frame)) n.port.site.state ≡ true) where
    abbrev site : ends.Site
    site = n.port.site

    abbrev text : Message
    text = message_of (spelled frame)

    abbrev d : Done
    d = after (m.endpoints k).settings (m.endpoints k).secrets (Sends text) site.state

    d-is : d ≡ silent (send text site.state)
    d-is = sends-is (m.endpoints k).settings (m.endpoints k).secrets text site.state

    abbrev port : Port
    port = associated m k (Sends text) (as_node keeping n)

    abbrev after-it : LinkEnd B
    after-it = gave keeping m k frame n

    acted-is : acted keeping m k acts.Sends n ≡ after-it
    acted-is = ap (λ (o : Option FrameValue). sent keeping m k o n) next

    may-act : MayAct keeping m k there acts.Sends n
    may-act = λ f q. subst (λ (v : FrameValue). may_send (message_of (spelled v)) site.state ≡ true) (some-is frame f (sym next ∙ q)) may

    wish-same : port.wish ≡ n.port.wish
    wish-same = ap (λ (x : Done). wished (wish_after x.told n.port.wish) n.port.wish) d-is

    given-one : messages_at (ends.with_done (Sends text) (silent (send text site.state)) site) ≤ messages_at site + 1
    given-one =
        let a = given-grows (text_given text) (may_send text site.state) site.given in
        let b : count (told_by [] (site.told ++ [])) ≡ count (told_by [] site.told) = ap (λ (ts : List Told). count (told_by [] ts)) (append-nil site.told) in
        omega (arith, a, b)

    give-leaves : (s : Abstract) → keeping.exchange n.books ≡ s → Leaves keeping m k there Holds lasts n after-it (given (spelled frame) g (taken whole s g.link)) site.mark
    give-leaves s e = record {
      shows = record {
        link_is = h.link_is;
        settings = h.settings;
        secrets = h.secrets;
        state = ap (λ (x : Done). x.left) d-is ∙ ap (send text) h.state;
        up = h.up ∙ ap (λ (v : Wish). is_served v) (sym wish-same);
        seeking = h.seeking ∙ ap (λ (v : Wish). is_seeking v) (sym wish-same);
      };
      holds = subst Holds acted-is (lasts.stays n acts.Sends z may-act);
      exchange = lasts.keeps.took k n.books ∙ ap (λ (x : Abstract). taken whole x k) e ∙ ap (taken whole s) (sym h.link_is);
      books = refl;
      sent = λ x i. absurd i;
      kept = λ x i. in-behind x (map (emitted site.mark) d.sent) site.packets i;
      grown = subst (λ (x : Done). messages_at (ends.with_done (Sends text) x site) ≤ messages_at site + 1) (sym d-is) given-one;
      mark_is = refl;
    }

    give-done : (s : Abstract) → keeping.exchange n.books ≡ s → AreQuiet keeping m k there Holds lasts n (given (spelled frame) g (taken whole s g.link))
    give-done s e = record {
      steps = acts.Sends ∷ [];
      may = (may-act, tt);
      leaves = subst (λ (l : LinkEnd B). Leaves keeping m k there Holds lasts n l (given (spelled frame) g (taken whole s g.link)) site.mark) (sym acted-is) (give-leaves s e);
    }

  -- ---- frames, one after another

  taken_by-done : (n : LinkEnd B) (g : Gate) (h : Shows m k n.port g) (z : Holds n) (octets : ℕ) (room : has_room_behind g.endpoint.state octets ≡ true) (s : Abstract) → keeping.exchange n.books ≡ s
      → (rest : List ℕ → Gate → Abstract → Did WholeQueues) (text : Option (List ℕ)) → text_to_take whole s g.link ≡ text
      → ((frame : List ℕ) (l : LinkEnd B) (j : Gate) (t : Abstract) → Shows m k l.port j → Holds l → keeping.exchange l.books ≡ t → AreQuiet keeping m k there Holds lasts l (rest frame j t))
      → AreQuiet keeping m k there Holds lasts n (taken_by whole rest text g s)
  taken_by-done n g h z octets room s e rest None is more =
      subst (λ (t : Abstract). AreQuiet keeping m k there Holds lasts n (nothing g t)) (sym (none-taken whole g.link s is)) (idle-done keeping m k there Holds lasts n g s h z e)
  taken_by-done n g h z octets room s e rest (Some text) is more =
      let t : IsTextOf (frame_to_take whole s g.link) text = text-of (frame_to_take whole s g.link) text is in
      let next : frame_to_take whole (keeping.exchange n.books) k ≡ Some t.value =
      ap (λ (x : Abstract). frame_to_take whole x k) e ∙ ap (frame_to_take whole s) (sym h.link_is) ∙ t.is in
      let short : IsShort t.value = lasts.short n z t.value next in
      let may : may_send (message_of (spelled t.value)) n.port.site.state ≡ true =
      ap (may_send (message_of (spelled t.value))) h.state ∙ may-give (spelled t.value) octets g room short.some short.fits in
      subst (λ (x : List ℕ). AreQuiet keeping m k there Holds lasts n (followed_by (given x g (taken whole s g.link)) (rest x))) t.spelled_so
      (then-quiet keeping m k there Holds lasts n (given (spelled t.value) g (taken whole s g.link)) (rest (spelled t.value)) (give-done n g h z t.value next may s e)
      (λ l shows holds q. more (spelled t.value) l (with_given (spelled t.value) g) (taken whole s g.link) shows holds q))

  all-taken : (most octets : ℕ) (n : LinkEnd B) (g : Gate) (s : Abstract) → Shows m k n.port g → Holds n → keeping.exchange n.books ≡ s → AreQuiet keeping m k there Holds lasts n (taken_all whole most octets g s)
  unfolding taken_all
  all-taken zero octets n g s h z e = idle-done keeping m k there Holds lasts n g s h z e
  all-taken (suc most) octets n g s h z e =
      by (has_room_behind g.endpoint.state octets) refl (λ (frame : List ℕ) (l : LinkEnd B) (j : Gate) (t : Abstract) (a : Shows m k l.port j) (b : Holds l) (c : keeping.exchange l.books ≡ t).
      all-taken most (octets + length frame) l j t a b c)
    where
      rest : List ℕ → Gate → Abstract → Did WholeQueues
      rest frame j t = taken_all whole most (octets + length frame) j t

      by : (b : Bool) → has_room_behind g.endpoint.state octets ≡ b
          → ((frame : List ℕ) (l : LinkEnd B) (j : Gate) (t : Abstract) → Shows m k l.port j → Holds l → keeping.exchange l.books ≡ t → AreQuiet keeping m k there Holds lasts l (rest frame j t))
          → AreQuiet keeping m k there Holds lasts n (if b then taken_by whole rest (text_to_take whole s g.link) g s else nothing g s)
      by true room more = taken_by-done n g h z octets room s e rest (text_to_take whole s g.link) refl more
      by false full more = idle-done keeping m k there Holds lasts n g s h z e

  taken-if : (most : ℕ) (n : LinkEnd B) (g : Gate) (s : Abstract) → Shows m k n.port g → Holds n → keeping.exchange n.books ≡ s → (b : Bool)
      → AreQuiet keeping m k there Holds lasts n (if b then taken_all whole most 0 g s else nothing g s)
  taken-if most n g s h z e true = all-taken most 0 n g s h z e
  taken-if most n g s h z e false = idle-done keeping m k there Holds lasts n g s h z e

  taken-done : (now : ℕ) (n : LinkEnd B) (g : Gate) (s : Abstract) → Shows m k n.port g → Holds n → keeping.exchange n.books ≡ s → AreQuiet keeping m k there Holds lasts n (taken_if whole now g s)
  taken-done now n g s h z e = taken-if _ n g s h z e (is_lasting now g.endpoint && has_room g.endpoint.state)

  -- ---- what is due goes out

  -- the mark that is left, where packets are asked for and where not
  abbrev flush-mark : Bool → LinkEnd B → ℕ
  flush-mark b l = if b then messages_at l.port.site else l.port.site.mark

  -- nothing is told by it
  record AreFlushed (b : Bool) (n : LinkEnd B) (d : Did WholeQueues) : Type 0 where
    done : AreDone keeping m k there Holds lasts n d (flush-mark b n)
    none_seen : d.seen ≡ []

  flush-done : (now : ℕ) (n : LinkEnd B) (g : Gate) (s : Abstract) → Shows m k n.port g → Holds n → keeping.exchange n.books ≡ s
      → AreFlushed (is_lasting now g.endpoint) n (flushed whole now g s)
  flush-done now n g s h z e = by (is_lasting now g.endpoint) where
    gone : Done
    gone = flush g.endpoint.settings now g.endpoint.state

    by : (b : Bool) → AreFlushed b n (if b then handed whole now gone g s else nothing g s)
    by true = record {
      done = plain-done keeping m k there Holds lasts n g h z (Flushes now) (record { same = λ w. refl; left = λ o w. refl; quiet = refl }) now (λ c r t. flush c now t)
          (flush-is now) tt s e;
      none_seen = refl;
    }
    by false = record { done = idle-done keeping m k there Holds lasts n g s h z e; none_seen = refl }

  mark-by : (b : Bool) (n l o : LinkEnd B) → l.port.site.mark ≡ n.port.site.mark → messages_at o.port.site ≤ messages_at l.port.site
      → IsMark keeping m k there Holds lasts b n o (flush-mark b l)
  mark-by true n l o e f = f
  mark-by false n l o e f = e

  pub fill-done : (now : ℕ) (n : LinkEnd B) (g : Gate) (s : Abstract) → Shows m k n.port g → Holds n → keeping.exchange n.books ≡ s
      → AreCalled keeping m k there Holds lasts n (filled whole now g s) (is_lasting now g.endpoint)
  fill-done now n g s h z e =
      let d : Did WholeQueues = taken_if whole now g s in
      let b : Bool = is_lasting now d.gate.endpoint in
      let f : AreQuiet keeping m k there Holds lasts n d = taken-done now n g s h z e in
      let l : LinkEnd B = acted_all keeping m k f.steps n in
      let u : AreFlushed b l (flushed whole now d.gate d.exchange) = flush-done now l d.gate d.exchange f.leaves.shows f.leaves.holds f.leaves.exchange in
      let o : LinkEnd B = acted_all keeping m k u.done.steps l in
      let is : acted_all keeping m k (f.steps ++ u.done.steps) n ≡ o = acts-append keeping m k there Holds lasts f.steps u.done.steps n in
      let grown : messages_at o.port.site ≤ messages_at l.port.site =
      (let a = u.done.leaves.grown in let c : messages_in (flushed whole now d.gate d.exchange).seen ≡ 0 = ap messages_in u.none_seen in omega (arith, a, c)) in
      record {
        steps = f.steps ++ u.done.steps;
        may = may-append keeping m k there Holds lasts f.steps u.done.steps n f.may u.done.may;
        mark = flush-mark b l;
        leaves = subst (λ (x : LinkEnd B). Leaves keeping m k there Holds lasts n x (filled whole now g s) (flush-mark b l)) (sym is)
            (leaves-both keeping m k there Holds lasts n l o d (flushed whole now d.gate d.exchange) (flush-mark b l) f.leaves u.done.leaves);
        is_mark = subst (λ (x : LinkEnd B). IsMark keeping m k there Holds lasts (is_lasting now g.endpoint) n x (flush-mark b l)) (sym is)
            (subst (λ (c : Bool). IsMark keeping m k there Holds lasts c n o (flush-mark b l)) (taken-lasts now g s) (mark-by b n l o f.leaves.mark_is grown));
      }
