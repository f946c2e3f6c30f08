-- What a call does on what is kept of an exchange is what it does on the abstract exchange.
use Rattle.std.proofs.Common.{◌≡◌, ◌∙◌, ℕ, zero, suc, Bool, true, false, List, [], ◌∷◌, ◌++◌, Option, Some, None, refl, sym, ap, subst}
use Rattle.std.specs.Prelude.{◌+◌, ◌&&◌, length, map, if◌then◌else◌}
use Rattle.std.specs.Option.{option_map}
use Rattle.m2pa_codec.specs.Frames.{FrameValue, spelled}
use Rattle.signalling_types.specs.declared.outcome.Outcome.{Outcome}
use Rattle.sctp_codec.specs.Packets.{PacketValue}
use Rattle.sctp_rules.specs.Settings.{Address}
use Rattle.sctp_rules.specs.State.{Told, Up, Heard, Down, Done}
use Rattle.sctp_rules.specs.State as told
use Rattle.sctp_rules.specs.Ending.{abort}
use Rattle.sctp_rules.specs.Opening.{opening}
use Rattle.sctp_rules.specs.Sending.{has_room, flush}
use Rattle.sctp_rules.specs.Waiting.{has_room_behind}
use Rattle.sctp_rules.specs.Timers.{ticked}
use Rattle.sctp_endpoint.specs.Dispatching.{heard_datagram}
use Rattle.sctp_endpoint.specs.Endpoints.{Endpoint, secrets_of}
use Rattle.sctp_bundling.specs.Watching.{Sent, sent_as}
use Rattle.exchange_rules.specs.State.{CameUp, WentDown, FrameCame}
use Rattle.exchange_rules.specs.Exchange.{wants_of, taken}
use Rattle.exchange_rules.specs.Queues.{WholeQueues, whole}
use Rattle.exchange_rules.specs.First.{Abstract}
use Rattle.exchange_rules.specs.declared.wants.Wants.{Wants}
use Rattle.exchange_rules.specs.declared.wants.Wants.TheVariants.{Nothing, Open, Close}
use Rattle.exchange.specs.KeptQueues.{KeptQueues, kept}
use Rattle.exchange.specs.Calls.{Kept, StandsFor}
use Rattle.exchange.proofs.Standing.{stands-after, stands-outcome, stands-frame, stands-taken, stands-wants}
use Rattle.sctp_gate.specs.declared.gate.filling.TheConstants.{MOST_FRAMES}
use Rattle.sctp_gate.specs.declared.standing.Standing.{Standing}
use Rattle.sctp_gate.specs.Standing.{idle, seeking}
use Rattle.sctp_gate.specs.Watching.{Sight, Gives, CameIn, Dropped}
use Rattle.sctp_gate.specs.Handing.{is_frame, after_one, sight_of, after_told, sights_of}
use Rattle.sctp_gate.specs.Gates.{Gate, Did, nothing, followed_by, is_lasting, may_try, handed, does, does_as, aborted, settled_by, settled, between, heard, timed, flushed, text_to_take, given, taken_by, taken_all, taken_if, filled}
use Rattle.sctp_gate.specs.Making.{Makes, MakesWhole}

-- ---- what is handed in

either-stands : (b : Bool) (k t : Kept) (a c : Abstract) → StandsFor k a → StandsFor t c → StandsFor (if b then k else t) (if b then a else c)
either-stands true k t a c s r = s
either-stands false k t a c s r = r

stands-one : (link : ℕ) (one : Told) (k : Kept) (a : Abstract) → StandsFor k a → StandsFor (after_one kept link one k) (after_one whole link one a)
stands-one link Up k a s = stands-after (CameUp link) k a s
stands-one link (Heard m) k a s = either-stands (is_frame m) _ _ _ _ (stands-after (FrameCame link m.octets) k a s) s
stands-one link (Down why) k a s = stands-after (WentDown link) k a s
stands-one link (told.Failed why) k a s = s

same-sight : (link : ℕ) (one : Told) (k : Kept) (a : Abstract) → StandsFor k a → sight_of kept link one k ≡ sight_of whole link one a
same-sight link Up k a s = refl
same-sight link (Heard m) k a s = ap (λ (o : Outcome). if is_frame m then CameIn m.octets o else Dropped m) (stands-outcome (FrameCame link m.octets) k a s)
same-sight link (Down why) k a s = refl
same-sight link (told.Failed why) k a s = refl

stands-told : (link : ℕ) (all : List Told) (k : Kept) (a : Abstract) → StandsFor k a → StandsFor (after_told kept link all k) (after_told whole link all a)
stands-told link [] k a s = s
stands-told link (one ∷ more) k a s = stands-told link more (after_one kept link one k) (after_one whole link one a) (stands-one link one k a s)

same-sights : (link : ℕ) (all : List Told) (k : Kept) (a : Abstract) → StandsFor k a → sights_of kept link all k ≡ sights_of whole link all a
same-sights link [] k a s = refl
same-sights link (one ∷ more) k a s =
    ap (λ (x : Sight). x ∷ sights_of kept link more (after_one kept link one k)) (same-sight link one k a s)
    ∙ ap (λ (xs : List Sight). sight_of whole link one a ∷ xs) (same-sights link more (after_one kept link one k) (after_one whole link one a) (stands-one link one k a s))

-- ---- calls

pub record Same (d : Did KeptQueues) (e : Did WholeQueues) : Type 0 where
  pub sent_is : d.sent ≡ e.sent
  pub seen_is : d.seen ≡ e.seen
  pub gate_is : d.gate ≡ e.gate
  pub stands : StandsFor d.exchange e.exchange

pub makes-whole : {W : Type 0} (has : W → List Sent → List Sight → Type 0) (w x : W) (g : Gate) (k : Kept) (d : Did KeptQueues) (e : Did WholeQueues) → Makes has w x g k d → Same d e
    → MakesWhole has w x g k e
makes-whole has w x g k d e m s = record {
  gate_is = m.gate_is ∙ s.gate_is;
  stands = subst (λ (u : Kept). StandsFor u e.exchange) (sym m.exchange_is) s.stands;
  gives =
      subst (λ (xs : List told.Datagram). Gives has w x (map sent_as xs) e.seen) s.sent_is
      (subst (λ (ys : List Sight). Gives has w x (map sent_as d.sent) ys) s.seen_is m.gives);
}

same-nothing : (g : Gate) (k : Kept) (a : Abstract) → StandsFor k a → Same (nothing g k) (nothing g a)
same-nothing g k a s = record { sent_is = refl; seen_is = refl; gate_is = refl; stands = s }

same-if : (b : Bool) (d d' : Did KeptQueues) (e e' : Did WholeQueues) → Same d e → Same d' e' → Same (if b then d else d') (if b then e else e')
same-if true d d' e e' s t = s
same-if false d d' e e' s t = t

same-then : (d : Did KeptQueues) (e : Did WholeQueues) (f : Gate → Kept → Did KeptQueues) (h : Gate → Abstract → Did WholeQueues) → Same d e
    → ((g : Gate) (k : Kept) (a : Abstract) → StandsFor k a → Same (f g k) (h g a)) → Same (followed_by d f) (followed_by e h)
same-then d e f h s t =
    let u : Same (f d.gate d.exchange) (h e.gate e.exchange) =
    subst (λ (g : Gate). Same (f g d.exchange) (h e.gate e.exchange)) (sym s.gate_is) (t e.gate d.exchange e.exchange s.stands)
    in
    record {
      sent_is =
          ap (λ (xs : List told.Datagram). xs ++ (f d.gate d.exchange).sent) s.sent_is ∙ ap (λ (xs : List told.Datagram). e.sent ++ xs) u.sent_is;
      seen_is =
          ap (λ (xs : List Sight). xs ++ (f d.gate d.exchange).seen) s.seen_is ∙ ap (λ (xs : List Sight). e.seen ++ xs) u.seen_is;
      gate_is = u.gate_is;
      stands = u.stands;
    }

module _ (now : ℕ) where
  same-handed : (d : Done) (g : Gate) (k : Kept) (a : Abstract) → StandsFor k a → Same (handed kept now d g k) (handed whole now d g a)
  same-handed d g k a s = record {
    sent_is = refl;
    seen_is = same-sights g.link d.told k a s;
    gate_is = refl;
    stands = stands-told g.link d.told k a s;
  }

  same-does : (rule : Endpoint → Done) (g : Gate) (k : Kept) (a : Abstract) → StandsFor k a → Same (does kept now rule g k) (does whole now rule g a)
  same-does rule g k a s =
      same-if (is_lasting now g.endpoint) _ _ _ _ (same-handed (rule g.endpoint) g k a s) (same-nothing g k a s)

  same-does_as : (standing : Standing) (rule : Endpoint → Done) (g : Gate) (k : Kept) (a : Abstract) → StandsFor k a
      → Same (does_as kept now standing rule g k) (does_as whole now standing rule g a)
  same-does_as standing rule g k a s =
      same-if (is_lasting now g.endpoint) _ _ _ _ (same-handed (rule g.endpoint) (record g { standing = standing }) k a s) (same-nothing g k a s)

  pub same-aborted : (g : Gate) (k : Kept) (a : Abstract) → StandsFor k a → Same (aborted kept now g k) (aborted whole now g a)
  same-aborted g k a s = same-does_as (idle g.standing) (λ e. abort e.settings e.state) g k a s

  same-settled_by : (wants : Wants) (g : Gate) (k : Kept) (a : Abstract) → StandsFor k a → Same (settled_by kept now wants g k) (settled_by whole now wants g a)
  same-settled_by Close g k a s = same-aborted g k a s
  same-settled_by Open g k a s =
      same-if g.standing.is_up _ _ _ _ (same-aborted g k a s)
      (same-does_as (seeking g.standing) (λ e. opening e.settings (secrets_of e) now (may_try now g) e.state) g k a s)
  same-settled_by Nothing g k a s =
      same-if g.standing.is_seeking _ _ _ _ (same-aborted g k a s) (same-nothing g k a s)

  pub same-settled : (g : Gate) (k : Kept) (a : Abstract) → StandsFor k a → Same (settled kept now g k) (settled whole now g a)
  same-settled g k a s =
      subst (λ (wants : Wants). Same (settled_by kept now wants g k) (settled whole now g a)) (sym (stands-wants g.link k a s))
      (same-settled_by (wants_of a g.link) g k a s)

  same-between : (rule : Endpoint → Done) (g : Gate) (k : Kept) (a : Abstract) → StandsFor k a → Same (between kept now rule g k) (between whole now rule g a)
  same-between rule g k a s =
      same-then _ _ (λ h t. settled kept now h t) (λ h t. settled whole now h t)
      (same-then _ _ (λ h t. does kept now rule h t) (λ h t. does whole now rule h t) (same-settled g k a s) (same-does rule)) same-settled

  pub same-heard : (packet : Option PacketValue) (source : Address) (g : Gate) (k : Kept) (a : Abstract) → StandsFor k a
      → Same (heard kept now packet source g k) (heard whole now packet source g a)
  same-heard packet source g k a s = same-between (λ e. heard_datagram packet e.settings (secrets_of e) now source e.state) g k a s

  pub same-timed : (g : Gate) (k : Kept) (a : Abstract) → StandsFor k a → Same (timed kept now g k) (timed whole now g a)
  same-timed g k a s = same-between (λ e. ticked e.settings (secrets_of e) now e.state) g k a s

  -- ---- what goes out

  same-flushed : (g : Gate) (k : Kept) (a : Abstract) → StandsFor k a → Same (flushed kept now g k) (flushed whole now g a)
  same-flushed g k a s = same-does (λ e. flush e.settings now e.state) g k a s

  same-taken_by : (f : List ℕ → Gate → Kept → Did KeptQueues) (h : List ℕ → Gate → Abstract → Did WholeQueues)
      → ((frame : List ℕ) (g : Gate) (k : Kept) (a : Abstract) → StandsFor k a → Same (f frame g k) (h frame g a)) → (text : Option (List ℕ)) (g : Gate) (k : Kept) (a : Abstract)
      → StandsFor k a → Same (taken_by kept f text g k) (taken_by whole h text g a)
  same-taken_by f h t None g k a s = same-nothing g (taken kept k g.link) (taken whole a g.link) (stands-taken g.link k a s)
  same-taken_by f h t (Some frame) g k a s =
      same-then (given frame g (taken kept k g.link)) (given frame g (taken whole a g.link)) (f frame) (h frame)
      (record { sent_is = refl; seen_is = refl; gate_is = refl; stands = stands-taken g.link k a s }) (t frame)

  same-text : (link : ℕ) (k : Kept) (a : Abstract) → StandsFor k a → text_to_take kept k link ≡ text_to_take whole a link
  same-text link k a s = ap (λ (f : Option FrameValue). option_map spelled f) (stands-frame link k a s)

  same-taken_all : (most octets : ℕ) (g : Gate) (k : Kept) (a : Abstract) → StandsFor k a → Same (taken_all kept most octets g k) (taken_all whole most octets g a)
  unfolding taken_all
  same-taken_all zero octets g k a s = same-nothing g k a s
  same-taken_all (suc most) octets g k a s =
      let rest : List ℕ → Gate → Kept → Did KeptQueues = λ frame h t. taken_all kept most (octets + length frame) h t in
      let also : List ℕ → Gate → Abstract → Did WholeQueues = λ frame h t. taken_all whole most (octets + length frame) h t in
      same-if (has_room_behind g.endpoint.state octets) _ _ _ _
      (subst (λ (text : Option (List ℕ)). Same (taken_by kept rest text g k) (taken_by whole also (text_to_take whole a g.link) g a)) (sym (same-text g.link k a s))
      (same-taken_by rest also (λ frame. same-taken_all most (octets + length frame)) (text_to_take whole a g.link) g k a s))
      (same-nothing g k a s)

  same-taken_if : (g : Gate) (k : Kept) (a : Abstract) → StandsFor k a → Same (taken_if kept now g k) (taken_if whole now g a)
  same-taken_if g k a s =
      same-if (is_lasting now g.endpoint && has_room g.endpoint.state) _ _ _ _ (same-taken_all MOST_FRAMES 0 g k a s) (same-nothing g k a s)

  pub same-filled : (g : Gate) (k : Kept) (a : Abstract) → StandsFor k a → Same (filled kept now g k) (filled whole now g a)
  same-filled g k a s =
      same-then (taken_if kept now g k) (taken_if whole now g a) (λ h t. flushed kept now h t) (λ h t. flushed whole now h t)
      (same-taken_if g k a s) same-flushed
