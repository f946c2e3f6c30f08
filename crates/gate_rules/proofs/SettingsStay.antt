-- Whatever is called at a gate, the exchange keeps its settings.
use Rattle.std.proofs.Common.{◌≡◌, ◌&&◌, ℕ, zero, suc, ◌+◌, Bool, true, false, List, [], ◌∷◌, length, Option, Some, None, refl, ◌∙◌}
use Rattle.std.specs.Prelude.{if◌then◌else◌}
use Rattle.sctp_rules.specs.State as told
use Rattle.sctp_rules.specs.State.{Done, Told, Up, Heard, Down}
use Rattle.sctp_rules.specs.Waiting.{has_room_behind}
use Rattle.sctp_rules.specs.Ending.{abort}
use Rattle.sctp_rules.specs.Opening.{opening}
use Rattle.sctp_rules.specs.Sending.{flush, has_room}
use Rattle.sctp_rules.specs.Timers.{ticked}
use Rattle.exchange_rules.specs.State.{FrameCame, QueueKind, State}
use Rattle.exchange_rules.specs.Exchange.{after, taken, wants_of}
use Rattle.exchange_rules.specs.declared.wants.Wants.{Wants}
use Rattle.exchange_rules.specs.declared.wants.Wants.TheVariants.{Nothing, Open, Close}
use Rattle.sctp_endpoint.specs.Dispatching.{heard_datagram}
use Rattle.sctp_endpoint.specs.Endpoints.{Endpoint, secrets_of}
use Rattle.sctp_gate.specs.declared.standing.Standing.{Standing}
use Rattle.sctp_gate.specs.Calling.{Call, Hears, Ticks, Settles, Fills, Closes, called}
use Rattle.sctp_gate.specs.Gates.{Gate, Did, nothing, is_lasting, handed, does, does_as, aborted, opened, wanted, settled_by, settled, between, taken_by, taken_all, taken_if, filled, may_try, text_to_take, with_given}
use Rattle.sctp_gate.specs.Standing.{idle, seeking}
use Rattle.sctp_gate.specs.Handing.{after_one, after_told, is_frame}

module _ {Q : Type 0} (q : QueueKind Q) where
  stays-if : (b : Bool) (d e : Did Q) (s : State Q) → d.exchange.settings ≡ s.settings → e.exchange.settings ≡ s.settings → (if b then d else e).exchange.settings ≡ s.settings
  stays-if true d e s one other = one
  stays-if false d e s one other = other

  -- ---- what is told is handed in

  one-stays : (link : ℕ) (one : Told) (s : State Q) → (after_one q link one s).settings ≡ s.settings
  one-stays link Up s = refl
  one-stays link (Heard m) s = by (is_frame m)
    where
      by : (b : Bool) → (if b then after q (FrameCame link m.octets) s else s).settings ≡ s.settings
      by true = refl
      by false = refl
  one-stays link (Down why) s = refl
  one-stays link (told.Failed why) s = refl

  told-stays : (link : ℕ) (all : List Told) (s : State Q) → (after_told q link all s).settings ≡ s.settings
  told-stays link [] s = refl
  told-stays link (one ∷ more) s = told-stays link more (after_one q link one s) ∙ one-stays link one s

  module _ (now : ℕ) where
    does-stays : (rule : Endpoint → Done) (g : Gate) (s : State Q) → (does q now rule g s).exchange.settings ≡ s.settings
    does-stays rule g s =
        stays-if (is_lasting now g.endpoint) (handed q now (rule g.endpoint) g s) (nothing g s) s (told-stays g.link (rule g.endpoint).told s) refl

    does_as-stays : (standing : Standing) (rule : Endpoint → Done) (g : Gate) (s : State Q) → (does_as q now standing rule g s).exchange.settings ≡ s.settings
    does_as-stays standing rule g s =
        stays-if (is_lasting now g.endpoint) (handed q now (rule g.endpoint) (record g { standing = standing }) s) (nothing g s) s (told-stays g.link (rule g.endpoint).told s) refl

    -- ---- as the link wants it

    aborted-stays : (g : Gate) (s : State Q) → (aborted q now g s).exchange.settings ≡ s.settings
    aborted-stays g s = does_as-stays (idle g.standing) (λ e. abort e.settings e.state) g s

    opened-stays : (g : Gate) (s : State Q) → (opened q now g s).exchange.settings ≡ s.settings
    opened-stays g s =
        does_as-stays (seeking g.standing) (λ e. opening e.settings (secrets_of e) now (may_try now g) e.state) g s

    wanted-stays : (g : Gate) (s : State Q) → (wanted q now g s).exchange.settings ≡ s.settings
    wanted-stays g s = stays-if g.standing.is_up (aborted q now g s) (opened q now g s) s (aborted-stays g s) (opened-stays g s)

    settled-by : (wish : Wants) (g : Gate) (s : State Q) → (settled_by q now wish g s).exchange.settings ≡ s.settings
    settled-by Close g s = aborted-stays g s
    settled-by Open g s = wanted-stays g s
    settled-by Nothing g s = stays-if g.standing.is_seeking (aborted q now g s) (nothing g s) s (aborted-stays g s) refl

    pub settled-stays : (g : Gate) (s : State Q) → (settled q now g s).exchange.settings ≡ s.settings
    settled-stays g s = settled-by (wants_of s g.link) g s

    between-stays : (rule : Endpoint → Done) (g : Gate) (s : State Q) → (between q now rule g s).exchange.settings ≡ s.settings
    between-stays rule g s =
        let first : Did Q = settled q now g s in
        let second : Did Q = does q now rule first.gate first.exchange in
        settled-stays second.gate second.exchange ∙ does-stays rule first.gate first.exchange ∙ settled-stays g s

  -- ---- what goes out

  taken-stays : (rest : List ℕ → Gate → State Q → Did Q) → ((frame : List ℕ) (g : Gate) (s : State Q) → (rest frame g s).exchange.settings ≡ s.settings) → (o : Option (List ℕ)) (g : Gate) (s : State Q)
      → (taken_by q rest o g s).exchange.settings ≡ s.settings
  taken-stays rest stays None g s = refl
  taken-stays rest stays (Some frame) g s = stays frame (with_given frame g) (taken q s g.link)

  all-stays : (most octets : ℕ) (g : Gate) (s : State Q) → (taken_all q most octets g s).exchange.settings ≡ s.settings
  unfolding taken_all
  all-stays zero octets g s = refl
  all-stays (suc most) octets g s =
      stays-if (has_room_behind g.endpoint.state octets) (taken_by q (λ frame h t. taken_all q most (octets + length frame) h t) (text_to_take q s g.link) g s) (nothing g s) s
      (taken-stays (λ frame h t. taken_all q most (octets + length frame) h t) (λ frame h t. all-stays most (octets + length frame) h t) (text_to_take q s g.link) g s) refl

  some-stays : (most : ℕ) (b : Bool) (g : Gate) (s : State Q) → (if b then taken_all q most 0 g s else nothing g s).exchange.settings ≡ s.settings
  some-stays most true g s = all-stays most 0 g s
  some-stays most false g s = refl

  filled-stays : (now : ℕ) (g : Gate) (s : State Q) → (filled q now g s).exchange.settings ≡ s.settings
  filled-stays now g s =
      let first : Did Q = taken_if q now g s in
      does-stays now (λ e. flush e.settings now e.state) first.gate first.exchange
      ∙ some-stays _ (is_lasting now g.endpoint && has_room g.endpoint.state) g s

  -- ---- a call

  pub called-stays : (call : Call) (g : Gate) (s : State Q) → (called q call g s).exchange.settings ≡ s.settings
  called-stays (Hears now packet source) g s =
      between-stays now (λ e. heard_datagram packet e.settings (secrets_of e) now source e.state) g s
  called-stays (Ticks now) g s = between-stays now (λ e. ticked e.settings (secrets_of e) now e.state) g s
  called-stays (Settles now) g s = settled-stays now g s
  called-stays (Fills now) g s = filled-stays now g s
  called-stays (Closes now) g s = aborted-stays now g s
