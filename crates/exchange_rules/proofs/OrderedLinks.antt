-- What links ask, how they are taken out, and how what came is acknowledged.
use Rattle.exchange_rules.proofs.Basics.{◌≡◌, ◌≢◌, ◌<◌, ◌&&◌, ℕ, Bool, true, false, not, length, Option, Some, None, refl, ap, sym, ◌∙◌, arith, nat_tests, nat_lt, is_some, slice_get, slice_index_or, subst, get_or-set_same, length-set, if◌then◌else◌}
use Rattle.exchange_rules.proofs.Definitions.{Configuration, Message, LinkStatus, FrameValue, Link, down_link, is_down, after_failure, Parts, Node, Done, with_parts, refuse, answer, Handled, Refused, is_link, link_at, down, fail, fail_if_up, with_active, deactivate, open_link, may_open, may_restart, changeover_of, owing, timed_parts, Sending, Outgoing, SendsStatus, SendsMessage, Acknowledges, SendsNothing, goes_out, message_first, status_first, next_message, WholeQueues, whole}
use Rattle.signalling_types.specs.declared.cause.Cause.TheVariants as causes
use Rattle.signalling_types.specs.declared.notice.FailureReason.TheVariants as reasons
use Rattle.exchange_rules.specs.declared.wants.Wants.{Wants}
use Rattle.exchange_rules.specs.declared.wants.Wants.TheVariants.{Nothing, Open, Close}
use Rattle.exchange_rules.specs.Opening.{wanted, wanted_by, wanted_down}
use Rattle.exchange_rules.specs.Sending.{frame_from}
use Rattle.exchange_rules.specs.LawsOfOrders.{links_ask_as_they_stand, IsOut, deactivated_links_stay_out, messages_are_to_be_acknowledged, owed_ones_go_out, backward_number, frames_acknowledge}
use Rattle.exchange_rules.proofs.SteppingFailures.{fail-links}

-- ---- what a link asks

module _ (p : Parts) (link : ℕ) (there : is_link p link ≡ true) where
  abbrev restarts : Bool
  restarts = may_restart (changeover_of p link)

  asks : wanted p link ≡ wanted_by restarts (link_at p link)
  asks = ap (λ (b : Bool). if b then wanted_by restarts (link_at p link) else Nothing) there

  by-state : (b : Bool) → down p link ≡ b → wanted p link ≡ (if b then wanted_down restarts (link_at p link) else Nothing)
  by-state b e = asks ∙ ap (λ (x : Bool). if x then wanted_down restarts (link_at p link) else Nothing) e

  never-opens : (a b : Bool) (w : Wants) → w ≡ (if a then (if b then Close else Nothing) else Nothing) → w ≢ Open
  never-opens true true w e f = (let no : Close ≡ Open = sym e ∙ f in absurd cc)
  never-opens true false w e f = (let no : Nothing ≡ Open = sym e ∙ f in absurd cc)
  never-opens false b w e f = (let no : Nothing ≡ Open = sym e ∙ f in absurd cc)

  pub kept-from : (link_at p link).active ≡ false → wanted p link ≢ Open
  kept-from e =
      never-opens (down p link) (link_at p link).association (wanted p link)
      (by-state (down p link) refl
      ∙ ap (λ (x : Bool). if down p link then (if (link_at p link).association then Close else if x && restarts then Open else Nothing) else Nothing) e)

pub as-they-stand : links_ask_as_they_stand
as-they-stand a link there = record {
  closes = λ e has. by-state a.node.parts link there true e ∙ ap (λ (x : Bool). if x then Close else if (link_at a.node.parts link).active && may_restart (changeover_of a.node.parts link) then Open else Nothing) has;
  up = λ e. by-state a.node.parts link there false e;
  kept = λ e. kept-from a.node.parts link there e;
}

-- ---- an order to deactivate

lt-of : (m n : ℕ) → nat_lt m n ≡ true → m < n
lt-of m n e = grind (arith, nat_tests, e)

of-lt : (m n : ℕ) → m < n → nat_lt m n ≡ true
of-lt m n e = grind (arith, nat_tests, e)

there-so : (p : Parts) (link : ℕ) → is_link p link ≡ true → link < length p.links
there-so p link e = lt-of link (length p.links) e

so-there : (p : Parts) (link : ℕ) → link < length p.links → is_link p link ≡ true
so-there p link e = of-lt link (length p.links) e

record Stopped (p : Parts) (link : ℕ) : Type 0 where
  there : link < length p.links
  is : is_down (link_at p link).alignment ≡ true

module _ (c : Configuration) (link : ℕ) (n : Node WholeQueues) (there : is_link n.parts link ≡ true) where
  failed : Stopped (fail whole c link reasons.Operator n).parts link
  failed =
      let l : Link = after_failure (link_at n.parts link) in
      let links = fail-links c link reasons.Operator n in
      record {
        there = omega (arith, there-so n.parts link there, ap length links ∙ length-set n.parts.links link l);
        is =
            ap (λ ls. is_down (slice_index_or ls link down_link).alignment) links
            ∙ ap (λ (x : Link). is_down x.alignment) (get_or-set_same n.parts.links link l down_link (there-so n.parts link there));
      }

  stopped : (b : Bool) → down n.parts link ≡ b → Stopped (if b then n else fail whole c link reasons.Operator n).parts link
  stopped true e = record { there = there-so n.parts link there; is = e }
  stopped false e = failed

  abbrev m : Node WholeQueues
  m = fail_if_up whole c link reasons.Operator n

  was : Stopped m.parts link
  was = stopped (down n.parts link) refl

  abbrev out : Parts
  out = with_active false false link m.parts

  its-link : link_at out link ≡ record (link_at m.parts link) { active = false; emergency = false }
  its-link = get_or-set_same m.parts.links link (record (link_at m.parts link) { active = false; emergency = false }) down_link was.there

  still-there : is_link out link ≡ true
  still-there =
      so-there out link
      (omega (arith, was.there, length-set m.parts.links link (record (link_at m.parts link) { active = false; emergency = false })))

  abbrev opens : Done WholeQueues
  opens =
      if may_restart (changeover_of out link)
      then answer Handled (open_link whole c link (with_parts m out))
      else refuse causes.ChangeoverPending (with_parts m out)

  is-out : IsOut c link (with_parts m out)
  is-out = record {
    down = ap (λ (l : Link). is_down l.alignment) its-link ∙ was.is;
    kept = ap (λ (l : Link). l.active) its-link;
    refuses =
        ap (λ (b : Bool). (if b then (if may_open (link_at out link) then opens else refuse causes.LinkNotReady (with_parts m out)) else refuse causes.NoSuchName (with_parts m out)).outcome) still-there
        ∙ ap (λ (b : Bool). (if not (link_at out link).association && b then opens else refuse causes.LinkNotReady (with_parts m out)).outcome) (ap (λ (l : Link). l.active) its-link)
        ∙ never (not (link_at out link).association);
    asks = kept-from out link still-there (ap (λ (l : Link). l.active) its-link);
  }
    where
      never : (b : Bool) → (if b && false then opens else refuse causes.LinkNotReady (with_parts m out)).outcome ≡ Refused causes.LinkNotReady
      never true = refl
      never false = refl

  pub deactivated : deactivate whole c link n ≡ answer Handled (with_parts m out)
  deactivated = ap (λ (b : Bool). if b then answer Handled (with_parts m out) else refuse causes.NoSuchName n) there

pub stay-out : deactivated_links_stay_out
stay-out c link node there = (
  ap (λ (d : Done WholeQueues). d.outcome) (deactivated c link node there),
  subst (λ (d : Done WholeQueues). IsOut c link d.left) (sym (deactivated c link node there)) (is-out c link node there),
)

-- ---- what came is acknowledged

pub to-acknowledge : messages_are_to_be_acknowledged
to-acknowledge c link confirmed d m node there e =
    ap (λ (message : Option Message). (link_at (owing link message (timed_parts c link confirmed (whole.outstanding (whole.accepted node.queues link d.fsn d.bsn (is_some d.message)) link) node.parts)) link).acknowledgement_owed) e
    ∙ ap (λ (l : Link). l.acknowledgement_owed) (get_or-set_same node.parts.links link (record (link_at node.parts link) { acknowledgement_owed = true }) down_link there)

goes : (status : Option LinkStatus) (next : Option Sending) (owed : Bool) (accepted sent : ℕ) → owed ≡ true → is_some (frame_from accepted sent (status_first status (message_first next owed))) ≡ true
goes (Some status) next owed accepted sent e = refl
goes None (Some next) owed accepted sent e = refl
goes None None true accepted sent e = refl
goes None None false accepted sent e = absurd cc

pub go-out : owed_ones_go_out
go-out a link e =
    goes (slice_get (link_at a.node.parts link).waiting 0) (next_message whole a.settings link a.node) (link_at a.node.parts link).acknowledgement_owed
    (whole.last_accepted a.node.queues link) (whole.last_sent a.node.queues link) e

abbrev number-or : Option FrameValue → ℕ
number-or None = 0
number-or (Some frame) = backward_number frame

acknowledges : (accepted sent : ℕ) (out : Outgoing) (frame : FrameValue) → frame_from accepted sent out ≡ Some frame → backward_number frame ≡ accepted
acknowledges accepted sent (SendsStatus status) frame e = sym (ap number-or e)
acknowledges accepted sent (SendsMessage next) frame e = sym (ap number-or e)
acknowledges accepted sent Acknowledges frame e = sym (ap number-or e)
acknowledges accepted sent SendsNothing frame e = absurd cc

pub acknowledge : frames_acknowledge
acknowledge a link frame e = acknowledges (whole.last_accepted a.node.queues link) (whole.last_sent a.node.queues link) (goes_out whole a.settings link a.node) frame e
