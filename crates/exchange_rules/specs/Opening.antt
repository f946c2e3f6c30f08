-- TLAC, link availability control (Q.704 §3.2): associations that come up and go down, and the operator's orders about
-- a link (RFC 4165 §4.1.3).
use Rattle.std.specs.Prelude.{ℕ, Bool, true, false, ◌&&◌, ◌||◌, not, if◌then◌else◌, Option, Some, None}
use Rattle.settings.specs.Configuration.{Configuration}
use Rattle.signalling_types.specs.declared.cause.Cause.TheVariants.{NoSuchName, LinkNotReady, ChangeoverPending}
use Rattle.signalling_types.specs.declared.notice.FailureReason.{FailureReason}
use Rattle.signalling_types.specs.declared.notice.FailureReason.TheVariants as reasons
use Rattle.signalling_types.specs.declared.outcome.Outcome.TheVariants.{Handled, Ignored}
use Rattle.link.specs.declared.period.Period.{Period}
use Rattle.link.specs.declared.period.Period.TheVariants.{Fixed, Normal, Emergency}
use Rattle.link.specs.Table.{opening}
use Rattle.node_links.specs.NodeLinks.{Link, is_down, opened}
use Rattle.exchange_rules.specs.declared.wants.Wants.{Wants}
use Rattle.exchange_rules.specs.declared.wants.Wants.TheVariants.{Nothing, Open, Close}
use Rattle.exchange_rules.specs.State.{unless◌then◌else◌, ◌▷◌, QueueKind, Parts, Node, Done, with_parts, answer, refuse, is_link, link_at, links_with, with_link, down}
use Rattle.exchange_rules.specs.Timing.{timed}
use Rattle.changeover.specs.Changeover.{is_barred, may_restart}
use Rattle.exchange_rules.specs.ChangingOver.{changeover_of, has_other, fail, unbarred}
use Rattle.exchange_rules.specs.LinkTests.{tests_links}

-- a link may open if it has no association yet, and the operator lets it
abbrev pub may_open : Link → Bool
may_open l = not l.association && l.active

-- what a link that is down asks of its caller; it doesn't open while its changeover isn't complete, or while the answer
-- to its order is awaited
abbrev pub wanted_down : (restarts : Bool) → Link → Wants
wanted_down restarts l = if l.association then Close else if l.active && restarts then Open else Nothing

-- what a link asks of its caller
abbrev pub wanted_by : (restarts : Bool) → Link → Wants
wanted_by restarts l = if is_down l.alignment then wanted_down restarts l else Nothing

abbrev pub wanted : Parts → ℕ → Wants
wanted p link =
    if is_link p link then wanted_by (may_restart (changeover_of p link)) (link_at p link) else Nothing

-- a link whose association is gone
abbrev pub without_association : ℕ → Parts → Parts
without_association link p = with_link p link (record (link_at p link) { association = false })

-- a link that the operator lets open, with emergency proving or without it, or keeps from it
abbrev pub with_active : (active emergency : Bool) → ℕ → Parts → Parts
with_active active emergency link p =
    with_link p link (record (link_at p link) { active = active; emergency = emergency })

-- whether a link is in a hurry: the operator ordered emergency proving, or no other link of its set carries traffic
-- (Q.703 §7.1 leaves that to level 3)
abbrev pub is_urgent : Configuration → ℕ → Parts → Bool
is_urgent c link p = (link_at p link).emergency || not (has_other c link p)

-- how long a link is to be proved; always equally long, if the settings have no period of emergency
abbrev pub period_by : (l4e : Option ℕ) → (is_urgent : Bool) → Period
period_by None is_urgent = Fixed
period_by (Some ticks) true = Emergency
period_by (Some ticks) false = Normal

abbrev pub period_of : Configuration → ℕ → Parts → Period
period_of c link p = period_by c.timers.l4e (is_urgent c link p)

-- a link that opens; where links are tested, it has to pass a test before it carries traffic (Q.707 §2.2)
abbrev pub opened_by : Configuration → Period → Link → Link
opened_by c period l = record (opened c.out_of_service period l) { untested = tests_links c }

-- a link begins to align, with a period for its proving; if the settings say so, it tells first that it is out of
-- service (RFC 4165 §5.1)
abbrev pub begun_with : Configuration → ℕ → Period → Parts → Parts
begun_with c link period p = record p {
  links = links_with p link (opened_by c period (link_at p link));
  timers = timed c link (opening period) p.timers;
}

abbrev pub begun : Configuration → ℕ → Parts → Parts
begun c link p = begun_with c link (period_of c link p) p

module _ {Q : Type 0} (q : QueueKind Q) (c : Configuration) where
  -- a new epoch begins: the queue and its counts are empty, and the link isn't aligned yet
  abbrev pub open_link : ℕ → Node Q → Node Q
  open_link link node = record { queues = q.started node.queues link; parts = begun c link node.parts }

  -- an association comes up. A link refuses it if it has one, if the operator keeps it from opening, if its changeover
  -- isn't complete, or if the answer to its order is awaited
  abbrev pub association_up : ℕ → Node Q → Done Q
  association_up link node =
      unless is_link node.parts link then refuse NoSuchName node
      else unless may_open (link_at node.parts link) then refuse LinkNotReady node
      else unless may_restart (changeover_of node.parts link) then refuse ChangeoverPending node
      else answer Handled (open_link link node)

  -- a link that isn't down fails
  abbrev pub fail_if_up : ℕ → FailureReason → Node Q → Node Q
  fail_if_up link why node = if down node.parts link then node else fail q c link why node

  -- the node without the association of a link
  abbrev pub end_association : ℕ → Node Q → Node Q
  end_association link node = with_parts node (without_association link node.parts)

  -- an association goes down
  abbrev pub association_down : ℕ → Node Q → Done Q
  association_down link node =
      unless is_link node.parts link then refuse NoSuchName node
      else unless (link_at node.parts link).association then answer Ignored node
      else answer Handled (node ▷ fail_if_up link reasons.Association ▷ end_association link)

  -- the operator lets a link open whose answer is awaited, though its changeover is complete
  abbrev pub release_bar : ℕ → Node Q → Done Q
  release_bar link node =
      unless is_link node.parts link then refuse NoSuchName node
      else unless is_barred (changeover_of node.parts link) then answer Ignored node
      else answer Handled (with_parts node (unbarred link node.parts))

  -- the operator lets a link open, with emergency proving or without it, or keeps it from opening
  abbrev pub set_active : (active emergency : Bool) → ℕ → Node Q → Node Q
  set_active active emergency link node = with_parts node (with_active active emergency link node.parts)

  abbrev pub activate : (emergency : Bool) → ℕ → Node Q → Done Q
  activate emergency link node =
      unless is_link node.parts link then refuse NoSuchName node
      else answer Handled (set_active true emergency link node)

  -- a link that isn't down fails first
  abbrev pub deactivate : ℕ → Node Q → Done Q
  deactivate link node =
      unless is_link node.parts link then refuse NoSuchName node
      else answer Handled (node ▷ fail_if_up link reasons.Operator ▷ set_active false false link)
