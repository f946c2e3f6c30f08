-- If a link wants to open, its association comes up.
use Rattle.std.proofs.Common.{◌≡◌, ◌∙◌, ◌<◌, ℕ, arith, Bool, true, false, List, [], ◌∷◌, Option, Some, None, refl, ap, length}
use Rattle.std.specs.Prelude.{◌&&◌, not, slice_index_or, if◌then◌else◌}
use Rattle.std.proofs.lemmas.Bool.Decides.{nat_tests}
use Rattle.std.proofs.lemmas.List.{get_or-set_same}
use Rattle.signalling_types.specs.Message.{Message, flow_of}
use Rattle.signalling_types.specs.declared.cause.Cause.{Cause}
use Rattle.signalling_types.specs.declared.outcome.Outcome.TheVariants.{Handled}
use Rattle.exchange_rules.specs.declared.wants.Wants.TheVariants.{Nothing, Open, Close}
use Rattle.exchange_rules.specs.State.{QueueKind, Node, State, Done, CameUp, unless◌then◌else◌, answer, with_parts, is_link, link_at, links_with, down}
use Rattle.exchange_rules.specs.Routing.{link_of, no_room, waits, facts}
use Rattle.exchange_rules.specs.Telling as telling
use Rattle.exchange_rules.specs.Telling.{send, send_routed, route_message, told_parts, may_tell, tell_if, tell_each, tell_owed}
use Rattle.exchange_rules.specs.Opening.{open_link, association_up}
use Rattle.exchange_rules.specs.Exchange.{go_on, go_by, go, go_each, release, settled, apply, outcome_of, after, wants_of}
use Rattle.exchange_rules.proofs.Definitions.{Configuration, period_of, Owed, owed, may_restart, Link, is_down, opened_by, down_link, changeover_of}
use Rattle.sctp_gate.specs.Rising.{ComesUp}

module _ {Q : Type 0} (q : QueueKind Q) (c : Configuration) where
  -- ---- a release changes no link, nor does what adjacent points are told

  go_on-links : (link : Option ℕ) (m : Message) (n : Node Q) → (go_on q c link m n).parts.links ≡ n.parts.links
  go_on-links (Some link) m n = refl
  go_on-links None m n = refl

  go_by-links : (b : Bool) (m : Message) (n : Node Q) → (go_by q c b m n).parts.links ≡ n.parts.links
  go_by-links true m n = refl
  go_by-links false m n = go_on-links (link_of c n.parts (flow_of m)) m n

  go_each-links : (ms : List Message) (n : Node Q) → (go_each q c ms n).parts.links ≡ n.parts.links
  go_each-links [] n = refl
  go_each-links (m ∷ ms) n = go_each-links ms (go q c m n) ∙ go_by-links (waits c n.parts.holds m) m n

  release-links : (n : Node Q) → (release q c n).parts.links ≡ n.parts.links
  release-links n = go_each-links (q.held n.queues) (record n { queues = q.without_held n.queues })

  send-links : (room : Option Cause) (link : Option ℕ) (m : Message) (n : Node Q) → (send q c room link m n).parts.links ≡ n.parts.links
  send-links (Some cause) link m n = refl
  send-links None None m n = refl
  send-links None (Some link) m n = refl

  tell_if-links : (b : Bool) (o : Owed) (n : Node Q) → (if b then telling.tell q c o n else n).parts.links ≡ n.parts.links
  tell_if-links true o n =
      let m : Message = route_message c o.set o.destination o.status in
      let next : Node Q = with_parts n (told_parts c o n.parts) in
      send-links (no_room q c m n.queues) (link_of c next.parts (flow_of m)) m next
  tell_if-links false o n = refl

  tell_each-links : (os : List Owed) (n : Node Q) → (tell_each q c os n).parts.links ≡ n.parts.links
  tell_each-links [] n = refl
  tell_each-links (o ∷ os) n = tell_each-links os (tell_if q c o n) ∙ tell_if-links (may_tell q c n) o n

  tell_owed-links : (n : Node Q) → (tell_owed q c n).parts.links ≡ n.parts.links
  unfolding tell_owed
  tell_owed-links n = tell_each-links (owed (facts c n.parts) n.parts.told) n

  settled-links : (d : Done Q) → (settled q c d).left.parts.links ≡ d.left.parts.links
  settled-links d = tell_owed-links (release q c d.left) ∙ release-links d.left

-- ---- the link wants to open

record MayOpen (there down association active restarts : Bool) : Type 0 where
  is_there : there ≡ true
  has_none : association ≡ false
  is_active : active ≡ true
  may_restart : restarts ≡ true

may-open : (there down association active restarts : Bool)
    → (if there then (if down then (if association then Close else if active && restarts then Open else Nothing) else Nothing) else Nothing) ≡ Open
    → MayOpen there down association active restarts
may-open true true false true true e = record { is_there = refl; has_none = refl; is_active = refl; may_restart = refl }
may-open true true false true false e = absurd cc
may-open true true false false restarts e = absurd cc
may-open true true true active restarts e = absurd cc
may-open true false association active restarts e = absurd cc
may-open false down association active restarts e = absurd cc

goes-on : {A : Type 0} (there association active restarts : Bool) (refused not_ready pending opens : A) → there ≡ true → association ≡ false → active ≡ true → restarts ≡ true
    → (unless there then refused else (unless (not association && active) then not_ready else (unless restarts then pending else opens))) ≡ opens
goes-on true false true true refused not_ready pending opens a b d e = refl
goes-on true false true false refused not_ready pending opens a b d e = absurd cc
goes-on true false false restarts refused not_ready pending opens a b d e = absurd cc
goes-on true true active restarts refused not_ready pending opens a b d e = absurd cc
goes-on false association active restarts refused not_ready pending opens a b d e = absurd cc

module _ {Q : Type 0} (q : QueueKind Q) (link : ℕ) (s : State Q) (wants : wants_of s link ≡ Open) where
  may : MayOpen (is_link s.node.parts link) (down s.node.parts link) (link_at s.node.parts link).association (link_at s.node.parts link).active
      (may_restart (changeover_of s.node.parts link))
  may =
      may-open (is_link s.node.parts link) (down s.node.parts link) (link_at s.node.parts link).association (link_at s.node.parts link).active
      (may_restart (changeover_of s.node.parts link)) wants

  opens : association_up q s.settings link s.node ≡ answer Handled (open_link q s.settings link s.node)
  opens =
      goes-on (is_link s.node.parts link) (link_at s.node.parts link).association (link_at s.node.parts link).active (may_restart (changeover_of s.node.parts link)) _ _ _ _
      may.is_there may.has_none may.is_active may.may_restart

  links : (after q (CameUp link) s).node.parts.links ≡ links_with s.node.parts link (opened_by s.settings (period_of s.settings link s.node.parts) (link_at s.node.parts link))
  unfolding apply
  links =
      settled-links q s.settings (association_up q s.settings link s.node)
      ∙ ap (λ (d : Done Q). d.left.parts.links) opens

  here : link_at (after q (CameUp link) s).node.parts link ≡ opened_by s.settings (period_of s.settings link s.node.parts) (link_at s.node.parts link)
  here =
      let there : link < length s.node.parts.links = (let t = may.is_there in grind (arith, nat_tests, t)) in
      ap (λ (ls : List Link). slice_index_or ls link down_link) links
      ∙ get_or-set_same s.node.parts.links link (opened_by s.settings (period_of s.settings link s.node.parts) (link_at s.node.parts link)) down_link there

  handled : outcome_of q (CameUp link) s ≡ Handled
  unfolding apply
  handled = ap (λ (d : Done Q). d.outcome) opens

  pub comes-up : ComesUp q link s
  comes-up = record {
    wants = wants;
    outcome = handled;
    has_one = ap (λ (l : Link). l.association) here;
    not_down = ap (λ (l : Link). is_down l.alignment) here;
  }
