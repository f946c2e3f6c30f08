-- TLAC, link availability control (Q.704 §3.2): a link begins to carry traffic, as it enters service or, where links
-- are tested, as its first test passes (Q.707 §2.2).
use Rattle.std.specs.Prelude.{ℕ, Bool, true, false, not, ◌&&◌}
use Rattle.settings.specs.Configuration.{Configuration}
use Rattle.routes.specs.Routes.{Facts}
use Rattle.exchange_rules.specs.State.{QueueKind, Parts, Node, with_parts}
use Rattle.exchange_rules.specs.Routing.{facts, set_of}
use Rattle.exchange_rules.specs.Rerouting.{with_set_reset}
use Rattle.exchange_rules.specs.ChangingOver.{has_other}
use Rattle.exchange_rules.specs.ChangingBack.{change_back}

-- if it is the first of its set, what is known over that set is reset
abbrev pub begun_anew_if : (is_first : Bool) → Configuration → ℕ → Parts → Parts
begun_anew_if true c link p = with_set_reset c (set_of c link) p
begun_anew_if false c link p = p

-- parts become others; if a link begins to carry traffic by this, it may be the first of its set
abbrev pub begun_anew : (begins : Bool) → Configuration → ℕ → (old new : Parts) → Parts
begun_anew begins c link old new = begun_anew_if (begins && not (has_other c link old)) c link new

module _ {Q : Type 0} (q : QueueKind Q) (c : Configuration) where
  -- a link that begins to carry traffic takes its flows back, by what was known of routes before
  abbrev pub return_if : (begins : Bool) → ℕ → (before : Facts) → Node Q → Node Q
  return_if true link before node = change_back q c link before node
  return_if false link before node = node

  -- parts become others; if a link begins to carry traffic by this, it may be the first of its set, and takes its flows
  -- back
  abbrev pub begin_traffic : (begins : Bool) → ℕ → (new : Parts) → Node Q → Node Q
  begin_traffic begins link new node =
      return_if begins link (facts c node.parts) (with_parts node (begun_anew begins c link node.parts new))
