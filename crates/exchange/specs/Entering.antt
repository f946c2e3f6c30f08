-- A link that began to carry traffic, by what is known then: without the link, everything is as it was before.
use Rattle.std.specs.Prelude.{ℕ, Bool, true, false, not}
use Rattle.settings.specs.Configuration.{Configuration}
use Rattle.routes.specs.Routes.{has_link, Facts, set_at, with_link}
use Rattle.exchange_rules.specs.State.{QueueKind, Parts, Node, with_parts, in_traffic}
use Rattle.exchange_rules.specs.Routing.{facts, set_of}
use Rattle.link.specs.declared.action.Action.{Action}
use Rattle.link.specs.declared.action.Action.TheVariants as act
use Rattle.exchange_rules.specs.Entering.{begun_anew_if}
use Rattle.exchange_rules.specs.Frames.{step_on}
use Rattle.exchange_rules.specs.ChangingBack.{change_back}
use Rattle.exchange_rules.specs.LinkTests.{begin_test}

-- whether no link of a set carries traffic
abbrev pub is_first_in : Facts → (set : ℕ) → Bool
is_first_in f set = not (has_link f.in_service (set_at f set))

-- if the link is the first of its set, what is known over that set is reset
abbrev pub begun_anew : Configuration → (link : ℕ) → Parts → Parts
begun_anew c link p = begun_anew_if (is_first_in (with_link link false (facts c p)) (set_of c link)) c link p

-- then it takes its flows back from the links that have them without it
abbrev pub taken_back : {Q : Type 0} → QueueKind Q → Configuration → (link : ℕ) → Node Q → Node Q
taken_back q c link node =
    let anew : Parts = begun_anew c link node.parts in
    change_back q c link (with_link link false (facts c anew)) (with_parts node anew)

-- if it carries traffic
abbrev pub taken_back_if : {Q : Type 0} → QueueKind Q → Configuration → (carries : Bool) → (link : ℕ) → Node Q → Node Q
taken_back_if q c true link node = taken_back q c link node
taken_back_if q c false link node = node

-- a link that entered service is tested after that
abbrev pub entered : {Q : Type 0} → QueueKind Q → Configuration → (link : ℕ) → Node Q → Node Q
entered q c link node = begin_test q c link (taken_back_if q c (in_traffic node.parts link) link node)

-- what a link's alignment does about an input, apart from an entry into service
abbrev pub stepped_by : {Q : Type 0} → Configuration → Action → ℕ → Node Q → Node Q
stepped_by c act.Ignored link node = node
stepped_by c act.Fail link node = node
stepped_by c (act.Go step) link node = with_parts node (step_on c link step node.parts)
