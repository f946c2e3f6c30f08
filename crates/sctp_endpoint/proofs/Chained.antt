-- One rule after another, by two calls.
use Rattle.std.proofs.Common.{◌≡◌, Bool, true, false, List, refl, ap, subst}
use Rattle.std.specs.Prelude.{if◌then◌else◌}
use Rattle.sctp_rules.specs.State.{Told, State, Done, silent, behind, followed_by}
use Rattle.sctp_rules.specs.Packets.{Handled}
use Rattle.sctp_bundling.specs.Watching.{Sent}
use Rattle.sctp_endpoint.specs.Endpoints.{Endpoint, Does}
use Rattle.sctp_endpoint.specs.Draining.{and_on}
use Rattle.sctp_bundling.proofs.Giving.{given-behind, given-none}

-- a rule that asks for the endpoint that the first one left
pub then-does : {W : Type 0} (has : W → List Sent → List Told → Type 0) (w v u : W) (e f g : Endpoint) (first : Done) (rule : Endpoint → Done)
    → Does has w v e f first → Does has v u f g (rule f)
    → Does has w u e g (behind first (rule (record e { state = first.left })))
then-does has w v u e f g first rule d h =
    let second : Done = rule (record e { state = first.left }) in
    let k : Does has v u (record e { state = first.left }) g second = subst (λ (x : Endpoint). Does has v u x g (rule x)) d.left_is h in
    record { gives = given-behind has w v u first second d.gives k.gives; left_is = k.left_is }

-- what is left to do from here leads to what is to be done from the start
abbrev pub LeadsTo : {W : Type 0} (has : W → List Sent → List Told → Type 0) (start here : W) (was is : Endpoint) (all rest : Done) → Type 0
LeadsTo {W = W} has start here was is all rest = (v : W) (u : Endpoint) → Does has here v is u rest → Does has start v was u all

pub if-on : (handled : Handled) (rest : State → Done) (goes_on : Bool) → handled.goes_on ≡ goes_on
    → and_on handled rest ≡ (if goes_on then followed_by handled.does rest else handled.does)
if-on handled rest goes_on e = ap (λ (b : Bool). if b then followed_by handled.does rest else handled.does) e

-- one more is done, and it goes on
pub leads-on : {W : Type 0} (has : W → List Sent → List Told → Type 0) (start w v : W) (was e f : Endpoint) (all : Done) (handled : Handled) (rule : Endpoint → Done)
    → LeadsTo has start w was e all (and_on handled (λ left. rule (record e { state = left })))
    → handled.goes_on ≡ true → Does has w v e f handled.does → LeadsTo has start v was f all (rule f)
leads-on has start w v was e f all handled rule leads goes d x u h =
    leads x u (rw (if-on handled (λ left. rule (record e { state = left })) true goes) (then-does has w v x e f u handled.does rule d h))

-- one more is done, and it stops
pub leads-out : {W : Type 0} (has : W → List Sent → List Told → Type 0) (start w v : W) (was e f : Endpoint) (all : Done) (handled : Handled) (rest : State → Done)
    → LeadsTo has start w was e all (and_on handled rest)
    → handled.goes_on ≡ false → Does has w v e f handled.does → Does has start v was f all
leads-out has start w v was e f all handled rest leads stops d = leads v f (rw (if-on handled rest false stops) d)

-- nothing is left to do
pub leads-home : {W : Type 0} (has : W → List Sent → List Told → Type 0) (start w : W) (was e : Endpoint) (all : Done)
    → LeadsTo has start w was e all (silent e.state) → Does has start w was e all
leads-home has start w was e all leads = leads w e (record {
  gives = given-none has w e.state;
  left_is = refl;
})
