-- Cookies that come.
use Rattle.std.proofs.Common.{◌≡◌, ◌<◌, ◌-◌, ℕ, false, List, refl, subst, nat_eq}
use Rattle.std.proofs.lemmas.Bool.{lt-ltb}
use Rattle.sctp_cookie.specs.declared.cookie.Cookie.{Cookie}
use Rattle.sctp_rules.specs.declared.loss.Loss.TheVariants.{Restart}
use Rattle.sctp_rules.specs.Settings.{Address}
use Rattle.sctp_rules.specs.State.{Told, Done, followed_by}
use Rattle.sctp_rules.specs.Ending.{ended}
use Rattle.sctp_rules.specs.Opening.{stale, staleness}
use Rattle.sctp_bundling.specs.Watching.{Sent, Gives}
use Rattle.sctp_bundling.proofs.Giving.{given-behind}
use Rattle.sctp_endpoint.specs.Endpoints.{Endpoint, Does, secrets_of}
use Rattle.sctp_endpoint.specs.Hearing.{heard_another, heard_in_time}

pub stale-in-time : {W : Type 0} (has : W → List Sent → List Told → Type 0) (w v : W) (e : Endpoint) (source : Address) (now : ℕ) (cookie : Cookie)
    → nat_eq cookie.generation e.state.generation ≡ false → Gives has w v (stale e.settings source 1 cookie e.state)
    → Does has w v e e (heard_in_time e.settings (secrets_of e) now source cookie e.state).does
stale-in-time has w v e source now cookie other g = rw other (record { gives = g; left_is = refl })

pub stale-late : {W : Type 0} (has : W → List Sent → List Told → Type 0) (w v : W) (e : Endpoint) (source : Address) (now : ℕ) (cookie : Cookie) (n : ℕ)
    → n ≡ staleness now cookie → cookie.life < now - cookie.made → Gives has w v (stale e.settings source n cookie e.state)
    → Does has w v e e (heard_another e.settings (secrets_of e) now source cookie e.state).does
stale-late has w v e source now cookie n same late g =
    rw (lt-ltb cookie.life (now - cookie.made) late) (record {
      gives = subst (λ (m : ℕ). Gives has w v (stale e.settings source m cookie e.state)) same g;
      left_is = refl;
    })

pub lost-restarted : {W : Type 0} (has : W → List Sent → List Told → Type 0) (w v u : W) (e f : Endpoint) (source : Address) (cookie : Cookie)
    → Does has w v e f (ended e.settings Restart e.state) → Gives has v u (stale f.settings source 1 cookie f.state)
    → Does has w u e f (followed_by (ended e.settings Restart e.state) (stale e.settings source 1 cookie))
lost-restarted has w v u e f source cookie d g =
    let first : Done = ended e.settings Restart e.state in
    let second : Done = stale e.settings source 1 cookie first.left in
    let h : Gives has v u second = subst (λ (x : Endpoint). Gives has v u (stale x.settings source 1 cookie x.state)) d.left_is g in
    record { gives = given-behind has w v u first second d.gives h; left_is = d.left_is }
