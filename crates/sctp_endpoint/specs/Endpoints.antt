-- An endpoint as a value: its settings and keys, and the state of the abstract endpoint.
use Rattle.std.specs.Prelude.{◌≡◌, ℕ, List}
use Rattle.sctp_rules.specs.Settings.{Settings, Secrets}
use Rattle.sctp_rules.specs.State.{State, Done, Told}
use Rattle.sctp_ends.specs.Keyed.{keyed}
use Rattle.sctp_bundling.specs.Watching.{Sent, Gives}

pub record Endpoint : Type 0 where
  pub settings : Settings
  -- the keys that tags are drawn under, and that cookies are signed under
  pub tag_key : List ℕ
  pub cookie_key : List ℕ
  pub state : State

-- what it draws and signs under its keys
abbrev pub secrets_of : Endpoint → Secrets
secrets_of e = keyed e.tag_key e.cookie_key

-- what a rule does to an endpoint, and gives out
pub record Does {W : Type 0} (has : W → List Sent → List Told → Type 0) (before after : W) (was is : Endpoint)
    (done : Done) : Type 0 where
  pub gives : Gives has before after done
  pub left_is : is ≡ record was { state = done.left }
