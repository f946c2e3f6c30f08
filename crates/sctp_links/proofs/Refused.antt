-- Why an endpoint refuses what begins with INIT or INIT ACK.
use Rattle.std.proofs.Common.{◌≡◌, ◌∙◌, ◌||◌, ℕ, Bool, true, if◌then◌else◌, List, Option, None, ap, sym}
use Rattle.std.specs.Option.{option_map}
use Rattle.sctp_codec.specs.Reading.{read_packet}
use Rattle.sctp_endpoint.specs.Endpoints.{secrets_of}
use Rattle.sctp_endpoint.specs.Refusing.{refusal}
use Rattle.sctp_endpoint.specs.declared.refusal.Refusal.{Refusal}
use Rattle.sctp_gate.specs.Gates.{Gate}
use Rattle.served_link.specs.declared.setback.Setback.{Setback}
use Rattle.sctp_links.specs.Counting.{refused_at}
use Rattle.sctp_links.specs.Screening.{is_init, is_init_ack}
use Rattle.sctp_links.specs.Setbacks.{setback_by}

pub refused : (octets : List ℕ) (g : Gate) (may : Bool) (why : Option Refusal) (setback : Option Setback)
    → may ≡ (is_init octets || is_init_ack octets) → may ≡ true
    → why ≡ refusal (read_packet octets) g.endpoint.settings (secrets_of g.endpoint) g.endpoint.state
    → setback ≡ option_map setback_by why
    → setback ≡ refused_at octets g
refused octets g may why setback is holds whys d =
    d
    ∙ ap (λ (r : Option Refusal). option_map setback_by r) whys
    ∙ ap (λ (b : Bool). if b then option_map setback_by (refusal (read_packet octets) g.endpoint.settings (secrets_of g.endpoint) g.endpoint.state) else None) (sym (sym is ∙ holds))
