-- Without a message nothing is brought in.
use Rattle.std.proofs.Common.{◌≡◌, ℕ, Bool, true, false, List, [], nat_eq, refl, ap, sym, ◌∙◌}
use Rattle.std.specs.Prelude.{if◌then◌else◌}
use Rattle.signalling_types.specs.Message.{Message}
use Rattle.m2pa_codec.specs.Frames.{read_frame}
use Rattle.exchange_rules.specs.Exchange.{after, outcome_of}
use Rattle.exchange_rules.specs.State.{FrameCame}
use Rattle.exchange.specs.KeptQueues.{kept}
use Rattle.exchange.specs.Calls.{Kept}
use Rattle.network_world.specs.Bringing.{kept_in_all, number_in}
use Rattle.network_world.specs.KeptSites.{accepted_number, newly_brought, message_in}

neither : (b : Bool) (ms : List Message) → (if b then ms else ms) ≡ ms
neither true ms = refl
neither false ms = refl

none-by : (b : Bool) (ms : List Message) → ms ≡ [] → (if b then [] else ms) ≡ []
none-by b ms e = ap (λ (xs : List Message). if b then [] else xs) e ∙ neither b []

pub none-brought : (link : ℕ) (text : List ℕ) (k : Kept) → message_in text ≡ [] → [] ≡ newly_brought link text k
none-brought link text k e =
    ap (λ (ms : List Message). kept_in_all (number_in (read_frame text)) k (after kept (FrameCame link text) k) (outcome_of kept (FrameCame link text) k) ms)
    (sym (none-by (nat_eq (accepted_number k link) (accepted_number (after kept (FrameCame link text) k) link)) (message_in text) e))
