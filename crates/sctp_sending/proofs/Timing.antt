-- T3 expires for one message after another.
use Rattle.std.proofs.Common.{◌≡◌, ℕ, ◌+◌, ◌<◌, List, ◌++◌, length, take, drop, map, refl, ap, ◌∙◌, length-append, length-drop, arith}
use Rattle.std.proofs.lemmas.List.{length-map, length-take-le, get_or_default}
use Rattle.std.proofs.lemmas.List.Edits.{map_over_more}
use Rattle.sctp_sending.specs.Outgoing.{Outgoing, outgoing_at, timed_out}
use Rattle.sctp_sending.specs.Outbox.{Outbox, changed}
use Rattle.sctp_sending.proofs.Windows.{blank}

pub timed_out-more : (b old : Outbox) (i : ℕ) → b ≡ record { out = map timed_out (take i old.out) ++ drop i old.out; went = old.went } → i < length old.out
    → changed b i timed_out ≡ record { out = map timed_out (take (i + 1) old.out) ++ drop (i + 1) old.out; went = old.went }
timed_out-more b old i e h =
    let front = map timed_out (take i old.out) in
    let rest = drop i old.out in
    let wide = length-map (take i old.out) timed_out in
    let long = length-take-le i old.out (omega (arith, h)) in
    let within : i < length (front ++ rest) = omega (arith, h, wide, long, length-append front rest, length-drop i old.out) in
    let x = outgoing_at (front ++ rest) i in
    let one = map_over_more timed_out old.out (front ++ rest) i x h refl (get_or_default (front ++ rest) i blank x within) in
    let made : List Outgoing → Outbox = λ out. record { out = out; went = old.went } in
    ap (λ (o : Outbox). changed o i timed_out) e ∙ ap made one
