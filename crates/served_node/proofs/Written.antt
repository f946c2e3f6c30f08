-- What is written once a line has been written.
use Rattle.std.proofs.Common.{◌≡◌, ◌++◌, ℕ, List, [], ◌∷◌, inl, inr, refl}
use Rattle.std.specs.Prelude.{Result, Ok, Err, OnOk, OnErr}
use Rattle.std.specs.Io.KnownBytes.{Appends}
use Rattle.script.specs.Streams.{Output, AppendsFirst, failures_after}
use Rattle.served_node.specs.Logging.{Writes}

pub written :
    {A E : Type 0} (result : Result A E) (octets : List ℕ) (old new : Output) →
    OnOk result (Appends old.written new.written octets) →
    OnErr result (AppendsFirst old.written new.written octets) →
    new.failures ≡ failures_after old.failures result → Writes octets old new
written (Ok x) octets old new all first failures = inl (failures, all)
written (Err e) octets old new all first failures = inr (failures, first)

-- a text in an empty buffer, and a line feed after it
pub ended :
    (text empty front line octets : List ℕ) →
    empty ≡ [] → front ≡ empty ++ text → line ≡ front ++ 10 ∷ [] → octets ≡ line → octets ≡ text ++ 10 ∷ []
ended text empty front line octets a b c d = rw (d, c, b, a) refl
