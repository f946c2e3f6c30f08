-- What becomes of octets that come on an association in many pieces, however they were cut.
use Rattle.std.specs.Prelude.{◌≡◌, ℕ, List, [], ◌∷◌, ◌++◌, Result, Ok, IsErr}
use Rattle.std.specs.List.{concat}
use Rattle.m2pa_codec.specs.Streams.{next_in}
use Rattle.m2pa_codec.specs.declared.framer.Next.TheVariants.{Broken as BreaksOff}
use Rattle.exchange_rules.specs.State.{QueueKind, State}
use Rattle.served_link.specs.Watching.{Sight}
use Rattle.served_link.specs.Reading.{Reads}
use Rattle.served_link.specs.declared.association.Broken.{Broken}

-- the answer of a read that isn't Broken
abbrev pub unbroken : Result (Unit {0}) Broken
unbroken = Ok tt

-- these pieces were read, one after another, and none of the reads was Broken
abbrev pub ReadsEach : {W Q : Type 0} → (W → Sight → W → Type 0) → QueueKind Q → (link : ℕ)
    → (pieces : List (List ℕ)) → (held held_new : List ℕ) → (s s_new : State Q) → (w w_new : W) → Type 0
ReadsEach sees q link [] held held_new s s_new w w_new = (held_new ≡ held) × (s_new ≡ s) × (w_new ≡ w)
ReadsEach {W = W} {Q = Q} sees q link (piece ∷ pieces) held held_new s s_new w w_new =
    (held_next : List ℕ) × (s_next : State Q) × (w_next : W)
    × Reads sees q link piece unbroken held held_next s s_next w w_next
    × ReadsEach sees q link pieces held_next held_new s_next s_new w_next w_new

-- ---- the laws

-- however octets are cut into pieces: reads of these are, together, one read of all the octets
abbrev pub reads_are_one : {W Q : Type 0} → (W → Sight → W → Type 0) → QueueKind Q → Type 0
reads_are_one {W = W} {Q = Q} sees q = (link : ℕ) (pieces : List (List ℕ)) (held : List ℕ) (s s_new : State Q)
    (w w_new : W) → ReadsEach sees q link pieces [] held s s_new w w_new
    → Reads sees q link (concat pieces) unbroken [] held s s_new w w_new

-- they are so if the last of them is Broken
abbrev pub last_reads_are_one : {W Q : Type 0} → (W → Sight → W → Type 0) → QueueKind Q → Type 0
last_reads_are_one {W = W} {Q = Q} sees q = (link : ℕ) (pieces : List (List ℕ)) (last : List ℕ)
    (answer : Result (Unit {0}) Broken) (held held_new : List ℕ) (s t s_new : State Q) (w x w_new : W)
    → ReadsEach sees q link pieces [] held s t w x → Reads sees q link last answer held held_new t s_new x w_new
    → Reads sees q link (concat pieces ++ last) answer [] held_new s s_new w w_new

-- two ways of cutting the same octets hand in the same: the same state is left, and the same octets are held
abbrev pub cuts_do_not_matter : {W Q : Type 0} → (W → Sight → W → Type 0) → QueueKind Q → Type 0
cuts_do_not_matter {W = W} {Q = Q} sees q = (link : ℕ) (pieces others : List (List ℕ)) (held held_other : List ℕ)
    (s t u : State Q) (w x y : W) → concat pieces ≡ concat others → ReadsEach sees q link pieces [] held s t w x
    → ReadsEach sees q link others [] held_other s u w y → (t ≡ u) × (held ≡ held_other)

-- once a stream is broken, nothing is handed in: each read is Broken
abbrev pub broken_stays_broken : {W Q : Type 0} → (W → Sight → W → Type 0) → QueueKind Q → Type 0
broken_stays_broken {W = W} {Q = Q} sees q = (link : ℕ) (octets held held_new : List ℕ)
    (answer : Result (Unit {0}) Broken) (s s_new : State Q) (w w_new : W) → next_in held ≡ BreaksOff
    → Reads sees q link octets answer held held_new s s_new w w_new
    → IsErr answer × (next_in held_new ≡ BreaksOff) × (s_new ≡ s) × (w_new ≡ w)
