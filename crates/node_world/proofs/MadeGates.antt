-- The gates of a node are made one after another.
use Rattle.std.proofs.Common.{◌≡◌, ◌<◌, ◌≤◌, ◌+◌, ℕ, zero, suc, Bool, true, false, List, [], ◌∷◌, ◌++◌, None, drop, length, refl, ap, sym, subst, ◌∙◌, nat_lt, arith}
use Rattle.std.proofs.lemmas.Bool.Decides.{nat_tests}
use Rattle.std.proofs.lemmas.List.{append-nil, append_assoc}
use Rattle.std.specs.Prelude.{slice_get}
use Rattle.sctp_rules.specs.WrittenPackets.{HasPorts}
use Rattle.gate_rules.specs.Worlds.{GateMake}
use Rattle.node_world.specs.declared.making.GateMaking.{GateMaking}
use Rattle.node_world.specs.Kept.{KeptPort}
use Rattle.node_world.specs.Making.{gate_make_of, first_port, first_ports, HaveAllPorts, AreInOrder, AreAllInOrder}

abbrev IsAt : (GateMake → Type 0) → List GateMaking → ℕ → Type 0
IsAt P gates k = P (gate_make_of (slice_get gates k))

front-at : (gates : List GateMaking) (link i : ℕ) → link < length gates
    → first_ports i (drop link gates) ≡ first_port i (gate_make_of (slice_get gates link)) ∷ first_ports (i + 1) (drop (link + 1) gates)
front-at [] link i l = absurd (omega (arith, l))
front-at (x ∷ gates) zero i l = refl
front-at (x ∷ gates) (suc link) i l =
    let n : suc (link + 1) ≡ suc link + 1 = omega arith in
    front-at gates link i (omega (arith, l))
    ∙ ap (λ (k : ℕ). first_port i (gate_make_of (slice_get gates link)) ∷ first_ports (i + 1) (drop k (x ∷ gates))) n

drop-past : (gates : List GateMaking) (link : ℕ) → length gates ≤ link → drop link gates ≡ []
drop-past [] zero l = refl
drop-past [] (suc link) l = refl
drop-past (x ∷ gates) zero l = absurd (omega (arith, l))
drop-past (x ∷ gates) (suc link) l = drop-past gates link (omega (arith, l))

get-past : (gates : List GateMaking) (link : ℕ) → length gates ≤ link → slice_get gates link ≡ None
get-past [] link l = refl
get-past (x ∷ gates) zero l = absurd (omega (arith, l))
get-past (x ∷ gates) (suc link) l = get-past gates link (omega (arith, l))

pub ports-more : (gates : List GateMaking) (link : ℕ) (items : List KeptPort) (port : KeptPort) → link < length gates
    → port ≡ first_port link (gate_make_of (slice_get gates link)) → items ++ first_ports link (drop link gates) ≡ first_ports 0 gates
    → (items ++ port ∷ []) ++ first_ports (link + 1) (drop (link + 1) gates) ≡ first_ports 0 gates
ports-more gates link items port l is e =
    append_assoc items (port ∷ []) (first_ports (link + 1) (drop (link + 1) gates))
    ∙ ap (λ (x : KeptPort). items ++ x ∷ first_ports (link + 1) (drop (link + 1) gates)) is
    ∙ ap (λ (l : List KeptPort). items ++ l) (sym (front-at gates link link l)) ∙ e

-- what holds of each gate
have-by : (P : GateMake → Type 0) (b : Bool) (gates : List GateMaking) (link : ℕ) → IsAt P gates link → ((k : ℕ) → k < link → IsAt P gates k) → (k : ℕ) → k < link + 1
    → nat_lt k link ≡ b → IsAt P gates k
have-by P true gates link p h k l e = h k (grind (arith, nat_tests, e))
have-by P false gates link p h k l e =
    let same : link ≡ k = grind (arith, nat_tests, e, l) in
    subst (λ (i : ℕ). IsAt P gates i) same p

pub have-more : (P : GateMake → Type 0) (gates : List GateMaking) (link : ℕ) → IsAt P gates link → ((k : ℕ) → k < link → IsAt P gates k) → (k : ℕ) → k < link + 1 → IsAt P gates k
have-more P gates link p h k l = have-by P (nat_lt k link) gates link p h k l refl

pub ports-all : (gates : List GateMaking) (link : ℕ) (items : List KeptPort) → length gates ≤ link → items ++ first_ports link (drop link gates) ≡ first_ports 0 gates
    → items ≡ first_ports 0 gates
ports-all gates link items l e =
    sym (append-nil items) ∙ ap (λ (x : List GateMaking). items ++ first_ports link x) (sym (drop-past gates link l)) ∙ e

all-by : (P : GateMake → Type 0) → P (gate_make_of None) → (b : Bool) (gates : List GateMaking) (link : ℕ) → length gates ≤ link → ((k : ℕ) → k < link → IsAt P gates k)
    → (k : ℕ) → nat_lt k link ≡ b → IsAt P gates k
all-by P none true gates link l h k e = h k (grind (arith, nat_tests, e))
all-by P none false gates link l h k e =
    let past : length gates ≤ k = grind (arith, nat_tests, e, l) in
    subst (λ o. P (gate_make_of o)) (sym (get-past gates k past)) none

have-all : (P : GateMake → Type 0) → P (gate_make_of None) → (gates : List GateMaking) (link : ℕ) → length gates ≤ link → ((k : ℕ) → k < link → IsAt P gates k) → (k : ℕ) → IsAt P gates k
have-all P none gates link l h k = all-by P none (nat_lt k link) gates link l h k refl

pub ports-are : (gates : List GateMaking) (link : ℕ) → length gates ≤ link → ((k : ℕ) → k < link → HasPorts (gate_make_of (slice_get gates k)).settings) → HaveAllPorts gates
ports-are gates link l h = have-all (λ m. HasPorts m.settings) (record { own = omega arith; far = omega arith }) gates link l h

pub are-in-order : (gates : List GateMaking) (link : ℕ) → length gates ≤ link → ((k : ℕ) → k < link → AreInOrder (gate_make_of (slice_get gates k)).settings.bounds) → AreAllInOrder gates
are-in-order gates link l h =
    have-all (λ m. AreInOrder m.settings.bounds) (record { initial = omega arith; least = omega arith; most = omega arith }) gates link l h
