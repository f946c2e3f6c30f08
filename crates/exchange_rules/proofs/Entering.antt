-- What was known of routes before a link began to carry traffic.
use Rattle.exchange_rules.proofs.Basics.{◌≡◌, ℕ, Bool, true, false, ◌&&◌, not, List, refl, ap, ◌∙◌}
use Rattle.exchange_rules.proofs.Definitions.{Configuration, Link, Running, Facts, with_statuses_reset, chosen_link, Parts, links_with, in_traffic, sets_in, facts, set_of, has_other, begun_anew_if, begun_anew}
use Rattle.routes.specs.Routes.{with_link}
use Rattle.routes.proofs.Resetting.{reset_link}
use Rattle.node_links.proofs.Serving.{serving_without}

-- a link changes, and timers
abbrev pub relinked : (link : ℕ) → Link → Running → Parts → Parts
relinked link x r p = record p { links = links_with p link x; timers = r }

-- what was known of routes before, once the link that changed is taken out again
pub known_before : (c : Configuration) (link : ℕ) (x : Link) (r : Running) (p : Parts) → in_traffic p link ≡ false
    → with_link link false (facts c (relinked link x r p)) ≡ facts c p
known_before c link x r p e =
    ap (λ (serving : List Bool). record { sets = sets_in c; in_service = serving; routes = p.routes }) (serving_without p.links link x e)

-- once the link that began to carry traffic is taken out again, each flow takes the link that it took before, even if
-- what is known over its set was reset: then that set had no link
pub known_links : (c : Configuration) (link : ℕ) (x : Link) (r : Running) (p : Parts) (first : Bool) → in_traffic p link ≡ false
    → (first ≡ true → has_other c link p ≡ false) → (destination sls : ℕ)
    → chosen_link (with_link link false (facts c (begun_anew_if first c link (relinked link x r p)))) destination sls ≡ chosen_link (facts c p) destination sls
known_links c link x r p true e h destination sls =
    ap (λ (f : Facts). chosen_link (with_statuses_reset (set_of c link) f) destination sls) (known_before c link x r p e)
    ∙ reset_link (facts c p) (set_of c link) destination sls (h refl)
known_links c link x r p false e h destination sls = ap (λ (f : Facts). chosen_link f destination sls) (known_before c link x r p e)

pub was-without : (begins other : Bool) → (begins && not other) ≡ true → other ≡ false
was-without true false e = refl
was-without true true e = absurd cc
was-without false other e = absurd cc

pub known_begun : (c : Configuration) (begins : Bool) (link : ℕ) (x : Link) (r : Running) (p : Parts) → in_traffic p link ≡ false → (destination sls : ℕ)
    → chosen_link (with_link link false (facts c (begun_anew begins c link p (relinked link x r p)))) destination sls ≡ chosen_link (facts c p) destination sls
known_begun c begins link x r p e destination sls =
    known_links c link x r p (begins && not (has_other c link p)) e (was-without begins (has_other c link p)) destination sls

-- a link that enters service carried no traffic, and neither did one that passes its first test
pub entered-none : (after before untested : Bool) → ((after && not before) && not untested) ≡ true → (before && not untested) ≡ false
entered-none true false false e = refl
entered-none true false true e = absurd cc
entered-none true true untested e = absurd cc
entered-none false before untested e = absurd cc

pub passed-none : (serves untested : Bool) → (serves && untested) ≡ true → (serves && not untested) ≡ false
passed-none true true e = refl
passed-none true false e = absurd cc
passed-none false untested e = absurd cc
