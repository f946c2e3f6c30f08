-- Links that are in an outage, and how they stay so.
use Rattle.exchange_rules.proofs.Basics.{◌≡◌, ◌≢◌, ◌⊎◌, inl, inr, ◌<◌, ◌≤◌, ℕ, Bool, true, false, List, length, refl, sym, ◌∙◌, subst, arith, cases_lt, cases_eq, get_or_past, get_or-set_same, get_or-set_other, length-set, and_parts, and_from}
use Rattle.exchange_rules.proofs.Definitions.{Parts, Link, down_link, is_in_service, link_at, links_with, in_service, in_outage, after_failure}
use Rattle.exchange_rules.specs.LastingHolds.{WillPass}
use Rattle.node_links.specs.NodeLinks.{link_in}

pub no-way : {A : Type 0} (b : Bool) → b ≡ false → b ≡ true → A
no-way b e f = (let no : false ≡ true = sym e ∙ f in absurd cc)

-- ---- links that are in an outage

-- what holds of a link holds of it still, and an outage goes on
pub record LinkAs (x y : Link) : Type 0 where
  pub passes : WillPass x → WillPass y
  pub out : WillPass x → x.peer_outage ≡ true → y.peer_outage ≡ true

pub link-same : (x : Link) → LinkAs x x
link-same x = record { passes = λ h. h; out = λ h o. o }

pub link-both : (x y z : Link) → LinkAs x y → LinkAs y z → LinkAs x z
link-both x y z e f = record { passes = λ h. f.passes (e.passes h); out = λ h o. f.out (e.passes h) (e.out h o) }

pub links-same : (p q : Parts) → q.links ≡ p.links → (link : ℕ) → LinkAs (link_at p link) (link_at q link)
links-same p q e link = subst (λ (all : List Link). LinkAs (link_in p.links link) (link_in all link)) (sym e) (link-same (link_at p link))

-- one link changes
pub link-set : (p : Parts) (k : ℕ) (x : Link) → LinkAs (link_at p k) x → (link : ℕ) → LinkAs (link_at p link) (link_in (links_with p k x) link)
link-set p k x f link = by (cases_eq link k)
  where
    there : (k < length p.links) ⊎ (length p.links ≤ k) → LinkAs (link_in p.links k) (link_in (links_with p k x) k)
    there (inl l) = subst (LinkAs (link_at p k)) (sym (get_or-set_same p.links k x down_link l)) f
    there (inr l) =
        subst (LinkAs (link_at p k)) (get_or_past p.links k down_link l ∙ sym (get_or_past (links_with p k x) k down_link (omega (arith, l, length-set p.links k x)))) (link-same (link_at p k))

    by : (link ≡ k) ⊎ (link ≢ k) → LinkAs (link_in p.links link) (link_in (links_with p k x) link)
    by (inl same) = subst (λ (l : ℕ). LinkAs (link_in p.links l) (link_in (links_with p k x) l)) (sym same) (there (cases_lt k (length p.links)))
    by (inr apart) = subst (LinkAs (link_at p link)) (sym (get_or-set_other p.links k link x down_link apart)) (link-same (link_at p link))

-- a link that is in an outage still is in it
pub still-out : (p q : Parts) (link : ℕ) → LinkAs (link_at p link) (link_at q link) → WillPass (link_at p link) → in_outage p link ≡ true → in_outage q link ≡ true
still-out p q link e h out =
    let o : (link_at q link).peer_outage ≡ true = e.out h (and_parts (in_service p link) (link_at p link).peer_outage out).1 in
    and_from (in_service q link) (link_at q link).peer_outage (and_parts (in_service q link) (link_at q link).peer_busy ((e.passes h).watched o)).0 o

-- a link that isn't in service is in none, and may become another
pub idle-set : (x y : Link) → is_in_service x.alignment ≡ false → WillPass y → LinkAs x y
idle-set x y e h = record { passes = λ was. h; out = λ was o. no-way (is_in_service x.alignment) e (and_parts (is_in_service x.alignment) x.peer_busy (was.watched o)).0 }

-- no link is in an outage that failed, nor one that isn't there
pub failed-passes : (x : Link) → WillPass (after_failure x)
failed-passes x = record { watched = λ o. absurd cc; alone = λ e. refl }

pub none-passes : WillPass down_link
none-passes = record { watched = λ o. absurd cc; alone = λ e. refl }

pub fails-passes : (p : Parts) (link : ℕ) → WillPass (link_in (links_with p link (after_failure (link_at p link))) link)
fails-passes p link = by (cases_lt link (length p.links))
  where
    by : (link < length p.links) ⊎ (length p.links ≤ link) → WillPass (link_in (links_with p link (after_failure (link_at p link))) link)
    by (inl l) = subst WillPass (sym (get_or-set_same p.links link (after_failure (link_at p link)) down_link l)) (failed-passes (link_at p link))
    by (inr l) =
        subst WillPass (sym (get_or_past (links_with p link (after_failure (link_at p link))) link down_link (omega (arith, l, length-set p.links link (after_failure (link_at p link)))))) none-passes
