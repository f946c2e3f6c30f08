-- The other ends of links, as networks of either kind say them.
use Rattle.std.proofs.Common.{◌≡◌, ◌<◌, ◌≤◌, ◌^◌, ◌&&◌, ℕ, Bool, true, false, List, [], length, Option, Some, None, nat_lt, refl, ap, sym, subst, ◌∙◌, arith}
use Rattle.std.proofs.lemmas.Bool.Decides.{nat_tests}
use Rattle.std.proofs.lemmas.Option.{slice_get-get_or}
use Rattle.std.specs.Prelude.{is_some, slice_get}
use Rattle.std.specs.Option.{option_map}
use Rattle.settings.specs.Well.{IsWell}
use Rattle.settings.specs.Configuration.{Configuration, LinkEntry}
use Rattle.exchange_rules.specs.Messages.{link_with_code}
use Rattle.exchange_rules.specs.Routing.{adjacent_of, entry_of, peer_of}
use Rattle.node_moves.specs.Laws.{AreTheirs}
use Rattle.node_moves.specs.Networks as nodes
use Rattle.node_moves.specs.Networks.{IsNode, LinkEnd, is_node, points}
use Rattle.node_moves.proofs.Heard.{IsNamed, code-link}
use Rattle.network_rules.specs.Networks.{Place, first_network, other_end}
use Rattle.network_rules.specs.Totals.{IsPlaced, is_listed}
use Rattle.network_rules.proofs.Joined.{end_at, ends-are, place_of}
use Rattle.node_law.specs.Alike.{AreLinked}

-- an end, as `node_moves` says it
abbrev pub led : Option Place → Option LinkEnd
led None = None
led (Some there) = Some (record { point = there.point; link = there.link })

led-some : (o : Option Place) → is_some (led o) ≡ is_some o
led-some None = refl
led-some (Some there) = refl

led-map : (point : ℕ) (q : Option ℕ) → led (option_map (λ other. record { point = point; link = other }) q) ≡ option_map (λ other. record { point = point; link = other }) q
led-map point None = refl
led-map point (Some other) = refl

-- a node is where links are
links-there : (a n : ℕ) → (nat_lt a points && nat_lt 0 n) ≡ true → 0 < n
links-there a n e = by (nat_lt a points) (nat_lt 0 n) refl e
  where
    by : (p q : Bool) → nat_lt 0 n ≡ q → (p && q) ≡ true → 0 < n
    by true true f g = grind (arith, nat_tests, f)
    by true false f g = absurd cc
    by false q f g = absurd cc

is-there : (a n : ℕ) → a < 2 ^ 14 → 0 < n → (nat_lt a points && nat_lt 0 n) ≡ true
is-there a n fits some = grind (arith, nat_tests, fits, some)

module _ (settings : (point : ℕ) → Configuration) (numbers : List ℕ) (h : IsPlaced settings numbers) where
  pub node-listed : (point : ℕ) → IsNode settings point → is_listed numbers point ≡ true
  node-listed point fx = by (is_listed numbers point) refl
    where
      none-less : (k : ℕ) → 0 < k → k ≡ 0 → ⊥
      none-less k l e = omega (arith, l, e)

      by : (q : Bool) → is_listed numbers point ≡ q → q ≡ true
      by true e = refl
      by false e = absurd (none-less (length (settings point).links) (links-there point (length (settings point).links) fx) (ap length (h.others point e)))

  pub listed-node : (point : ℕ) → is_listed numbers point ≡ true → IsNode settings point
  listed-node point its =
      let well : IsWell (settings point) = h.well point its in
      is-there point (length (settings point).links) (subst (λ (k : ℕ). k < 2 ^ 14) (h.own point) well.own) (let some : 1 ≤ length (settings point).links = well.link_count.above in omega (arith, some))

  -- a point that has none has no links
  pub no-links : (point : ℕ) → is_node settings point ≡ false → (settings point).links ≡ []
  no-links point none = by (is_listed numbers point) refl
    where
      by : (q : Bool) → is_listed numbers point ≡ q → (settings point).links ≡ []
      by true e = (let clash : false ≡ true = sym none ∙ listed-node point e in absurd cc)
      by false e = h.others point e

  -- the other end of a link
  pub ends-agree : (point link : ℕ) → link < length (settings point).links → led (end_at settings point link) ≡ nodes.other_end settings point link
  ends-agree point link inside =
      let c : Configuration = settings point in
      let there : ℕ = peer_of c link in
      ap (λ (o : Option LinkEntry). led (place_of settings c o)) (slice_get-get_or c.links link (record { name = []; set = 0; slc = 0; share = None }) inside)
      ∙ led-map there (link_with_code (settings there) c.own (entry_of c link).slc)
      ∙ ap (λ (own : ℕ). option_map (λ other. record { point = there; link = other }) (link_with_code (settings there) own (entry_of c link).slc)) (h.own point)

  -- it is a link, of a node
  pub end-inside : (point link : ℕ) (there : Place) → end_at settings point link ≡ Some there → there.link < length (settings there.point).links
  end-inside point link there e = by (slice_get (settings point).links link) e
    where
      c : Configuration
      c = settings point

      found : (l : LinkEntry) (q : Option ℕ) → link_with_code (settings (adjacent_of c l.set)) c.own l.slc ≡ q
          → option_map (λ other. record { point = adjacent_of c l.set; link = other }) q ≡ Some there → there.link < length (settings there.point).links
      found l (Some other) g i =
          let named : IsNamed (settings (adjacent_of c l.set)) c.own l.slc other = code-link (settings (adjacent_of c l.set)) c.own l.slc other g in
          let same : record { point = adjacent_of c l.set; link = other } ≡ there = cc in
          subst (λ (p : Place). p.link < length (settings p.point).links) same named.inside
      found l None g i = absurd cc

      by : (o : Option LinkEntry) → place_of settings c o ≡ Some there → there.link < length (settings there.point).links
      by (Some l) g = found l (link_with_code (settings (adjacent_of c l.set)) c.own l.slc) refl g
      by None g = absurd cc

  pub end-node : (point link : ℕ) (there : Place) → end_at settings point link ≡ Some there → IsNode settings there.point
  end-node point link there e = by (is_node settings there.point) refl
    where
      none-less : (k l : ℕ) → k < l → l ≡ 0 → ⊥
      none-less k l less none = omega (arith, less, none)

      by : (q : Bool) → is_node settings there.point ≡ q → q ≡ true
      by true f = refl
      by false f = absurd (none-less there.link (length (settings there.point).links) (end-inside point link there e) (ap length (no-links there.point f)))

  -- what the laws of `node_moves` ask
  module _ (linked : AreLinked (first_network settings)) where
    pub linked-end : (point link : ℕ) → link < length (settings point).links → is_some (end_at settings point link) ≡ true
    linked-end point link inside = ap is_some (sym (ends-are settings (first_network settings) (λ k. refl) point link)) ∙ linked point link inside

    pub are-theirs : AreTheirs settings
    are-theirs = record {
      own = λ point fx. h.own point;
      well = λ point fx. h.well point (node-listed point fx);
      joined = λ point link fx inside. ap is_some (sym (ends-agree point link inside)) ∙ led-some (end_at settings point link) ∙ linked-end point link inside;
    }

  -- and those laws ask no less
  pub linked-of : AreTheirs settings → AreLinked (first_network settings)
  linked-of theirs point link inside = by (is_node settings point) refl
    where
      none-less : (k l : ℕ) → k < l → l ≡ 0 → ⊥
      none-less k l less none = omega (arith, less, none)

      by : (q : Bool) → is_node settings point ≡ q → is_some (other_end (first_network settings) point link) ≡ true
      by true fx =
          ap is_some (ends-are settings (first_network settings) (λ k. refl) point link)
          ∙ sym (led-some (end_at settings point link))
          ∙ ap is_some (ends-agree point link inside)
          ∙ theirs.joined point link fx inside
      by false none = absurd (none-less link (length (settings point).links) inside (ap length (no-links point none)))
